use Rattle.std.proofs.Common.{◌≡◌, ◌≢◌, ◌<◌, ◌⊎◌, inl, inr, get_or, arith, ◌∙◌, get_or-set_other}
use Rattle.std.proofs.lemmas.Bool.{cases_lt}
use Rattle.std.proofs.lemmas.Nat.Bits.{shr_and_one}
use Rattle.sg_order.specs.Order.{RowHas}
use Rattle.sg_order.proofs.RowLemmas.{row_joined, row_kept, bit_from_test, no_row_past}
use Rattle.sg_order.proofs.relation.add.Goals as goal
use Rattle.sg_order.proofs.relation.add.Goals.{then-i-from, then-i-from-via-then-i-from, then-i-from-via-else-i-from+then-rows-i-eq1, else-i-from+else-rows-i-eq1}

pub returns : goal.returns
returns c i j =
    elim (cases_lt i 17) [
      | inl l ↦ c.loop-i.invariant.done i j (omega arith)
      | inr far ↦ (
        (λ h. absurd (no_row_past c.loop-i.rows i j c.loop-i.invariant.size far h)),
        (λ h. elim h [
          | inl p ↦ absurd (no_row_past c.args.rows.now i j c.told-rows far p)
          | inr p ↦ elim p.0 [
            | inl e ↦ absurd (omega arith)
            | inr b ↦ absurd (no_row_past c.args.rows.now i c.args.from c.told-rows far b)
          ]
        ]),
      )
    ]

pub loop-i-preserved : goal.loop-i-preserved
loop-i-preserved c =
    let same : get_or c.loop-i.rows c.loop-i.i 0 ≡ get_or c.args.rows.now c.loop-i.i 0 = c.loop-i.invariant.rest c.loop-i.i (omega arith) in
    let fits : c.args.to < 32 = omega arith in
    elim c.if-i-from.branch [
      | then-i-from w ↦
          let hit : (c.loop-i.i ≡ c.args.from) ⊎ RowHas c.args.rows.now c.loop-i.i c.args.from =
          elim w.then-i-from.branch [
            | then-i-from-via-then-i-from v ↦ inl v.if-i-from.true
            | then-i-from-via-else-i-from+then-rows-i-eq1 v ↦ inr (rw same at (bit_from_test (get_or c.loop-i.rows c.loop-i.i 0) c.args.from v.if-rows-i-eq1.true))
          ] in
          record {
            size = c.if-i-from.array_long;
            rest = λ k l. let apart : k ≢ c.loop-i.i = omega arith in rw w.rows-is (rw get_or-set_other (c.loop-i.invariant.rest k (omega arith)));
            done = rw w.rows-is (row_joined c.args.rows.now c.loop-i.rows c.args.from c.args.to c.loop-i.i fits c.loop-i.invariant.size c.loop-i-test.true same c.loop-i.invariant.done hit);
          }
      | else-i-from+else-rows-i-eq1 w ↦
          let miss : (c.loop-i.i ≡ c.args.from) ⊎ RowHas c.args.rows.now c.loop-i.i c.args.from → ⊥ =
          λ h. elim h [
            | inl e ↦ w.if-i-from.false e
            | inr b ↦ w.if-rows-i-eq1.false (shr_and_one (get_or c.loop-i.rows c.loop-i.i 0) c.args.from ∙ (rw (← same) at b))
          ] in
          record {
            size = c.if-i-from.array_long;
            rest = λ k l. rw w.rows-is (c.loop-i.invariant.rest k (omega arith));
            done = rw w.rows-is (row_kept c.args.rows.now c.loop-i.rows c.args.from c.args.to c.loop-i.i fits c.loop-i.invariant.size c.loop-i-test.true same c.loop-i.invariant.done miss);
          }
    ]
