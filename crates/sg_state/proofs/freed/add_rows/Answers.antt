use Rattle.std.proofs.Common.{◌≡◌, ◌+◌, [], arith, true}
use Rattle.sg_state.specs.declared.need.Need.TheVariants.{Row}
use Rattle.sg_state.specs.Freed.{IsFreeBelow}
use Rattle.sg_state.proofs.FreeNeeds.{adds_none, adds_push, adds_same, none_below, one_below, other_below, before_row}
use Rattle.sg_state.proofs.freed.add_rows.Goals as goal
use Rattle.sg_state.proofs.freed.add_rows.Goals.{then-is_row_alone+in_ok-push, else-is_row_alone}

pub loop-label-init : goal.loop-label-init
loop-label-init g c = adds_none c.args.needs.now.items [] (IsFreeBelow c.args.place.now c.args.unit c.args.s 0) (IsFreeBelow c.args.place.now c.args.unit c.args.s 0) c.requires.rising (none_below c.args.place.now c.args.unit c.args.s)

pub loop-label-preserved : goal.loop-label-preserved
loop-label-preserved g c =
    let p = c.args.place.now in
    let k = c.loop-label.label in
    let old = IsFreeBelow p c.args.unit c.args.s k in
    let new = IsFreeBelow p c.args.unit c.args.s (k + 1) in
    elim c.if-is_row_alone.branch [
      | then-is_row_alone+in_ok-push w ↦
          rw (w.needs-is, w.in_ok-push.ensures.items, c.new-l.ensures)
          (adds_push c.args.needs.now.items c.loop-label.needs.items old new (Row c.args.s k) c.loop-label.invariant
          (before_row p c.args.unit c.args.s k c.args.needs.now.items c.loop-label.needs.items c.requires.before c.loop-label.invariant) (one_below p c.args.unit c.args.s k (c.is_row_alone.ensures.0 w.if-is_row_alone.true)))
      | else-is_row_alone w ↦
          rw w.needs-is (adds_same c.args.needs.now.items c.loop-label.needs.items old new c.loop-label.invariant
          (other_below p c.args.unit c.args.s k (λ a. (let t : c.is_row_alone.result ≡ true = c.is_row_alone.ensures.1 a in cc))))
    ]

pub returns : goal.returns
returns g c = record { ok = adds_same c.args.needs.now.items c.loop-label.needs.items (IsFreeBelow c.args.place.now c.args.unit c.args.s c.loop-label.label) (IsFreeBelow c.args.place.now c.args.unit c.args.s 16) c.loop-label.invariant (let e : c.loop-label.label ≡ 16 = omega (arith, c.loop-label-test.false, c.loop-label.auto.label-end) in rw e (λ n. ((λ a. a), (λ a. a)))) }
