use Rattle.std.proofs.Common.{◌≡◌, subst, sym, ap, ◌∙◌, slice_index, get_or, length, arith}
use Rattle.sg_expr.specs.Laying.{AreLive}
use Rattle.sg_expr.specs.Positions.{PositionsOf}
use Rattle.sg_expr.proofs.Stepping.{Meets, meets, apart, more_then, more_else, all_heads}
use Rattle.sg_expr.proofs.positions.Positions.heads.Goals as goal
use Rattle.sg_expr.proofs.positions.Positions.heads.Goals.{then-set-self-ne0, else-set-self-ne0}

pub loop-number-preserved : goal.loop-number-preserved
loop-number-preserved c =
    let p = c.args.self.now in
    let k = c.loop-number.number in
    let places : c.self.inside.places ≡ p.places = ap (λ (q : PositionsOf). q.places) c.self.view_is in
    let here : get_or c.self.inside.places c.from.result 0 ≡ slice_index p.places k = cc in
    elim c.if-set-self-ne0.branch [
      | then-set-self-ne0 w ↦
          let met = meets c.args.set (slice_index p.places k) c.ranges.set.fits (rw here at w.if-set-self-ne0.true) in
          let grown = rw w.new.ensures at w.with-labels.ensures in
          rw w.labels-is (more_then c.loop-number.labels w.with-labels.result k (λ m. Meets c.args.set (slice_index p.places m)) c.loop-number.invariant grown met)
      | else-set-self-ne0 w ↦
          let none = apart c.args.set (slice_index p.places k) (rw here at w.if-set-self-ne0.false) in
          rw w.labels-is (more_else c.loop-number.labels k (λ m. Meets c.args.set (slice_index p.places m)) c.loop-number.invariant none)
    ]

pub returns : goal.returns
returns c =
    let live = subst AreLive c.self.view_is c.self.invariant.2 in
    let places : c.self.inside.places ≡ c.args.self.now.places = ap (λ (q : PositionsOf). q.places) c.self.view_is in
    let size : length c.args.self.now.places ≡ 16 = sym (ap length places) ∙ c.self.invariant.0 in
    all_heads c.args.self.now c.args.set c.loop-number.labels c.loop-number.number (omega arith) live c.loop-number.invariant
