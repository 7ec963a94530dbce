use Rattle.std.proofs.Common.{arith}
use Rattle.sg_base.specs.State.{IsUnset}
use Rattle.sg_state.specs.Held.{HoldsRow, state_of}
use Rattle.sg_state.proofs.Extending.{unset_to}
use Rattle.sg_core.proofs.Unheld.{one_more, none_holds}
use Rattle.sg_core.proofs.idle.is_idle_at.Goals as goal

pub loop-label-preserved : goal.loop-label-preserved
loop-label-preserved g c =
    one_more (λ u k. HoldsRow c.args.held.now u c.args.s k) c.loop-label.label c.holders.result.now c.loop-label.invariant (rw c.new.ensures at c.holders.ensures.exact) c.if-not-is_empty.ensures

pub returns : goal.returns
returns g c = λ t. (
  (λ u k lt m. c.loop-label.invariant u k (omega (arith, lt, c.loop-label-test.false)) m),
  (λ u m. none_holds c.datum_holder.result c.is_none.result (IsUnset (state_of c.args.held.now) c.args.s) c.is_none.ensures t c.datum_holder.ensures.none (unset_to c.args.held.now u c.args.s m)),
)
