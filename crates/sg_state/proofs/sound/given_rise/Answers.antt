use Rattle.std.proofs.Common.{arith}
use Rattle.std.specs.Cmp.{on_total}
use Rattle.std.specs.Ordering.{on}
use Rattle.sg_base.specs.Scope.{scope_cmp, scope_total}
use Rattle.sg_state.proofs.RisingLists.{rises_map}
use Rattle.sg_state.proofs.Soundness.{rises_by}
use Rattle.sg_state.proofs.sound.given_rise.Goals as goal

pub returns : goal.returns
returns g c = λ _.
    rises_map (on (λ p. p.0) scope_cmp) scope_cmp (λ p. p.0) (λ a b e. e) c.args.given.now
    (rises_by (on (λ p. p.0) scope_cmp) (on_total (λ p. p.0) scope_total) c.args.given.now (λ k d lt. c.loop-i.invariant k d (omega (arith, lt, c.loop-i-test.false))))
