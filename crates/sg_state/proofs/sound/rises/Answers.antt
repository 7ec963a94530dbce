use Rattle.std.proofs.Common.{arith}
use Rattle.sg_base.specs.Scope.{scope_cmp, scope_total}
use Rattle.sg_state.proofs.Soundness.{rises_by}
use Rattle.sg_state.proofs.sound.rises.Goals as goal

pub returns : goal.returns
returns c = λ _. rises_by scope_cmp scope_total c.args.scopes.now (λ k d lt. c.loop-i.invariant k d (omega (arith, lt, c.loop-i-test.false)))
