use Rattle.std.proofs.Common.{subst}
use Rattle.sg_pool.specs.Pool.{IsOver}
use Rattle.sg_pool.proofs.finishing.finish.Goals as goal

pub returns-then-is_some_stuck-clause-over : goal.returns-then-is_some_stuck-clause-over
returns-then-is_some_stuck-clause-over g c = subst (λ l. IsOver l) c.as_slice-in-loop-2.ensures.value (c.is_some_stuck.ensures c.if-is_some_stuck.true)
