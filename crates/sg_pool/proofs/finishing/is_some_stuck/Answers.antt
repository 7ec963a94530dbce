use Rattle.std.proofs.Common.{inr, sym, ◌∙◌}
use Rattle.sg_pool.proofs.finishing.is_some_stuck.Goals as goal

pub returns-then-is_stuck : goal.returns-then-is_stuck
returns-then-is_stuck g c = λ _. inr (c.job-item.result, (c.loop-job.job-index, c.loop-job-test.true, sym c.job-item.is), sym c.is_stuck.ensures ∙ c.if-is_stuck.true)
