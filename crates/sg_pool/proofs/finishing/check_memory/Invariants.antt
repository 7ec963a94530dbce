use Rattle.std.proofs.Common.{◌≡◌, All, take, false}
use Rattle.sg_pool.proofs.finishing.check_memory.Given as goal

abbrev pub invariant-loop-job : goal.invariant-loop-job
invariant-loop-job g l = All (λ j. j.failed ≡ false) (take l.job-index l.jobs)
