use Rattle.std.proofs.Common.{◌≡◌, All, take, true}
use Rattle.sg_pool.specs.Pool.{has_ended}
use Rattle.sg_pool.proofs.finishing.have_all_ended.Given as goal

abbrev pub invariant-loop-job : goal.invariant-loop-job
invariant-loop-job g l = All (λ j. has_ended j.doing ≡ true) (take l.job-index l.jobs)
