use Rattle.std.proofs.Common.{◌≡◌, true, sym, ◌∙◌}
use Rattle.sg_pool.specs.Pool.{has_ended}
use Rattle.sg_pool.proofs.Pools.{first_ones, all_of_them}
use Rattle.sg_pool.proofs.finishing.have_all_ended.Goals as goal

pub loop-job-preserved : goal.loop-job-preserved
loop-job-preserved g c = first_ones (λ j. has_ended j.doing ≡ true) c.args.jobs.now c.loop-job.job-index c.job-item.result c.loop-job-test.true c.job-item.is (sym c.has_ended.ensures ∙ c.if-not-has_ended.false) c.loop-job.invariant

pub returns : goal.returns
returns g c = λ _. all_of_them (λ j. has_ended j.doing ≡ true) c.args.jobs.now c.loop-job.job-index c.loop-job-test.false c.loop-job.invariant
