use Rattle.std.proofs.Common.{◌∙◌}
use Rattle.sg_pool.proofs.Pools.{map_set}
use Rattle.sg_pool.proofs.finishing.step_each.Goals as goal

pub loop-i-preserved : goal.loop-i-preserved
loop-i-preserved g c = map_set (λ j. g.K.Place.Seat.number j.seat) c.loop-i.jobs.items c.loop-i.i c.index_mut.result.now c.step_job.new.job c.index_mut.ensures.value c.step_job.ensures.number ∙ c.loop-i.invariant
