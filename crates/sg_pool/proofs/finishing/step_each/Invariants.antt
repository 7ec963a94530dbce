use Rattle.std.proofs.Common.{◌≡◌, map}
use Rattle.sg_pool.proofs.finishing.step_each.Given as goal

abbrev pub invariant-loop-i : goal.invariant-loop-i
invariant-loop-i g l = map (λ j. g.K.Place.Seat.number j.seat) l.jobs.items ≡ map (λ j. g.K.Place.Seat.number j.seat) l.fn.jobs.items
