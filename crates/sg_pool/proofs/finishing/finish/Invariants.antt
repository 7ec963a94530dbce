use Rattle.std.proofs.Common.{◌≡◌, map, length}
use Rattle.sg_board.specs.Places.{counting}
use Rattle.sg_pool.proofs.finishing.finish.Given as goal

abbrev pub invariant-loop : goal.invariant-loop
invariant-loop g l = map (λ j. g.K.Place.Seat.number j.seat) l.jobs.items ≡ counting 0 (length g.N.Site.start)
