use Rattle.std.proofs.Common.{◌≡◌, ◌+◌, ◌≤◌, ◌++◌, List, All, false, length, map, reverse, vec_len}
use Rattle.std.specs.Prelude.{vec_capacity}
use Rattle.sg_pool.specs.Driving.{RunningOf}
use Rattle.sg_pool.specs.Pool.{IsKept}
use Rattle.sg_pool.proofs.finishing.into_seats.Given as goal

abbrev pub invariant-loop-job : goal.invariant-loop-job
invariant-loop-job g l = record {
  seats : map (λ j. j.seat) l.left.items ++ reverse l.seats.items ≡ map (λ j. j.seat) l.fn.jobs.items;
  going : All (λ j. j.failed ≡ false) l.left.items;
  done : List (RunningOf _ _);
  whole : l.left.items ++ done ≡ l.fn.jobs.items;
  kept : All (IsKept g.U.Inst.Instance.wants g.U.Inst.Instance.same_datum g.U.Unit.opening g.U.Unit.kinds g.U.Unit.owes_edge g.U.Unit.owes_datum g.U.Unit.may_ask g.U.Unit.comes_to g.U.Unit.number g.U.Unit.fixed g.U.Unit.stands g.K.Place.Seat.number g.K.Place.Seat.mine g.K.Place.Seat.spent g.K.Place.Seat.opening g.K.Place.Seat.kinds g.K.Desk.sits g.N.Site.desk g.N.Site.start) done;
  room : length l.left.items + length l.seats.items ≤ vec_capacity l.seats;
}

abbrev pub decreases-loop-job : goal.decreases-loop-job
decreases-loop-job g l = vec_len l.left
