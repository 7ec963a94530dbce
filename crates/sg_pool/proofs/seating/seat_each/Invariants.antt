use Rattle.std.proofs.Common.{◌≡◌, ◌+◌, ◌≤◌, ◌++◌, All, false, length, map, reverse, vec_len}
use Rattle.std.specs.Prelude.{vec_capacity}
use Rattle.sg_pool.proofs.seating.seat_each.Given as goal

abbrev pub invariant-loop-unit : goal.invariant-loop-unit
invariant-loop-unit g l = record {
  count : length l.seats.items ≡ length l.units.items;
  units : l.units.items ++ map (λ x. x.unit) (reverse l.team.items) ≡ l.fn.units.items;
  seats : l.seats.items ++ map (λ x. x.seat) (reverse l.team.items) ≡ l.fn.seats.items;
  going : All (λ x. x.failed ≡ false) l.team.items;
  room : length l.units.items + length l.team.items ≤ vec_capacity l.team;
}

abbrev pub decreases-loop-unit : goal.decreases-loop-unit
decreases-loop-unit g l = vec_len l.units
