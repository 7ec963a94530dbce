use Rattle.std.proofs.Common.{◌≡◌, ◌+◌, ◌++◌, length, reverse}
use Rattle.std.specs.Prelude.{vec_capacity}
use Rattle.sg_core.proofs.taking_back.take_back.Given as goal

abbrev pub invariant-loop-n : goal.invariant-loop-n
invariant-loop-n g l = record {
  left : length l.log.items + l._n ≡ length l.fn.log.items + l.before;
  all : l.log.items ++ reverse l.events.items ≡ l.fn.log.items;
  room : vec_capacity l.events ≡ vec_capacity l.fn.events;
}
