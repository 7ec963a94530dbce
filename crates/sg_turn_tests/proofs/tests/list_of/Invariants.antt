use Rattle.std.proofs.Common.{◌≡◌, All, length}
use Rattle.sg_turn_tests.proofs.tests.list_of.Given as goal

abbrev pub invariant-loop-index : goal.invariant-loop-index
invariant-loop-index l = record {
  count : length l.notes.items ≡ l.index;
  all : All (λ e. e.0 ≡ l.number) l.notes.items;
}
