use Rattle.std.proofs.Common.{◌≡◌, map}
use Rattle.sg_board.specs.Places.{counting}
use Rattle.sg_board_tests.proofs.tests.links.Given as goal

abbrev pub invariant-loop-number : goal.invariant-loop-number
invariant-loop-number l = map (λ k. k.number) l.list.items ≡ counting 0 l.number
