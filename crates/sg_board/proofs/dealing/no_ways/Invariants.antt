use Rattle.std.proofs.Common.{◌≡◌, All, [], vec_len}
use Rattle.sg_board.specs.Shares.{AreNew}
use Rattle.sg_board.proofs.dealing.no_ways.Given as goal

abbrev pub invariant-loop-worker : goal.invariant-loop-worker
invariant-loop-worker g l = record {
  all : All (λ w. AreNew [] w.items) l.all_ways.items;
  count : vec_len l.all_ways ≡ l._worker;
}
