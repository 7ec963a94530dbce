use Rattle.std.proofs.Common.{◌≡◌, ◌++◌, [], length}
use Rattle.std.specs.Vec.Iter.{into_iter_items, into_iter_len}
use Rattle.sg_state.specs.View.{Gives}
use Rattle.sg_state.proofs.opened.add_given.Given as goal

abbrev pub invariant-loop-s : goal.invariant-loop-s
invariant-loop-s g l =
    (l.yielded ++ into_iter_items l.s-iterator ≡ into_iter_items l.initial.s-iterator)
    × Gives l.initial.places.entries l.places.entries [] [] l.yielded []
    × (into_iter_len l.s-iterator ≡ length (into_iter_items l.s-iterator))
