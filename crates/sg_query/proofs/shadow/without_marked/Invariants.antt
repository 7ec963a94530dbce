use Rattle.std.proofs.Common.{◌≡◌, ◌+◌, ◌++◌, drop, length}
use Rattle.std.specs.Vec.Iter.{into_iter_items, into_iter_len}
use Rattle.sg_query.specs.Marks.{unmarked}
use Rattle.sg_query.proofs.shadow.without_marked.Given as goal

abbrev pub invariant-loop-found : goal.invariant-loop-found
invariant-loop-found g l =
    (l.kept.items ++ unmarked (into_iter_items l.found-iterator) (drop l.place l.marks) ≡ unmarked (into_iter_items l.initial.found-iterator) l.marks)
    × (l.place + length (into_iter_items l.found-iterator) ≡ length l.marks)
    × (into_iter_len l.found-iterator ≡ length (into_iter_items l.found-iterator))
