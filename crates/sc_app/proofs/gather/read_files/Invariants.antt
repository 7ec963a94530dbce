use Rattle.std.proofs.Common.{◌≡◌, ◌+◌, ◌≤◌, IfSome, None, length, map, string_bytes}
use Rattle.std.specs.Vec.Iter.{into_iter_items, into_iter_len}
use Rattle.sc_io.specs.SourceFile.{sources_of}
use Rattle.sc_app.specs.Sourced.{passed_from}
use Rattle.sc_app.proofs.Limits.{sizes}
use Rattle.sc_app.proofs.Sourcing.{IsFront}
use Rattle.sc_app.proofs.gather.read_files.Given as goal

abbrev pub invariant-loop-path : goal.invariant-loop-path
invariant-loop-path g l =
    (g.T.SourceTree.files l.tree ≡ g.T.SourceTree.files l.initial.tree)
    × (g.T.SourceTree.faults l.initial.tree ≤ g.T.SourceTree.faults l.tree)
    × IfSome (g.T.SourceTree.files l.tree) (IsFront (sources_of l.files.items) (map string_bytes (into_iter_items l.path-iterator)))
    × (l.total ≡ sizes (sources_of l.files.items))
    × (passed_from 0 (sources_of l.files.items) ≡ None)
    × (length (sources_of l.files.items) + length (into_iter_items l.path-iterator) ≤ 4096)
    × (into_iter_len l.path-iterator ≡ length (into_iter_items l.path-iterator))
