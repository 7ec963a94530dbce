use Rattle.std.proofs.Common.{map, take}
use Rattle.std.specs.List.{Contains}
use Rattle.sc_io.specs.FileList.{files_of}
use Rattle.sc_cases.proofs.DistinctPaths.{path_of}
use Rattle.sc_cases.proofs.files.has_path.Given as goal

abbrev pub invariant-loop-other : goal.invariant-loop-other
invariant-loop-other l = Contains (map path_of (files_of (take l.other-index l.files))) l.path → ⊥
