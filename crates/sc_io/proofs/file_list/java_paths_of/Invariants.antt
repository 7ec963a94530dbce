use Rattle.std.proofs.Common.{map, string_bytes, take}
use Rattle.sc_io.specs.FileList.{files_of}
use Rattle.sc_io.specs.SourceTree.{ListsSources}
use Rattle.sc_io.proofs.file_list.java_paths_of.Given as goal

abbrev pub invariant-loop-path : goal.invariant-loop-path
invariant-loop-path l = ListsSources (files_of (take l.path-index l.files)) (map string_bytes l.paths.items)
