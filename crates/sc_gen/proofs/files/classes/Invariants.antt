use Rattle.std.proofs.Common.{◌≡◌, map}
use Rattle.std.specs.List.{range_with_len}
use Rattle.sc_io.specs.SourceFile.{sources_of}
use Rattle.sc_gen.specs.Project.{class_file}
use Rattle.sc_gen.proofs.files.classes.Given as goal

abbrev pub invariant-loop-i : goal.invariant-loop-i
invariant-loop-i l = sources_of l.files.items ≡ map class_file (range_with_len 0 l.i)
