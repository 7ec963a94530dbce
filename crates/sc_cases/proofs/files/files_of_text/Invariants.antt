use Rattle.sc_io.specs.FileList.{files_of}
use Rattle.sc_io.specs.SourceTree.{HasDistinctPaths}
use Rattle.sc_cases.proofs.files.files_of_text.Given as goal

abbrev pub invariant-loop-file : goal.invariant-loop-file
invariant-loop-file l = HasDistinctPaths (files_of l.files.items)
