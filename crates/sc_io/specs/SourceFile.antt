-- Sources that were read, as files.
use Rattle.std.specs.Prelude.{List, map, string_bytes}
use Rattle.sc_io.specs.declared.source_file.SourceFile.{SourceFile}
use Rattle.sc_io.specs.SourceTree.{FileOf}

-- the file that a source is
abbrev pub source_of : SourceFile → FileOf
source_of s = record { path = string_bytes s.path; bytes = s.bytes.items }

-- the files that sources are, in the same order
abbrev pub sources_of : List SourceFile → List FileOf
sources_of ss = map source_of ss
