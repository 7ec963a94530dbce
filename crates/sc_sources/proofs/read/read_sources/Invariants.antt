use Rattle.sc_sources.specs.Reading.{IsReading}
use Rattle.sc_sources.proofs.Folders.{first_sources}
use Rattle.sc_sources.proofs.read.read_sources.Given as goal

abbrev pub invariant-loop-file : goal.invariant-loop-file
invariant-loop-file l = IsReading (first_sources l.files l.file-index) l.reading
