-- How far a walk through sources went.
use Rattle.std.specs.Prelude.{List}
use Rattle.jv_lex.specs.Place.{IsPlace}
use Rattle.sc_io.specs.SourceTree.{FileOf}
use Rattle.sc_report.specs.declared.walk.Walk.{Walk}
use Rattle.sc_report.specs.Report.{file_of}

-- the walk stands at a place of its file
abbrev pub IsWalkIn : List FileOf → Walk → Type 0
IsWalkIn fs w = IsPlace (file_of fs w.file).bytes w.place
