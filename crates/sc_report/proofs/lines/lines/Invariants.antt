use Rattle.std.proofs.Common.{◌≡◌, map, take}
use Rattle.std.specs.List.{flat_map}
use Rattle.jv_diag.specs.Plain.{diag_of}
use Rattle.sc_io.specs.SourceFile.{sources_of}
use Rattle.sc_report.specs.Report.{line_of_diag}
use Rattle.sc_report.specs.Walk.{IsWalkIn}
use Rattle.sc_report.proofs.lines.lines.Given as goal

abbrev pub invariant-loop-d : goal.invariant-loop-d
invariant-loop-d l =
    IsWalkIn (sources_of l.files) l.walk
    × (l.text.items ≡ flat_map (line_of_diag (sources_of l.files)) (map diag_of (take l.d-index l.diags)))
