-- The statuses of reports.
use Rattle.std.specs.Prelude.{ℕ, zero, suc}
use Rattle.sc_app.specs.declared.status.Status.{Status}
use Rattle.sc_app.specs.declared.status.Status.TheVariants.{Clean, Found, Usage, ReadFault, WriteFault, Limit, OutOfMemory}

-- a report without errors is clean
abbrev pub status_of : ℕ → Status
status_of zero = Clean
status_of (suc n) = Found

-- the exit status
abbrev pub code_of : Status → ℕ
code_of Clean = 0
code_of Found = 1
code_of Usage = 2
code_of ReadFault = 3
code_of WriteFault = 4
code_of (Limit which) = 5
code_of OutOfMemory = 6

-- the status of a report, or of a limit that is passed
abbrev pub IsReportStatus : Status → Type 0
IsReportStatus Clean = Unit {0}
IsReportStatus Found = Unit {0}
IsReportStatus Usage = ⊥
IsReportStatus ReadFault = ⊥
IsReportStatus WriteFault = ⊥
IsReportStatus (Limit which) = Unit {0}
IsReportStatus OutOfMemory = ⊥
