-- What the runs of a folder's checkers come to, whatever the order of their steps.
use Rattle.std.specs.Prelude.{ℕ, List, ◌⊎◌, ◌↔◌, length}
use Rattle.std.specs.List.{Contains}
use Rattle.sg_core.specs.declared.phase.Phase.TheVariants.{Ended, Stuck}
use Rattle.sg_core.specs.Core.{EndedWith, IsPhase, run}
use Rattle.jv_diag.specs.Plain.{DiagOf}
use Rattle.jv_instance.specs.Data.{is_wanted}
use Rattle.jv_unit.specs.Folder.{FolderOf, IsFolderOf}
use Rattle.sc_app.specs.CircularLines.{AreLinesBelow}
use Rattle.sc_app.specs.FolderReport.{Reports}
use Rattle.sc_app.specs.FolderRun.{JavaCore, IsFolderRun, ruled, same_datum}

-- a run that is over comes to these diagnostics: to all results of its units where it has ended, and else to a line for each type whose header waits
abbrev pub Leads : FolderOf → JavaCore → List DiagOf → Type 0
Leads w c ds =
    (IsPhase (run is_wanted same_datum c) Ended × ((d : DiagOf) → ((u : ℕ) × (x : List DiagOf) × EndedWith c.log u x × Contains x d) ↔ (Contains ds d)))
    ⊎ (IsPhase (run is_wanted same_datum c) Stuck × AreLinesBelow w c (length w.layout.types) ds)

-- these are the report of the rules, which looks at no run
abbrev pub RunsLeadToReports : Type 0
RunsLeadToReports = (w : FolderOf) (c : JavaCore) (ds : List DiagOf) → IsFolderOf w → IsFolderRun w c → Leads w c ds → Reports (ruled w) ds

-- so two runs of a folder's checkers come to the same, in whatever orders these step
abbrev pub EveryOrderReportsTheSame : Type 0
EveryOrderReportsTheSame =
    (w : FolderOf) (c other : JavaCore) (ds es : List DiagOf) → IsFolderOf w → IsFolderRun w c → IsFolderRun w other → Leads w c ds → Leads w other es
    → (d : DiagOf) → (Contains ds d) ↔ (Contains es d)
