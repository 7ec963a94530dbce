-- What a run hands back beside its status.
use Rattle.std.specs.Prelude.{◌≡◌, ◌⊎◌, ℕ, List, length, map, Option, None, Some, IfSome}
use Rattle.std.specs.Arc.{arc_value}
use Rattle.std.specs.declared.sync.Arc.{Arc}
use Rattle.std.specs.declared.alloc.Global.{Global}
use Rattle.sg_core.specs.declared.phase.Phase.TheVariants.{Ended, Stuck}
use Rattle.sg_core.specs.Core.{IsPhase, run}
use Rattle.jv_diag.specs.Plain.{diag_of}
use Rattle.jv_instance.specs.Data.{is_wanted}
use Rattle.jv_unit.specs.declared.folder.Folder.{Folder}
use Rattle.sc_io.specs.Sink.{AddsAll}
use Rattle.sc_io.specs.SourceFile.{sources_of}
use Rattle.sc_io.specs.SourceTree.{FileOf}
use Rattle.sc_listing.specs.Answers.{IsAnswersText}
use Rattle.sc_listing.specs.Graph.{graph_text}
use Rattle.sc_listing.specs.Titles.{ListedOf}
use Rattle.sc_report.specs.Report.{report_text}
use Rattle.sc_app.specs.declared.command.Command.{Command}
use Rattle.sc_app.specs.declared.command.Command.TheVariants.{Check, Answers, Graph, Gen}
use Rattle.sc_app.specs.declared.outcome.Outcome.{Outcome}
use Rattle.sc_app.specs.declared.ran.Ran.{Ran}
use Rattle.sc_app.specs.declared.report.Report.{Report}
use Rattle.sc_app.specs.declared.status.Status.{Status}
use Rattle.sc_app.specs.declared.status.Status.TheVariants.{Clean, Found, Usage, ReadFault, WriteFault, Limit, OutOfMemory}
use Rattle.sc_app.specs.Command.{Asks}
use Rattle.sc_app.specs.FolderRun.{JavaCore, same_datum}
use Rattle.sc_app.specs.Outcome.{IsOutcomeOf}
use Rattle.sc_app.specs.Sourced.{AreSources}
use Rattle.sc_app.specs.Statuses.{status_of}
use Rattle.sc_app.specs.Told.{files_for}

-- the bytes of an outcome's report
abbrev pub outcome_text : Outcome → List ℕ
outcome_text o = report_text (sources_of o.sources.items) (map diag_of o.diags.items) o.types

-- ---- what a command shows of an outcome

-- what is listed of a folder's layout and names, with these sources
abbrev pub listed_by : Folder → List FileOf → ListedOf
listed_by w ss = record { layout = w.layout; names = w.names; files = ss }

-- of an outcome, a folder and the core of the run of its checkers: a listing where all of them have ended, and else the report
abbrev pub ShowsRun : (ListedOf → JavaCore → List ℕ → Type 0) → Outcome → Folder → JavaCore → List ℕ → Type 0
ShowsRun L o w c bytes =
    (IsPhase (run is_wanted same_datum c) Ended × L (listed_by w (sources_of o.sources.items)) c bytes) ⊎ (IsPhase (run is_wanted same_datum c) Stuck × (bytes ≡ outcome_text o))

-- a listing where all checkers have ended, and else the report
abbrev pub ShowsListing : (ListedOf → JavaCore → List ℕ → Type 0) → Outcome → Option (Arc Folder Global) → Option JavaCore → List ℕ → Type 0
ShowsListing L o (Some w) (Some c) bytes = ShowsRun L o (arc_value w) c bytes
ShowsListing L o None c bytes = bytes ≡ outcome_text o
ShowsListing L o (Some w) None bytes = bytes ≡ outcome_text o

-- the report; the graph of the core; or the answers in its log
abbrev pub Shows : Command → Outcome → List ℕ → Type 0
Shows Check o bytes = bytes ≡ outcome_text o
Shows (Gen n) o bytes = bytes ≡ outcome_text o
Shows Graph o bytes = ShowsListing (λ l c text. text ≡ graph_text l (run is_wanted same_datum c).held.graph) o o.folder o.core bytes
Shows Answers o bytes = ShowsListing (λ l c text. IsAnswersText l c.log text) o o.folder o.core bytes

-- these bytes with this status are what a command shows of an outcome, which is that of these sources
pub record IsShownOf (c : Command) (ss : List FileOf) (o : Outcome) (text : List ℕ) (end : Status) : Type 0 where
  pub outcome : IsOutcomeOf ss o
  pub bytes : Shows c o text
  pub status : end ≡ status_of (length o.diags.items)

-- what has this status is no report
abbrev pub IsNoReport : Status → Type 0
IsNoReport Clean = ⊥
IsNoReport Found = ⊥
IsNoReport Usage = Unit {0}
IsNoReport ReadFault = Unit {0}
IsNoReport WriteFault = Unit {0}
IsNoReport (Limit which) = Unit {0}
IsNoReport OutOfMemory = Unit {0}

-- an outcome stands beside what is shown of these sources, and beside nothing else
abbrev pub IsBeside : Command → List FileOf → Option Outcome → List ℕ → Status → Type 0
IsBeside c ss None bytes status = IsNoReport status
IsBeside c ss (Some o) bytes status = IsShownOf c ss o bytes status

-- the same, where the sources are those that the command looks at in a folder, if that is told
abbrev pub IsBesideIn : Command → Option (List FileOf) → Option Outcome → List ℕ → Status → Type 0
IsBesideIn c files None bytes status = IsNoReport status
IsBesideIn c files (Some o) bytes status = (ss : List FileOf) × IfSome files (λ fs. AreSources (files_for c fs) ss) × IsShownOf c ss o bytes status

-- an outcome is handed back exactly where all that is shown of it was written
abbrev pub HandsBack : Command → Option (List FileOf) → Option Outcome → Status → Option (List ℕ) → Option (List ℕ) → Type 0
HandsBack c files None status before after = IsNoReport status
HandsBack c files (Some o) status before after = (bytes : List ℕ) × IsBesideIn c files (Some o) bytes status × AddsAll before bytes after

-- a run hands an outcome back so for each command that the words ask for
abbrev pub HandsBackAsked : List (List ℕ) → Option (List FileOf) → Ran → Option (List ℕ) → Option (List ℕ) → Type 0
HandsBackAsked words files ran before after =
    (c : Command) (workers : Option ℕ) → Asks words c workers → HandsBack c files ran.outcome ran.status before after

-- and so it does where a report was put, for each command and folder of which the report's outcome stands beside its bytes
abbrev pub HandsBackReport : Report → Ran → Option (List ℕ) → Option (List ℕ) → Type 0
HandsBackReport report ran before after =
    (c : Command) (files : Option (List FileOf)) → IsBesideIn c files report.outcome report.bytes.items report.status → HandsBack c files ran.outcome ran.status before after
