-- Laws of the runs of a folder's checkers: whatever the order of their steps, they come to what the rules say.
use Rattle.std.specs.Prelude.{◌≡◌, ℕ, ◌+◌, ◌-◌, ◌<◌, nat_lt, Bool, false, List, ◌++◌, length, ◌↔◌, ◌⊎◌}
use Rattle.std.specs.List.{Contains}
use Rattle.sg_base.specs.declared.scope.Scope.{Scope}
use Rattle.sg_base.specs.Graph.{GraphOf}
use Rattle.sg_core.specs.declared.phase.Phase.TheVariants.{Ended, Stuck}
use Rattle.sg_core.specs.Core.{EndedWith, IsPhase, run, setting}
use Rattle.sg_headers.specs.Orderly.{MayAskSignatures}
use Rattle.sg_headers.specs.Outcome.{Leaves, is_closed}
use Rattle.sg_headers.specs.Setting.{AreOrderly, Roles}
use Rattle.sg_query.specs.declared.query.Query.{Query}
use Rattle.sg_reading.specs.Reading.{Needs}
use Rattle.sg_state.specs.declared.need.Need.TheVariants.{Row}
use Rattle.sg_state.specs.Held.{HoldsRow}
use Rattle.sg_strata.specs.Program.{state_with}
use Rattle.sg_unit.specs.declared.op.Op.{Op}
use Rattle.sg_unit.specs.declared.op.Op.TheVariants.{Fresh, AddEdge, SetDatum, CloseRow, Ask, Advance, Take, End}
use Rattle.sg_unit.specs.Orderly.{Did, IsOrderly, WasTold}
use Rattle.sg_unit.specs.Own.{own}
use Rattle.sg_unit.specs.Trace.{Past, told}
use Rattle.sg_unit.specs.Waiting.{WaitsOn}
use Rattle.jv_diag.specs.Plain.{DiagOf}
use Rattle.jv_instance.specs.declared.datum.JavaDatum.{JavaDatum}
use Rattle.jv_instance.specs.declared.java.Java.{Java}
use Rattle.jv_instance.specs.declared.labels.TheConstants.{EXT}
use Rattle.jv_instance.specs.declared.pred.JavaPred.{JavaPred}
use Rattle.jv_instance.specs.Data.{is_wanted}
use Rattle.jv_layout.specs.Folder.{LayoutOf}
use Rattle.jv_layout.specs.Readers.{types_of}
use Rattle.jv_layout.specs.Scopes.{first_type, type_scope}
use Rattle.jv_header.specs.Circular.{IsCircular}
use Rattle.jv_header.specs.Header.{header_rule}
use Rattle.jv_header.specs.Law.{AsksForOwn}
use Rattle.jv_unit.specs.Folder.{FolderOf, IsFolderOf}
use Rattle.jv_unit.specs.Trees.{decl_at, extends_of, implements_of}
use Rattle.sc_app.specs.FolderGraph.{IsSkeleton, IsWhole, headers_of}
use Rattle.sc_app.specs.FolderReport.{Rules, SaysCircular}
use Rattle.sc_app.specs.FolderRun.{JavaCore, IsFolderRun, ruled, same_datum}

-- which unit reads which: the unit of a type reads its header, and the units of files give imports
abbrev pub roles_of : LayoutOf → Roles (Query JavaPred) JavaPred
roles_of l = record { query = λ q. q; reader = λ c. length l.files + (c.serial - first_type l); imports = λ u. nat_lt u (length l.files) }

-- the types whose supertypes are all there at the end of a run
abbrev pub closed_in : JavaCore → Scope → Bool
closed_in c = is_closed (run is_wanted same_datum c).held EXT

-- at the end of a run the types whose rows are closed are the greatest stratified set over the skeleton, and the units of all others wait in their headers
abbrev pub LeavesGreatest : FolderOf → JavaCore → GraphOf JavaDatum → (Scope → List Scope) → Type 0
LeavesGreatest w c g row =
    IsSkeleton (ruled w) g × Leaves (headers_of (ruled w) g) (setting is_wanted same_datum c) (roles_of w.layout) (run is_wanted same_datum c) (closed_in c) row

-- each run of a folder leaves the greatest set, over some graph and with some rows
abbrev pub FolderRunsLeaveGreatest : Type 0
FolderRunsLeaveGreatest =
    (w : FolderOf) (c : JavaCore) → IsFolderOf w → IsFolderRun w c → (g : GraphOf JavaDatum) × (row : Scope → List Scope) × LeavesGreatest w c g row

-- a run is stuck exactly where some type's supertypes are not all there
abbrev pub FolderRunsAreStuckByHeaders : Type 0
FolderRunsAreStuckByHeaders =
    (w : FolderOf) (c : JavaCore) → IsFolderOf w → IsFolderRun w c
    → (IsPhase (run is_wanted same_datum c) Stuck) ↔ ((s : Scope) × Contains (types_of w.layout) s × (closed_in c s ≡ false))

-- the units of a folder are orderly, over the skeleton: that of a type asks its header's queries in turn, each once, until it has closed the row of its supertypes,
-- to which it adds what the header gives; that of a file adds its imports alone, and asks what is settled from the start until it has closed its rows
abbrev pub FolderRunsAreOrderly : Type 0
FolderRunsAreOrderly =
    (w : FolderOf) (c : JavaCore) (g : GraphOf JavaDatum) → IsFolderOf w → IsFolderRun w c → IsSkeleton (ruled w) g
    → AreOrderly (headers_of (ruled w) g) (setting is_wanted same_datum c) (roles_of w.layout) c.log

-- what the unit of a file may ask: until it has closed the rows that it holds, what a package declares under a name
abbrev pub MayAskForOwn : JavaCore → ℕ → Past Java (List DiagOf) JavaDatum JavaPred → Op Java (List DiagOf) JavaDatum JavaPred → Type 0
MayAskForOwn c u past (Fresh labels datum) = Unit {0}
MayAskForOwn c u past (AddEdge from label to) = Unit {0}
MayAskForOwn c u past (SetDatum s d) = Unit {0}
MayAskForOwn c u past (CloseRow s l) = Unit {0}
MayAskForOwn c u past (Ask q) = (s : Scope) (l : ℕ) → HoldsRow (setting is_wanted same_datum c).opening u s l → Did past (CloseRow s l) ⊎ AsksForOwn q
MayAskForOwn c u past Advance = Unit {0}
MayAskForOwn c u past Take = Unit {0}
MayAskForOwn c u past (End x) = Unit {0}

-- so do the units of all files of a folder
abbrev pub FilesAskForOwn : Type 0
FilesAskForOwn =
    (w : FolderOf) (c : JavaCore) → IsFolderOf w → IsFolderRun w c
    → (u : ℕ) → u < length w.layout.files → IsOrderly (MayAskForOwn c u) (told (own u c.log)).past (told (own u c.log)).last

-- the unit with a number asks a query that looks at signatures only when all signatures that it holds are set
abbrev pub AsksSignaturesLast : FolderOf → JavaCore → GraphOf JavaDatum → ℕ → Type 0
AsksSignaturesLast w c g u =
    IsOrderly (MayAskSignatures (headers_of (ruled w) g) (setting is_wanted same_datum c) u) (told (own u c.log)).past (told (own u c.log)).last

-- so do all units of a folder, over the skeleton
abbrev pub FolderRunsAskSignaturesLast : Type 0
FolderRunsAskSignaturesLast =
    (w : FolderOf) (c : JavaCore) (g : GraphOf JavaDatum) → IsFolderOf w → IsFolderRun w c → IsSkeleton (ruled w) g
    → (u : ℕ) → u < length w.layout.files + length w.layout.types → AsksSignaturesLast w c g u

-- the graph at the end of a run
abbrev pub last_graph : JavaCore → GraphOf JavaDatum
last_graph c = (run is_wanted same_datum c).held.graph

-- a run that has ended left the whole graph, and came to the diagnostics of the rules in it
abbrev pub EndedRunsReport : Type 0
EndedRunsReport =
    (w : FolderOf) (c : JavaCore) → IsFolderOf w → IsFolderRun w c → IsPhase (run is_wanted same_datum c) Ended
    → IsWhole (ruled w) (last_graph c) × ((d : DiagOf) → ((u : ℕ) × (x : List DiagOf) × EndedWith c.log u x × Contains x d) ↔ (Rules (ruled w) (last_graph c) d))

-- what the unit of the type with a number gave and was told
abbrev pub past_of : FolderOf → JavaCore → ℕ → Past Java (List DiagOf) JavaDatum JavaPred
past_of w c t = (told (own (length w.layout.files + t) c.log)).past

-- the supertypes' rows for which the unit of the type with a number waits
abbrev pub AwaitsRow : FolderOf → JavaCore → ℕ → Scope → Type 0
AwaitsRow w c t s = WaitsOn (setting is_wanted same_datum c) (run is_wanted same_datum c) (length w.layout.files + t) (Row s EXT)

-- where the row of a type is open, its header comes by what its unit was told to a query without an answer, some row is needed, and what is said of it by
-- what its unit was told is what is said of it by the greatest stratified set
pub record IsHeldByHeaders (w : FolderOf) (c : JavaCore) (g : GraphOf JavaDatum) (row : Scope → List Scope) (t : ℕ) : Type 0 where
  pub query : Query JavaPred
  pub needs : Needs (WasTold (past_of w c t)) (header_rule w.layout w.names (type_scope w.layout t) (extends_of (decl_at w.files t)) (implements_of (decl_at w.files t))) query
  pub some : (s : Scope) × AwaitsRow w c t s
  pub says : (needed : List Scope) (d : DiagOf) → ((s : Scope) → (Contains needed s) ↔ (AwaitsRow w c t s))
      → IsCircular (WasTold (past_of w c t)) w.layout w.names (type_scope w.layout t) (extends_of (decl_at w.files t) ++ implements_of (decl_at w.files t)) needed d
      → SaysCircular (ruled w) g (state_with (headers_of (ruled w) g) (closed_in c) row) (type_scope w.layout t) d

-- where a run left the greatest set, each type whose row is not closed is held by its header in this way
abbrev pub StuckRunsReport : Type 0
StuckRunsReport =
    (w : FolderOf) (c : JavaCore) (g : GraphOf JavaDatum) (row : Scope → List Scope) (t : ℕ) → IsFolderOf w → IsFolderRun w c → LeavesGreatest w c g row
    → t < length w.layout.types → closed_in c (type_scope w.layout t) ≡ false → IsHeldByHeaders w c g row t
