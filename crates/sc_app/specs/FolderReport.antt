-- What a folder's report says, by the rules alone.
use Rattle.std.specs.Prelude.{◌≡◌, ℕ, ◌+◌, ◌<◌, ◌^◌, Bool, false, List, ◌++◌, length, ◌↔◌}
use Rattle.std.specs.List.{Contains}
use Rattle.sg_base.specs.declared.scope.Scope.{Scope}
use Rattle.sg_base.specs.Graph.{GraphOf}
use Rattle.sg_base.specs.State.{State}
use Rattle.sg_query.specs.declared.query.Query.{Query}
use Rattle.sg_reading.specs.Reading.{Gives}
use Rattle.sg_strata.specs.Program.{AnswersSettled, IsFirstOpen, IsNeeded, state_with}
use Rattle.sg_strata.specs.Strata.{IsGreatest}
use Rattle.jv_diag.specs.Plain.{DiagOf}
use Rattle.jv_instance.specs.declared.datum.JavaDatum.{JavaDatum}
use Rattle.jv_instance.specs.declared.pred.JavaPred.{JavaPred}
use Rattle.jv_layout.specs.Folder.{layout_of}
use Rattle.jv_layout.specs.Linked.{IsLinked}
use Rattle.jv_layout.specs.Readers.{types_of}
use Rattle.jv_layout.specs.Scopes.{scope_count}
use Rattle.jv_names.specs.Law.{InGraph}
use Rattle.jv_header.specs.Circular.{IsCircular}
use Rattle.jv_tree.specs.DeclTree.{UnitTree}
use Rattle.jv_tree.specs.Numbered.{IsNumbered}
use Rattle.jv_unit.specs.Folder.{FolderOf}
use Rattle.jv_unit.specs.Plans.{unit_ending}
use Rattle.jv_unit.specs.Trees.{extends_of, implements_of}
use Rattle.sc_app.specs.FolderGraph.{IsSkeleton, IsWhole, decl_of, headers_of}

-- ---- the rules

-- a diagnostic is one of the unit with a number: its rules give it by the answers of the graph
abbrev pub IsOfUnit : FolderOf → GraphOf JavaDatum → ℕ → DiagOf → Type 0
IsOfUnit w g u d = (ds : List DiagOf) × (qs : List (Query JavaPred)) × Gives (InGraph g) (unit_ending w u) ds qs × Contains ds d

-- the rules of files and of types give a diagnostic
abbrev pub Rules : FolderOf → GraphOf JavaDatum → DiagOf → Type 0
Rules w g d = (u : ℕ) × (u < length w.layout.files + length w.layout.types) × IsOfUnit w g u d

-- ---- circular headers

-- a diagnostic says of a type that its header waits: at the first reference that is not settled in a state, with the least type that this one needs
pub record SaysCircular (w : FolderOf) (g : GraphOf JavaDatum) (h : State JavaDatum) (c : Scope) (d : DiagOf) : Type 0 where
  pub query : Query JavaPred
  pub first : IsFirstOpen (headers_of w g) h c query
  pub needed : List Scope
  pub needs : (t : Scope) → (Contains needed t) ↔ (IsNeeded (headers_of w g) h query t)
  pub says : IsCircular (AnswersSettled (headers_of w g) h) w.layout w.names c (extends_of (decl_of w c) ++ implements_of (decl_of w c)) needed d

-- it says so of a type outside a set, in the state in which the types of the set have their supertypes
abbrev pub IsCircularLine : FolderOf → GraphOf JavaDatum → (Scope → Bool) → (Scope → List Scope) → DiagOf → Type 0
IsCircularLine w g in_set row d =
    (c : Scope) × Contains (types_of w.layout) c × (in_set c ≡ false) × SaysCircular w g (state_with (headers_of w g) in_set row) c d

-- ---- the report

-- these are the diagnostics of a folder whose sources have trees: those of the rules in the whole graph; or where not all types are in the greatest
-- stratified set, one for each type outside it
pub data Reports (w : FolderOf) (ds : List DiagOf) : Type 0 where
  checked : (g : GraphOf JavaDatum) → IsWhole w g → ((d : DiagOf) → (Contains ds d) ↔ (Rules w g d)) → Reports w ds
  circular : (g : GraphOf JavaDatum) (in_set : Scope → Bool) (row : Scope → List Scope) → IsSkeleton w g → IsGreatest (headers_of w g) in_set row
      → (c : Scope) → Contains (types_of w.layout) c → in_set c ≡ false → ((d : DiagOf) → (Contains ds d) ↔ (IsCircularLine w g in_set row d)) → Reports w ds

-- ---- laws

-- the layout of a folder is that of its files, whose identifiers have numbers of names
pub record IsLaidOut (w : FolderOf) : Type 0 where
  pub layout : w.layout ≡ layout_of w.names w.files
  pub linked : IsLinked w.layout
  pub few : scope_count w.layout < 2 ^ 31
  pub numbered : (u : UnitTree) → Contains w.files u → IsNumbered (length w.names) u

-- a folder has one report
abbrev pub FoldersHaveOneReport : Type 0
FoldersHaveOneReport = (w : FolderOf) (ds es : List DiagOf) → IsLaidOut w → Reports w ds → Reports w es → (d : DiagOf) → (Contains ds d) ↔ (Contains es d)

-- what is said of a type that waits is one diagnostic
abbrev pub CircularLinesAreOne : Type 0
CircularLinesAreOne =
    (w : FolderOf) (g : GraphOf JavaDatum) (h : State JavaDatum) (s : Scope) (d e : DiagOf) → SaysCircular w g h s d → SaysCircular w g h s e → d ≡ e
