-- What is said of the types whose headers wait in a run.
use Rattle.std.specs.Prelude.{◌≡◌, ℕ, ◌<◌, false, List}
use Rattle.std.specs.List.{Contains}
use Rattle.sg_base.specs.declared.scope.Scope.{Scope}
use Rattle.sg_base.specs.Graph.{GraphOf}
use Rattle.sg_strata.specs.Program.{state_with}
use Rattle.jv_diag.specs.Plain.{DiagOf}
use Rattle.jv_instance.specs.declared.datum.JavaDatum.{JavaDatum}
use Rattle.jv_layout.specs.Scopes.{type_scope}
use Rattle.jv_unit.specs.Folder.{FolderOf}
use Rattle.sc_app.specs.FolderGraph.{headers_of}
use Rattle.sc_app.specs.FolderLaw.{LeavesGreatest, closed_in}
use Rattle.sc_app.specs.FolderReport.{SaysCircular}
use Rattle.sc_app.specs.FolderRun.{JavaCore, ruled}

-- a diagnostic says of the type with a number that its header waits, by the greatest stratified set that a run leaves
abbrev pub IsLineOf : FolderOf → JavaCore → ℕ → DiagOf → Type 0
IsLineOf w c t d =
    (g : GraphOf JavaDatum) (row : Scope → List Scope) → LeavesGreatest w c g row
    → SaysCircular (ruled w) g (state_with (headers_of (ruled w) g) (closed_in c) row) (type_scope w.layout t) d

-- the diagnostics are lines of types with numbers below this one whose rows are open, and each of these types has one
pub record AreLinesBelow (w : FolderOf) (c : JavaCore) (n : ℕ) (ds : List DiagOf) : Type 0 where
  pub each : (d : DiagOf) → Contains ds d → (t : ℕ) × (t < n) × (closed_in c (type_scope w.layout t) ≡ false) × IsLineOf w c t d
  pub all : (t : ℕ) → t < n → closed_in c (type_scope w.layout t) ≡ false → (d : DiagOf) × Contains ds d × IsLineOf w c t d
