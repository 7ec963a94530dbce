-- The report on the sources of a folder.
use Rattle.std.specs.Prelude.{◌≡◌, ℕ, ◌<◌, ◌≤◌, List, [], length, map}
use Rattle.std.specs.List.{Contains}
use Rattle.jv_diag.specs.Plain.{DiagOf}
use Rattle.jv_layout.specs.Folder.{layout_of}
use Rattle.jv_layout.specs.Sizes.{IsFolder, most_types, own_types}
use Rattle.jv_tree.specs.DeclTree.{UnitTree}
use Rattle.jv_tree.specs.Numbered.{IsNumbered}
use Rattle.jv_unit.specs.Folder.{FolderOf}
use Rattle.sc_io.specs.SourceTree.{FileOf}
use Rattle.sc_report.specs.Report.{AreSorted, report_text}
use Rattle.sc_sources.specs.Sources.{Outcome, ReadsFolder, AreTrees, faults_from}
use Rattle.sc_app.specs.FolderReport.{Reports}
use Rattle.sc_app.specs.declared.status.Status.{Status}
use Rattle.sc_app.specs.Statuses.{status_of}

-- the files come to these trees behind those of the prelude, with these names of identifiers
pub record HaveTrees (fs : List FileOf) (names : List (List ℕ)) (us : List UnitTree) : Type 0 where
  pub outcomes : List Outcome
  pub read : ReadsFolder (map (λ f. f.bytes) fs) names outcomes
  pub trees : AreTrees outcomes us
  pub folder : IsFolder us
  pub numbered : (u : UnitTree) → Contains us u → IsNumbered (length names) u

-- the folder of trees, for the rules
abbrev pub laid_out : List (List ℕ) → List UnitTree → FolderOf
laid_out names us = record { layout = layout_of names us; names = names; files = us; kinds = [] }

-- how many types the trees declare behind the prelude's
abbrev pub types_declared : List (List ℕ) → List UnitTree → ℕ
types_declared names us = own_types (layout_of names us).types

-- the files have trees that declare too many types
abbrev pub DeclareTooMany : List FileOf → Type 0
DeclareTooMany fs = (names : List (List ℕ)) × (us : List UnitTree) × HaveTrees fs names us × (most_types < types_declared names us)

-- These are the diagnostics of files and the number of the types that they declare: where some file has a fault, the faults, one of each such file; else
-- the diagnostics of the folder.
pub data Diagnoses (fs : List FileOf) (ds : List DiagOf) : ℕ → Type 0 where
  faulty : (names : List (List ℕ)) (xs : List Outcome) → ReadsFolder (map (λ f. f.bytes) fs) names xs → 0 < length (faults_from 0 xs) → ds ≡ faults_from 0 xs → Diagnoses fs ds 0
  checked : (names : List (List ℕ)) (us : List UnitTree) → HaveTrees fs names us → types_declared names us ≤ most_types → Reports (laid_out names us) ds
      → Diagnoses fs ds (types_declared names us)

-- the bytes of the report on files, and its status
abbrev pub IsReport : List FileOf → List ℕ → Status → Type 0
IsReport fs bytes status =
    (ds : List DiagOf) × (types : ℕ) × Diagnoses fs ds types × ((sorted : List DiagOf) × AreSorted ds sorted × (bytes ≡ report_text fs sorted types) × (status ≡ status_of (length sorted)))
