-- What checking the sources of a folder comes to.
use Rattle.std.specs.Prelude.{◌≡◌, ℕ, ◌<◌, ◌≤◌, List, length, map, Option, None, Some}
use Rattle.std.specs.Arc.{arc_value}
use Rattle.std.specs.declared.sync.Arc.{Arc}
use Rattle.std.specs.declared.alloc.Global.{Global}
use Rattle.jv_diag.specs.Plain.{DiagOf, diag_of}
use Rattle.jv_layout.specs.Folder.{layout_of}
use Rattle.jv_layout.specs.Sizes.{most_types}
use Rattle.jv_tree.specs.DeclTree.{UnitTree}
use Rattle.jv_unit.specs.declared.folder.Folder.{Folder}
use Rattle.jv_unit.specs.Kept.{folder_of, IsWhole}
use Rattle.sc_io.specs.SourceFile.{sources_of}
use Rattle.sc_io.specs.SourceTree.{FileOf}
use Rattle.sc_report.specs.Report.{AreSorted}
use Rattle.sc_sources.specs.Sources.{Outcome as SourceOutcome, ReadsFolder, faults_from}
use Rattle.sc_app.specs.declared.outcome.Outcome.{Outcome}
use Rattle.sc_app.specs.Diagnoses.{Diagnoses, HaveTrees, types_declared}
use Rattle.sc_app.specs.FolderRun.{JavaCore, IsFolderRun}
use Rattle.sc_app.specs.Found.{IsFoundBy}

-- some file has a fault
abbrev pub HaveFault : List FileOf → Type 0
HaveFault fs = (names : List (List ℕ)) × (xs : List SourceOutcome) × ReadsFolder (map (λ f. f.bytes) fs) names xs × (0 < length (faults_from 0 xs))

-- a folder is that of the trees of files, which declare so many types and no more than they may
pub record IsReady (fs : List FileOf) (w : Folder) (types : ℕ) : Type 0 where
  pub names : List (List ℕ)
  pub trees : List UnitTree
  pub have : HaveTrees fs names trees
  pub few : types_declared names trees ≤ most_types
  pub declared : types ≡ types_declared names trees
  pub folder : folder_of w ≡ record { layout = layout_of names trees; names = names; files = trees; kinds = (folder_of w).kinds }
  pub whole : IsWhole w

-- a folder is that of the trees of files, and a core is that of a run of its checkers, which is over
pub record RanOn (fs : List FileOf) (w : Folder) (c : JavaCore) : Type 0 where
  pub names : List (List ℕ)
  pub trees : List UnitTree
  pub have : HaveTrees fs names trees
  pub layout : w.layout ≡ layout_of names trees
  pub names_are : w.names ≡ names
  pub trees_are : (folder_of w).files ≡ trees
  pub whole : IsWhole w
  pub run : IsFolderRun (folder_of w) c

-- where some file has a fault nothing ran
abbrev pub IsRunOn : List FileOf → Option (Arc Folder Global) → Option JavaCore → Type 0
IsRunOn fs None None = HaveFault fs
IsRunOn fs (Some w) (Some c) = RanOn fs (arc_value w) c
IsRunOn fs None (Some c) = ⊥
IsRunOn fs (Some w) None = ⊥

-- where checkers ran, diagnostics are what is found by how their run is over
abbrev pub IsFoundOn : List DiagOf → Option (Arc Folder Global) → Option JavaCore → Type 0
IsFoundOn ds None c = Unit {0}
IsFoundOn ds (Some w) None = Unit {0}
IsFoundOn ds (Some w) (Some c) = IsFoundBy (folder_of (arc_value w)) c ds

-- the diagnostics are those of the report, sorted, each once, beside how many files there are and how many types they declare; the files are handed back,
-- with what ran, and where it is over shows whether the report is that of the rules or of headers that wait
pub record IsOutcomeOf (fs : List FileOf) (o : Outcome) : Type 0 where
  pub sources : sources_of o.sources.items ≡ fs
  pub files : o.files ≡ length fs
  pub found : List DiagOf
  pub diagnoses : Diagnoses fs found o.types
  pub sorted : AreSorted found (map diag_of o.diags.items)
  pub ran : IsRunOn fs o.folder o.core
  pub found_by : IsFoundOn found o.folder o.core
