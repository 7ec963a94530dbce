-- What reading the sources of a folder gives.
use Rattle.std.specs.Prelude.{◌≡◌, ℕ, ◌<◌, ◌≤◌, List, length, map}
use Rattle.std.specs.List.{All, Contains, sum_by}
use Rattle.jv_layout.specs.Sizes.{IsFolder}
use Rattle.jv_tree.specs.DeclTree.{tree_of}
use Rattle.jv_tree.specs.Numbered.{IsNumbered}
use Rattle.jv_tree.specs.DeclTree.{UnitTree}
use Rattle.sc_io.specs.SourceTree.{FileOf}
use Rattle.sc_sources.specs.declared.sources.Sources.{Sources}
use Rattle.sc_sources.specs.declared.sources.Sources.TheVariants.{Trees, Faults}
use Rattle.sc_sources.specs.Sources.{Outcome, ReadsFolder, AreTrees, faults_from}

-- the most files of a folder, the most bytes of a file (1 MiB), and of all files together (4 MiB)
abbrev pub most_files : ℕ
most_files = 4096

-- the most bytes of a file: 1 MiB
abbrev pub most_bytes : ℕ
most_bytes = 1048576

-- the most bytes of all files together: 4 MiB
abbrev pub most_total : ℕ
most_total = 4194304

-- files within the limits
pub record AreWithinLimits (fs : List FileOf) : Type 0 where
  pub files : length fs ≤ most_files
  pub each : All (λ f. length f.bytes ≤ most_bytes) fs
  pub total : sum_by (λ f. length f.bytes) fs ≤ most_total

-- the trees of the prelude and of these files, with the names of their identifiers; or where some file has a fault, the faults, one of each such file
abbrev pub IsReadOf : List FileOf → Sources → Type 0
IsReadOf fs (Trees names units) =
    (xs : List Outcome) × ReadsFolder (map (λ f. f.bytes) fs) names xs × AreTrees xs (map tree_of units.items)
    × IsFolder (map tree_of units.items) × ((u : UnitTree) → Contains (map tree_of units.items) u → IsNumbered (length names) u)
IsReadOf fs (Faults ds) =
    (names : List (List ℕ)) × (xs : List Outcome) × ReadsFolder (map (λ f. f.bytes) fs) names xs × (ds ≡ faults_from 0 xs) × (0 < length ds)
