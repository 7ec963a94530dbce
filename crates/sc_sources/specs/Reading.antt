-- What the sources that were read so far have come to.
use Rattle.std.specs.Prelude.{◌≡◌, ℕ, List, [], ◌∷◌, Some, length, map}
use Rattle.jv_diag.specs.Text.{takes}
use Rattle.jv_tree.specs.DeclTree.{UnitTree, tree_of}
use Rattle.sc_sources.specs.declared.reading.Reading.{Reading}
use Rattle.sc_sources.specs.declared.source_read.SourceRead.{SourceRead}
use Rattle.sc_sources.specs.declared.source_read.SourceRead.TheVariants.{Tree, Fault}
use Rattle.sc_sources.specs.Sources.{Outcome, tree, fault, ReadsAll, faults_from}

-- what a source was read as, as an outcome
abbrev pub outcome_of : SourceRead → Outcome
outcome_of (Tree u) = tree (tree_of u)
outcome_of (Fault at code) = fault at code

-- the text of a fault takes no argument
abbrev pub IsPlain : SourceRead → Type 0
IsPlain (Tree u) = Unit {0}
IsPlain (Fault at code) = takes code ≡ Some 0

-- the trees among outcomes
abbrev pub trees_of : List Outcome → List UnitTree
trees_of [] = []
trees_of (tree u ∷ xs) = u ∷ trees_of xs
trees_of (fault at code ∷ xs) = trees_of xs

-- these sources were read, one after another, and their trees, their faults, their names and how many they are were kept
pub record IsReading (sources : List (List ℕ)) (r : Reading) : Type 0 where
  pub outcomes : List Outcome
  pub reads : ReadsAll [] sources r.names outcomes
  pub trees : map tree_of r.units.items ≡ trees_of outcomes
  pub faults : r.faults ≡ faults_from 0 outcomes
  pub files : r.files ≡ length sources
