-- The sources of a folder as they are gathered.
use Rattle.std.specs.Prelude.{◌≡◌, ◌<◌, ◌≤◌, ◌⊎◌, ℕ, List, length, None, Some}
use Rattle.std.specs.Cmp.Lexicographic.{slice_cmp}
use Rattle.std.specs.Ordering.{nat_cmp}
use Rattle.sg_base.specs.List.{IsRising}
use Rattle.sc_io.specs.SourceFile.{sources_of}
use Rattle.sc_io.specs.SourceTree.{FileOf, HasDistinctPaths, ListsSources}
use Rattle.sc_sources.specs.Read.{AreWithinLimits, most_files}
use Rattle.sc_app.specs.declared.command.Command.{Command}
use Rattle.sc_app.specs.declared.command.Command.TheVariants.{Check, Answers, Graph, Gen}
use Rattle.sc_app.specs.declared.gather.Gathered.{Gathered}
use Rattle.sc_app.specs.declared.gather.Gathered.TheVariants.{Sources, Passed}
use Rattle.sc_app.specs.declared.status.Which.{Which}
use Rattle.sc_app.specs.declared.status.Which.TheVariants.{Files}
use Rattle.sc_app.specs.Sourced.{AreSources, passed_from}

-- the files of a folder have paths of their own, and these are the paths of its sources, in rising order
pub record ListsInOrder (fs : List FileOf) (paths : List (List ℕ)) : Type 0 where
  pub distinct : HasDistinctPaths fs
  pub rising : IsRising (slice_cmp nat_cmp) paths
  pub lists : ListsSources fs paths

-- sources pass this limit before any other
abbrev pub Passes : List FileOf → Which → Type 0
Passes ss which = ((which ≡ Files) × (most_files < length ss)) ⊎ ((length ss ≤ most_files) × (passed_from 0 ss ≡ Some which))

-- the sources of a folder, which pass no limit, or the limit that they pass
abbrev pub IsGathered : List FileOf → Gathered → Type 0
IsGathered fs (Sources v) = AreSources fs (sources_of v.items) × (length (sources_of v.items) ≤ most_files) × (passed_from 0 (sources_of v.items) ≡ None)
IsGathered fs (Passed which) = (ss : List FileOf) × AreSources fs ss × Passes ss which

-- what was gathered is within the limits, or is not handed on
abbrev pub StaysWithin : Gathered → Type 0
StaysWithin (Sources v) = AreWithinLimits (sources_of v.items)
StaysWithin (Passed which) = Unit {0}

-- a project that is made has at most 1,000 classes
abbrev pub MakesFew : Command → Type 0
MakesFew Check = Unit {0}
MakesFew Answers = Unit {0}
MakesFew Graph = Unit {0}
MakesFew (Gen n) = n ≤ 1000

-- a command makes its own project, for which no tree is read
abbrev pub MakesProject : Command → Type 0
MakesProject Check = ⊥
MakesProject Answers = ⊥
MakesProject Graph = ⊥
MakesProject (Gen n) = Unit {0}
