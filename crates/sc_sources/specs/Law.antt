-- Laws of sources.
use Rattle.std.specs.Prelude.{◌≡◌, ℕ, List, [], ◌∷◌}
use Rattle.jv_tree.specs.DeclTree.{UnitTree}
use Rattle.sc_sources.specs.Sources.{Outcome, ReadsAll, tree, object_source, string_source}

-- sources come to one list of outcomes, and leave one list of names
abbrev pub SourcesAreReadOnce : Type 0
SourcesAreReadOnce =
    (sources old new others : List (List ℕ)) (xs ys : List Outcome) → ReadsAll old sources new xs → ReadsAll old sources others ys → (new ≡ others) × (xs ≡ ys)

-- the sources of the prelude have trees
abbrev pub PreludeIsRead : Type 0
PreludeIsRead = (names : List (List ℕ)) × (o : UnitTree) × (s : UnitTree) × ReadsAll [] (object_source ∷ string_source ∷ []) names (tree o ∷ tree s ∷ [])
