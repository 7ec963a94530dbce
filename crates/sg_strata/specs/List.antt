-- Lists as sets.
use Rattle.std.specs.Prelude.{List, [], ◌∷◌}
use Rattle.std.specs.BTreeSet.{insert_key}
use Rattle.std.specs.declared.cmp.Ordering.{Ordering}

-- the things of a list in rising order, each once
abbrev pub set_of : {X : Type 0} → (X → X → Ordering) → List X → List X
set_of cmp [] = []
set_of cmp (x ∷ xs) = insert_key cmp (set_of cmp xs) x
