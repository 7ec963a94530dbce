-- Laws of searches.
use Rattle.std.specs.Prelude.{◌≡◌, ℕ, ◌*◌, ◌≤◌, List, [], ◌∷◌, ◌⊎◌, length}
use Rattle.sg_base.specs.Graph.{IsGraph, HasScope}
use Rattle.sg_base.specs.List.{IsCount}
use Rattle.sg_base.specs.State.{State, Follows}
use Rattle.sg_query.specs.Query.{Asked}
use Rattle.sg_query.specs.State.{IsItem, IsSettled}
use Rattle.sg_engine.specs.declared.progress.Progress.{Progress}
use Rattle.sg_engine.specs.declared.progress.Progress.TheVariants.{Moved, Ready}
use Rattle.sg_engine.specs.Front.{Front, Stands}
use Rattle.sg_engine.specs.Search.{SearchOf, IsProgress}

-- where a search stands in a state, it stands in each state that follows
abbrev pub StandsLater : Type 0 → Type 0
StandsLater D =
    (h h' : State D) (q : Asked D) (f : Front D) → IsGraph h.graph → HasScope h.graph q.start → Follows h h' → Stands h q f → Stands h' q f

-- each search of the list is what an advance that moved made of the one before it, in one state
abbrev pub AreMoves : {P D : Type 0} → State D → Asked D → SearchOf P D → List (SearchOf P D) → Type 0
AreMoves h q s [] = Unit {0}
AreMoves h q s (t ∷ ts) = IsProgress h q s t Moved × AreMoves h q t ts

-- advances in one state in which the query is settled: each 64 of the query's items let one move, and one that does not move is ready
abbrev pub SearchesEnd : Type 0 → Type 0 → Type 0
SearchesEnd P D =
    (h : State D) (q : Asked D) → IsSettled h q → ((items : ℕ) (s : SearchOf P D) (moved : List (SearchOf P D)) → IsCount items (IsItem h q) → AreMoves h q s moved → 64 * length moved ≤ items) × ((s t : SearchOf P D) (p : Progress) → IsProgress h q s t p → (p ≡ Moved) ⊎ (p ≡ Ready))
