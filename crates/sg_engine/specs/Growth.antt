-- Fronts that grow by paths and what those offer.
use Rattle.std.specs.Prelude.{◌≡◌, ℕ, ◌+◌, List, [], ◌∷◌, ◌++◌, ◌↔◌, ◌⊎◌, length, map}
use Rattle.std.specs.List.{Contains, filter}
use Rattle.sg_base.specs.declared.scope.Scope.{Scope}
use Rattle.sg_base.specs.declared.step.Step.{Step}
use Rattle.sg_base.specs.List.{IsDistinct}
use Rattle.sg_base.specs.Path.{word_of}
use Rattle.sg_expr.specs.Tree.{ExprOf}
use Rattle.sg_expr.specs.Word.{IsContinuable}
use Rattle.sg_query.specs.declared.found.Found.{Found}
use Rattle.sg_query.specs.State.{Item}
use Rattle.sg_query.specs.Steps.{is_fresh}
use Rattle.sg_engine.specs.Front.{Front, path_of, IsOffered, step_to}

-- the second list is the first without what is not of this kind
abbrev pub Keeps : {X : Type 0} → (X → Type 0) → List X → List X → Type 0
Keeps P [] ys = ys ≡ []
Keeps {X} P (x ∷ xs) ys = (P x × ((zs : List X) × (ys ≡ x ∷ zs) × Keeps P xs zs)) ⊎ ((P x → ⊥) × Keeps P xs ys)

-- the new front has these paths more, and each item that they offer
pub record Gains {D : Type 0} (e : ExprOf) (old now : Front D) (more : List (List Step)) : Type 0 where
  pub paths : now.paths ≡ old.paths ++ more
  pub items : (news : List Item) × (now.left ≡ old.left ++ news) × (IsDistinct more → IsDistinct news) × ((x : Item) → (Contains news x) ↔ (Contains more (path_of x) × IsOffered e x))
  pub goers : (gs : List (List Step)) × (now.going ≡ old.going + length gs) × Keeps (λ ps. IsContinuable e (word_of ps)) more gs
  pub found : now.found ≡ old.found
  pub explored : now.explored ≡ old.explored

-- the front with these items left
abbrev pub with_left : {D : Type 0} → Front D → List Item → Front D
with_left f left = record { paths = f.paths; left = left; found = f.found; explored = f.explored; going = f.going }

-- the front after one more item
abbrev pub one_explored : {D : Type 0} → Front D → Front D
one_explored f = record { paths = f.paths; left = f.left; found = f.found; explored = f.explored + 1; going = f.going }

-- the front with these paths found to reach a wanted datum
abbrev pub with_found : {D : Type 0} → Front D → List (Found D) → Front D
with_found f found = record { paths = f.paths; left = f.left; found = found; explored = f.explored; going = f.going }

-- the front of no path
abbrev pub no_front : {D : Type 0} → Front D
no_front = record { paths = []; left = []; found = []; explored = 0; going = 0 }

-- the path with one more step to each of these scopes that it does not pass by
abbrev pub into_targets : Scope → List Step → ℕ → List Scope → List (List Step)
into_targets start ps l ts = map (λ t. ps ++ step_to l t ∷ []) (filter (is_fresh start ps) ts)
