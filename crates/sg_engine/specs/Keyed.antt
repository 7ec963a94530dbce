-- Items under a key: which targets of a row a search passes over, since their data have another key than the one that the query wants.
use Rattle.std.specs.Prelude.{◌≡◌, ◌≢◌, ℕ, Bool, List, [], ◌∷◌, ◌++◌, Option, Some}
use Rattle.std.specs.List.{Contains}
use Rattle.sg_base.specs.declared.scope.Scope.{Scope}
use Rattle.sg_base.specs.declared.step.Step.{Step}
use Rattle.sg_base.specs.Graph.{IsGraph, HasScope}
use Rattle.sg_base.specs.Path.{end_of, word_of}
use Rattle.sg_base.specs.State.{IsClosedPath}
use Rattle.sg_expr.specs.Word.{IsContinuable}
use Rattle.sg_query.specs.Query.{Asked}
use Rattle.sg_query.specs.State.{Item, next, whole, IsItem}
use Rattle.sg_state.specs.Held.{HeldOf, IsKeyed, state_of}
use Rattle.sg_state.specs.Rest.{KeepsRows}
use Rattle.sg_engine.specs.Front.{AreTargets, step_to}

-- what a query wants of data: which ones, the key of each, and the key of all that it wants, where they have one
pub record Wanting (D : Type 0) : Type 0 where
  pub wants : D → Bool
  pub key : D → ℕ
  pub wanted : Option ℕ

-- what a predicate wants
abbrev pub wanting_by : {P D : Type 0} → (P → D → Bool) → (D → ℕ) → (P → Option ℕ) → P → Wanting D
wanting_by wants key pred_key p = record { wants = wants p; key = key; wanted = pred_key p }

-- the path is passed over: no word goes on behind its own, and its last step goes to a target under another key than the wanted one
abbrev pub IsPassedOver : {D : Type 0} → HeldOf D → Wanting D → Asked D → List Step → Type 0
IsPassedOver h k q ps =
    (IsContinuable q.expr (word_of ps) → ⊥) × (front : List Step) × (x : Step) × (ps ≡ front ++ x ∷ []) × (w : ℕ) × (k.wanted ≡ Some w) × (j : ℕ) × IsKeyed k.key h (end_of q.start front) x.label j x.to × (j ≢ w)

-- an item of the query, but for the data at the ends of paths that are passed over
abbrev pub IsKeyedItem : {D : Type 0} → HeldOf D → Wanting D → Asked D → Item → Type 0
IsKeyedItem h k q (next ps l) = IsItem (state_of h) q (next ps l)
IsKeyedItem h k q (whole ps) = IsItem (state_of h) q (whole ps) × (IsPassedOver h k q ps → ⊥)

-- none of these paths is one that is passed over
abbrev pub PassesOver : {D : Type 0} → HeldOf D → Wanting D → Asked D → List (List Step) → Type 0
PassesOver h k q paths = (ps : List Step) → Contains paths ps → IsPassedOver h k q ps → ⊥

-- where none of the old paths is passed over, none of the new ones is
abbrev pub KeepsPassing : {D : Type 0} → HeldOf D → Wanting D → Asked D → List (List Step) → List (List Step) → Type 0
KeepsPassing h k q old new = PassesOver h k q old → PassesOver h k q new

-- these are targets that are enough to look at, and none of them is passed over
pub record AreKeyedTargets {D : Type 0} (h : HeldOf D) (k : Wanting D) (q : Asked D) (ps : List Step) (l : ℕ) (ts : List Scope) : Type 0 where
  pub enough : AreTargets (state_of h) q ps l ts
  pub kept : (t : Scope) → Contains ts t → IsPassedOver h k q (ps ++ step_to l t ∷ []) → ⊥

-- closed paths of which none is passed over are such in each later graph that keeps the parts of rows
abbrev pub PassesOverLater : Type 0 → Type 0
PassesOverLater D =
    (h h' : HeldOf D) (k : Wanting D) (q : Asked D) (paths : List (List Step)) → IsGraph h.graph → HasScope h.graph q.start → KeepsRows k.key h h' → ((ps : List Step) → Contains paths ps → IsClosedPath (state_of h) q.start ps) → PassesOver h k q paths → PassesOver h' k q paths
