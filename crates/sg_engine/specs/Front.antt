-- Where a search stands in a state: which closed paths it found, and which items it has explored and which not.
use Rattle.std.specs.Prelude.{◌≡◌, ℕ, List, [], ◌∷◌, ◌++◌, ◌↔◌, ◌⊎◌, IsTrue, false, length, map}
use Rattle.std.specs.List.{Contains}
use Rattle.sg_base.specs.declared.scope.Scope.{Scope}
use Rattle.sg_base.specs.declared.step.Step.{Step}
use Rattle.sg_base.specs.Graph.{HasEdge, HasDatum}
use Rattle.sg_base.specs.List.{IsDistinct, IsCount}
use Rattle.sg_base.specs.Path.{end_of, word_of, reached_by}
use Rattle.sg_base.specs.State.{State, IsOpen, IsUnset, IsClosedPath}
use Rattle.sg_expr.specs.Tree.{ExprOf}
use Rattle.sg_expr.specs.Word.{In, IsViable, IsContinuable}
use Rattle.sg_query.specs.declared.found.Found.{Found}
use Rattle.sg_query.specs.Answer.{Reaches}
use Rattle.sg_query.specs.Query.{Asked}
use Rattle.sg_query.specs.State.{Item, next, whole}

-- what a search holds: the paths that it found, the items that are left, the paths that reach a wanted datum, how many items it explored, and
-- how many of its paths have a word that goes on
pub record Front (D : Type 0) : Type 0 where
  pub paths : List (List Step)
  pub left : List Item
  pub found : List (Found D)
  pub explored : ℕ
  pub going : ℕ

-- the path of an item
abbrev pub path_of : Item → List Step
path_of (next ps l) = ps
path_of (whole ps) = ps

-- the expression has this next label after the item's path, or the path's word
abbrev pub IsOffered : ExprOf → Item → Type 0
IsOffered e (next ps l) = IsViable e (word_of ps ++ l ∷ [])
IsOffered e (whole ps) = In e (word_of ps)

-- the item's row is open, or its datum is unset
abbrev pub IsBlocked : {D : Type 0} → State D → Scope → Item → Type 0
IsBlocked h start (next ps l) = IsOpen h (end_of start ps) l
IsBlocked h start (whole ps) = IsUnset h (end_of start ps)

-- the step over an edge
abbrev pub step_to : ℕ → Scope → Step
step_to l t = record { label = l; to = t }

-- the path's end has a datum that is there and that the query does not want
abbrev pub IsIdle : {D : Type 0} → State D → Asked D → List Step → Type 0
IsIdle {D} h q ps = (IsUnset h (end_of q.start ps) → ⊥) × ((d : D) × HasDatum h.graph (end_of q.start ps) d × (q.wants d ≡ false))

-- nothing is to be found behind the path: its word does not go on, and its end is idle
abbrev pub IsBarren : {D : Type 0} → State D → Asked D → List Step → Type 0
IsBarren h q ps = (IsContinuable q.expr (word_of ps) → ⊥) × IsIdle h q ps

-- the path was found, or nothing is to be found behind it
abbrev pub IsMet : {D : Type 0} → State D → Asked D → List (List Step) → List Step → Type 0
IsMet h q paths ps = Contains paths ps ⊎ IsBarren h q ps

-- these are targets of the row into which the path goes on, each once; behind each other one there is nothing to be found
pub record AreTargets {D : Type 0} (h : State D) (q : Asked D) (ps : List Step) (l : ℕ) (ts : List Scope) : Type 0 where
  pub from : (t : Scope) → Contains ts t → HasEdge h.graph (end_of q.start ps) l t
  pub once : IsDistinct ts
  pub all : (t : Scope) → HasEdge h.graph (end_of q.start ps) l t → Contains ts t ⊎ IsBarren h q (ps ++ step_to l t ∷ [])

-- the item is not blocked, and what it leads to was met
abbrev pub IsExplored : {D : Type 0} → State D → Asked D → List (List Step) → List (Found D) → Item → Type 0
IsExplored h q paths found (next ps l) =
    (IsOpen h (end_of q.start ps) l → ⊥) × ((t : Scope) → HasEdge h.graph (end_of q.start ps) l t → (Contains (q.start ∷ reached_by ps) t → ⊥) → IsMet h q paths (ps ++ step_to l t ∷ []))
IsExplored {D} h q paths found (whole ps) =
    (IsUnset h (end_of q.start ps) → ⊥) × ((f : Found D) → f.path.start ≡ q.start → f.path.steps ≡ ps → HasDatum h.graph (end_of q.start ps) f.datum → IsTrue (q.wants f.datum) → Contains found f)

-- a path of these whose word goes on
abbrev pub GoesOnAmong : ExprOf → List (List Step) → List Step → Type 0
GoesOnAmong e paths ps = Contains paths ps × IsContinuable e (word_of ps)

-- the items that were explored are these, and all else that the front's paths offer is left; a path came with the exploring of the item that
-- leads to it
pub record StandsAfter {D : Type 0} (h : State D) (q : Asked D) (f : Front D) (done : List Item) : Type 0 where
  pub root : Contains f.paths []
  pub closed : (ps : List Step) → Contains f.paths ps → IsClosedPath h q.start ps
  pub once : IsDistinct f.paths
  pub entered : (ps : List Step) (x : Step) → Contains f.paths (ps ++ x ∷ []) → Contains done (next ps x.label)
  pub offered : (x : Item) → (Contains done x ⊎ Contains f.left x) ↔ (Contains f.paths (path_of x) × IsOffered q.expr x)
  pub done_once : IsDistinct done
  pub left_once : IsDistinct f.left
  pub apart : (x : Item) → Contains done x → Contains f.left x → ⊥
  pub explored : (x : Item) → Contains done x → IsExplored h q f.paths f.found x
  pub found_once : IsDistinct (map (λ y. y.path) f.found)
  pub found : (y : Found D) → Contains f.found y → (y.path.start ≡ q.start) × Reaches h.graph q y.path.steps y.datum
  pub read : (y : Found D) → Contains f.found y → Contains done (whole y.path.steps)
  pub count : length done ≡ f.explored
  pub going : IsCount f.going (GoesOnAmong q.expr f.paths)

-- the search stands here in this state
abbrev pub Stands : {D : Type 0} → State D → Asked D → Front D → Type 0
Stands h q f = (done : List Item) × StandsAfter h q f done

-- each item left is blocked
abbrev pub AllBlocked : {D : Type 0} → State D → Asked D → Front D → Type 0
AllBlocked h q f = (x : Item) → Contains f.left x → IsBlocked h q.start x
