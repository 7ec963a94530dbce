-- Paths that share their fronts: each is another path with one more step.
use Rattle.std.specs.Prelude.{◌≡◌, ℕ, ◌+◌, ◌*◌, ◌<◌, ◌≤◌, List, [], ◌∷◌, ◌++◌, ◌↔◌, length, map, drop, slice_index_or, Option, Some, None, Result, OnOk}
use Rattle.std.specs.List.{AllByRecursion, Contains}
use Rattle.sg_base.specs.declared.scope.Scope.{Scope}
use Rattle.sg_base.specs.declared.step.Step.{Step}
use Rattle.sg_base.specs.Label.{Word}
use Rattle.sg_base.specs.List.{IsDistinct}
use Rattle.sg_base.specs.Path.{end_of, word_of}
use Rattle.sg_base.specs.PathTree.{path_at}
use Rattle.sg_base.specs.State.{State}
use Rattle.sg_expr.specs.Tree.{ExprOf}
use Rattle.sg_expr.specs.Word.{In}
use Rattle.sg_query.specs.declared.found.Found.{Found}
use Rattle.sg_query.specs.declared.found_at.FoundAt.{FoundAt}
use Rattle.sg_query.specs.Query.{Asked}
use Rattle.sg_query.specs.State.{Item, next, whole}
use Rattle.sg_engine.specs.Nodes.{NodeOf as Node, RestOf, InRest}
use Rattle.sg_engine.specs.declared.spent.Spent.{Spent}
use Rattle.sg_engine.specs.declared.tree.Tree.{Tree}
use Rattle.sg_engine.specs.declared.work.Work.{Work}
use Rattle.sg_engine.specs.declared.work.Work.TheVariants.{Next, Whole}
use Rattle.sg_engine.specs.Front.{Front, IsBlocked, Stands}
use Rattle.sg_engine.specs.Growth.{Gains, no_front}

-- the paths of nodes that come behind these
abbrev pub paths_from : List (List Step) → List Node → List (List Step)
paths_from acc [] = acc
paths_from acc (n ∷ ns) = paths_from (acc ++ (path_at acc n.parent ++ n.step ∷ []) ∷ []) ns

-- the paths of the nodes, in order; the first is the root's, which has no step
abbrev pub paths_of : List Node → List (List Step)
paths_of [] = []
paths_of (n ∷ ns) = paths_from ([] ∷ []) ns

-- the item of a piece of work
abbrev pub item_of : List (List Step) → Work → Item
item_of paths (Next k l) = next (path_at paths k) l
item_of paths (Whole k) = whole (path_at paths k)

-- the node of a piece of work
abbrev pub place_of : Work → ℕ
place_of (Next k l) = k
place_of (Whole k) = k

-- a node ends where its path does, and the words that may follow it are those that go on from its path's
pub record IsNodeOf (start : Scope) (e : ExprOf) (n : Node) (ps : List Step) : Type 0 where
  pub ends : end_of start ps ≡ n.step.to
  pub rest : (w : Word) → (InRest n.rest w) ↔ (In e (word_of ps ++ w))

-- the work that a node's path offers, by the words that go on from it
abbrev pub IsWorkOf : RestOf → ℕ → Work → Type 0
IsWorkOf r place (Next k l) = (k ≡ place) × ((w : Word) × InRest r (l ∷ w))
IsWorkOf r place (Whole k) = (k ≡ place) × InRest r []

-- the new work is the old and each piece that the path of a node at this place offers, once
abbrev pub OffersOn : RestOf → ℕ → List Work → List Work → Type 0
OffersOn r place old new =
    (ws : List Work) × (new ≡ old ++ ws) × IsDistinct ws × (length ws ≤ 17) × ((x : Work) → (Contains ws x) ↔ (IsWorkOf r place x))

-- the path that was found at a node, with its datum
abbrev pub found_of : {D : Type 0} → Scope → List (List Step) → FoundAt D → Found D
found_of start paths f = record { path = record { start = start; steps = path_at paths f.place }; datum = f.datum }

-- the front of nodes, of the work that is left, and of what was found
abbrev pub front_on : {D : Type 0} → Scope → List Node → List Work → List (FoundAt D) → ℕ → ℕ → Front D
front_on start nodes left found explored going = record {
  paths = paths_of nodes;
  left = map (item_of (paths_of nodes)) left;
  found = map (found_of start (paths_of nodes)) found;
  explored = explored;
  going = going;
}

-- the work that is left: what was put aside, and what was not looked at
abbrev pub left_of : {D : Type 0} → Tree D → List Work
left_of t = t.blocked.items ++ drop t.next t.queue.items

-- the front of a tree
abbrev pub front_of : {D : Type 0} → Tree D → Front D
front_of t = front_on t.start t.nodes.items (left_of t) t.found.items t.explored t.going

-- each node ends where its path does, and has the words that go on
abbrev pub AreNodes : ExprOf → Scope → List Node → Type 0
AreNodes e start nodes = (i : ℕ) (n : Node) → i < length nodes → n ≡ slice_index_or nodes i n → IsNodeOf start e n (path_at (paths_of nodes) i)

-- the nodes are a tree whose paths begin at the start, what is left and what was found stands at nodes, and a node offers 17 items at most
pub record IsTreeOn {D : Type 0} (e : ExprOf) (start : Scope) (nodes : List Node) (left : List Work) (found : List (FoundAt D)) (explored going : ℕ) : Type 0 where
  pub root : 0 < length nodes
  pub node : AreNodes e start nodes
  pub first : path_at (paths_of nodes) 0 ≡ []
  pub grown : (i : ℕ) (n : Node) → 0 < i → i < length nodes → n ≡ slice_index_or nodes i n → (n.parent < i) × (path_at (paths_of nodes) i ≡ path_at (paths_of nodes) n.parent ++ n.step ∷ [])
  pub left_in : AllByRecursion (λ w. place_of w < length nodes) left
  pub found_in : AllByRecursion (λ f. f.place < length nodes) found
  pub few : going ≤ length nodes
  pub counted : explored + length left ≤ 17 * length nodes

-- the tree is one of paths from its start along the words of the expression
abbrev pub IsTree : {D : Type 0} → ExprOf → Tree D → Type 0
IsTree e t = IsTreeOn e t.start t.nodes.items (left_of t) t.found.items t.explored t.going × (t.next ≤ length t.queue.items)

-- the tree is one along the words of the expression, and has the path with no step and what that offers
abbrev pub IsRootOf : {D : Type 0} → ExprOf → Tree D → Type 0
IsRootOf e t = IsTree e t × Gains e no_front (front_of t) ([] ∷ [])

-- along the words of each expression along which the old tree goes, the new one has these paths more, where the call did not fail
abbrev pub GrowsBy : {D T E : Type 0} → Tree D → Tree D → List (List Step) → Result T E → Type 0
GrowsBy old new more result = (e : ExprOf) → IsTree e old → OnOk result (IsTree e new × Gains e (front_of old) (front_of new) more)

-- the same where this work was taken from what is left
abbrev pub IsTreeWith : {D : Type 0} → ExprOf → Work → Tree D → Type 0
IsTreeWith e w t =
    IsTreeOn e t.start t.nodes.items (t.blocked.items ++ w ∷ drop t.next t.queue.items) t.found.items t.explored t.going × (t.next ≤ length t.queue.items)

-- the search stood before this work was taken from what is left
abbrev pub StandsWith : {D : Type 0} → State D → Asked D → Work → Tree D → Type 0
StandsWith h q w t = Stands h q (front_on t.start t.nodes.items (t.blocked.items ++ w ∷ drop t.next t.queue.items) t.found.items t.explored t.going)

-- the item of this work is blocked
abbrev pub BlocksWork : {D : Type 0} → State D → Scope → List Node → Work → Type 0
BlocksWork h start nodes w = IsBlocked h start (item_of (paths_of nodes) w)

-- the items of all this work are blocked
abbrev pub AllBlock : {D : Type 0} → State D → Scope → List Node → List Work → Type 0
AllBlock h start nodes ws = AllByRecursion (BlocksWork h start nodes) ws

-- the second list begins with the first
abbrev pub IsFrontOf : {X : Type 0} → List X → List X → Type 0
IsFrontOf {X} xs ys = (more : List X) × (ys ≡ xs ++ more)

-- what the old tree listed, the new one lists first
pub record ListsOn {D : Type 0} (old new : Tree D) : Type 0 where
  pub start : new.start ≡ old.start
  pub nodes : IsFrontOf old.nodes.items new.nodes.items
  pub queue : IsFrontOf old.queue.items new.queue.items
  pub blocked : IsFrontOf old.blocked.items new.blocked.items
  pub found : IsFrontOf old.found.items new.found.items

-- from the new tree the old one can be made: by its lists, or, where its queue was spent, by what was put aside in the queue's place
abbrev pub LeadsBack : {D : Type 0} → Tree D → Tree D → Option Spent → Type 0
LeadsBack old new None = ListsOn old new
LeadsBack old new (Some spent) = ListsOn old (record { start = new.start; nodes = new.nodes; blocked = new.queue; queue = spent.queue; next = new.next; found = new.found; explored = new.explored; going = new.going })
