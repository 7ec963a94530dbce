-- What a run over the items that are left does.
use Rattle.std.specs.Prelude.{◌≡◌, ◌≢◌, ℕ, ◌+◌, ◌<◌, ◌≤◌, List, [], ◌∷◌, ◌++◌, Bool, true, false, ◌⊎◌, Result, IfOk, length, drop}
use Rattle.std.specs.List.{Contains}
use Rattle.sg_base.specs.declared.scope.Scope.{Scope}
use Rattle.sg_base.specs.declared.step.Step.{Step}
use Rattle.sg_base.specs.PathTree.{path_at}
use Rattle.sg_base.specs.State.{State}
use Rattle.sg_query.specs.declared.found_at.FoundAt.{FoundAt}
use Rattle.sg_query.specs.Answer.{most_paths}
use Rattle.sg_query.specs.Query.{Asked}
use Rattle.sg_query.specs.State.{Item}
use Rattle.sg_engine.specs.declared.explore.Stepped.{Stepped}
use Rattle.sg_engine.specs.declared.explore.Stepped.TheVariants as s
use Rattle.sg_engine.specs.declared.look.Look.{Look}
use Rattle.sg_engine.specs.declared.look.Look.TheVariants.{Many, Over, Free}
use Rattle.sg_engine.specs.Nodes.{NodeOf as Node}
use Rattle.sg_engine.specs.declared.progress.Progress.{Progress}
use Rattle.sg_engine.specs.declared.progress.Progress.TheVariants.{Moved, Blocked, Ready}
use Rattle.sg_engine.specs.declared.run.Run.{Run}
use Rattle.sg_engine.specs.declared.run.Run.TheVariants as r
use Rattle.sg_engine.specs.declared.tree.Tree.{Tree}
use Rattle.sg_engine.specs.declared.work.Work.{Work}
use Rattle.sg_state.specs.Held.{HeldOf, state_of}
use Rattle.sg_engine.specs.Front.{Stands, IsBlocked, AllBlocked}
use Rattle.sg_engine.specs.Keyed.{Wanting, PassesOver}
use Rattle.sg_engine.specs.Tree.{paths_of, left_of, front_of, front_on, IsTreeOn, AllBlock, BlocksWork}

-- too many paths go on; or blocked work was put aside, up to the queue's end, or up to the first that is free
abbrev pub HasLooked : {D : Type 0} → State D → Tree D → Tree D → Look → Type 0
HasLooked h old new Many = (most_paths < old.going) × (left_of new ≡ left_of old) × (new.next ≡ old.next)
HasLooked h old new Over =
    (old.going ≤ most_paths) × (left_of new ≡ left_of old) × (new.next ≡ length old.queue.items) × (AllBlock h old.start old.nodes.items old.blocked.items → AllBlock h old.start old.nodes.items new.blocked.items)
HasLooked h old new (Free w) =
    (old.going ≤ most_paths) × (left_of new ≡ left_of old) × (drop new.next old.queue.items ≡ w ∷ drop (new.next + 1) old.queue.items) × (new.next < length old.queue.items) × (AllBlock h old.start old.nodes.items old.blocked.items → AllBlock h old.start old.nodes.items new.blocked.items) × (BlocksWork h old.start old.nodes.items w → ⊥)

-- these are the parts of a search for what the query asks, which stands in the held graph, and which passes over what it is to pass over where it did
-- so among these paths
abbrev pub IsSearchOn : {D : Type 0} → HeldOf D → Wanting D → List (List Step) → Asked D → Scope → List Node → List Work → List (FoundAt D) → ℕ → ℕ → Type 0
IsSearchOn h k ps q start nodes left found explored going =
    (q.start ≡ start) × (q.wants ≡ k.wants) × IsTreeOn q.expr start nodes left found explored going × Stands (state_of h) q (front_on start nodes left found explored going) × (PassesOver h k q ps → PassesOver h k q (paths_of nodes))

-- the tree is that of such a search
abbrev pub IsSearchIn : {D : Type 0} → HeldOf D → Wanting D → List (List Step) → Asked D → Tree D → Type 0
IsSearchIn h k ps q t = IsSearchOn h k ps q t.start t.nodes.items (left_of t) t.found.items t.explored t.going × (t.next ≤ length t.queue.items)

-- each such search of the old tree is one of the new tree, where the call did not fail
abbrev pub KeepsSearches : {D T E : Type 0} → HeldOf D → Wanting D → Tree D → Tree D → Result T E → Type 0
KeepsSearches {D} h k old new result =
    (q : Asked D) (ps : List (List Step)) → IsSearchIn h k ps q old → IfOk result (λ _. IsSearchIn h k ps q new)

-- where all that was put aside is blocked, it still is
abbrev pub KeepsBlocked : {D : Type 0} → State D → Tree D → Tree D → Type 0
KeepsBlocked h old new = AllBlock h old.start old.nodes.items old.blocked.items → AllBlock h new.start new.nodes.items new.blocked.items

-- the item of this work was explored, and the paths that were there stay; or it is blocked, and was put aside
abbrev pub HasTaken : {D : Type 0} → State D → Work → Tree D → Tree D → Bool → Type 0
HasTaken h w old new true =
    (new.explored ≡ old.explored + 1) × (new.blocked ≡ old.blocked) × ((k : ℕ) → k < length old.nodes.items → path_at (paths_of new.nodes.items) k ≡ path_at (paths_of old.nodes.items) k)
HasTaken h w old new false =
    BlocksWork h old.start old.nodes.items w × (new.blocked.items ≡ old.blocked.items ++ w ∷ []) × (new.nodes ≡ old.nodes) × (new.queue ≡ old.queue) × (new.next ≡ old.next) × (new.explored ≡ old.explored) × (new.going ≡ old.going)

-- too many paths go on; or nothing free is left in the queue, and nothing was explored; or one item was
abbrev pub HasStepped : {D : Type 0} → Tree D → Tree D → Stepped → Type 0
HasStepped old new s.Many = (most_paths < new.going) × (new.explored ≡ old.explored)
HasStepped old new s.Over = (new.going ≤ most_paths) × (new.explored ≡ old.explored) × (new.next ≡ length new.queue.items)
HasStepped old new s.Explored = new.explored ≡ old.explored + 1

-- what a run that may explore this many items comes to
abbrev pub HasRun : {D : Type 0} → State D → ℕ → Tree D → Tree D → Run → Type 0
HasRun h most old new r.Many = (most_paths < new.going) × (new.explored ≤ old.explored + most)
HasRun h most old new (r.Over k) =
    (new.going ≤ most_paths) × (new.explored + k ≡ old.explored + most) × (new.next ≡ length new.queue.items) × (AllBlock h old.start old.nodes.items old.blocked.items → AllBlock h new.start new.nodes.items new.blocked.items)
HasRun h most old new r.Free =
    (new.going ≤ most_paths) × (new.explored ≡ old.explored + most) × (w : Work) × (drop new.next new.queue.items ≡ w ∷ drop (new.next + 1) new.queue.items) × (BlocksWork h new.start new.nodes.items w → ⊥)

-- what an advance answers, by what it leaves and the number of items that it may come to
abbrev pub IsReply : {D : Type 0} → State D → Asked D → ℕ → Tree D → Progress → Type 0
IsReply h q limit t Ready = (t.explored ≤ limit) × (((front_of t).left ≡ []) ⊎ (most_paths < t.going))
IsReply h q limit t Blocked =
    (t.explored ≤ limit) × ((front_of t).left ≢ []) × AllBlocked h q (front_of t) × (t.going ≤ most_paths) × (left_of t ≡ t.blocked.items)
IsReply h q limit t Moved = (t.explored ≡ limit) × ((x : Item) × Contains (front_of t).left x × (IsBlocked h q.start x → ⊥)) × (t.going ≤ most_paths)

-- each search of the old tree is one of the new tree, and what the call answers is a reply to it, where the call did not fail
abbrev pub RepliesToSearches : {D T E : Type 0} → HeldOf D → Wanting D → ℕ → Tree D → Tree D → Result T E → (T → Progress) → Type 0
RepliesToSearches {D} h k limit old new result reply =
    (q : Asked D) (ps : List (List Step)) → IsSearchIn h k ps q old → IfOk result (λ r. IsSearchIn h k ps q new × IsReply (state_of h) q limit new (reply r))
