-- A run over the items of a front, as the tree holds it.
use Rattle.std.proofs.Common.{◌≡◌, ◌≢◌, ℕ, ◌<◌, ◌≤◌, ◌+◌, List, [], ◌∷◌, ◌++◌, true, false, eqb, map, length, drop, refl, sym, ap, ◌∙◌, subst, arith}
use Rattle.std.proofs.lemmas.Bool.Decides.{nat_tests}
use Rattle.std.proofs.lemmas.List.{append-nil}
use Rattle.std.specs.List.{Contains, AllByRecursion}
use Rattle.sg_base.specs.declared.scope.Scope.{Scope}
use Rattle.sg_base.specs.declared.step.Step.{Step}
use Rattle.sg_base.specs.Path.{end_of}
use Rattle.sg_base.specs.PathTree.{path_at}
use Rattle.sg_base.specs.State.{State, IsOpen, IsUnset}
use Rattle.sg_base.proofs.Finite.{each_at, Contains-map, map-Contains}
use Rattle.sg_query.specs.declared.found_at.FoundAt.{FoundAt}
use Rattle.sg_query.specs.Query.{Asked}
use Rattle.sg_query.specs.State.{Item}
use Rattle.sg_engine.specs.declared.look.Look.{Look}
use Rattle.sg_engine.specs.declared.look.Look.TheVariants.{Many, Over, Free}
use Rattle.sg_engine.specs.Nodes.{NodeOf as Node}
use Rattle.sg_engine.specs.declared.tree.Tree.{Tree}
use Rattle.sg_engine.specs.declared.work.Work.{Work}
use Rattle.sg_engine.specs.declared.work.Work.TheVariants.{Next, Whole}
use Rattle.sg_state.specs.Held.{HeldOf, state_of}
use Rattle.sg_engine.specs.Front.{IsBlocked, AllBlocked}
use Rattle.sg_engine.specs.Keyed.{Wanting}
use Rattle.sg_engine.specs.Run.{HasLooked, IsSearchOn, IsSearchIn}
use Rattle.sg_engine.specs.Tree.{paths_of, item_of, place_of, left_of, front_of, BlocksWork, AllBlock}
use Rattle.sg_engine.proofs.Exploring.{cut_has}

pub each_left : {X : Type 0} (P : X → Type 0) (b r : List X) → AllByRecursion P (b ++ r) → AllByRecursion P b
each_left P [] r a = tt
each_left P (y ∷ b) r a = (a.0, each_left P b r a.1)

-- ---- blocked work over more nodes

module _ {D : Type 0} (h : State D) (start : Scope) (nodes nodes' : List Node) (kept : (k : ℕ) → k < length nodes → path_at (paths_of nodes') k ≡ path_at (paths_of nodes) k) where
  still : (w : Work) → place_of w < length nodes → BlocksWork h start nodes w → BlocksWork h start nodes' w
  still (Next k l) at b = subst (λ (p : List Step). IsOpen h (end_of start p) l) (sym (kept k at)) b
  still (Whole k) at b = subst (λ (p : List Step). IsUnset h (end_of start p)) (sym (kept k at)) b

  pub all_still : (ws : List Work) → AllByRecursion (λ w. place_of w < length nodes) ws → AllBlock h start nodes ws → AllBlock h start nodes' ws
  all_still [] a b = tt
  all_still (w ∷ ws) a b = (still w a.0 b.0, all_still ws a.1 b.1)

-- ---- after a look

module _ {D : Type 0} (h : State D) where
  pub looked_left : (t u : Tree D) (o : Look) → HasLooked h t u o → left_of u ≡ left_of t
  looked_left t u Many l = l.1
  looked_left t u Over l = l.1
  looked_left t u (Free w) l = l.1

  looked_next : (t u : Tree D) (o : Look) → u.queue ≡ t.queue → t.next ≤ length t.queue.items → HasLooked h t u o → u.next ≤ length u.queue.items
  looked_next t u Many same fits l = subst (λ v. u.next ≤ length v.items) (sym same) (let e : u.next ≡ t.next = l.2 in omega (arith, e, fits))
  looked_next t u Over same fits l = subst (λ v. u.next ≤ length v.items) (sym same) (let e : u.next ≡ length t.queue.items = l.2 in omega (arith, e))
  looked_next t u (Free w) same fits l = subst (λ v. u.next ≤ length v.items) (sym same) (let e : u.next < length t.queue.items = l.3 in omega (arith, e))

  module _ (t u : Tree D) (w : Work) (a : u.start ≡ t.start) (b : u.nodes ≡ t.nodes) (c : u.queue ≡ t.queue) (l : HasLooked h t u (Free w)) where
    pub free_head : drop u.next u.queue.items ≡ w ∷ drop (u.next + 1) u.queue.items
    free_head = subst (λ v. drop u.next v.items ≡ w ∷ drop (u.next + 1) v.items) (sym c) l.2

    pub free_fits : u.next < length u.queue.items
    free_fits = subst (λ v. u.next < length v.items) (sym c) l.3

    pub free_block : AllBlock h t.start t.nodes.items t.blocked.items → AllBlock h u.start u.nodes.items u.blocked.items
    free_block all = subst (λ (s : Scope). AllBlock h s u.nodes.items u.blocked.items) (sym a) (subst (λ v. AllBlock h t.start v.items u.blocked.items) (sym b) (l.4 all))

    pub free_free : BlocksWork h u.start u.nodes.items w → ⊥
    free_free k = l.5 (subst (λ v. BlocksWork h t.start v.items w) b (subst (λ (s : Scope). BlocksWork h s u.nodes.items w) a k))

  module _ (t u : Tree D) (a : u.start ≡ t.start) (b : u.nodes ≡ t.nodes) (c : u.queue ≡ t.queue) (l : HasLooked h t u Over) where
    pub over_end : u.next ≡ length u.queue.items
    over_end = subst (λ v. u.next ≡ length v.items) (sym c) l.2

    pub over_block : AllBlock h t.start t.nodes.items t.blocked.items → AllBlock h u.start u.nodes.items u.blocked.items
    over_block all = subst (λ (s : Scope). AllBlock h s u.nodes.items u.blocked.items) (sym a) (subst (λ v. AllBlock h t.start v.items u.blocked.items) (sym b) (l.3 all))

-- ---- a search that looked on

module _ {D : Type 0} (h : HeldOf D) (k : Wanting D) (ps : List (List Step)) (q : Asked D) where
  search_same : (start start' : Scope) (nodes nodes' : List Node) (left left' : List Work) (found found' : List (FoundAt D)) (explored explored' going going' : ℕ) → start' ≡ start → nodes' ≡ nodes → left' ≡ left → found' ≡ found → explored' ≡ explored → going' ≡ going → IsSearchOn h k ps q start nodes left found explored going → IsSearchOn h k ps q start' nodes' left' found' explored' going'
  search_same start start' nodes nodes' left left' found found' explored explored' going going' a b c d e f s = rw (a, b, c, d, e, f) s

  pub looked_search : (t u : Tree D) (o : Look) → u.start ≡ t.start → u.nodes ≡ t.nodes → u.queue ≡ t.queue → u.found ≡ t.found → u.explored ≡ t.explored → u.going ≡ t.going → HasLooked (state_of h) t u o → IsSearchIn h k ps q t → IsSearchIn h k ps q u
  looked_search t u o a b c d e f l s = (
    search_same t.start u.start t.nodes.items u.nodes.items (left_of t) (left_of u) t.found.items u.found.items t.explored u.explored t.going u.going a (ap (λ v. v.items) b) (looked_left (state_of h) t u o l) (ap (λ v. v.items) d) e f s.0,
    looked_next (state_of h) t u o c s.1 l,
  )

  -- the first of the queue is taken
  pub taken : (u : Tree D) (w : Work) → drop u.next u.queue.items ≡ w ∷ drop (u.next + 1) u.queue.items → u.next < length u.queue.items → IsSearchIn h k ps q u → IsSearchOn h k ps q u.start u.nodes.items (u.blocked.items ++ w ∷ drop (u.next + 1) u.queue.items) u.found.items u.explored u.going × (u.next + 1 ≤ length u.queue.items)
  taken u w head fits s = (
    subst (λ (r : List Work). IsSearchOn h k ps q u.start u.nodes.items (u.blocked.items ++ r) u.found.items u.explored u.going) head s.0,
    omega (arith, fits),
  )

-- ---- what was put aside in the place of a queue that is over

drop_end : {X : Type 0} (xs : List X) → drop (length xs) xs ≡ []
drop_end [] = refl
drop_end (x ∷ xs) = drop_end xs

pub over_left : {X : Type 0} (blocked queue : List X) (at : ℕ) → at ≡ length queue → blocked ++ drop at queue ≡ blocked
over_left {X} blocked queue at e = ap (λ (k : ℕ). blocked ++ drop k queue) e ∙ (ap (λ (r : List X). blocked ++ r) (drop_end queue) ∙ append-nil blocked)

module _ {D : Type 0} (h : HeldOf D) (k : Wanting D) (ps : List (List Step)) (q : Asked D) where
  pub again_search : (t : Tree D) (blocked queue : List Work) → blocked ≡ [] → queue ≡ t.blocked.items → t.next ≡ length t.queue.items → IsSearchIn h k ps q t → IsSearchOn h k ps q t.start t.nodes.items (blocked ++ drop 0 queue) t.found.items t.explored t.going × (0 ≤ length queue)
  again_search t blocked queue a b over s =
      let same : left_of t ≡ t.blocked.items = over_left t.blocked.items t.queue.items t.next over in
      let left : blocked ++ drop 0 queue ≡ left_of t = ap (λ (r : List Work). r ++ queue) a ∙ (b ∙ sym same) in
      (subst (λ (r : List Work). IsSearchOn h k ps q t.start t.nodes.items r t.found.items t.explored t.going) (sym left) s.0, omega arith)

-- ---- the end of a run

pub is_zero : (n : ℕ) → eqb n 0 ≡ true → n ≡ 0
is_zero n h = grind (arith, nat_tests)

pub above_zero : (n : ℕ) → eqb n 0 ≡ false → 0 < n
above_zero n h = grind (arith, nat_tests)

no_items : (f : Work → Item) (ws : List Work) → length ws ≡ 0 → map f ws ≡ []
no_items f [] l = refl
no_items f (w ∷ ws) l = absurd (omega arith)

some_items : (f : Work → Item) (ws : List Work) → 0 < length ws → map f ws ≡ [] → ⊥
some_items f [] l e = absurd (omega arith)
some_items f (w ∷ ws) l e = cc

module _ {D : Type 0} (h : State D) (q : Asked D) (t : Tree D) (start : q.start ≡ t.start) where
  -- work at the queue's front that is free is an item left that is not blocked
  pub free_item : (w : Work) → drop t.next t.queue.items ≡ w ∷ drop (t.next + 1) t.queue.items → (BlocksWork h t.start t.nodes.items w → ⊥) → (x : Item) × Contains (front_of t).left x × (IsBlocked h q.start x → ⊥)
  free_item w head free = (
    item_of (paths_of t.nodes.items) w,
    map-Contains (item_of (paths_of t.nodes.items)) (left_of t) w (subst (λ (r : List Work). Contains (t.blocked.items ++ r) w) (sym head) (cut_has t.blocked.items (drop (t.next + 1) t.queue.items) w)),
    (λ k. free (subst (λ (s : Scope). IsBlocked h s (item_of (paths_of t.nodes.items) w)) start k)),
  )

  module _ (over : t.next ≡ length t.queue.items) where
    pub left_is : left_of t ≡ t.blocked.items
    left_is = over_left t.blocked.items t.queue.items t.next over

    pub nothing_left : length t.blocked.items ≡ 0 → (front_of t).left ≡ []
    nothing_left l = ap (map (item_of (paths_of t.nodes.items))) left_is ∙ no_items (item_of (paths_of t.nodes.items)) t.blocked.items l

    pub something_left : 0 < length t.blocked.items → (front_of t).left ≢ []
    something_left l e = some_items (item_of (paths_of t.nodes.items)) t.blocked.items l (sym (ap (map (item_of (paths_of t.nodes.items))) left_is) ∙ e)

    pub all_blocked : AllBlock h t.start t.nodes.items t.blocked.items → AllBlocked h q (front_of t)
    all_blocked all x c =
        let k = Contains-map (item_of (paths_of t.nodes.items)) (left_of t) x c in
        subst (λ (s : Scope). IsBlocked h s x) (sym start) (subst (λ (y : Item). IsBlocked h t.start y) (sym k.2) (each_at (BlocksWork h t.start t.nodes.items) t.blocked.items all k.0 (subst (λ (r : List Work). Contains r k.0) left_is k.1)))
