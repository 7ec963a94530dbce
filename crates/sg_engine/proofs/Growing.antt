-- A tree of paths that gets one more node.
use Rattle.std.proofs.Common.{◌≡◌, ◌≢◌, ℕ, zero, suc, ◌<◌, ◌≤◌, ◌+◌, List, [], ◌∷◌, ◌++◌, ◌↔◌, Bool, true, false, not, ◌&&◌, ◌||◌, map, take, drop, length, length-append, slice_index_or, inl, inr, refl, sym, ap, ◌∙◌, subst, append_assoc, arith}
use Rattle.std.proofs.lemmas.List.{append-nil, get_or_append_left, take_more, drop-append-le}
use Rattle.std.proofs.Math.Seq.{get_or-append_seam}
use Rattle.std.proofs.lemmas.Bool.{cases_lt, cases_Bool}
use Rattle.std.specs.List.{Contains, AllByRecursion, list_any, filter}
use Rattle.sg_base.specs.declared.scope.Scope.{Scope}
use Rattle.sg_base.specs.declared.step.Step.{Step}
use Rattle.sg_base.specs.List.{IsDistinct}
use Rattle.sg_base.specs.Label.{Word}
use Rattle.sg_base.specs.Path.{word_of}
use Rattle.sg_base.specs.PathTree.{path_at}
use Rattle.sg_base.specs.Scope.{is_scope}
use Rattle.sg_base.proofs.Finite.{single, Contains-head, map-Contains, Contains-map, Distinct-map, each_from}
use Rattle.sg_base.proofs.Trees.{path_at-left, path_at-end}
use Rattle.sg_expr.specs.Tree.{ExprOf}
use Rattle.sg_expr.specs.Word.{In, IsContinuable}
use Rattle.sg_query.specs.declared.found.Found.{Found}
use Rattle.sg_query.specs.declared.found_at.FoundAt.{FoundAt}
use Rattle.sg_query.specs.State.{Item, next, whole}
use Rattle.sg_query.specs.Steps.{is_fresh}
use Rattle.sg_query.proofs.Paths.{word_of-append, end_of-append}
use Rattle.sg_engine.specs.Nodes.{NodeOf as Node, RestOf, InRest}
use Rattle.sg_engine.specs.declared.work.Work.{Work}
use Rattle.sg_engine.specs.declared.work.Work.TheVariants.{Next, Whole}
use Rattle.sg_engine.specs.Front.{Front, path_of, IsOffered, step_to}
use Rattle.sg_engine.specs.Growth.{Keeps, Gains, into_targets}
use Rattle.sg_engine.specs.Tree.{paths_from, paths_of, item_of, place_of, IsNodeOf, IsWorkOf, found_of, front_on, IsTreeOn}
use Rattle.sg_engine.proofs.Exploring.{gains_both}

-- ---- paths by place

paths_from-push : (acc : List (List Step)) (ns : List Node) (n : Node) → paths_from acc (ns ++ n ∷ []) ≡ paths_from acc ns ++ (path_at (paths_from acc ns) n.parent ++ n.step ∷ []) ∷ []
paths_from-push acc [] n = refl
paths_from-push acc (m ∷ ns) n = paths_from-push (acc ++ (path_at acc m.parent ++ m.step ∷ []) ∷ []) ns n

pub paths_of-push : (ns : List Node) (n : Node) → 0 < length ns → paths_of (ns ++ n ∷ []) ≡ paths_of ns ++ (path_at (paths_of ns) n.parent ++ n.step ∷ []) ∷ []
paths_of-push [] n l = absurd (omega arith)
paths_of-push (m ∷ ns) n l = paths_from-push ([] ∷ []) ns n

paths_from-length : (acc : List (List Step)) (ns : List Node) → length (paths_from acc ns) ≡ length acc + length ns
paths_from-length acc [] = omega arith
paths_from-length acc (m ∷ ns) =
    let more : List (List Step) = acc ++ (path_at acc m.parent ++ m.step ∷ []) ∷ [] in
    omega (arith, paths_from-length more ns, length-append acc ((path_at acc m.parent ++ m.step ∷ []) ∷ []))

pub paths_of-length : (ns : List Node) → length (paths_of ns) ≡ length ns
paths_of-length [] = refl
paths_of-length (m ∷ ns) = omega (arith, paths_from-length ([] ∷ []) ns)

-- ---- freshness, step by step

any-push : (f : Step → Bool) (ps : List Step) (x : Step) → list_any f (ps ++ x ∷ []) ≡ (list_any f ps || f x)
any-push f [] x = elim (cases_Bool (f x)) [ inl e ↦ rw e refl | inr e ↦ rw e refl ]
any-push f (p ∷ ps) x =
    elim (cases_Bool (f p)) [
      | inl e ↦ rw e refl
      | inr e ↦ rw e (any-push f ps x)
    ]

not_both : (a b c : Bool) → (a && not (b || c)) ≡ ((a && not b) && not c)
not_both true true c = refl
not_both true false c = refl
not_both false b c = refl

pub fresh-push : (start : Scope) (ps : List Step) (x : Step) (t : Scope) → is_fresh start (ps ++ x ∷ []) t ≡ (is_fresh start ps t && not (is_scope x.to t))
fresh-push start ps x t =
    ap (λ (b : Bool). not (is_scope t start) && not b) (any-push (λ p. is_scope p.to t) ps x)
    ∙ not_both (not (is_scope t start)) (list_any (λ p. is_scope p.to t) ps) (is_scope x.to t)

and_true : (a : Bool) → (a && not false) ≡ a
and_true true = refl
and_true false = refl

and_false : (a : Bool) → (a && not true) ≡ false
and_false true = refl
and_false false = refl

pub fresh_up : (start : Scope) (ps qs : List Step) (x : Step) (t : Scope) → qs ≡ ps ++ x ∷ [] → is_scope x.to t ≡ false → is_fresh start qs t ≡ is_fresh start ps t
fresh_up start ps qs x t e n =
    ap (λ (r : List Step). is_fresh start r t) e ∙ (fresh-push start ps x t ∙ (ap (λ (b : Bool). is_fresh start ps t && not b) n ∙ and_true (is_fresh start ps t)))

pub fresh_hit : (start : Scope) (ps qs : List Step) (x : Step) (t : Scope) → qs ≡ ps ++ x ∷ [] → is_scope x.to t ≡ true → is_fresh start qs t ≡ false
fresh_hit start ps qs x t e n =
    ap (λ (r : List Step). is_fresh start r t) e ∙ (fresh-push start ps x t ∙ (ap (λ (b : Bool). is_fresh start ps t && not b) n ∙ and_false (is_fresh start ps t)))

pub fresh_root : (start : Scope) (qs : List Step) (t : Scope) → qs ≡ [] → is_fresh start qs t ≡ not (is_scope t start)
fresh_root start qs t e = ap (λ (r : List Step). is_fresh start r t) e ∙ and_true (not (is_scope t start))

-- ---- one more node

each_more : {X : Type 0} (P Q : X → Type 0) (xs ys : List X) → ((x : X) → P x → Q x) → AllByRecursion P xs → AllByRecursion Q ys → AllByRecursion Q (xs ++ ys)
each_more P Q [] ys f a b = b
each_more P Q (x ∷ xs) ys f a b = (f x a.0, each_more P Q xs ys f a.1 b)

each_same : {X : Type 0} (P Q : X → Type 0) (xs : List X) → ((x : X) → P x → Q x) → AllByRecursion P xs → AllByRecursion Q xs
each_same P Q [] f a = tt
each_same P Q (x ∷ xs) f a = (f x a.0, each_same P Q xs f a.1)

map_same : {X Y : Type 0} (P : X → Type 0) (f g : X → Y) (xs : List X) → ((x : X) → P x → f x ≡ g x) → AllByRecursion P xs → map f xs ≡ map g xs
map_same P f g [] h a = refl
map_same {X} {Y} P f g (x ∷ xs) h a = ap (λ (y : Y). y ∷ map f xs) (h x a.0) ∙ ap (λ (t : List Y). g x ∷ t) (map_same P f g xs h a.1)

pub map-append : {X Y : Type 0} (f : X → Y) (xs ys : List X) → map f (xs ++ ys) ≡ map f xs ++ map f ys
map-append f [] ys = refl
map-append {X} {Y} f (x ∷ xs) ys = ap (λ (t : List Y). f x ∷ t) (map-append f xs ys)

pub item_same : (ps qs : List (List Step)) (w : Work) → place_of w < length ps → item_of (ps ++ qs) w ≡ item_of ps w
item_same ps qs (Next k l) h = ap (λ (p : List Step). next p l) (path_at-left ps qs k h)
item_same ps qs (Whole k) h = ap (λ (p : List Step). whole p) (path_at-left ps qs k h)

module _ {D : Type 0} (e : ExprOf) (start : Scope) (nodes : List Node) (left : List Work) (found : List (FoundAt D)) (explored going : ℕ) (tree : IsTreeOn e start nodes left found explored going)
    (parent : ℕ) (at : parent < length nodes) (over : Node) (over_is : over ≡ slice_index_or nodes parent over) (l : ℕ) (to : Scope) (rest : RestOf) (after : (w : Word) → (InRest rest w) ↔ (InRest over.rest (l ∷ w)))
    (ws : List Work) (once : IsDistinct ws) (seventeen : length ws ≤ 17) (offers : (x : Work) → (Contains ws x) ↔ (IsWorkOf rest (length nodes) x)) where
  abbrev pub node : Node
  node = record { parent = parent; step = step_to l to; rest = rest }

  abbrev pub path : List Step
  path = path_at (paths_of nodes) parent ++ step_to l to ∷ []

  abbrev pub paths' : List (List Step)
  paths' = paths_of (nodes ++ node ∷ [])

  paths_are : paths' ≡ paths_of nodes ++ path ∷ []
  paths_are = paths_of-push nodes node tree.root

  longer : length (nodes ++ node ∷ []) ≡ length nodes + 1
  longer = omega (arith, length-append nodes (node ∷ []))

  size : length (paths_of nodes) ≡ length nodes
  size = paths_of-length nodes

  old_at : (k : ℕ) → k < length nodes → path_at paths' k ≡ path_at (paths_of nodes) k
  old_at k h = ap (λ (t : List (List Step)). path_at t k) paths_are ∙ path_at-left (paths_of nodes) (path ∷ []) k (omega (arith, size, h))

  new_at : path_at paths' (length nodes) ≡ path
  new_at = ap (λ (t : List (List Step)). path_at t (length nodes)) paths_are ∙ (ap (λ (k : ℕ). path_at (paths_of nodes ++ path ∷ []) k) (sym size) ∙ path_at-end (paths_of nodes) path)

  pub rest_is : (w : Word) → (InRest rest w) ↔ (In e (word_of path ++ w))
  rest_is w =
      let same : word_of (path_at (paths_of nodes) parent) ++ (l ∷ w) ≡ word_of path ++ w =
      sym (ap (λ (t : Word). t ++ w) (word_of-append (path_at (paths_of nodes) parent) (step_to l to ∷ [])) ∙ append_assoc (word_of (path_at (paths_of nodes) parent)) (l ∷ []) w) in
      let above = (tree.node parent over at over_is).rest (l ∷ w) in
      ((λ i. subst (In e) same (above.0 ((after w).0 i))), (λ i. (after w).1 (above.1 (subst (In e) (sym same) i))))

  old_node : (i : ℕ) (n : Node) → i < length nodes → n ≡ slice_index_or (nodes ++ node ∷ []) i n → n ≡ slice_index_or nodes i n
  old_node i n h k = k ∙ get_or_append_left nodes (node ∷ []) n i h

  new_node : (i : ℕ) (n : Node) → i ≡ length nodes → n ≡ slice_index_or (nodes ++ node ∷ []) i n → n ≡ node
  new_node i n h k = k ∙ (ap (λ (j : ℕ). slice_index_or (nodes ++ node ∷ []) j n) h ∙ get_or-append_seam nodes node [] n)

  new_is : IsNodeOf start e node path
  new_is = record { ends = end_of-append start (path_at (paths_of nodes) parent) (step_to l to ∷ []); rest = rest_is }

  ws_placed : (w : Work) → Contains ws w → place_of w ≡ length nodes
  ws_placed (Next k m) c = ((offers (Next k m)).0 c).0
  ws_placed (Whole k) c = ((offers (Whole k)).0 c).0

  pub tree_grows : (going' : ℕ) → going' ≤ length nodes + 1 → IsTreeOn e start (nodes ++ node ∷ []) (left ++ ws) found explored going'
  tree_grows going' few =
      record {
        root = omega (arith, longer);
        node = λ i n h k. elim (cases_lt i (length nodes)) [
          | inl low ↦ subst (IsNodeOf start e n) (sym (old_at i low)) (tree.node i n low (old_node i n low k))
          | inr far ↦
              let here : i ≡ length nodes = omega (arith, longer, h) in
              subst (λ (p : List Step). IsNodeOf start e n p) (sym (ap (λ (j : ℕ). path_at paths' j) here ∙ new_at)) (subst (λ (m : Node). IsNodeOf start e m path) (sym (new_node i n here k)) new_is)
        ];
        first = old_at 0 tree.root ∙ tree.first;
        grown = λ i n z h k. elim (cases_lt i (length nodes)) [
          | inl low ↦
              let g = tree.grown i n z low (old_node i n low k) in
              let near : n.parent < length nodes = omega (arith, g.0) in
              (g.0, old_at i low ∙ (g.1 ∙ ap (λ (p : List Step). p ++ n.step ∷ []) (sym (old_at n.parent near))))
          | inr far ↦
              let here : i ≡ length nodes = omega (arith, longer, h) in
              let same : n ≡ node = new_node i n here k in
              let up : n.parent ≡ parent = ap (λ (m : Node). m.parent) same in (
                omega (arith, up, at, here),
                ap (λ (j : ℕ). path_at paths' j) here ∙ (new_at ∙ (ap (λ (p : List Step). p ++ step_to l to ∷ []) (sym (ap (λ (j : ℕ). path_at paths' j) up ∙ old_at parent at)) ∙ ap (λ (m : Node). path_at paths' n.parent ++ m.step ∷ []) (sym same))),
              )
        ];
        left_in = each_more (λ w. place_of w < length nodes) (λ w. place_of w < length (nodes ++ node ∷ [])) left ws (λ w h. omega (arith, longer, h)) tree.left_in
            (each_from (λ w. place_of w < length (nodes ++ node ∷ [])) ws (λ w c. omega (arith, longer, ws_placed w c)));
        found_in = each_same (λ f. f.place < length nodes) (λ f. f.place < length (nodes ++ node ∷ [])) found (λ f h. omega (arith, longer, h)) tree.found_in;
        few = omega (arith, longer, few);
        counted = omega (arith, longer, length-append left ws, seventeen, tree.counted);
      }

  item_next : (k m : ℕ) → k ≡ length nodes → item_of paths' (Next k m) ≡ next path m
  item_next k m h = ap (λ (p : List Step). next p m) (ap (λ (j : ℕ). path_at paths' j) h ∙ new_at)

  item_whole : (k : ℕ) → k ≡ length nodes → item_of paths' (Whole k) ≡ whole path
  item_whole k h = ap (λ (p : List Step). whole p) (ap (λ (j : ℕ). path_at paths' j) h ∙ new_at)

  abbrev news : List Item
  news = map (item_of paths') ws

  same_work : (a b : Work) → place_of a ≡ length nodes → place_of b ≡ length nodes → item_of paths' a ≡ item_of paths' b → a ≡ b
  same_work (Next j m) (Next k n) h g s = let both : next path m ≡ next path n = sym (item_next j m h) ∙ (s ∙ item_next k n g) in let same : m ≡ n = cc both in cc (h, g, same)
  same_work (Next j m) (Whole k) h g s = let both : next path m ≡ whole path = sym (item_next j m h) ∙ (s ∙ item_whole k g) in cc both
  same_work (Whole j) (Next k n) h g s = let both : whole path ≡ next path n = sym (item_whole j h) ∙ (s ∙ item_next k n g) in cc both
  same_work (Whole j) (Whole k) h g s = cc (h, g)

  news_once : IsDistinct news
  news_once = Distinct-map (item_of paths') ws once (λ a b c d s. same_work a b (ws_placed a c) (ws_placed b d) s)

  offered_of : (w : Work) → IsWorkOf rest (length nodes) w → Contains (path ∷ []) (path_of (item_of paths' w)) × IsOffered e (item_of paths' w)
  offered_of (Next k m) i =
      subst (λ (x : Item). Contains (path ∷ []) (path_of x) × IsOffered e x) (sym (item_next k m i.0))
      (Contains-head path [], ((i.1).0, subst (In e) (sym (append_assoc (word_of path) (m ∷ []) (i.1).0)) ((rest_is (m ∷ (i.1).0)).0 (i.1).1)))
  offered_of (Whole k) i =
      subst (λ (x : Item). Contains (path ∷ []) (path_of x) × IsOffered e x) (sym (item_whole k i.0))
      (Contains-head path [], subst (In e) (append-nil (word_of path)) ((rest_is []).0 i.1))

  news_from : (x : Item) → Contains news x → Contains (path ∷ []) (path_of x) × IsOffered e x
  news_from x c =
      let k = Contains-map (item_of paths') ws x c in
      subst (λ (y : Item). Contains (path ∷ []) (path_of y) × IsOffered e y) (sym k.2) (offered_of k.0 ((offers k.0).0 k.1))

  news_to : (x : Item) → Contains (path ∷ []) (path_of x) → IsOffered e x → Contains news x
  news_to (next ps m) c o =
      let same : ps ≡ path = single path ps c in
      let here : In e ((word_of path ++ m ∷ []) ++ o.0) = subst (λ (p : List Step). In e ((word_of p ++ m ∷ []) ++ o.0)) same o.1 in
      let inside : InRest rest (m ∷ o.0) = (rest_is (m ∷ o.0)).1 (subst (In e) (append_assoc (word_of path) (m ∷ []) o.0) here) in
      subst (λ (x : Item). Contains news x) (item_next (length nodes) m refl ∙ ap (λ (p : List Step). next p m) (sym same))
      (map-Contains (item_of paths') ws (Next (length nodes) m) ((offers (Next (length nodes) m)).1 (refl, (o.0, inside))))
  news_to (whole ps) c o =
      let same : ps ≡ path = single path ps c in
      let here : In e (word_of path) = subst (λ (p : List Step). In e (word_of p)) same o in
      let inside : InRest rest [] = (rest_is []).1 (subst (In e) (sym (append-nil (word_of path))) here) in
      subst (λ (x : Item). Contains news x) (item_whole (length nodes) refl ∙ ap (λ (p : List Step). whole p) (sym same))
      (map-Contains (item_of paths') ws (Whole (length nodes)) ((offers (Whole (length nodes))).1 (refl, inside)))

  gains_with : (going' : ℕ) (gs : List (List Step)) → going' ≡ going + length gs → Keeps (λ ps. IsContinuable e (word_of ps)) (path ∷ []) gs → Gains e (front_on start nodes left found explored going) (front_on start (nodes ++ node ∷ []) (left ++ ws) found explored going') (path ∷ [])
  gains_with going' gs count keeps =
      record {
        paths = paths_are;
        items = (
          news,
          map-append (item_of paths') left ws ∙ ap (λ (t : List Item). t ++ news) (map_same (λ w. place_of w < length nodes) (item_of paths') (item_of (paths_of nodes)) left
              (λ w h. ap (λ (t : List (List Step)). item_of t w) paths_are ∙ item_same (paths_of nodes) (path ∷ []) w (omega (arith, size, h))) tree.left_in),
          (λ d. news_once),
          λ x. (news_from x, λ o. news_to x o.0 o.1),
        );
        goers = (gs, count, keeps);
        found = map_same (λ f. f.place < length nodes) (found_of start paths') (found_of start (paths_of nodes)) found
            (λ f h. ap (λ (p : List Step). let r : Found D = record { path = record { start = start; steps = p }; datum = f.datum } in r) (old_at f.place h)) tree.found_in;
        explored = refl;
      }

  pub gains_going : (v : Word) → v ≢ [] → InRest rest v → Gains e (front_on start nodes left found explored going) (front_on start (nodes ++ node ∷ []) (left ++ ws) found explored (going + 1)) (path ∷ [])
  gains_going v n i = gains_with (going + 1) (path ∷ []) refl (inl ((v, n, (rest_is v).0 i), ([], refl, refl)))

  pub gains_ending : ((v : Word) → v ≢ [] → InRest rest v → ⊥) → Gains e (front_on start nodes left found explored going) (front_on start (nodes ++ node ∷ []) (left ++ ws) found explored going) (path ∷ [])
  gains_ending none = gains_with going [] (omega arith) (inr ((λ c. none c.0 c.1 ((rest_is c.0).1 c.2)), refl))

-- ---- the same for the lists of what is left

pub queue_on : (from : ℕ) (queue queue' ws : List Work) → from ≤ length queue → queue' ≡ queue ++ ws → (drop from queue' ≡ drop from queue ++ ws) × (from ≤ length queue')
queue_on from queue queue' ws fits more = (
  ap (λ (t : List Work). drop from t) more ∙ drop-append-le from queue ws fits,
  (let size : length queue' ≡ length queue + length ws = ap (λ (t : List Work). length t) more ∙ length-append queue ws in omega (arith, size, fits)),
)

module _ {D : Type 0} (e : ExprOf) (start : Scope) (nodes : List Node) (blocked queue : List Work) (from : ℕ) (found : List (FoundAt D)) (explored going : ℕ) (tree : IsTreeOn e start nodes (blocked ++ drop from queue) found explored going × (from ≤ length queue))
    (parent : ℕ) (at : parent < length nodes) (over : Node) (over_is : over ≡ slice_index_or nodes parent over) (l : ℕ) (to : Scope) (rest : RestOf) (after : (w : Word) → (InRest rest w) ↔ (InRest over.rest (l ∷ w)))
    (place : ℕ) (place_is : place ≡ length nodes) (queue' : List Work) (offers : (ws : List Work) × (queue' ≡ queue ++ ws) × IsDistinct ws × (length ws ≤ 17) × ((x : Work) → (Contains ws x) ↔ (IsWorkOf rest place x))) where
  abbrev pub entry : Node
  entry = record { parent = parent; step = step_to l to; rest = rest }

  abbrev pub Pushed : ℕ → List Work → Type 0
  Pushed going' left =
      IsTreeOn e start (nodes ++ entry ∷ []) left found explored going' × Gains e (front_on start nodes (blocked ++ drop from queue) found explored going) (front_on start (nodes ++ entry ∷ []) left found explored going') ((path_at (paths_of nodes) parent ++ step_to l to ∷ []) ∷ [])

  queue_is : (drop from queue' ≡ drop from queue ++ offers.0) × (from ≤ length queue')
  queue_is = queue_on from queue queue' offers.0 tree.1 offers.1

  left_is : (blocked ++ drop from queue) ++ offers.0 ≡ blocked ++ drop from queue'
  left_is = append_assoc blocked (drop from queue) offers.0 ∙ ap (λ (t : List Work). blocked ++ t) (sym queue_is.0)

  here : (x : Work) → (Contains offers.0 x) ↔ (IsWorkOf rest (length nodes) x)
  here = subst (λ (k : ℕ). (x : Work) → (Contains offers.0 x) ↔ (IsWorkOf rest k x)) place_is offers.4

  abbrev pub Pushes : ℕ → Type 0
  Pushes going' =
      (IsTreeOn e start (nodes ++ entry ∷ []) (blocked ++ drop from queue') found explored going' × (from ≤ length queue')) × Gains e (front_on start nodes (blocked ++ drop from queue) found explored going) (front_on start (nodes ++ entry ∷ []) (blocked ++ drop from queue') found explored going') ((path_at (paths_of nodes) parent ++ step_to l to ∷ []) ∷ [])

  pub pushed_going : (v : Word) × (v ≢ []) × InRest rest v → Pushes (going + 1)
  pushed_going k =
      let p = subst (Pushed (going + 1)) left_is (
        tree_grows e start nodes (blocked ++ drop from queue) found explored going (tree.0) parent at over over_is l to rest after offers.0 offers.2 offers.3 here (going + 1) (omega (arith, (tree.0).few)),
        gains_going e start nodes (blocked ++ drop from queue) found explored going (tree.0) parent at over over_is l to rest after offers.0 offers.2 offers.3 here k.0 k.1 k.2,
      ) in
      ((p.0, queue_is.1), p.1)

  pub pushed_ending : ((v : Word) × (v ≢ []) × InRest rest v → ⊥) → Pushes going
  pushed_ending n =
      let p = subst (Pushed going) left_is (
        tree_grows e start nodes (blocked ++ drop from queue) found explored going (tree.0) parent at over over_is l to rest after offers.0 offers.2 offers.3 here going (omega (arith, (tree.0).few)),
        gains_ending e start nodes (blocked ++ drop from queue) found explored going (tree.0) parent at over over_is l to rest after offers.0 offers.2 offers.3 here (λ v a b. n (v, a, b)),
      ) in
      ((p.0, queue_is.1), p.1)

-- ---- the paths into a row, target by target

filter-in : {X : Type 0} (f : X → Bool) (xs : List X) (x : X) → f x ≡ true → filter f (xs ++ x ∷ []) ≡ filter f xs ++ x ∷ []
filter-in f [] x h = rw h refl
filter-in {X} f (y ∷ xs) x h =
    elim (cases_Bool (f y)) [
      | inl e ↦ rw e (ap (λ (t : List X). y ∷ t) (filter-in f xs x h))
      | inr e ↦ rw e (filter-in f xs x h)
    ]

filter-out : {X : Type 0} (f : X → Bool) (xs : List X) (x : X) → f x ≡ false → filter f (xs ++ x ∷ []) ≡ filter f xs
filter-out f [] x h = rw h refl
filter-out {X} f (y ∷ xs) x h =
    elim (cases_Bool (f y)) [
      | inl e ↦ rw e (ap (λ (t : List X). y ∷ t) (filter-out f xs x h))
      | inr e ↦ rw e (filter-out f xs x h)
    ]

module _ {D : Type 0} (e : ExprOf) (f g : Front D) (start : Scope) (ps : List Step) (l : ℕ) (row : List Scope) (k : ℕ) (t : Scope) (in_row : k < length row) (is : t ≡ slice_index_or row k t) where
  longer_row : take (k + 1) row ≡ take k row ++ t ∷ []
  longer_row = take_more row k t in_row ∙ ap (λ (x : Scope). take k row ++ x ∷ []) (sym is)

  pub row_in : (h : Front D) (qs : List Step) → qs ≡ ps → is_fresh start qs t ≡ true → Gains e f g (into_targets start ps l (take k row)) → Gains e g h ((qs ++ step_to l t ∷ []) ∷ []) → Gains e f h (into_targets start ps l (take (k + 1) row))
  row_in h qs same fresh a b =
      let now : is_fresh start ps t ≡ true = subst (λ (p : List Step). is_fresh start p t ≡ true) same fresh in
      let one : Gains e g h ((ps ++ step_to l t ∷ []) ∷ []) = subst (λ (p : List Step). Gains e g h ((p ++ step_to l t ∷ []) ∷ [])) same b in
      let paths : into_targets start ps l (take (k + 1) row) ≡ into_targets start ps l (take k row) ++ (ps ++ step_to l t ∷ []) ∷ [] =
      ap (λ (ts : List Scope). into_targets start ps l ts) longer_row
      ∙ (ap (λ (ts : List Scope). map (λ (t : Scope). ps ++ step_to l t ∷ []) ts) (filter-in (is_fresh start ps) (take k row) t now)
      ∙ map-append (λ (t : Scope). ps ++ step_to l t ∷ []) (filter (is_fresh start ps) (take k row)) (t ∷ [])) in
      subst (Gains e f h) (sym paths) (gains_both e f g h (into_targets start ps l (take k row)) ((ps ++ step_to l t ∷ []) ∷ []) a one)

  pub row_out : (qs : List Step) → qs ≡ ps → is_fresh start qs t ≡ false → Gains e f g (into_targets start ps l (take k row)) → Gains e f g (into_targets start ps l (take (k + 1) row))
  row_out qs same fresh a =
      let now : is_fresh start ps t ≡ false = subst (λ (p : List Step). is_fresh start p t ≡ false) same fresh in
      let paths : into_targets start ps l (take (k + 1) row) ≡ into_targets start ps l (take k row) =
      ap (λ (ts : List Scope). into_targets start ps l ts) longer_row
      ∙ ap (λ (ts : List Scope). map (λ (t : Scope). ps ++ step_to l t ∷ []) ts) (filter-out (is_fresh start ps) (take k row) t now) in
      subst (Gains e f g) (sym paths) a

-- a node that was there keeps its path
pub place_kept : {D : Type 0} (e : ExprOf) (f g : Front D) (more : List (List Step)) (nodes nodes' : List Node) (k : ℕ) → f.paths ≡ paths_of nodes → g.paths ≡ paths_of nodes' → Gains e f g more → k < length nodes → (k < length nodes') × (path_at (paths_of nodes') k ≡ path_at (paths_of nodes) k)
place_kept e f g more nodes nodes' k a b gains h =
    let same : paths_of nodes' ≡ paths_of nodes ++ more = sym b ∙ (gains.paths ∙ ap (λ (t : List (List Step)). t ++ more) a) in
    let size : length (paths_of nodes') ≡ length (paths_of nodes) + length more = ap (λ (t : List (List Step)). length t) same ∙ length-append (paths_of nodes) more in
    (omega (arith, size, paths_of-length nodes, paths_of-length nodes', h), ap (λ (t : List (List Step)). path_at t k) same ∙ path_at-left (paths_of nodes) more k (omega (arith, paths_of-length nodes, h)))

pub any_default : {X : Type 0} (xs : List X) (k : ℕ) (d e : X) → k < length xs → slice_index_or xs k d ≡ slice_index_or xs k e
any_default [] k d e l = absurd (omega arith)
any_default (x ∷ xs) zero d e l = refl
any_default (x ∷ xs) (suc k) d e l = any_default xs k d e (omega arith)

-- ---- targets in two lists

filter-append : {X : Type 0} (f : X → Bool) (xs ys : List X) → filter f (xs ++ ys) ≡ filter f xs ++ filter f ys
filter-append f [] ys = refl
filter-append {X} f (x ∷ xs) ys =
    elim (cases_Bool (f x)) [
      | inl e ↦ rw e (ap (λ (t : List X). x ∷ t) (filter-append f xs ys))
      | inr e ↦ rw e (filter-append f xs ys)
    ]

pub into_append : (start : Scope) (ps : List Step) (l : ℕ) (ts us : List Scope) → into_targets start ps l (ts ++ us) ≡ into_targets start ps l ts ++ into_targets start ps l us
into_append start ps l ts us =
    ap (λ (rs : List Scope). map (λ (t : Scope). ps ++ step_to l t ∷ []) rs) (filter-append (is_fresh start ps) ts us)
    ∙ map-append (λ (t : Scope). ps ++ step_to l t ∷ []) (filter (is_fresh start ps) ts) (filter (is_fresh start ps) us)

pub gains_two : {D : Type 0} (e : ExprOf) (f g h : Front D) (start start' : Scope) (ps ps' : List Step) (l : ℕ) (ts us : List Scope) → start' ≡ start → ps' ≡ ps → Gains e f g (into_targets start ps l ts) → Gains e g h (into_targets start' ps' l us) → Gains e f h (into_targets start ps l (ts ++ us))
gains_two e f g h start start' ps ps' l ts us s p a b =
    subst (Gains e f h) (sym (into_append start ps l ts us)) (gains_both e f g h (into_targets start ps l ts) (into_targets start ps l us) a (rw (s, p) at b))
