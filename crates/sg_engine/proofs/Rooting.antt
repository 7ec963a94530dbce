-- The tree of the path with no step.
use Rattle.std.proofs.Common.{◌≡◌, ◌≢◌, ℕ, zero, ◌<◌, ◌≤◌, List, [], ◌∷◌, ◌++◌, ◌⊎◌, ◌↔◌, map, length, drop, slice_index_or, inl, inr, refl, sym, ap, ◌∙◌, subst, arith}
use Rattle.std.specs.List.{Contains}
use Rattle.sg_base.specs.declared.scope.Scope.{Scope}
use Rattle.sg_base.specs.declared.step.Step.{Step}
use Rattle.sg_base.specs.Label.{Word}
use Rattle.sg_base.specs.List.{IsDistinct}
use Rattle.sg_base.specs.Path.{word_of}
use Rattle.sg_base.specs.PathTree.{path_at}
use Rattle.sg_base.proofs.Finite.{single, Contains-head, map-Contains, Contains-map, Distinct-map, each_from}
use Rattle.sg_expr.specs.Tree.{ExprOf}
use Rattle.sg_expr.specs.Word.{In, IsContinuable}
use Rattle.sg_query.specs.declared.found_at.FoundAt.{FoundAt}
use Rattle.sg_query.specs.State.{Item, next, whole}
use Rattle.sg_engine.specs.Nodes.{NodeOf as Node, RestOf, InRest}
use Rattle.sg_engine.specs.declared.work.Work.{Work}
use Rattle.sg_engine.specs.declared.work.Work.TheVariants.{Next, Whole}
use Rattle.sg_engine.specs.Front.{path_of, IsOffered}
use Rattle.sg_engine.specs.Growth.{Keeps, Gains, no_front}
use Rattle.sg_engine.specs.Tree.{item_of, place_of, IsNodeOf, IsWorkOf, front_on, IsTreeOn}

abbrev no_steps : List (List Step)
no_steps = [] ∷ []

same_root : (a b : Work) → place_of a ≡ 0 → place_of b ≡ 0 → item_of no_steps a ≡ item_of no_steps b → a ≡ b
same_root (Next j m) (Next k n) h g s = let same : m ≡ n = cc s in cc (h, g, same)
same_root (Next j m) (Whole k) h g s = cc s
same_root (Whole j) (Next k n) h g s = cc s
same_root (Whole j) (Whole k) h g s = cc (h, g)

place_zero : (e : RestOf) (w : Work) → IsWorkOf e 0 w → place_of w ≡ 0
place_zero e (Next k l) i = i.0
place_zero e (Whole k) i = i.0

module _ (e : ExprOf) (rest : RestOf) (same : (w : Word) → (InRest rest w) ↔ (In e w)) (start : Scope) (node : Node) (to : node.step.to ≡ start) (is : node.rest ≡ rest)
    (ws : List Work) (once : IsDistinct ws) (seventeen : length ws ≤ 17) (offers : (x : Work) → (Contains ws x) ↔ (IsWorkOf rest 0 x)) where
  abbrev nodes : List Node
  nodes = node ∷ []

  at_zero : (i : ℕ) → i < 1 → zero ≡ i
  at_zero i h = omega arith

  pub root_tree : {D : Type 0} (going : ℕ) → going ≤ 1 → IsTreeOn {D = D} e start nodes ws [] 0 going
  root_tree {D} going few = record {
    root = omega arith;
    node = λ i n h k.
        let z : zero ≡ i = at_zero i h in
        let here : n ≡ node = k ∙ ap (λ (j : ℕ). slice_index_or nodes j n) (sym z) in
        subst (λ (j : ℕ). IsNodeOf start e n (path_at no_steps j)) z (subst (λ (m : Node). IsNodeOf start e m []) (sym here) (record {
          ends = sym to;
          rest = λ w. ((λ k. (same w).0 (subst (λ (x : RestOf). InRest x w) is k)), (λ k. subst (λ (x : RestOf). InRest x w) (sym is) ((same w).1 k)));
        }));
    first = refl;
    grown = λ i n z h k. absurd (omega (arith, z, h));
    left_in = each_from (λ w. place_of w < 1) ws (λ w c. let z = place_zero rest w ((offers w).0 c) in omega (arith, z));
    found_in = tt;
    few = few;
    counted = omega (arith, seventeen);
  }

  abbrev news : List Item
  news = map (item_of no_steps) ws

  offered_of : (w : Work) → IsWorkOf rest 0 w → Contains no_steps (path_of (item_of no_steps w)) × IsOffered e (item_of no_steps w)
  offered_of (Next k m) i = subst (λ (j : ℕ). Contains no_steps (path_at no_steps j) × IsOffered e (next (path_at no_steps j) m)) (sym i.0) (Contains-head [] [], ((i.1).0, (same (m ∷ (i.1).0)).0 (i.1).1))
  offered_of (Whole k) i = subst (λ (j : ℕ). Contains no_steps (path_at no_steps j) × IsOffered e (whole (path_at no_steps j))) (sym i.0) (Contains-head [] [], (same []).0 i.1)

  news_from : (x : Item) → Contains news x → Contains no_steps (path_of x) × IsOffered e x
  news_from x c =
      let k = Contains-map (item_of no_steps) ws x c in
      subst (λ (y : Item). Contains no_steps (path_of y) × IsOffered e y) (sym k.2) (offered_of k.0 ((offers k.0).0 k.1))

  news_to : (x : Item) → Contains no_steps (path_of x) → IsOffered e x → Contains news x
  news_to (next ps m) c o =
      let none : ps ≡ [] = single [] ps c in
      let here : In e (m ∷ o.0) = subst (λ (p : List Step). In e ((word_of p ++ m ∷ []) ++ o.0)) none o.1 in
      subst (λ (p : List Step). Contains news (next p m)) (sym none) (map-Contains (item_of no_steps) ws (Next 0 m) ((offers (Next 0 m)).1 (refl, (o.0, (same (m ∷ o.0)).1 here))))
  news_to (whole ps) c o =
      let none : ps ≡ [] = single [] ps c in
      let here : In e [] = subst (λ (p : List Step). In e (word_of p)) none o in
      subst (λ (p : List Step). Contains news (whole p)) (sym none) (map-Contains (item_of no_steps) ws (Whole 0) ((offers (Whole 0)).1 (refl, (same []).1 here)))

  gains_root : {D : Type 0} (going : ℕ) (gs : List (List Step)) → going ≡ length gs → Keeps (λ ps. IsContinuable e (word_of ps)) no_steps gs → Gains {D = D} e no_front (front_on start nodes ws [] 0 going) no_steps
  gains_root {D} going gs count keeps = record {
    paths = refl;
    items = (news, refl, (λ d. Distinct-map (item_of no_steps) ws once (λ a b c d s. same_root a b (place_zero rest a ((offers a).0 c)) (place_zero rest b ((offers b).0 d)) s)), λ x. (news_from x, λ o. news_to x o.0 o.1));
    goers = (gs, omega (arith, count), keeps);
    found = refl;
    explored = refl;
  }

  pub root_goes : {D : Type 0} → (v : Word) × (v ≢ []) × InRest rest v → IsTreeOn {D = D} e start nodes ws [] 0 1 × Gains {D = D} e no_front (front_on start nodes ws [] 0 1) no_steps
  root_goes {D} k = (root_tree 1 (omega arith), gains_root 1 no_steps refl (inl ((k.0, k.1, (same k.0).0 k.2), ([], refl, refl))))

  pub root_ends : {D : Type 0} → ((v : Word) × (v ≢ []) × InRest rest v → ⊥) → IsTreeOn {D = D} e start nodes ws [] 0 0 × Gains {D = D} e no_front (front_on start nodes ws [] 0 0) no_steps
  root_ends {D} n = (root_tree 0 (omega arith), gains_root 0 [] refl (inr ((λ c. n (c.0, c.1, (same c.0).1 c.2)), refl)))

-- the words go on, or they do not
abbrev pub Counts : RestOf → ℕ → Type 0
Counts rest going = ((going ≡ 1) × ((v : Word) × (v ≢ []) × InRest rest v)) ⊎ ((going ≡ 0) × ((v : Word) × (v ≢ []) × InRest rest v → ⊥))

abbrev Made : {D : Type 0} → ExprOf → Scope → List Node → List Work → List (FoundAt D) → ℕ → Type 0
Made e start nodes left found going = IsTreeOn e start nodes left found 0 going × Gains e no_front (front_on start nodes left found 0 going) no_steps

pub root_made : {D : Type 0} (e : ExprOf) (rest : RestOf) (start : Scope) (before nodes : List Node) (node : Node) (blocked old queue : List Work) (found : List (FoundAt D)) (going : ℕ) → ((w : Word) → (InRest rest w) ↔ (In e w)) → before ≡ [] → nodes ≡ before ++ node ∷ [] → node.step.to ≡ start → node.rest ≡ rest → blocked ≡ [] → old ≡ [] → (ws : List Work) × (queue ≡ old ++ ws) × IsDistinct ws × (length ws ≤ 17) × ((x : Work) → (Contains ws x) ↔ (IsWorkOf rest 0 x)) → found ≡ [] → Counts rest going → (IsTreeOn e start nodes (blocked ++ drop 0 queue) found 0 going × (0 ≤ length queue)) × Gains e no_front (front_on start nodes (blocked ++ drop 0 queue) found 0 going) no_steps
root_made {D} e rest start before nodes node blocked old queue found going same a b to is f g o none counts =
    let one : nodes ≡ node ∷ [] = b ∙ ap (λ (r : List Node). r ++ node ∷ []) a in
    let left : blocked ++ drop 0 queue ≡ o.0 = ap (λ (r : List Work). r ++ queue) f ∙ (o.1 ∙ ap (λ (r : List Work). r ++ o.0) g) in
    let base : Made {D = D} e start (node ∷ []) o.0 [] going = elim counts [
      | inl k ↦ subst (λ (n : ℕ). Made {D = D} e start (node ∷ []) o.0 [] n) (sym k.0) (root_goes e rest same start node to is o.0 o.2 o.3 o.4 k.1)
      | inr k ↦ subst (λ (n : ℕ). Made {D = D} e start (node ∷ []) o.0 [] n) (sym k.0) (root_ends e rest same start node to is o.0 o.2 o.3 o.4 k.1)
    ] in
    let made : Made {D = D} e start nodes (blocked ++ drop 0 queue) found going =
    subst (λ (r : List Node). Made {D = D} e start r (blocked ++ drop 0 queue) found going) (sym one)
    (subst (λ (r : List Work). Made {D = D} e start (node ∷ []) r found going) (sym left)
    (subst (λ (r : List (FoundAt D)). Made {D = D} e start (node ∷ []) o.0 r going) (sym none) base)) in
    ((made.0, omega arith), made.1)
