-- Lists of ways and of workers: what all of them took and gave.
use Rattle.std.proofs.Common.{◌≡◌, ℕ, zero, suc, ◌+◌, ◌-◌, ◌<◌, ◌≤◌, List, [], ◌∷◌, ◌++◌, length, map, reverse, sym, refl, ap, ◌∙◌, subst, arith, slice_set, slice_index_or, length-append}
use Rattle.std.specs.Prelude.{All}
use Rattle.std.proofs.lemmas.List.{reverse-append}
use Rattle.std.proofs.lemmas.List.Elements.{All-nil, All-cons, All-head, All-tail, All-push, All-same, All-weaker}
use Rattle.crossbeam_deque.specs.Handles.{view, stealer_deque}
use Rattle.sg_board.specs.declared.thief.Thief.{Thief}
use Rattle.sg_board.specs.declared.worker_view.WorkerView.{WorkerView}
use Rattle.sg_board.specs.Shapes.{DequeId, Shape, AreShapes}
use Rattle.sg_board.specs.Shares.{AreNew}
use Rattle.sg_board.specs.Weighing.{weigh, total, adds, account, given_by, taken_by, all_parts, Moves}
use Rattle.sg_board.proofs.Laid.{map_pushed}
use Rattle.sg_board.proofs.Moves.{map_set}
use Rattle.sg_board.proofs.Weights.{weigh-append}

-- ---- sums

module _ {S : Type 0} (f : S → ℕ) where
  adds-append : (xs ys : List S) → adds f (xs ++ ys) ≡ adds f xs + adds f ys
  adds-append [] ys = omega arith
  adds-append (x ∷ xs) ys = omega (arith, adds-append xs ys)

  pub adds_snoc : (xs rest : List S) (x : S) → xs ≡ rest ++ x ∷ [] → adds f xs ≡ adds f rest + f x
  adds_snoc xs rest x e = omega (arith, ap (adds f) e, adds-append rest (x ∷ []))

  pub adds_reverse : (xs : List S) → adds f (reverse xs) ≡ adds f xs
  adds_reverse [] = refl
  adds_reverse (x ∷ xs) = omega (arith, ap (adds f) (reverse-append (x ∷ []) xs), adds-append (reverse xs) (x ∷ []), adds_reverse xs)

  pub adds_none : (xs : List S) → All (λ x. f x ≡ 0) xs → adds f xs ≡ 0
  adds_none [] a = refl
  adds_none (x ∷ xs) a = omega (arith, All-head (λ x. f x ≡ 0) x xs a, adds_none xs (All-tail (λ x. f x ≡ 0) x xs a))

  pub adds_empty : (xs : List S) → length xs ≡ 0 → adds f xs ≡ 0
  adds_empty [] e = refl
  adds_empty (x ∷ xs) e = absurd (omega (arith, e))

  pub adds_set : (xs : List S) (i : ℕ) (p q : S) → i < length xs → p ≡ slice_index_or xs i p → adds f (slice_set xs i q) + f p ≡ adds f xs + f q
  adds_set [] i p q l e = absurd (omega (arith, l))
  adds_set (x ∷ xs) zero p q l e = let k : f p ≡ f x = ap f e in omega (arith, k)
  adds_set (x ∷ xs) (suc i) p q l e = omega (arith, adds_set xs i p q (omega (arith, l)) e)

module _ {X : Type 0} (f : WorkerView → ℕ) (g : X → WorkerView) where
  total_last : (rest : List X) (x : X) → total f (map g (rest ++ x ∷ [])) ≡ total f (map g rest) + f (g x)
  total_last [] x = omega arith
  total_last (y ∷ rest) x = omega (arith, total_last rest x)

  pub total_snoc : (xs rest : List X) (x : X) → xs ≡ rest ++ x ∷ [] → total f (map g xs) ≡ total f (map g rest) + f (g x)
  total_snoc xs rest x e = ap (λ l. total f (map g l)) e ∙ total_last rest x

  pub no_total : {Y : Type 0} (k : X → Y) (xs : List X) → map k xs ≡ [] → total f (map g xs) ≡ 0
  no_total k [] e = refl
  no_total k (x ∷ xs) e = absurd (cc)

pub weigh_reverse : (h : ℕ → ℕ) (xs : List ℕ) → weigh h (reverse xs) ≡ weigh h xs
weigh_reverse h [] = refl
weigh_reverse h (x ∷ xs) = omega (arith, ap (weigh h) (reverse-append (x ∷ []) xs), weigh-append h (reverse xs) (x ∷ []), weigh_reverse h xs)

-- what a pass knows with what another knew
pub joined_weight : (v u w : WorkerView) (p k : ℕ) → w ≡ account p (v.given ++ u.given) (v.taken ++ u.taken) k → (h : ℕ → ℕ) → (weigh h w.taken ≡ weigh h v.taken + weigh h u.taken) × (weigh h w.given ≡ weigh h v.given + weigh h u.given)
joined_weight v u w p k e h = (ap (λ (x : WorkerView). weigh h x.taken) e ∙ weigh-append h v.taken u.taken, ap (λ (x : WorkerView). weigh h x.given) e ∙ weigh-append h v.given u.given)

-- a pass that has done nothing
pub idle_weight : (v : WorkerView) (p k : ℕ) → v ≡ account p [] [] k → (h : ℕ → ℕ) → (weigh h v.taken ≡ 0) × (weigh h v.given ≡ 0)
idle_weight v p k e h = (ap (λ (x : WorkerView). weigh h x.taken) e, ap (λ (x : WorkerView). weigh h x.given) e)

-- ---- each element

module _ {X : Type 0} where
  pub all_reverse : (P : X → Type 0) (xs : List X) → All P xs → All P (reverse xs)
  all_reverse P [] a = a
  all_reverse P (x ∷ xs) a = All-same P (reverse (x ∷ xs)) (reverse xs ++ x ∷ []) (reverse-append (x ∷ []) xs) (All-push P (reverse xs) x (all_reverse P xs (All-tail P x xs a)) (All-head P x xs a))

  pub all_pushed : (P : X → Type 0) (new xs : List X) (x : X) → new ≡ xs ++ x ∷ [] → All P xs → P x → All P new
  all_pushed P new xs x e a p = All-same P new (xs ++ x ∷ []) e (All-push P xs x a p)

module _ {X Y : Type 0} (f : X → Y) where
  pub all_unmapped : (P : Y → Type 0) (xs : List X) → All P (map f xs) → All (λ x. P (f x)) xs
  all_unmapped P [] a = All-nil (λ x. P (f x))
  all_unmapped P (x ∷ xs) a = All-cons (λ x. P (f x)) x xs (All-head P (f x) (map f xs) a) (all_unmapped P xs (All-tail P (f x) (map f xs) a))

  pub all_mapped : (P : Y → Type 0) (xs : List X) → All (λ x. P (f x)) xs → All P (map f xs)
  all_mapped P [] a = All-nil P
  all_mapped P (x ∷ xs) a = All-cons P (f x) (map f xs) (All-head (λ x. P (f x)) x xs a) (all_mapped P xs (All-tail (λ x. P (f x)) x xs a))

  pub map_twice : {Z : Type 0} (g : Y → Z) (xs : List X) → map g (map f xs) ≡ map (λ x. g (f x)) xs
  map_twice g [] = refl
  map_twice g (x ∷ xs) = ap (λ l. g (f x) ∷ l) (map_twice g xs)

  pub empty_map : (xs : List X) → length xs ≡ 0 → map f xs ≡ []
  empty_map [] e = refl
  empty_map (x ∷ xs) e = absurd (omega (arith, e))

  length_map : (xs : List X) → length (map f xs) ≡ length xs
  length_map [] = refl
  length_map (x ∷ xs) = ap suc (length_map xs)

  -- a list whose elements kept this of them
  pub kept_length : (xs ys : List X) → map f xs ≡ map f ys → length xs ≡ length ys
  kept_length xs ys e = sym (length_map xs) ∙ ap length e ∙ length_map ys

  pub kept_all : (P : Y → Type 0) (xs ys : List X) → map f xs ≡ map f ys → All (λ x. P (f x)) ys → All (λ x. P (f x)) xs
  kept_all P xs ys e a = all_unmapped P xs (All-same P (map f xs) (map f ys) e (all_mapped P ys a))

snoc_same : {Y : Type 0} (xs ys : List Y) (x y : Y) → xs ++ x ∷ [] ≡ ys ++ y ∷ [] → (xs ≡ ys) × (x ≡ y)
snoc_same [] [] x y e = let s : x ≡ y = cc in (refl, s)
snoc_same [] (b ∷ ys) x y e = absurd (omega (arith, ap length e, length-append ys (y ∷ [])))
snoc_same (a ∷ xs) [] x y e = absurd (omega (arith, ap length e, length-append xs (x ∷ [])))
snoc_same (a ∷ xs) (b ∷ ys) x y e =
    let h : a ≡ b = cc in
    let t : xs ++ x ∷ [] ≡ ys ++ y ∷ [] = cc in
    let r = snoc_same xs ys x y t in
    (λ i. h i ∷ r.0 i, r.1)

-- what is true of the last and of those before it
pub last_of : {X Y : Type 0} (f : X → Y) (xs rest : List X) (x : X) (ds : List Y) (d : Y) → xs ≡ rest ++ x ∷ [] → map f xs ≡ ds ++ d ∷ [] → (map f rest ≡ ds) × (f x ≡ d)
last_of f xs rest x ds d e m = snoc_same (map f rest) ds (f x) d (sym (map_pushed f rest xs x e) ∙ m)

-- ---- ways that nobody went

module _ {T : Type 0} where
  pub none_new : (ts : List (Thief T)) → ts ≡ [] → AreNew [] ts
  none_new ts e = record {
    ways = ap (λ l. map (λ (t : Thief T). stealer_deque t.stealer) l) e;
    taken = λ h. ap (λ l. total (taken_by h) (map (λ (t : Thief T). view t.pass) l)) e;
    given = λ h. ap (λ l. total (given_by h) (map (λ (t : Thief T). view t.pass) l)) e;
  }

  pub one_more_new : (new ts : List (Thief T)) (t : Thief T) → new ≡ ts ++ t ∷ [] → view t.pass ≡ account 1 [] [] 0 → (ds : List DequeId) → AreNew ds ts → AreNew (ds ++ stealer_deque t.stealer ∷ []) new
  one_more_new new ts t e v ds a = record {
    ways = map_pushed (λ (t : Thief T). stealer_deque t.stealer) ts new t e ∙ ap (λ l. l ++ stealer_deque t.stealer ∷ []) a.ways;
    taken = λ h. omega (arith, total_snoc (taken_by h) (λ (t : Thief T). view t.pass) new ts t e, (idle_weight (view t.pass) 1 0 v h).0, a.taken h);
    given = λ h. omega (arith, total_snoc (given_by h) (λ (t : Thief T). view t.pass) new ts t e, (idle_weight (view t.pass) 1 0 v h).1, a.given h);
  }

-- ---- steps of each worker

module _ {S X : Type 0} (given taken : S → (ℕ → ℕ) → ℕ) (shape : S → X) where
  pub each_moved : (old new : List S) → length new ≡ length old → ((k : ℕ) (d : S) → k < length old → Moves given taken shape (slice_index_or old k d) (slice_index_or new k d) (λ h. 0) (λ h. 0))
      → Moves (λ xs h. adds (λ x. given x h) xs) (λ xs h. adds (λ x. taken x h) xs) (map shape) old new (λ h. 0) (λ h. 0)
  each_moved [] [] l m = record { same = refl; flow = λ h. refl }
  each_moved [] (y ∷ new) l m = absurd (omega (arith, l))
  each_moved (x ∷ old) [] l m = absurd (omega (arith, l))
  each_moved (x ∷ old) (y ∷ new) l m =
      let a = m 0 x (omega arith) in
      let b = each_moved old new (omega (arith, l)) (λ k d lt. m (suc k) d (omega (arith, lt))) in
      record { same = λ i. a.same i ∷ b.same i; flow = λ h. let p = a.flow h in let q = b.flow h in omega (arith, p, q) }

  -- a step of one of them
  pub one_moved : (xs : List S) (i : ℕ) (p q : S) (came went : (ℕ → ℕ) → ℕ) → i < length xs → p ≡ slice_index_or xs i p → Moves given taken shape p q came went
      → Moves (λ xs h. adds (λ x. given x h) xs) (λ xs h. adds (λ x. taken x h) xs) (map shape) xs (slice_set xs i q) came went
  one_moved xs i p q came went l e m = record {
    same = map_set shape xs i p q e m.same;
    flow = λ h. let a = adds_set (λ x. given x h) xs i p q l e in let b = adds_set (λ x. taken x h) xs i p q l e in let f = m.flow h in omega (arith, a, b, f);
  }

-- ---- the deques that the workers use

module _ {X : Type 0} (s : X → Shape) where
  pub shape_parts : (n : ℕ) (xs : List X) → AreShapes n (map s xs) → All (λ x. (s x).parts ≡ all_parts - n) xs
  shape_parts n xs a = all_unmapped s (λ z. z.parts ≡ all_parts - n) xs (λ k d l. omega (arith, (a k d l).1))

  pub shape_ways : (n : ℕ) (xs : List X) → AreShapes n (map s xs) → All (λ x. (s x).ways ≡ map (λ x. (s x).own) xs) xs
  shape_ways n xs a = all_unmapped s (λ z. z.ways ≡ map (λ x. (s x).own) xs) xs (λ k d l. (a k d l).0 ∙ map_twice s (λ z. z.own) xs)

  pub are_shapes : (n : ℕ) (xs : List X) → n < all_parts → All (λ x. ((s x).ways ≡ map (λ x. (s x).own) xs) × ((s x).parts ≡ all_parts - n)) xs → AreShapes n (map s xs)
  are_shapes n xs lt a = all_mapped s (λ z. (z.ways ≡ map (λ y. y.own) (map s xs)) × (z.parts + n ≡ all_parts)) xs (λ k d l. ((a k d l).0 ∙ sym (map_twice s (λ z. z.own) xs), omega (arith, (a k d l).1, lt)))
