-- Tasks at their places.
use Rattle.std.proofs.Common.{◌≡◌, ◌⊎◌, ℕ, zero, suc, ◌+◌, ◌<◌, ◌≤◌, ◌==◌, cond, List, [], ◌∷◌, ◌++◌, false, Option, Some, None, inl, inr, append_assoc, reverse, length, map, refl, sym, ap, ◌∙◌, subst, arith, slice_get, slice_set, slice_index_or}
use Rattle.std.specs.Prelude.{All, MatchOption}
use Rattle.std.proofs.lemmas.List.{reverse-append}
use Rattle.std.proofs.lemmas.Bool.{cases_Bool}
use Rattle.std.proofs.lemmas.Bool.Decides.{nat_tests}
use Rattle.std.proofs.lemmas.List.Elements.{All-nil, All-cons}
use Rattle.sg_board.specs.declared.place.Place.{Place}
use Rattle.sg_board.specs.declared.place.Place.TheVariants.{Away, Resting, Waiting, Ended}
use Rattle.sg_board.specs.Places.{task_at, HasTask, number_at, numbers_at, ArePlaced, counting}
use Rattle.sg_board.specs.Weighing.{weigh, times, weigh_option}
use Rattle.sg_board.proofs.Weights.{weigh-append}

pub itself_once : (n : ℕ) → ◌≡◌ {A = ℕ} (cond (n == n) 1 0) 1
itself_once n = grind (arith, nat_tests)

not_itself : (k n : ℕ) → (k ≡ n → ⊥) → ◌≡◌ {A = ℕ} (cond (k == n) 1 0) 0
not_itself k n e = grind (arith, nat_tests)

-- ---- counting

before_all : (n from count : ℕ) → n < from → times n (counting from count) ≡ 0
before_all n from zero l = refl
before_all n from (suc count) l = omega (arith, not_itself from n (λ e. omega (arith, e, l)), before_all n (suc from) count (omega (arith, l)))

pub at_most_once : (n from count : ℕ) → times n (counting from count) ≤ 1
at_most_once n from zero = omega arith
at_most_once n from (suc count) = elim (cases_Bool (from == n)) [
  | inl b ↦ let e : from ≡ n = grind (arith, nat_tests) in omega (arith, before_all n (suc from) count (omega (arith, e)), ap {B = ℕ} (λ c. cond c 1 0) b)
  | inr b ↦ omega (arith, at_most_once n (suc from) count, ap {B = ℕ} (λ c. cond c 1 0) b)
]

is_counted : (n from count : ℕ) → from ≤ n → n < from + count → 1 ≤ times n (counting from count)
is_counted n from zero l m = absurd (omega (arith, l, m))
is_counted n from (suc count) l m = elim (cases_Bool (from == n)) [
  | inl b ↦ omega (arith, ap {B = ℕ} (λ c. cond c 1 0) b)
  | inr b ↦ let e : (from ≡ n → ⊥) = grind (arith, nat_tests) in omega (arith, is_counted n (suc from) count (let k : (from ≡ n → ⊥) = e in omega (arith, l, k)) (omega (arith, m)))
]

module _ {T : Type 0} (number : T → ℕ) where
  -- ---- one place

  at_of : (h : ℕ → ℕ) (p : Place T) (t : T) → task_at p ≡ Some t → weigh h (number_at number p) ≡ h (number t)
  at_of h (Away woken) t e = absurd (cc)
  at_of h (Resting s) t e = let same : s ≡ t = cc in let k : h (number s) ≡ h (number t) = ap (λ x. h (number x)) same in omega (arith, k)
  at_of h (Waiting s) t e = let same : s ≡ t = cc in let k : h (number s) ≡ h (number t) = ap (λ x. h (number x)) same in omega (arith, k)
  at_of h (Ended s) t e = let same : s ≡ t = cc in let k : h (number s) ≡ h (number t) = ap (λ x. h (number x)) same in omega (arith, k)

  at_none : (p : Place T) → task_at p ≡ None → number_at number p ≡ []
  at_none (Away woken) e = refl
  at_none (Resting s) e = absurd (cc)
  at_none (Waiting s) e = absurd (cc)
  at_none (Ended s) e = absurd (cc)

  -- the numbers at a place are that of its task
  number_of : Option T → List ℕ
  number_of None = []
  number_of (Some t) = number t ∷ []

  number_of_at : (p : Place T) → number_at number p ≡ number_of (task_at p)
  unfolding number_of
  number_of_at (Away woken) = refl
  number_of_at (Resting t) = refl
  number_of_at (Waiting t) = refl
  number_of_at (Ended t) = refl

  same_at : (p q : Place T) → task_at p ≡ task_at q → number_at number p ≡ number_at number q
  same_at p q e = number_of_at p ∙ (ap number_of e ∙ sym (number_of_at q))

  task_or_none : (p : Place T) → ((t : T) × (task_at p ≡ Some t)) ⊎ (task_at p ≡ None)
  task_or_none (Away woken) = inr refl
  task_or_none (Resting t) = inl (t, refl)
  task_or_none (Waiting t) = inl (t, refl)
  task_or_none (Ended t) = inl (t, refl)

  -- ---- another value at a place

  weigh_set : (h : ℕ → ℕ) (ps : List (Place T)) (i : ℕ) (p q : Place T) → i < length ps → p ≡ slice_index_or ps i p → weigh h (numbers_at number (slice_set ps i q)) + weigh h (number_at number p) ≡ weigh h (numbers_at number ps) + weigh h (number_at number q)
  weigh_set h [] i p q l e = absurd (omega arith)
  weigh_set h (x ∷ ps) zero p q l e =
      let k : weigh h (number_at number p) ≡ weigh h (number_at number x) = ap (λ y. weigh h (number_at number y)) e in
      omega (arith, k, weigh-append h (number_at number x) (numbers_at number ps), weigh-append h (number_at number q) (numbers_at number ps))
  weigh_set h (x ∷ ps) (suc i) p q l e =
      omega (arith, weigh_set h ps i p q (omega (arith, l)) e, weigh-append h (number_at number x) (numbers_at number ps), weigh-append h (number_at number x) (numbers_at number (slice_set ps i q)))

  -- a place whose task stays
  pub set_same : (ps : List (Place T)) (i : ℕ) (p q : Place T) → p ≡ slice_index_or ps i p → task_at q ≡ task_at p → numbers_at number (slice_set ps i q) ≡ numbers_at number ps
  set_same [] i p q e s = refl
  set_same (x ∷ ps) zero p q e s = ap (λ l. l ++ numbers_at number ps) (same_at q x (s ∙ ap task_at e))
  set_same (x ∷ ps) (suc i) p q e s = ap (λ l. number_at number x ++ l) (set_same ps i p q e s)

  -- a task leaves its place, if there is one to leave
  pub set_taken : (o : Option T) (ps : List (Place T)) (i : ℕ) (p q : Place T) → i < length ps → p ≡ slice_index_or ps i p → MatchOption o (task_at q ≡ task_at p) (λ t. (task_at p ≡ Some t) × (task_at q ≡ None))
      → (h : ℕ → ℕ) → weigh_option number h o + weigh h (numbers_at number (slice_set ps i q)) ≡ weigh h (numbers_at number ps)
  set_taken None ps i p q l e m h = omega (arith, ap (weigh h) (set_same ps i p q e m))
  set_taken (Some t) ps i p q l e m h = omega (arith, weigh_set h ps i p q l e, at_of h p t m.0, ap (weigh h) (at_none q m.1))

  -- a task comes to its place, or comes back
  pub set_put : (o : Option T) (t : T) (ps : List (Place T)) (i : ℕ) (p q : Place T) → i < length ps → p ≡ slice_index_or ps i p → MatchOption o ((task_at p ≡ None) × (task_at q ≡ Some t)) (λ s. (s ≡ t) × (task_at q ≡ task_at p))
      → (h : ℕ → ℕ) → weigh_option number h o + weigh h (numbers_at number (slice_set ps i q)) ≡ h (number t) + weigh h (numbers_at number ps)
  set_put None t ps i p q l e m h = omega (arith, weigh_set h ps i p q l e, ap (weigh h) (at_none p m.0), at_of h q t m.1)
  set_put (Some s) t ps i p q l e m h = let k : h (number s) ≡ h (number t) = ap (λ x. h (number x)) m.0 in omega (arith, k, ap (weigh h) (set_same ps i p q e m.1))

  -- ---- where a task is

  stands_at : (ps : List (Place T)) (i : ℕ) (p : Place T) (t : T) → slice_get ps i ≡ Some p → task_at p ≡ Some t → 1 ≤ times (number t) (numbers_at number ps)
  stands_at [] i p t e s = absurd (cc)
  stands_at (x ∷ ps) zero p t e s =
      let same : x ≡ p = cc in
      omega (arith, weigh-append (λ k. cond (k == number t) 1 0) (number_at number x) (numbers_at number ps), at_of (λ k. cond (k == number t) 1 0) x t (ap task_at same ∙ s), itself_once (number t))
  stands_at (x ∷ ps) (suc i) p t e s =
      omega (arith, weigh-append (λ k. cond (k == number t) 1 0) (number_at number x) (numbers_at number ps), stands_at ps i p t e s)

  get_at : (ps : List (Place T)) (i : ℕ) (p : Place T) → i < length ps → p ≡ slice_index_or ps i p → slice_get ps i ≡ Some p
  get_at [] i p l e = absurd (omega arith)
  get_at (x ∷ ps) zero p l e = ap Some (sym e)
  get_at (x ∷ ps) (suc i) p l e = get_at ps i p (omega (arith, l)) e

  -- ---- the end

  stands_somewhere : (n : ℕ) (ps : List (Place T)) → 1 ≤ times n (numbers_at number ps) → (i : ℕ) × (p : Place T) × (t : T) × (slice_get ps i ≡ Some p) × (task_at p ≡ Some t) × (number t ≡ n)
  stands_somewhere n [] l = absurd (omega (arith, l))
  stands_somewhere n (x ∷ ps) l = elim (task_or_none x) [
    | inl s ↦ elim (cases_Bool (number s.0 == n)) [
      | inl b ↦ (0, x, s.0, refl, s.1, grind (arith, nat_tests))
      | inr b ↦
          let k = at_of (λ k. cond (k == n) 1 0) x s.0 s.1 in
          let r = stands_somewhere n ps (omega (arith, l, k, ap {B = ℕ} (λ c. cond c 1 0) b, weigh-append (λ k. cond (k == n) 1 0) (number_at number x) (numbers_at number ps))) in
          (suc r.0, r.1, r.2, r.3, r.4, r.5)
    ]
    | inr s ↦
        let r = stands_somewhere n ps (omega (arith, l, ap (weigh (λ k. cond (k == n) 1 0)) (at_none x s), weigh-append (λ k. cond (k == n) 1 0) (number_at number x) (numbers_at number ps))) in
        (suc r.0, r.1, r.2, r.3, r.4, r.5)
  ]

  all_have : (ps : List (Place T)) → ((i : ℕ) → i < length ps → (p : Place T) × (slice_get ps i ≡ Some p) × HasTask p) → All HasTask ps
  all_have [] f = All-nil HasTask
  all_have (x ∷ ps) f =
      let here = f 0 (omega arith) in let same : x ≡ here.0 = cc in
      All-cons HasTask x ps (subst HasTask (sym same) here.2) (all_have ps (λ i l. f (suc i) (omega (arith, l))))

  -- where all are back, each place has its task
  pub all_back : (total : ℕ) (ps : List (Place T)) → ArePlaced number ps → length ps ≡ total → ((h : ℕ → ℕ) → weigh h (numbers_at number ps) ≡ weigh h (counting 0 total)) → All HasTask ps
  all_back total ps placed size whole = all_have ps (λ i l.
      let r = stands_somewhere i ps (omega (arith, whole (λ k. cond (k == i) 1 0), is_counted i 0 total (omega arith) (omega (arith, l, size)))) in
      let here : r.0 ≡ i = sym (placed r.0 r.1 r.2 r.3 r.4) ∙ r.5 in
      (r.1, subst (λ j. slice_get ps j ≡ Some r.1) here r.3, (r.2, r.4)))

  counted_from : (from : ℕ) (ts : List T) (ps : List (Place T)) → map (λ t. Some t) ts ≡ map task_at ps → ((i : ℕ) (p : Place T) (t : T) → slice_get ps i ≡ Some p → task_at p ≡ Some t → number t ≡ from + i) → map number ts ≡ counting from (length ps)
  counted_from from [] [] e placed = refl
  counted_from from [] (p ∷ ps) e placed = absurd (cc)
  counted_from from (t ∷ ts) [] e placed = absurd (cc)
  counted_from from (t ∷ ts) (p ∷ ps) e placed =
      let here : Some t ≡ task_at p = cc in
      let rest : map (λ t. Some t) ts ≡ map task_at ps = cc in
      let n : number t ≡ from = omega (arith, placed 0 p t refl (sym here)) in
      let more : map number ts ≡ counting (suc from) (length ps) = counted_from (suc from) ts ps rest (λ i q s g a. omega (arith, placed (suc i) q s g a)) in
      (λ i. n i ∷ more i)

  pub in_order : (total : ℕ) (ts : List T) (ps : List (Place T)) → map (λ t. Some t) ts ≡ map task_at ps → ArePlaced number ps → length ps ≡ total → map number ts ≡ counting 0 total
  in_order total ts ps e placed size = counted_from 0 ts ps e (λ i p t g a. omega (arith, placed i p t g a)) ∙ ap (counting 0) size

  -- ---- the beginning

  pub none_there : (ps : List (Place T)) → All (λ p. task_at p ≡ None) ps → numbers_at number ps ≡ []
  none_there [] a = refl
  none_there (p ∷ ps) a = ap (λ l. l ++ numbers_at number ps) (at_none p (a 0 p (omega arith))) ∙ none_there ps (λ k d l. a (suc k) d (omega (arith, l)))

  is_away : (ps : List (Place T)) → All (λ p. task_at p ≡ None) ps → (i : ℕ) (p : Place T) → slice_get ps i ≡ Some p → task_at p ≡ None
  is_away [] a i p g = absurd (cc)
  is_away (x ∷ ps) a zero p g = let same : x ≡ p = cc in ap task_at (sym same) ∙ a 0 x (omega arith)
  is_away (x ∷ ps) a (suc i) p g = is_away ps (λ k d l. a (suc k) d (omega (arith, l))) i p g

  pub none_placed : (ps : List (Place T)) → All (λ p. task_at p ≡ None) ps → ArePlaced number ps
  none_placed ps a i p t g s = let e : None ≡ Some t = sym (is_away ps a i p g) ∙ s in absurd (cc)

  pub counted_length : (from count : ℕ) (ts : List T) → map number ts ≡ counting from count → length ts ≡ count
  counted_length from zero [] e = refl
  counted_length from (suc count) [] e = absurd (cc)
  counted_length from zero (t ∷ ts) e = absurd (cc)
  counted_length from (suc count) (t ∷ ts) e = let rest : map number ts ≡ counting (suc from) count = cc in ap suc (counted_length (suc from) count ts rest)

pub set_length : {X : Type 0} (xs : List X) (i : ℕ) (x : X) → length (slice_set xs i x) ≡ length xs
set_length [] i x = refl
set_length (y ∷ xs) zero x = refl
set_length (y ∷ xs) (suc i) x = ap suc (set_length xs i x)

get_set : {X : Type 0} (xs : List X) (i : ℕ) (x : X) (j : ℕ) (y : X) → slice_get (slice_set xs i x) j ≡ Some y → ((j ≡ i) × (x ≡ y)) ⊎ (slice_get xs j ≡ Some y)
get_set [] i x j y e = inr e
get_set (z ∷ xs) zero x zero y e = let same : x ≡ y = cc in inl (refl, same)
get_set (z ∷ xs) zero x (suc j) y e = inr e
get_set (z ∷ xs) (suc i) x zero y e = inr e
get_set (z ∷ xs) (suc i) x (suc j) y e = elim (get_set xs i x j y e) [
  | inl s ↦ inl (ap suc s.0, s.1)
  | inr s ↦ inr s
]

module _ {T : Type 0} (number : T → ℕ) where
  -- another value at a place, where a task that lies there has its number
  set_placed : (ps : List (Place T)) (i : ℕ) (q : Place T) → ArePlaced number ps → ((t : T) → task_at q ≡ Some t → number t ≡ i) → ArePlaced number (slice_set ps i q)
  set_placed ps i q placed n j p t g a = elim (get_set ps i q j p g) [
    | inl here ↦ omega (arith, n t (ap task_at here.1 ∙ a), here.0)
    | inr there ↦ placed j p t there a
  ]

  pub taken_placed : (o : Option T) (ps : List (Place T)) (i : ℕ) (p q : Place T) → ArePlaced number ps → i < length ps → p ≡ slice_index_or ps i p → MatchOption o (task_at q ≡ task_at p) (λ t. (task_at p ≡ Some t) × (task_at q ≡ None)) → ArePlaced number (slice_set ps i q)
  taken_placed None ps i p q placed l e m = set_placed ps i q placed (λ t a. placed i p t (get_at number ps i p l e) (sym m ∙ a))
  taken_placed (Some s) ps i p q placed l e m = set_placed ps i q placed (λ t a. let x : None ≡ Some t = sym m.1 ∙ a in absurd (cc))

  pub put_placed : (o : Option T) (s : T) (ps : List (Place T)) (i : ℕ) (p q : Place T) → ArePlaced number ps → i < length ps → p ≡ slice_index_or ps i p → number s ≡ i → MatchOption o ((task_at p ≡ None) × (task_at q ≡ Some s)) (λ t. (t ≡ s) × (task_at q ≡ task_at p)) → ArePlaced number (slice_set ps i q)
  put_placed None s ps i p q placed l e n m = set_placed ps i q placed (λ t a. let one : Some s ≡ Some t = sym m.1 ∙ a in let same : s ≡ t = cc in sym (ap number same) ∙ n)
  put_placed (Some t) s ps i p q placed l e n m = set_placed ps i q placed (λ x a. placed i p x (get_at number ps i p l e) (sym m.1 ∙ a))

-- ---- lists that are emptied from behind

reverse_cons : {X : Type 0} (x : X) (xs : List X) → reverse (x ∷ xs) ≡ reverse xs ++ x ∷ []
reverse_cons x xs = reverse-append (x ∷ []) xs

module _ {X Y : Type 0} (f : X → Y) where
  map_snoc : (xs : List X) (x : X) → map f (xs ++ x ∷ []) ≡ map f xs ++ f x ∷ []
  map_snoc [] x = refl
  map_snoc (y ∷ xs) x = ap (λ l. f y ∷ l) (map_snoc xs x)

  pub map_pushed : (xs new : List X) (x : X) → new ≡ xs ++ x ∷ [] → map f new ≡ map f xs ++ f x ∷ []
  map_pushed xs new x e = ap (map f) e ∙ map_snoc xs x

  pub map_reverse : (xs : List X) → map f (reverse xs) ≡ reverse (map f xs)
  map_reverse [] = refl
  map_reverse (x ∷ xs) = ap (map f) (reverse_cons x xs) ∙ map_snoc (reverse xs) x ∙ ap (λ l. l ++ f x ∷ []) (map_reverse xs) ∙ sym (reverse_cons (f x) (map f xs))

  -- the last one moves over
  pub more_laid : (left rest : List X) (x : X) (done more : List Y) (y : Y) (whole : List Y) → left ≡ rest ++ x ∷ [] → more ≡ done ++ y ∷ [] → f x ≡ y → map f left ++ reverse done ≡ whole → map f rest ++ reverse more ≡ whole
  more_laid left rest x done more y whole popped pushed is laid =
      ap (λ l. map f rest ++ l) (ap reverse pushed ∙ reverse-append done (y ∷ []))
      ∙ ap (λ z. map f rest ++ z ∷ reverse done) (sym is)
      ∙ sym (append_assoc (map f rest) (f x ∷ []) (reverse done))
      ∙ ap (λ l. l ++ reverse done) (sym (map_snoc rest x) ∙ ap (map f) (sym popped))
      ∙ laid

  pub none_left : (left : List X) (done turned : List Y) (whole : List Y) → length left ≡ 0 → turned ≡ reverse done → map f left ++ reverse done ≡ whole → turned ≡ whole
  none_left [] done turned whole none t laid = t ∙ laid
  none_left (x ∷ left) done turned whole none t laid = absurd (omega (arith, none))

-- ---- one more number

counting_last : (from n : ℕ) → counting from n ++ (from + n) ∷ [] ≡ counting from (suc n)
counting_last from zero = let e : from + 0 ≡ from = omega arith in ap (λ k. k ∷ []) e
counting_last from (suc n) = let e : from + suc n ≡ suc from + n = omega arith in ap (λ k. from ∷ counting (suc from) n ++ k ∷ []) e ∙ ap (λ l. from ∷ l) (counting_last (suc from) n)

pub counting_next : (n : ℕ) → counting 0 n ++ n ∷ [] ≡ counting 0 (n + 1)
counting_next n = let e : 0 + n ≡ n = omega arith in let s : suc n ≡ n + 1 = omega arith in ap (λ k. counting 0 n ++ k ∷ []) (sym e) ∙ counting_last 0 n ∙ ap (counting 0) s

-- ---- each below a place

same_or : {X : Type 0} (xs : List X) (n : ℕ) (x d : X) → n < length xs → x ≡ slice_index_or xs n x → x ≡ slice_index_or xs n d
same_or [] n x d l e = absurd (omega (arith, l))
same_or (y ∷ xs) zero x d l e = e
same_or (y ∷ xs) (suc n) x d l e = same_or xs n x d (omega (arith, l)) e

pub below_more : {X : Type 0} (P : X → Type 0) (xs : List X) (n : ℕ) (x : X) → ((k : ℕ) (d : X) → k < n → P (slice_index_or xs k d)) → n < length xs → x ≡ slice_index_or xs n x → P x → (k : ℕ) (d : X) → k < n + 1 → P (slice_index_or xs k d)
below_more P xs n x below l e p k d lt = elim (cases_Bool (k == n)) [
  | inl b ↦ let s : k ≡ n = grind (arith, nat_tests) in subst (λ j. P (slice_index_or xs j d)) (sym s) (subst P (same_or xs n x d l e) p)
  | inr b ↦ let s : (k ≡ n → ⊥) = grind (arith, nat_tests) in below k d (omega (arith, lt, s))
]
