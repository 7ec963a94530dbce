-- Finite lists as sets: what a list holds after a cons, an append, a map, a filter or lists joined, when it holds it once, and counting.
use Rattle.std.proofs.Common.{◌≡◌, ℕ, zero, suc, ◌<◌, ◌≤◌, ◌+◌, List, [], ◌∷◌, ◌++◌, ◌⊎◌, ◌↔◌, Bool, true, false, cond, inl, inr, refl, sym, ap, ◌∙◌, subst, length, map, arith, length-append, slice_index_or}
use Rattle.std.specs.List.{Contains, AllByRecursion, filter, flat_map}
use Rattle.std.proofs.lemmas.List.Elements.{Contains-append_left, Contains-append_right, Contains-append_cases, Contains-push}
use Rattle.std.proofs.lemmas.Bool.{cases_Bool}
use Rattle.sg_base.specs.List.{IsDistinct, MoreThan, IsCount}

-- ---- what a list holds

pub nothing_in : {X : Type 0} (x : X) → Contains [] x → ⊥
nothing_in x c = absurd (omega (arith, c.1))

pub Contains-head : {X : Type 0} (x : X) (xs : List X) → Contains (x ∷ xs) x
Contains-head x xs = (zero, omega arith, refl)

pub single : {X : Type 0} (x y : X) → Contains (x ∷ []) y → y ≡ x
single x y (zero, l, e) = sym e
single x y (suc k, l, e) = absurd (omega arith)

pub Contains-cons : {X : Type 0} (x y : X) (xs : List X) → Contains (x ∷ xs) y → (y ≡ x) ⊎ Contains xs y
Contains-cons x y xs c =
    elim (Contains-append_cases (x ∷ []) xs y c) [ inl k ↦ inl (single x y k) | inr k ↦ inr k ]

pub Contains-tail : {X : Type 0} (x y : X) (xs : List X) → Contains xs y → Contains (x ∷ xs) y
Contains-tail x y xs c = Contains-append_right (x ∷ []) xs y c

-- with one more thing between two parts
pub Contains-middle : {X : Type 0} (xs ys : List X) (f h : X) → Contains (xs ++ f ∷ ys) h → Contains (xs ++ ys) h ⊎ (h ≡ f)
Contains-middle xs ys f h c =
    elim (Contains-append_cases xs (f ∷ ys) h c) [
      | inl k ↦ inl (Contains-append_left xs ys h k)
      | inr k ↦ elim (Contains-cons f h ys k) [ inl e ↦ inr e | inr m ↦ inl (Contains-append_right xs ys h m) ]
    ]

pub middle-Contains : {X : Type 0} (xs ys : List X) (f h : X) → Contains (xs ++ ys) h ⊎ (h ≡ f) → Contains (xs ++ f ∷ ys) h
middle-Contains xs ys f h (inl c) =
    elim (Contains-append_cases xs ys h c) [
      | inl k ↦ Contains-append_left xs (f ∷ ys) h k
      | inr k ↦ Contains-append_right xs (f ∷ ys) h (Contains-tail f h ys k)
    ]
middle-Contains {X} xs ys f h (inr e) =
    Contains-append_right xs (f ∷ ys) h (subst (λ (t : X). Contains (f ∷ ys) t) (sym e) (Contains-head f ys))

-- ---- what holds of each

pub each_map : {X : Type 0} (P Q : X → Type 0) → ((x : X) → P x → Q x) → (xs : List X) → AllByRecursion P xs → AllByRecursion Q xs
each_map P Q f [] h = tt
each_map P Q f (x ∷ xs) h = (f x h.0, each_map P Q f xs h.1)

pub each_from : {X : Type 0} (P : X → Type 0) (xs : List X) → ((x : X) → Contains xs x → P x) → AllByRecursion P xs
each_from P [] h = tt
each_from P (x ∷ xs) h = (h x (Contains-head x xs), each_from P xs (λ y k. h y (Contains-tail x y xs k)))

pub each_at : {X : Type 0} (P : X → Type 0) (xs : List X) → AllByRecursion P xs → (x : X) → Contains xs x → P x
each_at {X} P [] h x c = absurd (nothing_in x c)
each_at {X} P (y ∷ xs) h x c = elim (Contains-cons y x xs c) [ inl e ↦ subst P (sym e) h.0 | inr k ↦ each_at P xs h.1 x k ]

pub each_append : {X : Type 0} (P : X → Type 0) (xs ys : List X) → AllByRecursion P xs → AllByRecursion P ys → AllByRecursion P (xs ++ ys)
each_append P [] ys h k = k
each_append P (x ∷ xs) ys h k = (h.0, each_append P xs ys h.1 k)

-- ---- a map, a filter and lists joined

module _ {X Y : Type 0} (f : X → Y) where
  pub map-Contains : (xs : List X) (x : X) → Contains xs x → Contains (map f xs) (f x)
  map-Contains [] x c = absurd (nothing_in x c)
  map-Contains (y ∷ xs) x c =
      elim (Contains-cons y x xs c) [
        | inl e ↦ subst (λ (t : Y). Contains (f y ∷ map f xs) t) (ap f (sym e)) (Contains-head (f y) (map f xs))
        | inr k ↦ Contains-tail (f y) (f x) (map f xs) (map-Contains xs x k)
      ]

  pub Contains-map : (xs : List X) (y : Y) → Contains (map f xs) y → (x : X) × Contains xs x × (y ≡ f x)
  Contains-map [] y c = absurd (nothing_in y c)
  Contains-map (x ∷ xs) y c =
      elim (Contains-cons (f x) y (map f xs) c) [
        | inl e ↦ (x, Contains-head x xs, e)
        | inr k ↦ let h : (z : X) × Contains xs z × (y ≡ f z) = Contains-map xs y k in (h.0, Contains-tail x h.0 xs h.1, h.2)
      ]

  pub Distinct-map : (xs : List X) → IsDistinct xs → ((a b : X) → Contains xs a → Contains xs b → f a ≡ f b → a ≡ b) → IsDistinct (map f xs)
  Distinct-map [] d once = tt
  Distinct-map (x ∷ xs) d once = (
    (λ c. let h : (z : X) × Contains xs z × (f x ≡ f z) = Contains-map xs (f x) c in
        d.0 (subst (λ (t : X). Contains xs t) (sym (once x h.0 (Contains-head x xs) (Contains-tail x h.0 xs h.1) h.2)) h.1)),
    Distinct-map xs d.1 (λ a b k l e. once a b (Contains-tail x a xs k) (Contains-tail x b xs l) e),
  )

module _ {X : Type 0} (p : X → Bool) where
  kept : (x : X) (xs : List X) (y : X) → p x ≡ true → Contains (filter p (x ∷ xs)) y → Contains (x ∷ filter p xs) y
  kept x xs y e c = subst (λ (b : Bool). Contains (cond b (x ∷ filter p xs) (filter p xs)) y) e c

  left_out : (x : X) (xs : List X) (y : X) → p x ≡ false → Contains (filter p (x ∷ xs)) y → Contains (filter p xs) y
  left_out x xs y e c = subst (λ (b : Bool). Contains (cond b (x ∷ filter p xs) (filter p xs)) y) e c

  pub Contains-filter : (xs : List X) (y : X) → Contains (filter p xs) y → Contains xs y × (p y ≡ true)
  Contains-filter [] y c = absurd (nothing_in y c)
  Contains-filter (x ∷ xs) y c =
      elim (cases_Bool (p x)) [
        | inl e ↦ elim (Contains-cons x y (filter p xs) (kept x xs y e c)) [
          | inl h ↦ (subst (λ (t : X). Contains (x ∷ xs) t) (sym h) (Contains-head x xs), ap p h ∙ e)
          | inr k ↦ let h : Contains xs y × (p y ≡ true) = Contains-filter xs y k in (Contains-tail x y xs h.0, h.1)
        ]
        | inr e ↦ let h : Contains xs y × (p y ≡ true) = Contains-filter xs y (left_out x xs y e c) in (Contains-tail x y xs h.0, h.1)
      ]

  pub filter-Contains : (xs : List X) (y : X) → Contains xs y → p y ≡ true → Contains (filter p xs) y
  filter-Contains [] y c t = absurd (nothing_in y c)
  filter-Contains (x ∷ xs) y c t =
      elim (cases_Bool (p x)) [
        | inl e ↦ subst (λ (b : Bool). Contains (cond b (x ∷ filter p xs) (filter p xs)) y) (sym e) (elim (Contains-cons x y xs c) [
          | inl h ↦ subst (λ (t : X). Contains (x ∷ filter p xs) t) (sym h) (Contains-head x (filter p xs))
          | inr k ↦ Contains-tail x y (filter p xs) (filter-Contains xs y k t)
        ])
        | inr e ↦ subst (λ (b : Bool). Contains (cond b (x ∷ filter p xs) (filter p xs)) y) (sym e) (elim (Contains-cons x y xs c) [
          | inl h ↦ absurd (cc (ap p h, e, t))
          | inr k ↦ filter-Contains xs y k t
        ])
      ]

  pub Distinct-filter : (xs : List X) → IsDistinct xs → IsDistinct (filter p xs)
  Distinct-filter [] d = tt
  Distinct-filter (x ∷ xs) d =
      elim (cases_Bool (p x)) [
        | inl e ↦ subst (λ (b : Bool). IsDistinct (cond b (x ∷ filter p xs) (filter p xs))) (sym e) ((λ c. d.0 (Contains-filter xs x c).0), Distinct-filter xs d.1)
        | inr e ↦ subst (λ (b : Bool). IsDistinct (cond b (x ∷ filter p xs) (filter p xs))) (sym e) (Distinct-filter xs d.1)
      ]

  -- where each thing passes, and where none does
  pub filter-all : (xs : List X) → AllByRecursion (λ x. p x ≡ true) xs → filter p xs ≡ xs
  filter-all [] h = refl
  filter-all (x ∷ xs) h = ap (λ (b : Bool). cond b (x ∷ filter p xs) (filter p xs)) h.0 ∙ ap (λ (t : List X). x ∷ t) (filter-all xs h.1)

  pub filter-none : (xs : List X) → AllByRecursion (λ x. p x ≡ false) xs → filter p xs ≡ []
  filter-none [] h = refl
  filter-none (x ∷ xs) h = ap (λ (b : Bool). cond b (x ∷ filter p xs) (filter p xs)) h.0 ∙ filter-none xs h.1

pub Distinct-append : {X : Type 0} (xs ys : List X) → IsDistinct xs → IsDistinct ys → ((z : X) → Contains xs z → Contains ys z → ⊥) → IsDistinct (xs ++ ys)
Distinct-append [] ys d e apart = e
Distinct-append (x ∷ xs) ys d e apart = (
  (λ c. elim (Contains-append_cases xs ys x c) [ inl k ↦ d.0 k | inr k ↦ apart x (Contains-head x xs) k ]),
  Distinct-append xs ys d.1 e (λ z k l. apart z (Contains-tail x z xs k) l),
)

pub Distinct-left : {X : Type 0} (xs ys : List X) → IsDistinct (xs ++ ys) → IsDistinct xs
Distinct-left [] ys d = tt
Distinct-left (x ∷ xs) ys d = ((λ c. d.0 (Contains-append_left xs ys x c)), Distinct-left xs ys d.1)

pub Distinct-push : {X : Type 0} (xs : List X) (y : X) → IsDistinct xs → (Contains xs y → ⊥) → IsDistinct (xs ++ y ∷ [])
Distinct-push {X} xs y d n =
    Distinct-append xs (y ∷ []) d ((λ c. nothing_in y c), tt) (λ z k m. n (subst (λ (t : X). Contains xs t) (single y z m) k))

pub Distinct-last : {X : Type 0} (xs : List X) (y : X) → IsDistinct (xs ++ y ∷ []) → Contains xs y → ⊥
Distinct-last [] y d c = nothing_in y c
Distinct-last {X} (x ∷ xs) y d c =
    elim (Contains-cons x y xs c) [
      | inl e ↦ d.0 (subst (λ (t : X). Contains (xs ++ y ∷ []) t) e (Contains-push xs y))
      | inr k ↦ Distinct-last xs y d.1 k
    ]

module _ {X Y : Type 0} (f : X → List Y) where
  pub Contains-flat_map : (xs : List X) (y : Y) → Contains (flat_map f xs) y → (x : X) × Contains xs x × Contains (f x) y
  Contains-flat_map [] y c = absurd (nothing_in y c)
  Contains-flat_map (x ∷ xs) y c =
      elim (Contains-append_cases (f x) (flat_map f xs) y c) [
        | inl k ↦ (x, Contains-head x xs, k)
        | inr k ↦ let h : (z : X) × Contains xs z × Contains (f z) y = Contains-flat_map xs y k in (h.0, Contains-tail x h.0 xs h.1, h.2)
      ]

  pub flat_map-Contains : (xs : List X) (x : X) (y : Y) → Contains xs x → Contains (f x) y → Contains (flat_map f xs) y
  flat_map-Contains [] x y c k = absurd (nothing_in x c)
  flat_map-Contains (z ∷ xs) x y c k =
      elim (Contains-cons z x xs c) [
        | inl e ↦ Contains-append_left (f z) (flat_map f xs) y (subst (λ (t : X). Contains (f t) y) e k)
        | inr h ↦ Contains-append_right (f z) (flat_map f xs) y (flat_map-Contains xs x y h k)
      ]

  pub Distinct-flat_map : (xs : List X) → IsDistinct xs → ((x : X) → Contains xs x → IsDistinct (f x)) → ((a b : X) (y : Y) → Contains (f a) y → Contains (f b) y → a ≡ b) → IsDistinct (flat_map f xs)
  Distinct-flat_map [] d each once = tt
  Distinct-flat_map (x ∷ xs) d each once =
      Distinct-append (f x) (flat_map f xs) (each x (Contains-head x xs)) (Distinct-flat_map xs d.1 (λ z k. each z (Contains-tail x z xs k)) once)
      (λ y k l. let h : (z : X) × Contains xs z × Contains (f z) y = Contains-flat_map xs y l in
      d.0 (subst (λ (t : X). Contains xs t) (sym (once x h.0 y k h.2)) h.1))

-- ---- counting

pub MoreThan-map : {X : Type 0} (n : ℕ) (P Q : X → Type 0) → ((x : X) → P x → Q x) → MoreThan n P → MoreThan n Q
MoreThan-map n P Q f m = (m.0, m.1, m.2, each_map P Q f m.0 m.3)

pub MoreThan-count : {X : Type 0} (n m : ℕ) (P : X → Type 0) → IsCount m P → n < m → MoreThan n P
MoreThan-count n m P c l = (c.0, omega (arith, c.1), c.2, each_from P c.0 (λ x k. (c.3 x).0 k))

-- a list without one of its places
abbrev without : {X : Type 0} → ℕ → List X → List X
without k [] = []
without zero (x ∷ xs) = xs
without (suc k) (x ∷ xs) = x ∷ without k xs

length-without : {X : Type 0} (k : ℕ) (ys : List X) → k < length ys → suc (length (without k ys)) ≡ length ys
length-without k [] l = absurd (omega arith)
length-without zero (y ∷ ys) l = refl
length-without (suc k) (y ∷ ys) l = ap suc (length-without k ys (omega arith))

without-Contains : {X : Type 0} (k : ℕ) (ys : List X) (x y : X) → k < length ys → slice_index_or ys k x ≡ x → Contains ys y → (y ≡ x) ⊎ Contains (without k ys) y
without-Contains {X} k [] x y l e c = absurd (omega arith)
without-Contains {X} zero (z ∷ ys) x y l e c = elim (Contains-cons z y ys c) [ inl h ↦ inl (h ∙ e) | inr k ↦ inr k ]
without-Contains {X} (suc k) (z ∷ ys) x y l e c =
    elim (Contains-cons z y ys c) [
      | inl h ↦ inr (subst (λ (t : X). Contains (z ∷ without k ys) t) (sym h) (Contains-head z (without k ys)))
      | inr m ↦ elim (without-Contains k ys x y (omega arith) e m) [ inl h ↦ inl h | inr r ↦ inr (Contains-tail z y (without k ys) r) ]
    ]

-- distinct things of a list are no more than the list is long
pub pigeons : {X : Type 0} (xs ys : List X) → IsDistinct xs → ((x : X) → Contains xs x → Contains ys x) → length xs ≤ length ys
pigeons {X} [] ys d h = omega arith
pigeons {X} (x ∷ xs) ys d h =
    let c : Contains ys x = h x (Contains-head x xs) in
    let shorter : suc (length (without c.0 ys)) ≡ length ys = length-without c.0 ys c.1 in
    let rest : length xs ≤ length (without c.0 ys) =
    pigeons xs (without c.0 ys) d.1 (λ y m.
    elim (without-Contains c.0 ys x y c.1 c.2 (h y (Contains-tail x y xs m))) [
      | inl e ↦ absurd (d.0 (subst (λ (t : X). Contains xs t) e m))
      | inr r ↦ r
    ]) in
    omega arith

pub no_more : {X : Type 0} (n m : ℕ) (P : X → Type 0) → IsCount m P → m ≤ n → MoreThan n P → ⊥
no_more {X} n m P c l t =
    let few : length t.0 ≤ length c.0 = pigeons t.0 c.0 t.2 (λ x k. (c.3 x).1 (each_at P t.0 t.3 x k)) in
    absurd (omega (arith, few, c.1, t.1))

pub IsCount-none : {X : Type 0} (P : X → Type 0) → ((x : X) → P x → ⊥) → IsCount 0 P
IsCount-none P none = ([], refl, tt, λ x. ((λ c. absurd (nothing_in x c)), (λ p. absurd (none x p))))

pub IsCount-add : {X : Type 0} (n : ℕ) (P Q R : X → Type 0) (ys : List X) → IsCount n P → IsDistinct ys → ((y : X) → (Contains ys y) ↔ (Q y)) → ((x : X) → P x → Q x → ⊥) → ((x : X) → (R x) ↔ (P x ⊎ Q x)) → IsCount (n + length ys) R
IsCount-add n P Q R ys c d here apart both = (
  c.0 ++ ys,
  omega (arith, length-append c.0 ys, c.1),
  Distinct-append c.0 ys c.2 d (λ z k l. apart z ((c.3 z).0 k) ((here z).0 l)),
  λ x. (
    (λ k. (both x).1 (elim (Contains-append_cases c.0 ys x k) [ inl p ↦ inl ((c.3 x).0 p) | inr q ↦ inr ((here x).0 q) ])),
    (λ r. elim ((both x).0 r) [ inl p ↦ Contains-append_left c.0 ys x ((c.3 x).1 p) | inr q ↦ Contains-append_right c.0 ys x ((here x).1 q) ]),
  ),
)
