-- The order of marks by a list of labels, and the pairs that give it.
use Rattle.std.proofs.Common.{◌≡◌, ℕ, ◌==◌, ◌&&◌, ◌||◌, ◌⊎◌, Bool, true, false, List, [], ◌∷◌, ◌++◌, map, inl, inr, refl, sym, subst, ap}
use Rattle.std.proofs.lemmas.Bool.{eqb-true, eq-eqb, and_from}
use Rattle.std.specs.List.{Contains, list_any}
use Rattle.std.proofs.lemmas.List.Elements.{Contains-append_left, Contains-append_right, Contains-append_cases}
use Rattle.sg_base.proofs.Finite.{nothing_in, Contains-head, Contains-cons, Contains-tail, map-Contains, Contains-map}
use Rattle.sg_base.specs.declared.mark.Mark.{Mark}
use Rattle.sg_base.specs.declared.mark.Mark.TheVariants.{End, Of}
use Rattle.sg_state.proofs.Soundness.{same_bool}
use Rattle.sg_order.specs.Mark.{Precedes, given, through, IsLeastLoop}
use Rattle.sg_order.specs.Order.{IsOrderOf, precedes}
use Rattle.jv_names.specs.Kinds.{stands_before, mark_before}

-- whether a label is in a list
abbrev has : List ℕ → ℕ → Bool
has xs a = list_any (λ y. y == a) xs

-- no label stands twice in a list
abbrev pub AllDiffer : List ℕ → Type 0
AllDiffer [] = Unit {0}
AllDiffer (x ∷ xs) = (has xs x ≡ false) × AllDiffer xs

-- each label with each behind it
abbrev pub pairs_of : List ℕ → List (Mark × Mark)
pairs_of [] = []
pairs_of (x ∷ xs) = map (λ y. (Of x, Of y)) xs ++ pairs_of xs

both : (a b : Bool) → (a && b) ≡ true → (a ≡ true) × (b ≡ true)
both true b h = (refl, h)
both false b h = absurd (cc)

either : (a b : Bool) → (a || b) ≡ true → (a ≡ true) ⊎ (b ≡ true)
either true b h = inl refl
either false b h = inr h

left : (a b : Bool) → a ≡ true → (a || b) ≡ true
left a b e = ap (λ (x : Bool). x || b) e

right : (a b : Bool) → b ≡ true → (a || b) ≡ true
right true b e = refl
right false b e = e

same : (a b : ℕ) → (a == b) ≡ true → a ≡ b
same a b h = eqb-true a b h

itself : (a : ℕ) → (a == a) ≡ true
itself a = eq-eqb a a refl

-- ---- the order

first_in : (xs : List ℕ) (a b : ℕ) → stands_before xs a b ≡ true → has xs a ≡ true
first_in [] a b h = h
first_in (x ∷ xs) a b h = elim (either ((x == a) && has xs b) (stands_before xs a b) h) [
  | inl k ↦ left (x == a) (has xs a) (both (x == a) (has xs b) k).0
  | inr k ↦ right (x == a) (has xs a) (first_in xs a b k)
]

second_in : (xs : List ℕ) (a b : ℕ) → stands_before xs a b ≡ true → has xs b ≡ true
second_in [] a b h = h
second_in (x ∷ xs) a b h = elim (either ((x == a) && has xs b) (stands_before xs a b) h) [
  | inl k ↦ right (x == b) (has xs b) (both (x == a) (has xs b) k).1
  | inr k ↦ right (x == b) (has xs b) (second_in xs a b k)
]

-- the head of a list is not in its rest
not_again : (x : ℕ) (xs : List ℕ) (a : ℕ) → AllDiffer (x ∷ xs) → (x == a) ≡ true → has xs a ≡ true → ⊥
not_again x xs a differ e h =
    let k : has xs x ≡ true = subst (λ (n : ℕ). has xs n ≡ true) (sym (same x a e)) h in
    let no : has xs x ≡ false = differ.0 in
    cc

chained : (xs : List ℕ) → AllDiffer xs → (a b c : ℕ) → stands_before xs a b ≡ true → stands_before xs b c ≡ true → stands_before xs a c ≡ true
chained [] differ a b c h k = h
chained (x ∷ xs) differ a b c h k = elim (either ((x == a) && has xs b) (stands_before xs a b) h) [
  | inl first ↦
      let at : ((x == a) ≡ true) × (has xs b ≡ true) = both (x == a) (has xs b) first in
      elim (either ((x == b) && has xs c) (stands_before xs b c) k) [
        | inl second ↦ absurd (not_again x xs b differ (both (x == b) (has xs c) second).0 at.1)
        | inr second ↦ left ((x == a) && has xs c) (stands_before xs a c) (and_from (x == a) (has xs c) at.0 (second_in xs b c second))
      ]
  | inr first ↦
      elim (either ((x == b) && has xs c) (stands_before xs b c) k) [
        | inl second ↦ absurd (not_again x xs b differ (both (x == b) (has xs c) second).0 (second_in xs a b first))
        | inr second ↦ right ((x == a) && has xs c) (stands_before xs a c) (chained xs differ.1 a b c first second)
      ]
]

no_loop : (xs : List ℕ) → AllDiffer xs → (a : ℕ) → stands_before xs a a ≡ true → ⊥
no_loop [] differ a h = let k : false ≡ true = h in cc
no_loop (x ∷ xs) differ a h = elim (either ((x == a) && has xs a) (stands_before xs a a) h) [
  | inl k ↦ not_again x xs a differ (both (x == a) (has xs a) k).0 (both (x == a) (has xs a) k).1
  | inr k ↦ no_loop xs differ.1 a k
]

-- ---- the pairs

has_it : (xs : List ℕ) (a : ℕ) → Contains xs a → has xs a ≡ true
has_it [] a c = absurd (nothing_in a c)
has_it (x ∷ xs) a c = elim (Contains-cons x a xs c) [
  | inl e ↦ left (x == a) (has xs a) (subst (λ (n : ℕ). (x == n) ≡ true) (sym e) (itself x))
  | inr k ↦ right (x == a) (has xs a) (has_it xs a k)
]

it_has : (xs : List ℕ) (a : ℕ) → has xs a ≡ true → Contains xs a
it_has [] a h = let k : false ≡ true = h in absurd (cc)
it_has (x ∷ xs) a h = elim (either (x == a) (has xs a) h) [
  | inl e ↦ subst (λ (n : ℕ). Contains (x ∷ xs) n) (same x a e) (Contains-head x xs)
  | inr k ↦ Contains-tail x a xs (it_has xs a k)
]

later : (x : ℕ) (xs : List ℕ) (a b : Mark) → mark_before xs a b ≡ true → mark_before (x ∷ xs) a b ≡ true
later x xs End b h = h
later x xs (Of a) End h = h
later x xs (Of a) (Of b) h = right ((x == a) && has xs b) (stands_before xs a b) h

abbrev first_of : Mark × Mark → Mark
first_of p = p.0

abbrev second_of : Mark × Mark → Mark
second_of p = p.1

pair_before : (xs : List ℕ) (a b : Mark) → Contains (pairs_of xs) (a, b) → mark_before xs a b ≡ true
pair_before [] a b c = absurd (nothing_in (a, b) c)
pair_before (x ∷ xs) a b c = elim (Contains-append_cases (map (λ y. (Of x, Of y)) xs) (pairs_of xs) (a, b) c) [
  | inl k ↦
      let y = Contains-map (λ (y : ℕ). (Of x, Of y)) xs (a, b) k in
      let first : a ≡ Of x = ap first_of y.2 in
      let second : b ≡ Of y.0 = ap second_of y.2 in
      subst (λ (m : Mark). mark_before (x ∷ xs) m b ≡ true) (sym first) (subst (λ (m : Mark). mark_before (x ∷ xs) (Of x) m ≡ true) (sym second) (left ((x == x) && has xs y.0) (stands_before xs x y.0) (and_from (x == x) (has xs y.0) (itself x) (has_it xs y.0 y.1))))
  | inr k ↦ later x xs a b (pair_before xs a b k)
]

before_pair : (xs : List ℕ) (a b : Mark) → mark_before xs a b ≡ true → Contains (pairs_of xs) (a, b)
before_pair xs End b h = let k : false ≡ true = h in absurd (cc)
before_pair xs (Of a) End h = let k : false ≡ true = h in absurd (cc)
before_pair [] (Of a) (Of b) h = let k : false ≡ true = h in absurd (cc)
before_pair (x ∷ xs) (Of a) (Of b) h = elim (either ((x == a) && has xs b) (stands_before xs a b) h) [
  | inl k ↦
      let at : ((x == a) ≡ true) × (has xs b ≡ true) = both (x == a) (has xs b) k in
      subst (λ (n : ℕ). Contains (pairs_of (x ∷ xs)) (Of n, Of b)) (same x a at.0) (Contains-append_left (map (λ y. (Of x, Of y)) xs) (pairs_of xs) (Of x, Of b) (map-Contains (λ (y : ℕ). (Of x, Of y)) xs b (it_has xs b at.1)))
  | inr k ↦ Contains-append_right (map (λ y. (Of x, Of y)) xs) (pairs_of xs) (Of a, Of b) (before_pair xs (Of a) (Of b) k)
]

marks_chained : (xs : List ℕ) → AllDiffer xs → (a b c : Mark) → mark_before xs a b ≡ true → mark_before xs b c ≡ true → mark_before xs a c ≡ true
marks_chained xs differ End b c h k = let e : false ≡ true = h in absurd (cc)
marks_chained xs differ (Of a) End c h k = let e : false ≡ true = h in absurd (cc)
marks_chained xs differ (Of a) (Of b) End h k = let e : false ≡ true = k in absurd (cc)
marks_chained xs differ (Of a) (Of b) (Of c) h k = chained xs differ a b c h k

precedes_before : (xs : List ℕ) → AllDiffer xs → (a b : Mark) → Precedes (pairs_of xs) a b → mark_before xs a b ≡ true
precedes_before xs differ a b (given c) = pair_before xs a b c
precedes_before xs differ f t (through {a} {b} {c} k p) = marks_chained xs differ a b c (pair_before xs a b k) (precedes_before xs differ b c p)

no_mark_loops : (xs : List ℕ) → AllDiffer xs → (m : Mark) → mark_before xs m m ≡ true → ⊥
no_mark_loops xs differ End h = let e : false ≡ true = h in cc
no_mark_loops xs differ (Of a) h = no_loop xs differ a h

module _ (xs : List ℕ) (differ : AllDiffer xs) where
  -- the pairs of different labels have no loop
  pub no_least_loop : (m : Mark) → IsLeastLoop (pairs_of xs) m → ⊥
  no_least_loop m loop = no_mark_loops xs differ m (precedes_before xs differ m m loop.loops)

  -- their order is that of the list
  pub orders : (rows : List ℕ) → IsOrderOf (pairs_of xs) rows → (a b : Mark) → precedes rows a b ≡ mark_before xs a b
  orders rows order a b = same_bool (precedes rows a b) (mark_before xs a b) (
    (λ t. precedes_before xs differ a b ((order.exact a b).0 t)),
    (λ t. (order.exact a b).1 (given (before_pair xs a b t))),
  )
