-- The first deep terminal, as the first place of a list of loads.
use Rattle.std.proofs.Common.{◌≡◌, ℕ, zero, suc, ◌+◌, ◌<◌, ◌⊎◌, ◌↔◌, inl, inr, Bool, true, false, nat_eq, List, [], ◌∷◌, Option, None, Some, if◌then◌else◌, slice_get, refl, sym, ap, subst, arith, ◌∙◌}
use Rattle.std.proofs.lemmas.Bool.{eqb-true, eqb-false}
use Rattle.jv_grammar.specs.declared.terminal.Terminal.{Terminal}
use Rattle.jv_grammar.specs.Load.{loads_of, IsFirstDeep, IsShallow}

-- the first place of a load of 201, counted from a number
abbrev pub find_deep : ℕ → List ℕ → Option ℕ
find_deep i [] = None
find_deep i (x ∷ xs) = if nat_eq x 201 then Some i else find_deep (i + 1) xs

-- a place of a list, counted from a number, is the first one with 201
record IsFirst (i : ℕ) (xs : List ℕ) (j : ℕ) : Type 0 where
  place : ℕ
  from : j ≡ i + place
  deep : slice_get xs place ≡ Some 201
  first : (k : ℕ) → k < place → slice_get xs k ≡ Some 201 → ⊥

some_is : (a b : ℕ) → Some a ≡ Some b → a ≡ b
some_is a b e = cc

first_here : (i x : ℕ) (xs : List ℕ) → nat_eq x 201 ≡ true → IsFirst i (x ∷ xs) i
first_here i x xs e = record { place = 0; from = omega arith; deep = ap Some (eqb-true x 201 e); first = λ k l. absurd (omega arith) }

first_later : (i x : ℕ) (xs : List ℕ) (j : ℕ) → nat_eq x 201 ≡ false → IsFirst (i + 1) xs j → IsFirst i (x ∷ xs) j
first_later i x xs j e f = record { place = suc f.place; from = let h = f.from in omega arith; deep = f.deep; first = before }
  where
    before : (k : ℕ) → k < suc f.place → slice_get (x ∷ xs) k ≡ Some 201 → ⊥
    before zero l h = eqb-false x 201 e (some_is x 201 h)
    before (suc k) l h = f.first k (omega arith) h

found : (i : ℕ) (xs : List ℕ) (j : ℕ) → find_deep i xs ≡ Some j → IsFirst i xs j
found i [] j e = absurd (cc)
found i (x ∷ xs) j e = at (nat_eq x 201) refl e (found (i + 1) xs j)
  where
    at : (b : Bool) → nat_eq x 201 ≡ b → (if b then Some i else find_deep (i + 1) xs) ≡ Some j → (find_deep (i + 1) xs ≡ Some j → IsFirst (i + 1) xs j) → IsFirst i (x ∷ xs) j
    at true t e later = subst (IsFirst i (x ∷ xs)) (some_is i j e) (first_here i x xs t)
    at false t e later = first_later i x xs j t (later e)

missing : (i : ℕ) (xs : List ℕ) → find_deep i xs ≡ None → (k : ℕ) → slice_get xs k ≡ Some 201 → ⊥
missing i [] e k h = cc
missing i (x ∷ xs) e k h = at (nat_eq x 201) refl e k h (missing (i + 1) xs)
  where
    at : (b : Bool) → nat_eq x 201 ≡ b → (if b then Some i else find_deep (i + 1) xs) ≡ None → (k : ℕ) → slice_get (x ∷ xs) k ≡ Some 201
        → (find_deep (i + 1) xs ≡ None → (k : ℕ) → slice_get xs k ≡ Some 201 → ⊥) → ⊥
    at true t e k h later = cc
    at false t e zero h later = eqb-false x 201 t (some_is x 201 h)
    at false t e (suc k) h later = later e k h

first_deep_of : (ts : List Terminal) (j : ℕ) → IsFirst 0 (loads_of ts) j → IsFirstDeep ts j
first_deep_of ts j f =
    let e : f.place ≡ j = let h = f.from in omega arith in
    subst (IsFirstDeep ts) e (record { deep = f.deep; first = f.first })

-- at most one terminal is the first deep one
pub one_first_deep : (ts : List Terminal) (i j : ℕ) → IsFirstDeep ts i → IsFirstDeep ts j → i ≡ j
one_first_deep ts i j f g =
    let below : i < j → ⊥ = λ l. g.first i l f.deep in
    let above : j < i → ⊥ = λ l. f.first j l g.deep in
    omega arith

decided : (ts : List Terminal) (r : Option ℕ) → find_deep 0 (loads_of ts) ≡ r → ((r ≡ None) × IsShallow ts) ⊎ ((j : ℕ) × (r ≡ Some j) × IsFirstDeep ts j)
decided ts None e = inl (refl, missing 0 (loads_of ts) e)
decided ts (Some j) e = inr (j, refl, first_deep_of ts j (found 0 (loads_of ts) j e))

-- terminals are shallow, or one of them is the first deep one
pub shallow_or_deep : (ts : List Terminal) → IsShallow ts ⊎ ((i : ℕ) × IsFirstDeep ts i)
shallow_or_deep ts = elim (decided ts (find_deep 0 (loads_of ts)) refl) [
  | inl (n, s) ↦ inl s
  | inr (j, n, f) ↦ inr (j, f)
]

pub is_first_deep : (ts : List Terminal) (r : Option ℕ) → find_deep 0 (loads_of ts) ≡ r → (i : ℕ) → (r ≡ Some i) ↔ IsFirstDeep ts i
is_first_deep ts r e i = elim (decided ts r e) [
  | inl (n, s) ↦ ((λ h. absurd (cc)), λ f. absurd (s i f.deep))
  | inr (j, n, f) ↦ ((λ h. subst (IsFirstDeep ts) (some_is j i (sym n ∙ h)) f), λ g. n ∙ ap Some (one_first_deep ts j i f g))
]

pub is_shallow : (ts : List Terminal) (r : Option ℕ) → find_deep 0 (loads_of ts) ≡ r → (r ≡ None) ↔ IsShallow ts
is_shallow ts r e = elim (decided ts r e) [
  | inl (n, s) ↦ ((λ h. s), λ h. n)
  | inr (j, n, f) ↦ ((λ h. absurd (cc)), λ h. absurd (h j f.deep))
]
