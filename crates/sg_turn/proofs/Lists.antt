-- Lists that are read by place.
use Rattle.std.proofs.Common.{◌≡◌, ◌≢◌, ℕ, zero, suc, ◌<◌, List, [], ◌∷◌, ◌++◌, length, get_or, set, sym, refl, ap, ◌∙◌, subst, inl, inr, ◌⊎◌, ⊎_elim, arith, length-append}
use Rattle.std.specs.Prelude.{All}
use mathlib.Core.Option as maybe
use mathlib.Core.Option.{some-injective, some-ne-none}
use lib.ListN.{get_elem?}
use Rattle.atomic_table.proofs.Lists.{at_set}

module _ {A : Type 0} where
  pub at_below : (l : List A) (i : ℕ) (a : A) → get_elem? l i ≡ maybe.some a → i < length l
  at_below [] i a e = absurd (some-ne-none a (sym e))
  at_below (x ∷ xs) zero a e = omega arith
  at_below (x ∷ xs) (suc i) a e = let h = at_below xs i a e in omega arith

  pub same_at : (l : List A) (i : ℕ) (a b : A) → get_elem? l i ≡ maybe.some a → get_elem? l i ≡ maybe.some b → a ≡ b
  same_at l i a b e f = some-injective a b (sym e ∙ f)

  pub at_one : (a b : A) (j : ℕ) → get_elem? (a ∷ []) j ≡ maybe.some b → a ≡ b
  at_one a b zero e = some-injective a b e
  at_one a b (suc j) e = absurd (some-ne-none b (sym e))

  -- what holds of one at its new place, and of the others where they were
  pub each_set : (K : ℕ → A → Type 0) (l : List A) (i : ℕ) (w : A) → K i w → ((j : ℕ) (v : A) → j ≢ i → get_elem? l j ≡ maybe.some v → K j v)
      → (j : ℕ) (v : A) → get_elem? (set l i w) j ≡ maybe.some v → K j v
  each_set K l i w mine others j v e = ⊎_elim (λ (t : (j ≡ i) × (w ≡ v)). subst (λ (x : ℕ × A). K x.0 x.1) (λ k. (sym t.0 k, t.1 k)) mine)
      (λ (t : (j ≢ i) × (get_elem? l j ≡ maybe.some v)). others j v t.0 t.1) (at_set l i j w v e)

  -- one of a longer list is the last, or stood there
  pub at_end : (l : List A) (a b : A) (j : ℕ) → get_elem? (l ++ a ∷ []) j ≡ maybe.some b → (get_elem? l j ≡ maybe.some b) ⊎ ((j ≡ length l) × (a ≡ b))
  at_end [] a b zero e = inr (refl, some-injective a b e)
  at_end [] a b (suc j) e = absurd (some-ne-none b (sym e))
  at_end (x ∷ xs) a b zero e = inl e
  at_end (x ∷ xs) a b (suc j) e = ⊎_elim inl (λ (t : (j ≡ length xs) × (a ≡ b)). inr (ap suc t.0, t.1)) (at_end xs a b j e)

  -- what holds of each of two lists holds of the two
  pub at_both : (P : A → Type 0) (l m : List (A)) → ((q : ℕ) (z : A) → get_elem? l q ≡ maybe.some z → P z) → ((q : ℕ) (z : A) → get_elem? m q ≡ maybe.some z → P z)
      → (q : ℕ) (z : A) → get_elem? (l ++ m) q ≡ maybe.some z → P z
  at_both P [] m a b q z e = b q z e
  at_both P (x ∷ xs) m a b zero z e = a 0 z e
  at_both P (x ∷ xs) m a b (suc q) z e = at_both P xs m (λ i y h. a (suc i) y h) b q z e

pub none_left : {A : Type 0} (l : List A) → length l ≡ 0 → l ≡ []
none_left [] e = refl
none_left (x ∷ xs) e = absurd (omega arith)

there : {A : Type 0} (l : List A) (k : ℕ) (d : A) → k < length l → get_elem? l k ≡ maybe.some (get_or l k d)
there [] k d h = absurd (omega arith)
there (x ∷ xs) zero d h = refl
there (x ∷ xs) (suc k) d h = there xs k d (omega arith)

-- what holds at each place holds of each element
pub all_of : {A : Type 0} (P : A → Type 0) (l : List A) → ((q : ℕ) (a : A) → get_elem? l q ≡ maybe.some a → P a) → All P l
all_of P l f = λ k d h. f k (get_or l k d) (there l k d h)

-- two lists with one element behind each
pub same_snoc : {A : Type 0} (l m : List A) (a b : A) → l ++ a ∷ [] ≡ m ++ b ∷ [] → (l ≡ m) × (a ≡ b)
same_snoc [] [] a b e = (refl, cc)
same_snoc [] (y ∷ ys) a b e = let n = ap length e in let m = length-append ys (b ∷ []) in absurd (omega arith)
same_snoc (x ∷ xs) [] a b e = let n = ap length e in let m = length-append xs (a ∷ []) in absurd (omega arith)
same_snoc (x ∷ xs) (y ∷ ys) a b e = let head : x ≡ y = cc in let tail : xs ++ a ∷ [] ≡ ys ++ b ∷ [] = cc in let t = same_snoc xs ys a b tail in (λ k. head k ∷ t.0 k, t.1)
