-- Strict orders of marks and of paths.
use Rattle.std.proofs.Common.{◌≡◌, ◌≢◌, ℕ, ◌<◌, List, [], ◌∷◌, ◌⊎◌, Bool, IsTrue, inl, inr, refl, sym, ap, ◌∙◌, subst, slice_index, ◌==◌, ◌↔◌, length, arith}
use Rattle.std.specs.List.{Contains}
use Rattle.std.proofs.lemmas.Bool.{cases_eq, cases_lt}
use Rattle.std.proofs.lemmas.Bool.Decides.{nat_tests}
use Rattle.std.specs.Int.{bit_at}
use Rattle.sg_base.specs.declared.mark.Mark.{Mark}
use Rattle.sg_base.specs.declared.mark.Mark.TheVariants.{End, Of}
use Rattle.sg_base.specs.declared.scope.Scope.{Scope}
use Rattle.sg_base.specs.declared.step.Step.{Step}
use Rattle.sg_order.specs.Mark.{Precedes, given, through, mark_number}
use Rattle.sg_order.specs.Order.{IsStrict, RowHas, precedes}
use Rattle.sg_order.specs.Path.{IsPathBefore}
use Rattle.sg_order.proofs.ChainLemmas.{Precedes-trans}
use Rattle.sg_order.proofs.RowLemmas.{no_row_past}
use Rattle.sg_order.proofs.BeforeLemmas.{same_step, Before-tail, cons-Before, Before-apart, apart-Before, Before-left, Before-right, Before-nil}

cases_scope : (a b : Scope) → (a ≡ b) ⊎ (a ≡ b → ⊥)
cases_scope a b =
    elim (cases_eq a.unit b.unit) [
      | inr n ↦ inr (λ e. n (ap (λ (s : Scope). s.unit) e))
      | inl e ↦ elim (cases_eq a.serial b.serial) [
        | inr n ↦ inr (λ f. n (ap (λ (s : Scope). s.serial) f))
        | inl f ↦ inl (ap (λ (n : ℕ). let s : Scope = record { unit = n; serial = a.serial } in s) e ∙ ap (λ (n : ℕ). let s : Scope = record { unit = b.unit; serial = n } in s) f)
      ]
    ]

cases_step : (x y : Step) → (x ≡ y) ⊎ (x ≡ y → ⊥)
cases_step x y =
    elim (cases_eq x.label y.label) [
      | inr n ↦ inr (λ e. n (ap (λ (s : Step). s.label) e))
      | inl e ↦ elim (cases_scope x.to y.to) [
        | inr n ↦ inr (λ f. n (ap (λ (s : Step). s.to) f))
        | inl f ↦ inl (same_step x y e f)
      ]
    ]

module _ (order : Mark → Mark → Bool) (strict : IsStrict order) where
  pub Before-irreflexive : (ps : List Step) → IsPathBefore order ps ps → ⊥
  Before-irreflexive [] b = Before-nil order b
  Before-irreflexive (x ∷ ps) b = Before-irreflexive ps (Before-tail order x x ps ps refl b)

  -- two labels of which one comes before the other
  labels_apart : (l m : ℕ) → IsTrue (order (Of l) (Of m)) → l ≢ m
  labels_apart l m t e = strict.irreflexive (Of m) (subst (λ (k : ℕ). IsTrue (order (Of k) (Of m))) e t)

  over_end : (x z : Step) (ps rs : List Step) → IsTrue (order (Of x.label) End) → IsTrue (order End (Of z.label)) → IsPathBefore order (x ∷ ps) (z ∷ rs)
  over_end x z ps rs t u =
      let o = strict.transitive (Of x.label) End (Of z.label) t u in
      apart-Before order x z ps rs (labels_apart x.label z.label o) o

  over_label : (x z : Step) (ps rs : List Step) (m : ℕ) → IsTrue (order (Of x.label) (Of m)) → IsTrue (order (Of m) (Of z.label)) → IsPathBefore order (x ∷ ps) (z ∷ rs)
  over_label x z ps rs m t u =
      let o = strict.transitive (Of x.label) (Of m) (Of z.label) t u in
      apart-Before order x z ps rs (labels_apart x.label z.label o) o

  along : (x y : Step) → x ≡ y → x.label ≡ y.label
  along x y e = ap (λ (s : Step). s.label) e

  pub Before-transitive : (ps qs rs : List Step) → IsPathBefore order ps qs → IsPathBefore order qs rs → IsPathBefore order ps rs
  Before-transitive [] [] rs b c = absurd (Before-nil order b)
  Before-transitive [] (y ∷ qs) [] b c =
      absurd (strict.irreflexive End (strict.transitive End (Of y.label) End ((Before-right order y qs).1 b) ((Before-left order y qs).1 c)))
  Before-transitive [] (y ∷ qs) (z ∷ rs) b c =
      let first = (Before-right order y qs).1 b in
      (Before-right order z rs).0 (elim (cases_step y z) [
        | inl e ↦ subst (λ (l : ℕ). IsTrue (order End (Of l))) (along y z e) first
        | inr n ↦ strict.transitive End (Of y.label) (Of z.label) first (Before-apart order y z qs rs n c).1
      ])
  Before-transitive (x ∷ ps) [] [] b c = absurd (Before-nil order c)
  Before-transitive (x ∷ ps) [] (z ∷ rs) b c = over_end x z ps rs ((Before-left order x ps).1 b) ((Before-right order z rs).1 c)
  Before-transitive (x ∷ ps) (y ∷ qs) [] b c =
      let last = (Before-left order y qs).1 c in
      (Before-left order x ps).0 (elim (cases_step x y) [
        | inl e ↦ subst (λ (l : ℕ). IsTrue (order (Of l) End)) (sym (along x y e)) last
        | inr n ↦ strict.transitive (Of x.label) (Of y.label) End (Before-apart order x y ps qs n b).1 last
      ])
  Before-transitive (x ∷ ps) (y ∷ qs) (z ∷ rs) b c =
      elim (cases_step x y) [
        | inl e ↦ elim (cases_step y z) [
          | inl f ↦ cons-Before order x z ps rs (e ∙ f) (Before-transitive ps qs rs (Before-tail order x y ps qs e b) (Before-tail order y z qs rs f c))
          | inr n ↦
              let o = (Before-apart order y z qs rs n c).1 in
              let p = subst (λ (l : ℕ). IsTrue (order (Of l) (Of z.label))) (sym (along x y e)) o in
              apart-Before order x z ps rs (labels_apart x.label z.label p) p
        ]
        | inr n ↦
            let o = (Before-apart order x y ps qs n b).1 in
            elim (cases_step y z) [
              | inl f ↦
                  let p = subst (λ (l : ℕ). IsTrue (order (Of x.label) (Of l))) (along y z f) o in
                  apart-Before order x z ps rs (labels_apart x.label z.label p) p
              | inr m ↦ over_label x z ps rs y.label o (Before-apart order y z qs rs m c).1
            ]
      ]

module _ (pairs : List (Mark × Mark)) (rank : Mark → ℕ) (rises : (a b : Mark) → Contains pairs (a, b) → rank a < rank b) where
  pub Precedes-rises : (a b : Mark) → Precedes pairs a b → rank a < rank b
  Precedes-rises a b (given c) = rises a b c
  Precedes-rises a b (through {b = m} c r) =
      let first = rises a m c in
      let rest = Precedes-rises m b r in
      omega arith

set_bit : (n : ℕ) → IsTrue (n == 1) → n ≡ 1
set_bit n h = grind (arith, nat_tests)

bit_set : (n : ℕ) → n ≡ 1 → IsTrue (n == 1)
bit_set n h = grind (arith, nat_tests)

-- rows that are the closure of pairs, and that have no mark before itself, are a strict order
module _ (pairs : List (Mark × Mark)) (rows : List ℕ) (size : length rows ≡ 17) (exact : (a b : Mark) → (RowHas rows (mark_number a) (mark_number b)) ↔ (Precedes pairs a b)) (none : (k : ℕ) → k < 17 → RowHas rows k k → ⊥) where
  row_of : (a b : Mark) → IsTrue (precedes rows a b) → RowHas rows (mark_number a) (mark_number b)
  row_of a b t = set_bit (bit_at (slice_index rows (mark_number a)) (mark_number b)) t

  of_row : (a b : Mark) → RowHas rows (mark_number a) (mark_number b) → IsTrue (precedes rows a b)
  of_row a b h = bit_set (bit_at (slice_index rows (mark_number a)) (mark_number b)) h

  no_loop : (k : ℕ) → RowHas rows k k → ⊥
  no_loop k h = elim (cases_lt k 17) [ inl near ↦ none k near h | inr far ↦ no_row_past rows k k size far h ]

  pub strict_rows : IsStrict (precedes rows)
  strict_rows =
      record {
        irreflexive = λ a t. no_loop (mark_number a) (row_of a a t);
        transitive = λ a b c t u. of_row a c ((exact a c).1 (Precedes-trans pairs a b c ((exact a b).0 (row_of a b t)) ((exact b c).0 (row_of b c u))));
      }
