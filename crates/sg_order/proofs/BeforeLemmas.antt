-- Which of two paths comes before the other, by their first steps.
use Rattle.std.proofs.Common.{◌≡◌, ◌≢◌, ℕ, suc, ◌+◌, ◌<◌, List, [], ◌∷◌, ◌++◌, Bool, IsTrue, ◌↔◌, refl, sym, ap, ◌∙◌, subst, drop, get_or, length, add-one, drop-cons, eqb, not, ◌&&◌, true, false, arith}
use Rattle.std.proofs.lemmas.Bool.Decides.{nat_tests}
use Rattle.sg_base.specs.declared.mark.Mark.{Mark}
use Rattle.sg_base.specs.declared.mark.Mark.TheVariants.{End, Of}
use Rattle.sg_base.specs.declared.scope.Scope.{Scope}
use Rattle.sg_base.specs.declared.step.Step.{Step}
use Rattle.sg_order.specs.Path.{IsPathBefore, PartHere, mark_of}

pub same_step : (x y : Step) → x.label ≡ y.label → x.to ≡ y.to → x ≡ y
same_step x y p q =
    ap (λ (l : ℕ). let s : Step = record { label = l; to = x.to } in s) p ∙ ap (λ (t : Scope). let s : Step = record { label = y.label; to = t } in s) q

module _ (order : Mark → Mark → Bool) where
  before_cons_at : (x y : Step) (ps qs common p q : List Step) → x ≡ y → x ∷ ps ≡ common ++ p → y ∷ qs ≡ common ++ q → PartHere p q → IsTrue (order (mark_of p) (mark_of q)) → IsPathBefore order ps qs
  before_cons_at x y ps qs [] [] q e a b apart t = absurd (cc)
  before_cons_at x y ps qs [] (u ∷ p) [] e a b apart t = absurd (cc)
  before_cons_at x y ps qs [] (u ∷ p) (v ∷ q) e a b apart t =
      let first : x ≡ u = cc in
      let second : y ≡ v = cc in
      absurd (apart (ap (λ (s : Step). s.label) (sym first ∙ e ∙ second)))
  before_cons_at x y ps qs (z ∷ common) p q e a b apart t =
      let left : ps ≡ common ++ p = cc in
      let right : qs ≡ common ++ q = cc in
      (common, p, q, left, right, apart, t)

  pub Before-tail : (x y : Step) (ps qs : List Step) → x ≡ y → IsPathBefore order (x ∷ ps) (y ∷ qs) → IsPathBefore order ps qs
  Before-tail x y ps qs e b = before_cons_at x y ps qs b.0 b.1 b.2 e b.3 b.4 b.5 b.6

  pub cons-Before : (x y : Step) (ps qs : List Step) → x ≡ y → IsPathBefore order ps qs → IsPathBefore order (x ∷ ps) (y ∷ qs)
  cons-Before x y ps qs e b =
      (x ∷ b.0, b.1, b.2, ap (λ (t : List Step). x ∷ t) b.3, subst (λ (z : Step). z ∷ qs ≡ x ∷ (b.0 ++ b.2)) e (ap (λ (t : List Step). x ∷ t) b.4), b.5, b.6)

  before_apart_at : (x y : Step) (ps qs common p q : List Step) → (x ≡ y → ⊥) → x ∷ ps ≡ common ++ p → y ∷ qs ≡ common ++ q → PartHere p q → IsTrue (order (mark_of p) (mark_of q)) → (x.label ≢ y.label) × IsTrue (order (Of x.label) (Of y.label))
  before_apart_at x y ps qs [] [] q n a b apart t = absurd (cc)
  before_apart_at x y ps qs [] (u ∷ p) [] n a b apart t = absurd (cc)
  before_apart_at x y ps qs [] (u ∷ p) (v ∷ q) n a b apart t =
      let first : u ≡ x = cc in
      let second : v ≡ y = cc in (
        (λ e. apart (ap (λ (s : Step). s.label) first ∙ e ∙ ap (λ (s : Step). s.label) (sym second))),
        subst (λ (s : Step). IsTrue (order (Of s.label) (Of y.label))) first (subst (λ (s : Step). IsTrue (order (Of u.label) (Of s.label))) second t),
      )
  before_apart_at x y ps qs (z ∷ common) p q n a b apart t =
      let left : x ≡ z = cc in
      let right : y ≡ z = cc in
      absurd (n (left ∙ sym right))

  -- of two paths with different first steps
  pub Before-apart : (x y : Step) (ps qs : List Step) → (x ≡ y → ⊥) → IsPathBefore order (x ∷ ps) (y ∷ qs) → (x.label ≢ y.label) × IsTrue (order (Of x.label) (Of y.label))
  Before-apart x y ps qs n b = before_apart_at x y ps qs b.0 b.1 b.2 n b.3 b.4 b.5 b.6

  pub apart-Before : (x y : Step) (ps qs : List Step) → x.label ≢ y.label → IsTrue (order (Of x.label) (Of y.label)) → IsPathBefore order (x ∷ ps) (y ∷ qs)
  apart-Before x y ps qs n t = ([], x ∷ ps, y ∷ qs, refl, refl, n, t)

  before_left_at : (x : Step) (ps common p q : List Step) → x ∷ ps ≡ common ++ p → [] ≡ common ++ q → PartHere p q → IsTrue (order (mark_of p) (mark_of q)) → IsTrue (order (Of x.label) End)
  before_left_at x ps [] [] q a b apart t = absurd (cc)
  before_left_at x ps [] (u ∷ p) [] a b apart t =
      let first : u ≡ x = cc in
      subst (λ (s : Step). IsTrue (order (Of s.label) End)) first t
  before_left_at x ps [] (u ∷ p) (v ∷ q) a b apart t = absurd (cc)
  before_left_at x ps (z ∷ common) p q a b apart t = absurd (cc)

  pub Before-left : (x : Step) (ps : List Step) → (IsTrue (order (Of x.label) End)) ↔ (IsPathBefore order (x ∷ ps) [])
  Before-left x ps = ((λ t. ([], x ∷ ps, [], refl, refl, tt, t)), (λ b. before_left_at x ps b.0 b.1 b.2 b.3 b.4 b.5 b.6))

  before_right_at : (y : Step) (qs common p q : List Step) → [] ≡ common ++ p → y ∷ qs ≡ common ++ q → PartHere p q → IsTrue (order (mark_of p) (mark_of q)) → IsTrue (order End (Of y.label))
  before_right_at y qs [] [] [] a b apart t = absurd (cc)
  before_right_at y qs [] [] (v ∷ q) a b apart t =
      let first : v ≡ y = cc in
      subst (λ (s : Step). IsTrue (order End (Of s.label))) first t
  before_right_at y qs [] (u ∷ p) q a b apart t = absurd (cc)
  before_right_at y qs (z ∷ common) p q a b apart t = absurd (cc)

  pub Before-right : (y : Step) (qs : List Step) → (IsTrue (order End (Of y.label))) ↔ (IsPathBefore order [] (y ∷ qs))
  Before-right y qs = ((λ t. ([], [], y ∷ qs, refl, refl, tt, t)), (λ b. before_right_at y qs b.0 b.1 b.2 b.3 b.4 b.5 b.6))

  before_nil_at : (common p q : List Step) → [] ≡ common ++ p → [] ≡ common ++ q → PartHere p q → ⊥
  before_nil_at [] [] [] a b apart = apart
  before_nil_at [] [] (v ∷ q) a b apart = cc
  before_nil_at [] (u ∷ p) q a b apart = cc
  before_nil_at (z ∷ common) p q a b apart = cc

  pub Before-nil : IsPathBefore order [] [] → ⊥
  Before-nil b = before_nil_at b.0 b.1 b.2 b.3 b.4 b.5

pub drop_step : (ps : List Step) (i : ℕ) (x : Step) → i < length ps → x ≡ get_or ps i x → drop i ps ≡ x ∷ drop (i + 1) ps
drop_step ps i x l h = rw (add-one, drop-cons ps i x) (ap (λ (s : Step). s ∷ drop (suc i) ps) (sym h))

pub Before-moved : (order : Mark → Mark → Bool) (ps qs rs ts : List Step) → ps ≡ rs → qs ≡ ts → (IsPathBefore order ps qs) ↔ (IsPathBefore order rs ts)
Before-moved order ps qs rs ts e f = (
  (λ b. subst (λ (t : List Step). IsPathBefore order rs t) f (subst (λ (t : List Step). IsPathBefore order t qs) e b)),
  (λ b. subst (λ (t : List Step). IsPathBefore order ps t) (sym f) (subst (λ (t : List Step). IsPathBefore order t ts) (sym e) b)),
)

same_first : (a b c d : ℕ) → not (eqb a b && eqb c d) ≡ false → a ≡ b
same_first a b c d h = grind (arith, nat_tests)

same_second : (a b c d : ℕ) → not (eqb a b && eqb c d) ≡ false → c ≡ d
same_second a b c d h = grind (arith, nat_tests)

pub same_scope : (a b : Scope) → not (eqb a.unit b.unit && eqb a.serial b.serial) ≡ false → a ≡ b
same_scope a b h =
    ap (λ (n : ℕ). let s : Scope = record { unit = n; serial = a.serial } in s) (same_first a.unit b.unit a.serial b.serial h)
    ∙ ap (λ (n : ℕ). let s : Scope = record { unit = b.unit; serial = n } in s) (same_second a.unit b.unit a.serial b.serial h)

differ : (a c : ℕ) → not (eqb a a && eqb c c) ≡ true → ⊥
differ a c h = grind (arith, nat_tests)

pub other_scope : (a b : Scope) → not (eqb a.unit b.unit && eqb a.serial b.serial) ≡ true → a ≡ b → ⊥
other_scope a b h e =
    differ b.unit b.serial (subst (λ (s : Scope). not (eqb s.unit b.unit && eqb s.serial b.serial) ≡ true) e h)
