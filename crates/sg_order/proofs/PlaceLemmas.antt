-- Which of two paths comes before the other, from their last steps to their first.
use Rattle.std.proofs.Common.{◌≡◌, List, [], ◌∷◌, ◌++◌, Bool, IsTrue, Option, Some, None, false, subst, ◌↔◌, ◌⊎◌, inl, inr, refl, sym, ap, ◌∙◌, length, append_assoc, length-append, arith}
use Rattle.sg_base.specs.declared.mark.Mark.{Mark}
use Rattle.sg_base.specs.declared.mark.Mark.TheVariants.{End, Of}
use Rattle.sg_base.specs.declared.step.Step.{Step}
use Rattle.sg_base.specs.PathTree.{BeginsWith}
use Rattle.sg_order.specs.Path.{IsPathBefore}
use Rattle.sg_order.proofs.BeforeLemmas.{Before-tail, cons-Before, Before-left, Before-right, Before-nil, Before-moved}

-- a common front changes nothing
front_Before : (order : Mark → Mark → Bool) (us xs ys : List Step) → (IsPathBefore order xs ys) ↔ (IsPathBefore order (us ++ xs) (us ++ ys))
front_Before order [] xs ys = ((λ b. b), (λ b. b))
front_Before order (u ∷ us) xs ys =
    let rest = front_Before order us xs ys in (
      (λ b. cons-Before order u u (us ++ xs) (us ++ ys) refl (rest.0 b)),
      (λ b. rest.1 (Before-tail order u u (us ++ xs) (us ++ ys) refl b)),
    )

pub Before-fronts : (order : Mark → Mark → Bool) (t : Bool) (ps qs us vs xs ys : List Step) → us ≡ vs → ps ≡ us ++ xs → qs ≡ vs ++ ys → (IsTrue t ↔ IsPathBefore order xs ys) → IsTrue t ↔ IsPathBefore order ps qs
Before-fronts order t ps qs us vs xs ys e f g h =
    let front = front_Before order us xs ys in
    let moved = Before-moved order ps qs (us ++ xs) (us ++ ys) f (g ∙ ap (λ (ws : List Step). ws ++ ys) (sym e)) in (
      (λ a. moved.1 (front.0 (h.0 a))),
      (λ b. h.1 (front.1 (moved.0 b))),
    )

-- one step less in front of a rest
pub up_rest : (ps us vs xs : List Step) (x : Step) → ps ≡ us ++ xs → us ≡ vs ++ x ∷ [] → ps ≡ vs ++ x ∷ xs
up_rest ps us vs xs x e f = e ∙ (ap (λ (ws : List Step). ws ++ xs) f ∙ append_assoc vs (x ∷ []) xs)

-- fronts of one length
pub up_long : (us vs ps qs : List Step) (x y : Step) → length us ≡ length vs → us ≡ ps ++ x ∷ [] → vs ≡ qs ++ y ∷ [] → length ps ≡ length qs
up_long us vs ps qs x y l e f = omega (arith, l, ap length e, ap length f, length-append ps (x ∷ []), length-append qs (y ∷ []))

pub both_none : (us vs : List Step) → us ≡ [] → length us ≡ length vs → us ≡ vs
both_none us [] e l = e
both_none us (v ∷ vs) e l = absurd (omega (arith, ap length e, l))

-- of two paths that were cut to the length of the shorter, one has no rest
no_rest : (ps us xs : List Step) → ps ≡ us ++ xs → length ps ≡ length us → xs ≡ []
no_rest ps us [] e l = refl
no_rest ps us (x ∷ xs) e l = absurd (omega (arith, ap length e, length-append us (x ∷ xs), l))

pub one_rest : (ps qs us vs xs ys : List Step) → ps ≡ us ++ xs → qs ≡ vs ++ ys → (length ps ≡ length us) ⊎ (length qs ≡ length vs) → (xs ≡ []) ⊎ (ys ≡ [])
one_rest ps qs us vs xs ys e f (inl l) = inl (no_rest ps us xs e l)
one_rest ps qs us vs xs ys e f (inr l) = inr (no_rest qs vs ys f l)

-- ---- rests by their first steps, of which one is empty

other_rest : (xs ys more : List Step) (s : Step) → xs ≡ s ∷ more → (xs ≡ []) ⊎ (ys ≡ []) → ys ≡ []
other_rest xs ys more s e (inl f) = absurd (cc)
other_rest xs ys more s e (inr f) = f

pub Before-first : (order : Mark → Mark → Bool) (t : Bool) (o : Option Step) (s : Step) (xs ys : List Step) → o ≡ Some s → t ≡ order (Of s.label) End → BeginsWith xs o → (xs ≡ []) ⊎ (ys ≡ []) → IsTrue t ↔ IsPathBefore order xs ys
Before-first order t o s xs ys e f b h =
    let begins : BeginsWith xs (Some s) = subst (λ (u : Option Step). BeginsWith xs u) e b in
    let moved = Before-moved order xs ys (s ∷ begins.0) [] begins.1 (other_rest xs ys begins.0 s begins.1 h) in
    let left = Before-left order s begins.0 in
    rw f ((λ a. moved.1 (left.0 a)), (λ d. left.1 (moved.0 d)))

pub Before-second : (order : Mark → Mark → Bool) (t : Bool) (o p : Option Step) (s : Step) (xs ys : List Step) → o ≡ None → p ≡ Some s → t ≡ order End (Of s.label) → BeginsWith xs o → BeginsWith ys p → IsTrue t ↔ IsPathBefore order xs ys
Before-second order t o p s xs ys e f g a b =
    let none : BeginsWith xs None = subst (λ (u : Option Step). BeginsWith xs u) e a in
    let begins : BeginsWith ys (Some s) = subst (λ (u : Option Step). BeginsWith ys u) f b in
    let moved = Before-moved order xs ys [] (s ∷ begins.0) none begins.1 in
    let right = Before-right order s begins.0 in
    rw g ((λ d. moved.1 (right.0 d)), (λ d. right.1 (moved.0 d)))

pub Before-neither : (order : Mark → Mark → Bool) (o p : Option Step) (xs ys : List Step) → o ≡ None → p ≡ None → BeginsWith xs o → BeginsWith ys p → IsTrue false ↔ IsPathBefore order xs ys
Before-neither order o p xs ys e f a b =
    let left : BeginsWith xs None = subst (λ (u : Option Step). BeginsWith xs u) e a in
    let right : BeginsWith ys None = subst (λ (u : Option Step). BeginsWith ys u) f b in
    ((λ t. cc), (λ d. absurd (Before-nil order ((Before-moved order xs ys [] [] left right).0 d))))
