-- How many steps paths share, as they are cut from their ends.
use Rattle.std.proofs.Common.{◌≡◌, ◌<◌, ◌≤◌, ◌+◌, ◌⊎◌, inl, inr, ℕ, suc, Bool, true, false, cond, List, [], ◌∷◌, ◌++◌, length, take, refl, sym, ap, ◌∙◌, arith, length-append}
use Rattle.sg_base.specs.declared.step.Step.{Step}
use Rattle.sg_base.specs.Path.{is_step, shared_len}
use Rattle.sg_base.proofs.Scopes.{step_same, same_step}

-- the number of steps that are the same, by whether the first ones are
rest_within : (b : Bool) (s n : ℕ) → s ≤ n → cond b (suc s) 0 ≤ suc n
rest_within true s n h = omega (arith, h)
rest_within false s n h = omega arith

-- no more than both have
pub shared_within : (ps qs : List Step) → shared_len ps qs ≤ length ps
shared_within [] qs = omega arith
shared_within (p ∷ ps) [] = omega arith
shared_within (p ∷ ps) (q ∷ qs) = rest_within (is_step p q) (shared_len ps qs) (length ps) (shared_within ps qs)

pub shared_within_other : (ps qs : List Step) → shared_len ps qs ≤ length qs
shared_within_other [] qs = omega arith
shared_within_other (p ∷ ps) [] = omega arith
shared_within_other (p ∷ ps) (q ∷ qs) = rest_within (is_step p q) (shared_len ps qs) (length qs) (shared_within_other ps qs)

-- paths of which all steps are the same go on with what their rests share
all_then : (b : Bool) (s r n t : ℕ) → (s ≡ n → r ≡ n + t) → cond b (suc s) 0 ≡ suc n → cond b (suc r) 0 ≡ suc n + t
all_then true s r n t f e = omega (arith, f (omega (arith, e)))
all_then false s r n t f e = absurd (omega (arith, e))

pub shared_on : (us vs xs ys : List Step) → length us ≡ length vs → shared_len us vs ≡ length us → shared_len (us ++ xs) (vs ++ ys) ≡ length us + shared_len xs ys
shared_on [] [] xs ys l e = omega arith
shared_on [] (v ∷ vs) xs ys l e = absurd (omega (arith, l))
shared_on (u ∷ us) [] xs ys l e = absurd (omega (arith, l))
shared_on (u ∷ us) (v ∷ vs) xs ys l e =
    all_then (is_step u v) (shared_len us vs) (shared_len (us ++ xs) (vs ++ ys)) (length us) (shared_len xs ys) (shared_on us vs xs ys (omega (arith, l))) e

-- others share nothing more
some_then : (b : Bool) (s r n : ℕ) → (s < n → r ≡ s) → cond b (suc s) 0 < suc n → cond b (suc r) 0 ≡ cond b (suc s) 0
some_then true s r n f h = ap suc (f (omega (arith, h)))
some_then false s r n f h = refl

pub shared_off : (us vs xs ys : List Step) → length us ≡ length vs → shared_len us vs < length us → shared_len (us ++ xs) (vs ++ ys) ≡ shared_len us vs
shared_off [] [] xs ys l h = absurd (omega (arith, h))
shared_off [] (v ∷ vs) xs ys l h = absurd (omega (arith, l))
shared_off (u ∷ us) [] xs ys l h = absurd (omega (arith, l))
shared_off (u ∷ us) (v ∷ vs) xs ys l h =
    some_then (is_step u v) (shared_len us vs) (shared_len (us ++ xs) (vs ++ ys)) (length us) (shared_off us vs xs ys (omega (arith, l))) h

-- a path shares all steps with itself
pub shared_same : (ps : List Step) → shared_len ps ps ≡ length ps
shared_same [] = refl
shared_same (p ∷ ps) = ap (λ (b : Bool). cond b (suc (shared_len ps ps)) 0) (same_step p p refl) ∙ ap suc (shared_same ps)

-- the steps that are the same are so
one_taken : (b : Bool) (p q : Step) (ps qs : List Step) (n : ℕ) → (b ≡ true → p ≡ q) → take n ps ≡ take n qs → take (cond b (suc n) 0) (p ∷ ps) ≡ take (cond b (suc n) 0) (q ∷ qs)
one_taken true p q ps qs n f e = ap (λ (x : Step). x ∷ take n ps) (f refl) ∙ ap (λ (xs : List Step). q ∷ xs) e
one_taken false p q ps qs n f e = refl

pub shared_take : (ps qs : List Step) → take (shared_len ps qs) ps ≡ take (shared_len ps qs) qs
shared_take [] qs = refl
shared_take (p ∷ ps) [] = refl
shared_take (p ∷ ps) (q ∷ qs) = one_taken (is_step p q) p q ps qs (shared_len ps qs) (step_same p q) (shared_take ps qs)

-- ---- paths that were cut to one length

no_rest : (ps us xs : List Step) → ps ≡ us ++ xs → length ps ≤ length us → xs ≡ []
no_rest ps us [] e l = refl
no_rest ps us (x ∷ xs) e l = absurd (omega (arith, ap length e, length-append us (x ∷ xs), l))

none_shared : (xs ys : List Step) → (xs ≡ []) ⊎ (ys ≡ []) → shared_len xs ys ≡ 0
none_shared [] ys h = refl
none_shared (x ∷ xs) [] h = refl
none_shared (x ∷ xs) (y ∷ ys) (inl e) = absurd (cc e)
none_shared (x ∷ xs) (y ∷ ys) (inr e) = absurd (cc e)

module _ (ps qs us vs xs ys : List Step) (l : length us ≡ length vs) (e : ps ≡ us ++ xs) (f : qs ≡ vs ++ ys) where
  shared_cut : shared_len ps qs ≡ shared_len (us ++ xs) (vs ++ ys)
  shared_cut = ap (λ (t : List Step). shared_len t qs) e ∙ ap (shared_len (us ++ xs)) f

  -- where one ends, the fronts being the same
  pub cut_alike : (length ps ≤ length us) ⊎ (length qs ≤ length us) → shared_len us vs ≡ length us → shared_len ps qs ≡ length us
  cut_alike h s =
      let none : shared_len xs ys ≡ 0 = none_shared xs ys (elim h [ inl a ↦ inl (no_rest ps us xs e a) | inr b ↦ inr (no_rest qs vs ys f (omega (arith, b, l))) ]) in
      shared_cut ∙ (shared_on us vs xs ys l s ∙ omega (arith, none))

  -- where the fronts are not
  pub cut_apart : shared_len us vs < length us → shared_len ps qs ≡ shared_len us vs
  cut_apart h = shared_cut ∙ shared_off us vs xs ys l h

-- ---- one step less of each

module _ (total same : ℕ) (ps qs us vs : List Step) (x y : Step) (l : length us ≡ length vs) (e : ps ≡ us ++ x ∷ []) (f : qs ≡ vs ++ y ∷ [])
    (alike : shared_len ps qs ≡ length ps → total ≡ same) (apart : shared_len ps qs < length ps → total ≡ shared_len ps qs) where
  long : length ps ≡ length us + 1
  long = ap length e ∙ length-append us (x ∷ [])

  one_more : shared_len us vs ≡ length us → shared_len ps qs ≡ length us + cond (is_step x y) 1 0
  one_more s = shared_cut ps qs us vs (x ∷ []) (y ∷ []) l e f ∙ shared_on us vs (x ∷ []) (y ∷ []) l s

  -- the steps are the same
  pub up_alike : is_step x y ≡ true → shared_len us vs ≡ length us → total ≡ same
  up_alike b s = alike (one_more s ∙ (ap (λ (c : Bool). length us + cond c 1 0) b ∙ sym long))

  -- the steps are not
  pub up_other : is_step x y ≡ false → shared_len us vs ≡ length us → total ≡ length us
  up_other b s =
      let n : shared_len ps qs ≡ length us = one_more s ∙ (ap (λ (c : Bool). length us + cond c 1 0) b ∙ omega arith) in
      apart (omega (arith, n, long)) ∙ n

  -- the fronts are not
  pub up_apart : shared_len us vs < length us → total ≡ shared_len us vs
  up_apart h =
      let n : shared_len ps qs ≡ shared_len us vs = cut_apart ps qs us vs (x ∷ []) (y ∷ []) l e f h in
      apart (omega (arith, n, long, h)) ∙ n
