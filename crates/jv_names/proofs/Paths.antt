-- What is read of a path from its end.
use Rattle.std.proofs.Common.{◌≡◌, ℕ, zero, suc, ◌≤◌, Bool, true, false, ◌&&◌, List, [], ◌∷◌, ◌++◌, length, take, refl, sym, ap, ◌∙◌}
use Rattle.std.proofs.lemmas.List.{take_all}
use Rattle.std.specs.Prelude.{◌==◌}
use Rattle.std.specs.List.{list_all}
use Rattle.std.proofs.lemmas.List.Folds.{list_all-append}
use Rattle.sg_base.specs.declared.scope.Scope.{Scope}
use Rattle.sg_base.specs.declared.step.Step.{Step}
use Rattle.sg_base.specs.Path.{end_of}
use Rattle.jv_names.specs.Ends.{begins_with}
use Rattle.jv_names.specs.Inherited.{declarer, left_by}

-- ---- tests of all items, the last one apart

and_true : (a b : Bool) → b ≡ true → (a && (b && true)) ≡ a
and_true true b e = ap (λ (c : Bool). c && true) e
and_true false b e = refl

and_false : (a b : Bool) → b ≡ false → (a && (b && true)) ≡ false
and_false true b e = ap (λ (c : Bool). c && true) e
and_false false b e = refl

all_passed : {X : Type 0} (f : X → Bool) (xs : List X) (x : X) → f x ≡ true → list_all f (xs ++ x ∷ []) ≡ list_all f xs
all_passed f xs x e = list_all-append f xs (x ∷ []) ∙ and_true (list_all f xs) (f x) e

one_failed : {X : Type 0} (f : X → Bool) (xs : List X) (x : X) → f x ≡ false → list_all f (xs ++ x ∷ []) ≡ false
one_failed f xs x e = list_all-append f xs (x ∷ []) ∙ and_false (list_all f xs) (f x) e

-- ---- the scope that declares what stands at a path's end

declarer_last : (s : Scope) (ps : List Step) (x : Step) → declarer s (ps ++ x ∷ []) ≡ end_of s ps
declarer_last s [] x = refl
declarer_last s (p ∷ []) x = refl
declarer_last s (p ∷ q ∷ ps) x = declarer_last p.to (q ∷ ps) x

-- with steps, where those in front of the last one end
pub declarer_some : (s t : Scope) (ps qs : List Step) (x : Step) → t ≡ s → qs ≡ ps ++ x ∷ [] → end_of t ps ≡ declarer s qs
declarer_some s t ps qs x a e = ap (λ (r : Scope). end_of r ps) a ∙ (sym (declarer_last s ps x) ∙ ap (declarer s) (sym e))

-- ---- the scopes that steps leave

left_last : (s : Scope) (ps : List Step) (x : Step) → left_by s (ps ++ x ∷ []) ≡ left_by s ps ++ end_of s ps ∷ []
left_last s [] x = refl
left_last s (p ∷ ps) x = ap (λ (ts : List Scope). s ∷ ts) (left_last p.to ps x)

module _ (f : Scope → Bool) (s t : Scope) (ps qs : List Step) (x : Step) (same : t ≡ s) (split : qs ≡ ps ++ x ∷ []) where
  left_split : list_all f (left_by s qs) ≡ list_all f (left_by t ps ++ end_of t ps ∷ [])
  left_split =
      ap (λ (r : Scope). list_all f (left_by r qs)) (sym same) ∙ (ap (λ (rs : List Step). list_all f (left_by t rs)) split ∙ ap (list_all f) (left_last t ps x))

  pub left_apart : f (end_of t ps) ≡ false → list_all f (left_by s qs) ≡ false
  left_apart e = left_split ∙ one_failed f (left_by t ps) (end_of t ps) e

  pub left_along : f (end_of t ps) ≡ true → list_all f (left_by s qs) ≡ list_all f (left_by t ps)
  left_along e = left_split ∙ all_passed f (left_by t ps) (end_of t ps) e

pub left_none : (f : Scope → Bool) (s : Scope) (qs : List Step) → qs ≡ [] → list_all f (left_by s qs) ≡ true
left_none f s qs e = ap (λ (rs : List Step). list_all f (left_by s rs)) e

-- of what steps leave, what those at the beginning leave
and_kept : (a b c : Bool) → (a && b) ≡ true → (b ≡ true → c ≡ true) → (a && c) ≡ true
and_kept true b c h f = f h
and_kept false b c h f = h

pub left_front : (f : Scope → Bool) (s : Scope) (ps : List Step) (k : ℕ) → list_all f (left_by s ps) ≡ true → list_all f (left_by s (take k ps)) ≡ true
left_front f s ps zero h = refl
left_front f s [] (suc k) h = h
left_front f s (p ∷ ps) (suc k) h = and_kept (f s) (list_all f (left_by p.to ps)) (list_all f (left_by p.to (take k ps))) h (left_front f p.to ps k)

-- steps that are no more than those at the beginning
pub left_known : (f : Scope → Bool) (s t : Scope) (ps qs : List Step) (k : ℕ) → t ≡ s → take k qs ≡ take k ps → length qs ≤ k → list_all f (left_by s (take k ps)) ≡ true → list_all f (left_by t qs) ≡ true
left_known f s t ps qs k a e h b =
    ap (λ (r : Scope). list_all f (left_by r qs)) a ∙ (ap (λ (rs : List Step). list_all f (left_by s rs)) (sym (take_all k qs h) ∙ e) ∙ b)

-- ---- the first step

-- whether the first of these steps has a label; where there is none, whether the one behind them has it
abbrev pub first_from : ℕ → Bool → List Step → Bool
first_from label b [] = b
first_from label b (p ∷ ps) = p.label == label

pub first_step : (label : ℕ) (ps : List Step) → begins_with label ps ≡ first_from label false ps
first_step label [] = refl
first_step label (p ∷ ps) = refl

first_split : (label : ℕ) (a : Bool) (ps : List Step) (x : Step) → first_from label a (ps ++ x ∷ []) ≡ first_from label (x.label == label) ps
first_split label a [] x = refl
first_split label a (p ∷ ps) x = refl

pub first_last : (label : ℕ) (a : Bool) (ps qs : List Step) (x : Step) → qs ≡ ps ++ x ∷ [] → first_from label a qs ≡ first_from label (x.label == label) ps
first_last label a ps qs x e = ap (first_from label a) e ∙ first_split label a ps x

pub first_none : (label : ℕ) (a : Bool) (qs : List Step) → qs ≡ [] → first_from label a qs ≡ a
first_none label a qs e = ap (first_from label a) e
