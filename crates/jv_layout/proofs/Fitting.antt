-- Which steps fit, from the end of a path.
use Rattle.std.proofs.Common.{◌≡◌, ℕ, zero, suc, ◌<◌, ◌≤◌, Bool, true, false, ◌&&◌, List, [], ◌∷◌, ◌++◌, length, take, refl, sym, ap, ◌∙◌, arith, length-append}
use Rattle.std.proofs.lemmas.List.{take_all, take-append-le}
use Rattle.sg_base.specs.declared.scope.Scope.{Scope}
use Rattle.sg_base.specs.declared.step.Step.{Step}
use Rattle.sg_base.specs.Path.{PathOf, end_of}
use Rattle.jv_layout.specs.declared.place.Place.{Place}
use Rattle.jv_layout.specs.Folder.{LayoutOf}
use Rattle.jv_layout.specs.Scopes.{place_of}
use Rattle.jv_layout.specs.Fits.{fits, front_of, steps_fit, may_step, is_inside}

and_and : (a b c : Bool) → (a && (b && c)) ≡ ((a && b) && c)
and_and true b c = refl
and_and false b c = refl

and_true : (a : Bool) → a ≡ (a && true)
and_true true = refl
and_true false = refl

-- steps fit where those in front of the last one fit, and the last one goes on from their end
steps_last : (l : LayoutOf) (s : Scope) (ps : List Step) (x : Step) → steps_fit l (place_of l s) (ps ++ x ∷ []) ≡ (steps_fit l (place_of l s) ps && may_step l (place_of l (end_of s ps)) x.label (place_of l x.to))
steps_last l s [] x = sym (and_true (may_step l (place_of l s) x.label (place_of l x.to)))
steps_last l s (p ∷ ps) x =
    ap (λ (b : Bool). may_step l (place_of l s) p.label (place_of l p.to) && b) (steps_last l p.to ps x)
    ∙ and_and (may_step l (place_of l s) p.label (place_of l p.to)) (steps_fit l (place_of l p.to) ps) (may_step l (place_of l (end_of p.to ps)) x.label (place_of l x.to))

-- the same of paths
pub fits_last : (l : LayoutOf) (p q : PathOf) (x : Step) → q.start ≡ p.start → p.steps ≡ q.steps ++ x ∷ [] → fits l p ≡ (fits l q && may_step l (place_of l (end_of q.start q.steps)) x.label (place_of l x.to))
fits_last l p q x s e =
    ap (λ (y : Scope). is_inside (place_of l y) && steps_fit l (place_of l y) p.steps) (sym s)
    ∙ (ap (λ (ps : List Step). is_inside (place_of l q.start) && steps_fit l (place_of l q.start) ps) e
    ∙ (ap (λ (b : Bool). is_inside (place_of l q.start) && b) (steps_last l q.start q.steps x)
    ∙ and_and (is_inside (place_of l q.start)) (steps_fit l (place_of l q.start) q.steps) (may_step l (place_of l (end_of q.start q.steps)) x.label (place_of l x.to))))

and_false : (a b c : Bool) → a ≡ (b && c) → c ≡ false → a ≡ false
and_false a true c e f = e ∙ f
and_false a false c e f = e

and_left : (a b c : Bool) → a ≡ (b && c) → c ≡ true → a ≡ b
and_left a true c e f = e ∙ f
and_left a false c e f = e

-- a path whose last step does not fit does not fit
pub last_astray : (l : LayoutOf) (p q : PathOf) (x : Step) → q.start ≡ p.start → p.steps ≡ q.steps ++ x ∷ [] → may_step l (place_of l (end_of q.start q.steps)) x.label (place_of l x.to) ≡ false → fits l p ≡ false
last_astray l p q x s e m = and_false (fits l p) (fits l q) (may_step l (place_of l (end_of q.start q.steps)) x.label (place_of l x.to)) (fits_last l p q x s e) m

-- a path whose last step fits does as the one in front of that step
pub last_fitting : (l : LayoutOf) (p q : PathOf) (x : Step) → q.start ≡ p.start → p.steps ≡ q.steps ++ x ∷ [] → may_step l (place_of l (end_of q.start q.steps)) x.label (place_of l x.to) ≡ true → fits l p ≡ fits l q
last_fitting l p q x s e m = and_left (fits l p) (fits l q) (may_step l (place_of l (end_of q.start q.steps)) x.label (place_of l x.to)) (fits_last l p q x s e) m

-- a path ends where its last step does
pub end_last : (s : Scope) (ps qs : List Step) (x : Step) → ps ≡ qs ++ x ∷ [] → end_of s ps ≡ x.to
end_last s ps qs x e = ap (end_of s) e ∙ along s qs
  where
    along : (t : Scope) (rs : List Step) → end_of t (rs ++ x ∷ []) ≡ x.to
    along t [] = refl
    along t (r ∷ rs) = along r.to rs

-- what is asked of a last step, by the places that were looked up
pub may_be : (l : LayoutOf) (q : PathOf) (x : Step) (e : Scope) (a b : Place) (k : ℕ) → e ≡ end_of q.start q.steps → a ≡ place_of l e → b ≡ place_of l x.to → k ≡ x.label → may_step l a k b ≡ may_step l (place_of l (end_of q.start q.steps)) x.label (place_of l x.to)
may_be l q x e a b k he ha hb hk =
    ap (λ (y : Place). may_step l y k b) (ha ∙ ap (place_of l) he)
    ∙ (ap (λ (j : ℕ). may_step l (place_of l (end_of q.start q.steps)) j b) hk
    ∙ ap (may_step l (place_of l (end_of q.start q.steps)) x.label) hb)

-- ---- steps that are known to fit

-- the path in front of the last step has as many steps as are known, and begins with them
module _ (k : ℕ) (ps qs : List Step) (x : Step) (e : ps ≡ qs ++ x ∷ []) (longer : k < length ps) where
  pub front_long : k ≤ length qs
  front_long = omega (arith, ap length e, length-append qs (x ∷ []), longer)

  pub front_kept : take k qs ≡ take k ps
  front_kept = sym (ap (take k) e ∙ take-append-le k qs (x ∷ []) front_long)

-- a path with no more steps than those fits
pub front_fits : (l : LayoutOf) (p q : PathOf) (k : ℕ) → q.start ≡ p.start → take k q.steps ≡ take k p.steps → length q.steps ≤ k → fits l (front_of p k) ≡ true → fits l q ≡ true
front_fits l p q k s e h f =
    ap (λ (t : Scope). is_inside (place_of l t) && steps_fit l (place_of l t) q.steps) s
    ∙ (ap (λ (ps : List Step). is_inside (place_of l p.start) && steps_fit l (place_of l p.start) ps) (sym (take_all k q.steps h) ∙ e) ∙ f)

-- what stands at the beginning of a path that fits does
and_kept : (a b c : Bool) → (a && b) ≡ true → (b ≡ true → c ≡ true) → (a && c) ≡ true
and_kept true b c h f = f h
and_kept false b c h f = h

steps_front : (l : LayoutOf) (from : Place) (ps : List Step) (k : ℕ) → steps_fit l from ps ≡ true → steps_fit l from (take k ps) ≡ true
steps_front l from ps zero h = refl
steps_front l from [] (suc k) h = h
steps_front l from (p ∷ ps) (suc k) h =
    and_kept (may_step l from p.label (place_of l p.to)) (steps_fit l (place_of l p.to) ps) (steps_fit l (place_of l p.to) (take k ps)) h (steps_front l (place_of l p.to) ps k)

pub fits_front : (l : LayoutOf) (p : PathOf) (k : ℕ) → fits l p ≡ true → fits l (front_of p k) ≡ true
fits_front l p k h =
    and_kept (is_inside (place_of l p.start)) (steps_fit l (place_of l p.start) p.steps) (steps_fit l (place_of l p.start) (take k p.steps)) h (steps_front l (place_of l p.start) p.steps k)
