-- The paths that no other shadows, each once.
use Rattle.std.proofs.Common.{◌≡◌, List, [], ◌∷◌, Bool, inl, inr, refl, sym, ap, ◌∙◌, ◌↔◌, subst, map}
use Rattle.std.specs.List.{Contains}
use Rattle.sg_base.specs.declared.mark.Mark.{Mark}
use Rattle.sg_base.specs.List.{IsDistinct}
use Rattle.sg_base.proofs.Finite.{Contains-map, map-Contains}
use Rattle.sg_query.specs.declared.found.Found.{Found}
use Rattle.sg_query.specs.Shadow.{IsShadowed, AreUnshadowed}
use Rattle.sg_query.specs.Walk.{Gathers}
use Rattle.sg_query.proofs.Gathering.{Gathers-from, Gathers-to}

module _ {D : Type 0} (same : D → D → Bool) (order : Mark → Mark → Bool) (all : List (Found D)) where
  -- the second is the first, and nothing shadows it
  abbrev pub IsShown : Found D → Found D → Type 0
  IsShown f h = (h ≡ f) × (IsShadowed same order all f → ⊥)

  pub shown_once : (xs ys : List (Found D)) → Gathers IsShown xs ys → IsDistinct (map (λ f. f.path) xs) → IsDistinct (map (λ f. f.path) ys)
  shown_once [] ys h d = subst (λ (t : List (Found D)). IsDistinct (map (λ f. f.path) t)) (sym h) tt
  shown_once (x ∷ xs) ys (inl h) d =
      subst (λ (t : List (Found D)). IsDistinct (map (λ f. f.path) t)) (sym h.3) (
        (λ c.
            let m = Contains-map (λ (f : Found D). f.path) h.1 (h.0).path c in
            let n = Gathers-from IsShown xs h.1 h.4 m.0 m.1 in
            let same_path : x.path ≡ (n.0).path = ap (λ (f : Found D). f.path) (sym (h.2).0) ∙ m.2 ∙ ap (λ (f : Found D). f.path) (n.2).0 in
            d.0 (subst (Contains (map (λ f. f.path) xs)) (sym same_path) (map-Contains (λ (f : Found D). f.path) xs n.0 n.1))),
        shown_once xs h.1 h.4 d.1,
      )
  shown_once (x ∷ xs) ys (inr h) d = shown_once xs ys h.1 d.1

  pub shown_all : (ys : List (Found D)) → Gathers IsShown all ys → AreUnshadowed same order all ys
  shown_all ys h f = (
    (λ c.
        let m = Gathers-from IsShown all ys h f c in
        subst (λ (t : Found D). Contains all t × (IsShadowed same order all t → ⊥)) (sym (m.2).0) (m.1, (m.2).1)),
    (λ k. Gathers-to IsShown (λ x y z r s. r.0 ∙ sym s.0) all ys h f f k.0 (refl, k.1)),
  )

-- the paths that nothing shadows are the same in each list of the same paths
pub unshadowed_moved : {D : Type 0} (same : D → D → Bool) (order : Mark → Mark → Bool) (all moved fs : List (Found D)) → ((f : Found D) → (Contains moved f) ↔ (Contains all f)) → AreUnshadowed same order moved fs → AreUnshadowed same order all fs
unshadowed_moved same order all moved fs alike shown f = (
  (λ c. let k = (shown f).0 c in ((alike f).0 k.0, (λ s. k.1 (s.0, (alike s.0).1 s.1, s.2, s.3)))),
  (λ k. (shown f).1 ((alike f).1 k.0, (λ s. k.1 (s.0, (alike s.0).0 s.1, s.2, s.3)))),
)

-- and a list of the same paths holds them too
pub unshadowed_alike : {D : Type 0} (same : D → D → Bool) (order : Mark → Mark → Bool) (all fs hs : List (Found D)) → ((f : Found D) → (Contains hs f) ↔ (Contains fs f)) → AreUnshadowed same order all fs → AreUnshadowed same order all hs
unshadowed_alike same order all fs hs alike shown f = ((λ c. (shown f).0 ((alike f).0 c)), (λ k. (alike f).1 ((shown f).1 k)))
