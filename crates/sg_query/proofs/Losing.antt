-- Lists that lost paths which others shadow.
use Rattle.std.proofs.Common.{◌≡◌, ℕ, zero, suc, List, slice_index_or, [], ◌∷◌, ◌++◌, ◌⊎◌, Bool, true, false, IsTrue, length, ◌<◌, inl, inr, refl, sym, ◌∙◌, subst, map, arith}
use Rattle.std.specs.List.{Contains}
use Rattle.sg_base.specs.declared.mark.Mark.{Mark}
use Rattle.sg_base.specs.Instance.{IsSameness}
use Rattle.sg_base.specs.List.{IsDistinct}
use Rattle.sg_base.proofs.Finite.{nothing_in, Contains-cons, Contains-head, Contains-tail, Contains-map, map-Contains}
use Rattle.sg_order.specs.Order.{IsStrict}
use Rattle.sg_order.specs.Path.{IsPathBefore}
use Rattle.sg_order.proofs.StrictLemmas.{Before-irreflexive, Before-transitive}
use Rattle.sg_query.specs.declared.found.Found.{Found}
use Rattle.sg_query.specs.Marks.{AreShadowedWhereMarked, LosesShadowed, unmarked}
use Rattle.sg_query.specs.Shadow.{IsShadowed, AreUnshadowed}

pub some_at : {X : Type 0} (xs : List X) (k : ℕ) → k < length xs → (x : X) × (x ≡ slice_index_or xs k x)
some_at [] k h = absurd (omega (arith, h))
some_at (x ∷ xs) zero h = (x, refl)
some_at (x ∷ xs) (suc k) h = some_at xs k (omega (arith, h))

-- ---- what is left without marks

pub unmarked_within : {X : Type 0} (xs : List X) (marks : List Bool) (x : X) → Contains (unmarked xs marks) x → Contains xs x
unmarked_within [] marks x c = c
unmarked_within (y ∷ xs) [] x c = c
unmarked_within (y ∷ xs) (true ∷ marks) x c = Contains-tail y x xs (unmarked_within xs marks x c)
unmarked_within (y ∷ xs) (false ∷ marks) x c =
    elim (Contains-cons y x (unmarked xs marks) c) [
      | inl e ↦ subst (λ z. Contains (y ∷ xs) z) (sym e) (Contains-head y xs)
      | inr m ↦ Contains-tail y x xs (unmarked_within xs marks x m)
    ]

module _ {X Y : Type 0} (f : X → Y) where
  pub unmarked_once : (xs : List X) (marks : List Bool) → IsDistinct (map f xs) → IsDistinct (map f (unmarked xs marks))
  unmarked_once [] marks d = d
  unmarked_once (x ∷ xs) [] d = d
  unmarked_once (x ∷ xs) (true ∷ marks) d = unmarked_once xs marks d.1
  unmarked_once (x ∷ xs) (false ∷ marks) d = (
    (λ c.
        let m = Contains-map f (unmarked xs marks) (f x) c in
        d.0 (subst (Contains (map f xs)) (sym m.2) (map-Contains f xs m.0 (unmarked_within xs marks m.0 m.1)))),
    unmarked_once xs marks d.1,
  )

-- ---- marks that are set at shadowed paths

module _ {D : Type 0} (same : D → D → Bool) (order : Mark → Mark → Bool) (all : List (Found D)) where
  pub where_append : (fs gs : List (Found D)) (bs cs : List Bool) → AreShadowedWhereMarked same order all fs bs → AreShadowedWhereMarked same order all gs cs → AreShadowedWhereMarked same order all (fs ++ gs) (bs ++ cs)
  where_append [] gs [] cs h k = k
  where_append [] gs (b ∷ bs) cs h k = absurd h
  where_append (f ∷ fs) gs [] cs h k = absurd h
  where_append (f ∷ fs) gs (b ∷ bs) cs h k = (h.0, where_append fs gs bs cs h.1 k)

  pub where_length : (fs : List (Found D)) (bs : List Bool) → AreShadowedWhereMarked same order all fs bs → length bs ≡ length fs
  where_length [] [] h = refl
  where_length [] (b ∷ bs) h = absurd h
  where_length (f ∷ fs) [] h = absurd h
  where_length (f ∷ fs) (b ∷ bs) h = omega (arith, where_length fs bs h.1)

  where_left : (fs : List (Found D)) (bs : List Bool) → AreShadowedWhereMarked same order all fs bs → (h : Found D) → Contains fs h → Contains (unmarked fs bs) h ⊎ IsShadowed same order all h
  where_left [] bs w h c = absurd (nothing_in h c)
  where_left (f ∷ fs) [] w h c = absurd w
  where_left (f ∷ fs) (true ∷ bs) w h c =
      elim (Contains-cons f h fs c) [
        | inl e ↦ inr (subst (λ x. IsShadowed same order all x) (sym e) (w.0 refl))
        | inr m ↦ where_left fs bs w.1 h m
      ]
  where_left (f ∷ fs) (false ∷ bs) w h c =
      elim (Contains-cons f h fs c) [
        | inl e ↦ inl (subst (λ x. Contains (f ∷ unmarked fs bs) x) (sym e) (Contains-head f (unmarked fs bs)))
        | inr m ↦ elim (where_left fs bs w.1 h m) [
          | inl k ↦ inl (Contains-tail f h (unmarked fs bs) k)
          | inr s ↦ inr s
        ]
      ]

  pub where_loses : (bs : List Bool) → AreShadowedWhereMarked same order all all bs → LosesShadowed same order all (unmarked all bs)
  where_loses bs w = ((λ f c. unmarked_within all bs f c), where_left all bs w)

-- ---- what is unshadowed in the one is unshadowed in the other

module _ {D : Type 0} (same : D → D → Bool) (order : Mark → Mark → Bool) (alike : IsSameness same) (strict : IsStrict order) (all fs : List (Found D)) (loses : LosesShadowed same order all fs) where
  module _ (f : Found D) (none : IsShadowed same order fs f → ⊥) where
    abbrev IsOver : Found D → Type 0
    IsOver h = Contains all h × IsTrue (same f.datum h.datum) × IsPathBefore order h.path.steps f.path.steps

    abbrev IsFurther : Found D → Found D → Type 0
    IsFurther h g = IsPathBefore order g.path.steps h.path.steps

    -- what is over it is itself shadowed, since it was lost
    further : (h : Found D) → IsOver h → (g : Found D) × IsOver g × IsFurther h g
    further h o = elim (loses.1 h o.0) [
      | inl c ↦ absurd (none (h, c, o.1, o.2))
      | inr s ↦ (s.0, (s.1, alike.transitive f.datum h.datum s.0.datum o.1 s.2, Before-transitive order strict s.0.path.steps h.path.steps f.path.steps s.3 o.2), s.3)
    ]

    -- which does not go on in a list
    no_end : (xs : List (Found D)) (h : Found D) → IsOver h → ((y : Found D) → IsOver y → IsFurther h y → Contains xs y) → ⊥
    no_end [] h o within = let g = further h o in nothing_in g.0 (within g.0 g.1 g.2)
    no_end (x ∷ xs) h o within = no_end xs h o (λ y a b. elim (Contains-cons x y xs (within y a b)) [
      | inl e ↦ absurd (no_end xs y a (λ z c d. elim (Contains-cons x z xs (within z c (Before-transitive order strict z.path.steps y.path.steps h.path.steps d b))) [
        | inl k ↦ absurd (Before-irreflexive order strict y.path.steps (subst (λ t. IsPathBefore order t.path.steps y.path.steps) (k ∙ sym e) d))
        | inr m ↦ m
      ]))
      | inr m ↦ m
    ])

  pub unshadowed_lost : (hs : List (Found D)) → AreUnshadowed same order fs hs → AreUnshadowed same order all hs
  unshadowed_lost hs shown f = (
    (λ c.
        let k = (shown f).0 c in
        (loses.0 f k.0, (λ s. no_end f k.1 all s.0 (s.1, s.2, s.3) (λ y a b. a.0)))),
    (λ k. (shown f).1 (
      elim (loses.1 f k.0) [ inl c ↦ c | inr s ↦ absurd (k.1 s) ],
      (λ s. k.1 (s.0, loses.0 s.0 s.1, s.2, s.3)),
    )),
  )

-- ---- one path alone

pub loses_none : {D : Type 0} (same : D → D → Bool) (order : Mark → Mark → Bool) (all : List (Found D)) → LosesShadowed same order all all
loses_none same order all = ((λ f c. c), (λ f c. inl c))

one_of : {X : Type 0} (xs : List X) (x y : X) → length xs < 2 → Contains xs x → Contains xs y → x ≡ y
one_of [] x y few c d = absurd (nothing_in x c)
one_of (z ∷ []) x y few c d =
    elim (Contains-cons z x [] c) [
      | inl e ↦ elim (Contains-cons z y [] d) [ inl k ↦ e ∙ sym k | inr m ↦ absurd (nothing_in y m) ]
      | inr m ↦ absurd (nothing_in x m)
    ]
one_of (z ∷ w ∷ xs) x y few c d = absurd (omega (arith, few))

pub one_unshadowed : {D : Type 0} (same : D → D → Bool) (order : Mark → Mark → Bool) → IsStrict order → (all : List (Found D)) → length all < 2 → AreUnshadowed same order all all
one_unshadowed same order strict all few f = (
  (λ c. (c, (λ s. Before-irreflexive order strict f.path.steps (subst (λ t. IsPathBefore order t.path.steps f.path.steps) (one_of all s.0 f few s.1 c) s.3)))),
  (λ k. k.0),
)
