-- Rising lists made of parts, with one more thing, and when two are one.
use Rattle.std.proofs.Common.{◌≡◌, List, [], ◌∷◌, ◌⊎◌, ◌↔◌, Bool, true, inl, inr, refl, sym, ◌∙◌, subst, map, fold}
use Rattle.std.specs.Cmp.{IsTotalOrder}
use Rattle.std.specs.List.{Contains, AllByRecursion, filter, flat_map}
use Rattle.std.specs.Ordering.{match_ordering, on}
use Rattle.std.specs.declared.cmp.Ordering.{Ordering}
use Rattle.std.specs.declared.cmp.Ordering.TheVariants.{Less, Equal, Greater}
use Rattle.sg_base.specs.List.{IsRising}
use Rattle.sg_base.proofs.Finite.{nothing_in, single, Contains-head, Contains-cons, Contains-tail, map-Contains, Contains-map, Contains-flat_map, Contains-filter, filter-Contains, each_from, each_at, each_map}
use Rattle.sg_base.proofs.Rising.{Rising-append, Rising-filter, turned, rising_one}
use Rattle.sg_state.specs.Held.{put}

-- the parts rise, and each thing of a part is less than those of later parts
pub rises_flat : {K V X : Type 0} (R : K → K → Ordering) (S : X → X → Ordering) (f : K × V → List X) (es : List (K × V)) → IsRising R (map (λ p. p.0) es) → AllByRecursion (λ p. IsRising S (f p)) es → ((p q : K × V) (x y : X) → Contains (f p) x → Contains (f q) y → R p.0 q.0 ≡ Less → S x y ≡ Less) → IsRising S (flat_map f es)
rises_flat R S f [] up parts below = tt
rises_flat {K} {V} {X} R S f (p ∷ ps) up parts below =
    Rising-append S (f p) (flat_map f ps) parts.0 (rises_flat R S f ps up.1 parts.1 below) (λ x y c d.
    let h = Contains-flat_map f ps y d in
    below p h.0 x y c h.2 (each_at (λ k. R p.0 k ≡ Less) (map (λ q. q.0) ps) up.0 (h.0).0 (map-Contains (λ (q : K × V). q.0) ps h.0 h.1)))

-- what rises by its keys has keys that rise
pub keys_rise : {K V : Type 0} (R : K → K → Ordering) (es : List (K × V)) → IsRising (on (λ p. p.0) R) es → IsRising R (map (λ p. p.0) es)
keys_rise R [] up = tt
keys_rise {K} {V} R (p ∷ ps) up = (
  each_from (λ k. R p.0 k ≡ Less) (map (λ q. q.0) ps) (λ k c.
      let h = Contains-map (λ (q : K × V). q.0) ps k c in
      subst (λ (x : K). R p.0 x ≡ Less) (sym h.2) (each_at (λ q. R p.0 q.0 ≡ Less) ps up.0 h.0 h.1)),
  keys_rise R ps up.1,
)

pub rises_by_keys : {K V : Type 0} (R : K → K → Ordering) (es : List (K × V)) → IsRising R (map (λ p. p.0) es) → IsRising (on (λ p. p.0) R) es
rises_by_keys R [] up = tt
rises_by_keys {K} {V} R (p ∷ ps) up = (
  each_from (λ q. R p.0 q.0 ≡ Less) ps (λ q c. each_at (λ k. R p.0 k ≡ Less) (map (λ q. q.0) ps) up.0 q.0 (map-Contains (λ (q : K × V). q.0) ps q c)),
  rises_by_keys R ps up.1,
)

-- the images of things that rise
pub rises_map : {X Y : Type 0} (R : X → X → Ordering) (S : Y → Y → Ordering) (f : X → Y) → ((a b : X) → R a b ≡ Less → S (f a) (f b) ≡ Less) → (xs : List X) → IsRising R xs → IsRising S (map f xs)
rises_map R S f up [] r = tt
rises_map {X} {Y} R S f up (x ∷ xs) r = (
  each_from (λ y. S (f x) y ≡ Less) (map f xs) (λ y c.
      let h = Contains-map f xs y c in
      subst (λ (z : Y). S (f x) z ≡ Less) (sym h.2) (up x h.0 (each_at (λ z. R x z ≡ Less) xs r.0 h.0 h.1))),
  rises_map R S f up xs r.1,
)

-- ---- one more thing

module _ {X : Type 0} (R : X → X → Ordering) (total : IsTotalOrder R) where
  put_case : (xs : List X) (y x : X) (o : Ordering) → R x y ≡ o → (R x y ≡ Equal → x ≡ y) → ((z : X) → (Contains (put R xs x) z) ↔ (Contains xs z ⊎ (z ≡ x))) → (z : X) → (Contains (match_ordering o (x ∷ y ∷ xs) (y ∷ xs) (y ∷ put R xs x)) z) ↔ (Contains (y ∷ xs) z ⊎ (z ≡ x))
  put_case xs y x Less e same rest z = (
    (λ c. elim (Contains-cons x z (y ∷ xs) c) [ inl s ↦ inr s | inr m ↦ inl m ]),
    (λ h. elim h [ inl m ↦ Contains-tail x z (y ∷ xs) m | inr s ↦ subst (λ (t : X). Contains (x ∷ y ∷ xs) t) (sym s) (Contains-head x (y ∷ xs)) ]),
  )
  put_case xs y x Equal e same rest z = (
    (λ c. inl c),
    (λ h. elim h [ inl m ↦ m | inr s ↦ subst (λ (t : X). Contains (y ∷ xs) t) (sym (s ∙ same e)) (Contains-head y xs) ]),
  )
  put_case xs y x Greater e same rest z = (
    (λ c. elim (Contains-cons y z (put R xs x) c) [
      | inl s ↦ inl (subst (λ (t : X). Contains (y ∷ xs) t) (sym s) (Contains-head y xs))
      | inr m ↦ elim ((rest z).0 m) [ inl k ↦ inl (Contains-tail y z xs k) | inr s ↦ inr s ]
    ]),
    (λ h. elim h [
      | inl m ↦ elim (Contains-cons y z xs m) [
        | inl s ↦ subst (λ (t : X). Contains (y ∷ put R xs x) t) (sym s) (Contains-head y (put R xs x))
        | inr k ↦ Contains-tail y z (put R xs x) ((rest z).1 (inl k))
      ]
      | inr s ↦ Contains-tail y z (put R xs x) ((rest z).1 (inr s))
    ]),
  )

  -- where only what is the same is equal to the new thing
  pub Contains-put : (xs : List X) (x : X) → ((y : X) → Contains xs y → R x y ≡ Equal → x ≡ y) → (z : X) → (Contains (put R xs x) z) ↔ (Contains xs z ⊎ (z ≡ x))
  Contains-put [] x same z = (
    (λ c. inr (single x z c)),
    (λ h. elim h [ inl c ↦ absurd (nothing_in z c) | inr s ↦ subst (λ (t : X). Contains (x ∷ []) t) (sym s) (Contains-head x []) ]),
  )
  Contains-put (y ∷ ys) x same z = put_case ys y x (R x y) refl (same y (Contains-head y ys)) (λ w. Contains-put ys x (λ v k. same v (Contains-tail y v ys k)) w) z

  put_rise : (xs : List X) (y x : X) (o : Ordering) → R x y ≡ o → ((z : X) → (Contains (put R xs x) z) ↔ (Contains xs z ⊎ (z ≡ x))) → IsRising R (y ∷ xs) → IsRising R (put R xs x) → IsRising R (match_ordering o (x ∷ y ∷ xs) (y ∷ xs) (y ∷ put R xs x))
  put_rise xs y x Less e same r s = ((e, each_map (λ z. R y z ≡ Less) (λ z. R x z ≡ Less) (λ z k. total.trans x y z e k) xs r.0), r)
  put_rise xs y x Equal e same r s = r
  put_rise xs y x Greater e same r s = (
    each_from (λ z. R y z ≡ Less) (put R xs x) (λ z c. elim ((same z).0 c) [
      | inl k ↦ each_at (λ w. R y w ≡ Less) xs r.0 z k
      | inr k ↦ subst (λ (w : X). R y w ≡ Less) (sym k) (turned R total y x e)
    ]),
    s,
  )

  pub Rising-put : (xs : List X) (x : X) → ((y : X) → Contains xs y → R x y ≡ Equal → x ≡ y) → IsRising R xs → IsRising R (put R xs x)
  Rising-put [] x same r = (tt, tt)
  Rising-put (y ∷ ys) x same r =
      let later : (v : X) → Contains ys v → R x v ≡ Equal → x ≡ v = λ v k. same v (Contains-tail y v ys k) in
      put_rise ys y x (R x y) refl (λ z. Contains-put ys x later z) r (Rising-put ys x later r.1)

  -- a rising list with the things of one rising list and this one
  pub is_put : (xs ys : List X) (x : X) → ((y : X) → Contains xs y → R x y ≡ Equal → x ≡ y) → IsRising R xs → IsRising R ys → ((z : X) → (Contains ys z) ↔ (Contains xs z ⊎ (z ≡ x))) → ys ≡ put R xs x
  is_put xs ys x equal r s same =
      rising_one R total ys (put R xs x) s (Rising-put xs x equal r) (λ z. ((λ c. (Contains-put xs x equal z).1 ((same z).0 c)), (λ c. (same z).1 ((Contains-put xs x equal z).0 c))))

  module _ (equal : (a b : X) → R a b ≡ Equal → a ≡ b) {Y : Type 0} (f : Y → X) where
    pub Rising-puts : (ys : List Y) (xs : List X) → IsRising R xs → IsRising R (fold (λ (zs : List X) (y : Y). put R zs (f y)) xs ys)
    Rising-puts [] xs r = r
    Rising-puts (y ∷ ys) xs r = Rising-puts ys (put R xs (f y)) (Rising-put xs (f y) (λ v k. equal (f y) v) r)

    pub Contains-puts : (ys : List Y) (xs : List X) (z : X) → (Contains (fold (λ (zs : List X) (y : Y). put R zs (f y)) xs ys) z) ↔ (Contains xs z ⊎ Contains (map f ys) z)
    Contains-puts [] xs z = ((λ c. inl c), (λ h. elim h [ inl c ↦ c | inr c ↦ absurd (nothing_in z c) ]))
    Contains-puts (y ∷ ys) xs z =
        let rest = Contains-puts ys (put R xs (f y)) z in
        let one = Contains-put xs (f y) (λ v k. equal (f y) v) z in (
          (λ c. elim (rest.0 c) [
            | inl k ↦ elim (one.0 k) [ inl m ↦ inl m | inr s ↦ inr (subst (λ (t : X). Contains (f y ∷ map f ys) t) (sym s) (Contains-head (f y) (map f ys))) ]
            | inr k ↦ inr (Contains-tail (f y) z (map f ys) k)
          ]),
          (λ h. rest.1 (elim h [
            | inl k ↦ inl (one.1 (inl k))
            | inr k ↦ elim (Contains-cons (f y) z (map f ys) k) [ inl s ↦ inl (one.1 (inr s)) | inr m ↦ inr m ]
          ])),
        )

  -- a rising list without what passes a test
  pub is_filter : (p : X → Bool) (xs ys : List X) → IsRising R xs → IsRising R ys → ((z : X) → (Contains ys z) ↔ (Contains xs z × (p z ≡ true))) → ys ≡ filter p xs
  is_filter p xs ys r s same =
      rising_one R total ys (filter p xs) s (Rising-filter R p xs r) (λ z. (
        (λ c. let k = (same z).0 c in filter-Contains p xs z k.0 k.1),
        (λ c. (same z).1 (Contains-filter p xs z c)),
      ))
