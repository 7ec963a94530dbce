-- Lists of an opening: when they are distinct, and the rising lists of what they hold.
use Rattle.std.proofs.Common.{◌≡◌, List, [], ◌∷◌, ◌++◌, ◌⊎◌, ◌↔◌, inl, inr, refl, sym, ◌∙◌, subst, map, fold}
use Rattle.std.specs.Cmp.{IsTotalOrder, on_total}
use Rattle.std.specs.List.{Contains}
use Rattle.std.specs.Ordering.{on}
use Rattle.std.specs.declared.cmp.Ordering.{Ordering}
use Rattle.std.specs.declared.cmp.Ordering.TheVariants.{Equal}
use Rattle.std.proofs.lemmas.List.Elements.{Contains-append_right}
use Rattle.sg_base.specs.List.{IsDistinct, IsRising}
use Rattle.sg_base.proofs.Finite.{nothing_in, Contains-head, Contains-cons, Contains-tail, map-Contains, Contains-map}
use Rattle.sg_state.specs.Held.{put}
use Rattle.sg_state.proofs.RisingLists.{Contains-put, Rising-put, Contains-puts, Rising-puts}

-- ---- distinct lists

pub Distinct-right : {X : Type 0} (xs ys : List X) → IsDistinct (xs ++ ys) → IsDistinct ys
Distinct-right [] ys d = d
Distinct-right (x ∷ xs) ys d = Distinct-right xs ys d.1

pub Distinct-apart : {X : Type 0} (xs ys : List X) → IsDistinct (xs ++ ys) → (z : X) → Contains xs z → Contains ys z → ⊥
Distinct-apart [] ys d z a b = nothing_in z a
Distinct-apart {X} (x ∷ xs) ys d z a b =
    elim (Contains-cons x z xs a) [
      | inl e ↦ d.0 (Contains-append_right xs ys x (subst (λ (t : X). Contains ys t) e b))
      | inr c ↦ Distinct-apart xs ys d.1 z c b
    ]

-- things with distinct images are one where their images are
pub Distinct-one : {X Y : Type 0} (f : X → Y) (xs : List X) → IsDistinct (map f xs) → (a b : X) → Contains xs a → Contains xs b → f a ≡ f b → a ≡ b
Distinct-one f [] d a b c k e = absurd (nothing_in a c)
Distinct-one {X} {Y} f (x ∷ xs) d a b c k e =
    elim (Contains-cons x a xs c) [
      | inl s ↦ elim (Contains-cons x b xs k) [
        | inl t ↦ s ∙ sym t
        | inr m ↦ absurd (d.0 (subst (λ (y : Y). Contains (map f xs) y) (sym e ∙ same a s) (map-Contains f xs b m)))
      ]
      | inr m ↦ elim (Contains-cons x b xs k) [
        | inl t ↦ absurd (d.0 (subst (λ (y : Y). Contains (map f xs) y) (e ∙ same b t) (map-Contains f xs a m)))
        | inr n ↦ Distinct-one f xs d.1 a b m n e
      ]
    ]
  where
    same : (y : X) → y ≡ x → f y ≡ f x
    same y s = subst (λ (z : X). f y ≡ f z) s refl

-- ---- the rising list of the things of a list

module _ {X : Type 0} (R : X → X → Ordering) (total : IsTotalOrder R) (equal : (a b : X) → R a b ≡ Equal → a ≡ b) where
  pub puts_rise : (xs : List X) → IsRising R (fold (put R) [] xs)
  puts_rise xs = Rising-puts R total equal (λ (x : X). x) xs [] tt

  pub puts_hold : (xs : List X) (z : X) → (Contains (fold (put R) [] xs) z) ↔ (Contains xs z)
  puts_hold xs z =
      let k = Contains-puts R total equal (λ (x : X). x) xs [] z in (
        (λ c. elim (k.0 c) [
          | inl n ↦ absurd (nothing_in z n)
          | inr m ↦ let h = Contains-map (λ (x : X). x) xs z m in subst (λ (t : X). Contains xs t) (sym h.2) h.1
        ]),
        (λ c. k.1 (inr (map-Contains (λ (x : X). x) xs z c))),
      )

-- by keys that are distinct
module _ {K X : Type 0} (C : K → K → Ordering) (total : IsTotalOrder C) (equal : (a b : K) → C a b ≡ Equal → a ≡ b) (key : X → K) where
  keyed_puts : (ys xs : List X) → IsRising (on key C) xs → IsDistinct (map key ys) → ((x y : X) → Contains xs x → Contains ys y → key x ≡ key y → ⊥) → IsRising (on key C) (fold (put (on key C)) xs ys) × ((z : X) → (Contains (fold (put (on key C)) xs ys) z) ↔ (Contains xs z ⊎ Contains ys z))
  keyed_puts [] xs up d apart = (up, (λ z. ((λ c. inl c), (λ h. elim h [ inl c ↦ c | inr c ↦ absurd (nothing_in z c) ]))))
  keyed_puts (y ∷ ys) xs up d apart =
      let alone : (x : X) → Contains xs x → C (key y) (key x) ≡ Equal → y ≡ x = λ x c e. absurd (apart x y c (Contains-head y ys) (sym (equal (key y) (key x) e))) in
      let one = Contains-put (on key C) (on_total key total) xs y alone in
      let rest = keyed_puts ys (put (on key C) xs y) (Rising-put (on key C) (on_total key total) xs y alone up) d.1 (λ x w c k e. elim ((one x).0 c) [
        | inl m ↦ apart x w m (Contains-tail y w ys k) e
        | inr s ↦ d.0 (subst (λ (j : K). Contains (map key ys) j) (sym e ∙ keys x y s) (map-Contains key ys w k))
      ]) in (
        rest.0,
        (λ z. (
          (λ c. elim ((rest.1 z).0 c) [
            | inl m ↦ elim ((one z).0 m) [
              | inl k ↦ inl k
              | inr s ↦ inr (subst (λ (t : X). Contains (y ∷ ys) t) (sym s) (Contains-head y ys))
            ]
            | inr m ↦ inr (Contains-tail y z ys m)
          ]),
          (λ h. (rest.1 z).1 (elim h [
            | inl m ↦ inl ((one z).1 (inl m))
            | inr m ↦ elim (Contains-cons y z ys m) [ inl s ↦ inl ((one z).1 (inr s)) | inr k ↦ inr k ]
          ])),
        )),
      )
    where
      keys : (x y : X) → x ≡ y → key x ≡ key y
      keys x y s = subst (λ (z : X). key x ≡ key z) s refl

  pub keyed_rise : (ys : List X) → IsDistinct (map key ys) → IsRising (on key C) (fold (put (on key C)) [] ys)
  keyed_rise ys d = (keyed_puts ys [] tt d (λ x y c k e. nothing_in x c)).0

  pub keyed_hold : (ys : List X) → IsDistinct (map key ys) → (z : X) → (Contains (fold (put (on key C)) [] ys) z) ↔ (Contains ys z)
  keyed_hold ys d z =
      let k = (keyed_puts ys [] tt d (λ x y c k e. nothing_in x c)).1 z in (
        (λ c. elim (k.0 c) [ inl n ↦ absurd (nothing_in z n) | inr m ↦ m ]),
        (λ c. k.1 (inr c)),
      )
