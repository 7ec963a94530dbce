-- The set of a list has the list's things, in rising order.
use Rattle.std.proofs.Common.{◌≡◌, List, [], ◌∷◌, ◌⊎◌, ◌↔◌, inl, inr, refl, sym, ◌∙◌, subst, nat_cmp}
use Rattle.std.specs.BTreeSet.{insert_key}
use Rattle.std.specs.Cmp.{IsTotalOrder}
use Rattle.std.specs.List.{Contains}
use Rattle.std.specs.Ordering.{match_ordering, ordering_then}
use Rattle.std.specs.declared.cmp.Ordering.{Ordering}
use Rattle.std.specs.declared.cmp.Ordering.TheVariants.{Less, Equal, Greater}
use Rattle.sg_base.specs.Graph.{Edge, edge_cmp}
use Rattle.sg_base.specs.List.{IsRising}
use Rattle.sg_base.specs.Scope.{scope_cmp}
use Rattle.sg_base.proofs.Finite.{nothing_in, single, Contains-head, Contains-tail, Contains-cons, each_map, each_from, each_at}
use Rattle.sg_base.proofs.Rising.{turned}
use Rattle.sg_base.proofs.Scopes.{edge_by, then_equal, equal_nat, equal_scope}
use Rattle.sg_strata.specs.List.{set_of}

module _ {X : Type 0} (R : X → X → Ordering) (total : IsTotalOrder R) (exact : (x y : X) → R x y ≡ Equal → x ≡ y) where
  at_head : (x z : X) (xs : List X) → z ≡ x → Contains (x ∷ xs) z
  at_head x z xs e = subst (λ (t : X). Contains (x ∷ xs) t) (sym e) (Contains-head x xs)

  abbrev Holds : X → List X → List X → X → Type 0
  Holds x ys new z = (Contains new z) ↔ (Contains ys z ⊎ (z ≡ x))

  holds_at : (x y z : X) (ys : List X) (o : Ordering) → R x y ≡ o → Holds x ys (insert_key R ys x) z → Holds x (y ∷ ys) (match_ordering o (x ∷ (y ∷ ys)) (y ∷ ys) (y ∷ insert_key R ys x)) z
  holds_at x y z ys Less e below = (
    (λ c. elim (Contains-cons x z (y ∷ ys) c) [ inl k ↦ inr k | inr k ↦ inl k ]),
    (λ h. elim h [ inl k ↦ Contains-tail x z (y ∷ ys) k | inr k ↦ at_head x z (y ∷ ys) k ]),
  )
  holds_at x y z ys Equal e below = ((λ c. inl c), (λ h. elim h [ inl k ↦ k | inr k ↦ at_head y z ys (k ∙ exact x y e) ]))
  holds_at x y z ys Greater e below = (
    (λ c. elim (Contains-cons y z (insert_key R ys x) c) [
      | inl k ↦ inl (at_head y z ys k)
      | inr k ↦ elim (below.0 k) [ inl m ↦ inl (Contains-tail y z ys m) | inr m ↦ inr m ]
    ]),
    (λ h. elim h [
      | inl k ↦ elim (Contains-cons y z ys k) [ inl m ↦ at_head y z (insert_key R ys x) m | inr m ↦ Contains-tail y z (insert_key R ys x) (below.1 (inl m)) ]
      | inr k ↦ Contains-tail y z (insert_key R ys x) (below.1 (inr k))
    ]),
  )

  holds : (x z : X) (ys : List X) → Holds x ys (insert_key R ys x) z
  holds x z [] = ((λ c. inr (single x z c)), (λ h. elim h [ inl k ↦ absurd (nothing_in z k) | inr k ↦ at_head x z [] k ]))
  holds x z (y ∷ ys) = holds_at x y z ys (R x y) refl (holds x z ys)

  rises_at : (x y : X) (ys : List X) (o : Ordering) → R x y ≡ o → IsRising R (y ∷ ys) → IsRising R (insert_key R ys x) → IsRising R (match_ordering o (x ∷ (y ∷ ys)) (y ∷ ys) (y ∷ insert_key R ys x))
  rises_at x y ys Less e r below = ((e, each_map (λ z. R y z ≡ Less) (λ z. R x z ≡ Less) (λ z k. total.trans x y z e k) ys r.0), r)
  rises_at x y ys Equal e r below = r
  rises_at x y ys Greater e r below = (
    each_from (λ z. R y z ≡ Less) (insert_key R ys x) (λ z c. elim ((holds x z ys).0 c) [
      | inl k ↦ each_at (λ z. R y z ≡ Less) ys r.0 z k
      | inr k ↦ subst (λ (t : X). R y t ≡ Less) (sym k) (turned R total y x e)
    ]),
    below,
  )

  rises : (x : X) (ys : List X) → IsRising R ys → IsRising R (insert_key R ys x)
  rises x [] r = (tt, tt)
  rises x (y ∷ ys) r = rises_at x y ys (R x y) refl r (rises x ys r.1)

  pub set_holds : (xs : List X) (z : X) → (Contains (set_of R xs) z) ↔ (Contains xs z)
  set_holds [] z = ((λ c. c), (λ c. c))
  set_holds (x ∷ xs) z = (
    (λ c. elim ((holds x z (set_of R xs)).0 c) [ inl k ↦ Contains-tail x z xs ((set_holds xs z).0 k) | inr k ↦ at_head x z xs k ]),
    (λ c. (holds x z (set_of R xs)).1 (elim (Contains-cons x z xs c) [ inl k ↦ inr k | inr k ↦ inl ((set_holds xs z).1 k) ])),
  )

  pub set_rises : (xs : List X) → IsRising R (set_of R xs)
  set_rises [] = tt
  set_rises (x ∷ xs) = rises x (set_of R xs) (set_rises xs)

pub equal_edge : (a b : Edge) → edge_cmp a b ≡ Equal → a ≡ b
equal_edge a b h =
    let k = then_equal (scope_cmp a.from b.from) (ordering_then (nat_cmp a.label b.label) (scope_cmp a.to b.to)) h in
    let m = then_equal (nat_cmp a.label b.label) (scope_cmp a.to b.to) k.1 in
    edge_by a b (equal_scope a.from b.from k.0) (equal_nat a.label b.label m.0) (equal_scope a.to b.to m.1)
