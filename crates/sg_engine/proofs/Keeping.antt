-- Lists without some of their things.
use Rattle.std.proofs.Common.{◌≡◌, List, [], ◌∷◌, ◌++◌, inl, inr, refl, sym, ap, subst, length, ◌≤◌, arith}
use Rattle.std.specs.List.{Contains}
use Rattle.sg_base.specs.List.{IsDistinct}
use Rattle.sg_base.proofs.Finite.{nothing_in, Contains-head, Contains-cons, Contains-tail}
use Rattle.sg_engine.specs.Growth.{Keeps}

module _ {X : Type 0} (P : X → Type 0) where
  pub Keeps-push_in : (xs ys : List X) (x : X) → Keeps P xs ys → P x → Keeps P (xs ++ x ∷ []) (ys ++ x ∷ [])
  Keeps-push_in [] ys x k p = inl (p, ([], ap (λ (t : List X). t ++ x ∷ []) k, refl))
  Keeps-push_in (y ∷ xs) ys x (inl k) p =
      inl (k.0, ((k.1).0 ++ x ∷ [], ap (λ (t : List X). t ++ x ∷ []) (k.1).1, Keeps-push_in xs (k.1).0 x (k.1).2 p))
  Keeps-push_in (y ∷ xs) ys x (inr k) p = inr (k.0, Keeps-push_in xs ys x k.1 p)

  pub Keeps-push_out : (xs ys : List X) (x : X) → Keeps P xs ys → (P x → ⊥) → Keeps P (xs ++ x ∷ []) ys
  Keeps-push_out [] ys x k n = inr (n, k)
  Keeps-push_out (y ∷ xs) ys x (inl k) n = inl (k.0, ((k.1).0, (k.1).1, Keeps-push_out xs (k.1).0 x (k.1).2 n))
  Keeps-push_out (y ∷ xs) ys x (inr k) n = inr (k.0, Keeps-push_out xs ys x k.1 n)

  pub Keeps-from : (xs ys : List X) → Keeps P xs ys → (y : X) → Contains ys y → Contains xs y × P y
  Keeps-from [] ys k y c = absurd (nothing_in y (subst (λ (t : List X). Contains t y) k c))
  Keeps-from (x ∷ xs) ys (inl k) y c =
      elim (Contains-cons x y (k.1).0 (subst (λ (t : List X). Contains t y) (k.1).1 c)) [
        | inl e ↦ (subst (λ (t : X). Contains (x ∷ xs) t) (sym e) (Contains-head x xs), subst P (sym e) k.0)
        | inr r ↦ let h : Contains xs y × P y = Keeps-from xs (k.1).0 (k.1).2 y r in (Contains-tail x y xs h.0, h.1)
      ]
  Keeps-from (x ∷ xs) ys (inr k) y c =
      let h : Contains xs y × P y = Keeps-from xs ys k.1 y c in (Contains-tail x y xs h.0, h.1)

  pub Keeps-to : (xs ys : List X) → Keeps P xs ys → (y : X) → Contains xs y → P y → Contains ys y
  Keeps-to [] ys k y c p = absurd (nothing_in y c)
  Keeps-to (x ∷ xs) ys (inl k) y c p =
      subst (λ (t : List X). Contains t y) (sym (k.1).1) (elim (Contains-cons x y xs c) [
        | inl e ↦ subst (λ (t : X). Contains (x ∷ (k.1).0) t) (sym e) (Contains-head x (k.1).0)
        | inr r ↦ Contains-tail x y (k.1).0 (Keeps-to xs (k.1).0 (k.1).2 y r p)
      ])
  Keeps-to (x ∷ xs) ys (inr k) y c p =
      elim (Contains-cons x y xs c) [ inl e ↦ absurd (k.0 (subst P e p)) | inr r ↦ Keeps-to xs ys k.1 y r p ]

  pub Keeps-distinct : (xs ys : List X) → Keeps P xs ys → IsDistinct xs → IsDistinct ys
  Keeps-distinct [] ys k d = subst IsDistinct (sym k) tt
  Keeps-distinct (x ∷ xs) ys (inl k) d =
      subst IsDistinct (sym (k.1).1) ((λ c. d.0 (Keeps-from xs (k.1).0 (k.1).2 x c).0), Keeps-distinct xs (k.1).0 (k.1).2 d.1)
  Keeps-distinct (x ∷ xs) ys (inr k) d = Keeps-distinct xs ys k.1 d.1

module _ {X : Type 0} where
  pub Keeps-append : (P : X → Type 0) (xs xs' ys ys' : List X) → Keeps P xs ys → Keeps P xs' ys' → Keeps P (xs ++ xs') (ys ++ ys')
  Keeps-append P [] xs' ys ys' k m = subst (λ (t : List X). Keeps P xs' (t ++ ys')) (sym k) m
  Keeps-append P (x ∷ xs) xs' ys ys' (inl k) m =
      inl (k.0, ((k.1).0 ++ ys', ap (λ (t : List X). t ++ ys') (k.1).1, Keeps-append P xs xs' (k.1).0 ys' (k.1).2 m))
  Keeps-append P (x ∷ xs) xs' ys ys' (inr k) m = inr (k.0, Keeps-append P xs xs' ys ys' k.1 m)

pub Keeps-length : {X : Type 0} (P : X → Type 0) (xs ys : List X) → Keeps P xs ys → length ys ≤ length xs
Keeps-length {X} P [] ys k = let e : length ys ≡ 0 = ap (λ (t : List X). length t) k in omega (arith, e)
Keeps-length {X} P (x ∷ xs) ys (inl k) =
    let e : length ys ≡ length (x ∷ (k.1).0) = ap (λ (t : List X). length t) (k.1).1 in
    omega (arith, e, Keeps-length P xs (k.1).0 (k.1).2)
Keeps-length P (x ∷ xs) ys (inr k) = omega (arith, Keeps-length P xs ys k.1)
