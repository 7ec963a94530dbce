-- Sets of keys in order: what an insertion and a removal do, and the part of a list so far.
use Rattle.std.proofs.Common.{◌≡◌, ℕ, ◌+◌, ◌<◌, List, [], ◌∷◌, ◌++◌, ◌⊎◌, ◌↔◌, Bool, true, false, cond, inl, inr, refl, sym, ap, ◌∙◌, subst, length, take, get_or}
use Rattle.std.proofs.lemmas.Bool.{cases_Bool}
use Rattle.std.proofs.lemmas.Cmp.{tied_itself}
use Rattle.std.proofs.lemmas.List.{take_more}
use Rattle.std.proofs.lemmas.List.Elements.{Contains-append_left, Contains-append_cases, Contains-push}
use Rattle.std.specs.BTreeMap.{is_at}
use Rattle.std.specs.BTreeSet.{insert_key}
use Rattle.std.specs.Cmp.{IsTotalOrder}
use Rattle.std.specs.List.{Contains}
use Rattle.std.specs.Ordering.{is_eq, match_ordering}
use Rattle.std.specs.Set.{remove_key}
use Rattle.std.specs.declared.cmp.Ordering.{Ordering}
use Rattle.std.specs.declared.cmp.Ordering.TheVariants.{Less, Equal}
use Rattle.sg_base.specs.List.{IsRising}
use Rattle.sg_base.proofs.Finite.{nothing_in, single, Contains-head, Contains-cons, Contains-tail, each_at}
use Rattle.sg_base.proofs.Rising.{irreflexive}
use Rattle.sg_base.proofs.Rows.{equal_of}
use Rattle.sg_state.specs.Held.{put}
use Rattle.sg_state.proofs.RisingLists.{Contains-put}

-- one more thing of a list
pub taken_more : {X : Type 0} (xs : List X) (i : ℕ) (d : X) → i < length xs → (x : X) → (Contains (take (i + 1) xs) x) ↔ (Contains (take i xs) x ⊎ (x ≡ get_or xs i d))
taken_more {X} xs i d lt x =
    rw (take_more xs i d lt) (
      (λ c. elim (Contains-append_cases (take i xs) (get_or xs i d ∷ []) x c) [ inl k ↦ inl k | inr k ↦ inr (single (get_or xs i d) x k) ]),
      (λ h. elim h [
        | inl k ↦ Contains-append_left (take i xs) (get_or xs i d ∷ []) x k
        | inr e ↦ subst (λ (t : X). Contains (take i xs ++ get_or xs i d ∷ []) t) (sym e) (Contains-push (take i xs) (get_or xs i d))
      ]),
    )

module _ {X : Type 0} (R : X → X → Ordering) where
  insert_key_is : (xs : List X) (x : X) → insert_key R xs x ≡ put R xs x
  insert_key_is [] x = refl
  insert_key_is (y ∷ ys) x = ap (λ (t : List X). match_ordering (R x y) (x ∷ y ∷ ys) (y ∷ ys) (y ∷ t)) (insert_key_is ys x)

  module _ (total : IsTotalOrder R) (equal : (a b : X) → R a b ≡ Equal → a ≡ b) where
    pub inserted : (xs : List X) (x z : X) → (Contains (insert_key R xs x) z) ↔ (Contains xs z ⊎ (z ≡ x))
    inserted xs x z =
        subst (λ (l : List X). (Contains l z) ↔ (Contains xs z ⊎ (z ≡ x))) (sym (insert_key_is xs x)) (Contains-put R total xs x (λ y c. equal x y) z)

    kept_out : (y : X) (ys : List X) (x z : X) → (is_at (R x) y ≡ true) → IsRising R (y ∷ ys) → (Contains ys z) ↔ (Contains (y ∷ ys) z × (z ≡ x → ⊥))
    kept_out y ys x z e r =
        let same : x ≡ y = equal x y (equal_of (R x y) e) in (
          (λ c. (
            Contains-tail y z ys c,
            (λ s. let less : R y z ≡ Less = each_at (λ w. R y w ≡ Less) ys r.0 z c in
                let itself : R y y ≡ Less = subst (λ (w : X). R y w ≡ Less) (s ∙ same) less in
                irreflexive R total y itself),
          )),
          (λ h. elim (Contains-cons y z ys h.0) [ inl s ↦ absurd (h.1 (s ∙ sym same)) | inr c ↦ c ]),
        )

    past : (y : X) (ys zs : List X) (x z : X) → (is_at (R x) y ≡ false) → ((Contains zs z) ↔ (Contains ys z × (z ≡ x → ⊥))) → (Contains (y ∷ zs) z) ↔ (Contains (y ∷ ys) z × (z ≡ x → ⊥))
    past y ys zs x z e rest =
        let yes : is_at (R x) x ≡ true = ap is_eq (tied_itself total x) in (
          (λ c. elim (Contains-cons y z zs c) [
            | inl s ↦ (
              subst (λ (t : X). Contains (y ∷ ys) t) (sym s) (Contains-head y ys),
              (λ t. let no : is_at (R x) x ≡ false = subst (λ (w : X). is_at (R x) w ≡ false) (sym s ∙ t) e in cc),
            )
            | inr m ↦ let h = rest.0 m in (Contains-tail y z ys h.0, h.1)
          ]),
          (λ h. elim (Contains-cons y z ys h.0) [
            | inl s ↦ subst (λ (t : X). Contains (y ∷ zs) t) (sym s) (Contains-head y zs)
            | inr m ↦ Contains-tail y z zs (rest.1 (m, h.1))
          ]),
        )

    pub removed : (xs : List X) → IsRising R xs → (x z : X) → (Contains (remove_key (is_at (R x)) xs) z) ↔ (Contains xs z × (z ≡ x → ⊥))
    removed [] r x z = ((λ c. absurd (nothing_in z c)), (λ h. absurd (nothing_in z h.0)))
    removed (y ∷ ys) r x z =
        elim (cases_Bool (is_at (R x) y)) [
          | inl e ↦ subst (λ (b : Bool). (Contains (cond b ys (y ∷ remove_key (is_at (R x)) ys)) z) ↔ (Contains (y ∷ ys) z × (z ≡ x → ⊥))) (sym e) (kept_out y ys x z e r)
          | inr e ↦ subst (λ (b : Bool). (Contains (cond b ys (y ∷ remove_key (is_at (R x)) ys)) z) ↔ (Contains (y ∷ ys) z × (z ≡ x → ⊥))) (sym e) (past y ys (remove_key (is_at (R x)) ys) x z e (removed ys r.1 x z))
        ]
