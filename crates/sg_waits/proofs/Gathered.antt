-- Listings of one need: those between the least and the greatest that could be.
use Rattle.std.proofs.Common.{◌≡◌, ℕ, ◌+◌, ◌<◌, ◌≤◌, List, [], ◌∷◌, ◌++◌, ◌⊎◌, ◌↔◌, Bool, true, false, ◌&&◌, not, inl, inr, refl, sym, ap, ◌∙◌, subst, length, map, take, get_or, arith}
use Rattle.std.proofs.lemmas.Bool.Decides.{nat_tests}
use Rattle.std.proofs.lemmas.Cmp.{tied_itself}
use Rattle.std.proofs.lemmas.List.{map-append}
use Rattle.std.proofs.lemmas.List.Elements.{Contains-append_left, Contains-append_cases, Contains-push}
use Rattle.std.specs.BTreeMap.Range.{range_contains}
use Rattle.std.specs.Cmp.{nat_cmp_total}
use Rattle.std.specs.List.{Contains, filter}
use Rattle.std.specs.Ordering.{nat_cmp, ordering_then, is_le, is_lt, is_gt}
use Rattle.std.specs.declared.cmp.Ordering.{Ordering}
use Rattle.std.specs.declared.cmp.Ordering.TheVariants.{Less, Equal, Greater}
use Rattle.std.specs.declared.ops.Bound.TheVariants.{Included}
use Rattle.sg_base.proofs.Finite.{single, Contains-filter, filter-Contains, map-Contains, Contains-map}
use Rattle.sg_base.proofs.Scopes.{equal_nat}
use Rattle.sg_state.specs.declared.need.Need.{Need}
use Rattle.sg_state.specs.Need.{need_order, need_order_total}
use Rattle.sg_waits.specs.declared.listing.Listing.{Listing}
use Rattle.sg_waits.specs.Listing.{listing_cmp}
use Rattle.sg_waits.proofs.Listed.{equal_need, listing_by}
use Rattle.sg_waits.proofs.Sets.{taken_more, inserted}
use Rattle.std.specs.BTreeSet.{insert_key}

-- the numbers of a list with one more
pub one_more : {A X : Type 0} (shows : A → X) (f : X → ℕ) (ys : List A) (y : A) (u : ℕ) → (Contains (map f (map shows (ys ++ y ∷ []))) u) ↔ (Contains (map f (map shows ys)) u ⊎ (u ≡ f (shows y)))
one_more {A} {X} shows f ys y u =
    let parts : map f (map shows (ys ++ y ∷ [])) ≡ map f (map shows ys) ++ f (shows y) ∷ [] =
    ap (map f) (map-append shows ys (y ∷ [])) ∙ map-append f (map shows ys) (shows y ∷ []) in
    subst (λ (l : List ℕ). (Contains l u) ↔ (Contains (map f (map shows ys)) u ⊎ (u ≡ f (shows y)))) (sym parts) (
      (λ c. elim (Contains-append_cases (map f (map shows ys)) (f (shows y) ∷ []) u c) [ inl k ↦ inl k | inr k ↦ inr (single (f (shows y)) u k) ]),
      (λ h. elim h [
        | inl k ↦ Contains-append_left (map f (map shows ys)) (f (shows y) ∷ []) u k
        | inr e ↦ subst (λ (t : ℕ). Contains (map f (map shows ys) ++ f (shows y) ∷ []) t) (sym e) (Contains-push (map f (map shows ys)) (f (shows y)))
      ]),
    )

-- a set of numbers with one more of them
pub gathers : {A X : Type 0} (shows : A → X) (f : X → ℕ) (old ks : List ℕ) (ys : List A) (y : A) → ((u : ℕ) → (Contains ks u) ↔ (Contains old u ⊎ Contains (map f (map shows ys)) u)) → (u : ℕ) → (Contains (insert_key nat_cmp ks (f (shows y))) u) ↔ (Contains old u ⊎ Contains (map f (map shows (ys ++ y ∷ []))) u)
gathers shows f old ks ys y before u =
    let put = inserted nat_cmp nat_cmp_total equal_nat ks (f (shows y)) u in
    let more = one_more shows f ys y u in (
      (λ c. elim (put.0 c) [
        | inl k ↦ elim ((before u).0 k) [ inl o ↦ inl o | inr m ↦ inr (more.1 (inl m)) ]
        | inr e ↦ inr (more.1 (inr e))
      ]),
      (λ h. put.1 (elim h [
        | inl o ↦ inl ((before u).1 (inl o))
        | inr m ↦ elim (more.0 m) [ inl k ↦ inl ((before u).1 (inr k)) | inr e ↦ inr e ]
      ])),
    )

only_equal : (o p q : Ordering) → (is_le (ordering_then o p) && not (is_lt (ordering_then o q))) ≡ true → o ≡ Equal
only_equal Less p q h = absurd (cc)
only_equal Equal p q h = refl
only_equal Greater p q h = absurd (cc)

from_least : (u : ℕ) → is_le (nat_cmp 0 u) ≡ true
from_least u = grind (arith, nat_tests)

to_greatest : (top u : ℕ) → u ≤ top → is_lt (nat_cmp top u) ≡ false
to_greatest top u l = grind (arith, nat_tests)

least_first : (top : ℕ) → is_gt (nat_cmp 0 top) ≡ false
least_first top = grind (arith, nat_tests)

module _ (need : Need) (top : ℕ) where
  within : Listing → Bool
  within k = range_contains listing_cmp (Included (record { need = need; unit = 0 })) (Included (record { need = need; unit = top })) k

  pub forward : is_gt (ordering_then (need_order need need) (nat_cmp 0 top)) ≡ false
  forward = rw (tied_itself need_order_total need) (least_first top)

  in_range : (u : ℕ) → u ≤ top → (is_le (ordering_then (need_order need need) (nat_cmp 0 u)) && not (is_lt (ordering_then (need_order need need) (nat_cmp top u)))) ≡ true
  in_range u l = rw (tied_itself need_order_total need, from_least u, to_greatest top u l) refl

  pub of_need : (ks : List Listing) → ((k : Listing) → Contains ks k → k.unit ≤ top) → (u : ℕ) → (Contains (map (λ k. k.unit) (filter (range_contains listing_cmp (Included (record { need = need; unit = 0 })) (Included (record { need = need; unit = top }))) ks)) u) ↔ (Contains ks (record { need = need; unit = u }))
  of_need ks few u =
      let test : Listing → Bool = range_contains listing_cmp (Included (record { need = need; unit = 0 })) (Included (record { need = need; unit = top })) in (
        (λ c.
            let h = Contains-map (λ (k : Listing). k.unit) (filter test ks) u c in
            let f = Contains-filter test ks h.0 h.1 in
            let same : need ≡ (h.0).need = equal_need need (h.0).need (only_equal (need_order need (h.0).need) (nat_cmp 0 (h.0).unit) (nat_cmp top (h.0).unit) f.1) in
            subst (λ (k : Listing). Contains ks k) (listing_by h.0 (record { need = need; unit = u }) (sym same) (sym h.2)) f.0),
        (λ c.
            let k : Listing = record { need = need; unit = u } in
            map-Contains (λ (k : Listing). k.unit) (filter test ks) k (filter-Contains test ks k c (in_range u (few k c)))),
      )

-- the units of one need after another
pub one_need : (ks : List Listing) (gone : List Need) (i : ℕ) (n : Need) (before after : List ℕ) → i < length gone → n ≡ get_or gone i n → ((u : ℕ) → (Contains before u) ↔ ((m : Need) × Contains (take i gone) m × Contains ks (record { need = m; unit = u }))) → ((u : ℕ) → (Contains after u) ↔ (Contains before u ⊎ Contains ks (record { need = n; unit = u }))) → (u : ℕ) → (Contains after u) ↔ ((m : Need) × Contains (take (i + 1) gone) m × Contains ks (record { need = m; unit = u }))
one_need ks gone i n before after lt is so more u = (
  (λ c. elim ((more u).0 c) [
    | inl k ↦ let h = (so u).0 k in (h.0, (taken_more gone i n lt h.0).1 (inl h.1), h.2)
    | inr k ↦ (n, (taken_more gone i n lt n).1 (inr is), k)
  ]),
  (λ h. (more u).1 (elim ((taken_more gone i n lt h.0).0 h.1) [
    | inl k ↦ inl ((so u).1 (h.0, k, h.2))
    | inr e ↦ inr (subst (λ (m : Need). Contains ks (record { need = m; unit = u })) (e ∙ sym is) h.2)
  ])),
)

pub all_gathered : (need : Need) (top : ℕ) (ks : List Listing) → ((k : Listing) → Contains ks k → k.unit ≤ top) → (old found : List ℕ) (seen : List Listing) → seen ≡ filter (range_contains listing_cmp (Included (record { need = need; unit = 0 })) (Included (record { need = need; unit = top }))) ks → ((u : ℕ) → (Contains found u) ↔ (Contains old u ⊎ Contains (map (λ k. k.unit) seen) u)) → (u : ℕ) → (Contains found u) ↔ (Contains old u ⊎ Contains ks (record { need = need; unit = u }))
all_gathered need top ks few old found seen is so u =
    let o = of_need need top ks few u in
    let k = subst (λ (l : List Listing). (Contains found u) ↔ (Contains old u ⊎ Contains (map (λ (k : Listing). k.unit) l) u)) is (so u) in (
      (λ m. elim (k.0 m) [ inl a ↦ inl a | inr b ↦ inr (o.0 b) ]),
      (λ h. k.1 (elim h [ inl a ↦ inl a | inr b ↦ inr (o.1 b) ])),
    )
