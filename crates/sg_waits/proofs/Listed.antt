-- Listings: when two are one, and what comes of adding needs and taking them off one after another.
use Rattle.std.proofs.Common.{◌≡◌, ℕ, ◌+◌, ◌<◌, List, [], ◌∷◌, ◌⊎◌, ◌↔◌, Bool, eqb, IsTrue, Result, Ok, Err, true, false, inl, inr, refl, sym, ap, ◌∙◌, subst, length, take, drop, get_or, arith}
use Rattle.std.proofs.lemmas.List.{take-append-drop}
use Rattle.std.proofs.lemmas.List.Elements.{Contains-append_left}
use Rattle.std.specs.BTreeMap.{is_at}
use Rattle.std.specs.BTreeSet.{insert_key}
use Rattle.std.specs.List.{Contains, dedup}
use Rattle.std.specs.List.Sorted.{IsPermutation, IsSorted, IsSearchInRange, IsBinarySearchResult}
use Rattle.std.specs.Result.{is_ok, is_err}
use Rattle.std.specs.Set.{remove_key}
use Rattle.std.specs.Ordering.{nat_cmp}
use Rattle.std.specs.declared.cmp.Ordering.{Ordering}
use Rattle.std.specs.declared.cmp.Ordering.TheVariants.{Equal}
use Rattle.sg_base.specs.declared.scope.Scope.{Scope}
use Rattle.sg_base.specs.List.{IsRising}
use Rattle.sg_base.specs.Scope.{is_scope, scope_cmp}
use Rattle.sg_base.proofs.Finite.{nothing_in, Contains-head}
use Rattle.sg_base.proofs.Rising.{rising_one}
use Rattle.sg_base.proofs.Searching.{found}
use Rattle.sg_base.proofs.Scopes.{equal_nat, equal_scope, then_equal, scope_same, same_scope, number_same, number_itself, both_true}
use Rattle.sg_state.specs.declared.need.Need.{Need}
use Rattle.sg_state.specs.declared.need.Need.TheVariants.{Row, Datum}
use Rattle.sg_state.specs.Need.{need_cmp, need_order, need_order_is, need_order_total, need_orders, need_total}
use Rattle.sg_state.specs.contracts.need.NeedPartialEq.TheImpl as derived
use Rattle.sg_state.proofs.EachOnce.{each_once_rises, each_once_holds}
use Rattle.sg_waits.specs.declared.listing.Listing.{Listing}
use Rattle.sg_waits.specs.Listing.{listing_cmp, listing_total, AddsNeeds, AddsSome, TakesOff, Relists}
use Rattle.sg_waits.specs.Waits.{IsRisingOf}
use Rattle.sg_waits.proofs.Sets.{taken_more, inserted, removed}

-- ---- when two are one

equal_case : (a b : Need) → need_cmp a b ≡ Equal → a ≡ b
equal_case (Row s l) (Row t m) h =
    let k : (scope_cmp s t ≡ Equal) × (nat_cmp l m ≡ Equal) = then_equal (scope_cmp s t) (nat_cmp l m) h in
    ap (λ (x : Scope). let n : Need = Row x l in n) (equal_scope s t k.0) ∙ ap (λ (x : ℕ). let n : Need = Row t x in n) (equal_nat l m k.1)
equal_case (Row s l) (Datum t) h = absurd (cc)
equal_case (Datum s) (Row t m) h = absurd (cc)
equal_case (Datum s) (Datum t) h = ap (λ (x : Scope). let n : Need = Datum x in n) (equal_scope s t h)

pub equal_need : (a b : Need) → need_order a b ≡ Equal → a ≡ b
equal_need a b h = equal_case a b (sym (need_order_is a b) ∙ h)

-- whether two needs are the same, as the code tells it
abbrev pub is_need : Need → Need → Bool
is_need = (derived.ghosts).eq

same_need : (a b : Need) → is_need a b ≡ true → a ≡ b
same_need (Row s l) (Row t m) e =
    let k = both_true (is_scope s t) (eqb l m) e in
    ap (λ (x : Scope). let n : Need = Row x l in n) (scope_same s t k.0) ∙ ap (λ (x : ℕ). let n : Need = Row t x in n) (number_same l m k.1)
same_need (Row s l) (Datum t) e = absurd (cc)
same_need (Datum s) (Row t m) e = absurd (cc)
same_need (Datum s) (Datum t) e = ap (λ (x : Scope). let n : Need = Datum x in n) (scope_same s t e)

need_itself : (a : Need) → is_need a a ≡ true
need_itself (Row s l) = let k = same_scope s s refl in let m = number_itself l in cc
need_itself (Datum s) = same_scope s s refl

some_within : (xs : List Need) → 0 < length xs → (n : Need) × Contains xs n
some_within [] l = absurd (omega arith)
some_within (x ∷ xs) l = (x, Contains-head x xs)

within_some : (xs : List Need) (n : Need) → Contains xs n → 0 < length xs
within_some [] n c = absurd (nothing_in n c)
within_some (x ∷ xs) n c = omega arith

-- what is sorted, without what stands twice
module _ (xs ys : List Need) (moved : IsPermutation xs ys) (sorted : IsSorted need_order ys) where
  by_needs : IsSorted need_cmp ys
  by_needs = subst (λ (R : Need → Need → Ordering). IsSorted R ys) need_orders sorted

  pub once : IsRisingOf xs (dedup is_need ys)
  once = record {
    rising = each_once_rises need_cmp need_total equal_case is_need same_need need_itself xs ys moved by_needs;
    exact = each_once_holds need_cmp need_total equal_case is_need same_need need_itself xs ys moved by_needs;
  }

  pub some_once : 0 < length xs → 0 < length (dedup is_need ys)
  some_once l = let k = some_within xs l in within_some (dedup is_need ys) k.0 ((once.exact k.0).1 k.1)

-- what rises already is kept as it is
pub as_given : (needs ns : List Need) → IsRisingOf needs ns → IsRising need_cmp needs → ns ≡ needs
as_given needs ns k r = rising_one need_cmp need_total ns needs k.rising r k.exact

pub listing_by : (a b : Listing) → a.need ≡ b.need → a.unit ≡ b.unit → a ≡ b
listing_by a b n u =
    ap (λ (x : Need). let k : Listing = record { need = x; unit = a.unit } in k) n ∙ ap (λ (x : ℕ). let k : Listing = record { need = b.need; unit = x } in k) u

pub equal_listing : (a b : Listing) → listing_cmp a b ≡ Equal → a ≡ b
equal_listing a b h =
    let k : (need_order a.need b.need ≡ Equal) × (nat_cmp a.unit b.unit ≡ Equal) = then_equal (need_order a.need b.need) (nat_cmp a.unit b.unit) h in
    listing_by a b (equal_need a.need b.need k.0) (equal_nat a.unit b.unit k.1)

pub order_rising : (ns : List Need) → IsRising need_cmp ns → IsRising need_order ns
order_rising ns r = subst (λ (R : Need → Need → Ordering). IsRising R ns) (sym need_orders) r

-- ---- one need after another

pub adds_none : (ks : List Listing) (unit : ℕ) → AddsNeeds ks ks [] unit
adds_none ks unit = λ k. ((λ c. inl c), (λ h. elim h [ inl c ↦ c | inr e ↦ absurd (nothing_in k.need e.1) ]))

pub adds_more : (old ks new : List Listing) (needs : List Need) (i : ℕ) (n : Need) (unit : ℕ) → i < length needs → n ≡ get_or needs i n → AddsNeeds old ks (take i needs) unit → ((k : Listing) → (Contains new k) ↔ (Contains ks k ⊎ (k ≡ record { need = n; unit = unit }))) → AddsNeeds old new (take (i + 1) needs) unit
adds_more old ks new needs i n unit lt is before one = λ k.
    let more = taken_more needs i n lt k.need in
    let put = one k in (
      (λ c. elim (put.0 c) [
        | inl m ↦ elim ((before k).0 m) [ inl o ↦ inl o | inr e ↦ inr (e.0, more.1 (inl e.1)) ]
        | inr e ↦ inr (ap (λ (x : Listing). x.unit) e, more.1 (inr (ap (λ (x : Listing). x.need) e ∙ is)))
      ]),
      (λ h. put.1 (elim h [
        | inl o ↦ inl ((before k).1 (inl o))
        | inr e ↦ elim (more.0 e.1) [
          | inl m ↦ inl ((before k).1 (inr (e.0, m)))
          | inr s ↦ inr (listing_by k (record { need = n; unit = unit }) (s ∙ sym is) e.0)
        ]
      ])),
    )

pub part_in : {X : Type 0} (i : ℕ) (xs : List X) (x : X) → Contains (take i xs) x → Contains xs x
part_in {X} i xs x c = subst (λ (l : List X). Contains l x) (take-append-drop i xs) (Contains-append_left (take i xs) (drop i xs) x c)

-- where all the needs of a first part were added, some of all of them were
pub adds_part : (old new : List Listing) (needs : List Need) (i : ℕ) (unit : ℕ) → AddsNeeds old new (take i needs) unit → AddsSome old new needs unit
adds_part old new needs i unit adds = record {
  stay = λ k c. (adds k).1 (inl c);
  come = λ k c. elim ((adds k).0 c) [ inl o ↦ inl o | inr e ↦ inr (e.0, part_in i needs k.need e.1) ];
}

pub adds_some : (old new : List Listing) (needs : List Need) (unit : ℕ) → AddsNeeds old new needs unit → AddsSome old new needs unit
adds_some old new needs unit adds = record { stay = λ k c. (adds k).1 (inl c); come = λ k c. (adds k).0 c }

pub takes_none : (ks : List Listing) (keep : List Need) (unit : ℕ) → TakesOff ks ks [] keep unit
takes_none ks keep unit = λ k. ((λ c. (c, (λ e. absurd (nothing_in k.need e.1)))), (λ h. h.0))

pub takes_more : (old ks new : List Listing) (needs keep : List Need) (i : ℕ) (n : Need) (unit : ℕ) → i < length needs → n ≡ get_or needs i n → TakesOff old ks (take i needs) keep unit → ((k : Listing) → (Contains new k) ↔ (Contains ks k × (k ≡ record { need = n; unit = unit } → Contains keep n))) → TakesOff old new (take (i + 1) needs) keep unit
takes_more old ks new needs keep i n unit lt is before one = λ k.
    let more = taken_more needs i n lt k.need in (
      (λ c.
          let h = (one k).0 c in
          let b = (before k).0 h.0 in (
            b.0,
            (λ e. elim (more.0 e.1) [
              | inl m ↦ b.1 (e.0, m)
              | inr s ↦ subst (λ (x : Need). Contains keep x) (sym (s ∙ sym is)) (h.1 (listing_by k (record { need = n; unit = unit }) (s ∙ sym is) e.0))
            ]),
          )),
      (λ h. (one k).1 (
        (before k).1 (h.0, (λ e. h.1 (e.0, more.1 (inl e.1)))),
        (λ s. subst (λ (x : Need). Contains keep x) (ap (λ (x : Listing). x.need) s) (h.1 (ap (λ (x : Listing). x.unit) s, more.1 (inr (ap (λ (x : Listing). x.need) s ∙ is))))),
      )),
    )

-- ---- a change of a unit's needs

module _ (old : List Listing) (before needs : List Need) (unit : ℕ) (listed : (n : Need) → (Contains old (record { need = n; unit = unit })) ↔ (Contains before n)) where
  own : (k : Listing) → k.unit ≡ unit → Contains old k → Contains before k.need
  own k e c = (listed k.need).0 (subst (λ (x : Listing). Contains old x) (listing_by k (record { need = k.need; unit = unit }) refl e) c)

  owned : (k : Listing) → k.unit ≡ unit → Contains before k.need → Contains old k
  owned k e c = subst (λ (x : Listing). Contains old x) (sym (listing_by k (record { need = k.need; unit = unit }) refl e)) ((listed k.need).1 c)

  pub relisted : (same : (a b : ℕ) → (a ≡ b) ⊎ (a ≡ b → ⊥)) (ks new : List Listing) → AddsNeeds old ks needs unit → TakesOff ks new before needs unit → Relists old new needs unit
  relisted same ks new adds takes = λ k. (
    (λ c.
        let t = (takes k).0 c in
        elim ((adds k).0 t.0) [
          | inr e ↦ inr e
          | inl o ↦ elim (same k.unit unit) [
            | inl e ↦ inr (e, t.1 (e, own k e o))
            | inr n ↦ inl (n, o)
          ]
        ]),
    (λ h. (takes k).1 (elim h [
      | inl o ↦ ((adds k).1 (inl o.1), (λ e. absurd (o.0 e.0)))
      | inr e ↦ ((adds k).1 (inr e), (λ _. e.1))
    ])),
  )

  pub restored : (ks new : List Listing) → AddsSome old ks needs unit → TakesOff ks new needs before unit → IsRising listing_cmp old → IsRising listing_cmp new → new ≡ old
  restored ks new adds takes r s =
      rising_one listing_cmp listing_total new old s r (λ k. (
        (λ c.
            let t = (takes k).0 c in
            elim (adds.come k t.0) [
              | inl o ↦ o
              | inr e ↦ owned k e.0 (t.1 e)
            ]),
        (λ c. (takes k).1 (adds.stay k c, (λ e. own k e.0 c))),
      ))

-- ---- one need

pub was_err : (r : Result ℕ ℕ) → is_err r ≡ true → is_ok r ≡ false
was_err (Ok at) e = absurd (cc)
was_err (Err at) e = refl

pub was_ok : (r : Result ℕ ℕ) → is_err r ≡ false → is_ok r ≡ true
was_ok (Ok at) e = refl
was_ok (Err at) e = absurd (cc)

pub listed_one : (ks : List Listing) (l : Listing) (k : Listing) → (Contains (insert_key listing_cmp ks l) k) ↔ (Contains ks k ⊎ (k ≡ l))
listed_one ks l k = inserted listing_cmp listing_total equal_listing ks l k

module _ (old : List Listing) (need : Need) (unit : ℕ) (keep : List Need) (rising : IsRising need_cmp keep) (r : Result ℕ ℕ) (within : IsSearchInRange r (length keep)) (hit : IsBinarySearchResult (λ y. need_order y need) keep r) where
  kept_or_not : (IsTrue (is_ok r)) ↔ (Contains keep need)
  kept_or_not = found need_order need_order_total equal_need keep (order_rising keep rising) need r within hit

  pub one_stays : (Contains keep need → Contains old (record { need = need; unit = unit })) → is_ok r ≡ true → (k : Listing) → (Contains old k) ↔ (Contains old k ⊎ (k ≡ record { need = need; unit = unit }))
  one_stays there e = λ k. (
    (λ c. inl c),
    (λ h. elim h [ inl c ↦ c | inr s ↦ subst (λ (l : Listing). Contains old l) (sym s) (there (kept_or_not.0 e)) ]),
  )

  pub one_left : is_ok r ≡ true → (k : Listing) → (Contains old k) ↔ (Contains old k × (k ≡ record { need = need; unit = unit } → Contains keep need))
  one_left e = λ k. ((λ c. (c, (λ _. kept_or_not.0 e))), (λ h. h.0))

  pub one_taken : IsRising listing_cmp old → is_ok r ≡ false → (k : Listing) → (Contains (remove_key (is_at (listing_cmp (record { need = need; unit = unit }))) old) k) ↔ (Contains old k × (k ≡ record { need = need; unit = unit } → Contains keep need))
  one_taken up e = λ k.
      let gone = removed listing_cmp listing_total equal_listing old up (record { need = need; unit = unit }) k in (
        (λ c. let h = gone.0 c in (h.0, (λ s. absurd (h.1 s)))),
        (λ h. gone.1 (h.0, (λ s. let t : is_ok r ≡ true = kept_or_not.1 (h.1 s) in cc))),
      )
