-- The least holders of needs, and the items of all waiting units.
use Rattle.std.proofs.Common.{◌≡◌, ℕ, zero, suc, ◌+◌, ◌<◌, ◌≤◌, List, [], ◌∷◌, ◌⊎◌, ◌↔◌, Bool, true, false, cond, inl, inr, refl, sym, ap, ◌∙◌, subst, length, take, get_or, Option, Some, None, min, arith}
use Rattle.std.proofs.lemmas.Bool.{cases_Bool}
use Rattle.std.proofs.lemmas.Bool.Decides.{nat_tests}
use Rattle.std.proofs.lemmas.Cmp.{tied_itself}
use Rattle.std.proofs.lemmas.List.Elements.{Contains-append_left, Contains-append_right, Contains-append_cases}
use Rattle.std.specs.BTreeMap.{is_at}
use Rattle.std.specs.List.{Contains}
use Rattle.std.specs.Ordering.{nat_cmp, on, is_eq}
use Rattle.std.specs.declared.cmp.Ordering.{Ordering}
use Rattle.std.specs.declared.cmp.Ordering.TheVariants.{Less}
use Rattle.sg_base.specs.List.{IsRising}
use Rattle.sg_base.proofs.Finite.{nothing_in, single, Contains-head, Contains-cons, each_at}
use Rattle.sg_base.proofs.Rising.{Rising-append, never}
use Rattle.sg_base.proofs.Rows.{equal_of}
use Rattle.sg_state.specs.declared.need.Need.{Need}
use Rattle.sg_state.specs.Need.{need_cmp, need_total, need_order, need_order_total}
use Rattle.sg_waits.specs.declared.shown.ShownItem.{ShownItem}
use Rattle.sg_waits.specs.Shown.{IsLeastNeed, IsLeastHolder, NamesHolders, AreShown, IsLeastAt, less_of, holder_at, Lowers, held_item, item_of, items_below}
use Rattle.sg_waits.specs.Waits.{WaitsOf, needs_at, IsWaiting}
use Rattle.sg_waits.proofs.Listed.{equal_need}
use Rattle.sg_waits.proofs.Sets.{taken_more}
use Rattle.sg_waits.proofs.Standing.{needy_within}

either : (a b : ℕ) → (a ≤ b) ⊎ (b ≤ a)
either zero b = inl (omega arith)
either (suc a) zero = inr (omega arith)
either (suc a) (suc b) = elim (either a b) [ inl l ↦ inl (omega arith) | inr l ↦ inr (omega arith) ]

apart : (a b : ℕ) → (a < b) ⊎ (b ≤ a)
apart zero zero = inr (omega arith)
apart zero (suc b) = inl (omega arith)
apart (suc a) zero = inr (omega arith)
apart (suc a) (suc b) = elim (apart a b) [ inl l ↦ inl (omega arith) | inr l ↦ inr (omega arith) ]

-- ---- one more holder

module _ (hs : List (Need × ℕ)) (i : ℕ) (n : Need) (h : ℕ) (lt : i < length hs) (is : (n, h) ≡ get_or hs i (n, h)) where
  more : (p : Need × ℕ) → (Contains (take (i + 1) hs) p) ↔ (Contains (take i hs) p ⊎ (p ≡ get_or hs i (n, h)))
  more p = taken_more hs i (n, h) lt p

  new_one : Contains (take (i + 1) hs) (n, h)
  new_one = (more (n, h)).1 (inr is)

  kept : (m : Need) (k : ℕ) → Contains (take i hs) (m, k) → Contains (take (i + 1) hs) (m, k)
  kept m k c = (more (m, k)).1 (inl c)

  came : (m : Need) (k : ℕ) → Contains (take (i + 1) hs) (m, k) → Contains (take i hs) (m, k) ⊎ ((m ≡ n) × (k ≡ h))
  came m k c = elim ((more (m, k)).0 c) [
    | inl o ↦ inl o
    | inr e ↦
        let s : (m, k) ≡ (n, h) = e ∙ sym is in
        inr (ap (λ (p : Need × ℕ). p.0) s, ap (λ (p : Need × ℕ). p.1) s)
  ]

  here : (o : Option ℕ) → IsLeastAt (take i hs) n o → IsLeastAt (take (i + 1) hs) n (Some (less_of h o))
  here None b = (
    new_one,
    (λ k c. elim (came n k c) [ inl o ↦ absurd (b k o) | inr e ↦ omega (arith, e.1) ]),
  )
  here (Some g) b =
      elim (either h g) [
        | inl l ↦
            let e : min h g ≡ h = omega arith in (
              subst (λ (x : ℕ). Contains (take (i + 1) hs) (n, x)) (sym e) new_one,
              (λ k c. elim (came n k c) [ inl o ↦ omega (arith, b.1 k o) | inr s ↦ omega (arith, s.1) ]),
            )
        | inr l ↦
            let e : min h g ≡ g = omega arith in (
              subst (λ (x : ℕ). Contains (take (i + 1) hs) (n, x)) (sym e) (kept n g b.0),
              (λ k c. elim (came n k c) [ inl o ↦ omega (arith, b.1 k o) | inr s ↦ omega (arith, s.1) ]),
            )
      ]

  there : (m : Need) → (m ≡ n → ⊥) → (o : Option ℕ) → IsLeastAt (take i hs) m o → IsLeastAt (take (i + 1) hs) m o
  there m other None b = λ k c. elim (came m k c) [ inl o ↦ b k o | inr e ↦ absurd (other e.0) ]
  there m other (Some g) b = (kept m g b.0, (λ k c. elim (came m k c) [ inl o ↦ b.1 k o | inr e ↦ absurd (other e.0) ]))

  pub lowered : (old new : List (Need × ℕ)) → ((m : Need) → IsLeastAt (take i hs) m (holder_at old m)) → Lowers old new n h → (m : Need) → IsLeastAt (take (i + 1) hs) m (holder_at new m)
  lowered old new before low m =
      elim (cases_Bool (is_at (need_order n) m)) [
        | inl e ↦
            let same : n ≡ m = equal_need n m (equal_of (need_order n m) e) in
            let value : holder_at new m ≡ Some (less_of h (holder_at old m)) = low m ∙ ap (λ (b : Bool). cond b (Some (less_of h (holder_at old m))) (holder_at old m)) e in
            subst (λ (o : Option ℕ). IsLeastAt (take (i + 1) hs) m o) (sym value) (subst (λ (x : Need). IsLeastAt (take (i + 1) hs) x (Some (less_of h (holder_at old x)))) same (here (holder_at old n) (before n)))
        | inr e ↦
            let value : holder_at new m ≡ holder_at old m = low m ∙ ap (λ (b : Bool). cond b (Some (less_of h (holder_at old m))) (holder_at old m)) e in
            subst (λ (o : Option ℕ). IsLeastAt (take (i + 1) hs) m o) (sym value) (there m (λ s. (
            let yes : is_at (need_order n) n ≡ true = ap is_eq (tied_itself need_order_total n) in
            let no : is_at (need_order n) n ≡ false = subst (λ (x : Need). is_at (need_order n) x ≡ false) s e in
            cc)) (holder_at old m) (before m))
      ]

-- ---- the item of one unit

item_by : (a b : ShownItem) → a.unit ≡ b.unit → a.need ≡ b.need → a.holder ≡ b.holder → a ≡ b
item_by a b u n h =
    ap (λ (x : ℕ). let r : ShownItem = record { unit = x; need = a.need; holder = a.holder } in r) u
    ∙ (ap (λ (x : Need). let r : ShownItem = record { unit = b.unit; need = x; holder = a.holder } in r) n
    ∙ ap (λ (x : ℕ). let r : ShownItem = record { unit = b.unit; need = b.need; holder = x } in r) h)

first_least : (n : Need) (ns : List Need) → IsRising need_cmp (n ∷ ns) → IsLeastNeed (n ∷ ns) n
first_least n ns r = (
  Contains-head n ns,
  (λ m c. elim (Contains-cons n m ns c) [ inl e ↦ inl e | inr k ↦ inr (each_at (λ x. need_cmp n x ≡ Less) ns r.0 m k) ]),
)

least_first : (n : Need) (ns : List Need) → IsRising need_cmp (n ∷ ns) → (m : Need) → IsLeastNeed (n ∷ ns) m → m ≡ n
least_first n ns r m l =
    elim (Contains-cons n m ns l.0) [
      | inl e ↦ e
      | inr k ↦ elim (l.1 n (Contains-head n ns)) [
        | inl e ↦ sym e
        | inr b ↦ absurd (never need_cmp need_total n m (each_at (λ x. need_cmp n x ≡ Less) ns r.0 m k) b)
      ]
    ]

module _ (hs : List (Need × ℕ)) (u : ℕ) where
  held_exact : (o : Option ℕ) (n : Need) (ns : List Need) → IsRising need_cmp (n ∷ ns) → IsLeastAt hs n o → ((m : Need) → IsLeastNeed (n ∷ ns) m → (h : ℕ) × Contains hs (m, h)) → (i : ShownItem) → (Contains (held_item o n u) i) ↔ ((i.unit ≡ u) × IsLeastNeed (n ∷ ns) i.need × IsLeastHolder hs i.need i.holder)
  held_exact None n ns r b named i = let h = named n (first_least n ns r) in absurd (b h.0 h.1)
  held_exact (Some g) n ns r b named i = (
    (λ c.
        let e : i ≡ record { unit = u; need = n; holder = g } = single (record { unit = u; need = n; holder = g }) i c in (
          ap (λ (x : ShownItem). x.unit) e,
          subst (λ (x : Need). IsLeastNeed (n ∷ ns) x) (sym (ap (λ (x : ShownItem). x.need) e)) (first_least n ns r),
          subst (λ (x : ShownItem). IsLeastHolder hs x.need x.holder) (sym e) b,
        )),
    (λ h.
        let same : i.need ≡ n = least_first n ns r i.need h.1 in
        let own : IsLeastHolder hs n i.holder = subst (λ (x : Need). IsLeastHolder hs x i.holder) same h.2 in
        let up : g ≤ i.holder = b.1 i.holder own.0 in
        let down : i.holder ≤ g = own.1 g b.0 in
        let k : ShownItem = record { unit = u; need = n; holder = g } in
        subst (λ (x : ShownItem). Contains (k ∷ []) x) (sym (item_by i k h.0 same (omega arith))) (Contains-head k [])),
  )

  item_exact : (es : List (Need × ℕ)) → ((n : Need) → IsLeastAt hs n (holder_at es n)) → (ns : List Need) → IsRising need_cmp ns → ((m : Need) → IsLeastNeed ns m → (h : ℕ) × Contains hs (m, h)) → (i : ShownItem) → (Contains (item_of ns es u) i) ↔ ((i.unit ≡ u) × IsLeastNeed ns i.need × IsLeastHolder hs i.need i.holder)
  item_exact es least [] r named i = ((λ c. absurd (nothing_in i c)), (λ h. absurd (nothing_in i.need (h.1).0)))
  item_exact es least (n ∷ ns) r named i = held_exact (holder_at es n) n ns r (least n) named i

abbrev by_unit : ShownItem → ShownItem → Ordering
by_unit = on (λ i. i.unit) nat_cmp

held_rises : (o : Option ℕ) (n : Need) (u : ℕ) → IsRising by_unit (held_item o n u)
held_rises None n u = tt
held_rises (Some h) n u = (tt, tt)

item_rises : (ns : List Need) (es : List (Need × ℕ)) (u : ℕ) → IsRising by_unit (item_of ns es u)
item_rises [] es u = tt
item_rises (n ∷ ns) es u = held_rises (holder_at es n) n u

less_so : (a b : ℕ) → a < b → nat_cmp a b ≡ Less
less_so a b l = grind (arith, nat_tests)

-- ---- the items of all units

module _ (ws : WaitsOf) (hs es : List (Need × ℕ)) (least : (n : Need) → IsLeastAt hs n (holder_at es n)) (up : (u : ℕ) → IsRising need_cmp (needs_at ws u)) (named : NamesHolders ws hs) where
  one : (u : ℕ) (i : ShownItem) → (Contains (item_of (needs_at ws u) es u) i) ↔ ((i.unit ≡ u) × IsLeastNeed (needs_at ws u) i.need × IsLeastHolder hs i.need i.holder)
  one u i = item_exact hs u es least (needs_at ws u) (up u) (named u) i

  below : (k : ℕ) (i : ShownItem) → (Contains (items_below ws es k) i) ↔ ((i.unit < k) × IsLeastNeed (needs_at ws i.unit) i.need × IsLeastHolder hs i.need i.holder)
  below zero i = ((λ c. absurd (nothing_in i c)), (λ h. absurd (omega (arith, h.0))))
  below (suc k) i = (
    (λ c. elim (Contains-append_cases (items_below ws es k) (item_of (needs_at ws k) es k) i c) [
      | inl m ↦ let h = (below k i).0 m in (omega (arith, h.0), h.1, h.2)
      | inr m ↦ let h = (one k i).0 m in (omega (arith, h.0), subst (λ (u : ℕ). IsLeastNeed (needs_at ws u) i.need) (sym h.0) h.1, h.2)
    ]),
    (λ h. elim (last i.unit k h.0) [
      | inl l ↦ Contains-append_left (items_below ws es k) (item_of (needs_at ws k) es k) i ((below k i).1 (l, h.1, h.2))
      | inr e ↦ Contains-append_right (items_below ws es k) (item_of (needs_at ws k) es k) i ((one k i).1 (e, subst (λ (u : ℕ). IsLeastNeed (needs_at ws u) i.need) e h.1, h.2))
    ]),
  )
    where
      last : (a b : ℕ) → a < suc b → (a < b) ⊎ (a ≡ b)
      last a b l = elim (apart a b) [ inl m ↦ inl m | inr m ↦ inr (omega arith) ]

  rises : (k : ℕ) → IsRising by_unit (items_below ws es k)
  rises zero = tt
  rises (suc k) =
      Rising-append by_unit (items_below ws es k) (item_of (needs_at ws k) es k) (rises k) (item_rises (needs_at ws k) es k) (λ a b c d.
      let l = ((below k a).0 c).0 in
      let e = ((one k b).0 d).0 in
      less_so a.unit b.unit (omega arith))

  within_so : (i : ShownItem) → IsLeastNeed (needs_at ws i.unit) i.need → i.unit < length ws
  within_so i l = needy_within ws i.unit i.need l.0

  has_item : (u : ℕ) (ns : List Need) → needs_at ws u ≡ ns → 0 < length ns → (i : ShownItem) × Contains (items_below ws es (length ws)) i × (i.unit ≡ u)
  has_item u [] e l = absurd (omega arith)
  has_item u (n ∷ ns) e l =
      let first : IsLeastNeed (needs_at ws u) n = subst (λ (x : List Need). IsLeastNeed x n) (sym e) (first_least n ns (subst (λ (x : List Need). IsRising need_cmp x) e (up u))) in
      let held = least_of n (holder_at es n) (least n) (named u n first) in
      (record { unit = u; need = n; holder = held.0 }, (below (length ws) (record { unit = u; need = n; holder = held.0 })).1 (needy_within ws u n first.0, first, held.1), refl)
    where
      least_of : (n : Need) (o : Option ℕ) → IsLeastAt hs n o → ((h : ℕ) × Contains hs (n, h)) → (h : ℕ) × IsLeastHolder hs n h
      least_of n None b some = absurd (b some.0 some.1)
      least_of n (Some h) b some = (h, b)

  pub all_shown : ((u : ℕ) → IsWaiting ws u → 0 < length (needs_at ws u)) → AreShown ws hs (items_below ws es (length ws))
  all_shown some = record {
    rising = rises (length ws);
    exact = λ i. (
      (λ c. let h = (below (length ws) i).0 c in (h.1, h.2)),
      (λ h. (below (length ws) i).1 (within_so i h.0, h.0, h.1)),
    );
    each = λ u w. has_item u (needs_at ws u) refl (some u w);
  }
