-- A unit makes a scope.
use Rattle.std.proofs.Common.{◌≡◌, ℕ, zero, suc, ◌+◌, ◌<◌, ◌≤◌, List, ◌∷◌, ◌⊎◌, ◌↔◌, Bool, true, false, eqb, cond, inl, inr, refl, sym, ap, ◌∙◌, subst, map, fold, length, slice_index, slice_set, arith}
use Rattle.std.proofs.Common.{get_or-set_same, get_or-set_other}
use Rattle.std.proofs.Math.ListN.{length-set}
use Rattle.std.proofs.lemmas.Bool.{cases_eq}
use Rattle.std.specs.BTreeMap.{insert_entry}
use Rattle.std.specs.Int.{bit_at}
use Rattle.std.specs.List.{Contains, flat_map, range_with_len}
use Rattle.std.specs.Ordering.{nat_cmp}
use Rattle.sg_base.specs.declared.scope.Scope.{Scope}
use Rattle.sg_base.specs.Label.{Has}
use Rattle.sg_base.specs.Graph.{Edge}
use Rattle.sg_base.specs.List.{IsRising}
use Rattle.sg_base.specs.Scope.{scope_cmp, scope_total}
use Rattle.sg_base.proofs.Finite.{nothing_in, Contains-head, Contains-cons, Contains-tail, map-Contains, Contains-map, Contains-filter, filter-Contains, each_from, each_at}
use Rattle.sg_base.proofs.Rising.{rising_one}
use Rattle.sg_base.proofs.Scopes.{equal_scope, number_same, number_itself}
use Rattle.sg_state.specs.declared.part.Part.{Part}
use Rattle.sg_state.specs.declared.slot.Slot.{Slot}
use Rattle.sg_state.specs.declared.slot.Slot.TheVariants.{Given, Waits, Empty}
use Rattle.sg_state.specs.Held.{RowHold, DatumHold, row_hold_cmp, row_hold_total, datum_hold_cmp, datum_hold_total, labels_in, put, with_fresh}
use Rattle.sg_state.specs.Part.{AreParts}
use Rattle.sg_state.specs.Place.{PlaceOf, HasTarget, HasHolder, IsPlace, IsFresh}
use Rattle.sg_state.specs.View.{EdgeAt, ArePlaces, HasKey, IsKept, IsListed, KeepsLists, row_holds_at, datum_hold_of, seen}
use Rattle.sg_state.proofs.InParts.{parts_after}
use Rattle.sg_state.proofs.Keyed.{insert_adds, at_inserts}
use Rattle.sg_state.proofs.RisingLists.{is_put, Rising-puts, Contains-puts}
use Rattle.sg_state.proofs.Views.{a_datum_hold, hold_from, hold_to, waits_from, waits_to, key_from, key_to, holds_rise, data_rise}
use Rattle.sg_state.proofs.Equals.{held_by, equal_row_hold, equal_datum_hold, row_hold_by, datum_hold_by}
use Rattle.sg_state.proofs.Writing.{same_edges, same_given, same_data}

-- ---- the labels of a set

range_has : (a n m : ℕ) → a ≤ m → m < a + n → Contains (range_with_len a n) m
range_has a zero m l h = absurd (omega (arith, l, h))
range_has a (suc n) m l h =
    elim (cases_eq m a) [
      | inl e ↦ subst (λ (x : ℕ). Contains (a ∷ range_with_len (a + 1) n) x) (sym e) (Contains-head a (range_with_len (a + 1) n))
      | inr k ↦ Contains-tail a m (range_with_len (a + 1) n) (range_has (a + 1) n m (omega (arith, l, k)) (omega (arith, h)))
    ]

range_below : (a n m : ℕ) → Contains (range_with_len a n) m → m < a + n
range_below a zero m c = absurd (nothing_in m c)
range_below a (suc n) m c =
    elim (Contains-cons a m (range_with_len (a + 1) n) c) [
      | inl e ↦ omega (arith, e)
      | inr k ↦ let h : m < (a + 1) + n = range_below (a + 1) n m k in omega (arith, h)
    ]

in_labels : (set m : ℕ) → (Contains (labels_in set) m) ↔ ((m < 16) × Has set m)
in_labels set m = (
  (λ c. let k = Contains-filter (λ l. eqb (bit_at set l) 1) (range_with_len 0 16) m c in (below (range_below 0 16 m k.0), number_same (bit_at set m) 1 k.1)),
  (λ h. filter-Contains (λ l. eqb (bit_at set l) 1) (range_with_len 0 16) m (range_has 0 16 m (omega arith) (omega (arith, h.0))) (subst (λ (n : ℕ). eqb (bit_at set m) n ≡ true) h.1 (number_itself (bit_at set m)))),
)
  where
    below : m < 0 + 16 → m < 16
    below h = omega (arith, h)

-- ---- what is known with other lists

pub relisted : {D : Type 0} (es : List (Scope × PlaceOf D)) (made : List ℕ) (lists new : List (ℕ × List Scope)) → IsKept es made lists → KeepsLists lists new → IsRising nat_cmp (map (λ p. p.0) new) → IsKept es made new
relisted es made lists new kept keeps up = record {
  places = kept.places;
  lists_rise = up;
  targets = kept.targets;
  row_listed = λ s l u h. let k = kept.row_listed s l u h in (k.0, keeps u s k.1);
  datum_listed = λ s u h. let k = kept.datum_listed s u h in (k.0, keeps u s k.1);
  serials = kept.serials;
}

-- ---- the new scope

module _ {D : Type 0} (es : List (Scope × PlaceOf D)) (made : List ℕ) (lists : List (ℕ × List Scope)) (kept : IsKept es made lists) (u labels : ℕ) (datum : Bool) (n : ℕ) (next : n ≡ slice_index made u) (lt : u < length made) (p : PlaceOf D) (fresh : IsFresh p u labels datum) where
  abbrev made_scope : Scope
  made_scope = record { unit = u; serial = n }

  abbrev grown : List (Scope × PlaceOf D)
  grown = insert_entry scope_cmp es made_scope p

  pub absent : (q : PlaceOf D) → Contains es (made_scope, q) → ⊥
  absent q c = let k : n < slice_index made u = kept.serials made_scope (q, c) lt in absurd (omega (arith, k, next))

  adds : (q : Scope × PlaceOf D) → (Contains grown q) ↔ (Contains es q ⊎ (q ≡ (made_scope, p)))
  adds q = insert_adds scope_cmp scope_total equal_scope es made_scope p absent q

  at : (A : PlaceOf D → Type 0) (j : Scope) → ((q : PlaceOf D) × Contains grown (j, q) × A q) ↔ (((q : PlaceOf D) × Contains es (j, q) × A q) ⊎ ((j ≡ made_scope) × A p))
  at A j = at_inserts scope_cmp scope_total equal_scope es made_scope p absent A j

  keys : (j : Scope) → (HasKey grown j) ↔ (HasKey es j ⊎ (j ≡ made_scope))
  keys j = (
    (λ h. elim ((adds (j, h.0)).0 h.1) [ inl c ↦ inl (h.0, c) | inr e ↦ inr (ap (λ (q : Scope × PlaceOf D). q.0) e) ]),
    (λ h. elim h [
      | inl k ↦ (k.0, (adds (j, k.0)).1 (inl k.1))
      | inr e ↦ (p, (adds (j, p)).1 (inr (ap (λ (x : Scope). let q : Scope × PlaceOf D = (x, p) in q) e)))
    ]),
  )

  waits_if : (d : Bool) (v : ℕ) → (let x : Slot D = cond d (Waits u) Empty in x) ≡ Waits v → (d ≡ true) × (v ≡ u)
  waits_if true v e = (refl, sym (one u v e))
    where
      one : (a b : ℕ) → (let x : Slot D = Waits a in x) ≡ Waits b → a ≡ b
      one a b e = cc
  waits_if false v e = absurd (cc)

  given_if : (d : Bool) (x : D) → cond d (Waits u) Empty ≡ Given x → ⊥
  given_if true x e = cc
  given_if false x e = cc

  module _ (up : IsRising scope_cmp (map (λ q. q.0) grown)) where
    pub grown_places : ArePlaces grown
    grown_places = record {
      keys_rise = up;
      each = each_from (λ (q : Scope × PlaceOf D). IsPlace q.1) grown (λ q c. elim ((adds q).0 c) [
        | inl k ↦ each_at (λ (q : Scope × PlaceOf D). IsPlace q.1) es (kept.places).each q k
        | inr e ↦ subst (λ (x : Scope × PlaceOf D). IsPlace x.1) (sym e) fresh.place
      ]);
    }

    scopes_put : map (λ q. q.0) grown ≡ put scope_cmp (map (λ q. q.0) es) made_scope
    scopes_put =
        is_put scope_cmp scope_total (map (λ q. q.0) es) (map (λ q. q.0) grown) made_scope (λ y k. equal_scope made_scope y) (kept.places).keys_rise up (λ j. (
          (λ c. elim ((keys j).0 (key_from grown j c)) [ inl h ↦ inl (key_to es j h) | inr e ↦ inr e ]),
          (λ h. key_to grown j ((keys j).1 (elim h [ inl c ↦ inl (key_from es j c) | inr e ↦ inr e ]))),
        ))

    abbrev hold_of : ℕ → RowHold
    hold_of l = record { scope = made_scope; label = l; unit = u }

    holds_put : flat_map row_holds_at grown ≡ fold (λ (ks : List RowHold) (l : ℕ). put row_hold_cmp ks (hold_of l)) (flat_map row_holds_at es) (labels_in labels)
    holds_put =
        rising_one row_hold_cmp row_hold_total (flat_map row_holds_at grown) (fold (λ (ks : List RowHold) (l : ℕ). put row_hold_cmp ks (hold_of l)) (flat_map row_holds_at es) (labels_in labels))
        (holds_rise grown grown_places) (Rising-puts row_hold_cmp row_hold_total equal_row_hold hold_of (labels_in labels) (flat_map row_holds_at es) (holds_rise es kept.places)) (λ k.
        let puts = Contains-puts row_hold_cmp row_hold_total equal_row_hold hold_of (labels_in labels) (flat_map row_holds_at es) k in
        let here = at (λ (q : PlaceOf D). HasHolder q k.label k.unit) k.scope in (
          (λ c. puts.1 (elim (here.0 (hold_from grown k.scope k.label k.unit c)) [
            | inl h ↦ inl (hold_to es k.scope k.label k.unit h)
            | inr h ↦
                let f = (fresh.holders k.label k.unit).0 h.1 in
                inr (subst (λ (x : RowHold). Contains (map hold_of (labels_in labels)) x) (sym (row_hold_by k (hold_of k.label) h.0 refl f.2)) (map-Contains hold_of (labels_in labels) k.label ((in_labels labels k.label).1 (f.0, f.1))))
          ])),
          (λ c. hold_to grown k.scope k.label k.unit (here.1 (elim (puts.0 c) [
            | inl h ↦ inl (hold_from es k.scope k.label k.unit h)
            | inr h ↦
                let m = Contains-map hold_of (labels_in labels) k h in
                let f = (in_labels labels m.0).0 m.1 in
                inr (ap (λ (x : RowHold). x.scope) m.2, (fresh.holders k.label k.unit).1 (subst (λ (x : ℕ). x < 16) (ap (λ (x : RowHold). x.label) (sym m.2)) f.0, subst (Has labels) (ap (λ (x : RowHold). x.label) (sym m.2)) f.1, ap (λ (x : RowHold). x.unit) m.2))
          ]))),
        ))

    data_put : (d : Bool) → datum ≡ d → flat_map (λ q. datum_hold_of q.0 (q.1).slot) grown ≡ cond d (put datum_hold_cmp (flat_map (λ q. datum_hold_of q.0 (q.1).slot) es) (a_datum_hold made_scope u)) (flat_map (λ q. datum_hold_of q.0 (q.1).slot) es)
    data_put true e =
        is_put datum_hold_cmp datum_hold_total (flat_map (λ q. datum_hold_of q.0 (q.1).slot) es) (flat_map (λ q. datum_hold_of q.0 (q.1).slot) grown) (a_datum_hold made_scope u) (λ y k. equal_datum_hold (a_datum_hold made_scope u) y) (data_rise es kept.places) (data_rise grown grown_places) (λ k.
        let here = at (λ (q : PlaceOf D). q.slot ≡ Waits k.unit) k.scope in (
          (λ c. elim (here.0 (waits_from grown k.scope k.unit c)) [
            | inl h ↦ inl (waits_to es k.scope k.unit h)
            | inr h ↦ inr (datum_hold_by k (a_datum_hold made_scope u) h.0 (waits_if datum k.unit (sym fresh.slot ∙ h.1)).1)
          ]),
          (λ h. waits_to grown k.scope k.unit (here.1 (elim h [
            | inl c ↦ inl (waits_from es k.scope k.unit c)
            | inr x ↦ inr (ap (λ (y : DatumHold). y.scope) x, fresh.slot ∙ (ap (λ (b : Bool). let y : Slot D = cond b (Waits u) Empty in y) e ∙ ap (λ (y : DatumHold). let z : Slot D = Waits y.unit in z) (sym x)))
          ]))),
        ))
    data_put false e =
        same_data es grown kept.places grown_places (λ j v.
        let here = at (λ (q : PlaceOf D). q.slot ≡ Waits v) j in (
          (λ h. elim (here.0 h) [ inl x ↦ x | inr x ↦ absurd (let t = (waits_if datum v (sym fresh.slot ∙ x.1)).0 in cc) ]),
          (λ h. here.1 (inl h)),
        ))

    edges_stay : (j : Scope) (m : ℕ) (t : Scope) → (EdgeAt grown j m t) ↔ (EdgeAt es j m t)
    edges_stay j m t =
        let here = at (λ (q : PlaceOf D). HasTarget q m t) j in (
          (λ h. elim (here.0 h) [ inl x ↦ x | inr x ↦ absurd (fresh.targets m t x.1) ]),
          (λ h. here.1 (inl h)),
        )

    pub grown_parts : (key : D → ℕ) (ps : List (Part × List Scope)) → AreParts key es ps → AreParts key grown ps
    grown_parts key ps parts = parts_after key es ps parts grown edges_stay (λ t d k. (at (λ (q : PlaceOf D). q.slot ≡ Given d) t).1 (inl k))

    pub scope_made : (rest : List Edge) → seen grown (slice_set made u (n + 1)) rest ≡ with_fresh (seen es made rest) u labels datum
    scope_made rest =
        rw (← next) (held_by (seen grown (slice_set made u (n + 1)) rest) (record {
          graph = record { scopes = put scope_cmp (map (λ q. q.0) es) made_scope; edges = (seen es made rest).graph.edges; given = (seen es made rest).graph.given };
          row_holds = fold (λ (ks : List RowHold) (l : ℕ). put row_hold_cmp ks (hold_of l)) (flat_map row_holds_at es) (labels_in labels);
          datum_holds = cond datum (put datum_hold_cmp (flat_map (λ q. datum_hold_of q.0 (q.1).slot) es) (a_datum_hold made_scope u)) (flat_map (λ q. datum_hold_of q.0 (q.1).slot) es);
          made = slice_set made u (n + 1);
          rest = rest;
        }) scopes_put
        (same_edges es grown kept.places grown_places edges_stay)
        (same_given es grown kept.places grown_places (λ j d.
        let here = at (λ (q : PlaceOf D). q.slot ≡ Given d) j in (
          (λ h. elim (here.0 h) [ inl x ↦ x | inr x ↦ absurd (given_if datum d (sym fresh.slot ∙ x.1)) ]),
          (λ h. here.1 (inl h)),
        )))
        holds_put (data_put datum refl) refl refl)

    pub grown_kept : (new : List (ℕ × List Scope)) → KeepsLists lists new → IsRising nat_cmp (map (λ q. q.0) new) → IsListed new u made_scope → IsKept grown (slice_set made u (n + 1)) new
    grown_kept new keeps lists_up listed = record {
      places = grown_places;
      lists_rise = lists_up;
      targets = λ s l t h. (keys t).1 (inl (kept.targets s l t (elim ((at (λ (q : PlaceOf D). HasTarget q l t) s).0 h) [ inl x ↦ x | inr x ↦ absurd (fresh.targets l t x.1) ])));
      row_listed = λ s l v h. elim ((at (λ (q : PlaceOf D). HasHolder q l v) s).0 h) [
        | inl x ↦ let k = kept.row_listed s l v x in (longer v k.0, keeps v s k.1)
        | inr x ↦ listed_at s v x.0 ((fresh.holders l v).0 x.1).2
      ];
      datum_listed = λ s v h. elim ((at (λ (q : PlaceOf D). q.slot ≡ Waits v) s).0 h) [
        | inl x ↦ let k = kept.datum_listed s v x in (longer v k.0, keeps v s k.1)
        | inr x ↦ listed_at s v x.0 (waits_if datum v (sym fresh.slot ∙ x.1)).1
      ];
      serials = λ s h below. elim ((keys s).0 h) [
        | inl k ↦ older s (kept.serials s k (shorter s.unit below))
        | inr e ↦ subst (λ (t : Scope). t.serial < slice_index (slice_set made u (n + 1)) t.unit) (sym e) newest
      ];
    }
      where
        longer : (v : ℕ) → v < length made → v < length (slice_set made u (n + 1))
        longer v k = omega (arith, k, length-set {A = ℕ})

        shorter : (v : ℕ) → v < length (slice_set made u (n + 1)) → v < length made
        shorter v k = omega (arith, k, length-set {A = ℕ})

        listed_at : (s : Scope) (v : ℕ) → s ≡ made_scope → v ≡ u → (v < length (slice_set made u (n + 1))) × IsListed new v s
        listed_at s v e f = rw (e, f) (longer u lt, listed)

        newest : n < slice_index (slice_set made u (n + 1)) u
        newest = let k : slice_index (slice_set made u (n + 1)) u ≡ n + 1 = get_or-set_same made u (n + 1) 0 lt in omega (arith, k)

        older : (s : Scope) → s.serial < slice_index made s.unit → s.serial < slice_index (slice_set made u (n + 1)) s.unit
        older s k =
            elim (cases_eq s.unit u) [
              | inl e ↦
                  let a : slice_index (slice_set made u (n + 1)) s.unit ≡ n + 1 = rw e (get_or-set_same made u (n + 1) 0 lt) in
                  let b : slice_index made s.unit ≡ slice_index made u = ap (slice_index made) e in
                  omega (arith, a, b, k, next)
              | inr m ↦ let a : slice_index (slice_set made u (n + 1)) s.unit ≡ slice_index made s.unit = get_or-set_other made u s.unit (n + 1) 0 m in omega (arith, a, k)
            ]
