-- What the scopes with their places say: which edges, holds and data there are, and that they are listed in rising order.
use Rattle.std.proofs.Common.{◌≡◌, ℕ, List, [], sym, ap, ◌∙◌, subst, map}
use Rattle.std.specs.List.{Contains, AllByRecursion, flat_map}
use Rattle.std.specs.Ordering.{nat_cmp, on, ordering_then}
use Rattle.std.specs.declared.cmp.Ordering.{Ordering}
use Rattle.std.specs.declared.cmp.Ordering.TheVariants.{Less, Equal}
use Rattle.sg_base.specs.declared.scope.Scope.{Scope}
use Rattle.sg_base.specs.Graph.{Edge, edge_cmp}
use Rattle.sg_base.specs.List.{IsRising}
use Rattle.sg_base.specs.Scope.{scope_cmp}
use Rattle.sg_base.proofs.Finite.{nothing_in, single, Contains-head, map-Contains, Contains-map, Contains-flat_map, flat_map-Contains, each_from, each_map}
use Rattle.sg_base.proofs.Scopes.{nat_itself, scope_itself}
use Rattle.sg_state.specs.declared.row.Row.{Row}
use Rattle.sg_state.specs.declared.slot.Slot.{Slot}
use Rattle.sg_state.specs.declared.slot.Slot.TheVariants.{Given, Waits, Empty}
use Rattle.sg_state.specs.Held.{RowHold, DatumHold, row_hold_cmp, datum_hold_cmp}
use Rattle.sg_state.specs.Place.{PlaceOf, IsPlace}
use Rattle.sg_state.specs.View.{edges_at, row_holds_at, given_of, datum_hold_of, ArePlaces, HasKey, EdgeAt, HoldAt, SlotAt}
use Rattle.sg_state.proofs.Keyed.{At}
use Rattle.sg_state.proofs.RisingLists.{rises_flat, rises_map}

-- what comes first decides
pub less_first : (a b : Ordering) → a ≡ Less → ordering_then a b ≡ Less
less_first a b e = ap (λ (o : Ordering). ordering_then o b) e

pub less_then : (a b : Ordering) → a ≡ Equal → b ≡ Less → ordering_then a b ≡ Less
less_then a b e f = ap (λ (o : Ordering). ordering_then o b) e ∙ f

-- ---- things of rows, by scope and label

module _ {X Y : Type 0} (part : Row → List Y) (make : Scope → ℕ → Y → X) where
  abbrev of_rows : Scope → List (ℕ × Row) → List X
  of_rows s rows = flat_map (λ r. map (make s r.0) (part r.1)) rows

  abbrev of_places : {D : Type 0} → List (Scope × PlaceOf D) → List X
  of_places es = flat_map (λ p. of_rows p.0 (p.1).rows) es

  abbrev HasPart : {D : Type 0} → PlaceOf D → ℕ → Y → Type 0
  HasPart p l y = At p.rows l (λ r. Contains (part r) y)

  in_rows : (s : Scope) (rows : List (ℕ × Row)) (x : X) → Contains (of_rows s rows) x → (l : ℕ) × (y : Y) × At rows l (λ r. Contains (part r) y) × (x ≡ make s l y)
  in_rows s rows x c =
      let r = Contains-flat_map (λ (r : ℕ × Row). map (make s r.0) (part r.1)) rows x c in
      let y = Contains-map (make s (r.0).0) (part (r.0).1) x r.2 in
      ((r.0).0, y.0, ((r.0).1, r.1, y.1), y.2)

  pub in_places : {D : Type 0} (es : List (Scope × PlaceOf D)) (x : X) → Contains (of_places es) x → (s : Scope) × (l : ℕ) × (y : Y) × At es s (λ p. HasPart p l y) × (x ≡ make s l y)
  in_places {D} es x c =
      let p = Contains-flat_map (λ (p : Scope × PlaceOf D). of_rows p.0 (p.1).rows) es x c in
      let r = in_rows (p.0).0 ((p.0).1).rows x p.2 in
      ((p.0).0, r.0, r.1, ((p.0).1, p.1, r.2), r.3)

  pub places_hold : {D : Type 0} (es : List (Scope × PlaceOf D)) (s : Scope) (l : ℕ) (y : Y) → At es s (λ p. HasPart p l y) → Contains (of_places es) (make s l y)
  places_hold {D} es s l y h =
      let r = h.2 in
      flat_map-Contains (λ (p : Scope × PlaceOf D). of_rows p.0 (p.1).rows) es (s, h.0) (make s l y) h.1
      (flat_map-Contains (λ (q : ℕ × Row). map (make s q.0) (part q.1)) (h.0).rows (l, r.0) (make s l y) r.1 (map-Contains (make s l) (part r.0) y r.2))

  module _ (C : Y → Y → Ordering) (R : X → X → Ordering) (by_scope : (s t : Scope) (l m : ℕ) (x y : Y) → scope_cmp s t ≡ Less → R (make s l x) (make t m y) ≡ Less) (by_label : (s : Scope) (l m : ℕ) (x y : Y) → nat_cmp l m ≡ Less → R (make s l x) (make s m y) ≡ Less) (by_last : (s : Scope) (l : ℕ) (x y : Y) → C x y ≡ Less → R (make s l x) (make s l y) ≡ Less) where
    rows_rise : (s : Scope) (rows : List (ℕ × Row)) → IsRising nat_cmp (map (λ r. r.0) rows) → AllByRecursion (λ r. IsRising C (part r.1)) rows → IsRising R (of_rows s rows)
    rows_rise s rows up parts =
        rises_flat nat_cmp R (λ (r : ℕ × Row). map (make s r.0) (part r.1)) rows up
        (each_map (λ r. IsRising C (part r.1)) (λ r. IsRising R (map (make s r.0) (part r.1))) (λ r k. rises_map C R (make s r.0) (by_last s r.0) (part r.1) k) rows parts)
        (λ p q x y c d less.
        let a = Contains-map (make s p.0) (part p.1) x c in
        let b = Contains-map (make s q.0) (part q.1) y d in
        rw (a.2, b.2) (by_label s p.0 q.0 a.0 b.0 less))

    pub places_rise : {D : Type 0} (es : List (Scope × PlaceOf D)) → IsRising scope_cmp (map (λ p. p.0) es) → AllByRecursion (λ p. IsRising nat_cmp (map (λ r. r.0) (p.1).rows) × AllByRecursion (λ r. IsRising C (part r.1)) (p.1).rows) es → IsRising R (of_places es)
    places_rise {D} es up each =
        rises_flat scope_cmp R (λ (p : Scope × PlaceOf D). of_rows p.0 (p.1).rows) es up
        (each_map (λ p. IsRising nat_cmp (map (λ r. r.0) (p.1).rows) × AllByRecursion (λ r. IsRising C (part r.1)) (p.1).rows) (λ p. IsRising R (of_rows p.0 (p.1).rows)) (λ p k. rows_rise p.0 (p.1).rows k.0 k.1) es each)
        (λ p q x y c d less.
        let a = in_rows p.0 (p.1).rows x c in
        let b = in_rows q.0 (q.1).rows y d in
        rw (a.3, b.3) (by_scope p.0 q.0 a.0 b.0 a.1 b.1 less))

abbrev pub an_edge : Scope → ℕ → Scope → Edge
an_edge s l t = record { from = s; label = l; to = t }

abbrev pub a_row_hold : Scope → ℕ → ℕ → RowHold
a_row_hold s l u = record { scope = s; label = l; unit = u }

abbrev pub a_datum_hold : Scope → ℕ → DatumHold
a_datum_hold s u = record { scope = s; unit = u }

module _ {D : Type 0} (es : List (Scope × PlaceOf D)) where
  -- ---- membership
  pub edge_from : (s : Scope) (l : ℕ) (t : Scope) → Contains (flat_map edges_at es) (an_edge s l t) → EdgeAt es s l t
  edge_from s l t c =
      let h = in_places (λ r. r.targets) an_edge es (an_edge s l t) c in
      subst (λ (x : Edge). EdgeAt es x.from x.label x.to) (sym h.4) h.3

  pub edge_to : (s : Scope) (l : ℕ) (t : Scope) → EdgeAt es s l t → Contains (flat_map edges_at es) (an_edge s l t)
  edge_to s l t h = places_hold (λ r. r.targets) an_edge es s l t h

  pub hold_from : (s : Scope) (l u : ℕ) → Contains (flat_map row_holds_at es) (a_row_hold s l u) → HoldAt es s l u
  hold_from s l u c =
      let h = in_places (λ r. r.holders) a_row_hold es (a_row_hold s l u) c in
      subst (λ (x : RowHold). HoldAt es x.scope x.label x.unit) (sym h.4) h.3

  pub hold_to : (s : Scope) (l u : ℕ) → HoldAt es s l u → Contains (flat_map row_holds_at es) (a_row_hold s l u)
  hold_to s l u h = places_hold (λ r. r.holders) a_row_hold es s l u h

  given_in : (s : Scope) (x : Slot D) (q : Scope × D) → Contains (given_of s x) q → (s ≡ q.0) × (x ≡ Given q.1)
  given_in s (Given d) q c = let e = single (s, d) q c in (ap (λ (z : Scope × D). z.0) (sym e), ap (λ (z : Scope × D). Given z.1) (sym e))
  given_in s (Waits u) q c = absurd (nothing_in q c)
  given_in s Empty q c = absurd (nothing_in q c)

  pub given_key : (s : Scope) (x : Slot D) (q : Scope × D) → Contains (given_of s x) q → q.0 ≡ s
  given_key s x q c = sym (given_in s x q c).0

  pub given_from : (s : Scope) (d : D) → Contains (flat_map (λ p. given_of p.0 (p.1).slot) es) (s, d) → SlotAt es s (Given d)
  given_from s d c =
      let h = Contains-flat_map (λ (p : Scope × PlaceOf D). given_of p.0 (p.1).slot) es (s, d) c in
      let k = given_in (h.0).0 ((h.0).1).slot (s, d) h.2 in
      ((h.0).1, subst (λ (x : Scope). Contains es (x, (h.0).1)) k.0 h.1, k.1)

  pub given_to : (s : Scope) (d : D) → SlotAt es s (Given d) → Contains (flat_map (λ p. given_of p.0 (p.1).slot) es) (s, d)
  given_to s d h =
      flat_map-Contains (λ (p : Scope × PlaceOf D). given_of p.0 (p.1).slot) es (s, h.0) (s, d) h.1
      (subst (λ (x : Slot D). Contains (given_of s x) (s, d)) (sym h.2) (let q : Scope × D = (s, d) in Contains-head q []))

  held_in : (s : Scope) (x : Slot D) (k : DatumHold) → Contains (datum_hold_of s x) k → (s ≡ k.scope) × (x ≡ Waits k.unit)
  held_in s (Given d) k c = absurd (nothing_in k c)
  held_in s (Waits u) k c = let e = single (a_datum_hold s u) k c in (ap (λ (z : DatumHold). z.scope) (sym e), ap (λ (z : DatumHold). let w : Slot D = Waits z.unit in w) (sym e))
  held_in s Empty k c = absurd (nothing_in k c)

  pub waits_from : (s : Scope) (u : ℕ) → Contains (flat_map (λ p. datum_hold_of p.0 (p.1).slot) es) (a_datum_hold s u) → SlotAt es s (Waits u)
  waits_from s u c =
      let h = Contains-flat_map (λ (p : Scope × PlaceOf D). datum_hold_of p.0 (p.1).slot) es (a_datum_hold s u) c in
      let k = held_in (h.0).0 ((h.0).1).slot (a_datum_hold s u) h.2 in
      ((h.0).1, subst (λ (x : Scope). Contains es (x, (h.0).1)) k.0 h.1, k.1)

  pub waits_to : (s : Scope) (u : ℕ) → SlotAt es s (Waits u) → Contains (flat_map (λ p. datum_hold_of p.0 (p.1).slot) es) (a_datum_hold s u)
  waits_to s u h =
      flat_map-Contains (λ (p : Scope × PlaceOf D). datum_hold_of p.0 (p.1).slot) es (s, h.0) (a_datum_hold s u) h.1
      (subst (λ (x : Slot D). Contains (datum_hold_of s x) (a_datum_hold s u)) (sym h.2) (Contains-head (a_datum_hold s u) []))

  pub key_from : (s : Scope) → Contains (map (λ p. p.0) es) s → HasKey es s
  key_from s c =
      let h = Contains-map (λ (p : Scope × PlaceOf D). p.0) es s c in
      ((h.0).1, subst (λ (x : Scope). Contains es (x, (h.0).1)) (sym h.2) h.1)

  pub key_to : (s : Scope) → HasKey es s → Contains (map (λ p. p.0) es) s
  key_to s h = map-Contains (λ (p : Scope × PlaceOf D). p.0) es (s, h.0) h.1

  -- ---- rising order
  module _ (ok : ArePlaces es) where
    pub edges_rise : IsRising edge_cmp (flat_map edges_at es)
    edges_rise =
        places_rise (λ r. r.targets) an_edge scope_cmp edge_cmp
        (λ s t l m x y e. less_first (scope_cmp s t) (ordering_then (nat_cmp l m) (scope_cmp x y)) e)
        (λ s l m x y e. less_then (scope_cmp s s) (ordering_then (nat_cmp l m) (scope_cmp x y)) (scope_itself s) (less_first (nat_cmp l m) (scope_cmp x y) e))
        (λ s l x y e. less_then (scope_cmp s s) (ordering_then (nat_cmp l l) (scope_cmp x y)) (scope_itself s) (less_then (nat_cmp l l) (scope_cmp x y) (nat_itself l) e))
        es ok.keys_rise (each_map (λ p. IsPlace p.1) (λ p. IsRising nat_cmp (map (λ r. r.0) (p.1).rows) × AllByRecursion (λ r. IsRising scope_cmp (r.1).targets) (p.1).rows) (λ p k. (k.labels_rise, k.targets_rise)) es ok.each)

    pub holds_rise : IsRising row_hold_cmp (flat_map row_holds_at es)
    holds_rise =
        places_rise (λ r. r.holders) a_row_hold nat_cmp row_hold_cmp
        (λ s t l m x y e. less_first (scope_cmp s t) (ordering_then (nat_cmp l m) (nat_cmp x y)) e)
        (λ s l m x y e. less_then (scope_cmp s s) (ordering_then (nat_cmp l m) (nat_cmp x y)) (scope_itself s) (less_first (nat_cmp l m) (nat_cmp x y) e))
        (λ s l x y e. less_then (scope_cmp s s) (ordering_then (nat_cmp l l) (nat_cmp x y)) (scope_itself s) (less_then (nat_cmp l l) (nat_cmp x y) (nat_itself l) e))
        es ok.keys_rise (each_map (λ p. IsPlace p.1) (λ p. IsRising nat_cmp (map (λ r. r.0) (p.1).rows) × AllByRecursion (λ r. IsRising nat_cmp (r.1).holders) (p.1).rows) (λ p k. (k.labels_rise, k.holders_rise)) es ok.each)

    given_alone : (s : Scope) (x : Slot D) → IsRising (on (λ p. p.0) scope_cmp) (given_of s x)
    given_alone s (Given d) = (tt, tt)
    given_alone s (Waits u) = tt
    given_alone s Empty = tt

    pub given_rise : IsRising (on (λ p. p.0) scope_cmp) (flat_map (λ p. given_of p.0 (p.1).slot) es)
    given_rise =
        rises_flat scope_cmp (on (λ p. p.0) scope_cmp) (λ (p : Scope × PlaceOf D). given_of p.0 (p.1).slot) es ok.keys_rise (each_from (λ p. IsRising (on (λ q. q.0) scope_cmp) (given_of p.0 (p.1).slot)) es (λ p c. given_alone p.0 (p.1).slot))
        (λ p q x y c d less.
        let a = given_in p.0 (p.1).slot x c in
        let b = given_in q.0 (q.1).slot y d in
        subst (λ (s : Scope). scope_cmp s y.0 ≡ Less) a.0 (subst (λ (s : Scope). scope_cmp p.0 s ≡ Less) b.0 less))

    held_alone : (s : Scope) (x : Slot D) → IsRising datum_hold_cmp (datum_hold_of s x)
    held_alone s (Given d) = tt
    held_alone s (Waits u) = (tt, tt)
    held_alone s Empty = tt

    pub data_rise : IsRising datum_hold_cmp (flat_map (λ p. datum_hold_of p.0 (p.1).slot) es)
    data_rise =
        rises_flat scope_cmp datum_hold_cmp (λ (p : Scope × PlaceOf D). datum_hold_of p.0 (p.1).slot) es ok.keys_rise (each_from (λ p. IsRising datum_hold_cmp (datum_hold_of p.0 (p.1).slot)) es (λ p c. held_alone p.0 (p.1).slot))
        (λ p q x y c d less.
        let a = held_in p.0 (p.1).slot x c in
        let b = held_in q.0 (q.1).slot y d in
        less_first (scope_cmp x.scope y.scope) (nat_cmp x.unit y.unit) (subst (λ (s : Scope). scope_cmp s y.scope ≡ Less) a.0 (subst (λ (s : Scope). scope_cmp p.0 s ≡ Less) b.0 less)))
