-- What a change at one scope does to the graph and the holds that the scopes say.
use Rattle.std.proofs.Common.{◌≡◌, ℕ, List, ◌⊎◌, ◌↔◌, Bool, true, not, ◌&&◌, eqb, cond, inl, inr, refl, sym, ap, ◌∙◌, subst, map, Some}
use Rattle.std.proofs.lemmas.Map.{keys-set_value}
use Rattle.std.specs.BTreeMap.{is_at}
use Rattle.std.specs.Cmp.{on_total}
use Rattle.std.specs.List.{Contains, filter, flat_map}
use Rattle.std.specs.Map.{lookup, set_value}
use Rattle.std.specs.Ordering.{on}
use Rattle.sg_base.specs.declared.scope.Scope.{Scope}
use Rattle.sg_base.specs.Graph.{Edge, edge_cmp, edge_total}
use Rattle.sg_base.specs.Scope.{scope_cmp, scope_total, is_scope}
use Rattle.sg_base.proofs.Rising.{rising_one}
use Rattle.sg_base.proofs.Scopes.{edge_by, equal_scope, scope_same, same_scope, number_same, number_itself, both_true}
use Rattle.sg_state.specs.declared.part.Part.{Part}
use Rattle.sg_state.specs.declared.slot.Slot.{Slot}
use Rattle.sg_state.specs.declared.slot.Slot.TheVariants.{Given, Waits}
use Rattle.sg_state.specs.Held.{RowHold, DatumHold, row_hold_cmp, row_hold_total, datum_hold_cmp, datum_hold_total, put, is_given, with_edge, with_datum, without_row, is_row_hold, is_datum_hold}
use Rattle.sg_state.specs.Part.{AddsIn, IsPartOf, AreParts}
use Rattle.sg_state.specs.Place.{PlaceOf, HasTarget, HasHolder, AddsTarget, LosesHolder}
use Rattle.sg_state.specs.View.{ArePlaces, IsKept, ChangesPlace, HasKey, EdgeAt, HoldAt, SlotAt, edges_at, row_holds_at, given_of, datum_hold_of, seen}
use Rattle.sg_state.proofs.Changing.{changed_places}
use Rattle.sg_state.proofs.Equals.{held_by, equal_edge, not_of, of_not}
use Rattle.sg_state.proofs.InParts.{parts_after, parts_more}
use Rattle.sg_state.proofs.Keeping.{kept_after}
use Rattle.sg_state.proofs.Keyed.{found-Contains, at_adds, at_changes, at_keeps, at_set_from, at_here}
use Rattle.sg_state.proofs.RisingLists.{is_put, is_filter}
use Rattle.sg_state.proofs.Views.{an_edge, a_row_hold, a_datum_hold, edge_from, edge_to, hold_from, hold_to, given_from, given_to, waits_from, waits_to, edges_rise, holds_rise, given_rise, data_rise}

-- ---- tests

pub is_the_row_hold : (u : ℕ) (s : Scope) (l : ℕ) (k : RowHold) → is_row_hold u s l k ≡ true → (k.unit ≡ u) × ((k.scope ≡ s) × (k.label ≡ l))
is_the_row_hold u s l k h =
    let a = both_true (eqb k.unit u) (is_scope k.scope s && eqb k.label l) h in
    let b = both_true (is_scope k.scope s) (eqb k.label l) a.1 in
    (number_same k.unit u a.0, (scope_same k.scope s b.0, number_same k.label l b.1))

pub the_row_hold_is : (u : ℕ) (s : Scope) (l : ℕ) (k : RowHold) → k.unit ≡ u → k.scope ≡ s → k.label ≡ l → is_row_hold u s l k ≡ true
the_row_hold_is u s l k a b c =
    let x : eqb k.unit u ≡ true = subst (λ (n : ℕ). eqb k.unit n ≡ true) a (number_itself k.unit) in
    let y : is_scope k.scope s ≡ true = same_scope k.scope s b in
    let z : eqb k.label l ≡ true = subst (λ (n : ℕ). eqb k.label n ≡ true) c (number_itself k.label) in
    ap (λ (t : Bool). t && (is_scope k.scope s && eqb k.label l)) x ∙ (ap (λ (t : Bool). t && eqb k.label l) y ∙ z)

pub is_the_datum_hold : (u : ℕ) (s : Scope) (k : DatumHold) → is_datum_hold u s k ≡ true → (k.unit ≡ u) × (k.scope ≡ s)
is_the_datum_hold u s k h =
    let a = both_true (eqb k.unit u) (is_scope k.scope s) h in
    (number_same k.unit u a.0, scope_same k.scope s a.1)

pub the_datum_hold_is : (u : ℕ) (s : Scope) (k : DatumHold) → k.unit ≡ u → k.scope ≡ s → is_datum_hold u s k ≡ true
the_datum_hold_is u s k a b =
    let x : eqb k.unit u ≡ true = subst (λ (n : ℕ). eqb k.unit n ≡ true) a (number_itself k.unit) in
    ap (λ (t : Bool). t && is_scope k.scope s) x ∙ same_scope k.scope s b

-- ---- lists that say the same

module _ {D : Type 0} (es new : List (Scope × PlaceOf D)) (ok : ArePlaces es) (after : ArePlaces new) where
  pub same_edges : ((s : Scope) (l : ℕ) (t : Scope) → (EdgeAt new s l t) ↔ (EdgeAt es s l t)) → flat_map edges_at new ≡ flat_map edges_at es
  same_edges same =
      rising_one edge_cmp edge_total (flat_map edges_at new) (flat_map edges_at es) (edges_rise new after) (edges_rise es ok) (λ e. (
        (λ c. edge_to es e.from e.label e.to ((same e.from e.label e.to).0 (edge_from new e.from e.label e.to c))),
        (λ c. edge_to new e.from e.label e.to ((same e.from e.label e.to).1 (edge_from es e.from e.label e.to c))),
      ))

  pub same_holds : ((s : Scope) (l u : ℕ) → (HoldAt new s l u) ↔ (HoldAt es s l u)) → flat_map row_holds_at new ≡ flat_map row_holds_at es
  same_holds same =
      rising_one row_hold_cmp row_hold_total (flat_map row_holds_at new) (flat_map row_holds_at es) (holds_rise new after) (holds_rise es ok) (λ k. (
        (λ c. hold_to es k.scope k.label k.unit ((same k.scope k.label k.unit).0 (hold_from new k.scope k.label k.unit c))),
        (λ c. hold_to new k.scope k.label k.unit ((same k.scope k.label k.unit).1 (hold_from es k.scope k.label k.unit c))),
      ))

  pub same_given : ((s : Scope) (d : D) → (SlotAt new s (Given d)) ↔ (SlotAt es s (Given d))) → flat_map (λ p. given_of p.0 (p.1).slot) new ≡ flat_map (λ p. given_of p.0 (p.1).slot) es
  same_given same =
      rising_one (on (λ p. p.0) scope_cmp) (on_total (λ p. p.0) scope_total) (flat_map (λ p. given_of p.0 (p.1).slot) new) (flat_map (λ p. given_of p.0 (p.1).slot) es) (given_rise new after) (given_rise es ok) (λ q. (
        (λ c. given_to es q.0 q.1 ((same q.0 q.1).0 (given_from new q.0 q.1 c))),
        (λ c. given_to new q.0 q.1 ((same q.0 q.1).1 (given_from es q.0 q.1 c))),
      ))

  pub same_data : ((s : Scope) (u : ℕ) → (SlotAt new s (Waits u)) ↔ (SlotAt es s (Waits u))) → flat_map (λ p. datum_hold_of p.0 (p.1).slot) new ≡ flat_map (λ p. datum_hold_of p.0 (p.1).slot) es
  same_data same =
      rising_one datum_hold_cmp datum_hold_total (flat_map (λ p. datum_hold_of p.0 (p.1).slot) new) (flat_map (λ p. datum_hold_of p.0 (p.1).slot) es) (data_rise new after) (data_rise es ok) (λ k. (
        (λ c. waits_to es k.scope k.unit ((same k.scope k.unit).0 (waits_from new k.scope k.unit c))),
        (λ c. waits_to new k.scope k.unit ((same k.scope k.unit).1 (waits_from es k.scope k.unit c))),
      ))

  pub more_edges : (s : Scope) (l : ℕ) (t : Scope) → ((j : Scope) (m : ℕ) (x : Scope) → (EdgeAt new j m x) ↔ (EdgeAt es j m x ⊎ ((j ≡ s) × ((m ≡ l) × (x ≡ t))))) → flat_map edges_at new ≡ put edge_cmp (flat_map edges_at es) (an_edge s l t)
  more_edges s l t more =
      is_put edge_cmp edge_total (flat_map edges_at es) (flat_map edges_at new) (an_edge s l t) (λ y k. equal_edge (an_edge s l t) y) (edges_rise es ok) (edges_rise new after) (λ e. (
        (λ c. elim ((more e.from e.label e.to).0 (edge_from new e.from e.label e.to c)) [
          | inl h ↦ inl (edge_to es e.from e.label e.to h)
          | inr h ↦ inr (edge_by e (an_edge s l t) h.0 (h.1).0 (h.1).1)
        ]),
        (λ h. edge_to new e.from e.label e.to ((more e.from e.label e.to).1 (elim h [
          | inl c ↦ inl (edge_from es e.from e.label e.to c)
          | inr x ↦ inr (ap (λ (y : Edge). y.from) x, (ap (λ (y : Edge). y.label) x, ap (λ (y : Edge). y.to) x))
        ]))),
      ))

  pub less_holds : (test : RowHold → Bool) → ((j : Scope) (m v : ℕ) → (HoldAt new j m v) ↔ ((test (a_row_hold j m v) ≡ true) × HoldAt es j m v)) → flat_map row_holds_at new ≡ filter test (flat_map row_holds_at es)
  less_holds test less =
      is_filter row_hold_cmp row_hold_total test (flat_map row_holds_at es) (flat_map row_holds_at new) (holds_rise es ok) (holds_rise new after) (λ k. (
        (λ c. let h = (less k.scope k.label k.unit).0 (hold_from new k.scope k.label k.unit c) in (hold_to es k.scope k.label k.unit h.1, h.0)),
        (λ h. hold_to new k.scope k.label k.unit ((less k.scope k.label k.unit).1 (h.1, hold_from es k.scope k.label k.unit h.0))),
      ))

  pub less_data : (test : DatumHold → Bool) → ((j : Scope) (v : ℕ) → (SlotAt new j (Waits v)) ↔ ((test (a_datum_hold j v) ≡ true) × SlotAt es j (Waits v))) → flat_map (λ p. datum_hold_of p.0 (p.1).slot) new ≡ filter test (flat_map (λ p. datum_hold_of p.0 (p.1).slot) es)
  less_data test less =
      is_filter datum_hold_cmp datum_hold_total test (flat_map (λ p. datum_hold_of p.0 (p.1).slot) es) (flat_map (λ p. datum_hold_of p.0 (p.1).slot) new) (data_rise es ok) (data_rise new after) (λ k. (
        (λ c. let h = (less k.scope k.unit).0 (waits_from new k.scope k.unit c) in (waits_to es k.scope k.unit h.1, h.0)),
        (λ h. waits_to new k.scope k.unit ((less k.scope k.unit).1 (h.1, waits_from es k.scope k.unit h.0))),
      ))

  pub more_given : (s : Scope) (d : D) → ((e : D) → SlotAt es s (Given e) → ⊥) → ((j : Scope) (e : D) → (SlotAt new j (Given e)) ↔ (SlotAt es j (Given e) ⊎ ((j ≡ s) × (e ≡ d)))) → flat_map (λ p. given_of p.0 (p.1).slot) new ≡ put (on (λ p. p.0) scope_cmp) (flat_map (λ p. given_of p.0 (p.1).slot) es) (s, d)
  more_given s d none more =
      is_put (on (λ p. p.0) scope_cmp) (on_total (λ p. p.0) scope_total) (flat_map (λ p. given_of p.0 (p.1).slot) es) (flat_map (λ p. given_of p.0 (p.1).slot) new) (s, d)
      (λ y k e. absurd (none y.1 (subst (λ (x : Scope). SlotAt es x (Given y.1)) (sym (equal_scope s y.0 e)) (given_from es y.0 y.1 k))))
      (given_rise es ok) (given_rise new after) (λ q. (
        (λ c. elim ((more q.0 q.1).0 (given_from new q.0 q.1 c)) [
          | inl h ↦ inl (given_to es q.0 q.1 h)
          | inr h ↦ inr (ap (λ (x : Scope). let z : Scope × D = (x, q.1) in z) h.0 ∙ ap (λ (x : D). let z : Scope × D = (s, x) in z) h.1)
        ]),
        (λ h. given_to new q.0 q.1 ((more q.0 q.1).1 (elim h [
          | inl c ↦ inl (given_from es q.0 q.1 c)
          | inr x ↦ inr (ap (λ (z : Scope × D). z.0) x, ap (λ (z : Scope × D). z.1) x)
        ]))),
      ))

-- ---- a change at one scope

module _ {D : Type 0} (es new : List (Scope × PlaceOf D)) (made : List ℕ) (s : Scope) (ok : ArePlaces es) where
  same_slot : (p q : PlaceOf D) (x : Slot D) → q.slot ≡ p.slot → (q.slot ≡ x) ↔ (p.slot ≡ x)
  same_slot p q x e = ((λ h. sym e ∙ h), (λ h. e ∙ h))

  module _ (p q : PlaceOf D) (here : lookup (is_at (scope_cmp s)) es ≡ Some p) (to : new ≡ set_value (is_at (scope_cmp s)) es q) where
    there : Contains es (s, p)
    there = found-Contains scope_cmp scope_total equal_scope es s p here

    pub keys_stay : map (λ r. r.0) new ≡ map (λ r. r.0) es
    keys_stay = ap (λ (xs : List (Scope × PlaceOf D)). map (λ r. r.0) xs) to ∙ keys-set_value (is_at (scope_cmp s)) es q

    pub keeps_edges : ((m : ℕ) (t : Scope) → (HasTarget q m t) ↔ (HasTarget p m t)) → (j : Scope) (m : ℕ) (t : Scope) → (EdgeAt new j m t) ↔ (EdgeAt es j m t)
    keeps_edges same j m t = rw to (at_keeps scope_cmp scope_total equal_scope es ok.keys_rise s p q there (λ (x : PlaceOf D). HasTarget x m t) (same m t) j)

    pub keeps_holds : ((m u : ℕ) → (HasHolder q m u) ↔ (HasHolder p m u)) → (j : Scope) (m u : ℕ) → (HoldAt new j m u) ↔ (HoldAt es j m u)
    keeps_holds same j m u = rw to (at_keeps scope_cmp scope_total equal_scope es ok.keys_rise s p q there (λ (x : PlaceOf D). HasHolder x m u) (same m u) j)

    pub keeps_slots : q.slot ≡ p.slot → (j : Scope) (x : Slot D) → (SlotAt new j x) ↔ (SlotAt es j x)
    keeps_slots e j x = rw to (at_keeps scope_cmp scope_total equal_scope es ok.keys_rise s p q there (λ (y : PlaceOf D). y.slot ≡ x) (same_slot p q x e) j)

  edge_adds : (l : ℕ) (t : Scope) → ChangesPlace (λ p q. AddsTarget p q l t) es new s → (j : Scope) (m : ℕ) (x : Scope) → (EdgeAt new j m x) ↔ (EdgeAt es j m x ⊎ ((j ≡ s) × ((m ≡ l) × (x ≡ t))))
  edge_adds l t h j m x = rw h.3 (at_adds scope_cmp scope_total equal_scope es ok.keys_rise s h.0 h.1 (there h.0 h.1 h.2 h.3) (λ (y : PlaceOf D). HasTarget y m x) ((m ≡ l) × (x ≡ t)) ((h.4).targets m x) j)

  pub edge_written : (l : ℕ) (t : Scope) → ChangesPlace (λ p q. AddsTarget p q l t) es new s → (rest more : List Edge) → more ≡ cond (is_given (seen es made rest).graph t) rest (put edge_cmp rest (an_edge s l t)) → seen new made more ≡ with_edge (seen es made rest) (an_edge s l t)
  edge_written l t h rest more e =
      let after = changed_places es s ok (λ p q. AddsTarget p q l t) new h in
      held_by (seen new made more) (with_edge (seen es made rest) (an_edge s l t)) (keys_stay h.0 h.1 h.2 h.3)
      (more_edges es new ok after s l t (edge_adds l t h))
      (same_given es new ok after (λ j d. keeps_slots h.0 h.1 h.2 h.3 (h.4).slot j (Given d)))
      (same_holds es new ok after (keeps_holds h.0 h.1 h.2 h.3 (h.4).holders))
      (same_data es new ok after (λ j u. keeps_slots h.0 h.1 h.2 h.3 (h.4).slot j (Waits u)))
      refl
      e

  pub row_closed : (rest : List Edge) (l u : ℕ) → ChangesPlace (λ p q. LosesHolder p q l u) es new s → seen new made rest ≡ without_row (seen es made rest) u s l
  row_closed rest l u h =
      let after = changed_places es s ok (λ p q. LosesHolder p q l u) new h in
      held_by (seen new made rest) (without_row (seen es made rest) u s l) (keys_stay h.0 h.1 h.2 h.3)
      (same_edges es new ok after (keeps_edges h.0 h.1 h.2 h.3 (h.4).targets))
      (same_given es new ok after (λ j d. keeps_slots h.0 h.1 h.2 h.3 (h.4).slot j (Given d)))
      (less_holds es new ok after (λ k. not (is_row_hold u s l k)) (λ j m v.
      let change = at_changes scope_cmp scope_total equal_scope es ok.keys_rise s h.0 h.1 (there h.0 h.1 h.2 h.3) (λ (y : PlaceOf D). HasHolder y m v) (λ (i : Scope). (i ≡ s) × ((m ≡ l) × (v ≡ u)) → ⊥)
      ((λ a. let b = ((h.4).holders m v).0 a in ((λ e. b.0 e.1), b.1)), (λ a. ((h.4).holders m v).1 ((λ e. a.0 (refl, e)), a.1))) (λ i n e. n e.0) j in
      rw h.3 (
        (λ a. let b = change.0 a in (of_not (is_row_hold u s l (a_row_hold j m v)) (λ t. let e = is_the_row_hold u s l (a_row_hold j m v) t in b.0 ((e.1).0, ((e.1).1, e.0))), b.1)),
        (λ a. change.1 ((λ e. not_of (is_row_hold u s l (a_row_hold j m v)) a.0 (the_row_hold_is u s l (a_row_hold j m v) (e.1).1 e.0 (e.1).0)), a.1)),
      )))
      (same_data es new ok after (λ j u. keeps_slots h.0 h.1 h.2 h.3 (h.4).slot j (Waits u)))
      refl
      refl

  given_adds : (u : ℕ) (d : D) → SlotAt es s (Waits u) → ChangesPlace (λ p q. q ≡ record { rows = p.rows; slot = Given d }) es new s → (j : Scope) (e : D) → (SlotAt new j (Given e)) ↔ (SlotAt es j (Given e) ⊎ ((j ≡ s) × (e ≡ d)))
  given_adds u d held h j e =
      let at = there h.0 h.1 h.2 h.3 in
      let was : (h.0).slot ≡ Waits u = at_here scope_cmp scope_total equal_scope es ok.keys_rise s h.0 h.1 at (λ (y : PlaceOf D). y.slot ≡ Waits u) held in
      let now : (h.1).slot ≡ Given d = ap (λ (y : PlaceOf D). y.slot) h.4 in
      rw h.3 (at_adds scope_cmp scope_total equal_scope es ok.keys_rise s h.0 h.1 at (λ (y : PlaceOf D). y.slot ≡ Given e) (e ≡ d)
      ((λ g. inr (given_one e d (sym g ∙ now))), (λ a. elim a [ inl g ↦ absurd (cc) | inr x ↦ now ∙ ap (λ (z : D). Given z) (sym x) ])) j)
    where
      given_one : (a b : D) → Given a ≡ Given b → a ≡ b
      given_one a b e = cc

  pub datum_written : (rest : List Edge) (u : ℕ) (d : D) → SlotAt es s (Waits u) → ChangesPlace (λ p q. q ≡ record { rows = p.rows; slot = Given d }) es new s → seen new made rest ≡ with_datum (seen es made rest) u s d
  datum_written rest u d held h =
      let after = changed_places es s ok (λ p q. q ≡ record { rows = p.rows; slot = Given d }) new h in
      let at = there h.0 h.1 h.2 h.3 in
      let was : (h.0).slot ≡ Waits u = at_here scope_cmp scope_total equal_scope es ok.keys_rise s h.0 h.1 at (λ (y : PlaceOf D). y.slot ≡ Waits u) held in
      let now : (h.1).slot ≡ Given d = ap (λ (y : PlaceOf D). y.slot) h.4 in
      let rows : (h.1).rows ≡ (h.0).rows = ap (λ (y : PlaceOf D). y.rows) h.4 in
      held_by (seen new made rest) (with_datum (seen es made rest) u s d) (keys_stay h.0 h.1 h.2 h.3)
      (same_edges es new ok after (keeps_edges h.0 h.1 h.2 h.3 (λ m t. rw rows ((λ a. a), (λ a. a)))))
      (more_given es new ok after s d
      (λ e k. (let g : (h.0).slot ≡ Given e = at_here scope_cmp scope_total equal_scope es ok.keys_rise s h.0 h.1 at (λ (y : PlaceOf D). y.slot ≡ Given e) k in cc))
      (given_adds u d held h))
      (same_holds es new ok after (keeps_holds h.0 h.1 h.2 h.3 (λ m v. rw rows ((λ a. a), (λ a. a)))))
      (less_data es new ok after (λ k. not (is_datum_hold u s k)) (λ j v.
      let change = at_changes scope_cmp scope_total equal_scope es ok.keys_rise s h.0 h.1 at (λ (y : PlaceOf D). y.slot ≡ Waits v) (λ (i : Scope). (i ≡ s) × (v ≡ u) → ⊥)
      ((λ a. absurd (cc)), (λ a. absurd (a.0 (refl, waits_one {D = D} v u (sym a.1 ∙ was))))) (λ i n e. n e.0) j in
      rw h.3 (
        (λ a. let b = change.0 a in (of_not (is_datum_hold u s (a_datum_hold j v)) (λ t. let e = is_the_datum_hold u s (a_datum_hold j v) t in b.0 (e.1, e.0)), b.1)),
        (λ a. change.1 ((λ e. not_of (is_datum_hold u s (a_datum_hold j v)) a.0 (the_datum_hold_is u s (a_datum_hold j v) e.1 e.0)), a.1)),
      )))
      refl
      refl
    where
      waits_one : {D : Type 0} (a b : ℕ) → (let x : Slot D = Waits a in x) ≡ Waits b → a ≡ b
      waits_one {D} a b e = cc

  -- ---- what is known stays so
  module _ (lists : List (ℕ × List Scope)) (kept : IsKept es made lists) where
    pub edge_kept : (l : ℕ) (t : Scope) → HasKey es t → ChangesPlace (λ p q. AddsTarget p q l t) es new s → IsKept new made lists
    edge_kept l t to h =
        kept_after es made lists kept new (changed_places es s ok (λ p q. AddsTarget p q l t) new h) (keys_stay h.0 h.1 h.2 h.3)
        (λ j m x a. elim ((at_adds scope_cmp scope_total equal_scope es ok.keys_rise s h.0 h.1 (there h.0 h.1 h.2 h.3) (λ (y : PlaceOf D). HasTarget y m x) ((m ≡ l) × (x ≡ t)) ((h.4).targets m x) j).0 (subst (λ (xs : List (Scope × PlaceOf D)). EdgeAt xs j m x) h.3 a)) [
          | inl e ↦ inl e
          | inr e ↦ inr (subst (HasKey es) (sym (e.1).1) to)
        ])
        (λ j m u a. (keeps_holds h.0 h.1 h.2 h.3 (h.4).holders j m u).0 a)
        (λ j u a. (keeps_slots h.0 h.1 h.2 h.3 (h.4).slot j (Waits u)).0 a)

    pub close_kept : (l u : ℕ) → ChangesPlace (λ p q. LosesHolder p q l u) es new s → IsKept new made lists
    close_kept l u h =
        kept_after es made lists kept new (changed_places es s ok (λ p q. LosesHolder p q l u) new h) (keys_stay h.0 h.1 h.2 h.3)
        (λ j m x a. inl ((keeps_edges h.0 h.1 h.2 h.3 (h.4).targets j m x).0 a))
        (λ j m v a. elim (at_set_from scope_cmp scope_total equal_scope es ok.keys_rise s h.0 h.1 (there h.0 h.1 h.2 h.3) (λ (y : PlaceOf D). HasHolder y m v) j (subst (λ (xs : List (Scope × PlaceOf D)). HoldAt xs j m v) h.3 a)) [
          | inl o ↦ o.1
          | inr e ↦ subst (λ (x : Scope). HoldAt es x m v) (sym e.0) (h.0, there h.0 h.1 h.2 h.3, (((h.4).holders m v).0 e.1).1)
        ])
        (λ j v a. (keeps_slots h.0 h.1 h.2 h.3 (h.4).slot j (Waits v)).0 a)

    pub datum_kept : (d : D) → ChangesPlace (λ p q. q ≡ record { rows = p.rows; slot = Given d }) es new s → IsKept new made lists
    datum_kept d h =
        let rows : (h.1).rows ≡ (h.0).rows = ap (λ (y : PlaceOf D). y.rows) h.4 in
        let now : (h.1).slot ≡ Given d = ap (λ (y : PlaceOf D). y.slot) h.4 in
        kept_after es made lists kept new (changed_places es s ok (λ p q. q ≡ record { rows = p.rows; slot = Given d }) new h) (keys_stay h.0 h.1 h.2 h.3)
        (λ j m x a. inl ((keeps_edges h.0 h.1 h.2 h.3 (λ m t. rw rows ((λ a. a), (λ a. a))) j m x).0 a))
        (λ j m v a. (keeps_holds h.0 h.1 h.2 h.3 (λ m v. rw rows ((λ a. a), (λ a. a))) j m v).0 a)
        (λ j v a. elim (at_set_from scope_cmp scope_total equal_scope es ok.keys_rise s h.0 h.1 (there h.0 h.1 h.2 h.3) (λ (y : PlaceOf D). y.slot ≡ Waits v) j (subst (λ (xs : List (Scope × PlaceOf D)). SlotAt xs j (Waits v)) h.3 a)) [
          | inl o ↦ o.1
          | inr e ↦ absurd (let k = sym e.1 ∙ now in cc)
        ])

  -- ---- the parts stay, with the new target
  module _ (key : D → ℕ) (ps : List (Part × List Scope)) (parts : AreParts key es ps) where
    pub edge_parts : (l : ℕ) (t : Scope) → ChangesPlace (λ p q. AddsTarget p q l t) es new s → (EdgeAt es s l t → ⊥) → (p : Part) (qs : List (Part × List Scope)) → IsPartOf key es s l t p → AddsIn ps qs p t → AreParts key new qs
    edge_parts l t h none p qs is more = parts_more key es ps parts s l t new none (edge_adds l t h) (keeps_slots h.0 h.1 h.2 h.3 (h.4).slot) p qs is more

    pub close_parts : (l u : ℕ) → ChangesPlace (λ p q. LosesHolder p q l u) es new s → AreParts key new ps
    close_parts l u h = parts_after key es ps parts new (keeps_edges h.0 h.1 h.2 h.3 (h.4).targets) (λ t d k. (keeps_slots h.0 h.1 h.2 h.3 (h.4).slot t (Given d)).1 k)

    pub datum_parts : (u : ℕ) (d : D) → SlotAt es s (Waits u) → ChangesPlace (λ p q. q ≡ record { rows = p.rows; slot = Given d }) es new s → AreParts key new ps
    datum_parts u d held h =
        let rows : (h.1).rows ≡ (h.0).rows = ap (λ (y : PlaceOf D). y.rows) h.4 in
        parts_after key es ps parts new (keeps_edges h.0 h.1 h.2 h.3 (λ m t. rw rows ((λ a. a), (λ a. a)))) (λ t e k. (given_adds u d held h t e).1 (inl k))
