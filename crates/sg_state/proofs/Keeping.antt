-- What is known of a held graph, and that it stays so.
use Rattle.std.proofs.Common.{◌≡◌, ℕ, ◌<◌, List, [], ◌⊎◌, ◌↔◌, inl, inr, sym, ap, ◌∙◌, subst, map}
use Rattle.std.specs.List.{Contains}
use Rattle.sg_base.specs.declared.scope.Scope.{Scope}
use Rattle.sg_base.specs.Graph.{Edge, HasScope}
use Rattle.sg_base.specs.Scope.{scope_cmp, scope_total}
use Rattle.sg_base.proofs.Finite.{nothing_in, each_at}
use Rattle.sg_base.proofs.Scopes.{equal_scope}
use Rattle.sg_state.specs.declared.part.Part.{Part}
use Rattle.sg_state.specs.declared.part.Part.TheVariants.{Keyed, Rest}
use Rattle.sg_state.specs.declared.row.Row.{Row}
use Rattle.sg_state.specs.declared.slot.Slot.{Slot}
use Rattle.sg_state.specs.declared.slot.Slot.TheVariants.{Given, Waits}
use Rattle.sg_state.specs.Held.{IsHeld, IsRest, IsKeyed}
use Rattle.sg_state.specs.Part.{AreParts, HasIn, rest_in}
use Rattle.sg_state.specs.Place.{PlaceOf, HasRow, IsPlace}
use Rattle.sg_state.specs.View.{ArePlaces, HasKey, EdgeAt, HoldAt, SlotAt, IsKept, seen}
use Rattle.sg_state.proofs.Keyed.{one_value}
use Rattle.sg_state.proofs.InParts.{one_given, rest_rises, rest_from, rest_to}
use Rattle.sg_state.proofs.RisingLists.{keys_rise}
use Rattle.sg_state.proofs.Views.{edge_from, edge_to, given_to, hold_from, given_from, waits_from, key_from, key_to, edges_rise, holds_rise, given_rise, data_rise}

module _ {D : Type 0} (es : List (Scope × PlaceOf D)) (made : List ℕ) (lists : List (ℕ × List Scope)) (kept : IsKept es made lists) where
  small : (s : Scope) (l : ℕ) (p : PlaceOf D) → Contains es (s, p) → HasRow p l → l < 16
  small s l p c r =
      let ok : IsPlace p = each_at (λ (q : Scope × PlaceOf D). IsPlace q.1) es (kept.places).each (s, p) c in
      each_at (λ (q : ℕ × Row). q.0 < 16) p.rows ok.labelled (l, r.0) r.1

  there : (rest : List Edge) (s : Scope) (p : PlaceOf D) → Contains es (s, p) → HasScope (seen es made rest).graph s
  there rest s p c = key_to es s (p, c)

  pub held_from : (key : D → ℕ) (ps : List (Part × List Scope)) → AreParts key es ps → IsHeld (seen es made (rest_in ps))
  held_from key ps ok = record {
    graph = record {
      scopes_rise = (kept.places).keys_rise;
      edges_rise = edges_rise es kept.places;
      data_rise = keys_rise scope_cmp (seen es made (rest_in ps)).graph.given (given_rise es kept.places);
      labelled = λ s l t e. let h = edge_from es s l t e in small s l h.0 h.1 ((h.2).0, (h.2).1);
      source = λ s l t e. let h = edge_from es s l t e in there (rest_in ps) s h.0 h.1;
      target = λ s l t e. key_to es t (kept.targets s l t (edge_from es s l t e));
      placed = λ s d e. let h = given_from es s d e in there (rest_in ps) s h.0 h.1;
    };
    rows_rise = holds_rise es kept.places;
    data_rise = data_rise es kept.places;
    labelled = λ u s l k. let h = hold_from es s l u k in small s l h.0 h.1 ((h.2).0, (h.2).1);
    row_at = λ u s l k. let h = hold_from es s l u k in there (rest_in ps) s h.0 h.1;
    datum_at = λ u s k. let h = waits_from es s u k in there (rest_in ps) s h.0 h.1;
    unset = λ u s d k g.
        let a = waits_from es s u k in
        let b = given_from es s d g in
        let same = one_value scope_cmp scope_total equal_scope es (kept.places).keys_rise s a.0 b.0 a.1 b.1 in
        other_slots u d (sym a.2 ∙ (ap (λ (p : PlaceOf D). p.slot) same ∙ b.2));
    alone = λ u v s k m.
        let a = waits_from es s u k in
        let b = waits_from es s v m in
        let same = one_value scope_cmp scope_total equal_scope es (kept.places).keys_rise s a.0 b.0 a.1 b.1 in
        one_waits u v (sym a.2 ∙ (ap (λ (p : PlaceOf D). p.slot) same ∙ b.2));
    row_holder = λ u s l k. (kept.row_listed s l u (hold_from es s l u k)).0;
    datum_holder = λ u s k. (kept.datum_listed s u (waits_from es s u k)).0;
    serials = λ s c. kept.serials s (key_from es s c);
    rest_rises = rest_rises ps;
    rest_edges = λ s l t r. edge_to es s l t (ok.rest s l t (rest_from ps s l t r));
    rest_or_given = λ s l t e. elim (ok.each s l t (edge_from es s l t e)) [ inl r ↦ inl (rest_to ps s l t r) | inr k ↦ inr (k.0, given_to es t k.0 k.1) ];
  }
    where
      other_slots : (u : ℕ) (d : D) → Waits u ≡ Given d → ⊥
      other_slots u d e = cc

      one_waits : (u v : ℕ) → (let x : Slot D = Waits u in x) ≡ Waits v → u ≡ v
      one_waits u v e = cc

  -- ---- what a look-up of a part says

  pub rest_exact : (key : D → ℕ) (ps : List (Part × List Scope)) → AreParts key es ps → (s : Scope) (l : ℕ) (ts : List Scope) → ((t : Scope) → (Contains ts t) ↔ (HasIn ps (Rest s l) t)) → (t : Scope) → (Contains ts t) ↔ (IsRest (seen es made (rest_in ps)) s l t)
  rest_exact key ps ok s l ts exact t = ((λ c. rest_to ps s l t ((exact t).0 c)), (λ r. (exact t).1 (rest_from ps s l t r)))

  pub keyed_exact : (key : D → ℕ) (ps : List (Part × List Scope)) → AreParts key es ps → (s : Scope) (l k : ℕ) (ts : List Scope) → ((t : Scope) → (Contains ts t) ↔ (HasIn ps (Keyed s l k) t)) → (t : Scope) → (Contains ts t) ↔ (IsKeyed key (seen es made (rest_in ps)) s l k t)
  keyed_exact key ps ok s l k ts exact t = (
    (λ c.
        let h = (exact t).0 c in
        let x = ok.keyed s l k t h in
        (edge_to es s l t x.0, (λ r. ok.apart s l k t (rest_from ps s l t r) h), x.1, given_to es t x.1 x.2, x.3)),
    (λ x. (exact t).1 (elim (ok.each s l t (edge_from es s l t x.0)) [
      | inl r ↦ absurd (x.1 (rest_to ps s l t r))
      | inr y ↦ subst (λ (n : ℕ). HasIn ps (Keyed s l n) t) (ap key (one_given es kept.places t y.0 x.2 y.1 (given_from es t x.2 x.3)) ∙ x.4) y.2
    ])),
  )

  same_key : (new : List (Scope × PlaceOf D)) → map (λ p. p.0) new ≡ map (λ p. p.0) es → (s : Scope) → HasKey new s → HasKey es s
  same_key new same s h = key_from es s (subst (λ (xs : List Scope). Contains xs s) same (key_to new s h))

  key_same : (new : List (Scope × PlaceOf D)) → map (λ p. p.0) new ≡ map (λ p. p.0) es → (s : Scope) → HasKey es s → HasKey new s
  key_same new same s h = key_from new s (subst (λ (xs : List Scope). Contains xs s) (sym same) (key_to es s h))

  -- no scope more, edges to scopes, and no hold more
  pub kept_after : (new : List (Scope × PlaceOf D)) → ArePlaces new → map (λ p. p.0) new ≡ map (λ p. p.0) es → ((s : Scope) (l : ℕ) (t : Scope) → EdgeAt new s l t → EdgeAt es s l t ⊎ HasKey es t) → ((s : Scope) (l u : ℕ) → HoldAt new s l u → HoldAt es s l u) → ((s : Scope) (u : ℕ) → SlotAt new s (Waits u) → SlotAt es s (Waits u)) → IsKept new made lists
  kept_after new ok same edges holds waits = record {
    places = ok;
    lists_rise = kept.lists_rise;
    targets = λ s l t e. key_same new same t (elim (edges s l t e) [ inl h ↦ kept.targets s l t h | inr h ↦ h ]);
    row_listed = λ s l u h. kept.row_listed s l u (holds s l u h);
    datum_listed = λ s u h. kept.datum_listed s u (waits s u h);
    serials = λ s h. kept.serials s (same_key new same s h);
  }

-- where there is no scope
pub none_kept : {D : Type 0} (made : List ℕ) → IsKept {D = D} [] made []
none_kept {D} made = record {
  places = record { keys_rise = tt; each = tt };
  lists_rise = tt;
  targets = λ s l t h. absurd (nothing_in (s, h.0) h.1);
  row_listed = λ s l u h. absurd (nothing_in (s, h.0) h.1);
  datum_listed = λ s u h. absurd (nothing_in (s, h.0) h.1);
  serials = λ s h. absurd (nothing_in (s, h.0) h.1);
}
