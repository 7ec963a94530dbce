-- The held graph of a sound opening is sound, and a run may begin with it.
use Rattle.std.proofs.Common.{◌≡◌, ℕ, ◌<◌, [], ◌↔◌, Bool, true, not, inl, inr, refl, ap, map, fold, length, arith}
use Rattle.std.proofs.lemmas.Bool.{cases_Bool}
use Rattle.std.proofs.lemmas.List.{length-replicate}
use Rattle.std.proofs.lemmas.List.Elements.{All-replicate}
use Rattle.std.specs.List.{Contains, filter}
use Rattle.std.specs.Ordering.{on}
use Rattle.sg_base.specs.declared.scope.Scope.{Scope}
use Rattle.sg_base.specs.Graph.{Edge, edge_cmp, edge_total}
use Rattle.sg_base.specs.List.{IsDistinct, IsRising}
use Rattle.sg_base.specs.Scope.{scope_cmp, scope_total}
use Rattle.sg_base.proofs.Finite.{Distinct-left, map-Contains, Contains-filter, filter-Contains}
use Rattle.sg_base.proofs.Scopes.{equal_scope}
use Rattle.sg_state.specs.Held.{RowHold, DatumHold, IsHeld, put, row_hold_cmp, row_hold_total, datum_hold_cmp, datum_hold_total}
use Rattle.sg_state.specs.Opening.{OpeningOf, IsSoundOpening, IsOpening, SoundOpeningsOpen, gives, nobody, opened_of}
use Rattle.sg_state.proofs.OpenLists.{Distinct-right, Distinct-apart, Distinct-one, puts_rise, puts_hold, keyed_rise, keyed_hold}
use Rattle.sg_state.proofs.RisingLists.{keys_rise}
use Rattle.sg_state.proofs.Views.{an_edge, a_row_hold, a_datum_hold}
use Rattle.sg_state.proofs.Among.{pair_from, pair_to}
use Rattle.sg_state.proofs.Equals.{not_of, of_not, equal_edge, equal_row_hold, equal_datum_hold}

module _ {D : Type 0} (o : OpeningOf D) (sound : IsSoundOpening o) where
  pub given_distinct : IsDistinct (map (λ p. p.0) o.given)
  given_distinct = Distinct-left (map (λ p. p.0) o.given) (map (λ k. k.scope) o.datum_holds) sound.one_datum

  pub scope_in : (s : Scope) → (Contains (fold (put scope_cmp) [] o.scopes) s) ↔ (Contains o.scopes s)
  scope_in s = puts_hold scope_cmp scope_total equal_scope o.scopes s

  pub edge_in : (e : Edge) → (Contains (fold (put edge_cmp) [] o.edges) e) ↔ (Contains o.edges e)
  edge_in e = puts_hold edge_cmp edge_total equal_edge o.edges e

  pub given_in : (q : Scope × D) → (Contains (fold (put (on (λ p. p.0) scope_cmp)) [] o.given) q) ↔ (Contains o.given q)
  given_in q = keyed_hold scope_cmp scope_total equal_scope (λ (p : Scope × D). p.0) o.given given_distinct q

  pub row_hold_in : (k : RowHold) → (Contains (fold (put row_hold_cmp) [] o.row_holds) k) ↔ (Contains o.row_holds k)
  row_hold_in k = puts_hold row_hold_cmp row_hold_total equal_row_hold o.row_holds k

  pub datum_hold_in : (k : DatumHold) → (Contains (fold (put datum_hold_cmp) [] o.datum_holds) k) ↔ (Contains o.datum_holds k)
  datum_hold_in k = puts_hold datum_hold_cmp datum_hold_total equal_datum_hold o.datum_holds k

  pub given_rises : IsRising (on (λ p. p.0) scope_cmp) (fold (put (on (λ p. p.0) scope_cmp)) [] o.given)
  given_rises = keyed_rise scope_cmp scope_total equal_scope (λ (p : Scope × D). p.0) o.given given_distinct

  -- a held datum is not given, and has one holder
  pub not_given : (u : ℕ) (s : Scope) (d : D) → Contains o.datum_holds (a_datum_hold s u) → Contains o.given (s, d) → ⊥
  not_given u s d k g =
      Distinct-apart (map (λ (p : Scope × D). p.0) o.given) (map (λ (k : DatumHold). k.scope) o.datum_holds) sound.one_datum s
      (map-Contains (λ (p : Scope × D). p.0) o.given (s, d) g) (map-Contains (λ (k : DatumHold). k.scope) o.datum_holds (a_datum_hold s u) k)

  pub one_holder : (u v : ℕ) (s : Scope) → Contains o.datum_holds (a_datum_hold s u) → Contains o.datum_holds (a_datum_hold s v) → u ≡ v
  one_holder u v s k m =
      let d : IsDistinct (map (λ (k : DatumHold). k.scope) o.datum_holds) = Distinct-right (map (λ (p : Scope × D). p.0) o.given) (map (λ (k : DatumHold). k.scope) o.datum_holds) sound.one_datum in
      ap (λ (k : DatumHold). k.unit) (Distinct-one (λ (k : DatumHold). k.scope) o.datum_holds d (a_datum_hold s u) (a_datum_hold s v) k m refl)

  pub gives_from : (s : Scope) → gives o s ≡ true → (d : D) × Contains o.given (s, d)
  gives_from s t = pair_from o.given s t

  -- the rest are the edges to scopes without a datum
  pub rest_is : (e : Edge) → (Contains (opened_of o).rest e) ↔ (Contains o.edges e × ((d : D) → Contains o.given (e.to, d) → ⊥))
  rest_is e =
      let test : Edge → Bool = λ e. not (gives o e.to) in
      let all = puts_hold edge_cmp edge_total equal_edge (filter test o.edges) e in (
        (λ c. let k = Contains-filter test o.edges e (all.0 c) in (k.0, (λ d g. not_of (gives o e.to) k.1 (pair_to o.given e.to d g)))),
        (λ h. all.1 (filter-Contains test o.edges e h.0 (of_not (gives o e.to) (λ t. let d = gives_from e.to t in h.1 d.0 d.1)))),
      )

  units_are : length (opened_of o).made ≡ o.units
  units_are = length-replicate o.units 0

  below : (u : ℕ) → u < o.units → u < length (opened_of o).made
  below u h = omega (arith, h, units_are)

  held : IsHeld (opened_of o)
  held = record {
    graph = record {
      scopes_rise = puts_rise scope_cmp scope_total equal_scope o.scopes;
      edges_rise = puts_rise edge_cmp edge_total equal_edge o.edges;
      data_rise = keys_rise scope_cmp (opened_of o).graph.given given_rises;
      labelled = λ s l t c. (sound.edges (an_edge s l t) ((edge_in (an_edge s l t)).0 c)).1;
      source = λ s l t c. (scope_in s).1 (sound.edges (an_edge s l t) ((edge_in (an_edge s l t)).0 c)).0;
      target = λ s l t c. (scope_in t).1 (sound.edges (an_edge s l t) ((edge_in (an_edge s l t)).0 c)).2;
      placed = λ s d c. (scope_in s).1 (sound.given s d ((given_in (s, d)).0 c));
    };
    rows_rise = puts_rise row_hold_cmp row_hold_total equal_row_hold o.row_holds;
    data_rise = puts_rise datum_hold_cmp datum_hold_total equal_datum_hold o.datum_holds;
    labelled = λ u s l c. (sound.row_holds (a_row_hold s l u) ((row_hold_in (a_row_hold s l u)).0 c)).1;
    row_at = λ u s l c. (scope_in s).1 (sound.row_holds (a_row_hold s l u) ((row_hold_in (a_row_hold s l u)).0 c)).0;
    datum_at = λ u s c. (scope_in s).1 (sound.datum_holds (a_datum_hold s u) ((datum_hold_in (a_datum_hold s u)).0 c)).0;
    unset = λ u s d c g. not_given u s d ((datum_hold_in (a_datum_hold s u)).0 c) ((given_in (s, d)).0 g);
    alone = λ u v s c k. one_holder u v s ((datum_hold_in (a_datum_hold s u)).0 c) ((datum_hold_in (a_datum_hold s v)).0 k);
    row_holder = λ u s l c. below u (sound.row_holds (a_row_hold s l u) ((row_hold_in (a_row_hold s l u)).0 c)).2;
    datum_holder = λ u s c. below u (sound.datum_holds (a_datum_hold s u) ((datum_hold_in (a_datum_hold s u)).0 c)).1;
    serials = λ s c lt. absurd (let n : s.unit ≡ nobody = sound.nobodys s ((scope_in s).0 c) in let few : o.units < nobody = sound.few in let is = units_are in omega (arith, n, few, lt, is));
    rest_rises = puts_rise edge_cmp edge_total equal_edge (filter (λ e. not (gives o e.to)) o.edges);
    rest_edges = λ s l t r. (edge_in (an_edge s l t)).1 ((rest_is (an_edge s l t)).0 r).0;
    rest_or_given = λ s l t c. elim (cases_Bool (gives o t)) [
      | inl g ↦ let d = gives_from t g in inr (d.0, (given_in (t, d.0)).1 d.1)
      | inr n ↦ inl ((rest_is (an_edge s l t)).1 ((edge_in (an_edge s l t)).0 c, (λ d g. let y : gives o t ≡ true = pair_to o.given t d g in cc)))
    ];
  }

  pub opens : IsOpening (opened_of o)
  opens = record {
    held = held;
    nobodys = λ s c. sound.nobodys s ((scope_in s).0 c);
    few = let few : o.units < nobody = sound.few in let is = units_are in omega (arith, few, is);
    unmade = All-replicate (λ (n : ℕ). n ≡ 0) o.units 0 refl;
  }

pub sound_openings_open : (D : Type 0) → SoundOpeningsOpen D
sound_openings_open D o sound = opens o sound
