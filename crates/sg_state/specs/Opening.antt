-- Openings: the graph with which a run begins, and who holds what there.
use Rattle.std.specs.Prelude.{◌≡◌, ℕ, ◌-◌, ◌<◌, ◌^◌, List, [], ◌++◌, map, length, replicate, fold, All, Bool, not, nat_lt, ◌==◌, ◌&&◌}
use Rattle.std.specs.Ordering.{on}
use Rattle.std.specs.List.{Contains, filter, list_any, list_all}
use Rattle.sg_base.specs.declared.scope.Scope.{Scope}
use Rattle.sg_base.specs.Graph.{Edge, HasScope, edge_cmp}
use Rattle.sg_base.specs.List.{IsDistinct}
use Rattle.sg_base.specs.Scope.{is_scope, scope_cmp}
use Rattle.sg_state.specs.declared.opening.Opening.{Opening}
use Rattle.sg_state.specs.Held.{HeldOf, RowHold, DatumHold, IsHeld, put, row_hold_cmp, datum_hold_cmp}
use Rattle.sg_state.specs.Listed.{lists}

-- the unit of the scopes of an opening, which is the number of no unit
abbrev pub nobody : ℕ
nobody = 2 ^ 32 - 1

-- what an opening lists: scopes, edges, data, the rows and the unset data that units hold, and how many units there are
pub record OpeningOf (D : Type 0) : Type 0 where
  pub scopes : List Scope
  pub edges : List Edge
  pub given : List (Scope × D)
  pub row_holds : List RowHold
  pub datum_holds : List DatumHold
  pub units : ℕ

-- the edge, the row hold and the datum hold that a tuple lists
abbrev pub edge_of : Scope × ℕ × Scope → Edge
edge_of e = record { from = e.0; label = e.1; to = e.2 }

-- the row hold that a tuple of a unit, a scope and a label lists
abbrev pub row_hold_of : ℕ × Scope × ℕ → RowHold
row_hold_of k = record { scope = k.1; label = k.2; unit = k.0 }

-- the datum hold that a tuple of a unit and a scope lists
abbrev pub held_datum_of : ℕ × Scope → DatumHold
held_datum_of k = record { scope = k.1; unit = k.0 }

-- what the opening of the code lists
abbrev pub opening_of : {D : Type 0} → Opening D → OpeningOf D
opening_of o = record {
  scopes = o.scopes.items;
  edges = map edge_of o.edges.items;
  given = o.given.items;
  row_holds = map row_hold_of o.row_holds.items;
  datum_holds = map held_datum_of o.datum_holds.items;
  units = o.units;
}

-- whether the scopes of the code's opening are nobody's, and all that it names is listed: edges and row holds with labels below 16, and holds of units
abbrev pub lists_all_named : {D : Type 0} → Opening D → Bool
lists_all_named o =
    list_all (λ s. s.unit == nobody) o.scopes.items
    && (list_all (λ e. nat_lt e.1 16 && (lists o.scopes.items e.0 && lists o.scopes.items e.2)) o.edges.items
    && (list_all (λ p. lists o.scopes.items p.0) o.given.items
    && (list_all (λ k. nat_lt k.0 o.units && (nat_lt k.2 16 && lists o.scopes.items k.1)) o.row_holds.items
    && list_all (λ k. nat_lt k.0 o.units && lists o.scopes.items k.1) o.datum_holds.items)))

-- the scopes that get a datum, at the opening or later
abbrev pub data_of : {D : Type 0} → OpeningOf D → List Scope
data_of o = map (λ p. p.0) o.given ++ map (λ k. k.scope) o.datum_holds

-- scopes are distinct and are nobody's; each scope that is named is listed; labels are below 16; a scope has one datum at most, given or held;
-- holders are units; and there are fewer units than nobody's number
pub record IsSoundOpening {D : Type 0} (o : OpeningOf D) : Type 0 where
  pub distinct : IsDistinct o.scopes
  pub nobodys : (s : Scope) → Contains o.scopes s → s.unit ≡ nobody
  pub edges : (e : Edge) → Contains o.edges e → Contains o.scopes e.from × (e.label < 16) × Contains o.scopes e.to
  pub given : (s : Scope) (d : D) → Contains o.given (s, d) → Contains o.scopes s
  pub row_holds : (k : RowHold) → Contains o.row_holds k → Contains o.scopes k.scope × (k.label < 16) × (k.unit < o.units)
  pub datum_holds : (k : DatumHold) → Contains o.datum_holds k → Contains o.scopes k.scope × (k.unit < o.units)
  pub one_datum : IsDistinct (data_of o)
  pub few : o.units < nobody

-- whether the opening gives the scope a datum
abbrev pub gives : {D : Type 0} → OpeningOf D → Scope → Bool
gives o s = list_any (λ p. is_scope p.0 s) o.given

-- the held graph of an opening, whose rest are the edges to scopes without a datum
abbrev pub opened_of : {D : Type 0} → OpeningOf D → HeldOf D
opened_of o = record {
  graph = record {
    scopes = fold (put scope_cmp) [] o.scopes;
    edges = fold (put edge_cmp) [] o.edges;
    given = fold (put (on (λ p. p.0) scope_cmp)) [] o.given;
  };
  row_holds = fold (put row_hold_cmp) [] o.row_holds;
  datum_holds = fold (put datum_hold_cmp) [] o.datum_holds;
  made = replicate o.units 0;
  rest = fold (put edge_cmp) [] (filter (λ e. not (gives o e.to)) o.edges);
}

-- a held graph with which a run begins: its scopes are nobody's, there are fewer units than nobody's number, and none has made a scope
pub record IsOpening {D : Type 0} (h : HeldOf D) : Type 0 where
  pub held : IsHeld h
  pub nobodys : (s : Scope) → HasScope h.graph s → s.unit ≡ nobody
  pub few : length h.made < nobody
  pub unmade : All (λ n. n ≡ 0) h.made

-- the held graph of a sound opening is one with which a run begins
abbrev pub SoundOpeningsOpen : Type 0 → Type 0
SoundOpeningsOpen D = (o : OpeningOf D) → IsSoundOpening o → IsOpening (opened_of o)
