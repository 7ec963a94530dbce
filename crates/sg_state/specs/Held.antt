-- Held graphs: a graph that grows, who may still add to it, and what each write does.
use Rattle.std.specs.Prelude.{◌≡◌, ℕ, ◌+◌, ◌<◌, List, [], ◌∷◌, ◌⊎◌, Bool, map, length, slice_index, slice_set, replicate, cond, not, fold, ◌==◌, ◌&&◌}
use Rattle.std.specs.Cmp.{IsTotalOrder, nat_cmp_total, on_total, then_total}
use Rattle.std.specs.Int.{bit_at}
use Rattle.std.specs.List.{Contains, filter, list_any, range_with_len}
use Rattle.std.specs.Ordering.{nat_cmp, on, then_cmp, match_ordering}
use Rattle.std.specs.declared.cmp.Ordering.{Ordering}
use Rattle.sg_base.specs.declared.scope.Scope.{Scope}
use Rattle.sg_base.specs.Graph.{Edge, GraphOf, HasScope, HasEdge, HasDatum, IsGraph, edge_cmp}
use Rattle.sg_base.specs.List.{IsRising}
use Rattle.sg_base.specs.Scope.{scope_cmp, scope_total, is_scope}
use Rattle.sg_base.specs.State.{State}

-- a unit holds a row: it may add edges to it
pub record RowHold : Type 0 where
  pub scope : Scope
  pub label : ℕ
  pub unit : ℕ

-- a unit holds the datum of a scope: it may set it
pub record DatumHold : Type 0 where
  pub scope : Scope
  pub unit : ℕ

-- the order of row holds: by row, then unit
abbrev pub row_hold_cmp : RowHold → RowHold → Ordering
row_hold_cmp = then_cmp (on (λ k. k.scope) scope_cmp) (then_cmp (on (λ k. k.label) nat_cmp) (on (λ k. k.unit) nat_cmp))

-- the order of datum holds: by scope, then unit
abbrev pub datum_hold_cmp : DatumHold → DatumHold → Ordering
datum_hold_cmp = then_cmp (on (λ k. k.scope) scope_cmp) (on (λ k. k.unit) nat_cmp)

-- a graph, the holds of its rows and of its unset data, how many scopes each unit has made, and the edges whose target had no datum
-- when they were added
pub record HeldOf (D : Type 0) : Type 0 where
  pub graph : GraphOf D
  pub row_holds : List RowHold
  pub datum_holds : List DatumHold
  pub made : List ℕ
  pub rest : List Edge

-- the unit holds the row
abbrev pub HoldsRow : {D : Type 0} → HeldOf D → ℕ → Scope → ℕ → Type 0
HoldsRow h u s l = Contains h.row_holds (record { scope = s; label = l; unit = u })

-- the unit holds the datum
abbrev pub HoldsDatum : {D : Type 0} → HeldOf D → ℕ → Scope → Type 0
HoldsDatum h u s = Contains h.datum_holds (record { scope = s; unit = u })

-- the target is one of the rest of the row: it had no datum when the edge was added
abbrev pub IsRest : {D : Type 0} → HeldOf D → Scope → ℕ → Scope → Type 0
IsRest h s l t = Contains h.rest (record { from = s; label = l; to = t })

-- the target of the row had a datum when the edge was added, and this is the datum's key
abbrev pub IsKeyed : {D : Type 0} → (D → ℕ) → HeldOf D → Scope → ℕ → ℕ → Scope → Type 0
IsKeyed {D} key h s l k t = HasEdge h.graph s l t × (IsRest h s l t → ⊥) × (d : D) × HasDatum h.graph t d × (key d ≡ k)

-- whether the scope has a datum
abbrev pub is_given : {D : Type 0} → GraphOf D → Scope → Bool
is_given g s = list_any (λ p. is_scope p.0 s) g.given

-- a row is open where it has a holder, and a datum is unset where it has one
abbrev pub state_of : {D : Type 0} → HeldOf D → State D
state_of h = record { graph = h.graph; open_rows = map (λ k. (k.scope, k.label)) h.row_holds; unset = map (λ k. k.scope) h.datum_holds }

-- the scope that the unit makes next
abbrev pub next_scope : {D : Type 0} → HeldOf D → ℕ → Scope
next_scope h u = record { unit = u; serial = slice_index h.made u }

-- holds are sets of holds of rows and data of the graph, listed in rising order; a held datum is not given and has one holder; holders
-- are units of the graph; a unit has made the scopes with serials below its number of them; and the rest, listed in rising order, are
-- edges of the graph, among them each edge whose target has no datum
pub record IsHeld {D : Type 0} (h : HeldOf D) : Type 0 where
  pub graph : IsGraph h.graph
  pub rows_rise : IsRising row_hold_cmp h.row_holds
  pub data_rise : IsRising datum_hold_cmp h.datum_holds
  pub labelled : (u : ℕ) (s : Scope) (l : ℕ) → HoldsRow h u s l → l < 16
  pub row_at : (u : ℕ) (s : Scope) (l : ℕ) → HoldsRow h u s l → HasScope h.graph s
  pub datum_at : (u : ℕ) (s : Scope) → HoldsDatum h u s → HasScope h.graph s
  pub unset : (u : ℕ) (s : Scope) (d : D) → HoldsDatum h u s → HasDatum h.graph s d → ⊥
  pub alone : (u v : ℕ) (s : Scope) → HoldsDatum h u s → HoldsDatum h v s → u ≡ v
  pub row_holder : (u : ℕ) (s : Scope) (l : ℕ) → HoldsRow h u s l → u < length h.made
  pub datum_holder : (u : ℕ) (s : Scope) → HoldsDatum h u s → u < length h.made
  pub serials : (s : Scope) → HasScope h.graph s → s.unit < length h.made → s.serial < slice_index h.made s.unit
  pub rest_rises : IsRising edge_cmp h.rest
  pub rest_edges : (s : Scope) (l : ℕ) (t : Scope) → IsRest h s l t → HasEdge h.graph s l t
  pub rest_or_given : (s : Scope) (l : ℕ) (t : Scope) → HasEdge h.graph s l t → IsRest h s l t ⊎ ((d : D) × HasDatum h.graph t d)

-- no scope, and units that have made none
abbrev pub with_no_scope : {D : Type 0} → ℕ → HeldOf D
with_no_scope units = record { graph = record { scopes = []; edges = []; given = [] }; row_holds = []; datum_holds = []; made = replicate units 0; rest = [] }

-- ---- writes

-- a rising list with one more thing, which may be there
abbrev pub put : {X : Type 0} → (X → X → Ordering) → List X → X → List X
put cmp [] x = x ∷ []
put cmp (y ∷ ys) x = match_ordering (cmp x y) (x ∷ y ∷ ys) (y ∷ ys) (y ∷ put cmp ys x)

-- the labels of a set, in rising order
abbrev pub labels_in : ℕ → List ℕ
labels_in set = filter (λ l. bit_at set l == 1) (range_with_len 0 16)

-- a unit makes its next scope, whose rows with these labels it holds, and whose datum it holds where that is wanted
abbrev pub with_fresh : {D : Type 0} → HeldOf D → ℕ → ℕ → Bool → HeldOf D
with_fresh h u labels datum = record {
  graph = record { scopes = put scope_cmp h.graph.scopes (next_scope h u); edges = h.graph.edges; given = h.graph.given };
  row_holds = fold (λ ks l. put row_hold_cmp ks (record { scope = next_scope h u; label = l; unit = u })) h.row_holds (labels_in labels);
  datum_holds = cond datum (put datum_hold_cmp h.datum_holds (record { scope = next_scope h u; unit = u })) h.datum_holds;
  made = slice_set h.made u (slice_index h.made u + 1);
  rest = h.rest;
}

-- an edge is added, which is one of the rest where its target has no datum
abbrev pub with_edge : {D : Type 0} → HeldOf D → Edge → HeldOf D
with_edge h e = record {
  graph = record { scopes = h.graph.scopes; edges = put edge_cmp h.graph.edges e; given = h.graph.given };
  row_holds = h.row_holds;
  datum_holds = h.datum_holds;
  made = h.made;
  rest = cond (is_given h.graph e.to) h.rest (put edge_cmp h.rest e);
}

-- whether the hold is that of this unit on this row
abbrev pub is_row_hold : ℕ → Scope → ℕ → RowHold → Bool
is_row_hold u s l k = (k.unit == u) && (is_scope k.scope s && (k.label == l))

-- whether the hold is that of this unit on this scope's datum
abbrev pub is_datum_hold : ℕ → Scope → DatumHold → Bool
is_datum_hold u s k = (k.unit == u) && is_scope k.scope s

-- a unit sets the datum that it holds
abbrev pub with_datum : {D : Type 0} → HeldOf D → ℕ → Scope → D → HeldOf D
with_datum h u s d = record {
  graph = record { scopes = h.graph.scopes; edges = h.graph.edges; given = put (on (λ p. p.0) scope_cmp) h.graph.given (s, d) };
  row_holds = h.row_holds;
  datum_holds = filter (λ k. not (is_datum_hold u s k)) h.datum_holds;
  made = h.made;
  rest = h.rest;
}

-- a unit gives up a row, and the other holders stay
abbrev pub without_row : {D : Type 0} → HeldOf D → ℕ → Scope → ℕ → HeldOf D
without_row h u s l = record {
  graph = h.graph;
  row_holds = filter (λ k. not (is_row_hold u s l k)) h.row_holds;
  datum_holds = h.datum_holds;
  made = h.made;
  rest = h.rest;
}

-- a unit gives up all that it holds
abbrev pub without_unit : {D : Type 0} → HeldOf D → ℕ → HeldOf D
without_unit h u = record {
  graph = h.graph;
  row_holds = filter (λ k. not (k.unit == u)) h.row_holds;
  datum_holds = filter (λ k. not (k.unit == u)) h.datum_holds;
  made = h.made;
  rest = h.rest;
}

-- the order of row holds is total
pub row_hold_total : IsTotalOrder row_hold_cmp
row_hold_total = then_total (on_total (λ k. k.scope) scope_total) (then_total (on_total (λ k. k.label) nat_cmp_total) (on_total (λ k. k.unit) nat_cmp_total))

-- the order of datum holds is total
pub datum_hold_total : IsTotalOrder datum_hold_cmp
datum_hold_total = then_total (on_total (λ k. k.scope) scope_total) (on_total (λ k. k.unit) nat_cmp_total)
