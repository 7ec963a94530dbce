-- A graph's edges as the rows that hold them.
use Rattle.std.specs.Prelude.{◌≡◌, List, map, ◌⊎◌, ◌↔◌}
use Rattle.std.specs.Cmp.{IsTotalOrder, nat_cmp_total, on_total, then_total}
use Rattle.std.specs.List.{Contains, flat_map, AllByRecursion}
use Rattle.std.specs.Ordering.{nat_cmp, on, then_cmp}
use Rattle.std.specs.declared.cmp.Ordering.{Ordering}
use Rattle.sg_base.specs.declared.row.Row.{Row}
use Rattle.sg_base.specs.declared.scope.Scope.{Scope}
use Rattle.sg_base.specs.Graph.{Edge}
use Rattle.sg_base.specs.List.{IsRising}
use Rattle.sg_base.specs.Scope.{scope_cmp, scope_total}

-- the order of rows: by scope, then label
abbrev pub row_cmp : Row → Row → Ordering
row_cmp = then_cmp (on (λ r. r.from) scope_cmp) (on (λ r. r.label) nat_cmp)

-- the edge of a row to a target
abbrev pub edge_to : Row → Scope → Edge
edge_to r t = record { from = r.from; label = r.label; to = t }

-- the edges of one row
abbrev pub edges_to : Row → List Scope → List Edge
edges_to r ts = map (edge_to r) ts

-- the edges of all rows
abbrev pub edges_in : List (Row × List Scope) → List Edge
edges_in rows = flat_map (λ p. edges_to p.0 p.1) rows

-- each row stands once, in rising order, and its targets rise
pub record AreRows (rows : List (Row × List Scope)) : Type 0 where
  pub rows_rise : IsRising row_cmp (map (λ p. p.0) rows)
  pub targets_rise : AllByRecursion (λ p. IsRising scope_cmp p.1) rows

-- the edges of the new rows are those of the old ones and this one
abbrev pub AddsTarget : List (Row × List Scope) → List (Row × List Scope) → Row → Scope → Type 0
AddsTarget old new r t = (e : Edge) → (Contains (edges_in new) e) ↔ (Contains (edges_in old) e ⊎ (e ≡ edge_to r t))

-- the order of rows is total
pub row_total : IsTotalOrder row_cmp
row_total = then_total (on_total (λ r. r.from) scope_total) (on_total (λ r. r.label) nat_cmp_total)
