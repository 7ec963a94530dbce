-- How a program of headers stands in the setting of a run.
use Rattle.std.specs.Prelude.{◌≡◌, ℕ, ◌<◌, List, Bool, IsTrue, ◌⊎◌}
use Rattle.std.specs.List.{Contains}
use Rattle.sg_base.specs.declared.scope.Scope.{Scope}
use Rattle.sg_base.specs.Graph.{HasEdge}
use Rattle.sg_query.specs.declared.query.Query.{Query}
use Rattle.sg_state.specs.Held.{HoldsRow, HoldsDatum}
use Rattle.sg_state.specs.Opening.{IsOpening}
use Rattle.sg_unit.specs.declared.entry.Entry.{Entry}
use Rattle.sg_unit.specs.Orderly.{IsOrderly}
use Rattle.sg_unit.specs.Run.{Setting, units_of, asked_by}
use Rattle.sg_trace.specs.Tells.{trace_of}
use Rattle.sg_strata.specs.Program.{Program}
use Rattle.sg_headers.specs.Orderly.{MayReadHeader, MayGiveImports}

-- which query a header's query is, which unit reads the header of a type, and which units give imports
pub record Roles (Q P : Type 0) : Type 0 where
  pub query : Q → Query P
  pub reader : Scope → ℕ
  pub imports : ℕ → Bool

-- the run begins with the skeleton without its imports, in which the reader of each type holds the row of its supertypes, units of imports hold further
-- rows, and only signatures get a datum
pub record IsProgramSetting {Q D P : Type 0} (p : Program Q D) (z : Setting D P) (k : Roles Q P) : Type 0 where
  pub opening : IsOpening z.opening
  pub asked : (q : Q) → p.asked q ≡ asked_by z (k.query q)
  pub scopes : z.opening.graph.scopes ≡ p.skeleton.scopes
  pub edges : (s : Scope) (l : ℕ) (t : Scope) → HasEdge z.opening.graph s l t → HasEdge p.skeleton s l t
  pub imported : (s : Scope) (l : ℕ) (t : Scope) → HasEdge p.skeleton s l t → HasEdge z.opening.graph s l t ⊎ ((u : ℕ) × IsTrue (k.imports u) × HoldsRow z.opening u s l)
  pub given : z.opening.graph.given ≡ p.skeleton.given
  pub types : (c : Scope) → Contains p.types c → HoldsRow z.opening (k.reader c) c p.super_label
  pub rows : (u : ℕ) (s : Scope) (l : ℕ) → HoldsRow z.opening u s l → (Contains p.types s × (l ≡ p.super_label) × (u ≡ k.reader s)) ⊎ IsTrue (k.imports u)
  pub unset : (u : ℕ) (s : Scope) → HoldsDatum z.opening u s → Contains p.signatures s
  pub units : (u : ℕ) → u < units_of z → ((c : Scope) × Contains p.types c × (k.reader c ≡ u)) ⊎ IsTrue (k.imports u)

-- each unit is orderly by its entries
pub record AreOrderly {I R Q D P : Type 0} (p : Program Q D) (z : Setting D P) (k : Roles Q P) (log : List (Entry I R D P)) : Type 0 where
  pub types : (c : Scope) → Contains p.types c → IsOrderly (MayReadHeader k.query (p.header c) c p.super_label) (trace_of (k.reader c) log).past (trace_of (k.reader c) log).last
  pub imports : (u : ℕ) → IsTrue (k.imports u) → IsOrderly (MayGiveImports p z u) (trace_of u log).past (trace_of u log).last
