-- What a run that is over leaves of its headers.
use Rattle.std.specs.Prelude.{◌≡◌, ℕ, List, Bool, false, ◌&&◌, ◌==◌, not, ◌↔◌}
use Rattle.std.specs.List.{Contains, list_any}
use Rattle.sg_base.specs.declared.scope.Scope.{Scope}
use Rattle.sg_base.specs.Graph.{HasDatum}
use Rattle.sg_base.specs.Scope.{is_scope}
use Rattle.sg_state.specs.declared.need.Need.{Need}
use Rattle.sg_state.specs.declared.need.Need.TheVariants.{Row}
use Rattle.sg_state.specs.Held.{HeldOf}
use Rattle.sg_unit.specs.Run.{Setting, RunOf, open_ask}
use Rattle.sg_unit.specs.Waiting.{WaitsOn}
use Rattle.sg_strata.specs.Program.{Program, state_with, graph_with, IsFirstOpen, IsNeeded}
use Rattle.sg_strata.specs.Run.{IsHeaderRun}
use Rattle.sg_strata.specs.Strata.{IsGreatest}
use Rattle.sg_headers.specs.Setting.{Roles}

-- whether nobody holds the row with this label
abbrev pub is_closed : {D : Type 0} → HeldOf D → ℕ → Scope → Bool
is_closed h l s = not (list_any (λ k. is_scope k.scope s && (k.label == l)) h.row_holds)

-- the reader of a type asks the first open query of its header, and needs exactly the supertypes' rows that this query needs by the closed rows
pub record IsHeaderWait {Q D P : Type 0} (p : Program Q D) (z : Setting D P) (k : Roles Q P) (r : RunOf D P) (closed : Scope → Bool) (row : Scope → List Scope) (c : Scope) : Type 0 where
  pub query : Q
  pub count : ℕ
  pub asks : r.asks (k.reader c) ≡ open_ask (k.query query) count
  pub first : IsFirstOpen p (state_with p closed row) c query
  pub needs : (n : Need) → (WaitsOn z r (k.reader c) n) ↔ ((t : Scope) × (n ≡ Row t p.super_label) × IsNeeded p (state_with p closed row) query t)

-- the types whose rows are closed are the greatest stratified set, the graph is the skeleton with these rows but for signatures, and the readers of
-- all other types wait in their headers
pub record Leaves {Q D P : Type 0} (p : Program Q D) (z : Setting D P) (k : Roles Q P) (r : RunOf D P) (closed : Scope → Bool) (row : Scope → List Scope) : Type 0 where
  pub run : IsHeaderRun p closed row
  pub greatest : IsGreatest p closed row
  pub scopes : r.held.graph.scopes ≡ p.skeleton.scopes
  pub edges : r.held.graph.edges ≡ (graph_with p closed row).edges
  pub given : (s : Scope) (d : D) → (Contains p.signatures s → ⊥) → (HasDatum r.held.graph s d) ↔ (HasDatum p.skeleton s d)
  pub waits : (c : Scope) → Contains p.types c → closed c ≡ false → IsHeaderWait p z k r closed row c

-- the same types have closed rows, the edges are the same, and the reader of each other type needs the same
pub record LeavesAlike {Q D P : Type 0} (p : Program Q D) (z : Setting D P) (k : Roles Q P) (r r' : RunOf D P) : Type 0 where
  pub closed : (c : Scope) → Contains p.types c → is_closed r.held p.super_label c ≡ is_closed r'.held p.super_label c
  pub edges : r.held.graph.edges ≡ r'.held.graph.edges
  pub needs : (c : Scope) → Contains p.types c → is_closed r.held p.super_label c ≡ false → (n : Need) → (WaitsOn z r (k.reader c) n) ↔ (WaitsOn z r' (k.reader c) n)
