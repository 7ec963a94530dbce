-- A graph stays sound when a scope, an edge or a datum is added.
use Rattle.std.proofs.Common.{◌≡◌, ℕ, ◌<◌, List, ◌⊎◌, ◌↔◌, inl, inr, sym, ap, subst, map}
use Rattle.std.specs.List.{Contains}
use Rattle.sg_base.specs.declared.row.Row.{Row}
use Rattle.sg_base.specs.declared.scope.Scope.{Scope}
use Rattle.sg_base.specs.Graph.{Edge, GraphOf, HasScope, IsGraph}
use Rattle.sg_base.specs.List.{IsRising}
use Rattle.sg_base.specs.Row.{AreRows, AddsTarget, edges_in}
use Rattle.sg_base.specs.Scope.{scope_cmp}
use Rattle.sg_base.proofs.Rows.{Rising-edges}

module _ {D : Type 0} where
  pub scope_added : (g : GraphOf D) (scopes : List Scope) → IsGraph g → IsRising scope_cmp scopes → ((t : Scope) → HasScope g t → Contains scopes t) → IsGraph {D = D} (record { scopes = scopes; edges = g.edges; given = g.given })
  scope_added g scopes ok up more = record {
    scopes_rise = up;
    edges_rise = ok.edges_rise;
    data_rise = ok.data_rise;
    labelled = ok.labelled;
    source = λ s l t e. more s (ok.source s l t e);
    target = λ s l t e. more t (ok.target s l t e);
    placed = λ s d h. more s (ok.placed s d h);
  }

  pub edge_added : (scopes : List Scope) (rows new : List (Row × List Scope)) (given : List (Scope × D)) (r : Row) (to : Scope) → IsGraph {D = D} (record { scopes = scopes; edges = edges_in rows; given = given }) → AreRows new → AddsTarget rows new r to → r.label < 16 → Contains scopes r.from → Contains scopes to → IsGraph {D = D} (record { scopes = scopes; edges = edges_in new; given = given })
  edge_added scopes rows new given r to ok rise adds below from there = record {
    scopes_rise = ok.scopes_rise;
    edges_rise = Rising-edges new rise;
    data_rise = ok.data_rise;
    labelled = λ s l t h. elim ((adds (record { from = s; label = l; to = t })).0 h) [
      | inl e ↦ ok.labelled s l t e
      | inr e ↦ subst (λ (n : ℕ). n < 16) (sym (ap (λ (x : Edge). x.label) e)) below
    ];
    source = λ s l t h. elim ((adds (record { from = s; label = l; to = t })).0 h) [
      | inl e ↦ ok.source s l t e
      | inr e ↦ subst (Contains scopes) (sym (ap (λ (x : Edge). x.from) e)) from
    ];
    target = λ s l t h. elim ((adds (record { from = s; label = l; to = t })).0 h) [
      | inl e ↦ ok.target s l t e
      | inr e ↦ subst (Contains scopes) (sym (ap (λ (x : Edge). x.to) e)) there
    ];
    placed = ok.placed;
  }

  pub datum_added : (g : GraphOf D) (given : List (Scope × D)) (s : Scope) (d : D) → IsGraph g → IsRising scope_cmp (map (λ p. p.0) given) → ((q : Scope × D) → (Contains given q) ↔ (Contains g.given q ⊎ (q ≡ (s, d)))) → HasScope g s → IsGraph {D = D} (record { scopes = g.scopes; edges = g.edges; given = given })
  datum_added g given s d ok up adds there = record {
    scopes_rise = ok.scopes_rise;
    edges_rise = ok.edges_rise;
    data_rise = up;
    labelled = ok.labelled;
    source = ok.source;
    target = ok.target;
    placed = λ t e h. elim ((adds (t, e)).0 h) [
      | inl k ↦ ok.placed t e k
      | inr k ↦ subst (HasScope g) (sym (ap (λ (q : Scope × D). q.0) k)) there
    ];
  }
