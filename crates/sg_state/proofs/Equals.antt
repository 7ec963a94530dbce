-- What is equal in order is one, and held graphs are one where their fields are.
use Rattle.std.proofs.Common.{◌≡◌, ℕ, List, Bool, true, false, not, refl, ap, ◌∙◌}
use Rattle.std.specs.Ordering.{nat_cmp, ordering_then}
use Rattle.std.specs.declared.cmp.Ordering.TheVariants.{Equal}
use Rattle.sg_base.specs.declared.scope.Scope.{Scope}
use Rattle.sg_base.specs.Graph.{Edge, edge_cmp}
use Rattle.sg_base.specs.Scope.{scope_cmp}
use Rattle.sg_base.proofs.Scopes.{edge_by, then_equal, equal_nat, equal_scope}
use Rattle.sg_state.specs.Held.{HeldOf, RowHold, DatumHold, row_hold_cmp, datum_hold_cmp}

pub row_hold_by : (a b : RowHold) → a.scope ≡ b.scope → a.label ≡ b.label → a.unit ≡ b.unit → a ≡ b
row_hold_by a b s l u =
    ap (λ (x : Scope). let r : RowHold = record { scope = x; label = a.label; unit = a.unit } in r) s
    ∙ (ap (λ (x : ℕ). let r : RowHold = record { scope = b.scope; label = x; unit = a.unit } in r) l
    ∙ ap (λ (x : ℕ). let r : RowHold = record { scope = b.scope; label = b.label; unit = x } in r) u)

pub datum_hold_by : (a b : DatumHold) → a.scope ≡ b.scope → a.unit ≡ b.unit → a ≡ b
datum_hold_by a b s u =
    ap (λ (x : Scope). let r : DatumHold = record { scope = x; unit = a.unit } in r) s
    ∙ ap (λ (x : ℕ). let r : DatumHold = record { scope = b.scope; unit = x } in r) u

pub equal_edge : (a b : Edge) → edge_cmp a b ≡ Equal → a ≡ b
equal_edge a b h =
    let k = then_equal (scope_cmp a.from b.from) (ordering_then (nat_cmp a.label b.label) (scope_cmp a.to b.to)) h in
    let m = then_equal (nat_cmp a.label b.label) (scope_cmp a.to b.to) k.1 in
    edge_by a b (equal_scope a.from b.from k.0) (equal_nat a.label b.label m.0) (equal_scope a.to b.to m.1)

pub equal_row_hold : (a b : RowHold) → row_hold_cmp a b ≡ Equal → a ≡ b
equal_row_hold a b h =
    let k = then_equal (scope_cmp a.scope b.scope) (ordering_then (nat_cmp a.label b.label) (nat_cmp a.unit b.unit)) h in
    let m = then_equal (nat_cmp a.label b.label) (nat_cmp a.unit b.unit) k.1 in
    row_hold_by a b (equal_scope a.scope b.scope k.0) (equal_nat a.label b.label m.0) (equal_nat a.unit b.unit m.1)

pub equal_datum_hold : (a b : DatumHold) → datum_hold_cmp a b ≡ Equal → a ≡ b
equal_datum_hold a b h =
    let k = then_equal (scope_cmp a.scope b.scope) (nat_cmp a.unit b.unit) h in
    datum_hold_by a b (equal_scope a.scope b.scope k.0) (equal_nat a.unit b.unit k.1)

pub held_by : {D : Type 0} (a b : HeldOf D) → a.graph.scopes ≡ b.graph.scopes → a.graph.edges ≡ b.graph.edges → a.graph.given ≡ b.graph.given → a.row_holds ≡ b.row_holds → a.datum_holds ≡ b.datum_holds → a.made ≡ b.made → a.rest ≡ b.rest → a ≡ b
held_by {D} a b s e g r d m f =
    ap (λ (x : List Scope). let h : HeldOf D = record { graph = record { scopes = x; edges = a.graph.edges; given = a.graph.given }; row_holds = a.row_holds; datum_holds = a.datum_holds; made = a.made; rest = a.rest } in h) s
    ∙ (ap (λ (x : List Edge). let h : HeldOf D = record { graph = record { scopes = b.graph.scopes; edges = x; given = a.graph.given }; row_holds = a.row_holds; datum_holds = a.datum_holds; made = a.made; rest = a.rest } in h) e
    ∙ (ap (λ (x : List (Scope × D)). let h : HeldOf D = record { graph = record { scopes = b.graph.scopes; edges = b.graph.edges; given = x }; row_holds = a.row_holds; datum_holds = a.datum_holds; made = a.made; rest = a.rest } in h) g
    ∙ (ap (λ (x : List RowHold). let h : HeldOf D = record { graph = b.graph; row_holds = x; datum_holds = a.datum_holds; made = a.made; rest = a.rest } in h) r
    ∙ (ap (λ (x : List DatumHold). let h : HeldOf D = record { graph = b.graph; row_holds = b.row_holds; datum_holds = x; made = a.made; rest = a.rest } in h) d
    ∙ (ap (λ (x : List ℕ). let h : HeldOf D = record { graph = b.graph; row_holds = b.row_holds; datum_holds = b.datum_holds; made = x; rest = a.rest } in h) m
    ∙ ap (λ (x : List Edge). let h : HeldOf D = record { graph = b.graph; row_holds = b.row_holds; datum_holds = b.datum_holds; made = b.made; rest = x } in h) f)))))

-- ---- tests

pub not_of : (b : Bool) → not b ≡ true → b ≡ true → ⊥
not_of true n h = absurd (cc)
not_of false n h = absurd (cc)

pub of_not : (b : Bool) → (b ≡ true → ⊥) → not b ≡ true
of_not true n = absurd (n refl)
of_not false n = refl
