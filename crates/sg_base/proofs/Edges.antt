-- The edges of rows, and the row of a scope and a label among all edges.
use Rattle.std.proofs.Common.{◌≡◌, ℕ, List, [], ◌∷◌, Bool, true, inl, inr, refl, sym, ap, ◌∙◌, subst, map, eqb, nat_cmp, ◌&&◌}
use Rattle.std.specs.List.{Contains, AllByRecursion, filter}
use Rattle.std.specs.Ordering.{ordering_then}
use Rattle.std.specs.declared.cmp.Ordering.{Ordering}
use Rattle.std.specs.declared.cmp.Ordering.TheVariants.{Less, Equal}
use Rattle.sg_base.specs.declared.scope.Scope.{Scope}
use Rattle.sg_base.specs.Graph.{Edge, GraphOf, HasEdge, IsGraph, edge_cmp, edge_total, is_in_row, row_of}
use Rattle.sg_base.specs.List.{IsDistinct, IsRising}
use Rattle.sg_base.specs.Scope.{scope_cmp, scope_total, is_scope}
use Rattle.sg_base.proofs.Finite.{nothing_in, Contains-cons, map-Contains, Contains-map, Contains-filter, filter-Contains, each_from, each_at}
use Rattle.sg_base.proofs.Rising.{Rising-filter, Distinct-rising}
use Rattle.sg_base.proofs.Scopes.{edge_by, scope_itself, nat_itself, scope_same, same_scope, number_same, number_itself, both_true}

-- ---- the row of a scope and a label

pub in_row : (s : Scope) (l : ℕ) (e : Edge) → is_in_row s l e ≡ true → (e.from ≡ s) × (e.label ≡ l)
in_row s l e t =
    let b = both_true (is_scope e.from s) (eqb e.label l) t in
    (scope_same e.from s b.0, number_same e.label l b.1)

pub row_in : (s : Scope) (l : ℕ) (e : Edge) → e.from ≡ s → e.label ≡ l → is_in_row s l e ≡ true
row_in s l e a b =
    let first : is_scope e.from s ≡ true = same_scope e.from s a in
    let second : eqb e.label l ≡ true = subst (λ (n : ℕ). eqb e.label n ≡ true) b (number_itself e.label) in
    ap (λ (t : Bool). t && eqb e.label l) first ∙ second

module _ {D : Type 0} (g : GraphOf D) where
  pub row_from : (s : Scope) (l : ℕ) (t : Scope) → Contains (row_of g s l) t → HasEdge g s l t
  row_from s l t c =
      let h = Contains-map (λ (e : Edge). e.to) (filter (is_in_row s l) g.edges) t c in
      let k = Contains-filter (is_in_row s l) g.edges h.0 h.1 in
      let p = in_row s l h.0 k.1 in
      subst (λ (e : Edge). Contains g.edges e) (edge_by h.0 (record { from = s; label = l; to = t }) p.0 p.1 (sym h.2)) k.0

  pub row_to : (s : Scope) (l : ℕ) (t : Scope) → HasEdge g s l t → Contains (row_of g s l) t
  row_to s l t c =
      let e : Edge = record { from = s; label = l; to = t } in
      map-Contains (λ (e : Edge). e.to) (filter (is_in_row s l) g.edges) e (filter-Contains (is_in_row s l) g.edges e c (row_in s l e refl refl))

  in_one_row : (s : Scope) (l : ℕ) (es : List Edge) → AllByRecursion (λ e. is_in_row s l e ≡ true) es → IsRising edge_cmp es → IsRising scope_cmp (map (λ e. e.to) es)
  in_one_row s l [] h r = tt
  in_one_row s l (e ∷ es) h r = (
    each_from (λ t. scope_cmp e.to t ≡ Less) (map (λ f. f.to) es) (λ t c.
        let k = Contains-map (λ (f : Edge). f.to) es t c in
        let a = in_row s l e h.0 in
        let b = in_row s l k.0 (each_at (λ f. is_in_row s l f ≡ true) es h.1 k.0 k.1) in
        let less : edge_cmp e k.0 ≡ Less = each_at (λ f. edge_cmp e f ≡ Less) es r.0 k.0 k.1 in
        let from : scope_cmp e.from (k.0).from ≡ Equal = rw (a.0, b.0) (scope_itself s) in
        let label : nat_cmp e.label (k.0).label ≡ Equal = rw (a.1, b.1) (nat_itself l) in
        let to : scope_cmp e.to (k.0).to ≡ Less = sym (ap (λ (o : Ordering). ordering_then o (ordering_then (nat_cmp e.label (k.0).label) (scope_cmp e.to (k.0).to))) from ∙ ap (λ (o : Ordering). ordering_then o (scope_cmp e.to (k.0).to)) label) ∙ less in
        subst (λ (x : Scope). scope_cmp e.to x ≡ Less) (sym k.2) to),
    in_one_row s l es h.1 r.1,
  )

  pub Rising-row : IsRising edge_cmp g.edges → (s : Scope) (l : ℕ) → IsRising scope_cmp (row_of g s l)
  Rising-row r s l =
      in_one_row s l (filter (is_in_row s l) g.edges) (each_from (λ e. is_in_row s l e ≡ true) (filter (is_in_row s l) g.edges) (λ e c. (Contains-filter (is_in_row s l) g.edges e c).1))
      (Rising-filter edge_cmp (is_in_row s l) g.edges r)

  -- a row holds each target once
  pub Distinct-row : IsGraph g → (s : Scope) (l : ℕ) → IsDistinct (row_of g s l)
  Distinct-row ok s l = Distinct-rising scope_cmp scope_total (row_of g s l) (Rising-row ok.edges_rise s l)

  -- a graph holds each edge once
  pub Distinct-edges : IsGraph g → IsDistinct g.edges
  Distinct-edges ok = Distinct-rising edge_cmp edge_total g.edges ok.edges_rise

-- a scope has one datum at most
pub one_datum : {D : Type 0} (given : List (Scope × D)) → IsRising scope_cmp (map (λ p. p.0) given) → (s : Scope) (d e : D) → Contains given (s, d) → Contains given (s, e) → d ≡ e
one_datum [] r s d e a b = absurd (nothing_in (s, d) a)
one_datum {D} (p ∷ ps) r s d e a b =
    let later : (x : D) → Contains ps (s, x) → p.0 ≡ s → ⊥ =
    λ x c same.
    let less : scope_cmp p.0 s ≡ Less = each_at (λ y. scope_cmp p.0 y ≡ Less) (map (λ q. q.0) ps) r.0 s (map-Contains (λ (q : Scope × D). q.0) ps (s, x) c) in
    let equal : scope_cmp p.0 s ≡ Equal = subst (λ (y : Scope). scope_cmp p.0 y ≡ Equal) same (scope_itself p.0) in
    cc in
    elim (Contains-cons p (s, d) ps a) [
      | inl h ↦ elim (Contains-cons p (s, e) ps b) [
        | inl k ↦ ap (λ (q : Scope × D). q.1) (h ∙ sym k)
        | inr k ↦ absurd (later e k (ap (λ (q : Scope × D). q.0) (sym h)))
      ]
      | inr h ↦ elim (Contains-cons p (s, e) ps b) [
        | inl k ↦ absurd (later d h (ap (λ (q : Scope × D). q.0) (sym k)))
        | inr k ↦ one_datum ps r.1 s d e h k
      ]
    ]
