-- A state of a program grows into the states in which more types have their supertypes.
use Rattle.std.proofs.Common.{◌≡◌, ℕ, ◌<◌, List, ◌++◌, map, Bool, true, false, not, IsTrue, ◌⊎◌, inl, inr, refl, sym, ap, ◌∙◌, subst}
use Rattle.std.specs.List.{Contains, filter, flat_map}
use Rattle.std.proofs.lemmas.List.Elements.{Contains-append_left, Contains-append_right, Contains-append_cases}
use Rattle.sg_base.specs.declared.scope.Scope.{Scope}
use Rattle.sg_base.specs.Graph.{Edge, IsGraph, HasScope, HasEdge, edge_cmp, edge_total}
use Rattle.sg_base.specs.State.{IsOpen, Extends, Follows}
use Rattle.sg_base.proofs.Finite.{Contains-map, map-Contains, Contains-filter, filter-Contains, Contains-flat_map, flat_map-Contains}
use Rattle.sg_query.specs.declared.answer.Answer.{Answer}
use Rattle.sg_query.specs.Growth.{LooksAlike}
use Rattle.sg_query.proofs.Alike.{settled_over, answer_over, follows_alike}
use Rattle.sg_strata.specs.Program.{Program, IsProgram, row_edges, state_with, graph_with, AnswersSettled}
use Rattle.sg_strata.proofs.Sets.{set_holds, set_rises, equal_edge}

-- an edge to a supertype
pub record IsRowEdge {Q D : Type 0} (p : Program Q D) (closed : Scope → Bool) (row : Scope → List Scope) (s : Scope) (l : ℕ) (t : Scope) : Type 0 where
  pub type : Contains p.types s
  pub has_row : IsTrue (closed s)
  pub label : l ≡ p.super_label
  pub above : Contains (row s) t

-- a test that is not false is true
stays_out : (a b : Bool) → (IsTrue a → IsTrue b) → b ≡ false → a ≡ false
stays_out false b f e = refl
stays_out true b f e = let z : true ≡ false = sym (f refl) ∙ e in cc

not_false : (b : Bool) → IsTrue (not b) → b ≡ false
not_false false h = refl
not_false true h = let z : false ≡ true = h in cc

module _ {Q D : Type 0} (p : Program Q D) where
  pub edge_cases : (closed : Scope → Bool) (row : Scope → List Scope) (s : Scope) (l : ℕ) (t : Scope) → HasEdge (graph_with p closed row) s l t → HasEdge p.skeleton s l t ⊎ IsRowEdge p closed row s l t
  edge_cases closed row s l t h =
      let listed = (set_holds edge_cmp edge_total equal_edge (p.skeleton.edges ++ flat_map (row_edges p row) (filter closed p.types)) (record { from = s; label = l; to = t })).0 h in
      elim (Contains-append_cases p.skeleton.edges (flat_map (row_edges p row) (filter closed p.types)) (record { from = s; label = l; to = t }) listed) [
        | inl old ↦ inl old
        | inr new ↦
            let at = Contains-flat_map (row_edges p row) (filter closed p.types) (record { from = s; label = l; to = t }) new in
            let to = Contains-map (λ (t : Scope). record { from = at.0; label = p.super_label; to = t }) (row at.0) (record { from = s; label = l; to = t }) at.2 in
            let kept = Contains-filter closed p.types at.0 at.1 in
            let from : at.0 ≡ s = ap (λ (e : Edge). e.from) (sym to.2) in
            inr (record {
              type = subst (λ (z : Scope). Contains p.types z) from kept.0;
              has_row = subst (λ (z : Scope). IsTrue (closed z)) from kept.1;
              label = ap (λ (e : Edge). e.label) to.2;
              above = subst (λ (z : Scope). Contains (row z) t) from (subst (λ (z : Scope). Contains (row at.0) z) (ap (λ (e : Edge). e.to) (sym to.2)) to.1);
            })
      ]

  edge_listed : (closed : Scope → Bool) (row : Scope → List Scope) (e : Edge) → Contains (p.skeleton.edges ++ flat_map (row_edges p row) (filter closed p.types)) e → Contains (graph_with p closed row).edges e
  edge_listed closed row e c = (set_holds edge_cmp edge_total equal_edge (p.skeleton.edges ++ flat_map (row_edges p row) (filter closed p.types)) e).1 c

  pub edge_old : (closed : Scope → Bool) (row : Scope → List Scope) (s : Scope) (l : ℕ) (t : Scope) → HasEdge p.skeleton s l t → HasEdge (graph_with p closed row) s l t
  edge_old closed row s l t h =
      edge_listed closed row (record { from = s; label = l; to = t }) (Contains-append_left p.skeleton.edges (flat_map (row_edges p row) (filter closed p.types)) (record { from = s; label = l; to = t }) h)

  pub edge_new : (closed : Scope → Bool) (row : Scope → List Scope) (s : Scope) (l : ℕ) (t : Scope) → IsRowEdge p closed row s l t → HasEdge (graph_with p closed row) s l t
  edge_new closed row s l t h =
      let e : Edge = record { from = s; label = p.super_label; to = t } in
      let new : Contains (flat_map (row_edges p row) (filter closed p.types)) e =
      flat_map-Contains (row_edges p row) (filter closed p.types) s e (filter-Contains closed p.types s h.type h.has_row)
      (map-Contains (λ (t : Scope). record { from = s; label = p.super_label; to = t }) (row s) t h.above) in
      subst (λ (n : ℕ). HasEdge (graph_with p closed row) s n t) (sym h.label)
      (edge_listed closed row e (Contains-append_right p.skeleton.edges (flat_map (row_edges p row) (filter closed p.types)) e new))

  -- the first set's types are in the second, with the same supertypes
  pub record IsPart (first : Scope → Bool) (row : Scope → List Scope) (second : Scope → Bool) (row' : Scope → List Scope) : Type 0 where
    pub within : (c : Scope) → Contains p.types c → IsTrue (first c) → IsTrue (second c)
    pub same : (c : Scope) → Contains p.types c → IsTrue (first c) → row c ≡ row' c

  pub is_open : (first : Scope → Bool) (row : Scope → List Scope) (c : Scope) → Contains p.types c → first c ≡ false → IsOpen (state_with p first row) c p.super_label
  is_open first row c i f =
      map-Contains (λ (c : Scope). (c, p.super_label)) (filter (λ c. not (first c)) p.types) c (filter-Contains (λ c. not (first c)) p.types c i (ap not f))

  module _ (first : Scope → Bool) (row : Scope → List Scope) (second : Scope → Bool) (row' : Scope → List Scope) (part : IsPart first row second row') where
    further : (s : Scope) (l : ℕ) (t : Scope) → IsRowEdge p second row' s l t → (b : Bool) → first s ≡ b → HasEdge (graph_with p first row) s l t ⊎ (IsOpen (state_with p first row) s l ⊎ (HasScope p.skeleton s → ⊥))
    further s l t e true k =
        inl (edge_new first row s l t (record { type = e.type; has_row = k; label = e.label; above = subst (λ (ts : List Scope). Contains ts t) (sym (part.same s e.type k)) e.above }))
    further s l t e false k = inr (inl (subst (λ (n : ℕ). IsOpen (state_with p first row) s n) (sym e.label) (is_open first row s e.type k)))

    grows : Extends (state_with p first row) (graph_with p second row')
    grows = record {
      scopes = λ s h. h;
      edges = λ s l t h. elim (edge_cases first row s l t h) [
        | inl old ↦ edge_old second row' s l t old
        | inr new ↦ edge_new second row' s l t (record {
          type = new.type;
          has_row = part.within s new.type new.has_row;
          label = new.label;
          above = subst (λ (ts : List Scope). Contains ts t) (part.same s new.type new.has_row) new.above;
        })
      ];
      given = λ s d h. h;
      further_edges = λ s l t h. elim (edge_cases second row' s l t h) [
        | inl old ↦ inl (edge_old first row s l t old)
        | inr new ↦ further s l t new (first s) refl
      ];
      further_given = λ s d h. inl h;
    }

    still_open : (s : Scope) (l : ℕ) → IsOpen (state_with p second row') s l → IsOpen (state_with p first row) s l
    still_open s l o =
        let at = Contains-map (λ (c : Scope). (c, p.super_label)) (filter (λ c. not (second c)) p.types) (s, l) o in
        let kept = Contains-filter (λ c. not (second c)) p.types at.0 at.1 in
        let out : first at.0 ≡ false = stays_out (first at.0) (second at.0) (part.within at.0 kept.0) (not_false (second at.0) kept.1) in
        subst (λ (r : Scope × ℕ). Contains (map (λ (c : Scope). (c, p.super_label)) (filter (λ c. not (first c)) p.types)) r) (sym at.2)
        (map-Contains (λ (c : Scope). (c, p.super_label)) (filter (λ c. not (first c)) p.types) at.0 (filter-Contains (λ c. not (first c)) p.types at.0 kept.0 (ap not out)))

    later : Follows (state_with p first row) (state_with p second row')
    later = record { extends = grows; rows = λ s l o. inl (still_open s l o); data_at = λ s u. inl u }

  -- the supertypes are scopes of the skeleton
  abbrev pub Inside : (Scope → Bool) → (Scope → List Scope) → Type 0
  Inside closed row = (c : Scope) → Contains p.types c → IsTrue (closed c) → (t : Scope) → Contains (row c) t → HasScope p.skeleton t

  module _ (ok : IsProgram p) where
    pub is_graph : (closed : Scope → Bool) (row : Scope → List Scope) → Inside closed row → IsGraph (graph_with p closed row)
    is_graph closed row inside = record {
      scopes_rise = ok.graph.scopes_rise;
      edges_rise = set_rises edge_cmp edge_total equal_edge (p.skeleton.edges ++ flat_map (row_edges p row) (filter closed p.types));
      data_rise = ok.graph.data_rise;
      labelled = λ s l t h. elim (edge_cases closed row s l t h) [
        | inl old ↦ ok.graph.labelled s l t old
        | inr new ↦ subst (λ (n : ℕ). n < 16) (sym new.label) ok.labelled
      ];
      source = λ s l t h. elim (edge_cases closed row s l t h) [ inl old ↦ ok.graph.source s l t old | inr new ↦ ok.placed s new.type ];
      target = λ s l t h. elim (edge_cases closed row s l t h) [
        | inl old ↦ ok.graph.target s l t old
        | inr new ↦ inside s new.type new.has_row t new.above
      ];
      placed = ok.graph.placed;
    }

    -- what is settled stays settled, with its answer, where more types have their supertypes
    pub settled_moves : (first : Scope → Bool) (row : Scope → List Scope) (second : Scope → Bool) (row' : Scope → List Scope) → IsPart first row second row' → Inside first row → (q : Q) (a : Answer D) → HasScope p.skeleton (p.asked q).start → AnswersSettled p (state_with p first row) q a → AnswersSettled p (state_with p second row') q a
    settled_moves first row second row' part inside q a start s =
        let alike : LooksAlike (state_with p first row) (state_with p second row') (p.asked q) =
        follows_alike (state_with p first row) (state_with p second row') (p.asked q) (is_graph first row inside) start (later first row second row' part) in (
          settled_over (state_with p first row) (state_with p second row') (p.asked q) alike s.0,
          (answer_over (state_with p first row) (state_with p second row') (p.asked q) alike s.0 a).1 s.1,
        )
