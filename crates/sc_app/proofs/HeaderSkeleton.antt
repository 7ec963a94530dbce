-- A folder has a skeleton: the graph of its opening with the edges of all imports.
use Rattle.std.proofs.Common.{ℕ, ◌<◌, List, ◌++◌, ◌⊎◌, length, inl, inr, refl, sym, subst, arith}
use Rattle.std.specs.List.{Contains, flat_map}
use Rattle.std.proofs.lemmas.List.Elements.{Contains-append_cases, Contains-append_left, Contains-append_right}
use Rattle.sg_base.specs.declared.scope.Scope.{Scope}
use Rattle.sg_base.specs.List.{IsRising}
use Rattle.sg_base.specs.Graph.{Edge, GraphOf, HasScope, IsGraph, edge_cmp, edge_total}
use Rattle.sg_base.proofs.Finite.{Contains-flat_map, flat_map-Contains}
use Rattle.sg_state.proofs.SoundOpenings.{scope_in}
use Rattle.sg_strata.specs.List.{set_of}
use Rattle.sg_strata.proofs.Sets.{equal_edge, set_holds, set_rises}
use Rattle.jv_instance.specs.declared.datum.JavaDatum.{JavaDatum}
use Rattle.jv_instance.specs.declared.labels.TheConstants.{SIMP}
use Rattle.jv_layout.specs.Scopes.{file_scope}
use Rattle.jv_layout.specs.Skeleton.{below, skeleton_of}
use Rattle.jv_layout.proofs.SoundLists.{from_below}
use Rattle.jv_names.specs.Law.{InGraph}
use Rattle.jv_header.proofs.Programs.{start_is_listed}
use Rattle.jv_unit.specs.Folder.{FolderOf, IsFolderOf}
use Rattle.sc_app.specs.FolderGraph.{GivesImport, IsSkeleton, opened_graph}
use Rattle.sc_app.specs.FolderRun.{ruled}
use Rattle.sc_app.proofs.HeaderHolds.{begun_opens, holds_file_row, in_below, skeleton_sound}
use Rattle.sc_app.proofs.HeaderImports.{IsImportEdge, given_imports, imports_of, one_imports}

module _ (w : FolderOf) (h : IsFolderOf w) where
  abbrev first : GraphOf JavaDatum
  first = opened_graph w.layout

  -- an edge of the opening, or one of the imports of a file
  abbrev pub IsSkeletonEdge : Edge → Type 0
  IsSkeletonEdge e = Contains first.edges e ⊎ ((f : ℕ) × (f < length w.layout.files) × IsImportEdge w.layout f e)

  -- such edges stand in rows of scopes of the opening, and lead to such
  module _ (edges : List Edge) (each : (e : Edge) → Contains edges e → IsSkeletonEdge e) (rising : IsRising edge_cmp edges) where
    edge_labelled : (s : Scope) (k : ℕ) (t : Scope) → Contains edges (record { from = s; label = k; to = t }) → k < 16
    edge_labelled s k t c = elim (each (record { from = s; label = k; to = t }) c) [
      | inl old ↦ ((begun_opens w h).held).graph.labelled s k t old
      | inr new ↦ elim (new.2).label [ inl e ↦ omega (arith, e) | inr e ↦ omega (arith, e) ]
    ]

    edge_source : (s : Scope) (k : ℕ) (t : Scope) → Contains edges (record { from = s; label = k; to = t }) → HasScope first s
    edge_source s k t c = elim (each (record { from = s; label = k; to = t }) c) [
      | inl old ↦ ((begun_opens w h).held).graph.source s k t old
      | inr new ↦ subst (λ (x : Scope). HasScope first x) (sym (new.2).from) (((begun_opens w h).held).row_at new.0 (file_scope w.layout new.0) SIMP (holds_file_row w h new.0 new.1 SIMP (inl refl)))
    ]

    edge_target : (s : Scope) (k : ℕ) (t : Scope) → Contains edges (record { from = s; label = k; to = t }) → HasScope first t
    edge_target s k t c = elim (each (record { from = s; label = k; to = t }) c) [
      | inl old ↦ ((begun_opens w h).held).graph.target s k t old
      | inr new ↦ (scope_in (skeleton_of w.layout) (skeleton_sound w h) t).1 (start_is_listed w.layout t (new.2).to)
    ]

    graph_of_edges : IsGraph (record { scopes = first.scopes; edges = edges; given = first.given })
    graph_of_edges = record {
      scopes_rise = ((begun_opens w h).held).graph.scopes_rise;
      edges_rise = rising;
      data_rise = ((begun_opens w h).held).graph.data_rise;
      labelled = edge_labelled;
      source = edge_source;
      target = edge_target;
      placed = ((begun_opens w h).held).graph.placed;
    }

  -- ---- the edges

  abbrev added : List Edge
  added = flat_map (λ f. (imports_of w h f).0) (below (length w.layout.files))

  abbrev all_edges : List Edge
  all_edges = set_of edge_cmp (first.edges ++ added)

  abbrev IsAdded : Edge → Type 0
  IsAdded e = Contains first.edges e ⊎ ((f : ℕ) × (f < length w.layout.files) × GivesImport (ruled w) f e)

  edge_from : (e : Edge) → Contains all_edges e → IsAdded e
  edge_from e c = elim (Contains-append_cases first.edges added e ((set_holds edge_cmp edge_total equal_edge (first.edges ++ added) e).0 c)) [
    | inl old ↦ inl old
    | inr new ↦
        let x = Contains-flat_map (λ f. (imports_of w h f).0) (below (length w.layout.files)) e new in
        let i = imports_of w h x.0 in
        inr (x.0, from_below (length w.layout.files) x.0 x.1, (i.0, i.1, i.2, x.2))
  ]

  edge_to : (e : Edge) → IsAdded e → Contains all_edges e
  edge_to e a = (set_holds edge_cmp edge_total equal_edge (first.edges ++ added) e).1 (elim a [
    | inl old ↦ Contains-append_left first.edges added e old
    | inr new ↦
        let g : GivesImport (ruled w) new.0 e = new.2 in
        let i = imports_of w h new.0 in
        Contains-append_right first.edges added e
        (flat_map-Contains (λ f. (imports_of w h f).0) (below (length w.layout.files)) new.0 e (in_below (length w.layout.files) new.0 new.1)
        (subst (λ (es : List Edge). Contains es e) (one_imports w h new.0 g.0 i.0 g.1 i.1 g.2 i.2) g.3))
  ])

  edge_kind : (e : Edge) → IsAdded e → IsSkeletonEdge e
  edge_kind e a = elim a [
    | inl old ↦ inl old
    | inr new ↦
        let g : GivesImport (ruled w) new.0 e = new.2 in
        inr (new.0, new.1, given_imports w h new.0 new.1 (InGraph first) g.0 g.1 g.2 e g.3)
  ]

  pub skeleton_exists : (g : GraphOf JavaDatum) × IsSkeleton (ruled w) g
  skeleton_exists = (
    record { scopes = first.scopes; edges = all_edges; given = first.given },
    record {
      graph = graph_of_edges all_edges (λ e c. edge_kind e (edge_from e c)) (set_rises edge_cmp edge_total equal_edge (first.edges ++ added));
      scopes = refl;
      given = refl;
      edges = λ e. (edge_from e, edge_to e);
    },
  )

  -- an edge of a skeleton is one of the opening, or of imports
  pub skeleton_edge : (g : GraphOf JavaDatum) → IsSkeleton (ruled w) g → (e : Edge) → Contains g.edges e → IsSkeletonEdge e
  skeleton_edge g k e c = edge_kind e ((k.edges e).0 c)
