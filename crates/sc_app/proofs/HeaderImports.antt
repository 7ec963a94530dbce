-- What the imports of a folder's files ask and give.
use Rattle.std.proofs.Common.{◌≡◌, ℕ, ◌<◌, List, ◌⊎◌, IsTrue, length, map, inl, inr, refl, sym, ap, ◌∙◌, subst, arith}
use Rattle.std.specs.List.{Contains}
use Rattle.std.proofs.lemmas.List.{length-map}
use Rattle.std.proofs.lemmas.List.Elements.{All-contains, Contains-append_cases}
use Rattle.sg_base.specs.declared.scope.Scope.{Scope}
use Rattle.sg_base.specs.Graph.{Edge}
use Rattle.sg_base.proofs.Finite.{Contains-map}
use Rattle.sg_query.specs.declared.answer.Answer.{Answer}
use Rattle.sg_query.specs.declared.query.Query.{Query}
use Rattle.sg_query.proofs.Answering.{answers_are_one}
use Rattle.sg_query.proofs.Existing.{answers_exist}
use Rattle.sg_reading.specs.Reading.{done, AllAsked, Gives}
use Rattle.sg_reading.proofs.Asking.{and_then-asked}
use Rattle.sg_reading.proofs.Readings.{AllAsked-both, Gives-ends, Gives-same, Gives-where_answered}
use Rattle.jv_instance.specs.declared.datum.JavaDatum.{JavaDatum}
use Rattle.jv_instance.specs.declared.labels.TheConstants.{SIMP, ODI}
use Rattle.jv_instance.specs.declared.pred.JavaPred.{JavaPred}
use Rattle.jv_layout.specs.Folder.{LayoutOf}
use Rattle.jv_layout.specs.Scopes.{file_scope, place_of}
use Rattle.jv_names.specs.declared.context.Context.TheVariants.{OnDemandImport}
use Rattle.jv_names.specs.Bounds.{is_start, IsMeant, IsNameQuery, IsTypeScope, StaysIn}
use Rattle.jv_names.specs.Kinds.{asked_by}
use Rattle.jv_names.specs.Law.{InGraph}
use Rattle.jv_names.proofs.Bounds.{done_stays, package_starts, then_stays, type_starts}
use Rattle.jv_header.specs.Bounds.{AreImportsIn}
use Rattle.jv_header.specs.Imports.{ImportsOf, import_edges, imports_rule}
use Rattle.jv_header.specs.Law.{AsksForOwn}
use Rattle.jv_header.proofs.Bounds.{imports_rule_stays}
use Rattle.jv_header.proofs.ImportQueries.{imports_ask_for_own}
use Rattle.jv_tree.specs.declared.names.NameId.{NameId}
use Rattle.jv_unit.specs.Folder.{FolderOf, IsFolderOf}
use Rattle.jv_unit.specs.Plans.{file_edges}
use Rattle.jv_unit.specs.Trees.{unit_at}
use Rattle.jv_unit.proofs.Numbers.{imports_numbered}
use Rattle.sc_app.specs.FolderGraph.{opened_graph}
use Rattle.sc_app.proofs.HeaderHolds.{begun_opens}

-- an edge of the imports of a file: from the file, in one of its two rows, to a type or a package
pub record IsImportEdge (l : LayoutOf) (f : ℕ) (e : Edge) : Type 0 where
  pub from : e.from ≡ file_scope l f
  pub label : (e.label ≡ SIMP) ⊎ (e.label ≡ ODI)
  pub to : IsTrue (is_start (place_of l e.to))

module _ (l : LayoutOf) (f : ℕ) where
  meant_starts : (s : Scope) → IsMeant l OnDemandImport s → IsTrue (is_start (place_of l s))
  meant_starts s m = elim m [ inl t ↦ type_starts (place_of l s) t | inr p ↦ package_starts (place_of l s) p ]

  import_edge : (i : ImportsOf) → AreImportsIn l i → (e : Edge) → Contains (import_edges l f i) e → IsImportEdge l f e
  import_edge i k e c =
      let s = file_scope l f in
      let single = λ (p : NameId × Scope). (let e : Edge = record { from = s; label = SIMP; to = p.1 } in e) in
      let on_demand = λ (t : Scope). (let e : Edge = record { from = s; label = ODI; to = t } in e) in
      elim (Contains-append_cases (map single i.singles) (map on_demand i.on_demand) e c) [
        | inl m ↦
            let x = Contains-map single i.singles e m in
            let to = type_starts (place_of l (x.0).1) (All-contains (λ (p : NameId × Scope). IsTypeScope l p.1) i.singles x.0 k.singles x.1) in
            subst (λ (e : Edge). IsImportEdge l f e) (sym x.2) (record { from = refl; label = inl refl; to = to })
        | inr m ↦
            let x = Contains-map on_demand i.on_demand e m in
            let to = meant_starts x.0 (All-contains (IsMeant l OnDemandImport) i.on_demand x.0 k.on_demand x.1) in
            subst (λ (e : Edge). IsImportEdge l f e) (sym x.2) (record { from = refl; label = inr refl; to = to })
      ]

  abbrev AreImportEdges : List Edge → Type 0
  AreImportEdges es = (e : Edge) → Contains es e → IsImportEdge l f e

module _ (w : FolderOf) (h : IsFolderOf w) where
  module _ (f : ℕ) (within : f < length w.layout.files) where
    file_within : f < length w.files
    file_within = omega (arith, within, sym (length-map w.files _) ∙ sym (ap (λ (l : LayoutOf). length l.files) h.layout))

    imports_stay : StaysIn w.layout (length w.names) (AreImportsIn w.layout) (imports_rule w.layout w.names f (unit_at w.files f))
    imports_stay = imports_rule_stays w.layout (length w.names) f w.names (unit_at w.files f) (imports_numbered (length w.names) w.files h.numbered f file_within)

    edges_stay : StaysIn w.layout (length w.names) (AreImportEdges w.layout f) (file_edges w f)
    edges_stay =
        then_stays w.layout (length w.names) (AreImportsIn w.layout) (AreImportEdges w.layout f) (imports_rule w.layout w.names f (unit_at w.files f)) (λ i. done (import_edges w.layout f i)) imports_stay
        (λ i k. done_stays w.layout (length w.names) (AreImportEdges w.layout f) (import_edges w.layout f i) (import_edge w.layout f i k))

    -- whatever the answers, the edges are those of imports
    pub given_imports : (R : Query JavaPred → Answer JavaDatum → Type 0) (es : List Edge) (qs : List (Query JavaPred)) → Gives R (file_edges w f) es qs → (e : Edge) → Contains es e → IsImportEdge w.layout f e
    given_imports R es qs g = Gives-ends (AreImportEdges w.layout f) R (file_edges w f) es qs edges_stay.ends g

    -- and the queries are those of names, for what a package or a type declares itself
    pub imports_ask : AllAsked (λ q. IsNameQuery w.layout (length w.names) q × AsksForOwn q) (file_edges w f)
    imports_ask =
        and_then-asked (λ q. IsNameQuery w.layout (length w.names) q × AsksForOwn q) (imports_rule w.layout w.names f (unit_at w.files f)) (λ i. done (import_edges w.layout f i))
        (AllAsked-both (IsNameQuery w.layout (length w.names)) AsksForOwn (imports_rule w.layout w.names f (unit_at w.files f)) imports_stay.asks (imports_ask_for_own w.layout w.names f (unit_at w.files f)))
        (λ i. tt)

  -- at the opening the imports of a file give edges
  pub imports_of : (f : ℕ) → (es : List Edge) × (qs : List (Query JavaPred)) × Gives (InGraph (opened_graph w.layout)) (file_edges w f) es qs
  imports_of f = Gives-where_answered (InGraph (opened_graph w.layout)) (file_edges w f) (λ q k. answers_exist JavaDatum (opened_graph w.layout) (asked_by q) ((begun_opens w h).held).graph)

  -- and no others
  pub one_imports : (f : ℕ) (es es' : List Edge) (qs qs' : List (Query JavaPred)) → Gives (InGraph (opened_graph w.layout)) (file_edges w f) es qs → Gives (InGraph (opened_graph w.layout)) (file_edges w f) es' qs' → es ≡ es'
  one_imports f es es' qs qs' g g' =
      (Gives-same (InGraph (opened_graph w.layout)) (λ q a b x y. answers_are_one JavaDatum (opened_graph w.layout) (asked_by q) a b x y) (file_edges w f) es es' qs qs' g g').0
