-- In the skeleton with its imports, edges to signatures have the label of signatures.
use Rattle.std.proofs.Common.{◌≡◌, ℕ, ◌<◌, List, map, length, inl, inr, sym, ap, ◌∙◌, subst, arith}
use Rattle.std.specs.List.{Contains}
use Rattle.std.proofs.lemmas.List.{length-map}
use Rattle.std.proofs.lemmas.List.Elements.{All-contains, Contains-append_cases}
use Rattle.sg_base.specs.declared.scope.Scope.{Scope}
use Rattle.sg_base.specs.Graph.{Edge, GraphOf}
use Rattle.sg_base.proofs.Finite.{Contains-map}
use Rattle.sg_reading.specs.Reading.{done, AllEnds}
use Rattle.sg_reading.proofs.Asking.{and_then-ends}
use Rattle.sg_reading.proofs.Readings.{Gives-ends}
use Rattle.sg_state.proofs.SoundOpenings.{edge_in}
use Rattle.sg_strata.specs.Program.{IsQuiet}
use Rattle.jv_instance.specs.declared.datum.JavaDatum.{JavaDatum}
use Rattle.jv_instance.specs.declared.labels.TheConstants.{SIMP, ODI}
use Rattle.jv_layout.specs.Folder.{LayoutOf}
use Rattle.jv_layout.specs.Scopes.{file_scope, place_of}
use Rattle.jv_layout.specs.Skeleton.{skeleton_of}
use Rattle.jv_layout.proofs.SoundSkeletons.{skeletons_are_sound}
use Rattle.jv_names.specs.declared.context.Context.TheVariants.{OnDemandImport}
use Rattle.jv_names.specs.Bounds.{IsMeant, IsTypeScope}
use Rattle.jv_names.specs.Law.{InGraph}
use Rattle.jv_names.proofs.Bounds.{package_starts, type_starts}
use Rattle.jv_tree.specs.declared.names.NameId.{NameId}
use Rattle.jv_header.specs.Bounds.{AreImportsIn}
use Rattle.jv_header.specs.Imports.{ImportsOf, import_edges, imports_rule}
use Rattle.jv_header.specs.Law.{ReachesSignaturesBySig, signatures_of}
use Rattle.jv_header.proofs.Bounds.{imports_rule_stays}
use Rattle.jv_header.proofs.Programs.{headers_are_quiet, signature_edges_labelled, starts_at_none}
use Rattle.jv_unit.specs.Folder.{FolderOf, IsFolderOf}
use Rattle.jv_unit.specs.Plans.{file_edges}
use Rattle.jv_unit.specs.Trees.{extends_of, implements_of, unit_at}
use Rattle.jv_unit.proofs.Numbers.{imports_numbered}
use Rattle.sc_app.specs.FolderGraph.{IsSkeleton, decl_of, headers_of, opened_graph}
use Rattle.sc_app.specs.FolderRun.{ruled}

module _ (w : FolderOf) (folder : IsFolderOf w) where
  abbrev IsNone : Scope → Type 0
  IsNone s = Contains (signatures_of w.layout) s → ⊥

  type_is_none : (s : Scope) → IsTypeScope w.layout s → IsNone s
  type_is_none s h = starts_at_none w.layout s (type_starts (place_of w.layout s) h)

  meant_is_none : (s : Scope) → IsMeant w.layout OnDemandImport s → IsNone s
  meant_is_none s m = elim m [ inl h ↦ type_is_none s h | inr h ↦ starts_at_none w.layout s (package_starts (place_of w.layout s) h) ]

  -- an import leads to a type or a package
  import_target : (f : ℕ) (i : ImportsOf) → AreImportsIn w.layout i → (e : Edge) → Contains (import_edges w.layout f i) e → IsNone e.to
  import_target f i k e c =
      let single : NameId × Scope → Edge = λ p. record { from = file_scope w.layout f; label = SIMP; to = p.1 } in
      let on_demand : Scope → Edge = λ t. record { from = file_scope w.layout f; label = ODI; to = t } in
      elim (Contains-append_cases (map single i.singles) (map on_demand i.on_demand) e c) [
        | inl m ↦
            let x = Contains-map single i.singles e m in
            subst (λ (b : Edge). IsNone b.to) (sym x.2) (type_is_none (x.0).1 (All-contains (λ (p : NameId × Scope). IsTypeScope w.layout p.1) i.singles x.0 k.singles x.1))
        | inr m ↦
            let x = Contains-map on_demand i.on_demand e m in
            subst (λ (b : Edge). IsNone b.to) (sym x.2) (meant_is_none x.0 (All-contains (IsMeant w.layout OnDemandImport) i.on_demand x.0 k.on_demand x.1))
      ]

  module _ (f : ℕ) (within : f < length w.layout.files) where
    file_within : f < length w.files
    file_within = omega (arith, within, files_are)
      where
        files_are : length w.files ≡ length w.layout.files
        files_are = sym (length-map w.files _) ∙ sym (ap (λ (l : LayoutOf). length l.files) folder.layout)

    targets : AllEnds (λ (es : List Edge). (e : Edge) → Contains es e → IsNone e.to) (file_edges w f)
    targets =
        and_then-ends (AreImportsIn w.layout) (λ (es : List Edge). (e : Edge) → Contains es e → IsNone e.to) (imports_rule w.layout w.names f (unit_at w.files f)) (λ i. done (import_edges w.layout f i))
        (imports_rule_stays w.layout (length w.names) f w.names (unit_at w.files f) (imports_numbered (length w.names) w.files folder.numbered f file_within)).ends
        (λ i k. import_target f i k)

  module _ (g : GraphOf JavaDatum) (skeleton : IsSkeleton (ruled w) g) where
    reached : ReachesSignaturesBySig w.layout g
    reached s k t e sig =
        let b : Edge = record { from = s; label = k; to = t } in
        elim ((skeleton.edges b).0 e) [
          | inl o ↦ signature_edges_labelled w.layout folder.linked b ((edge_in (skeleton_of w.layout) (skeletons_are_sound w.layout folder.linked folder.few) b).0 o) sig
          | inr i ↦
              let given = i.2 in
              absurd (Gives-ends (λ (es : List Edge). (e : Edge) → Contains es e → IsNone e.to) (InGraph (opened_graph w.layout)) (file_edges w i.0) given.0 given.1 (targets i.0 i.1) given.2 b given.3 sig)
        ]

    -- so headers over it look at no signature
    pub headers_look_away : IsQuiet (headers_of (ruled w) g)
    headers_look_away = headers_are_quiet w.layout folder.linked w.names (λ c. extends_of (decl_of (ruled w) c)) (λ c. implements_of (decl_of (ruled w) c)) g reached
