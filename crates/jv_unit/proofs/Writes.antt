-- The writes of a file are those of the edges that its imports give.
use Rattle.std.proofs.Common.{◌≡◌, ℕ, List, [], ◌∷◌, ◌++◌, map, sym, ap, ◌∙◌, append_assoc}
use Rattle.std.proofs.lemmas.List.{map-append}
use Rattle.std.proofs.lemmas.Simd.{map-map}
use Rattle.sg_base.specs.declared.scope.Scope.{Scope}
use Rattle.sg_base.specs.Graph.{Edge}
use Rattle.sg_script.specs.declared.write.Write.{Write}
use Rattle.sg_script.specs.declared.write.Write.TheVariants.{AddEdge, CloseRow}
use Rattle.sg_script.specs.Script.{edge_writes}
use Rattle.jv_instance.specs.declared.datum.JavaDatum.{JavaDatum}
use Rattle.jv_instance.specs.declared.labels.TheConstants.{SIMP, ODI}
use Rattle.jv_header.specs.Imports.{ImportsOf, import_edges}
use Rattle.jv_layout.specs.Folder.{LayoutOf}
use Rattle.jv_layout.specs.Scopes.{file_scope}
use Rattle.jv_tree.specs.declared.names.NameId.{NameId}
use Rattle.jv_unit.specs.Plans.{file_rows}

abbrev Writing : Type 0
Writing = List (Write JavaDatum)

-- the write of an edge
abbrev adding : Edge → Write JavaDatum
adding e = AddEdge e.from e.label e.to

module _ (l : LayoutOf) (f : ℕ) (i : ImportsOf) where
  from : Scope
  from = file_scope l f

  abbrev singles : Writing
  singles = map (λ (p : NameId × Scope). let w : Write JavaDatum = AddEdge (file_scope l f) SIMP p.1 in w) i.singles

  abbrev on_demand : Writing
  on_demand = map (λ (s : Scope). let w : Write JavaDatum = AddEdge (file_scope l f) ODI s in w) i.on_demand

  both : map adding (import_edges l f i) ≡ singles ++ on_demand
  both =
      map-append adding (map (λ (p : NameId × Scope). let e : Edge = record { from = file_scope l f; label = SIMP; to = p.1 } in e) i.singles) (map (λ (s : Scope). let e : Edge = record { from = file_scope l f; label = ODI; to = s } in e) i.on_demand)
      ∙ λ n. map-map adding (λ (p : NameId × Scope). let e : Edge = record { from = file_scope l f; label = SIMP; to = p.1 } in e) i.singles n ++ map-map adding (λ (s : Scope). let e : Edge = record { from = file_scope l f; label = ODI; to = s } in e) i.on_demand n

  pub import_writes_are : (none first second third all : Writing) → none ≡ [] → first ≡ none ++ singles → second ≡ first ++ on_demand → third ≡ second ++ CloseRow (file_scope l f) SIMP ∷ [] → all ≡ third ++ CloseRow (file_scope l f) ODI ∷ [] → all ≡ edge_writes (file_rows l f) (import_edges l f i)
  import_writes_are none first second third all n a b c d =
      let closes : Writing = CloseRow (file_scope l f) SIMP ∷ CloseRow (file_scope l f) ODI ∷ [] in
      let begins : first ≡ singles = a ∙ ap (λ (ws : Writing). ws ++ singles) n in
      let edges : second ≡ singles ++ on_demand = b ∙ ap (λ (ws : Writing). ws ++ on_demand) begins in
      d ∙ (ap (λ (ws : Writing). ws ++ CloseRow (file_scope l f) ODI ∷ []) c ∙ (append_assoc second (CloseRow (file_scope l f) SIMP ∷ []) (CloseRow (file_scope l f) ODI ∷ []) ∙ ap (λ (ws : Writing). ws ++ closes) (edges ∙ sym both)))
