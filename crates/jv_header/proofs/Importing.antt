-- Imports, as a loop over them adds what they give.
use Rattle.std.proofs.Common.{◌≡◌, ℕ, ◌≤◌, ◌⊎◌, inl, inr, Bool, cond, ◌||◌, ◌&&◌, List, [], ◌∷◌, ◌++◌, Result, Ok, Err, OnOk, map, drop, length, refl, ◌∙◌, ap}
use Rattle.std.specs.Prelude.{not}
use Rattle.std.proofs.lemmas.List.{at_drop_all}
use Rattle.sg_base.specs.declared.scope.Scope.{Scope}
use Rattle.jv_diag.specs.Plain.{DiagOf, fault_if}
use Rattle.jv_layout.specs.Folder.{LayoutOf}
use Rattle.jv_tree.specs.declared.declaration.Import.{Import}
use Rattle.jv_tree.specs.declared.name.Ident.{Ident}
use Rattle.jv_tree.specs.declared.names.NameId.{NameId}
use Rattle.jv_tree.specs.DeclTree.{TypeDeclTree, ImportTree, import_tree}
use Rattle.jv_names.specs.declared.reference.Reference.{Reference}
use Rattle.jv_names.specs.Written.{last_name}
use Rattle.jv_header.specs.Imports.{ImportsOf, at_import, by_clashes, declares, imports_from, is_own, is_taken, with_single}

pub on_ok_more : {X E P Q : Type 0} (r : Result X E) → (P → Q) → OnOk r P → OnOk r Q
on_ok_more (Ok x) f h = f h
on_ok_more (Err e) f h = tt

module _ (l : LayoutOf) (names : List (List ℕ)) (file : ℕ) (ds : List TypeDeclTree) (w : ImportsOf) where
  -- a single import by its clashes
  pub single_given : (old : List (NameId × Scope)) (on_demand : List Scope) (before : List DiagOf) (ids : List Ident) (s : Scope) (own taken : Bool) (name : NameId) (singles : List (NameId × Scope)) (diags : List DiagOf)
      → record { singles = old; on_demand = on_demand; diags = before } ≡ w → name ≡ last_name ids → own ≡ (declares ds name && not (is_own l file s)) → taken ≡ is_taken w.singles name s
      → singles ≡ cond (own || taken) old (old ++ (name, s) ∷ []) → diags ≡ before ++ (fault_if own (at_import names file 13 ids) ++ fault_if taken (at_import names file 14 ids))
      → record { singles = singles; on_demand = on_demand; diags = diags } ≡ with_single l names file ds w ids s
  single_given old on_demand before ids s own taken name singles diags at_w at_name at_own at_taken at_singles at_diags =
      let here : ImportsOf = record { singles = old; on_demand = on_demand; diags = before } in
      let named : singles ≡ cond (own || taken) old (old ++ (last_name ids, s) ∷ []) = at_singles ∙ ap (λ (n : NameId). cond (own || taken) old (old ++ (n, s) ∷ [])) at_name in
      let by_tests : record { singles = singles; on_demand = on_demand; diags = diags } ≡ by_clashes names file here ids s own taken = λ j. record { singles = named j; on_demand = on_demand; diags = at_diags j } in
      let is_hiding : own ≡ (declares ds (last_name ids) && not (is_own l file s)) = at_own ∙ ap (λ (n : NameId). declares ds n && not (is_own l file s)) at_name in
      let is_second : taken ≡ is_taken w.singles (last_name ids) s = at_taken ∙ ap (λ (n : NameId). is_taken w.singles n s) at_name in
      by_tests ∙ (ap (λ (v : ImportsOf). by_clashes names file v ids s own taken) at_w ∙ (λ j. by_clashes names file w ids s (is_hiding j) (is_second j)))

  no_import_reference : (is : List ImportTree) → imports_from l names file ds w is [] ≡ w
  no_import_reference [] = refl
  no_import_reference (i ∷ is) = refl

  -- no import is left, or no reference
  pub imports_over : (imports : List Import) (found : List Reference) (i : ℕ) → (length imports ≤ i) ⊎ (length found ≤ i) → imports_from l names file ds w (map import_tree (drop i imports)) (drop i found) ≡ w
  imports_over imports found i (inl h) = at_drop_all (λ (is : List Import). imports_from l names file ds w (map import_tree is) (drop i found)) imports i h
  imports_over imports found i (inr h) = at_drop_all (λ (rs : List Reference). imports_from l names file ds w (map import_tree (drop i imports)) rs) found i h ∙ no_import_reference (map import_tree (drop i imports))
