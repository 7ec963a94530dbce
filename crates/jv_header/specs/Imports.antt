-- The imports of a file by what their names mean: the edges that they give, and their diagnostics (JLS 7.5).
use Rattle.std.specs.Prelude.{ℕ, List, [], ◌∷◌, ◌++◌, Bool, true, false, not, cond, ◌==◌, ◌&&◌, ◌||◌, map, Option, None, Some}
use Rattle.std.specs.List.{list_any}
use Rattle.sg_base.specs.declared.scope.Scope.{Scope}
use Rattle.sg_base.specs.Graph.{Edge}
use Rattle.sg_base.specs.Scope.{is_scope}
use Rattle.sg_reading.specs.Reading.{done, and_then, each}
use Rattle.jv_diag.specs.declared.codes.TheConstants.{IMPORT_CLASHES_WITH_IMPORT, IMPORT_CLASHES_WITH_TYPE, TOO_MANY_PATHS, UNKNOWN_IMPORT}
use Rattle.jv_diag.specs.Plain.{DiagOf, diagnostic, fault_if}
use Rattle.jv_instance.specs.declared.labels.TheConstants.{SIMP, ODI}
use Rattle.jv_layout.specs.Folder.{LayoutOf, text_of}
use Rattle.jv_layout.specs.Readers.{file_of, owner_scope}
use Rattle.jv_layout.specs.Scopes.{file_scope}
use Rattle.jv_tree.specs.declared.name.Ident.{Ident}
use Rattle.jv_tree.specs.declared.names.NameId.{NameId}
use Rattle.jv_tree.specs.DeclTree.{ImportTree, TypeDeclTree, type_decl, UnitTree}
use Rattle.jv_names.specs.declared.meaning.Meaning.{Meaning}
use Rattle.jv_names.specs.declared.meaning.Meaning.TheVariants.{One, Nothing, Ambiguous, TooMany}
use Rattle.jv_names.specs.declared.reference.Reference.{Reference}
use Rattle.jv_names.specs.Names.{import_rule}
use Rattle.jv_names.specs.Reference.{refused, access_diags}
use Rattle.jv_names.specs.Replies.{Rule}
use Rattle.jv_names.specs.Written.{last_name, written, start_of}

-- ---- one import

-- what the name of an import means, and which of the types that its parts mean are not accessible; an import stands in no body
unfoldable pub import_reference : LayoutOf → ℕ → ImportTree → Rule Reference
import_reference l file i = and_then (import_rule l i) (λ r. and_then (refused l file [] [] r.types) (λ ts. done (record { meaning = r.meaning; refused = ts })))

-- the simple name of a declaration
abbrev pub declared_name : TypeDeclTree → NameId
declared_name (type_decl name ms i es is xs) = name.id

-- a top-level type of a file has this name
abbrev pub declares : List TypeDeclTree → NameId → Bool
declares ds n = list_any (λ d. (declared_name d).0 == n.0) ds

-- whether there is none
abbrev pub is_none : {A : Type 0} → Option A → Bool
is_none None = true
is_none (Some a) = false

-- a type is a top-level type of the file
abbrev pub is_own : LayoutOf → ℕ → Scope → Bool
is_own l file s = (file_of l s == file) && is_none (owner_scope l s)

-- ---- what the imports so far gave

-- the single imports that stand, by their last identifiers; the scopes that are imported on demand; the diagnostics
pub record ImportsOf : Type 0 where
  pub singles : List (NameId × Scope)
  pub on_demand : List Scope
  pub diags : List DiagOf

-- an earlier single import that stands brought another type under this name
abbrev pub is_taken : List (NameId × Scope) → NameId → Scope → Bool
is_taken singles n s = list_any (λ p. (p.0.0 == n.0) && not (is_scope p.1 s)) singles

-- a code with the last identifier of a name at its first token
abbrev pub at_import : List (List ℕ) → ℕ → ℕ → List Ident → DiagOf
at_import names file code ids = diagnostic file (start_of ids) code (text_of names (last_name ids).0 ∷ [])

-- a single import of a type, by whether it clashes with a type of the file, and with an earlier import; else it stands
abbrev pub by_clashes : List (List ℕ) → ℕ → ImportsOf → List Ident → Scope → Bool → Bool → ImportsOf
by_clashes names file w ids s own taken = record {
  singles = cond (own || taken) w.singles (w.singles ++ (last_name ids, s) ∷ []);
  on_demand = w.on_demand;
  diags = w.diags ++ (fault_if own (at_import names file IMPORT_CLASHES_WITH_TYPE ids) ++ fault_if taken (at_import names file IMPORT_CLASHES_WITH_IMPORT ids));
}

-- a single import of a type, behind the imports so far, by the top-level types of its file
abbrev pub with_single : LayoutOf → List (List ℕ) → ℕ → List TypeDeclTree → ImportsOf → List Ident → Scope → ImportsOf
with_single l names file ds w ids s = by_clashes names file w ids s (declares ds (last_name ids) && not (is_own l file s)) (is_taken w.singles (last_name ids) s)

-- an import by what it means; a static one gives no edge, and clashes with nothing
abbrev pub with_meaning : LayoutOf → List (List ℕ) → ℕ → List TypeDeclTree → ImportsOf → ImportTree → Meaning → ImportsOf
with_meaning l names file ds w i (One s) =
    cond i.is_static (record { singles = w.singles; on_demand = w.on_demand; diags = w.diags })
    (cond i.all (record { singles = w.singles; on_demand = w.on_demand ++ s ∷ []; diags = w.diags }) (with_single l names file ds w i.name s))
with_meaning l names file ds w i Nothing = record { singles = w.singles; on_demand = w.on_demand; diags = w.diags ++ diagnostic file (start_of i.name) UNKNOWN_IMPORT (written names i.name ∷ []) ∷ [] }
with_meaning l names file ds w i Ambiguous = record { singles = w.singles; on_demand = w.on_demand; diags = w.diags ++ diagnostic file (start_of i.name) UNKNOWN_IMPORT (written names i.name ∷ []) ∷ [] }
with_meaning l names file ds w i TooMany = record { singles = w.singles; on_demand = w.on_demand; diags = w.diags ++ diagnostic file (start_of i.name) TOO_MANY_PATHS (written names i.name ∷ []) ∷ [] }

-- an import: the access of its types, and what it means
abbrev pub with_import : LayoutOf → List (List ℕ) → ℕ → List TypeDeclTree → ImportsOf → ImportTree → Reference → ImportsOf
with_import l names file ds w i r =
    with_meaning l names file ds (record { singles = w.singles; on_demand = w.on_demand; diags = w.diags ++ access_diags l names file i.name r.refused }) i r.meaning

-- all imports, in order
abbrev pub imports_from : LayoutOf → List (List ℕ) → ℕ → List TypeDeclTree → ImportsOf → List ImportTree → List Reference → ImportsOf
imports_from l names file ds w [] rs = w
imports_from l names file ds w (i ∷ is) [] = w
imports_from l names file ds w (i ∷ is) (r ∷ rs) = imports_from l names file ds (with_import l names file ds w i r) is rs

-- no import
abbrev pub no_imports : ImportsOf
no_imports = record { singles = []; on_demand = []; diags = [] }

-- ---- the rule

-- the imports of a file: each is read in turn
abbrev pub imports_rule : LayoutOf → List (List ℕ) → ℕ → UnitTree → Rule ImportsOf
imports_rule l names file u = and_then (each (import_reference l file) u.imports) (λ rs. done (imports_from l names file u.types no_imports u.imports rs))

-- the edges from the file: to each type that a single import brings, and to each type or package that is imported on demand
abbrev pub import_edges : LayoutOf → ℕ → ImportsOf → List Edge
import_edges l file w =
    map (λ p. record { from = file_scope l file; label = SIMP; to = p.1 }) w.singles ++ map (λ s. record { from = file_scope l file; label = ODI; to = s }) w.on_demand
