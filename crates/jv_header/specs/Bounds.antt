-- What the rules of headers and imports ask and give: queries from places of the layout, and its types and packages.
use Rattle.std.specs.Prelude.{ℕ, List, All}
use Rattle.sg_base.specs.declared.scope.Scope.{Scope}
use Rattle.jv_diag.specs.Plain.{DiagOf}
use Rattle.jv_layout.specs.Folder.{LayoutOf}
use Rattle.jv_tree.specs.declared.name.Ident.{Ident}
use Rattle.jv_tree.specs.DeclTree.{ImportTree, UnitTree}
use Rattle.jv_tree.specs.Numbered.{AreNumberedNames, IsNumberedImport}
use Rattle.jv_names.specs.declared.context.Context.TheVariants.{OnDemandImport}
use Rattle.jv_names.specs.Bounds.{IsNamedIn, IsTypeScope, AreTypes, IsMeant, StaysIn}
use Rattle.jv_header.specs.declared.header.Header.{Header}
use Rattle.jv_header.specs.Depends.{depends_rule}
use Rattle.jv_header.specs.Header.{header_rule}
use Rattle.jv_header.specs.Imports.{ImportsOf, imports_rule}
use Rattle.jv_header.specs.StaticImports.{statics_rule}

-- single imports bring types of the layout, and what is imported on demand is a type or a package of it
pub record AreImportsIn (l : LayoutOf) (w : ImportsOf) : Type 0 where
  pub singles : All (λ p. IsTypeScope l p.1) w.singles
  pub on_demand : All (IsMeant l OnDemandImport) w.on_demand

-- the header of a type gives types
abbrev pub HeadersStayIn : Type 0
HeadersStayIn =
    (l : LayoutOf) (count : ℕ) (names : List (List ℕ)) (c : Scope) (extends implements : List (List Ident)) → IsNamedIn l count → IsTypeScope l c → AreNumberedNames count extends → AreNumberedNames count implements
    → StaysIn l count (λ (h : Header). AreTypes l h.row) (header_rule l names c extends implements)

-- a type's dependence on itself, by types that its header gave
abbrev pub DependenceStaysIn : Type 0
DependenceStaysIn =
    (l : LayoutOf) (count : ℕ) (names : List (List ℕ)) (c : Scope) (name : Ident) (row : List Scope) → AreTypes l row → StaysIn l count (λ (ds : List DiagOf). Unit {0}) (depends_rule l names c name row)

-- the imports of a file
abbrev pub FileImportsStayIn : Type 0
FileImportsStayIn = (l : LayoutOf) (count : ℕ) (names : List (List ℕ)) (file : ℕ) (u : UnitTree) → All (IsNumberedImport count) u.imports → StaysIn l count (AreImportsIn l) (imports_rule l names file u)

-- what the single static imports of a file bring
abbrev pub FileStaticsStayIn : Type 0
FileStaticsStayIn =
    (l : LayoutOf) (count : ℕ) (names : List (List ℕ)) (file : ℕ) (is : List ImportTree) → IsNamedIn l count → All (IsNumberedImport count) is
    → StaysIn l count (λ (ds : List DiagOf). Unit {0}) (statics_rule l names file is)
