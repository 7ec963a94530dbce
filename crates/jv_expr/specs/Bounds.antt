-- What the rules of bodies ask and give: queries from places of the layout, and its types.
use Rattle.std.specs.Prelude.{ℕ, ◌<◌, List, length, Option, IfSome}
use Rattle.sg_base.specs.declared.scope.Scope.{Scope}
use Rattle.jv_layout.specs.Folder.{LayoutOf}
use Rattle.jv_tree.specs.declared.name.Ident.{Ident}
use Rattle.jv_tree.specs.ExprTree.{InitTree}
use Rattle.jv_tree.specs.DeclTree.{MethodTree, CtorTree}
use Rattle.jv_tree.specs.Numbered.{AreNumberedNames, IsNumberedOption, IsNumberedMethod, IsNumberedCtor}
use Rattle.jv_names.specs.Bounds.{AreTypes, AsksIn, IsListed, IsNamedIn, IsTyIn, IsTypeScope}
use Rattle.jv_expr.specs.Bodies.{ctor_rule, field_rule, method_rule}
use Rattle.jv_expr.specs.Site.{SiteOf}

-- a place of the layout: in a file and in bodies of it, with names of so many, and a result of its types
pub record IsSiteIn (count : ℕ) (site : SiteOf) : Type 0 where
  pub named : IsNamedIn site.layout count
  pub file : site.file < length site.layout.files
  pub class : IsTypeScope site.layout site.class
  pub bodies : AreTypes site.layout site.bodies
  pub instances : AreTypes site.layout site.instances
  pub extends : AreNumberedNames count site.extends
  pub result : IfSome site.result (IsTyIn site.layout)

-- whatever the answers, what is checked of a member of a type asks queries of the layout
abbrev pub IsAnything : {U : Type 0} → U → Type 0
IsAnything v = Unit {0}

-- whatever the answers, the rule of the initializer of a field asks queries of the layout alone
abbrev pub FieldsAskIn : Type 0
FieldsAskIn =
    (l : LayoutOf) (count : ℕ) (names : List (List ℕ)) (c : Scope) (extends : List (List Ident)) (m : Scope) (x : Option InitTree) → IsNamedIn l count → IsTypeScope l c
    → AreNumberedNames count extends → IsListed l m → IsNumberedOption count x → AsksIn l count IsAnything (field_rule l names c extends m x)

-- whatever the answers, the rule of the body of a method asks queries of the layout alone
abbrev pub MethodsAskIn : Type 0
MethodsAskIn =
    (l : LayoutOf) (count : ℕ) (names : List (List ℕ)) (c : Scope) (extends : List (List Ident)) (m : Scope) (d : MethodTree) → IsNamedIn l count → IsTypeScope l c
    → AreNumberedNames count extends → IsListed l m → IsNumberedMethod count d → AsksIn l count IsAnything (method_rule l names c extends m d)

-- whatever the answers, the rule of a constructor asks queries of the layout alone
abbrev pub ConstructorsAskIn : Type 0
ConstructorsAskIn =
    (l : LayoutOf) (count : ℕ) (names : List (List ℕ)) (c : Scope) (extends : List (List Ident)) (blanks : List Scope) (m : Scope) (d : CtorTree) → IsNamedIn l count → IsTypeScope l c
    → AreNumberedNames count extends → IsListed l m → IsNumberedCtor count d → AsksIn l count IsAnything (ctor_rule l names c extends blanks m d)
