-- Declarations, without memory (JLS 7 to 9).
use Rattle.std.specs.Prelude.{ℕ, Bool, List, [], ◌∷◌, Option, Vec, map}
use Rattle.std.specs.Option.{option_map}
use Rattle.std.specs.declared.alloc.Global.{Global}
use Rattle.jv_tree.specs.declared.name.Ident.{Ident}
use Rattle.jv_tree.specs.declared.expression.Expr.{Expr}
use Rattle.jv_tree.specs.declared.statement.Stmt.{Stmt}
use Rattle.jv_tree.specs.declared.declaration.Import.{Import}
use Rattle.jv_tree.specs.declared.declaration.Param.{Param}
use Rattle.jv_tree.specs.declared.declaration.Method.{Method}
use Rattle.jv_tree.specs.declared.declaration.Ctor.{Ctor}
use Rattle.jv_tree.specs.declared.declaration.Unit.{Unit as File}
use Rattle.jv_tree.specs.declared.declaration.TypeDecl.{TypeDecl}
use Rattle.jv_tree.specs.declared.declaration.Member.{Member, Nested', Field, Method as MethodMember, Ctor as CtorMember, Row_of-Member, end_of-Member, more_of-Member}
use Rattle.jv_tree.specs.TypeTree.{TypeTree, ids_of, type_tree}
use Rattle.jv_tree.specs.ExprTree.{ExprTrees, expr_trees}
use Rattle.jv_tree.specs.StmtTree.{VarTree, StmtTrees, var_trees, stmt_trees}

-- a parameter: whether it is `final`, its type and its name
pub record ParamTree : Type 0 where
  pub is_final : Bool
  pub ty : TypeTree
  pub name : Ident

-- a method: the numbers of its modifiers, its result, its name, its parameters, and its body, where it has one
pub record MethodTree : Type 0 where
  pub mods : List ℕ
  pub result : TypeTree
  pub name : Ident
  pub params : List ParamTree
  pub body : Option StmtTrees

-- a constructor; a call is where its `super` starts, and the arguments
pub record CtorTree : Type 0 where
  pub mods : List ℕ
  pub name : Ident
  pub params : List ParamTree
  pub call : Option (ℕ × ExprTrees)
  pub body : StmtTrees

mutual
  -- the name of a class or an interface, its modifiers, whether it is an interface, what it extends and implements, its members
  pub data TypeDeclTree : Type 0 where
    type_decl : Ident → List ℕ → Bool → List (List Ident) → List (List Ident) → MemberTrees → TypeDeclTree

  -- a member: a nested type, fields of one type, a method or a constructor
  pub data MemberTree : Type 0 where
    nested : TypeDeclTree → MemberTree
    field : List ℕ → TypeTree → List VarTree → MemberTree
    method : MethodTree → MemberTree
    ctor : CtorTree → MemberTree

  -- members one after another
  pub data MemberTrees : Type 0 where
    no_members : MemberTrees
    members : MemberTree → MemberTrees → MemberTrees

-- an import: its name, whether it imports all that stands under it, and whether `static` stands behind its word
pub record ImportTree : Type 0 where
  pub name : List Ident
  pub all : Bool
  pub is_static : Bool

-- a file: its package, where it names one, its imports, and the types that it declares
pub record UnitTree : Type 0 where
  pub package_name : Option (List Ident)
  pub imports : List ImportTree
  pub types : List TypeDeclTree

-- the pure tree of a parameter
abbrev pub param_tree : Param → ParamTree
param_tree p = record { is_final = p.is_final; ty = type_tree p.ty; name = p.name }

-- the pure trees of the statements of a method's body, where it has one
abbrev pub body_trees : Option (Vec Stmt Global) → Option StmtTrees
body_trees b = option_map (λ v. stmt_trees v.items) b

-- where a constructor's `super` starts and the pure trees of its arguments, where it calls one
abbrev pub call_tree : Option (ℕ × Vec Expr Global) → Option (ℕ × ExprTrees)
call_tree c = option_map (λ x. (x.0, expr_trees x.1.items)) c

-- the pure tree of a method
abbrev pub method_tree : Method → MethodTree
method_tree m = record { mods = m.mods.words.items; result = type_tree m.result; name = m.name; params = map param_tree m.params.items; body = body_trees m.body }

-- the pure tree of a constructor
abbrev pub ctor_tree : Ctor → CtorTree
ctor_tree c = record { mods = c.mods.words.items; name = c.name; params = map param_tree c.params.items; call = call_tree c.call; body = stmt_trees c.body.items }

-- the pure tree of a member, and of its parts
abbrev mutual
  -- the pure tree of a member
  pub member_tree : Member → MemberTree
  member_tree (Nested' n ms i es is shape xs) = nested (type_decl n ms.words.items i (map ids_of es.items) (map ids_of is.items) (member_row_trees xs))
  member_tree (Field ms t vs) = field ms.words.items (type_tree t) (var_trees vs.items)
  member_tree (MethodMember m) = method (method_tree m)
  member_tree (CtorMember c) = ctor (ctor_tree c)

  -- the pure trees of the members of a nested type
  pub member_row_trees : {n : _} → Row_of-Member n → MemberTrees
  member_row_trees end_of-Member = no_members
  member_row_trees (more_of-Member x xs) = members (member_tree x) (member_row_trees xs)

-- the pure trees of a list of members
abbrev pub member_trees : List Member → MemberTrees
member_trees [] = no_members
member_trees (x ∷ xs) = members (member_tree x) (member_trees xs)

-- the pure tree of a class or an interface, of an import, of a file
abbrev pub type_decl_tree : TypeDecl → TypeDeclTree
type_decl_tree d = type_decl d.name d.mods.words.items d.interface (map ids_of d.extends.items) (map ids_of d.implements.items) (member_trees d.members.items)

-- the pure tree of an import
abbrev pub import_tree : Import → ImportTree
import_tree i = record { name = ids_of i.name; all = i.all; is_static = i.is_static }

-- the pure tree of a file
abbrev pub tree_of : File → UnitTree
tree_of u = record { package_name = option_map ids_of u.package; imports = map import_tree u.imports.items; types = map type_decl_tree u.types.items }
