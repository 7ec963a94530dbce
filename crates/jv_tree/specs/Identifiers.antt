-- How many identifiers stand in a tree: each counts once at each place where it stands.
use Rattle.std.specs.Prelude.{ℕ, suc, ◌+◌, List, [], ◌∷◌, length, Option, None, Some}
use Rattle.jv_tree.specs.declared.name.Ident.{Ident as Identifier}
use Rattle.jv_tree.specs.TypeTree.{BaseTree, boolean, char, int, long, void, named, TypeTree}
use Rattle.jv_tree.specs.ExprTree as e
use Rattle.jv_tree.specs.ExprTree.{ExprTree, KindTree, TargetTree, OperandTree, InitTree, ExprTrees, InitTrees, LinkTrees}
use Rattle.jv_tree.specs.StmtTree as s
use Rattle.jv_tree.specs.StmtTree.{VarTree, StmtTree, StmtKindTree, StmtTrees, BranchTrees, ElseTree}
use Rattle.jv_tree.specs.DeclTree as d
use Rattle.jv_tree.specs.DeclTree.{ParamTree, MethodTree, CtorTree, TypeDeclTree, MemberTree, MemberTrees, ImportTree, UnitTree}

-- identifiers of names
abbrev pub idents_names : List (List Identifier) → ℕ
idents_names [] = 0
idents_names (ids ∷ ns) = length ids + idents_names ns

-- identifiers of a type: those of its name, if it has one
abbrev pub idents_base : BaseTree → ℕ
idents_base boolean = 0
idents_base char = 0
idents_base int = 0
idents_base long = 0
idents_base void = 0
idents_base (named ids) = length ids

-- identifiers of a type: those of its base
abbrev pub idents_type : TypeTree → ℕ
idents_type t = idents_base t.base

-- identifiers of expressions and of their parts: names, fields, methods that are called, and those of types
abbrev mutual
  -- identifiers of an expression: those of what it is
  pub idents_expr : ExprTree → ℕ
  idents_expr (e.expr at k) = idents_kind k

  -- identifiers of what an expression is: names, fields and called methods, and those of its parts and types
  pub idents_kind : KindTree → ℕ
  idents_kind e.int = 0
  idents_kind e.long = 0
  idents_kind e.char = 0
  idents_kind e.str = 0
  idents_kind (e.bool b) = 0
  idents_kind e.null = 0
  idents_kind e.this = 0
  idents_kind (e.name ids) = length ids
  idents_kind (e.field x i) = suc (idents_expr x)
  idents_kind (e.super_field i) = 1
  idents_kind (e.call t i xs) = suc (idents_target t + idents_exprs xs)
  idents_kind (e.index x y) = idents_expr x + idents_expr y
  idents_kind (e.new ids xs) = length ids + idents_exprs xs
  idents_kind (e.new_array t xs) = idents_type t + idents_exprs xs
  idents_kind (e.new_list t xs) = idents_type t + idents_inits xs
  idents_kind (e.pre at o x) = idents_expr x
  idents_kind (e.post at o x) = idents_expr x
  idents_kind (e.chain x xs) = idents_expr x + idents_links xs
  idents_kind (e.cast t x) = idents_type t + idents_expr x
  idents_kind (e.choice x y z) = idents_expr x + idents_expr y + idents_expr z
  idents_kind (e.assign at o x y) = idents_expr x + idents_expr y

  -- identifiers of what stands in front of the name of a method: those of an expression, if it is one
  pub idents_target : TargetTree → ℕ
  idents_target e.bare = 0
  idents_target (e.on x) = idents_expr x
  idents_target e.super = 0

  -- identifiers of what stands behind an operator: those of an expression or a type
  pub idents_operand : OperandTree → ℕ
  idents_operand (e.operand x) = idents_expr x
  idents_operand (e.of_type t) = idents_type t

  -- identifiers of an initializer: those of its expression or of the elements of its list
  pub idents_init : InitTree → ℕ
  idents_init (e.one x) = idents_expr x
  idents_init (e.list at xs) = idents_inits xs

  -- identifiers of expressions together
  pub idents_exprs : ExprTrees → ℕ
  idents_exprs e.no_exprs = 0
  idents_exprs (e.exprs x xs) = idents_expr x + idents_exprs xs

  -- identifiers of initializers together
  pub idents_inits : InitTrees → ℕ
  idents_inits e.no_inits = 0
  idents_inits (e.inits x xs) = idents_init x + idents_inits xs

  -- identifiers of links: those of what stands behind each operator
  pub idents_links : LinkTrees → ℕ
  idents_links e.no_links = 0
  idents_links (e.links at o x xs) = idents_operand x + idents_links xs

-- identifiers of variables: the name of each, and those of its initializer
abbrev pub idents_optional_init : Option InitTree → ℕ
idents_optional_init None = 0
idents_optional_init (Some x) = idents_init x

-- identifiers of a variable: its name, and those of its initializer
abbrev pub idents_var : VarTree → ℕ
idents_var v = suc (idents_optional_init v.init)

-- identifiers of variables together
abbrev pub idents_vars : List VarTree → ℕ
idents_vars [] = 0
idents_vars (v ∷ vs) = idents_var v + idents_vars vs

-- identifiers of an expression, if there is one
abbrev pub idents_condition : Option ExprTree → ℕ
idents_condition None = 0
idents_condition (Some x) = idents_expr x

-- identifiers of statements and of their parts
abbrev mutual
  -- identifiers of a statement: those of what it is
  pub idents_stmt : StmtTree → ℕ
  idents_stmt (s.stmt at k) = idents_stmt_kind k

  -- identifiers of what a statement is: those of its types, variables, expressions and statements
  pub idents_stmt_kind : StmtKindTree → ℕ
  idents_stmt_kind (s.block xs) = idents_stmts xs
  idents_stmt_kind s.empty = 0
  idents_stmt_kind (s.local f t vs) = idents_type t + idents_vars vs
  idents_stmt_kind (s.effect x) = idents_expr x
  idents_stmt_kind (s.if_else xs t) = idents_branches xs + idents_else t
  idents_stmt_kind (s.while_loop x t) = idents_expr x + idents_stmt t
  idents_stmt_kind (s.do_loop t x) = idents_stmt t + idents_expr x
  idents_stmt_kind (s.for_loop xs x ys t) = idents_stmts xs + idents_condition x + idents_exprs ys + idents_stmt t
  idents_stmt_kind (s.return x) = idents_condition x
  idents_stmt_kind s.break = 0
  idents_stmt_kind s.continue = 0

  -- identifiers of statements together
  pub idents_stmts : StmtTrees → ℕ
  idents_stmts s.no_stmts = 0
  idents_stmts (s.stmts x xs) = idents_stmt x + idents_stmts xs

  -- identifiers of the conditions of an `if`, and of what they guard
  pub idents_branches : BranchTrees → ℕ
  idents_branches s.no_branches = 0
  idents_branches (s.branches x t xs) = idents_expr x + idents_stmt t + idents_branches xs

  -- identifiers of what stands behind the last `else`, if there is one
  pub idents_else : ElseTree → ℕ
  idents_else s.no_else = 0
  idents_else (s.otherwise t) = idents_stmt t

-- identifiers of parameters, methods and constructors: the name of each, and those of its parts
abbrev pub idents_param : ParamTree → ℕ
idents_param p = suc (idents_type p.ty)

-- identifiers of parameters together
abbrev pub idents_params : List ParamTree → ℕ
idents_params [] = 0
idents_params (p ∷ ps) = idents_param p + idents_params ps

-- identifiers of the body of a method, if it has one
abbrev pub idents_body : Option StmtTrees → ℕ
idents_body None = 0
idents_body (Some xs) = idents_stmts xs

-- identifiers of a method: its name, and those of its result, its parameters and its body
abbrev pub idents_method : MethodTree → ℕ
idents_method m = suc (idents_type m.result + idents_params m.params + idents_body m.body)

-- identifiers of the arguments of a call of `super`, if there is one
abbrev pub idents_super_call : Option (ℕ × ExprTrees) → ℕ
idents_super_call None = 0
idents_super_call (Some x) = idents_exprs x.1

-- identifiers of a constructor: its name, and those of its parameters, its call of `super` and its body
abbrev pub idents_ctor : CtorTree → ℕ
idents_ctor c = suc (idents_params c.params + idents_super_call c.call + idents_stmts c.body)

-- identifiers of classes, interfaces and their members: the name of each, those that it extends and implements, and those
-- of its members
abbrev mutual
  -- identifiers of a class or an interface: its name, those that it extends and implements, and those of its members
  pub idents_decl : TypeDeclTree → ℕ
  idents_decl (d.type_decl n ms i es is xs) = suc (idents_names es + idents_names is + idents_members xs)

  -- identifiers of a member: those of a nested type, fields, a method or a constructor
  pub idents_member : MemberTree → ℕ
  idents_member (d.nested t) = idents_decl t
  idents_member (d.field ms t vs) = idents_type t + idents_vars vs
  idents_member (d.method m) = idents_method m
  idents_member (d.ctor c) = idents_ctor c

  -- identifiers of members together
  pub idents_members : MemberTrees → ℕ
  idents_members d.no_members = 0
  idents_members (d.members x xs) = idents_member x + idents_members xs

-- identifiers of classes and interfaces together
abbrev pub idents_decls : List TypeDeclTree → ℕ
idents_decls [] = 0
idents_decls (x ∷ xs) = idents_decl x + idents_decls xs

-- identifiers of a file: those of its package, its imports and its types
abbrev pub idents_package : Option (List Identifier) → ℕ
idents_package None = 0
idents_package (Some ids) = length ids

-- identifiers of imports: those of their names
abbrev pub idents_imports : List ImportTree → ℕ
idents_imports [] = 0
idents_imports (x ∷ xs) = length x.name + idents_imports xs

-- identifiers of a file: those of its package, its imports and its types
abbrev pub idents_unit : UnitTree → ℕ
idents_unit u = idents_package u.package_name + idents_imports u.imports + idents_decls u.types
