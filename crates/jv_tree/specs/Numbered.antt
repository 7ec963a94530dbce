-- Trees whose identifiers have numbers of names: each number is below n, which is how many names there are.
use Rattle.std.specs.Prelude.{ℕ, ◌<◌, ◌≤◌, List, Option, None, Some, All}
use Rattle.std.specs.List.{Contains}
use Rattle.jv_tree.specs.declared.name.Ident.{Ident}
use Rattle.jv_tree.specs.TypeTree.{BaseTree, boolean, char, int, long, void, named, TypeTree}
use Rattle.jv_tree.specs.ExprTree as e
use Rattle.jv_tree.specs.ExprTree.{ExprTree, KindTree, TargetTree, OperandTree, InitTree, ExprTrees, InitTrees, LinkTrees}
use Rattle.jv_tree.specs.StmtTree as s
use Rattle.jv_tree.specs.StmtTree.{VarTree, StmtTree, StmtKindTree, StmtTrees, BranchTrees, ElseTree}
use Rattle.jv_tree.specs.DeclTree as d
use Rattle.jv_tree.specs.DeclTree.{ParamTree, MethodTree, CtorTree, TypeDeclTree, MemberTree, MemberTrees, ImportTree, UnitTree}

-- the identifier has the number of one of n names
abbrev pub IsNumberedIdent : ℕ → Ident → Type 0
IsNumberedIdent n i = i.id.0 < n

-- a name, and a list of names
abbrev pub IsNumberedName : ℕ → List Ident → Type 0
IsNumberedName n ids = All (IsNumberedIdent n) ids

-- the identifiers of each of the names have numbers of names
abbrev pub AreNumberedNames : ℕ → List (List Ident) → Type 0
AreNumberedNames n names = All (IsNumberedName n) names

-- a type: its name, if it has one
abbrev pub IsNumberedBase : ℕ → BaseTree → Type 0
IsNumberedBase n boolean = Unit {0}
IsNumberedBase n char = Unit {0}
IsNumberedBase n int = Unit {0}
IsNumberedBase n long = Unit {0}
IsNumberedBase n void = Unit {0}
IsNumberedBase n (named ids) = IsNumberedName n ids

-- the identifiers of a type, those of its base, have numbers of names
abbrev pub IsNumberedType : ℕ → TypeTree → Type 0
IsNumberedType n t = IsNumberedBase n t.base

-- expressions and their parts: names, fields, methods that are called, and types
abbrev mutual
  -- the identifiers of an expression have numbers of names
  pub IsNumberedExpr : ℕ → ExprTree → Type 0
  IsNumberedExpr n (e.expr at k) = IsNumberedKind n k

  -- the identifiers of what an expression is, of its names, fields, called methods, types and parts, have numbers of names
  pub IsNumberedKind : ℕ → KindTree → Type 0
  IsNumberedKind n e.int = Unit {0}
  IsNumberedKind n e.long = Unit {0}
  IsNumberedKind n e.char = Unit {0}
  IsNumberedKind n e.str = Unit {0}
  IsNumberedKind n (e.bool b) = Unit {0}
  IsNumberedKind n e.null = Unit {0}
  IsNumberedKind n e.this = Unit {0}
  IsNumberedKind n (e.name ids) = IsNumberedName n ids
  IsNumberedKind n (e.field x i) = IsNumberedExpr n x × IsNumberedIdent n i
  IsNumberedKind n (e.super_field i) = IsNumberedIdent n i
  IsNumberedKind n (e.call t i xs) = IsNumberedTarget n t × IsNumberedIdent n i × AreNumberedExprs n xs
  IsNumberedKind n (e.index x y) = IsNumberedExpr n x × IsNumberedExpr n y
  IsNumberedKind n (e.new ids xs) = IsNumberedName n ids × AreNumberedExprs n xs
  IsNumberedKind n (e.new_array t xs) = IsNumberedType n t × AreNumberedExprs n xs
  IsNumberedKind n (e.new_list t xs) = IsNumberedType n t × AreNumberedInits n xs
  IsNumberedKind n (e.pre at o x) = IsNumberedExpr n x
  IsNumberedKind n (e.post at o x) = IsNumberedExpr n x
  IsNumberedKind n (e.chain x xs) = IsNumberedExpr n x × AreNumberedLinks n xs
  IsNumberedKind n (e.cast t x) = IsNumberedType n t × IsNumberedExpr n x
  IsNumberedKind n (e.choice x y z) = IsNumberedExpr n x × IsNumberedExpr n y × IsNumberedExpr n z
  IsNumberedKind n (e.assign at o x y) = IsNumberedExpr n x × IsNumberedExpr n y

  -- the identifiers of what stands in front of the name of a method have numbers of names
  pub IsNumberedTarget : ℕ → TargetTree → Type 0
  IsNumberedTarget n e.bare = Unit {0}
  IsNumberedTarget n (e.on x) = IsNumberedExpr n x
  IsNumberedTarget n e.super = Unit {0}

  -- the identifiers of what stands behind an operator, an expression or a type, have numbers of names
  pub IsNumberedOperand : ℕ → OperandTree → Type 0
  IsNumberedOperand n (e.operand x) = IsNumberedExpr n x
  IsNumberedOperand n (e.of_type t) = IsNumberedType n t

  -- the identifiers of an initializer have numbers of names
  pub IsNumberedInit : ℕ → InitTree → Type 0
  IsNumberedInit n (e.one x) = IsNumberedExpr n x
  IsNumberedInit n (e.list at xs) = AreNumberedInits n xs

  -- the identifiers of each of the expressions have numbers of names
  pub AreNumberedExprs : ℕ → ExprTrees → Type 0
  AreNumberedExprs n e.no_exprs = Unit {0}
  AreNumberedExprs n (e.exprs x xs) = IsNumberedExpr n x × AreNumberedExprs n xs

  -- the identifiers of each of the initializers have numbers of names
  pub AreNumberedInits : ℕ → InitTrees → Type 0
  AreNumberedInits n e.no_inits = Unit {0}
  AreNumberedInits n (e.inits x xs) = IsNumberedInit n x × AreNumberedInits n xs

  -- the identifiers of what stands behind each operator have numbers of names
  pub AreNumberedLinks : ℕ → LinkTrees → Type 0
  AreNumberedLinks n e.no_links = Unit {0}
  AreNumberedLinks n (e.links at o x xs) = IsNumberedOperand n x × AreNumberedLinks n xs

-- a variable: its name and its initializer, if it has one
abbrev pub IsNumberedOption : ℕ → Option InitTree → Type 0
IsNumberedOption n None = Unit {0}
IsNumberedOption n (Some x) = IsNumberedInit n x

-- the name of a variable and the identifiers of its initializer have numbers of names
abbrev pub IsNumberedVar : ℕ → VarTree → Type 0
IsNumberedVar n v = IsNumberedIdent n v.name × IsNumberedOption n v.init

-- the identifiers of an expression, where there is one, have numbers of names
abbrev pub IsNumberedCondition : ℕ → Option ExprTree → Type 0
IsNumberedCondition n None = Unit {0}
IsNumberedCondition n (Some x) = IsNumberedExpr n x

-- statements and their parts
abbrev mutual
  -- the identifiers of a statement have numbers of names
  pub IsNumberedStmt : ℕ → StmtTree → Type 0
  IsNumberedStmt n (s.stmt at k) = IsNumberedStmtKind n k

  -- the identifiers of what a statement is, of its types, variables, expressions and statements, have numbers of names
  pub IsNumberedStmtKind : ℕ → StmtKindTree → Type 0
  IsNumberedStmtKind n (s.block xs) = AreNumberedStmts n xs
  IsNumberedStmtKind n s.empty = Unit {0}
  IsNumberedStmtKind n (s.local f t vs) = IsNumberedType n t × All (IsNumberedVar n) vs
  IsNumberedStmtKind n (s.effect x) = IsNumberedExpr n x
  IsNumberedStmtKind n (s.if_else xs t) = AreNumberedBranches n xs × IsNumberedElse n t
  IsNumberedStmtKind n (s.while_loop x t) = IsNumberedExpr n x × IsNumberedStmt n t
  IsNumberedStmtKind n (s.do_loop t x) = IsNumberedStmt n t × IsNumberedExpr n x
  IsNumberedStmtKind n (s.for_loop xs x ys t) = AreNumberedStmts n xs × IsNumberedCondition n x × AreNumberedExprs n ys × IsNumberedStmt n t
  IsNumberedStmtKind n (s.return x) = IsNumberedCondition n x
  IsNumberedStmtKind n s.break = Unit {0}
  IsNumberedStmtKind n s.continue = Unit {0}

  -- the identifiers of each of the statements have numbers of names
  pub AreNumberedStmts : ℕ → StmtTrees → Type 0
  AreNumberedStmts n s.no_stmts = Unit {0}
  AreNumberedStmts n (s.stmts x xs) = IsNumberedStmt n x × AreNumberedStmts n xs

  -- the identifiers of the conditions of an `if` and of what they guard have numbers of names
  pub AreNumberedBranches : ℕ → BranchTrees → Type 0
  AreNumberedBranches n s.no_branches = Unit {0}
  AreNumberedBranches n (s.branches x t xs) = IsNumberedExpr n x × IsNumberedStmt n t × AreNumberedBranches n xs

  -- the identifiers of what stands behind the last `else`, where there is one, have numbers of names
  pub IsNumberedElse : ℕ → ElseTree → Type 0
  IsNumberedElse n s.no_else = Unit {0}
  IsNumberedElse n (s.otherwise t) = IsNumberedStmt n t

-- parameters, methods and constructors
abbrev pub IsNumberedParam : ℕ → ParamTree → Type 0
IsNumberedParam n p = IsNumberedType n p.ty × IsNumberedIdent n p.name

-- the identifiers of the body of a method, where it has one, have numbers of names
abbrev pub IsNumberedBody : ℕ → Option StmtTrees → Type 0
IsNumberedBody n None = Unit {0}
IsNumberedBody n (Some xs) = AreNumberedStmts n xs

-- the name of a method and the identifiers of its result, its parameters and its body have numbers of names
abbrev pub IsNumberedMethod : ℕ → MethodTree → Type 0
IsNumberedMethod n m = IsNumberedType n m.result × IsNumberedIdent n m.name × All (IsNumberedParam n) m.params × IsNumberedBody n m.body

-- the identifiers of the arguments of a call of `super`, where there is one, have numbers of names
abbrev pub IsNumberedCall : ℕ → Option (ℕ × ExprTrees) → Type 0
IsNumberedCall n None = Unit {0}
IsNumberedCall n (Some x) = AreNumberedExprs n x.1

-- the name of a constructor and the identifiers of its parameters, its call of `super` and its body have numbers of names
abbrev pub IsNumberedCtor : ℕ → CtorTree → Type 0
IsNumberedCtor n c = IsNumberedIdent n c.name × All (IsNumberedParam n) c.params × IsNumberedCall n c.call × AreNumberedStmts n c.body

-- classes, interfaces and their members
abbrev mutual
  -- the name of a class or an interface, those that it extends and implements, and its members have numbers of names
  pub IsNumberedDecl : ℕ → TypeDeclTree → Type 0
  IsNumberedDecl n (d.type_decl i ms b es is xs) = IsNumberedIdent n i × AreNumberedNames n es × AreNumberedNames n is × AreNumberedMembers n xs

  -- the identifiers of a member have numbers of names
  pub IsNumberedMember : ℕ → MemberTree → Type 0
  IsNumberedMember n (d.nested t) = IsNumberedDecl n t
  IsNumberedMember n (d.field ms t vs) = IsNumberedType n t × All (IsNumberedVar n) vs
  IsNumberedMember n (d.method m) = IsNumberedMethod n m
  IsNumberedMember n (d.ctor c) = IsNumberedCtor n c

  -- the identifiers of each of the members have numbers of names
  pub AreNumberedMembers : ℕ → MemberTrees → Type 0
  AreNumberedMembers n d.no_members = Unit {0}
  AreNumberedMembers n (d.members x xs) = IsNumberedMember n x × AreNumberedMembers n xs

-- the identifiers of a package, where one is named, have numbers of names
abbrev pub IsNumberedPackage : ℕ → Option (List Ident) → Type 0
IsNumberedPackage n None = Unit {0}
IsNumberedPackage n (Some ids) = IsNumberedName n ids

-- the identifiers of the name of an import have numbers of names
abbrev pub IsNumberedImport : ℕ → ImportTree → Type 0
IsNumberedImport n i = IsNumberedName n i.name

-- each identifier of the tree has the number of one of n names
abbrev pub IsNumbered : ℕ → UnitTree → Type 0
IsNumbered n u = IsNumberedPackage n u.package_name × All (IsNumberedImport n) u.imports × All (IsNumberedDecl n) u.types

-- each identifier of the files has the number of one of so many names
abbrev pub AreNumbered : ℕ → List UnitTree → Type 0
AreNumbered n us = (u : UnitTree) → Contains us u → IsNumbered n u

-- where there are more names, it has so too
abbrev pub NumbersStay : Type 0
NumbersStay = (m n : ℕ) (u : UnitTree) → m ≤ n → IsNumbered m u → IsNumbered n u
