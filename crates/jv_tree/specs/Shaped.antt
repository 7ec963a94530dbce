-- Which trees have the shape of the grammar (docs/JAVA-PROFILE.md): operators, bases, operands, left sides, statements, members and the lengths of lists.
use Rattle.std.specs.Prelude.{◌≡◌, ℕ, ◌+◌, ◌<◌, ◌≤◌, ◌⊎◌, Bool, true, false, List, [], ◌∷◌, length, Option, None, Some, All, Contains, nat_eq}
use Rattle.std.specs.List.{list_any}
use Rattle.jv_tree.specs.declared.name.Ident.{Ident}
use Rattle.jv_tree.specs.TypeTree.{BaseTree, boolean, char, int, long, void, named, TypeTree}
use Rattle.jv_tree.specs.ExprTree as e
use Rattle.jv_tree.specs.ExprTree.{ExprTree, KindTree, TargetTree, OperandTree, InitTree, ExprTrees, InitTrees, LinkTrees, expr_count}
use Rattle.jv_tree.specs.StmtTree as s
use Rattle.jv_tree.specs.StmtTree.{StmtTree, StmtKindTree, StmtTrees, BranchTrees, ElseTree, VarTree}
use Rattle.jv_tree.specs.DeclTree as d
use Rattle.jv_tree.specs.DeclTree.{ParamTree, MethodTree, CtorTree, TypeDeclTree, MemberTree, MemberTrees, ImportTree, UnitTree}

-- a number is one of these
abbrev pub IsOneOf : List ℕ → ℕ → Type 0
IsOneOf ns n = list_any (nat_eq n) ns ≡ true

-- a name has at least one identifier
abbrev pub IsName : List Ident → Type 0
IsName ids = 0 < length ids

-- a base of a type; `void` is a result alone
abbrev pub IsBase : BaseTree → Type 0
IsBase boolean = Unit {0}
IsBase char = Unit {0}
IsBase int = Unit {0}
IsBase long = Unit {0}
IsBase void = ⊥
IsBase (named ids) = IsName ids

-- a type, with at most 200 pairs of brackets
abbrev pub IsType : TypeTree → Type 0
IsType t = IsBase t.base × (t.dims ≤ 200)

-- the result of a method: a type, or `void`
abbrev pub IsResult : TypeTree → Type 0
IsResult t = IsType t ⊎ ((t.base ≡ void) × (t.dims ≡ 0))

-- a type that is no bare primitive, as `instanceof` takes it
abbrev pub IsReference : TypeTree → Type 0
IsReference t = IsType t × ((0 < t.dims) ⊎ ((ids : List Ident) × (t.base ≡ named ids)))

-- the numbers of the operators `+ - ++ -- ! ~` in front, `++ --` behind, and `=` with the operators that end with it
abbrev pub prefix_operators : List ℕ
prefix_operators = 28 ∷ 29 ∷ 26 ∷ 27 ∷ 15 ∷ 16 ∷ []

-- the numbers of the operators `++ --`
abbrev pub postfix_operators : List ℕ
postfix_operators = 26 ∷ 27 ∷ []

-- the numbers of `=` and of the operators that end with it
abbrev pub assignment_operators : List ℕ
assignment_operators = 12 ∷ 39 ∷ 40 ∷ 41 ∷ 42 ∷ 43 ∷ 44 ∷ 45 ∷ 46 ∷ 47 ∷ 48 ∷ 49 ∷ []

-- the operators of the levels of a chain, loosest first: `||`; `&&`; `|`; `^`; `&`; `== !=`; `< > <= >= instanceof`; `<< >> >>>`; `+ -`; `* / %`
abbrev pub levels : List (List ℕ)
levels = (25 ∷ []) ∷ (24 ∷ []) ∷ (33 ∷ []) ∷ (34 ∷ []) ∷ (32 ∷ []) ∷ (20 ∷ 23 ∷ []) ∷ (14 ∷ 13 ∷ 22 ∷ 21 ∷ 153 ∷ []) ∷ (36 ∷ 37 ∷ 38 ∷ []) ∷ (28 ∷ 29 ∷ []) ∷ (30 ∷ 31 ∷ 35 ∷ []) ∷ []

-- the number of `instanceof`, its keyword's number plus 128
abbrev pub instance_of : ℕ
instance_of = 153

-- the left side of an assignment, `++` or `--`: a name, a field, a field of `super`, or an index
abbrev pub IsTarget : ExprTree → Type 0
IsTarget (e.expr at (e.name ids)) = Unit {0}
IsTarget (e.expr at (e.field x i)) = Unit {0}
IsTarget (e.expr at (e.super_field i)) = Unit {0}
IsTarget (e.expr at (e.index x y)) = Unit {0}
IsTarget (e.expr at k) = ⊥

-- an expression that may stand as a statement: an assignment, `++`, `--`, a call or `new`
abbrev pub IsEffect : ExprTree → Type 0
IsEffect (e.expr at (e.assign p o x y)) = Unit {0}
IsEffect (e.expr at (e.pre p o x)) = IsOneOf postfix_operators o
IsEffect (e.expr at (e.post p o x)) = Unit {0}
IsEffect (e.expr at (e.call t i xs)) = Unit {0}
IsEffect (e.expr at (e.new ids xs)) = Unit {0}
IsEffect (e.expr at k) = ⊥

-- a chain has at least one operator
abbrev pub HasLinks : LinkTrees → Type 0
HasLinks e.no_links = ⊥
HasLinks (e.links at o x xs) = Unit {0}

abbrev mutual
  -- the expression has the shape of the grammar
  pub IsShapedExpr : ExprTree → Type 0
  IsShapedExpr (e.expr at k) = IsShapedKind k

  -- what an expression is has the shape of the grammar: its names, operators, types, left side and parts
  pub IsShapedKind : KindTree → Type 0
  IsShapedKind e.int = Unit {0}
  IsShapedKind e.long = Unit {0}
  IsShapedKind e.char = Unit {0}
  IsShapedKind e.str = Unit {0}
  IsShapedKind (e.bool b) = Unit {0}
  IsShapedKind e.null = Unit {0}
  IsShapedKind e.this = Unit {0}
  IsShapedKind (e.name ids) = IsName ids
  IsShapedKind (e.field x i) = IsShapedExpr x
  IsShapedKind (e.super_field i) = Unit {0}
  IsShapedKind (e.call t i xs) = IsShapedTarget t × AreShapedExprs xs
  IsShapedKind (e.index x y) = IsShapedExpr x × IsShapedExpr y
  IsShapedKind (e.new ids xs) = IsName ids × AreShapedExprs xs
  IsShapedKind (e.new_array t xs) = IsBase t.base × (0 < expr_count xs) × (t.dims + expr_count xs ≤ 200) × AreShapedExprs xs
  IsShapedKind (e.new_list t xs) = IsType t × (0 < t.dims) × AreShapedInits xs
  IsShapedKind (e.pre at o x) = IsOneOf prefix_operators o × IsShapedExpr x
  IsShapedKind (e.post at o x) = IsOneOf postfix_operators o × IsShapedExpr x
  IsShapedKind (e.chain x xs) = IsShapedExpr x × HasLinks xs × ((level : List ℕ) × Contains levels level × AreShapedLinks level xs)
  IsShapedKind (e.cast t x) = IsType t × IsShapedExpr x
  IsShapedKind (e.choice x y z) = IsShapedExpr x × IsShapedExpr y × IsShapedExpr z
  IsShapedKind (e.assign at o x y) = IsOneOf assignment_operators o × IsTarget x × IsShapedExpr x × IsShapedExpr y

  -- what stands in front of the name of a method has the shape of the grammar
  pub IsShapedTarget : TargetTree → Type 0
  IsShapedTarget e.bare = Unit {0}
  IsShapedTarget (e.on x) = IsShapedExpr x
  IsShapedTarget e.super = Unit {0}

  -- the initializer has the shape of the grammar
  pub IsShapedInit : InitTree → Type 0
  IsShapedInit (e.one x) = IsShapedExpr x
  IsShapedInit (e.list at xs) = AreShapedInits xs

  -- each of the expressions has the shape of the grammar
  pub AreShapedExprs : ExprTrees → Type 0
  AreShapedExprs e.no_exprs = Unit {0}
  AreShapedExprs (e.exprs x xs) = IsShapedExpr x × AreShapedExprs xs

  -- each of the initializers has the shape of the grammar
  pub AreShapedInits : InitTrees → Type 0
  AreShapedInits e.no_inits = Unit {0}
  AreShapedInits (e.inits x xs) = IsShapedInit x × AreShapedInits xs

  -- the operators are of one level; `instanceof` has a type behind it, any other operator an expression
  pub AreShapedLinks : List ℕ → LinkTrees → Type 0
  AreShapedLinks level e.no_links = Unit {0}
  AreShapedLinks level (e.links at o (e.operand x) xs) = IsOneOf level o × (o ≡ instance_of → ⊥) × IsShapedExpr x × AreShapedLinks level xs
  AreShapedLinks level (e.links at o (e.of_type t) xs) = IsOneOf level o × (o ≡ instance_of) × IsReference t × AreShapedLinks level xs

-- an initializer, where there is one
abbrev pub IsShapedOption : Option InitTree → Type 0
IsShapedOption None = Unit {0}
IsShapedOption (Some x) = IsShapedInit x

-- variables of a declaration, at least one
abbrev pub AreShapedVars : List VarTree → Type 0
AreShapedVars vs = (0 < length vs) × All (λ v. IsShapedOption v.init) vs

-- the expression, where there is one, has the shape of the grammar
abbrev pub IsShapedCondition : Option ExprTree → Type 0
IsShapedCondition None = Unit {0}
IsShapedCondition (Some x) = IsShapedExpr x

-- a statement that may be a branch or the body of a loop: no local variables
abbrev pub IsBody : StmtTree → Type 0
IsBody (s.stmt at (s.local f t vs)) = ⊥
IsBody (s.stmt at k) = Unit {0}

-- each of the statements is an effect
abbrev pub AreEffects : StmtTrees → Type 0
AreEffects s.no_stmts = Unit {0}
AreEffects (s.stmts (s.stmt at (s.effect x)) xs) = AreEffects xs
AreEffects (s.stmts (s.stmt at k) xs) = ⊥

-- what comes first in a `for`: local variables, or effects
abbrev pub IsForHead : StmtTrees → Type 0
IsForHead (s.stmts (s.stmt at (s.local f t vs)) s.no_stmts) = Unit {0}
IsForHead xs = AreEffects xs

-- what comes after each round of a `for`: effects
abbrev pub AreUpdates : ExprTrees → Type 0
AreUpdates e.no_exprs = Unit {0}
AreUpdates (e.exprs x xs) = IsEffect x × AreUpdates xs

-- an `if` has at least one condition
abbrev pub HasBranches : BranchTrees → Type 0
HasBranches s.no_branches = ⊥
HasBranches (s.branches x t xs) = Unit {0}

abbrev mutual
  -- the statement has the shape of the grammar
  pub IsShapedStmt : StmtTree → Type 0
  IsShapedStmt (s.stmt at k) = IsShapedStmtKind k

  -- what a statement is has the shape of the grammar: its types, variables, expressions, branches and bodies
  pub IsShapedStmtKind : StmtKindTree → Type 0
  IsShapedStmtKind (s.block xs) = AreShapedStmts xs
  IsShapedStmtKind s.empty = Unit {0}
  IsShapedStmtKind (s.local f t vs) = IsType t × AreShapedVars vs
  IsShapedStmtKind (s.effect x) = IsEffect x × IsShapedExpr x
  IsShapedStmtKind (s.if_else xs e) = HasBranches xs × AreShapedBranches xs × IsShapedElse e
  IsShapedStmtKind (s.while_loop x t) = IsShapedExpr x × IsBody t × IsShapedStmt t
  IsShapedStmtKind (s.do_loop t x) = IsBody t × IsShapedStmt t × IsShapedExpr x
  IsShapedStmtKind (s.for_loop xs x ys t) = IsForHead xs × AreShapedStmts xs × IsShapedCondition x × AreUpdates ys × AreShapedExprs ys × IsBody t × IsShapedStmt t
  IsShapedStmtKind (s.return x) = IsShapedCondition x
  IsShapedStmtKind s.break = Unit {0}
  IsShapedStmtKind s.continue = Unit {0}

  -- each of the statements has the shape of the grammar
  pub AreShapedStmts : StmtTrees → Type 0
  AreShapedStmts s.no_stmts = Unit {0}
  AreShapedStmts (s.stmts x xs) = IsShapedStmt x × AreShapedStmts xs

  -- each condition of an `if` has the shape of the grammar, and so has what it guards, which may be a branch
  pub AreShapedBranches : BranchTrees → Type 0
  AreShapedBranches s.no_branches = Unit {0}
  AreShapedBranches (s.branches x t xs) = IsShapedExpr x × IsBody t × IsShapedStmt t × AreShapedBranches xs

  -- what stands behind the last `else`, where there is one, has the shape of the grammar and may be a branch
  pub IsShapedElse : ElseTree → Type 0
  IsShapedElse s.no_else = Unit {0}
  IsShapedElse (s.otherwise t) = IsBody t × IsShapedStmt t

-- one of the modifiers `public protected private static abstract final default`, by the number of its keyword
abbrev pub IsMod : ℕ → Type 0
IsMod n = IsOneOf (34 ∷ 33 ∷ 32 ∷ 37 ∷ 0 ∷ 17 ∷ 11 ∷ []) n

-- modifiers, by the numbers of their keywords
abbrev pub AreMods : List ℕ → Type 0
AreMods ns = All IsMod ns

-- the type of a parameter is a type of the grammar
abbrev pub IsShapedParam : ParamTree → Type 0
IsShapedParam p = IsType p.ty

-- the statements of a body, where there is one, have the shape of the grammar
abbrev pub IsShapedBlock : Option StmtTrees → Type 0
IsShapedBlock None = Unit {0}
IsShapedBlock (Some xs) = AreShapedStmts xs

-- the arguments of a call of `super`, where there is one, have the shape of the grammar
abbrev pub IsShapedCall : Option (ℕ × ExprTrees) → Type 0
IsShapedCall None = Unit {0}
IsShapedCall (Some x) = AreShapedExprs x.1

-- the modifiers, the result, the parameters and the body of a method have the shape of the grammar
abbrev pub IsShapedMethod : MethodTree → Type 0
IsShapedMethod m = AreMods m.mods × IsResult m.result × All IsShapedParam m.params × IsShapedBlock m.body

-- the modifiers, the parameters, the call of `super` and the body of a constructor have the shape of the grammar
abbrev pub IsShapedCtor : CtorTree → Type 0
IsShapedCtor c = AreMods c.mods × All IsShapedParam c.params × IsShapedCall c.call × AreShapedStmts c.body

-- how many types a class may extend: one at most, and an interface any number; only a class implements any
abbrev pub IsHeader : Bool → List (List Ident) → List (List Ident) → Type 0
IsHeader true extends implements = All IsName extends × (length implements ≡ 0)
IsHeader false extends implements = All IsName extends × (length extends ≤ 1) × All IsName implements

-- each variable has an initializer
abbrev pub AreInitialized : List VarTree → Type 0
AreInitialized vs = All (λ v. v.init ≡ None → ⊥) vs

abbrev mutual
  -- the modifiers, the header and the members of a class or an interface have the shape of the grammar
  pub IsShapedDecl : TypeDeclTree → Type 0
  IsShapedDecl (d.type_decl n ms i es is xs) = AreMods ms × IsHeader i es is × AreShapedMembers i xs

  -- the variables of an interface have initializers, and none of its members is a constructor
  pub AreShapedMembers : Bool → MemberTrees → Type 0
  AreShapedMembers i d.no_members = Unit {0}
  AreShapedMembers i (d.members (d.nested t) xs) = IsShapedDecl t × AreShapedMembers i xs
  AreShapedMembers i (d.members (d.field ms t vs) xs) = AreMods ms × IsType t × AreShapedVars vs × (i ≡ true → AreInitialized vs) × AreShapedMembers i xs
  AreShapedMembers i (d.members (d.method m) xs) = IsShapedMethod m × AreShapedMembers i xs
  AreShapedMembers i (d.members (d.ctor c) xs) = IsShapedCtor c × (i ≡ false) × AreShapedMembers i xs

-- the package of a file, where one is named, has at least one identifier
abbrev pub IsPackage : Option (List Ident) → Type 0
IsPackage None = Unit {0}
IsPackage (Some ids) = IsName ids

-- an import has a name, and the name of a single static one has two identifiers at least: a type, and what it brings of it
abbrev pub IsShapedImport : ImportTree → Type 0
IsShapedImport i = IsName i.name × (i.is_static ≡ true → i.all ≡ false → 1 < length i.name)

-- the tree of a file has the shape of the grammar
abbrev pub IsShaped : UnitTree → Type 0
IsShaped u = IsPackage u.package_name × All IsShapedImport u.imports × All IsShapedDecl u.types

-- a type with 200 pairs of brackets is one; `void`, and a type with 201 pairs, are none
abbrev pub TypesAreToldApart : Type 0
TypesAreToldApart = (at : ℕ) → IsType (record { at = at; base = int; dims = 200 }) × (IsType (record { at = at; base = int; dims = 201 }) → ⊥)
    × (IsType (record { at = at; base = void; dims = 0 }) → ⊥) × IsResult (record { at = at; base = void; dims = 0 })

-- what stands for an expression, and for a statement, in the examples below
abbrev pub number_tree : ℕ → ExprTree
number_tree at = e.expr at e.int

-- a local variable of type `int` without an initializer, as a statement
abbrev pub local_tree : ℕ → Ident → StmtTree
local_tree at n = s.stmt at (s.local false (record { at = at; base = int; dims = 0 }) (record { name = n; init = None } ∷ []))

-- examples of trees that have the shape and of trees that do not
abbrev pub ShapesAreToldApart : Type 0
ShapesAreToldApart = (at : ℕ) (n : Ident)
    → IsShaped (record { package_name = None; imports = []; types = [] })
    × IsShapedStmt (s.stmt at (s.for_loop (s.stmts (local_tree at n) s.no_stmts) None e.no_exprs (s.stmt at s.empty)))
    × (IsShapedStmt (s.stmt at (s.while_loop (number_tree at) (local_tree at n))) → ⊥)
    × (IsForHead (s.stmts (s.stmt at s.empty) s.no_stmts) → ⊥)
    × IsShapedExpr (e.expr at (e.chain (number_tree at) (e.links at 28 (e.operand (number_tree at)) (e.links at 29 (e.operand (number_tree at)) e.no_links))))
    × (IsShapedExpr (e.expr at (e.chain (number_tree at) e.no_links)) → ⊥)
    × (IsShapedExpr (e.expr at (e.assign at 12 (number_tree at) (number_tree at))) → ⊥)
    × (IsShapedDecl (d.type_decl n [] true [] [] (d.members (d.ctor (record { mods = []; name = n; params = []; call = None; body = s.no_stmts })) d.no_members)) → ⊥)
    × (IsShapedImport (record { name = n ∷ []; all = false; is_static = true }) → ⊥)
    × IsShapedImport (record { name = n ∷ []; all = true; is_static = true })
