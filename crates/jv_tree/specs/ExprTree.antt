-- Expressions, without memory (JLS 15).
use Rattle.std.specs.Prelude.{ℕ, Bool, zero, suc, List, [], ◌∷◌}
use Rattle.jv_tree.specs.declared.name.Ident.{Ident}
use Rattle.jv_tree.specs.declared.expression.Expr.{Expr}
use Rattle.jv_tree.specs.declared.expression.ExprKind.{ExprKind, Int, Long, Char, Str, Bool as BoolKind, Null, This, Name, Field', SuperField, Call', Index', New', NewArray', NewList', Pre', Post', Chain', Cast', Cond', Assign', Row_of-Expr, end_of-Expr, more_of-Expr, Row_of-Init, end_of-Init, more_of-Init, Row_of-ExprKind-Chain-1-3, end_of-ExprKind-Chain-1-3, more_of-ExprKind-Chain-1-3}
use Rattle.jv_tree.specs.declared.expression.Init.{Init, One', List'}
use Rattle.jv_tree.specs.declared.expression.Operand.{Operand, Expr', Of}
use Rattle.jv_tree.specs.declared.expression.Target.{Target, Bare, On', Super}
use Rattle.jv_tree.specs.TypeTree.{TypeTree, ids_of, type_tree}

mutual
  -- where an expression starts, and what it is
  pub data ExprTree : Type 0 where
    expr : ℕ → KindTree → ExprTree

  -- what an expression is; `pre`, `post` and `assign` begin with the place of their operator and its number
  pub data KindTree : Type 0 where
    int : KindTree
    long : KindTree
    char : KindTree
    str : KindTree
    bool : Bool → KindTree
    null : KindTree
    this : KindTree
    name : List Ident → KindTree
    field : ExprTree → Ident → KindTree
    super_field : Ident → KindTree
    call : TargetTree → Ident → ExprTrees → KindTree
    index : ExprTree → ExprTree → KindTree
    new : List Ident → ExprTrees → KindTree
    new_array : TypeTree → ExprTrees → KindTree
    new_list : TypeTree → InitTrees → KindTree
    pre : ℕ → ℕ → ExprTree → KindTree
    post : ℕ → ℕ → ExprTree → KindTree
    chain : ExprTree → LinkTrees → KindTree
    cast : TypeTree → ExprTree → KindTree
    choice : ExprTree → ExprTree → ExprTree → KindTree
    assign : ℕ → ℕ → ExprTree → ExprTree → KindTree

  -- what stands in front of the name of a method
  pub data TargetTree : Type 0 where
    bare : TargetTree
    on : ExprTree → TargetTree
    super : TargetTree

  -- what stands behind an operator of a chain
  pub data OperandTree : Type 0 where
    operand : ExprTree → OperandTree
    of_type : TypeTree → OperandTree

  -- an initializer: an expression, or a list in braces with the place where it starts
  pub data InitTree : Type 0 where
    one : ExprTree → InitTree
    list : ℕ → InitTrees → InitTree

  -- lists of them; a link is an operator's place, its number and what stands behind it
  pub data ExprTrees : Type 0 where
    no_exprs : ExprTrees
    exprs : ExprTree → ExprTrees → ExprTrees

  -- initializers one after another
  pub data InitTrees : Type 0 where
    no_inits : InitTrees
    inits : InitTree → InitTrees → InitTrees

  -- links of a chain one after another: the place of an operator, its number, and what stands behind it
  pub data LinkTrees : Type 0 where
    no_links : LinkTrees
    links : ℕ → ℕ → OperandTree → LinkTrees → LinkTrees

-- the pure tree of what an expression of the code is, and of its parts
abbrev mutual
  -- the pure tree of what an expression is
  pub kind_tree : ExprKind → KindTree
  kind_tree Int = int
  kind_tree Long = long
  kind_tree Char = char
  kind_tree Str = str
  kind_tree (BoolKind b) = bool b
  kind_tree Null = null
  kind_tree This = this
  kind_tree (Name n) = name (ids_of n)
  kind_tree (Field' p at x i) = field (expr at (kind_tree x)) i
  kind_tree (SuperField i) = super_field i
  kind_tree (Call' t i shape xs) = call (target_tree t) i (row_trees xs)
  kind_tree (Index' p at x q at' y) = index (expr at (kind_tree x)) (expr at' (kind_tree y))
  kind_tree (New' n shape xs) = new (ids_of n) (row_trees xs)
  kind_tree (NewArray' t shape xs) = new_array (type_tree t) (row_trees xs)
  kind_tree (NewList' t shape xs) = new_list (type_tree t) (init_row_trees xs)
  kind_tree (Pre' at op p at' x) = pre at op (expr at' (kind_tree x))
  kind_tree (Post' at op p at' x) = post at op (expr at' (kind_tree x))
  kind_tree (Chain' p at x shape xs) = chain (expr at (kind_tree x)) (link_row_trees xs)
  kind_tree (Cast' t p at x) = cast (type_tree t) (expr at (kind_tree x))
  kind_tree (Cond' p at x q at' y r at'' z) = choice (expr at (kind_tree x)) (expr at' (kind_tree y)) (expr at'' (kind_tree z))
  kind_tree (Assign' at op p at' x q at'' y) = assign at op (expr at' (kind_tree x)) (expr at'' (kind_tree y))

  -- the pure tree of what stands in front of the name of a method
  pub target_tree : Target → TargetTree
  target_tree Bare = bare
  target_tree (On' p at x) = on (expr at (kind_tree x))
  target_tree Super = super

  -- the pure tree of what stands behind an operator of a chain
  pub operand_tree : Operand → OperandTree
  operand_tree (Expr' at x) = operand (expr at (kind_tree x))
  operand_tree (Of t) = of_type (type_tree t)

  -- the pure tree of an initializer
  pub init_tree : Init → InitTree
  init_tree (One' at x) = one (expr at (kind_tree x))
  init_tree (List' at shape xs) = list at (init_row_trees xs)

  -- the pure trees of the arguments of a call or `new`, or of the sizes of a new array
  pub row_trees : {n : _} → Row_of-Expr n → ExprTrees
  row_trees end_of-Expr = no_exprs
  row_trees (more_of-Expr at x xs) = exprs (expr at (kind_tree x)) (row_trees xs)

  -- the pure trees of the elements of a list in braces
  pub init_row_trees : {n : _} → Row_of-Init n → InitTrees
  init_row_trees end_of-Init = no_inits
  init_row_trees (more_of-Init x xs) = inits (init_tree x) (init_row_trees xs)

  -- the pure trees of the links of a chain
  pub link_row_trees : {n : _} → Row_of-ExprKind-Chain-1-3 n → LinkTrees
  link_row_trees end_of-ExprKind-Chain-1-3 = no_links
  link_row_trees (more_of-ExprKind-Chain-1-3 at op x xs) = links at op (operand_tree x) (link_row_trees xs)

-- the pure tree of an expression
abbrev pub expr_tree : Expr → ExprTree
expr_tree e = expr e.at (kind_tree e.kind)

-- the pure trees of lists
abbrev pub expr_trees : List Expr → ExprTrees
expr_trees [] = no_exprs
expr_trees (x ∷ xs) = exprs (expr_tree x) (expr_trees xs)

-- the pure trees of initializers
abbrev pub init_trees : List Init → InitTrees
init_trees [] = no_inits
init_trees (x ∷ xs) = inits (init_tree x) (init_trees xs)

-- the pure trees of links: the place of an operator, its number, and what stands behind it
abbrev pub link_trees : List (ℕ × ℕ × Operand) → LinkTrees
link_trees [] = no_links
link_trees (x ∷ xs) = links x.0 x.1 (operand_tree x.2) (link_trees xs)

-- how many expressions a list has
abbrev pub expr_count : ExprTrees → ℕ
expr_count no_exprs = zero
expr_count (exprs x xs) = suc (expr_count xs)
