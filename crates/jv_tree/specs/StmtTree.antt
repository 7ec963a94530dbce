-- Statements, without memory (JLS 14).
use Rattle.std.specs.Prelude.{ℕ, Bool, List, [], ◌∷◌, Option, Some, None, map}
use Rattle.std.specs.Option.{option_map}
use Rattle.jv_tree.specs.declared.name.Ident.{Ident}
use Rattle.jv_tree.specs.declared.type_ref.Var.{Var}
use Rattle.jv_tree.specs.declared.expression.Expr.{Expr}
use Rattle.jv_tree.specs.declared.statement.Stmt.{Stmt}
use Rattle.jv_tree.specs.declared.statement.StmtKind.{StmtKind, Block', Empty, Local, Effect, If', While', Do', For', Return, Break, Continue, Row_of-Stmt, end_of-Stmt, more_of-Stmt, Row_of-StmtKind-If-0-2, end_of-StmtKind-If-0-2, more_of-StmtKind-If-0-2, Held-StmtKind-If-1, None', Some'}
use Rattle.jv_tree.specs.TypeTree.{TypeTree, type_tree}
use Rattle.jv_tree.specs.ExprTree.{ExprTree, ExprTrees, InitTree, expr_tree, expr_trees, init_tree}

-- a variable with its initializer
pub record VarTree : Type 0 where
  pub name : Ident
  pub init : Option InitTree

mutual
  -- where a statement starts, and what it is
  pub data StmtTree : Type 0 where
    stmt : ℕ → StmtKindTree → StmtTree

  -- what a statement is; `local` begins with whether it is `final`, and `for_loop` is what comes first, condition, updates and body
  pub data StmtKindTree : Type 0 where
    block : StmtTrees → StmtKindTree
    empty : StmtKindTree
    local : Bool → TypeTree → List VarTree → StmtKindTree
    effect : ExprTree → StmtKindTree
    if_else : BranchTrees → ElseTree → StmtKindTree
    while_loop : ExprTree → StmtTree → StmtKindTree
    do_loop : StmtTree → ExprTree → StmtKindTree
    for_loop : StmtTrees → Option ExprTree → ExprTrees → StmtTree → StmtKindTree
    return : Option ExprTree → StmtKindTree
    break : StmtKindTree
    continue : StmtKindTree

  -- statements one after another
  pub data StmtTrees : Type 0 where
    no_stmts : StmtTrees
    stmts : StmtTree → StmtTrees → StmtTrees

  -- the conditions of an `if` and of each `else if`, with what they guard
  pub data BranchTrees : Type 0 where
    no_branches : BranchTrees
    branches : ExprTree → StmtTree → BranchTrees → BranchTrees

  -- what stands behind the last `else`
  pub data ElseTree : Type 0 where
    no_else : ElseTree
    otherwise : StmtTree → ElseTree

-- the pure tree of a variable
abbrev pub var_tree : Var → VarTree
var_tree v = record { name = v.name; init = option_map init_tree v.init }

-- the pure trees of variables
abbrev pub var_trees : List Var → List VarTree
var_trees vs = map var_tree vs

-- the pure tree of what a statement of the code is, and of its parts
abbrev mutual
  -- the pure tree of what a statement is
  pub stmt_kind_tree : StmtKind → StmtKindTree
  stmt_kind_tree (Block' shape xs) = block (stmt_row_trees xs)
  stmt_kind_tree Empty = empty
  stmt_kind_tree (Local f t vs) = local f (type_tree t) (var_trees vs.items)
  stmt_kind_tree (Effect x) = effect (expr_tree x)
  stmt_kind_tree (If' shape xs e) = if_else (branch_row_trees xs) (else_tree e)
  stmt_kind_tree (While' x p at s) = while_loop (expr_tree x) (stmt at (stmt_kind_tree s))
  stmt_kind_tree (Do' p at s x) = do_loop (stmt at (stmt_kind_tree s)) (expr_tree x)
  stmt_kind_tree (For' shape xs x ys p at s) = for_loop (stmt_row_trees xs) (option_map expr_tree x) (expr_trees ys.items) (stmt at (stmt_kind_tree s))
  stmt_kind_tree (Return x) = return (option_map expr_tree x)
  stmt_kind_tree Break = break
  stmt_kind_tree Continue = continue

  -- the pure trees of the statements of a block, or of what comes first in a `for`
  pub stmt_row_trees : {n : _} → Row_of-Stmt n → StmtTrees
  stmt_row_trees end_of-Stmt = no_stmts
  stmt_row_trees (more_of-Stmt at x xs) = stmts (stmt at (stmt_kind_tree x)) (stmt_row_trees xs)

  -- the pure trees of the conditions of an `if`, with what they guard
  pub branch_row_trees : {n : _} → Row_of-StmtKind-If-0-2 n → BranchTrees
  branch_row_trees end_of-StmtKind-If-0-2 = no_branches
  branch_row_trees (more_of-StmtKind-If-0-2 x at s xs) = branches (expr_tree x) (stmt at (stmt_kind_tree s)) (branch_row_trees xs)

  -- the pure tree of what stands behind the last `else`, where there is one
  pub else_tree : Held-StmtKind-If-1 → ElseTree
  else_tree None' = no_else
  else_tree (Some' p at s) = otherwise (stmt at (stmt_kind_tree s))

-- the pure tree of a statement
abbrev pub stmt_tree : Stmt → StmtTree
stmt_tree s = stmt s.at (stmt_kind_tree s.kind)

-- the pure trees of lists
abbrev pub stmt_trees : List Stmt → StmtTrees
stmt_trees [] = no_stmts
stmt_trees (x ∷ xs) = stmts (stmt_tree x) (stmt_trees xs)

-- the pure trees of conditions, with the statements that they guard
abbrev pub branch_trees : List (Expr × Stmt) → BranchTrees
branch_trees [] = no_branches
branch_trees (x ∷ xs) = branches (expr_tree x.0) (stmt_tree x.1) (branch_trees xs)

-- the pure tree of a statement behind the last `else`, where there is one
abbrev pub optional_else : Option Stmt → ElseTree
optional_else None = no_else
optional_else (Some s) = otherwise (stmt_tree s)
