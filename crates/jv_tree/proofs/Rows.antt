-- The pure tree of the row in a node is that of the list that the node was made from.
use Rattle.std.proofs.Common.{◌≡◌, ℕ, refl, ap, ◌∙◌, Global}
use Rattle.std.specs.Prelude.{Vec}
use Rattle.jv_tree.specs.declared.expression.ExprKind.{Row_of-Expr, end_of-Expr, more_of-Expr, items-the_row-Expr, Row_of-Init, end_of-Init, more_of-Init, items-the_row-Init, Row_of-ExprKind-Chain-1-3, end_of-ExprKind-Chain-1-3, more_of-ExprKind-Chain-1-3, items-the_row-ExprKind-Chain-1-3, items_hidden-the_row-Expr-0, items_hidden-the_row-Init-1, items_hidden-the_row-ExprKind-Chain-1-3-2}
use Rattle.jv_tree.specs.declared.expression.ExprKind.TheBlock.{hidden-the_row-Expr-0, hidden-the_row-Init-1, hidden-the_row-ExprKind-Chain-1-3-2}
use Rattle.jv_tree.specs.declared.expression.Operand.{Operand}
use Rattle.jv_tree.specs.declared.statement.Stmt.{Stmt}
use Rattle.jv_tree.specs.declared.statement.StmtKind.{Row_of-Stmt, end_of-Stmt, more_of-Stmt, items-the_row-Stmt, Row_of-StmtKind-If-0-2, end_of-StmtKind-If-0-2, more_of-StmtKind-If-0-2, items-the_row-StmtKind-If-0-2, items_hidden-the_row-Stmt-0, items_hidden-the_row-StmtKind-If-0-2-1}
use Rattle.jv_tree.specs.declared.statement.StmtKind.TheBlock.{hidden-the_row-Stmt-0, hidden-the_row-StmtKind-If-0-2-1}
use Rattle.jv_tree.specs.declared.declaration.Member.{Member, Row_of-Member, end_of-Member, more_of-Member, items-the_row-Member, items_hidden-the_row-Member-0}
use Rattle.jv_tree.specs.declared.declaration.Member.TheBlock.{hidden-the_row-Member-0}
use Rattle.jv_tree.specs.ExprTree.{expr, exprs, inits, links, kind_tree, operand_tree, init_tree, row_trees, init_row_trees, link_row_trees, expr_trees, init_trees, link_trees}
use Rattle.jv_tree.specs.StmtTree.{stmt, stmts, branches, stmt_kind_tree, stmt_row_trees, branch_row_trees, stmt_trees, branch_trees}
use Rattle.jv_tree.specs.declared.expression.Expr.{Expr}
use Rattle.jv_tree.specs.declared.expression.Init.{Init}
use Rattle.jv_tree.specs.ExprTree.{expr_tree}
use Rattle.jv_tree.specs.DeclTree.{members, member_tree, member_row_trees, member_trees}

pub row_trees-items : {n : _} (row : Row_of-Expr n) → row_trees row ≡ expr_trees (items-the_row-Expr n row)
row_trees-items end_of-Expr = refl
row_trees-items (more_of-Expr at x row) = ap (exprs (expr at (kind_tree x))) (row_trees-items row)

pub init_row_trees-items : {n : _} (row : Row_of-Init n) → init_row_trees row ≡ init_trees (items-the_row-Init n row)
init_row_trees-items end_of-Init = refl
init_row_trees-items (more_of-Init x row) = ap (inits (init_tree x)) (init_row_trees-items row)

pub link_row_trees-items : {n : _} (row : Row_of-ExprKind-Chain-1-3 n) → link_row_trees row ≡ link_trees (items-the_row-ExprKind-Chain-1-3 n row)
link_row_trees-items end_of-ExprKind-Chain-1-3 = refl
link_row_trees-items (more_of-ExprKind-Chain-1-3 at op x row) = ap (links at op (operand_tree x)) (link_row_trees-items row)

pub stmt_row_trees-items : {n : _} (row : Row_of-Stmt n) → stmt_row_trees row ≡ stmt_trees (items-the_row-Stmt n row)
stmt_row_trees-items end_of-Stmt = refl
stmt_row_trees-items (more_of-Stmt at x row) = ap (stmts (stmt at (stmt_kind_tree x))) (stmt_row_trees-items row)

pub branch_row_trees-items : {n : _} (row : Row_of-StmtKind-If-0-2 n) → branch_row_trees row ≡ branch_trees (items-the_row-StmtKind-If-0-2 n row)
branch_row_trees-items end_of-StmtKind-If-0-2 = refl
branch_row_trees-items (more_of-StmtKind-If-0-2 x at s row) = ap (branches (expr_tree x) (stmt at (stmt_kind_tree s))) (branch_row_trees-items row)

pub member_row_trees-items : {n : _} (row : Row_of-Member n) → member_row_trees row ≡ member_trees (items-the_row-Member n row)
member_row_trees-items end_of-Member = refl
member_row_trees-items (more_of-Member x row) = ap (members (member_tree x)) (member_row_trees-items row)

-- the same of the vector that a node was made from
pub exprs_made : (v : Vec Expr Global) → row_trees (hidden-the_row-Expr-0 v) ≡ expr_trees v.items
exprs_made v = row_trees-items (hidden-the_row-Expr-0 v) ∙ ap expr_trees (items_hidden-the_row-Expr-0 v)

pub inits_made : (v : Vec Init Global) → init_row_trees (hidden-the_row-Init-1 v) ≡ init_trees v.items
inits_made v = init_row_trees-items (hidden-the_row-Init-1 v) ∙ ap init_trees (items_hidden-the_row-Init-1 v)

pub links_made : (v : Vec (ℕ × ℕ × Operand) Global) → link_row_trees (hidden-the_row-ExprKind-Chain-1-3-2 v) ≡ link_trees v.items
links_made v = link_row_trees-items (hidden-the_row-ExprKind-Chain-1-3-2 v) ∙ ap link_trees (items_hidden-the_row-ExprKind-Chain-1-3-2 v)

pub stmts_made : (v : Vec Stmt Global) → stmt_row_trees (hidden-the_row-Stmt-0 v) ≡ stmt_trees v.items
stmts_made v = stmt_row_trees-items (hidden-the_row-Stmt-0 v) ∙ ap stmt_trees (items_hidden-the_row-Stmt-0 v)

pub branches_made : (v : Vec (Expr × Stmt) Global) → branch_row_trees (hidden-the_row-StmtKind-If-0-2-1 v) ≡ branch_trees v.items
branches_made v = branch_row_trees-items (hidden-the_row-StmtKind-If-0-2-1 v) ∙ ap branch_trees (items_hidden-the_row-StmtKind-If-0-2-1 v)

pub members_made : (v : Vec Member Global) → member_row_trees (hidden-the_row-Member-0 v) ≡ member_trees v.items
members_made v = member_row_trees-items (hidden-the_row-Member-0 v) ∙ ap member_trees (items_hidden-the_row-Member-0 v)
