-- What contracts see of the parts of statements.
use Rattle.std.specs.Prelude.{true, List, Option}
use Rattle.std.specs.Option.{option_map}
use Rattle.std.specs.Global.{Global}
use Rattle.std.specs.declared.boxed.Box.{Box}
use Rattle.sg_reading.specs.Reading.{and_then}
use Rattle.jv_diag.specs.Plain.{DiagOf}
use Rattle.jv_tree.specs.declared.expression.Expr.{Expr}
use Rattle.jv_tree.specs.declared.statement.Stmt.{Stmt}
use Rattle.jv_tree.specs.ExprTree.{expr_tree, expr_trees}
use Rattle.jv_tree.specs.StmtTree.{ElseTree, optional_else, stmt_tree}
use Rattle.jv_names.specs.Replies.{Rule}
use Rattle.jv_expr.specs.declared.local.Local.{Local}
use Rattle.jv_expr.specs.Site.{SiteOf}
use Rattle.jv_expr.specs.Statements.{Scoped, checked, effects_checked, optional_condition}

-- the plain data of what stands behind the last `else` in the code
abbrev pub else_of : Option (Box Stmt Global) → ElseTree
else_of other = optional_else (option_map (λ b. b.value) other)

-- the rounds of a `for` of the code: its condition, what comes after each round, and its body
abbrev pub rounds_checked : SiteOf → Option Expr → List Expr → Stmt → List Local → List DiagOf → Rule Scoped
rounds_checked site condition updates body vs ds =
    and_then (optional_condition site vs (option_map expr_tree condition) ds)
    (λ ds. and_then (effects_checked site vs (expr_trees updates) ds) (λ ds. checked site true (stmt_tree body) vs ds))
