-- Where a `return` stands in a body (JLS 14.17).
use Rattle.std.specs.Prelude.{Bool, true, false, ◌||◌}
use Rattle.jv_tree.specs.StmtTree.{StmtTree, stmt, block, empty, local, effect, if_else, while_loop, do_loop, for_loop, return, break, continue, StmtTrees, no_stmts, stmts, BranchTrees, no_branches, branches, ElseTree, no_else, otherwise}

abbrev mutual
  -- a `return` is a statement or stands in it
  pub has_return : StmtTree → Bool
  has_return (stmt at (block xs)) = some_return xs
  has_return (stmt at empty) = false
  has_return (stmt at (local f t xs)) = false
  has_return (stmt at (effect x)) = false
  has_return (stmt at (if_else xs e)) = branch_returns xs || else_returns e
  has_return (stmt at (while_loop x s)) = has_return s
  has_return (stmt at (do_loop s x)) = has_return s
  has_return (stmt at (for_loop xs x ys s)) = some_return xs || has_return s
  has_return (stmt at (return x)) = true
  has_return (stmt at break) = false
  has_return (stmt at continue) = false

  -- it does in one of some statements
  pub some_return : StmtTrees → Bool
  some_return no_stmts = false
  some_return (stmts x xs) = has_return x || some_return xs

  -- it does in what one of the conditions of an `if` guards
  pub branch_returns : BranchTrees → Bool
  branch_returns no_branches = false
  branch_returns (branches x s xs) = has_return s || branch_returns xs

  -- it does behind the last `else` of an `if`
  pub else_returns : ElseTree → Bool
  else_returns no_else = false
  else_returns (otherwise s) = has_return s
