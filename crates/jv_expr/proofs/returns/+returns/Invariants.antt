use Rattle.std.proofs.Common.{◌≡◌, drop}
use Rattle.jv_tree.specs.StmtTree.{branch_trees, stmt_kind_tree, stmt_trees}
use Rattle.jv_expr.specs.Branches.{branches_of}
use Rattle.jv_expr.specs.Returns.{branch_returns, some_return}
use Rattle.jv_expr.proofs.returns.+returns.Given as goal

-- what holds of the rest of the statements holds of all, since no `return` stands in those before
abbrev pub invariant-some_return-loop-s : goal.invariant-some_return-loop-s
invariant-some_return-loop-s l = some_return (stmt_trees (drop l.s-index l.ss)) ≡ some_return (stmt_trees l.ss)

-- and so for the branches of an `if`
abbrev pub invariant-branch_returns-loop-branch : goal.invariant-branch_returns-loop-branch
invariant-branch_returns-loop-branch l = branch_returns (branch_trees (drop l.branch-index l.branch-items)) ≡ branch_returns (branches_of (stmt_kind_tree l.s.kind))
