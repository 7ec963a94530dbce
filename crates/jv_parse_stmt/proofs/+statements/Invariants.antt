use Rattle.std.proofs.Common.{◌≡◌, ◌+◌, ◌-◌, ◌*◌, ◌≤◌, length}
use Rattle.jv_grammar.specs.ExprReader.{below}
use Rattle.jv_grammar.specs.StmtReader.{below_stmt, bstmts_up_to, bstmts_by}
use Rattle.jv_parse_stmt.proofs.VariableTurns.{stmts_onto}
use Rattle.jv_parse_stmt.proofs.BranchTurns.{branches_onto, branches_at}
use Rattle.jv_parse_stmt.proofs.+statements.Given as goal

abbrev pub decreases-blocks::block_statements : goal.decreases-blocks::block_statements
decreases-blocks::block_statements l = 16 * l.fuel + 7

abbrev pub decreases-blocks::block_statement : goal.decreases-blocks::block_statement
decreases-blocks::block_statement l = 16 * l.fuel + 6

abbrev pub decreases-statements::statement : goal.decreases-statements::statement
decreases-statements::statement l = 16 * l.fuel + 5

abbrev pub decreases-branches::if_statement : goal.decreases-branches::if_statement
decreases-branches::if_statement l = 16 * l.fuel + 3

abbrev pub decreases-branches::branches : goal.decreases-branches::branches
decreases-branches::branches l = 16 * l.fuel + 2

abbrev pub decreases-branches::guarded : goal.decreases-branches::guarded
decreases-branches::guarded l = 16 * l.fuel + 1

abbrev pub decreases-loops::while_statement : goal.decreases-loops::while_statement
decreases-loops::while_statement l = 16 * l.fuel + 1

abbrev pub decreases-loops::do_statement : goal.decreases-loops::do_statement
decreases-loops::do_statement l = 16 * l.fuel + 1

abbrev pub decreases-loops::for_statement : goal.decreases-loops::for_statement
decreases-loops::for_statement l = 16 * l.fuel + 1

abbrev pub decreases-blocks::block : goal.decreases-blocks::block
decreases-blocks::block l = 16 * l.fuel + 1

abbrev pub decreases-statements::nested_statement : goal.decreases-statements::nested_statement
decreases-statements::nested_statement l = 16 * l.fuel

abbrev pub decreases-blocks::nested_block_statements : goal.decreases-blocks::nested_block_statements
decreases-blocks::nested_block_statements l = 16 * l.fuel

abbrev pub invariant-blocks::block_statements-loop-i : goal.invariant-blocks::block_statements-loop-i
invariant-blocks::block_statements-loop-i l =
    stmts_onto l.items.items (bstmts_up_to (below l.fuel) (below_stmt l.fuel) (length l.terminals + 1 - l._i) l.rest) ≡ bstmts_by (below l.fuel) (below_stmt l.fuel) l.terminals

abbrev pub invariant-branches::branches-chain : goal.invariant-branches::branches-chain
invariant-branches::branches-chain l = record {
  within : l.left ≤ l.fuel;
  goes : branches_onto l.items.items (branches_at l.left l.rest) ≡ branches_at l.fuel l.terminals;
}

abbrev pub decreases-branches::branches-chain : goal.decreases-branches::branches-chain
decreases-branches::branches-chain l = l.left
