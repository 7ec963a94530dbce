use Rattle.std.proofs.Common.{◌-◌, ◌+◌, length, ap, sym, ◌∙◌, subst, arith}
use Rattle.jv_tree.specs.StmtTree as s
use Rattle.jv_tree.specs.StmtTree.{StmtTrees, stmt_tree, branch_trees, optional_else}
use Rattle.jv_grammar.specs.Reader.{Reads}
use Rattle.jv_grammar.specs.ExprReader.{below}
use Rattle.jv_grammar.specs.StmtReader.{below_stmt, bstmts_up_to}
use Rattle.jv_parse_expr.specs.View.{Fails}
use Rattle.jv_parse_expr.proofs.Faults.{refuses}
use Rattle.jv_parse_stmt.proofs.VariableTurns.{stmts_onto}
use Rattle.jv_parse_stmt.proofs.BlockTurns.{bstmts_begin, bstmts_over, bstmts_done, bstmts_failed, bstmts_next}
use Rattle.jv_parse_stmt.proofs.BranchTurns.{if_failed, if_read, some_branches, with_last, branches_onto, branches_at, branches_done, last_read, too_deep, branches_next}
use Rattle.jv_parse_stmt.proofs.+statements.Goals as goal

-- statements of a block
pub blocks::block_statements-loop-i-init : goal.blocks::block_statements-loop-i-init
blocks::block_statements-loop-i-init t c = bstmts_begin (below c.args.fuel) (below_stmt c.args.fuel) c.new-items.result.items c.args.terminals.now c.new-items.ensures.items

pub blocks::block_statements-returns-then-ends_block : goal.blocks::block_statements-returns-then-ends_block
blocks::block_statements-returns-then-ends_block t c =
    sym c.loop-i.invariant
    ∙ bstmts_done (below c.args.fuel) (below_stmt c.args.fuel) c.loop-i.items.items (length c.args.terminals.now + 1) c.loop-i._i c.loop-i.rest.now c.loop-i-test.true (sym c.if-ends_block.ensures)

pub blocks::block_statements-returns-in-Err : goal.blocks::block_statements-returns-in-Err
blocks::block_statements-returns-in-Err t c =
    subst (λ (r : Reads StmtTrees). Fails c.in-Err.fault r) c.loop-i.invariant
    (bstmts_failed (below c.args.fuel) (below_stmt c.args.fuel) c.loop-i.items.items (length c.args.terminals.now + 1) c.loop-i._i c.loop-i.rest.now c.loop-i-test.true (sym c.if-ends_block.ensures) c.in-Err.fault c.in-Err.ensures)

pub blocks::block_statements-loop-i-preserved : goal.blocks::block_statements-loop-i-preserved
blocks::block_statements-loop-i-preserved t c =
    ap (λ l. stmts_onto l (bstmts_up_to (below c.args.fuel) (below_stmt c.args.fuel) (length c.args.terminals.now + 1 - (c.loop-i._i + 1)) c.in-Ok.read.1.now)) c.in_ok-push.ensures.items
    ∙ bstmts_next (below c.args.fuel) (below_stmt c.args.fuel) c.loop-i.items.items (length c.args.terminals.now + 1) c.loop-i._i c.loop-i.rest.now c.loop-i-test.true (sym c.if-ends_block.ensures) c.in-Ok.read.0 c.in-Ok.read.1.now c.in-Ok.ensures
    ∙ c.loop-i.invariant

pub blocks::block_statements-returns : goal.blocks::block_statements-returns
blocks::block_statements-returns t c =
    refuses _ _ _ c.refused.ensures (sym c.loop-i.invariant ∙ bstmts_over (below c.args.fuel) (below_stmt c.args.fuel) c.loop-i.items.items (length c.args.terminals.now + 1) c.loop-i._i c.loop-i.rest.now c.loop-i-test.false)

-- branches of an `if`
pub branches::branches-returns-in_default : goal.branches::branches-returns-in_default
branches::branches-returns-in_default t c =
    sym c.chain.invariant.goes
    ∙ branches_done c.chain.left c.chain.items.items c.chain.rest.now (c.in-Ok.read.0, c.in-Ok.read.1) c.in-Ok.read.2.now c.in-Ok.ensures c.in_default.ensures
    ∙ ap (λ l. some_branches c.in-Ok.read.2.now (with_last s.no_else (branch_trees l))) (sym c.in_ok-push.ensures.items)

pub branches::branches-returns-in_default-behind_word : goal.branches::branches-returns-in_default-behind_word
branches::branches-returns-in_default-behind_word t c =
    sym c.chain.invariant.goes
    ∙ last_read c.chain.left c.chain.items.items c.chain.rest.now (c.in-Ok.read.0, c.in-Ok.read.1) c.in-Ok.read.2.now c.in-Ok.ensures c.in-Some.otherwise.now c.in-Some.ensures.0 c.in-Some.ensures.1
    c.in-Ok-nested_statement.read.0 c.in-Ok-nested_statement.read.1.now c.in-Ok-nested_statement.ensures c.in_default-behind_word.ensures
    ∙ ap (λ l. some_branches c.in-Ok-nested_statement.read.1.now (with_last (s.otherwise (stmt_tree c.in-Ok-nested_statement.read.0)) (branch_trees l))) (sym c.in_ok-push.ensures.items)

pub branches::branches-returns-then-left-eq0 : goal.branches::branches-returns-then-left-eq0
branches::branches-returns-then-left-eq0 t c =
    refuses _ _ _ c.refused.ensures
    (sym c.chain.invariant.goes
    ∙ too_deep c.chain.left c.chain.items.items c.chain.rest.now (c.in-Ok.read.0, c.in-Ok.read.1) c.in-Ok.read.2.now c.in-Ok.ensures c.in-Some.otherwise.now c.in-Some.ensures.0 c.in-Some.ensures.1 c.if-left-eq0.true)

pub branches::branches-chain-preserved : goal.branches::branches-chain-preserved
branches::branches-chain-preserved t c = record {
  within = omega (arith, c.chain.invariant.within);
  goes =
      ap (λ l. branches_onto l (branches_at (c.chain.left - 1) c.in-Some-behind_word.next.now)) c.in_ok-push.ensures.items
      ∙ branches_next c.chain.left c.chain.items.items c.chain.rest.now (c.in-Ok.read.0, c.in-Ok.read.1) c.in-Ok.read.2.now c.in-Ok.ensures c.in-Some.otherwise.now c.in-Some.ensures.0 c.in-Some.ensures.1
      (c.chain.left - 1) c.in-Some-behind_word.next.now (omega (arith, c.if-left-eq0.false)) c.in-Some-behind_word.ensures.0 c.in-Some-behind_word.ensures.1
      ∙ c.chain.invariant.goes;
}

pub branches::if_statement-returns-in-Err : goal.branches::if_statement-returns-in-Err
branches::if_statement-returns-in-Err t c =
    if_failed c.args.at (below_stmt c.args.fuel) (below c.args.fuel) c.args.terminals.now c.in-Err.fault c.in-Err.ensures

pub branches::if_statement-returns : goal.branches::if_statement-returns
branches::if_statement-returns t c =
    if_read c.args.at (below_stmt c.args.fuel) (below c.args.fuel) c.args.terminals.now c.in-Ok.read.2.now (branch_trees c.in-Ok.read.0.items) (optional_else c.in-Ok.read.1) (stmt_tree c.in-Ok-if_else.whole)
    c.in-Ok.ensures c.in-Ok-if_else.ensures
