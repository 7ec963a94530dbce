use Rattle.std.proofs.Common.{ℕ, ◌<◌, List, ◌∙◌, arith, refl, rules, subst, sym}
use Rattle.sg_reading.proofs.Steps.{then_err, then_ok}
use Rattle.jv_tree.specs.declared.expression.Operand.{Operand}
use Rattle.jv_expr.proofs.Sizes.{assigned_below, elements_below, first_below, link_below, links_size, operand_size, right_below}
use Rattle.jv_expr.proofs.SpineSteps.{first_called, first_index, first_named, head_stepped}
use Rattle.jv_expr.proofs.StatementEnds.{valued_stops}
use Rattle.jv_expr.proofs.ExpressionCases.{assign_case, cast_case, chain_case, choice_case, list_init_case}
use Rattle.jv_expr.proofs.expressions.+expressions.Goals as goal

pub check_head-returns-in_ok-v-in-Chain : goal.check_head-returns-in_ok-v-in-Chain
check_head-returns-in_ok-v-in-Chain t c = chain_case _ _ _ _ _ _ _ _ _ c.in-Chain.is c.deref-in-Chain.ensures (then_ok _ _ _ _ _ c.in_ok-v-in-Chain.ensures c.check_linked.ensures)

pub check_head-returns-in_ok-to-in-Cast : goal.check_head-returns-in_ok-to-in-Cast
check_head-returns-in_ok-to-in-Cast t c = cast_case _ _ _ _ _ _ _ _ _ c.in-Cast.is c.deref-in-Cast.ensures (then_ok _ _ _ _ _ c.in_ok-to-in-Cast.ensures c.check_cast_behind.ensures)

pub check_head-returns-in_err-v-in-Cond : goal.check_head-returns-in_err-v-in-Cond
check_head-returns-in_err-v-in-Cond t c =
    valued_stops _ _ _ _ _ c.from_residual-in_err-v-in-Cond.ensures.1 (choice_case _ _ _ _ _ _ _ _ _ _ _ _ c.in-Cond.is c.deref-in-Cond.ensures c.deref-in-Cond-2.ensures refl (then_ok _ _ _ _ _ c.in_ok-c-in-Cond.ensures (then_err _ _ _ _ c.in_err-v-in-Cond.ensures)))

pub check_head-returns-in_ok-v-in-Cond : goal.check_head-returns-in_ok-v-in-Cond
check_head-returns-in_ok-v-in-Cond t c =
    choice_case _ _ _ _ _ _ _ _ _ _ _ _ c.in-Cond.is c.deref-in-Cond.ensures c.deref-in-Cond-2.ensures c.deref-in-Cond-3.ensures (then_ok _ _ _ _ _ c.in_ok-c-in-Cond.ensures (then_ok _ _ _ _ _ c.in_ok-v-in-Cond.ensures c.check_choice_behind.ensures))

pub check_head-returns-in_ok-v-in-Assign : goal.check_head-returns-in_ok-v-in-Assign
check_head-returns-in_ok-v-in-Assign t c =
    assign_case _ _ _ _ _ _ _ _ _ _ _ _ _ _ _ _ c.in-Assign.is c.deref-in-Assign.ensures c.deref-in-Assign-4.ensures c.deref-in-Assign-2.ensures refl c.deref-in-Assign-3.ensures c.is_variable-in-Assign.ensures (then_ok _ _ _ _ _ c.in_ok-v-in-Assign.ensures c.check_assign_behind.ensures)

pub check_init-returns-in_ok-add_list-in-List : goal.check_init-returns-in_ok-add_list-in-List
check_init-returns-in_ok-add_list-in-List t c = list_init_case _ _ _ _ _ _ _ _ _ _ _ c.in-List.is c.element_needed.ensures c.in_ok-add_list-in-List.ensures c.check_inits.ensures

-- along the spine
pub check_expr-check_first-requires : goal.check_expr-check_first-requires
check_expr-check_first-requires t c =
    let below = first_below c.in_ok-spine.spine.head.now c.args.e.now c.in_ok-spine.spine.steps.items c.in_ok-spine.ensures.whole c.in-Some.first.now c.in-Some.others.now (sym c.as_slice.ensures.value ∙ c.in-Some.ensures.cases.0) in
    (omega (arith, below, c.decreases), search rules)

pub check_expr-returns-in_err-v-in-Some : goal.check_expr-returns-in_err-v-in-Some
check_expr-returns-in_err-v-in-Some t c =
    valued_stops _ _ _ _ _ c.from_residual-in_err-v-in-Some.ensures.1
    (head_stepped _ _ _ c.in_ok-spine.spine.head.now c.args.e.now c.in_ok-spine.spine.steps.items c.in_ok-spine.ensures.whole _ _ c.in-Some.first.now c.in-Some.others.now (sym c.as_slice.ensures.value ∙ c.in-Some.ensures.cases.0) (then_err _ _ _ _ c.in_err-v-in-Some.ensures))

pub check_expr-returns : goal.check_expr-returns
check_expr-returns t c =
    head_stepped _ _ _ c.in_ok-spine.spine.head.now c.args.e.now c.in_ok-spine.spine.steps.items c.in_ok-spine.ensures.whole _ _ c.in-Some.first.now c.in-Some.others.now (sym c.as_slice.ensures.value ∙ c.in-Some.ensures.cases.0)
    (then_ok _ _ _ _ _ c.in_ok-v-in-Some.ensures c.check_steps.ensures)

pub check_first-returns-in_ok-f-in-Some : goal.check_first-returns-in_ok-f-in-Some
check_first-returns-in_ok-f-in-Some t c = first_named _ _ _ c.args.head.now _ _ _ _ _ _ c.in-Call.is c.in-Some.name.now _ c.in-Some.ensures c.as_slice.ensures.value (then_ok _ _ _ _ _ c.in_ok-f-in-Some.ensures c.check_called.ensures)

pub check_first-returns-in_ok-v-in-None : goal.check_first-returns-in_ok-v-in-None
check_first-returns-in_ok-v-in-None t c = first_called _ _ _ c.args.head.now _ _ _ _ _ _ c.in-Call.is c.in-None.ensures (then_ok _ _ _ _ _ c.in_ok-v-in-None.ensures c.check_called-in-None.ensures)

pub check_first-returns-in_ok-v-in-Index : goal.check_first-returns-in_ok-v-in-Index
check_first-returns-in_ok-v-in-Index t c = first_index _ _ _ c.args.head.now _ _ _ _ _ c.in-Index.is (then_ok _ _ _ _ _ c.in_ok-v-in-Index.ensures c.check_index_behind.ensures)

-- what is handed on has fewer nodes
pub check_head-check_choice_behind-requires : goal.check_head-check_choice_behind-requires
check_head-check_choice_behind-requires t c =
    let below = right_below c.args.e.now c.deref-in-Cond-3.result.now c.in-Cond.x c.in-Cond.y c.in-Cond.z c.in-Cond.is c.deref-in-Cond-3.ensures in
    (omega (arith, below, c.decreases), search rules)

pub check_head-check_assign_behind-requires : goal.check_head-check_assign_behind-requires
check_head-check_assign_behind-requires t c =
    let below = assigned_below c.args.e.now c.deref-in-Assign-4.result.now c.in-Assign.at c.in-Assign.op c.in-Assign.x c.in-Assign.y c.in-Assign.is c.deref-in-Assign-4.ensures in
    (omega (arith, below, c.decreases), search rules)

pub check_init-check_inits-requires : goal.check_init-check_inits-requires
check_init-check_inits-requires t c =
    let below = elements_below c.args.init.now c.in-List.at c.in-List.inits c.in-List.is in
    (omega (arith, below, c.decreases), search rules)

pub check_links-check_link-requires : goal.check_links-check_link-requires
check_links-check_link-requires t c =
    let x = c.link-item.result in
    let below : operand_size x.2 < links_size c.args.links.now.items =
    subst (λ (xs : List (ℕ × ℕ × Operand)). operand_size x.2 < links_size xs) c.deref-link-items.ensures.value (link_below c.deref-link-items.result.now c.loop-link.link-index x c.loop-link-test.true c.link-item.is) in
    (omega (arith, below, c.decreases), search rules)
