use Rattle.std.proofs.Common.{◌+◌, ◌*◌, List, [], Result, drop, map}
use Rattle.sg_query.specs.declared.query.Query.{Query}
use Rattle.sg_reading.specs.declared.stop.Stop.{Stop}
use Rattle.sg_reading.specs.Stop.{Reads}
use Rattle.jv_diag.specs.Plain.{DiagOf}
use Rattle.jv_instance.specs.declared.pred.JavaPred.{JavaPred}
use Rattle.jv_instance.specs.declared.ty.Ty.{Ty}
use Rattle.jv_tree.specs.ExprTree.{expr_trees, init_trees, link_trees}
use Rattle.jv_tree.specs.Spine.{step_tree}
use Rattle.jv_names.specs.Replies.{reply_to}
use Rattle.jv_expr.specs.declared.argument.Argument.{Argument}
use Rattle.jv_expr.specs.declared.value.Value.{Value}
use Rattle.jv_expr.specs.Sites.{site_of}
use Rattle.jv_expr.specs.Steps.{steps_typed}
use Rattle.jv_expr.specs.Typed.{arguments_typed, inits_typed, links_typed, sizes_typed}
use Rattle.jv_expr.proofs.Sizes.{expr_size, exprs_size, init_size, inits_size, links_size, operand_size, step_size, steps_size}
use Rattle.jv_expr.proofs.expressions.+expressions.Given as goal

-- what the rule comes to for the rest of a list, it comes to for the whole
abbrev pub invariant-check_arguments-loop-e : goal.invariant-check_arguments-loop-e
invariant-check_arguments-loop-e l =
    (x : Result (List Argument × List DiagOf) (Stop (Query JavaPred))) → Reads (reply_to l.o) (arguments_typed (site_of l.site) l.locals (expr_trees (drop l.e-index l.es)) l.arguments l.ds) x → Reads (reply_to l.o) (arguments_typed (site_of l.site) l.locals (expr_trees l.es) [] l.fn.ds) x

abbrev pub invariant-check_sizes-loop-e : goal.invariant-check_sizes-loop-e
invariant-check_sizes-loop-e l =
    (x : Result (List DiagOf) (Stop (Query JavaPred))) → Reads (reply_to l.o) (sizes_typed (site_of l.site) l.locals (expr_trees (drop l.e-index l.es.items)) l.ds) x → Reads (reply_to l.o) (sizes_typed (site_of l.site) l.locals (expr_trees l.es.items) l.fn.ds) x

abbrev pub invariant-check_links-loop-link : goal.invariant-check_links-loop-link
invariant-check_links-loop-link l =
    (x : Result (Ty × List DiagOf) (Stop (Query JavaPred))) → Reads (reply_to l.o) (links_typed (site_of l.site) l.locals l.ty (link_trees (drop l.link-index l.links.items)) l.ds) x → Reads (reply_to l.o) (links_typed (site_of l.site) l.locals l.fn.first (link_trees l.links.items) l.fn.ds) x

abbrev pub invariant-check_inits-loop-init : goal.invariant-check_inits-loop-init
invariant-check_inits-loop-init l =
    (x : Result (List DiagOf) (Stop (Query JavaPred))) → Reads (reply_to l.o) (inits_typed (site_of l.site) l.locals l.ty (init_trees (drop l.init-index l.inits.items)) l.ds) x → Reads (reply_to l.o) (inits_typed (site_of l.site) l.locals l.ty (init_trees l.inits.items) l.fn.ds) x

abbrev pub invariant-check_steps-loop-step : goal.invariant-check_steps-loop-step
invariant-check_steps-loop-step l =
    (x : Result (Value × List DiagOf) (Stop (Query JavaPred))) → Reads (reply_to l.o) (steps_typed (site_of l.site) l.locals l.v (map step_tree (drop l.step-index l.steps)) l.ds) x → Reads (reply_to l.o) (steps_typed (site_of l.site) l.locals l.fn.first (map step_tree l.steps) l.fn.ds) x

-- what a call is handed has fewer nodes, or as many where it stands further down
abbrev pub decreases-check_expr : goal.decreases-check_expr
decreases-check_expr l = 6 * expr_size l.e.now + 4

abbrev pub decreases-check_head : goal.decreases-check_head
decreases-check_head l = 6 * expr_size l.e.now + 2

abbrev pub decreases-check_first : goal.decreases-check_first
decreases-check_first l = 6 * (expr_size l.head.now + step_size l.step.now) + 3

abbrev pub decreases-check_steps : goal.decreases-check_steps
decreases-check_steps l = 6 * steps_size l.steps.now + 1

abbrev pub decreases-check_step : goal.decreases-check_step
decreases-check_step l = 6 * step_size l.step.now

abbrev pub decreases-check_called_bare : goal.decreases-check_called_bare
decreases-check_called_bare l = 6 * exprs_size l.es.now.items + 1

abbrev pub decreases-check_called : goal.decreases-check_called
decreases-check_called l = 6 * exprs_size l.es.now + 1

abbrev pub decreases-check_called_super : goal.decreases-check_called_super
decreases-check_called_super l = 6 * exprs_size l.es.now.items + 1

abbrev pub decreases-check_called_new : goal.decreases-check_called_new
decreases-check_called_new l = 6 * exprs_size l.es.now.items + 1

abbrev pub decreases-check_array : goal.decreases-check_array
decreases-check_array l = 6 * exprs_size l.es.now.items + 1

abbrev pub decreases-check_list : goal.decreases-check_list
decreases-check_list l = 6 * inits_size l.list.now.items + 1

abbrev pub decreases-check_index_behind : goal.decreases-check_index_behind
decreases-check_index_behind l = 6 * expr_size l.y.now + 5

abbrev pub decreases-check_linked : goal.decreases-check_linked
decreases-check_linked l = 6 * links_size l.links.now.items + 1

abbrev pub decreases-check_cast_behind : goal.decreases-check_cast_behind
decreases-check_cast_behind l = 6 * expr_size l.x.now + 5

abbrev pub decreases-check_choice_behind : goal.decreases-check_choice_behind
decreases-check_choice_behind l = 6 * expr_size l.z.now + 5

abbrev pub decreases-check_assign_behind : goal.decreases-check_assign_behind
decreases-check_assign_behind l = 6 * expr_size l.y.now + 5

abbrev pub decreases-check_arguments : goal.decreases-check_arguments
decreases-check_arguments l = 6 * exprs_size l.es.now

abbrev pub decreases-check_sizes : goal.decreases-check_sizes
decreases-check_sizes l = 6 * exprs_size l.es.now.items

abbrev pub decreases-check_links : goal.decreases-check_links
decreases-check_links l = 6 * links_size l.links.now.items

abbrev pub decreases-check_link : goal.decreases-check_link
decreases-check_link l = 6 * operand_size l.operand.now

abbrev pub decreases-check_init : goal.decreases-check_init
decreases-check_init l = 6 * init_size l.init.now

abbrev pub decreases-check_inits : goal.decreases-check_inits
decreases-check_inits l = 6 * inits_size l.inits.now.items
