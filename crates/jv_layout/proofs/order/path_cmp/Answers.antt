use Rattle.std.proofs.Common.{◌∙◌}
use Rattle.jv_layout.proofs.Paths.{less_than}
use Rattle.jv_layout.proofs.order.path_cmp.Goals as goal

pub returns-else-is_empty : goal.returns-else-is_empty
returns-else-is_empty c = less_than c.args.names.now c.loop-left.left.now c.loop-left.right.now c.in_default.len_below c.if-is_empty.ensures ∙ c.loop-left.invariant
