use Rattle.std.proofs.Common.{◌<◌, ◌≤◌, arith}
use Rattle.sg_order.proofs.StrictLemmas.{strict_rows}
use Rattle.sg_order.proofs.order.Order.new.Goals as goal

pub invariant_of-result : goal.invariant_of-result
invariant_of-result c =
    strict_rows c.args.pairs.now c.closure-rows.result c.closure-rows.ensures.size c.closure-rows.ensures.exact (λ k l. c.loop-i.invariant k (omega arith))
