use Rattle.std.proofs.Common.{◌<◌, arith, slice_index}
use Rattle.std.proofs.lemmas.Bool.Decides.{nat_tests}
use Rattle.sg_order.proofs.EmptyLemmas.{some_pair}
use Rattle.sg_order.proofs.order.Order.is_empty.Goals as goal

pub returns-then-self-i-ne0 : goal.returns-then-self-i-ne0
returns-then-self-i-ne0 c =
    let not_zero = c.if-self-i-ne0.true in
    let some : 0 < slice_index c.args.self.now c.loop-i.i = grind (arith, nat_tests, not_zero, c.self.view_is) in
    let pair = some_pair c.args.self.now c.loop-i.i some in
    ((λ e. absurd (cc)), (λ none. absurd (none pair.0 pair.1 pair.2)))
