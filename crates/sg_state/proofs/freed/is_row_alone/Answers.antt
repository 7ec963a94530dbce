use Rattle.std.proofs.Common.{arith}
use Rattle.sg_state.proofs.FreeNeeds.{one_row_alone, row_not_alone}
use Rattle.sg_state.proofs.freed.is_row_alone.Goals as goal

pub returns-in-len1 : goal.returns-in-len1
returns-in-len1 g c = one_row_alone c.args.place.now c.args.unit c.args.label c.holders.result.now c.in-len1.len_at_least c.in-len1.len_below c.holders.ensures.exact

pub returns-in_default : goal.returns-in_default
returns-in_default g c = row_not_alone c.args.place.now c.args.unit c.args.label c.holders.result.now (λ e. (let k = c.in_default.len_below in omega (arith, k, e))) c.holders.ensures.rising c.holders.ensures.exact

pub returns-in_default-2 : goal.returns-in_default-2
returns-in_default-2 g c = row_not_alone c.args.place.now c.args.unit c.args.label c.holders.result.now (λ e. (let k = c.in_default.len_at_least in omega (arith, k, e))) c.holders.ensures.rising c.holders.ensures.exact
