use Rattle.std.proofs.Common.{List, subst, arith}
use Rattle.std.proofs.lemmas.List.{take_all}
use Rattle.sg_state.specs.declared.need.Need.{Need}
use Rattle.sg_waits.specs.Listing.{TakesOff}
use Rattle.sg_waits.proofs.Listed.{takes_more}
use Rattle.sg_waits.proofs.listings.take_off.Goals as goal

pub loop-need-preserved : goal.loop-need-preserved
loop-need-preserved c = (
  takes_more c.args.listings.now.keys c.loop-need.listings.keys c.take_one.new.listings.keys c.args.needs.now c.args.keep.now c.loop-need.need-index c.need-item.result c.args.unit c.loop-need-test.true c.need-item.is c.loop-need.invariant.0 c.take_one.ensures.left,
  c.take_one.ensures.rising,
)

pub returns-clause-left : goal.returns-clause-left
returns-clause-left c =
    subst (λ (ns : List Need). TakesOff c.args.listings.now.keys c.loop-need.listings.keys ns c.args.keep.now c.args.unit) (take_all c.loop-need.need-index c.args.needs.now (omega arith)) c.loop-need.invariant.0
