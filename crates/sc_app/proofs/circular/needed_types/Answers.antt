use Rattle.sc_app.proofs.CircularLines.{all_needed, needed_more}
use Rattle.sc_app.proofs.circular.needed_types.Goals as goal

pub loop-need-preserved : goal.loop-need-preserved
loop-need-preserved c =
    needed_more c.loop-need.types.items c.push_some.new.scopes.items c.args.needs.now c.loop-need.need-index c.need-item.result c.needed_type.result c.loop-need-test.true c.need-item.is c.needed_type.ensures c.in_ok-push_some.ensures c.loop-need.invariant

pub returns : goal.returns
returns c = all_needed c.loop-need.types.items c.args.needs.now c.loop-need.need-index c.loop-need-test.false c.loop-need.invariant
