use Rattle.sc_app.proofs.Hearing.{hears_more}
use Rattle.sc_app.proofs.heard.replies_of.Goals as goal

pub loop-entry-preserved : goal.loop-entry-preserved
loop-entry-preserved c =
    hears_more c.loop-entry.heard c.in_ok-heard.heard c.args.unit c.args.log.now c.loop-entry.entry-index c.entry-item.result c.loop-entry-test.true c.entry-item.is c.in_ok-heard.ensures c.loop-entry.invariant
