use Rattle.sc_app.proofs.Hearing.{own_after}
use Rattle.sc_app.proofs.heard.heard_more.Goals as goal

pub returns : goal.returns
returns c = own_after c.heard_after.result c.args.heard c.args.unit c.args.entry.now c.if-entry-unit.false c.heard_after.ensures
