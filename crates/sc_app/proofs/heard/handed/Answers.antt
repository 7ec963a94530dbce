use Rattle.std.proofs.Common.{refl}
use Rattle.sc_app.proofs.Hearing.{none_asked, one_asked}
use Rattle.sc_app.proofs.heard.handed.Goals as goal

pub returns-in-None : goal.returns-in-None
returns-in-None c = none_asked c.args.heard c.args.heard.replies c.in-None.is refl

pub returns-in-Some : goal.returns-in-Some
returns-in-Some c = one_asked c.put_waiting.result c.args.heard c.in-Some.query c.in-Some.is c.put_waiting.ensures
