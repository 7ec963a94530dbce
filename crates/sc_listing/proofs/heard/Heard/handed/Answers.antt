use Rattle.sc_listing.specs.Listed.{listed_of}
use Rattle.sc_listing.proofs.Hearing.{none_asked, one_asked}
use Rattle.sc_listing.proofs.heard.Heard.handed.Goals as goal

pub returns-in-Some : goal.returns-in-Some
returns-in-Some c = one_asked (listed_of c.args.w.now) c.put_answer.result c.args.self c.in-Some.query c.in-Some.is c.put_answer.ensures

pub returns-in-None : goal.returns-in-None
returns-in-None c = none_asked (listed_of c.args.w.now) c.args.self c.in-None.is
