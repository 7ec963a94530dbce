use Rattle.sc_app.proofs.Hearing.{one_answered}
use Rattle.sc_app.proofs.heard.put_waiting.Goals as goal

pub returns-in_ok-put-in-Some : goal.returns-in_ok-put-in-Some
returns-in_ok-put-in-Some c = one_answered c.args.replies c.put.new.self c.args.query c.args.answer c.in-Some.answer c.in-Some.is c.in_ok-put-in-Some.ensures.reply
