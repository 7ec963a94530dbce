use Rattle.std.proofs.Common.{refl}
use Rattle.sg_broker.proofs.Answered.{asked_here, back_here}
use Rattle.sg_broker.proofs.keeping.keep_ask.Goals as goal

pub returns-in-None-keep_ask : goal.returns-in-None-keep_ask
returns-in-None-keep_ask g c = asked_here g.I.Instance.wants g.I.Instance.same_datum c.args.sight.now c.args.unit c.args.kept.now.events.items c.keep_ask.new.self.events.items c.args.kept.now.ask c.keep_ask.new.self.ask c.args.query c.in-Some-Found.answer (c.if-not-asks_nothing.ensures refl) c.requires.kind c.in-Some-Found.ensures.graph (rw c.in-Some-Found.field-0-is at c.in-Some-Found.ensures.ahead) c.in-None-keep_ask.ensures.kept

pub returns-in-Some : goal.returns-in-Some
returns-in-Some g c =
    let b = c.in-Some.ensures.back in
    back_here g.I.Instance.wants g.I.Instance.same_datum c.args.sight.now c.args.unit c.args.kept.now.events.items c.keep_ask.new.self.events.items c.args.kept.now.ask c.keep_ask.new.self.ask c.args.query c.in-Some.query c.in-Some-Found.answer c.in-Some.answer b.0 b.1 b.2 b.3 c.in-Some-Found.ensures.graph (rw c.in-Some-Found.field-0-is at c.in-Some-Found.ensures.ahead)
