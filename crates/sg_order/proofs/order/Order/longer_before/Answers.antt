use Rattle.sg_order.specs.Order.{precedes}
use Rattle.sg_order.proofs.PlaceLemmas.{Before-first, Before-second, Before-neither}
use Rattle.sg_order.proofs.order.Order.longer_before.Goals as goal

pub returns-in-Some : goal.returns-in-Some
returns-in-Some c =
    λ xs ys a b one. Before-first (precedes c.args.self.now) c.before-in-Some.result c.args.x c.in-Some.step xs ys c.in-Some.is c.before-in-Some.ensures.answer a one

pub returns-in-Some-y : goal.returns-in-Some-y
returns-in-Some-y c =
    λ xs ys a b one. Before-second (precedes c.args.self.now) c.before-in-Some-y.result c.args.x c.args.y c.in-Some-y.step xs ys c.in-None.is c.in-Some-y.is c.before-in-Some-y.ensures.answer a b

pub returns-in-None-y : goal.returns-in-None-y
returns-in-None-y c = λ xs ys a b one. Before-neither (precedes c.args.self.now) c.args.x c.args.y xs ys c.in-None.is c.in-None-y.is a b
