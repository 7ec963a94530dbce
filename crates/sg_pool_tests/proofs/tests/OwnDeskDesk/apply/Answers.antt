use Rattle.std.proofs.Common.{◌==◌, refl, sym}
use Rattle.sg_pool.proofs.Examples.{made_one}
use Rattle.sg_pool_tests.proofs.tests.OwnDeskDesk.apply.Goals as goal

pub returns-clause-seat : goal.returns-clause-seat
returns-clause-seat g c = (made_one (λ p d. p == d) (λ a b. a == b) c.args.seat.now.number c.args.seat.now.made c.in-Some-count_after.made c.args.seat.now.within c.args.seat.now.log.items c.push.new.self.items c.args.op c.in-Some.kept c.requires.own.0 (sym c.in-Some.ensures) c.in-Some-count_after.ensures c.in_ok-push.ensures.items, refl)
