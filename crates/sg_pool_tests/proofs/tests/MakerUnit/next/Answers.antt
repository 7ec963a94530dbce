use Rattle.std.proofs.Common.{◌==◌}
use Rattle.sg_pool.proofs.Examples.{makes_second, makes_last}
use Rattle.sg_pool_tests.proofs.tests.MakerUnit.next.Goals as goal

pub returns-in-1-clause-gives : goal.returns-in-1-clause-gives
returns-in-1-clause-gives c = makes_second (λ p d. p == d) (λ a b. a == b) 7 c.args.self.now.number c.args.self.now.within c.args.self.now.given _ c.in-1.is c.args.last

pub returns-in-2-clause-gives : goal.returns-in-2-clause-gives
returns-in-2-clause-gives c = makes_last (λ p d. p == d) (λ a b. a == b) 7 c.args.self.now.number c.args.self.now.within c.args.self.now.given c.in-2.is c.args.last
