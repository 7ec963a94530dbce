use Rattle.std.proofs.Common.{◌==◌, refl, rules}
use Rattle.sg_unit.proofs.Examples.{makes_second, makes_last, maker_owes}
use Rattle.sg_unit.proofs.tests.MakerUnit.next.Goals as goal

pub returns-in-1-clause-gives : goal.returns-in-1-clause-gives
returns-in-1-clause-gives c = makes_second (λ p d. p == d) (λ a b. a == b) _ c.args.self.now.given _ c.in-1.is c.args.last

pub returns-clause-gives : goal.returns-clause-gives
returns-clause-gives c = makes_last (λ p d. p == d) (λ a b. a == b) _ c.args.self.now.given (search rules) (search rules) c.args.last

pub returns-clause-owed : goal.returns-clause-owed
returns-clause-owed c = maker_owes (λ p d. p == d) (λ a b. a == b) _ c.args.self.now.given _ refl c.args.last
