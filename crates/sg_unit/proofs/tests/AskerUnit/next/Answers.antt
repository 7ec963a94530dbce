use Rattle.std.proofs.Common.{◌==◌, rules}
use Rattle.sg_unit.proofs.Examples.{goes_second, goes_last, owes_last}
use Rattle.sg_unit.proofs.tests.AskerUnit.next.Goals as goal

pub returns-in-1-clause-gives : goal.returns-in-1-clause-gives
returns-in-1-clause-gives c = goes_second (λ p d. p == d) (λ a b. a == b) 5 _ c.args.self.now.given _ c.in-1.is c.new.ensures c.args.last

pub returns-clause-gives : goal.returns-clause-gives
returns-clause-gives c = goes_last (λ p d. p == d) (λ a b. a == b) 5 _ c.args.self.now.given (search rules) (search rules) c.args.last

pub returns-clause-owed : goal.returns-clause-owed
returns-clause-owed c = owes_last (λ p d. p == d) (λ a b. a == b) 5 _ c.args.self.now.given (search rules) (search rules) c.args.last
