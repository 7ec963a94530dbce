use Rattle.std.proofs.Common.{◌==◌, ◌<◌, arith}
use Rattle.sg_serial.proofs.Examples.{goes_so, owes_so, worker_ends}
use Rattle.sg_serial_tests.proofs.tests.WorkerUnit.next.Goals as goal

pub one_more-self-requires : goal.one_more-self-requires
one_more-self-requires c = worker_ends _ _ _ _ (λ p d. p == d) (λ a b. a == b) c.args.self.now.kinds.value 5 7 c.args.self.now.second c.args.self.now.asks c.args.self.now.given c.args.last c.requires

pub returns-clause-gives : goal.returns-clause-gives
returns-clause-gives c = goes_so _ _ _ _ (λ p d. p == d) (λ a b. a == b) c.args.self.now.kinds.value 5 7 c.args.self.now.second c.args.self.now.asks c.args.self.now.given c.one_more-self.result c.op_at-op.result c.args.last c.op_at-op.ensures c.one_more-self.ensures

pub returns-clause-owed : goal.returns-clause-owed
returns-clause-owed c = owes_so _ _ _ _ (λ p d. p == d) (λ a b. a == b) c.args.self.now.kinds.value 5 7 c.args.self.now.second c.args.self.now.asks c.args.self.now.given c.op_at-op.result c.args.last c.op_at-op.ensures

pub returns-clause-falls : goal.returns-clause-falls
returns-clause-falls c =
    let few = worker_ends _ _ _ _ (λ p d. p == d) (λ a b. a == b) c.args.self.now.kinds.value 5 7 c.args.self.now.second c.args.self.now.asks c.args.self.now.given c.args.last c.requires in
    omega (arith, few, c.one_more-self.ensures)
