use Rattle.std.proofs.Common.{◌==◌, arith}
use Rattle.sg_small.proofs.Linking.{goes_so, owes_so, link_ends}
use Rattle.sg_small.proofs.tests.link.LinkUnit.next.Goals as goal

pub one_more-self-requires : goal.one_more-self-requires
one_more-self-requires c = link_ends _ _ _ _ (λ p d. p == d) (λ a b. a == b) c.args.self.now.core.value.opening c.args.self.now.core.value.kinds c.args.self.now.number c.args.self.now.looks 5 c.args.self.now.number c.args.self.now.given c.args.last c.requires

pub returns-clause-gives : goal.returns-clause-gives
returns-clause-gives c = goes_so _ _ _ _ (λ p d. p == d) (λ a b. a == b) c.args.self.now.core.value.opening c.args.self.now.core.value.kinds c.args.self.now.number c.args.self.now.looks 5 c.args.self.now.number c.args.self.now.given c.one_more-self.result c.op_at-op.result c.args.last c.op_at-op.ensures c.one_more-self.ensures

pub returns-clause-owed : goal.returns-clause-owed
returns-clause-owed c = owes_so _ _ _ _ (λ p d. p == d) (λ a b. a == b) c.args.self.now.core.value.opening c.args.self.now.core.value.kinds c.args.self.now.number c.args.self.now.looks 5 c.args.self.now.number c.args.self.now.given c.op_at-op.result c.args.last c.op_at-op.ensures

pub returns-clause-falls : goal.returns-clause-falls
returns-clause-falls c =
    let few = link_ends _ _ _ _ (λ p d. p == d) (λ a b. a == b) c.args.self.now.core.value.opening c.args.self.now.core.value.kinds c.args.self.now.number c.args.self.now.looks 5 c.args.self.now.number c.args.self.now.given c.args.last c.requires in
    omega (arith, few, c.one_more-self.ensures)
