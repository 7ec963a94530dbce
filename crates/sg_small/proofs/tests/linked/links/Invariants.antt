use Rattle.sg_small.specs.Link.{AreNewLinks}
use Rattle.sg_small.proofs.tests.linked.links.Given as goal

abbrev pub invariant-loop-number : goal.invariant-loop-number
invariant-loop-number l = AreNewLinks (λ k. k.number) (λ k. k.looks) (λ k. k.given) (λ k. k.core.value) l.core l.number l.units.items
