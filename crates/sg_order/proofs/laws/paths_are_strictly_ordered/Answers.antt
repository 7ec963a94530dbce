use Rattle.sg_order.proofs.StrictLemmas.{Before-irreflexive, Before-transitive}
use Rattle.sg_order.proofs.laws.paths_are_strictly_ordered.Goals as goal

pub returns-clause-irreflexive : goal.returns-clause-irreflexive
returns-clause-irreflexive c = λ order strict ps b. Before-irreflexive order strict ps b

pub returns-clause-transitive : goal.returns-clause-transitive
returns-clause-transitive c = λ order strict ps qs rs b d. Before-transitive order strict ps qs rs b d
