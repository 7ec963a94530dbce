use Rattle.sg_base.proofs.Chaining.{chain, follow}
use Rattle.sg_base.proofs.laws.extensions_chain.Goals as goal

pub returns-clause-graph : goal.returns-clause-graph
returns-clause-graph g c = chain _

pub returns-clause-state : goal.returns-clause-state
returns-clause-state g c = follow _
