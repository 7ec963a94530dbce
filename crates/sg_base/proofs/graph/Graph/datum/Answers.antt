use Rattle.sg_base.proofs.Entries.{datum_some, datum_none}
use Rattle.sg_base.proofs.graph.Graph.datum.Goals as goal

pub returns-clause-found : goal.returns-clause-found
returns-clause-found g c = rw (← c.self.view_is) (datum_some c.args.s c.self.inside.given.entries c.get.result c.get.ensures.value)

pub returns-clause-none : goal.returns-clause-none
returns-clause-none g c = rw (← c.self.view_is) (datum_none c.args.s c.self.inside.given.entries c.get.result c.get.ensures.value)
