use Rattle.std.proofs.Common.{refl}
use Rattle.sg_base.proofs.Growing.{edge_added}
use Rattle.sg_base.proofs.graph.Graph.add_edge.Goals as goal

pub invariant_of-self-2 : goal.invariant_of-self-2
invariant_of-self-2 g c =
    let from = rw (← c.self.view_is) at c.requires.source in
    let to = rw (← c.self.view_is) at c.requires.target in
    (c.in_ok-add_target.ensures.rows, edge_added c.self.inside.scopes c.self.inside.rows.entries c.add_target.new.rows.entries c.self.inside.given.entries (record { from = c.args.from; label = c.number-label.result }) c.args.to c.self.invariant.1 c.in_ok-add_target.ensures.rows c.in_ok-add_target.ensures.ok c.number-label.ensures.below from to)

pub returns-clause-ok : goal.returns-clause-ok
returns-clause-ok g c = rw (← c.self.view_is, ← c.number-label.ensures.value) (record { scopes = refl; edges = c.in_ok-add_target.ensures.ok; given = refl })

pub returns-clause-sound : goal.returns-clause-sound
returns-clause-sound g c = (invariant_of-self-2 g c).1
