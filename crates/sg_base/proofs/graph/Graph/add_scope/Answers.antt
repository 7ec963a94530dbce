use Rattle.std.proofs.Common.{refl, inl}
use Rattle.sg_base.proofs.Growing.{scope_added}
use Rattle.sg_base.proofs.graph.Graph.add_scope.Goals as goal

pub invariant_of-self-2 : goal.invariant_of-self-2
invariant_of-self-2 g c =
    (c.self.invariant.0, scope_added (record { scopes = c.self.inside.scopes; edges = _; given = c.self.inside.given.entries }) c.insert.new.self c.self.invariant.1 c.in_ok-insert.ensures.rising (λ t h. (c.in_ok-insert.ensures.ok t).1 (inl h)))

pub returns-clause-ok : goal.returns-clause-ok
returns-clause-ok g c = rw (← c.self.view_is) (record { scopes = c.in_ok-insert.ensures.ok; edges = refl; given = refl })

pub returns-clause-sound : goal.returns-clause-sound
returns-clause-sound g c = (invariant_of-self-2 g c).1
