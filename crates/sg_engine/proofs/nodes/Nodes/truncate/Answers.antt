use Rattle.std.proofs.Common.{List, map, sym, subst}
use Rattle.std.specs.Arc.{arc_value}
use Rattle.sg_engine.specs.Nodes.{NodeOf, node_by, ArePassed}
use Rattle.sg_engine.proofs.Passing.{few_or_take}
use Rattle.sg_engine.proofs.Resting.{map_take}
use Rattle.sg_engine.proofs.nodes.Nodes.truncate.Goals as goal

pub invariant_of-self : goal.invariant_of-self
invariant_of-self c =
    let ws = arc_value c.self.inside.words in
    let ns = c.self.inside.nodes.items in
    let passed = c.self.inside.passed.keys in
    let last = c.self.inside.last in
    rw c.truncate.ensures.items (subst (λ (t : List NodeOf). ArePassed passed last t) (sym (map_take ws c.args.len ns)) (few_or_take passed last (map (node_by ws) ns) c.args.len c.self.invariant))

pub returns-clause-items : goal.returns-clause-items
returns-clause-items c = rw (c.truncate.ensures.items, ← c.self.view_is) (map_take (arc_value c.self.inside.words) c.args.len c.self.inside.nodes.items)
