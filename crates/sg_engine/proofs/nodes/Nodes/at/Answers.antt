use Rattle.std.proofs.Common.{◌<◌, length, refl, arith}
use Rattle.std.specs.Arc.{arc_value}
use Rattle.sg_engine.specs.Nodes.{node_by}
use Rattle.sg_engine.proofs.Resting.{node_at, many}
use Rattle.sg_engine.proofs.nodes.Nodes.at.Goals as goal

pub returns : goal.returns
returns c =
    let ws = arc_value c.self.inside.words in
    let ns = c.self.inside.nodes.items in
    let there : c.args.place < length ns = omega (arith, many ws ns, rw (← c.self.view_is) at c.requires) in
    rw (← c.self.view_is) (node_by ws c.index.result.now, node_at ws ns c.args.place c.index.result.now there c.index.ensures, refl, refl)
