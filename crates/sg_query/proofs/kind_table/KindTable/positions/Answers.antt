use Rattle.std.proofs.Common.{◌∙◌}
use Rattle.std.specs.Arc.{arc_value}
use Rattle.sg_query.proofs.Placing.{shared_read}
use Rattle.sg_query.proofs.kind_table.KindTable.positions.Goals as goal

pub returns : goal.returns
returns c =
    let at = rw c.from.ensures at c.index.ensures in
    rw c.deref.ensures (shared_read arc_value c.self.inside.kinds.items c.args.self.now c.self.inside.positions.items c.args.number c.index.result.now c.self.view_is c.self.invariant.2 c.requires at)
