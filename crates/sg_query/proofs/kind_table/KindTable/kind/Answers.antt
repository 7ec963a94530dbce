use Rattle.std.proofs.Common.{◌≡◌, ◌<◌, length, map, sym, ap, ◌∙◌, arith}
use Rattle.std.proofs.lemmas.List.{length-map}
use Rattle.sg_query.specs.Query.{value_of_kind}
use Rattle.sg_query.proofs.Placing.{all_at, kind_read}
use Rattle.sg_query.proofs.kind_table.KindTable.kind.Goals as goal

pub returns-clause-kind : goal.returns-clause-kind
returns-clause-kind c =
    let at = rw c.from.ensures at c.index.ensures in
    kind_read c.self.inside.kinds.items c.args.self.now c.args.number c.index.result.now c.self.view_is c.requires at
