use Rattle.std.proofs.Common.{◌≡◌, ◌+◌, length, map, sym, ap, ◌∙◌, arith}
use Rattle.std.proofs.lemmas.List.{length-map}
use Rattle.std.specs.Arc.{arc_value}
use Rattle.sg_query.proofs.Placing.{shared_more, placed_all}
use Rattle.sg_query.proofs.kind_table.positions_of.Goals as goal

pub returns : goal.returns
returns c = placed_all c.args.kinds.now (map arc_value c.loop-kind.positions.items) c.loop-kind.kind-index (length-map c.loop-kind.positions.items arc_value ∙ c.loop-kind.invariant.size) (omega arith) c.loop-kind.invariant.placed
