use Rattle.std.proofs.Common.{◌≡◌, length, map}
use Rattle.std.specs.Arc.{arc_value}
use Rattle.sg_query.proofs.Placing.{FirstPlaced}
use Rattle.sg_query.proofs.kind_table.positions_of.Given as goal

abbrev pub invariant-loop-kind : goal.invariant-loop-kind
invariant-loop-kind l = record {
  size : length l.positions.items ≡ l.kind-index;
  placed : FirstPlaced l.kinds (map arc_value l.positions.items) l.kind-index;
}
