use Rattle.std.proofs.Common.{◌≡◌, map, drop}
use Rattle.std.specs.List.{flat_map}
use Rattle.sg_state.specs.Gains.{EdgesLeft}
use Rattle.sg_state.specs.View.{edges_at}
use Rattle.sg_state.proofs.copied.add_rows.Given as goal

abbrev pub invariant-loop-label : goal.invariant-loop-label
invariant-loop-label g l =
    EdgesLeft l.initial.graph l.graph (flat_map (λ r. map (λ t. record { from = l.fn.s; label = r.0; to = t }) (r.1).targets) (drop l.label-index l.label-items)) (edges_at (l.fn.s, l.fn.place))
    × (l.label-items ≡ (l.fn.place).rows)
