use Rattle.std.proofs.Common.{map, drop}
use Rattle.std.specs.List.{flat_map}
use Rattle.sg_state.specs.Gains.{DataLeft}
use Rattle.sg_state.specs.View.{given_of}
use Rattle.sg_state.proofs.copied.add_data.Given as goal

abbrev pub invariant-loop-s : goal.invariant-loop-s
invariant-loop-s g l =
    DataLeft l.initial.graph l.graph (flat_map (λ p. given_of p.0 (p.1).slot) (drop l.s-index l.places)) (flat_map (λ p. given_of p.0 (p.1).slot) l.places) (map (λ p. p.0) (drop l.s-index l.places))
