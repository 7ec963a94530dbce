use Rattle.std.proofs.Common.{◌≡◌, map, take}
use Rattle.sg_state.proofs.copied.keys.Given as goal

abbrev pub invariant-loop-s : goal.invariant-loop-s
invariant-loop-s g l = l.scopes.items ≡ map (λ p. p.0) (take l.s-index l.places)
