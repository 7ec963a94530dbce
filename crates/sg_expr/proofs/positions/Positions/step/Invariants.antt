use Rattle.std.proofs.Common.{ℕ, ◌↔◌, ◌⊎◌, ◌∷◌, slice_index}
use Rattle.sg_base.specs.Label.{Has, Word}
use Rattle.sg_expr.specs.Positions.{Accepts}
use Rattle.sg_expr.proofs.positions.Positions.step.Given as goal

abbrev pub invariant-loop-here : goal.invariant-loop-here
invariant-loop-here l = record {
  words : (w : Word) → (Accepts l.self l.set (l.fn.l ∷ w)) ↔ (Accepts l.self l.next w ⊎ ((n : ℕ) × Has l.here n × Accepts l.self (slice_index l.self.behind n) w));
  within : (n : ℕ) → Has l.here n → Has (slice_index l.self.places l.fn.l) n;
}

abbrev pub decreases-loop-here : goal.decreases-loop-here
decreases-loop-here l = l.here
