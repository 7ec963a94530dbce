use Rattle.std.proofs.Common.{ℕ, ◌<◌, ◌↔◌, slice_index}
use Rattle.sg_base.specs.Label.{Has}
use Rattle.sg_expr.proofs.positions.Positions.heads.Given as goal

abbrev pub invariant-loop-number : goal.invariant-loop-number
invariant-loop-number l = (m : ℕ) → (Has l.labels m) ↔ ((m < l.number) × ((n : ℕ) × Has l.set n × Has (slice_index l.self.places m) n))
