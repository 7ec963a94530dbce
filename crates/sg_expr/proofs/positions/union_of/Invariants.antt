use Rattle.std.proofs.Common.{ℕ, ◌<◌, ◌↔◌, slice_index}
use Rattle.sg_base.specs.Label.{Has}
use Rattle.sg_expr.proofs.positions.union_of.Given as goal

abbrev pub invariant-loop-set : goal.invariant-loop-set
invariant-loop-set l = (n : ℕ) → (Has l.all n) ↔ ((i : ℕ) × (i < l.set-index) × Has (slice_index l.sets i) n)
