use Rattle.std.proofs.Common.{ℕ, ◌⊎◌, ◌↔◌, map}
use Rattle.std.specs.List.{Contains}
use Rattle.std.specs.Map.Iter.{deref}
use Rattle.sg_waits.proofs.listings.gather.Given as goal

abbrev pub invariant-loop-listing : goal.invariant-loop-listing
invariant-loop-listing l = (u : ℕ) → (Contains l.found.keys u) ↔ (Contains l.initial.found.keys u ⊎ Contains (map (λ k. k.unit) (map deref l.yielded)) u)
