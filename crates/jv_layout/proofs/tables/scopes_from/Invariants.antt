use Rattle.std.proofs.Common.{◌≡◌, ◌+◌, map}
use Rattle.std.specs.List.{range_with_len}
use Rattle.jv_layout.specs.Scopes.{scope_at}
use Rattle.jv_layout.proofs.tables.scopes_from.Given as goal

abbrev pub invariant-loop-k : goal.invariant-loop-k
invariant-loop-k l = l.scopes.items ≡ map (λ k. scope_at (l.first + k)) (range_with_len 0 l.k)
