use Rattle.std.proofs.Common.{◌≡◌, ℕ, ◌<◌, get_or}
use Rattle.std.specs.List.{Contains}
use Rattle.std.specs.declared.cmp.Ordering.TheVariants.{Less}
use Rattle.sg_base.specs.declared.scope.Scope.{Scope}
use Rattle.sg_base.specs.Scope.{scope_cmp}
use Rattle.jv_header.proofs.circular.least.Given as goal

-- none of the scopes so far comes before the least one
abbrev pub invariant-loop-i : goal.invariant-loop-i
invariant-loop-i l = record {
  there : Contains l.scopes l.least;
  least : (k : ℕ) (d : Scope) → k < l.i → scope_cmp (get_or l.scopes k d) l.least ≡ Less → ⊥;
}
