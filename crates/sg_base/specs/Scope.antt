-- Scopes and their order.
use Rattle.std.specs.Prelude.{Bool, ◌==◌, ◌&&◌}
use Rattle.std.specs.Cmp.{IsTotalOrder, nat_cmp_total, on_total, then_total}
use Rattle.std.specs.Ordering.{nat_cmp, on, then_cmp}
use Rattle.std.specs.declared.cmp.Ordering.{Ordering}
use Rattle.sg_base.specs.declared.scope.Scope.{Scope}

-- the order of scopes: by unit, then serial
abbrev pub scope_cmp : Scope → Scope → Ordering
scope_cmp = then_cmp (on (λ s. s.unit) nat_cmp) (on (λ s. s.serial) nat_cmp)

-- whether two scopes are the same
abbrev pub is_scope : Scope → Scope → Bool
is_scope a b = (a.unit == b.unit) && (a.serial == b.serial)

-- the order of scopes is total
pub scope_total : IsTotalOrder scope_cmp
scope_total = then_total (on_total (λ s. s.unit) nat_cmp_total) (on_total (λ s. s.serial) nat_cmp_total)
