use Rattle.std.proofs.lemmas.List.Filters.{dedup_is}
use Rattle.sg_base.specs.Scope.{scope_cmp, scope_total}
use Rattle.sg_base.proofs.Scopes.{equal_scope}
use Rattle.sg_state.proofs.EachOnce.{each_once_rises, each_once_holds}
use Rattle.sg_state.proofs.InOrder.{is_same, scopes_alike, alike_itself}
use Rattle.sg_state.proofs.scope_list.ScopeList.rising.Goals as goal

pub returns-clause-exact : goal.returns-clause-exact
returns-clause-exact c =
    rw (dedup_is is_same c.sort_unstable.new.self.items c.dedup.new.self.items c.dedup.ensures.filtered, ← c.self.view_is, ← c.as_slice.ensures.value, ← c.in_ok-scopes.ensures.items) (each_once_holds scope_cmp scope_total equal_scope is_same scopes_alike alike_itself c.in_ok-scopes.scopes.items c.sort_unstable.new.self.items c.sort_unstable.ensures.permutation c.sort_unstable.ensures.sorted)

pub returns-clause-rising : goal.returns-clause-rising
returns-clause-rising c =
    rw (dedup_is is_same c.sort_unstable.new.self.items c.dedup.new.self.items c.dedup.ensures.filtered) (each_once_rises scope_cmp scope_total equal_scope is_same scopes_alike alike_itself c.in_ok-scopes.scopes.items c.sort_unstable.new.self.items c.sort_unstable.ensures.permutation c.sort_unstable.ensures.sorted)
