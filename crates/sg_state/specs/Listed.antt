-- Tests of what an opening lists.
use Rattle.std.specs.Prelude.{Bool, List}
use Rattle.std.specs.List.{list_any}
use Rattle.sg_base.specs.declared.scope.Scope.{Scope}
use Rattle.sg_base.specs.Scope.{is_scope}

-- whether the scope is listed
abbrev pub lists : List Scope → Scope → Bool
lists scopes s = list_any (λ y. is_scope y s) scopes
