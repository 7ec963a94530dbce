-- A name with its methods, as a look shows them.
use Rattle.std.specs.Prelude.{List}
use Rattle.std.specs.Borrow.{Bor}
use Rattle.sg_base.specs.declared.scope.Scope.{Scope}
use Rattle.jv_tree.specs.declared.names.NameId.{NameId}

-- what a look at a group shows
abbrev pub copied_group : NameId × Bor (List Scope) → NameId × List Scope
copied_group g = (g.0, g.1.now)
