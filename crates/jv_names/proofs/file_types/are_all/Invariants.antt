use Rattle.std.proofs.Common.{◌≡◌, drop}
use Rattle.std.specs.List.{list_all}
use Rattle.sg_base.specs.Scope.{is_scope}
use Rattle.jv_names.proofs.file_types.are_all.Given as goal

abbrev pub invariant-loop-other : goal.invariant-loop-other
invariant-loop-other l = list_all (is_scope l.scope) l.scopes ≡ list_all (is_scope l.scope) (drop l.other-index l.scopes)
