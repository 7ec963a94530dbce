use Rattle.std.proofs.Common.{◌≡◌, ◌++◌, drop}
use Rattle.std.specs.List.{filter}
use Rattle.jv_layout.specs.Readers.{members_of, object_scope}
use Rattle.jv_names.specs.Members.{is_method_named, object_methods}
use Rattle.jv_names.proofs.members.object_methods.Given as goal

abbrev pub invariant-loop-member : goal.invariant-loop-member
invariant-loop-member l = l.methods ++ filter (is_method_named l.l l.name) (drop l.member-index (members_of l.l (object_scope l.l))) ≡ object_methods l.l l.name
