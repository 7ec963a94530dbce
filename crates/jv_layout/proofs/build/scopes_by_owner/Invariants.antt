use Rattle.std.proofs.Common.{◌≡◌, map}
use Rattle.std.specs.List.{range_with_len}
use Rattle.jv_layout.specs.Rows.{owned}
use Rattle.jv_layout.proofs.build.scopes_by_owner.Given as goal

abbrev pub invariant-loop-m : goal.invariant-loop-m
invariant-loop-m l = map (λ x. x.items) l.lists.items ≡ map (λ t. owned l.members l.first t l.m) (range_with_len 0 l.types)
