use Rattle.std.proofs.Common.{◌≡◌, ◌++◌, vec_len}
use Rattle.std.specs.String.{string_bytes}
use Rattle.jv_layout.specs.Titles.{outward, following}
use Rattle.jv_layout.proofs.titles.add_following.Given as goal

abbrev pub invariant-loop-id : goal.invariant-loop-id
invariant-loop-id l = string_bytes l.text ++ following l.names (outward l.left.items) ≡ string_bytes l.initial.text ++ following l.names (outward l.fn.ids.items)

abbrev pub decreases-loop-id : goal.decreases-loop-id
decreases-loop-id l = vec_len l.left
