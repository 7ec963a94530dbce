use Rattle.std.proofs.Common.{◌≡◌, ◌++◌}
use Rattle.std.specs.String.{string_bytes}
use Rattle.jv_layout.specs.Titles.{brackets}
use Rattle.jv_layout.proofs.type_texts.add_brackets.Given as goal

abbrev pub invariant-loop-left : goal.invariant-loop-left
invariant-loop-left l = string_bytes l.text ++ brackets l.left ≡ string_bytes l.initial.text ++ brackets l.fn.dims

abbrev pub decreases-loop-left : goal.decreases-loop-left
decreases-loop-left l = l.left
