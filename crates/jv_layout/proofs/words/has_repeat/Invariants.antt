use Rattle.std.proofs.Common.{◌≡◌, length}
use Rattle.jv_layout.specs.Words.{has_repeat}
use Rattle.jv_layout.proofs.words.has_repeat.Given as goal

abbrev pub invariant-loop-rest : goal.invariant-loop-rest
invariant-loop-rest l = has_repeat l.rest ≡ has_repeat l.fn.words

abbrev pub decreases-loop-rest : goal.decreases-loop-rest
decreases-loop-rest l = length l.rest
