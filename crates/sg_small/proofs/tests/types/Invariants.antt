use Rattle.std.proofs.Common.{◌≡◌, take, map}
use Rattle.sg_headers.specs.Small.{first, second, third, pick}
use Rattle.sg_small.proofs.tests.types.Given as goal

abbrev pub invariant-loop-number : goal.invariant-loop-number
invariant-loop-number l = l.list.items ≡ map (pick first second third) (take l.number-index l.numbers)
