use Rattle.std.proofs.Common.{take}
use Rattle.sg_state.specs.declared.need.Need.{Need}
use Rattle.sg_waits.specs.Shown.{IsLeastAt, holder_at}
use Rattle.sg_waits.proofs.holders.least.Given as goal

abbrev pub invariant-loop-pair : goal.invariant-loop-pair
invariant-loop-pair l = (n : Need) → IsLeastAt (take l.pair-index l.holder_of) n (holder_at l.least.entries n)
