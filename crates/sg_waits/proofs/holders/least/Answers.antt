use Rattle.std.proofs.Common.{ℕ, List, subst, arith}
use Rattle.std.proofs.lemmas.List.{take_all}
use Rattle.sg_state.specs.declared.need.Need.{Need}
use Rattle.sg_waits.specs.Shown.{IsLeastAt, holder_at}
use Rattle.sg_waits.proofs.Showing.{lowered}
use Rattle.sg_waits.proofs.holders.least.Goals as goal

pub loop-pair-preserved : goal.loop-pair-preserved
loop-pair-preserved c = lowered c.args.holder_of.now c.loop-pair.pair-index (c.pair-item.result).0 (c.pair-item.result).1 c.loop-pair-test.true c.pair-item.is c.loop-pair.least.entries c.lower.new.least.entries c.loop-pair.invariant c.in-Ok.ensures

pub returns : goal.returns
returns c =
    subst (λ (hs : List (Need × ℕ)). (n : Need) → IsLeastAt hs n (holder_at c.loop-pair.least.entries n)) (take_all c.loop-pair.pair-index c.args.holder_of.now (omega arith)) c.loop-pair.invariant
