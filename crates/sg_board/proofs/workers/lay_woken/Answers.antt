use Rattle.std.proofs.Common.{◌∙◌, arith}
use Rattle.sg_board.proofs.workers.lay_woken.Goals as goal

pub loop-number-preserved : goal.loop-number-preserved
loop-number-preserved g c = let i = c.loop-number.invariant in let e = c.lay_ready.ensures in record { same = e.same ∙ i.same; flow = λ h. let a = i.flow h in let b = c.wake-waiting.ensures h in let d = e.flow h in omega (arith, a, b, d) }
