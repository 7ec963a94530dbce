use Rattle.std.proofs.Common.{arith}
use Rattle.sg_board.proofs.closing.settle.Goals as goal

pub returns-in_default : goal.returns-in_default
returns-in_default g c = λ h. let i = c.loop.invariant h in let e = c.in_default.ensures h in omega (arith, i, e)

pub loop-preserved : goal.loop-preserved
loop-preserved g c = λ h. let i = c.loop.invariant h in let e = c.in-Some-put.ensures h in omega (arith, i, e)
