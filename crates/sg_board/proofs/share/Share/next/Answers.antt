use Rattle.std.proofs.Common.{◌∙◌, arith}
use Rattle.sg_board.proofs.share.Share.next.Goals as goal

pub returns-in-Some : goal.returns-in-Some
returns-in-Some g c = let i = c.loop-look.invariant in let e = c.in-Some.ensures in record { same = e.same ∙ i.same; flow = λ h. let a = e.flow h in let b = i.flow h in omega (arith, a, b) }
