use Rattle.std.proofs.Common.{arith}
use Rattle.jv_expr.proofs.MarkSteps.{mark_past}
use Rattle.jv_expr.proofs.texts.mark_or_none.Goals as goal

pub returns-then-number-ge50 : goal.returns-then-number-ge50
returns-then-number-ge50 c = mark_past c.args.number (omega (arith, c.if-number-ge50.true))
