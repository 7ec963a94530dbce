use Rattle.std.proofs.Common.{refl}
use Rattle.jv_expr.proofs.laws.operators_are_marks.Goals as goal

pub returns : goal.returns
returns c = (
  record { signs = refl; negation = refl; steps = refl },
  record { sum = refl; arithmetic = refl; shifts = refl; comparisons = refl; equalities = refl; bitwise = refl; logical = refl; instances = refl; index = refl },
  record { choice = refl; plain = refl; compound = refl },
)
