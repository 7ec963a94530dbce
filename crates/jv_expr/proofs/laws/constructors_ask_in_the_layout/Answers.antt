use Rattle.jv_expr.proofs.AskedBodies.{constructors_ask_in}
use Rattle.jv_expr.proofs.laws.constructors_ask_in_the_layout.Goals as goal

pub returns : goal.returns
returns c = constructors_ask_in
