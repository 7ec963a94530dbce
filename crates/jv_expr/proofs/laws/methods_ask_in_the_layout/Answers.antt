use Rattle.jv_expr.proofs.AskedBodies.{methods_ask_in}
use Rattle.jv_expr.proofs.laws.methods_ask_in_the_layout.Goals as goal

pub returns : goal.returns
returns c = methods_ask_in
