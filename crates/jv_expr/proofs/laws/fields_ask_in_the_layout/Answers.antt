use Rattle.jv_expr.proofs.AskedBodies.{fields_ask_in}
use Rattle.jv_expr.proofs.laws.fields_ask_in_the_layout.Goals as goal

pub returns : goal.returns
returns c = fields_ask_in
