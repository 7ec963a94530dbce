use Rattle.sg_expr.specs.Tree.{expr_of}
use Rattle.sg_expr.proofs.Accepting.{nullable_is}
use Rattle.sg_expr.proofs.laying.is_nullable.Goals as goal

pub returns : goal.returns
returns c = nullable_is c.nullable.result (expr_of c.args.e.now) c.nullable.ensures
