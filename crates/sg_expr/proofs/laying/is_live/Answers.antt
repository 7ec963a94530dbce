use Rattle.sg_expr.specs.Tree.{expr_of}
use Rattle.sg_expr.proofs.Accepting.{live_is}
use Rattle.sg_expr.proofs.laying.is_live.Goals as goal

pub returns : goal.returns
returns c = live_is c.live.result (expr_of c.args.e.now) c.live.ensures
