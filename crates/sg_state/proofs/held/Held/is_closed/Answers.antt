use Rattle.sg_state.proofs.Finding.{closed_is}
use Rattle.sg_state.proofs.held.Held.is_closed.Goals as goal

pub returns : goal.returns
returns g c = closed_is c.args.self.now c.args.s c.args.l c.holders.result.now c.is_empty.result c.is_empty.ensures c.holders.ensures.exact
