use Rattle.std.proofs.Common.{subst}
use Rattle.sg_expr.specs.Laying.{AreLive}
use Rattle.sg_expr.specs.Positions.{PositionsOf}
use Rattle.sg_expr.proofs.Stepping.{HasAll, goes_on_is}
use Rattle.sg_expr.proofs.positions.Positions.goes_on.Goals as goal

pub returns : goal.returns
returns c =
    let live = subst AreLive c.self.view_is c.self.invariant.2 in
    let all = subst (λ (p : PositionsOf). HasAll p c.self.inside.all) c.self.view_is c.self.invariant.3 in
    goes_on_is c.args.self.now c.self.inside.all c.args.set live all c.ranges.set.fits
