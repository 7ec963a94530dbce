use Rattle.std.proofs.Common.{sym, ◌∙◌, subst}
use Rattle.sg_pool.specs.Pool.{IsAtSite, IsKept}
use Rattle.sg_pool.proofs.Pools.{kept}
use Rattle.sg_pool.proofs.job.Job.into_seat.Goals as goal

pub returns-clause-kept : goal.returns-clause-kept
returns-clause-kept g c =
    let e = c.into_seat.ensures in
    let i = c.into_inner.ensures in
    let at = subst (λ r. IsAtSite g.U.Unit.fixed g.K.Place.Seat.number g.K.Desk.sits g.N.Site.desk g.N.Site.start r) (sym i) c.self.invariant in
    subst (λ r. IsKept g.U.Inst.Instance.wants g.U.Inst.Instance.same_datum g.U.Unit.opening g.U.Unit.kinds g.U.Unit.owes_edge g.U.Unit.owes_datum g.U.Unit.may_ask g.U.Unit.comes_to g.U.Unit.number g.U.Unit.fixed g.U.Unit.stands g.K.Place.Seat.number g.K.Place.Seat.mine g.K.Place.Seat.spent g.K.Place.Seat.opening g.K.Place.Seat.kinds g.K.Desk.sits g.N.Site.desk g.N.Site.start r) (i ∙ c.self.view_is)
    (kept g.U.Inst.Instance.wants g.U.Inst.Instance.same_datum g.U.Unit.opening g.U.Unit.kinds g.U.Unit.owes_edge g.U.Unit.owes_datum g.U.Unit.may_ask g.U.Unit.comes_to g.U.Unit.number g.U.Unit.fixed g.U.Unit.stands g.K.Place.Seat.number g.K.Place.Seat.mine g.K.Place.Seat.spent g.K.Place.Seat.opening g.K.Place.Seat.kinds g.K.Desk.sits g.N.Site.desk g.N.Site.start c.into_inner.result c.into_seat.result e.seat at e.unspent e.run e.stands e.honest e.ended e.stuck)
