use Rattle.std.proofs.Common.{sym, ap, ◌∙◌, subst}
use Rattle.sg_unit.specs.Served.{SomeStands, IsHonestBy}
use Rattle.sg_pool.specs.Driving.{IsDriven}
use Rattle.sg_pool.proofs.Drives.{has_ended, still_live, some_stands}
use Rattle.sg_pool.proofs.running.Running.into_seat.Goals as goal

pub returns-clause-stands : goal.returns-clause-stands
returns-clause-stands g c =
    let was = c.self.invariant (ap (λ r. r.failed) c.self.view_is ∙ c.requires.going) in
    subst (λ v. SomeStands g.U.Unit.number g.U.Unit.fixed g.U.Unit.stands (g.S.Seat.mine c.self.inside.seat) (g.S.Seat.number c.self.inside.seat) (g.U.Unit.fixed v)) (ap (λ r. r.unit) c.self.view_is)
    (some_stands g.U.Inst.Instance.wants g.U.Inst.Instance.same_datum g.U.Unit.opening g.U.Unit.kinds g.U.Unit.owes_edge g.U.Unit.owes_datum g.U.Unit.may_ask g.U.Unit.comes_to g.U.Unit.number g.U.Unit.fixed g.U.Unit.stands (g.S.Seat.opening c.self.inside.seat) (g.S.Seat.kinds c.self.inside.seat) (g.S.Seat.mine c.self.inside.seat) (g.S.Seat.number c.self.inside.seat) c.self.inside.unit c.self.inside.last c.self.inside.doing was.3)

pub returns-clause-honest : goal.returns-clause-honest
returns-clause-honest g c =
    let was = c.self.invariant (ap (λ r. r.failed) c.self.view_is ∙ c.requires.going) in
    subst (λ v. IsHonestBy g.U.Inst.Instance.wants g.U.Inst.Instance.same_datum g.U.Unit.opening g.U.Unit.kinds g.U.Unit.owes_edge g.U.Unit.owes_datum g.U.Unit.may_ask g.U.Unit.comes_to (g.S.Seat.mine c.self.inside.seat) (g.S.Seat.number c.self.inside.seat) (g.U.Unit.fixed v)) (ap (λ r. r.unit) c.self.view_is)
    was.3.served.honest

pub returns-clause-ended : goal.returns-clause-ended
returns-clause-ended g c = λ e.
    let was = c.self.invariant (ap (λ r. r.failed) c.self.view_is ∙ c.requires.going) in
    has_ended g.U.Inst.Instance.wants g.U.Inst.Instance.same_datum g.U.Unit.opening g.U.Unit.kinds g.U.Unit.owes_edge g.U.Unit.owes_datum g.U.Unit.may_ask g.U.Unit.comes_to g.U.Unit.number g.U.Unit.fixed g.U.Unit.stands (g.S.Seat.opening c.self.inside.seat) (g.S.Seat.kinds c.self.inside.seat) (g.S.Seat.mine c.self.inside.seat) (g.S.Seat.number c.self.inside.seat) c.self.inside.unit c.self.inside.last (subst (λ d. IsDriven g.U.Inst.Instance.wants g.U.Inst.Instance.same_datum g.U.Unit.opening g.U.Unit.kinds g.U.Unit.owes_edge g.U.Unit.owes_datum g.U.Unit.may_ask g.U.Unit.comes_to g.U.Unit.number g.U.Unit.fixed g.U.Unit.stands (g.S.Seat.opening c.self.inside.seat) (g.S.Seat.kinds c.self.inside.seat) (g.S.Seat.mine c.self.inside.seat) (g.S.Seat.number c.self.inside.seat) c.self.inside.unit c.self.inside.last d) (ap (λ r. r.doing) c.self.view_is ∙ e) was.3)

pub returns-clause-live : goal.returns-clause-live
returns-clause-live g c = λ n.
    let was = c.self.invariant (ap (λ r. r.failed) c.self.view_is ∙ c.requires.going) in
    still_live g.U.Inst.Instance.wants g.U.Inst.Instance.same_datum g.U.Unit.opening g.U.Unit.kinds g.U.Unit.owes_edge g.U.Unit.owes_datum g.U.Unit.may_ask g.U.Unit.comes_to g.U.Unit.number g.U.Unit.fixed g.U.Unit.stands (g.S.Seat.opening c.self.inside.seat) (g.S.Seat.kinds c.self.inside.seat) (g.S.Seat.mine c.self.inside.seat) (g.S.Seat.number c.self.inside.seat) c.self.inside.unit c.self.inside.last c.self.inside.doing (λ e. n (sym (ap (λ r. r.doing) c.self.view_is) ∙ e)) was.3
