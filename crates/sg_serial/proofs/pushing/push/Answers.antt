use Rattle.std.proofs.Common.{◌≡◌, ◌∙◌, ℕ, ◌<◌, inl, inr, refl, sym, arith, vec_len}
use Rattle.sg_serial.proofs.Serving.{team_advance, team_take}
use Rattle.sg_serial.proofs.Settling.{within, push_falls}
use Rattle.sg_unit.specs.declared.op.Op.TheVariants.{Advance, Take}
use Rattle.sg_serial.proofs.pushing.push.Goals as goal

pub index_mut-requires : goal.index_mut-requires
index_mut-requires g c =
    let t = c.requires.team in
    omega (arith, within g.U.Inst.Instance.wants g.U.Inst.Instance.same_datum c.args.core.now c.args.unit c.requires.core c.requires.runs, (t.2).handed, c.args.replies.now.ok.0)

pub returns-in_ok-apply-in-Open-clause-team : goal.returns-in_ok-apply-in-Open-clause-team
returns-in_ok-apply-in-Open-clause-team g c = λ start units t.
    team_advance g.U.Inst.Instance.wants g.U.Inst.Instance.same_datum g.U.Unit.opening g.U.Unit.kinds g.U.Unit.owes_edge g.U.Unit.owes_datum g.U.Unit.may_ask g.U.Unit.comes_to g.U.Unit.number g.U.Unit.fixed g.U.Unit.stands start units c.args.replies.now.items c.args.core.now c.apply.new.self c.args.unit c.in_ok-apply-in-Open.field-0 t
    (within g.U.Inst.Instance.wants g.U.Inst.Instance.same_datum c.args.core.now c.args.unit c.requires.core c.requires.runs) c.in_ok-apply-in-Open.ensures.ok

pub returns-in_ok-apply-in-Open-clause-falls : goal.returns-in_ok-apply-in-Open-clause-falls
returns-in_ok-apply-in-Open-clause-falls g c = λ _.
    push_falls g.U.Inst.Instance.wants g.U.Inst.Instance.same_datum c.args.core.now c.apply.new.self c.args.unit Advance c.in_ok-apply-in-Open.field-0 c.requires.core c.requires.runs c.in_ok-apply-in-Open.ensures.ok (inl refl)

pub returns-in_ok-reply-in-Ready-clause-team : goal.returns-in_ok-reply-in-Ready-clause-team
returns-in_ok-reply-in-Ready-clause-team g c = λ start units t.
    team_take g.U.Inst.Instance.wants g.U.Inst.Instance.same_datum g.U.Unit.opening g.U.Unit.kinds g.U.Unit.owes_edge g.U.Unit.owes_datum g.U.Unit.may_ask g.U.Unit.comes_to g.U.Unit.number g.U.Unit.fixed g.U.Unit.stands start units c.args.replies.now.items c.args.core.now c.apply-in-Ready.new.self c.args.unit c.in_ok-reply-in-Ready.reply t
    (within g.U.Inst.Instance.wants g.U.Inst.Instance.same_datum c.args.core.now c.args.unit c.requires.core c.requires.runs) c.in_ok-reply-in-Ready.ensures.ok

pub returns-in_ok-reply-in-Ready-clause-falls : goal.returns-in_ok-reply-in-Ready-clause-falls
returns-in_ok-reply-in-Ready-clause-falls g c = λ _.
    push_falls g.U.Inst.Instance.wants g.U.Inst.Instance.same_datum c.args.core.now c.apply-in-Ready.new.self c.args.unit Take c.in_ok-reply-in-Ready.reply c.requires.core c.requires.runs c.in_ok-reply-in-Ready.ensures.ok (inr refl)
