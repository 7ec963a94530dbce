use Rattle.std.proofs.Common.{take, take_all, refl, sym, ◌∙◌, subst}
use Rattle.std.proofs.lemmas.List.{take_more}
use Rattle.sg_core.specs.Core.{run}
use Rattle.sg_serial.specs.Serial.{AreChosen}
use Rattle.sg_serial.proofs.Serves.{adds_one, chosen_more, served_chosen, served_more}
use Rattle.sg_serial.proofs.Serving.{team_begins, team_stood, team_honest}
use Rattle.sg_serial.proofs.Settling.{from_there, over, none_left, some_left}
use Rattle.sg_serial.proofs.serial.run_serial.Goals as goal

pub loop-unit-init : goal.loop-unit-init
loop-unit-init g c = (
  c.log-log.ensures.core,
  (refl, refl),
  team_begins g.U.Inst.Instance.wants g.U.Inst.Instance.same_datum g.U.Unit.opening g.U.Unit.kinds g.U.Unit.owes_edge g.U.Unit.owes_datum g.U.Unit.may_ask g.U.Unit.comes_to g.U.Unit.number g.U.Unit.fixed g.U.Unit.stands c.args.units.items c.in_ok-replies.replies.items c.args.core c.requires.new c.len.result (c.len.ensures ∙ c.args.units.ok.0) c.in_ok-replies.ensures c.requires.opening,
  c.requires.opening,
)

pub step-requires-clause-core : goal.step-requires-clause-core
step-requires-clause-core g c = c.loop-unit.invariant.0

pub step-requires-clause-team : goal.step-requires-clause-team
step-requires-clause-team g c = (c.args.units.items, c.loop-unit.invariant.2)

pub loop-unit-preserved : goal.loop-unit-preserved
loop-unit-preserved g c = (
  (c.in_ok-step.ensures.core).0,
  from_there g.U.Inst.Instance.wants g.U.Inst.Instance.same_datum c.args.core c.loop-unit.core c.step.new.core c.loop-unit.invariant.1 (c.in_ok-step.ensures.core).1,
  c.in_ok-step.ensures.team c.args.units.items c.loop-unit.invariant.2,
  subst (λ us. AreChosen (run g.U.Inst.Instance.wants g.U.Inst.Instance.same_datum c.args.core) us c.step.new.core.log) (sym (take_more c.args.order.now c.loop-unit.unit-index 0 c.loop-unit-test.true))
      (chosen_more g.U.Inst.Instance.wants g.U.Inst.Instance.same_datum c.args.core c.loop-unit.core c.step.new.core (take c.loop-unit.unit-index c.args.order.now) _ c.requires.opening c.loop-unit.invariant.1 c.loop-unit.invariant.3 c.in_ok-step.ensures.steps),
)

pub loop-replies-init : goal.loop-replies-init
loop-replies-init g c = (
  c.loop-unit.invariant.0,
  c.loop-unit.invariant.1,
  c.loop-unit.invariant.2,
  served_chosen g.U.Inst.Instance.wants g.U.Inst.Instance.same_datum (run g.U.Inst.Instance.wants g.U.Inst.Instance.same_datum c.args.core) c.args.order.now c.loop-unit.core.log
      (subst (λ us. AreChosen (run g.U.Inst.Instance.wants g.U.Inst.Instance.same_datum c.args.core) us c.loop-unit.core.log) (take_all c.loop-unit.unit-index c.args.order.now c.loop-unit-test.false) c.loop-unit.invariant.3),
)

pub settle-requires-clause-core : goal.settle-requires-clause-core
settle-requires-clause-core g c = c.loop-replies.invariant.0

pub settle-requires-clause-team : goal.settle-requires-clause-team
settle-requires-clause-team g c = (c.args.units.items, c.loop-replies.units.items, c.loop-replies.invariant.2)

pub give-requires-clause-team : goal.give-requires-clause-team
give-requires-clause-team g c = (c.args.units.items, c.in_ok-unit.ensures.team c.args.units.items c.loop-replies.units.items c.loop-replies.invariant.2)

pub loop-replies-smaller : goal.loop-replies-smaller
loop-replies-smaller g c = c.in_ok-give.ensures.falls

pub loop-replies-preserved : goal.loop-replies-preserved
loop-replies-preserved g c = (
  (c.in_ok-give.ensures.core).0,
  from_there g.U.Inst.Instance.wants g.U.Inst.Instance.same_datum c.args.core c.settle.new.core c.give.new.core (from_there g.U.Inst.Instance.wants g.U.Inst.Instance.same_datum c.args.core c.loop-replies.core c.settle.new.core c.loop-replies.invariant.1 (c.in_ok-unit.ensures.core).1) (c.in_ok-give.ensures.core).1,
  c.in_ok-give.ensures.team c.args.units.items (c.in_ok-unit.ensures.team c.args.units.items c.loop-replies.units.items c.loop-replies.invariant.2),
  served_more g.U.Inst.Instance.wants g.U.Inst.Instance.same_datum c.args.core c.settle.new.core c.give.new.core c.args.order.now c.requires.opening
      (from_there g.U.Inst.Instance.wants g.U.Inst.Instance.same_datum c.args.core c.loop-replies.core c.settle.new.core c.loop-replies.invariant.1 (c.in_ok-unit.ensures.core).1)
      (served_more g.U.Inst.Instance.wants g.U.Inst.Instance.same_datum c.args.core c.loop-replies.core c.settle.new.core c.args.order.now c.requires.opening c.loop-replies.invariant.1 c.loop-replies.invariant.3 c.in_ok-unit.ensures.adds)
      (adds_one g.U.Inst.Instance.wants g.U.Inst.Instance.same_datum c.settle.new.core c.give.new.core c.in-Some.unit c.in_ok-give.ensures.adds (some_left _ _ c.in_ok-unit.field-0 c.in-Some.unit c.in_ok-unit.ensures.least c.in-Some.is).0),
)

pub returns-clause-ran : goal.returns-clause-ran
returns-clause-ran g c =
    let goes = from_there g.U.Inst.Instance.wants g.U.Inst.Instance.same_datum c.args.core c.loop-replies.core c.settle.new.core c.loop-replies.invariant.1 (c.in_ok-unit.ensures.core).1 in
    let team = c.in_ok-unit.ensures.team c.args.units.items c.loop-replies.units.items c.loop-replies.invariant.2 in
    record {
      opening = goes.0;
      kinds = goes.1;
      core = (c.in_ok-unit.ensures.core).0;
      over = over g.U.Inst.Instance.wants g.U.Inst.Instance.same_datum c.settle.new.core (c.in_ok-unit.ensures.core).0 (none_left _ _ c.in_ok-unit.field-0 c.in_ok-unit.ensures.least c.in_default.not-Some);
      each = team_stood g.U.Inst.Instance.wants g.U.Inst.Instance.same_datum g.U.Unit.opening g.U.Unit.kinds g.U.Unit.owes_edge g.U.Unit.owes_datum g.U.Unit.may_ask g.U.Unit.comes_to g.U.Unit.number g.U.Unit.fixed g.U.Unit.stands c.args.units.items c.loop-replies.units.items c.settle.new.replies.items c.settle.new.core team;
      honest = team_honest g.U.Inst.Instance.wants g.U.Inst.Instance.same_datum g.U.Unit.opening g.U.Unit.kinds g.U.Unit.owes_edge g.U.Unit.owes_datum g.U.Unit.may_ask g.U.Unit.comes_to g.U.Unit.number g.U.Unit.fixed g.U.Unit.stands c.args.units.items c.loop-replies.units.items c.settle.new.replies.items c.settle.new.core team;
    }

pub returns-clause-served : goal.returns-clause-served
returns-clause-served g c = served_more g.U.Inst.Instance.wants g.U.Inst.Instance.same_datum c.args.core c.loop-replies.core c.settle.new.core c.args.order.now c.requires.opening c.loop-replies.invariant.1 c.loop-replies.invariant.3 c.in_ok-unit.ensures.adds
