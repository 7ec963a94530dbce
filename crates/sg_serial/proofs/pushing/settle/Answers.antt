use Rattle.std.proofs.Common.{refl}
use Rattle.sg_serial.proofs.Serves.{adds_one, adds_none, adds_more, adds_same, least_same}
use Rattle.sg_serial.proofs.Settling.{from_there}
use Rattle.sg_serial.proofs.pushing.settle.Goals as goal

pub loop-unit-init : goal.loop-unit-init
loop-unit-init g c = (c.requires.core, (refl, refl), (λ start units t. t), adds_none g.U.Inst.Instance.wants g.U.Inst.Instance.same_datum c.args.core.now)

pub push-requires-clause-core : goal.push-requires-clause-core
push-requires-clause-core g c = c.loop-unit.invariant.0

pub push-requires-clause-team : goal.push-requires-clause-team
push-requires-clause-team g c = let t = c.requires.team in (t.0, t.1, c.loop-unit.invariant.2 t.0 t.1 t.2)

pub returns-then-not-branch-clause-team : goal.returns-then-not-branch-clause-team
returns-then-not-branch-clause-team g c = λ start units t. c.in_ok-push.ensures.team start units (c.loop-unit.invariant.2 start units t)

pub returns-then-not-branch-clause-core : goal.returns-then-not-branch-clause-core
returns-then-not-branch-clause-core g c =
    ((c.in_ok-push.ensures.core).0, from_there g.U.Inst.Instance.wants g.U.Inst.Instance.same_datum c.args.core.now c.loop-unit.core c.push.new.core c.loop-unit.invariant.1 (c.in_ok-push.ensures.core).1)

pub loop-unit-smaller : goal.loop-unit-smaller
loop-unit-smaller g c = c.in_ok-push.ensures.falls c.if-not-branch.false

pub loop-unit-preserved : goal.loop-unit-preserved
loop-unit-preserved g c = (
  (c.in_ok-push.ensures.core).0,
  from_there g.U.Inst.Instance.wants g.U.Inst.Instance.same_datum c.args.core.now c.loop-unit.core c.push.new.core c.loop-unit.invariant.1 (c.in_ok-push.ensures.core).1,
  (λ start units t. c.in_ok-push.ensures.team start units (c.loop-unit.invariant.2 start units t)),
  adds_more g.U.Inst.Instance.wants g.U.Inst.Instance.same_datum c.args.core.now c.loop-unit.core c.push.new.core c.loop-unit.invariant.1 c.loop-unit.invariant.3
      (adds_one g.U.Inst.Instance.wants g.U.Inst.Instance.same_datum c.loop-unit.core c.push.new.core c.in-Some.unit (c.in_ok-push.ensures.adds c.if-not-branch.false) c.in-Some.ensures.some),
)

pub returns-clause-team : goal.returns-clause-team
returns-clause-team g c = c.loop-unit.invariant.2

pub returns-clause-core : goal.returns-clause-core
returns-clause-core g c = (c.loop-unit.invariant.0, c.loop-unit.invariant.1)

pub returns-clause-adds : goal.returns-clause-adds
returns-clause-adds g c = c.loop-unit.invariant.3

pub returns-then-not-branch-clause-adds : goal.returns-then-not-branch-clause-adds
returns-then-not-branch-clause-adds g c =
    adds_same g.U.Inst.Instance.wants g.U.Inst.Instance.same_datum c.args.core.now c.loop-unit.core c.push.new.core c.loop-unit.invariant.3 (c.in_ok-push.ensures.idle c.if-not-branch.true).1

pub returns-then-not-branch-clause-least : goal.returns-then-not-branch-clause-least
returns-then-not-branch-clause-least g c =
    let idle = c.in_ok-push.ensures.idle c.if-not-branch.true in
    (least_same g.U.Inst.Instance.wants g.U.Inst.Instance.same_datum c.loop-unit.core c.push.new.core c.in-Some.unit c.in-Some.ensures.some idle.1, idle.0)
