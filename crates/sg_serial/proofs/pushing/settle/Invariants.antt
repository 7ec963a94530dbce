use Rattle.std.proofs.Common.{List}
use Rattle.sg_core.specs.Core.{IsCore}
use Rattle.sg_serial.specs.Serial.{IsTeam, GoesOnFrom, AddsLeastFirst, asks_left}
use Rattle.sg_serial.proofs.pushing.settle.Given as goal

abbrev pub invariant-loop-unit : goal.invariant-loop-unit
invariant-loop-unit g l =
    IsCore g.U.Inst.Instance.wants g.U.Inst.Instance.same_datum l.core × GoesOnFrom l.fn.core l.core
    × ((start units : List g.row.U.Denot) → IsTeam g.U.Inst.Instance.wants g.U.Inst.Instance.same_datum g.U.Unit.opening g.U.Unit.kinds g.U.Unit.owes_edge g.U.Unit.owes_datum g.U.Unit.may_ask g.U.Unit.comes_to g.U.Unit.number g.U.Unit.fixed g.U.Unit.stands start units l.fn.replies.items l.fn.core → IsTeam g.U.Inst.Instance.wants g.U.Inst.Instance.same_datum g.U.Unit.opening g.U.Unit.kinds g.U.Unit.owes_edge g.U.Unit.owes_datum g.U.Unit.may_ask g.U.Unit.comes_to g.U.Unit.number g.U.Unit.fixed g.U.Unit.stands start units l.replies.items l.core)
    × AddsLeastFirst g.U.Inst.Instance.wants g.U.Inst.Instance.same_datum l.fn.core l.core

abbrev pub decreases-loop-unit : goal.decreases-loop-unit
decreases-loop-unit g l = asks_left g.U.Inst.Instance.wants g.U.Inst.Instance.same_datum l.core
