use Rattle.std.proofs.Common.{take}
use Rattle.sg_core.specs.Core.{IsCore, run}
use Rattle.sg_serial.specs.Serial.{IsTeam, GoesOnFrom, AreChosen, IsServedBy, sum_of}
use Rattle.sg_serial.proofs.serial.run_serial.Given as goal

abbrev pub invariant-loop-unit : goal.invariant-loop-unit
invariant-loop-unit g l =
    IsCore g.U.Inst.Instance.wants g.U.Inst.Instance.same_datum l.core × GoesOnFrom l.fn.core l.core × IsTeam g.U.Inst.Instance.wants g.U.Inst.Instance.same_datum g.U.Unit.opening g.U.Unit.kinds g.U.Unit.owes_edge g.U.Unit.owes_datum g.U.Unit.may_ask g.U.Unit.comes_to g.U.Unit.number g.U.Unit.fixed g.U.Unit.stands l.fn.units.items l.units.items l.replies.items l.core
    × AreChosen (run g.U.Inst.Instance.wants g.U.Inst.Instance.same_datum l.fn.core) (take l.unit-index l.fn.order) l.core.log

abbrev pub invariant-loop-replies : goal.invariant-loop-replies
invariant-loop-replies g l =
    IsCore g.U.Inst.Instance.wants g.U.Inst.Instance.same_datum l.core × GoesOnFrom l.fn.core l.core × IsTeam g.U.Inst.Instance.wants g.U.Inst.Instance.same_datum g.U.Unit.opening g.U.Unit.kinds g.U.Unit.owes_edge g.U.Unit.owes_datum g.U.Unit.may_ask g.U.Unit.comes_to g.U.Unit.number g.U.Unit.fixed g.U.Unit.stands l.fn.units.items l.units.items l.replies.items l.core
    × IsServedBy (run g.U.Inst.Instance.wants g.U.Inst.Instance.same_datum l.fn.core) l.fn.order l.core.log

abbrev pub decreases-loop-replies : goal.decreases-loop-replies
decreases-loop-replies g l = sum_of g.U.Unit.measure l.units.items
