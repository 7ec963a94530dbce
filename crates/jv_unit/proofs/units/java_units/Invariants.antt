use Rattle.std.specs.Arc.{arc_value}
use Rattle.jv_unit.specs.Kept.{folder_of}
use Rattle.jv_unit.proofs.NewUnits.{AreFirst}
use Rattle.jv_unit.proofs.units.java_units.Given as goal

abbrev pub invariant-loop-unit : goal.invariant-loop-unit
invariant-loop-unit l = AreFirst (folder_of (arc_value l.folder)) l.unit l.units.items
