use Rattle.std.proofs.Common.{ap, arith, length, refl}
use Rattle.std.specs.Arc.{arc_value}
use Rattle.jv_unit.specs.declared.folder.Folder.{Folder}
use Rattle.jv_unit.specs.Kept.{folder_of}
use Rattle.jv_unit.proofs.NewUnits.{all_units, one_more_first, units_are_new}
use Rattle.jv_unit.proofs.units.java_units.Goals as goal

pub loop-unit-preserved : goal.loop-unit-preserved
loop-unit-preserved c =
    one_more_first (folder_of (arc_value c.args.folder.now)) c.loop-unit.unit c.loop-unit.units.items c.in_ok-java_unit.field-0 c.push.new.self.items c.loop-unit.invariant c.in_ok-java_unit.ensures c.in_ok-push.ensures.items

pub returns-clause-units : goal.returns-clause-units
returns-clause-units c =
    all_units (arc_value c.args.folder.now) (arc_value c.args.folder.now) c.loop-unit.unit c.loop-unit.units.items refl
    (omega (arith, c.loop-unit-test.false, c.loop-unit.auto.unit-end, c.file_count.ensures, c.type_count.ensures.count, ap (λ (w : Folder). length w.layout.files) c.deref.ensures, ap (λ (w : Folder). length w.layout.types) c.deref-2.ensures)) c.loop-unit.invariant

pub returns-clause-new : goal.returns-clause-new
returns-clause-new c =
    units_are_new (folder_of (arc_value c.args.folder.now)) c.loop-unit.units.items
    (all_units (arc_value c.args.folder.now) (arc_value c.args.folder.now) c.loop-unit.unit c.loop-unit.units.items refl
    (omega (arith, c.loop-unit-test.false, c.loop-unit.auto.unit-end, c.file_count.ensures, c.type_count.ensures.count, ap (λ (w : Folder). length w.layout.files) c.deref.ensures, ap (λ (w : Folder). length w.layout.types) c.deref-2.ensures)) c.loop-unit.invariant)
