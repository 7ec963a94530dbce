use Rattle.std.proofs.Common.{rules}
use Rattle.std.specs.Arc.{arc_value}
use Rattle.jv_unit.proofs.NewUnits.{new_is_sound}
use Rattle.jv_unit.proofs.units.java_unit.Goals as goal

pub new-requires-2-clause-sound : goal.new-requires-2-clause-sound
new-requires-2-clause-sound c = new_is_sound (arc_value c.args.folder.now) c.args.unit c.new.result (search rules) (search rules) c.requires.whole c.requires.within
