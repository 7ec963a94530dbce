use Rattle.std.proofs.Common.{sym, subst}
use Rattle.sg_small.specs.Reader.{IsNewReader}
use Rattle.sg_small.proofs.Examples.{reader_is_new, none_replied}
use Rattle.sg_small.proofs.Reading.{new_is_sound}
use Rattle.sg_small.proofs.tests.reader.Goals as goal

pub new-unit-requires-clause-sound : goal.new-unit-requires-clause-sound
new-unit-requires-clause-sound c = new_is_sound c.args.number c.args.table.now _ c.requires.number c.requires.table (reader_is_new _ _ _ _ _ _ _ c.new-script.ensures c.in_ok-looks.ensures c.in_ok-gives.ensures)

pub new-unit-requires-clause-empty : goal.new-unit-requires-clause-empty
new-unit-requires-clause-empty c = none_replied c.args.number c.args.table.now _ (reader_is_new _ _ _ _ _ _ _ c.new-script.ensures c.in_ok-looks.ensures c.in_ok-gives.ensures)

pub returns-clause-reader : goal.returns-clause-reader
returns-clause-reader c = subst (IsNewReader c.args.number c.args.table.now) (sym c.new-unit.ensures.0) (reader_is_new _ _ _ _ _ _ _ c.new-script.ensures c.in_ok-looks.ensures c.in_ok-gives.ensures)
