use Rattle.std.proofs.Common.{[]}
use Rattle.sc_sources.proofs.Folders.{second_fits, second_counts}
use Rattle.sc_sources.proofs.read.of_prelude.Goals as goal

pub add-requires-2-clause-room : goal.add-requires-2-clause-room
add-requires-2-clause-room c = second_fits c.object_source.result.now c.string_source.result.now c.object_source.ensures c.string_source.ensures c.add.new.self (c.in_ok-add.ensures [] c.new-reading.ensures)

pub add-requires-2-clause-files : goal.add-requires-2-clause-files
add-requires-2-clause-files c = second_counts c.object_source.result.now c.string_source.result.now c.object_source.ensures c.string_source.ensures c.add.new.self (c.in_ok-add.ensures [] c.new-reading.ensures)
