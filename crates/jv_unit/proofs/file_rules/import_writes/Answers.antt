use Rattle.std.proofs.Common.{rules}
use Rattle.jv_unit.proofs.Writes.{import_writes_are}
use Rattle.jv_unit.proofs.file_rules.import_writes.Goals as goal

pub returns : goal.returns
returns c = import_writes_are c.args.l.now c.args.file c.args.imports.now c.new-writes.result c.add_singles.new.writes c.add_on_demand.new.writes c.push.new.self c.push-2.new.self (search rules) (search rules) (search rules) (search rules) (search rules)
