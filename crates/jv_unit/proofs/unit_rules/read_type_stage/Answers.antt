use Rattle.std.proofs.Common.{◌-◌, arith}
use Rattle.std.proofs.lemmas.List.{length-map}
use Rattle.jv_layout.specs.Readers.{members_of_type}
use Rattle.jv_names.specs.Replies.{reply_to}
use Rattle.jv_unit.specs.Kept.{folder_of}
use Rattle.jv_unit.specs.Plans.{signature_stage}
use Rattle.jv_unit.proofs.UnitRules.{later_stage}
use Rattle.jv_unit.proofs.unit_rules.read_type_stage.Goals as goal

pub returns-else-stage-eq0-clause-reads : goal.returns-else-stage-eq0-clause-reads
returns-else-stage-eq0-clause-reads c =
    later_stage (reply_to c.args.o.now) (folder_of c.args.w.now) c.args.t c.read_datum.result c.args.stage (c.args.stage - 1) (omega (arith, c.if-stage-eq0.false))
    (omega (arith, c.if-stage-eq0.false, c.requires.stage, length-map (members_of_type c.args.w.now.layout c.args.t) (signature_stage (folder_of c.args.w.now) c.args.t))) c.read_datum.ensures
