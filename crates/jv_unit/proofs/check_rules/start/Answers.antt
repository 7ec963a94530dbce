use Rattle.jv_names.specs.Replies.{reply_to}
use Rattle.jv_unit.specs.Kept.{folder_of}
use Rattle.jv_unit.proofs.HeadRules.{head_so_far_first}
use Rattle.jv_unit.proofs.check_rules.start.Goals as goal

pub go_on_with_head-requires-clause-so_far : goal.go_on_with_head-requires-clause-so_far
go_on_with_head-requires-clause-so_far c =
    head_so_far_first (reply_to c.args.o.now) (folder_of c.args.w.now) c.args.t (record { header = c.in_ok-read_type_header.field-0; dependence = c.new.result }) c.in_ok-read_type_header.ensures.reads c.new.ensures
