use Rattle.jv_names.specs.Replies.{reply_to}
use Rattle.jv_unit.specs.Kept.{folder_of}
use Rattle.jv_unit.proofs.HeadRules.{head_ends, head_stops}
use Rattle.jv_unit.proofs.check_rules.go_on_with_head.Goals as goal

pub start_checks-requires-clause-head : goal.start_checks-requires-clause-head
start_checks-requires-clause-head c =
    head_ends (reply_to c.args.o.now) (folder_of c.args.w.now) c.args.t c.args.head c.requires.so_far c.read_type_dependence.new.head.header c.in-Ok.dependence c.in_ok-diags-in-Ok.diags c.in-Ok.ensures.header c.in-Ok.ensures.reads c.in_ok-diags-in-Ok.ensures

pub returns-in-Err-clause-reads : goal.returns-in-Err-clause-reads
returns-in-Err-clause-reads c = head_stops (reply_to c.args.o.now) (folder_of c.args.w.now) c.args.t c.args.head c.requires.so_far c.in-Err.stop c.in-Err.ensures.reads
