use Rattle.jv_names.specs.Replies.{reply_to}
use Rattle.jv_unit.specs.Kept.{folder_of}
use Rattle.jv_unit.proofs.CheckRules.{flow_read, flow_unknown}
use Rattle.jv_unit.proofs.check_rules.read_whole_body.Goals as goal

pub returns-in_err-diags-clause-reads : goal.returns-in_err-diags-clause-reads
returns-in_err-diags-clause-reads c = flow_unknown (reply_to c.args.o.now) (folder_of c.args.w.now) c.args.t c.args.blanks.now c.args.m c.in_err-diags.field-0.0 c.from_residual.result c.from_residual.ensures.1 c.in_err-diags.ensures.reads

pub returns-clause-reads : goal.returns-clause-reads
returns-clause-reads c = flow_read (reply_to c.args.o.now) (folder_of c.args.w.now) c.args.t c.args.blanks.now c.args.m c.in_ok-diags.diags c.with_flow.result c.in_ok-diags.ensures.reads c.with_flow.ensures
