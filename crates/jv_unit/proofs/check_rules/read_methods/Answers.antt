use Rattle.jv_names.specs.Replies.{reply_to}
use Rattle.jv_unit.specs.Kept.{folder_of}
use Rattle.jv_unit.proofs.CheckRules.{methods_read, methods_unknown}
use Rattle.jv_unit.proofs.check_rules.read_methods.Goals as goal

pub returns-in_err-ask_methods : goal.returns-in_err-ask_methods
returns-in_err-ask_methods c = methods_unknown (reply_to c.args.o.now) (folder_of c.args.w.now) c.args.t c.ty.result c.ty.ensures c.in_err-ask_methods.field-0.0 c.from_residual.result c.from_residual.ensures.1 c.in_err-ask_methods.ensures

pub returns : goal.returns
returns c = methods_read (reply_to c.args.o.now) (folder_of c.args.w.now) c.args.t c.ty.result c.ty.ensures _ c.empty.result c.in_ok-ask_methods.ensures c.empty.ensures
