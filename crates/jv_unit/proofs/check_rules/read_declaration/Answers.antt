use Rattle.jv_names.specs.Replies.{reply_to}
use Rattle.jv_unit.specs.Kept.{folder_of}
use Rattle.jv_unit.proofs.CheckRules.{declaration_read, declaration_unknown}
use Rattle.jv_unit.proofs.check_rules.read_declaration.Goals as goal

pub returns-in_err-signature : goal.returns-in_err-signature
returns-in_err-signature c = declaration_unknown (reply_to c.args.o.now) (folder_of c.args.w.now) c.args.t c.args.m c.in_err-signature.field-0.0 c.from_residual.result c.from_residual.ensures.1 c.in_err-signature.ensures

pub returns : goal.returns
returns c = declaration_read (reply_to c.args.o.now) (folder_of c.args.w.now) c.args.t c.args.m c.in_ok-signature.signature c.with_declaration.result c.in_ok-signature.ensures c.with_declaration.ensures
