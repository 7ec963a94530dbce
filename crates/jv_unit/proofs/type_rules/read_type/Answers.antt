use Rattle.jv_names.specs.Replies.{reply_to}
use Rattle.jv_unit.specs.Kept.{folder_of}
use Rattle.jv_unit.proofs.Steps.{type_unknown, type_written}
use Rattle.jv_unit.proofs.type_rules.read_type.Goals as goal

pub returns-in_err-header-clause-reads : goal.returns-in_err-header-clause-reads
returns-in_err-header-clause-reads c = type_unknown (reply_to c.args.o.now) (folder_of c.args.w.now) c.args.t c.in_err-header.field-0.0 c.from_residual.result c.from_residual.ensures.1 c.in_err-header.ensures.reads

pub returns-clause-reads : goal.returns-clause-reads
returns-clause-reads c = type_written (reply_to c.args.o.now) (folder_of c.args.w.now) c.args.t c.in_ok-header.header c.row_writes.result c.ty.result c.new.result c.as_slice.result.now c.ty.ensures c.new.ensures c.as_slice.ensures c.in_ok-header.ensures.reads c.row_writes.ensures
