use Rattle.jv_names.specs.Replies.{reply_to}
use Rattle.jv_tree.specs.DeclTree.{tree_of}
use Rattle.jv_unit.specs.Kept.{folder_of}
use Rattle.jv_unit.proofs.Steps.{file_ended, file_unended, meanings_unended, statics_unended}
use Rattle.jv_unit.proofs.file_rules.finish_file.Goals as goal

pub returns-in_err-read_file_meanings-clause-reads : goal.returns-in_err-read_file_meanings-clause-reads
returns-in_err-read_file_meanings-clause-reads c =
    meanings_unended (reply_to c.args.o.now) (folder_of c.args.w.now) c.args.file c.in_err-read_file_meanings.field-0.0 c.from_residual.result c.from_residual.ensures.1 c.in_err-read_file_meanings.ensures.reads

pub returns-in_err-checked-clause-reads : goal.returns-in_err-checked-clause-reads
returns-in_err-checked-clause-reads c =
    statics_unended (reply_to c.args.o.now) (folder_of c.args.w.now) c.args.file _ c.in_err-checked.field-0.0 c.from_residual-in_err-checked.result c.from_residual-in_err-checked.ensures.1 c.in_ok-read_file_meanings.ensures.reads c.in_err-checked.ensures.reads

pub returns-in_err-given-clause-reads : goal.returns-in_err-given-clause-reads
returns-in_err-given-clause-reads c =
    file_unended (reply_to c.args.o.now) (folder_of c.args.w.now) c.args.file c.layout.result.now c.names.result.now (tree_of c.file.result.now) c.layout.ensures c.names.ensures c.file.ensures c.in_err-given.field-0.0 c.from_residual-in_err-given.result c.from_residual-in_err-given.ensures.1 c.in_err-given.ensures.reads

pub returns-clause-reads : goal.returns-clause-reads
returns-clause-reads c =
    file_ended (reply_to c.args.o.now) (folder_of c.args.w.now) c.args.file c.layout.result.now c.names.result.now (tree_of c.file.result.now) c.layout.ensures c.names.ensures c.file.ensures c.in_ok-given.given c.into_diags.result c.in_ok-checked.checked c.with_statics.result c.in_ok-given.ensures.reads c.in_ok-checked.ensures.reads c.into_diags.ensures c.with_statics.ensures
