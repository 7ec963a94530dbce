use Rattle.jv_names.specs.Replies.{reply_to}
use Rattle.jv_tree.specs.DeclTree.{tree_of}
use Rattle.jv_unit.specs.Kept.{folder_of}
use Rattle.jv_unit.proofs.Steps.{file_unknown, file_written}
use Rattle.jv_unit.proofs.file_rules.read_file.Goals as goal

pub returns-in_err-given-clause-reads : goal.returns-in_err-given-clause-reads
returns-in_err-given-clause-reads c = file_unknown (reply_to c.args.o.now) (folder_of c.args.w.now) c.args.file c.layout.result.now c.names.result.now (tree_of c.file.result.now) c.layout.ensures c.names.ensures c.file.ensures c.in_err-given.field-0.0 c.from_residual.result c.from_residual.ensures.1 c.in_err-given.ensures.reads

pub returns-clause-reads : goal.returns-clause-reads
returns-clause-reads c = file_written (reply_to c.args.o.now) (folder_of c.args.w.now) c.args.file c.layout.result.now c.names.result.now (tree_of c.file.result.now) c.layout.ensures c.names.ensures c.file.ensures c.in_ok-given.given c.import_writes.result c.layout-2.result.now c.layout-2.ensures c.in_ok-given.ensures.reads c.import_writes.ensures
