use Rattle.std.proofs.Common.{map}
use Rattle.jv_names.specs.Replies.{reply_to}
use Rattle.jv_tree.specs.DeclTree.{import_tree}
use Rattle.jv_unit.specs.Kept.{folder_of}
use Rattle.jv_unit.proofs.FileRules.{statics_here, statics_read, statics_there}
use Rattle.jv_unit.proofs.file_rules.read_file_statics.Goals as goal

pub read_statics-requires-clause-so_far : goal.read_statics-requires-clause-so_far
read_statics-requires-clause-so_far c =
    statics_there (reply_to c.args.o.now) (folder_of c.args.w.now) c.args.file c.layout.result.now c.names.result.now (map import_tree c.imports.result.now) c.layout.ensures c.names.ensures c.imports.ensures c.args.statics.now c.requires.so_far

pub returns-clause-reads : goal.returns-clause-reads
returns-clause-reads c =
    statics_read (reply_to c.args.o.now) (folder_of c.args.w.now) c.args.file c.layout.result.now c.names.result.now (map import_tree c.imports.result.now) c.layout.ensures c.names.ensures c.imports.ensures c.read_statics.result c.read_statics.ensures.reads

pub returns-clause-so_far : goal.returns-clause-so_far
returns-clause-so_far c =
    statics_here (reply_to c.args.o.now) (folder_of c.args.w.now) c.args.file c.layout.result.now c.names.result.now (map import_tree c.imports.result.now) c.layout.ensures c.names.ensures c.imports.ensures c.read_statics.new.progress c.read_statics.ensures.so_far
