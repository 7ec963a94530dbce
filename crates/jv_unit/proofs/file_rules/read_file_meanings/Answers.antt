use Rattle.jv_names.specs.Replies.{reply_to}
use Rattle.jv_tree.specs.DeclTree.{tree_of}
use Rattle.jv_unit.specs.Kept.{folder_of}
use Rattle.jv_unit.proofs.FileRules.{imports_here, imports_there, meanings_read}
use Rattle.jv_unit.proofs.file_rules.read_file_meanings.Goals as goal

pub read_meanings-requires-clause-so_far : goal.read_meanings-requires-clause-so_far
read_meanings-requires-clause-so_far c = imports_there (reply_to c.args.o.now) (folder_of c.args.w.now) c.args.file c.layout.result.now (tree_of c.file.result.now) c.layout.ensures c.file.ensures c.args.imports.now c.requires.so_far

pub returns-clause-reads : goal.returns-clause-reads
returns-clause-reads c = meanings_read (reply_to c.args.o.now) (folder_of c.args.w.now) c.args.file c.layout.result.now (tree_of c.file.result.now) c.layout.ensures c.file.ensures c.read_meanings.new.progress c.read_meanings.result c.read_meanings.ensures.reads

pub returns-clause-so_far : goal.returns-clause-so_far
returns-clause-so_far c = imports_here (reply_to c.args.o.now) (folder_of c.args.w.now) c.args.file c.layout.result.now (tree_of c.file.result.now) c.layout.ensures c.file.ensures c.read_meanings.new.progress c.read_meanings.ensures.so_far
