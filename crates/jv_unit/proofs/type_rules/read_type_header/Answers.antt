use Rattle.jv_names.specs.Replies.{reply_to}
use Rattle.jv_tree.specs.DeclTree.{type_decl_tree}
use Rattle.jv_unit.specs.Kept.{folder_of}
use Rattle.jv_unit.proofs.HeaderRules.{read_here, read_there}
use Rattle.jv_unit.proofs.Steps.{header_read}
use Rattle.jv_unit.proofs.type_rules.read_type_header.Goals as goal

pub read_header-requires : goal.read_header-requires
read_header-requires c = record { so_far = read_there (reply_to c.args.o.now) (folder_of c.args.w.now) c.args.t c.layout.result.now c.ty.result (type_decl_tree c.decl.result.now) c.layout.ensures c.ty.ensures c.decl.ensures c.args.progress.now c.requires.so_far }

pub returns-clause-reads : goal.returns-clause-reads
returns-clause-reads c = header_read (reply_to c.args.o.now) (folder_of c.args.w.now) c.args.t c.layout.result.now c.names.result.now c.ty.result (type_decl_tree c.decl.result.now) c.layout.ensures c.names.ensures c.ty.ensures c.decl.ensures c.read_header.result c.read_header.ensures.reads

pub returns-clause-so_far : goal.returns-clause-so_far
returns-clause-so_far c = read_here (reply_to c.args.o.now) (folder_of c.args.w.now) c.args.t c.layout.result.now c.ty.result (type_decl_tree c.decl.result.now) c.layout.ensures c.ty.ensures c.decl.ensures c.read_header.new.progress c.read_header.ensures.so_far
