use Rattle.std.proofs.Common.{refl}
use Rattle.jv_names.specs.Replies.{reply_to}
use Rattle.jv_tree.specs.DeclTree.{type_decl_tree}
use Rattle.jv_unit.specs.Kept.{folder_of}
use Rattle.jv_unit.proofs.HeadRules.{dependence_here, dependence_read, dependence_there, head_so_far_inside}
use Rattle.jv_unit.proofs.head_rules.read_type_dependence.Goals as goal

pub read_depends-requires : goal.read_depends-requires
read_depends-requires c = record { so_far = dependence_there (folder_of c.args.w.now) c.args.t c.ty.result (type_decl_tree c.decl.result.now) c.ty.ensures c.decl.ensures (reply_to c.args.o.now) c.layout.result.now c.layout.ensures c.args.head.now.header c.as_slice.result.now c.as_slice.ensures c.args.head.now.dependence c.requires.so_far.dependence }

pub returns-clause-reads : goal.returns-clause-reads
returns-clause-reads c = dependence_read (folder_of c.args.w.now) c.args.t c.ty.result (type_decl_tree c.decl.result.now) c.ty.ensures c.decl.ensures (reply_to c.args.o.now) c.layout.result.now c.layout.ensures c.args.head.now.header c.as_slice.result.now c.as_slice.ensures c.names.result.now c.names.ensures c.read_depends.result c.read_depends.ensures.reads

pub returns-clause-so_far : goal.returns-clause-so_far
returns-clause-so_far c =
    head_so_far_inside (reply_to c.args.o.now) (folder_of c.args.w.now) c.args.t c.args.head.now c.requires.so_far (record { header = c.args.head.now.header; dependence = c.read_depends.new.progress }) refl
    (dependence_here (folder_of c.args.w.now) c.args.t c.ty.result (type_decl_tree c.decl.result.now) c.ty.ensures c.decl.ensures (reply_to c.args.o.now) c.layout.result.now c.layout.ensures c.args.head.now.header c.as_slice.result.now c.as_slice.ensures c.read_depends.new.progress c.read_depends.ensures.so_far)
