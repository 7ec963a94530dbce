use Rattle.std.proofs.Common.{map}
use Rattle.jv_tree.specs.TypeTree.{ids_of}
use Rattle.jv_names.specs.Replies.{reply_to}
use Rattle.jv_header.proofs.Waiting.{none_waits}
use Rattle.jv_header.proofs.circular.circular_line.Goals as goal

pub open_start-requires : goal.open_start-requires
open_start-requires c = record {
  waits = λ g h. none_waits (reply_to c.args.o.now) c.args.l.now c.args.names.now c.args.ty (map ids_of c.args.decl.now.extends.items) (map ids_of c.args.decl.now.implements.items) c.requires.waits.0 g h c.requires.waits.1;
}
