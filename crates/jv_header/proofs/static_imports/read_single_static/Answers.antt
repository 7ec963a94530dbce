use Rattle.jv_tree.specs.DeclTree.{import_tree}
use Rattle.jv_names.specs.Replies.{reply_to}
use Rattle.jv_header.proofs.StaticSteps.{single_checked}
use Rattle.jv_header.proofs.static_imports.read_single_static.Goals as goal

pub returns : goal.returns
returns c =
    single_checked (reply_to c.args.o.now) c.args.l.now c.args.names.now c.args.file (import_tree c.args.import.now) c.requires.single c.in_ok-resolved.resolved _ _ c.in_ok-resolved.ensures c.as_slice-ids.ensures.value
    c.read_meant.ensures
