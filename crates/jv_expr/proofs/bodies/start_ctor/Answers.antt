use Rattle.std.proofs.Common.{map}
use Rattle.jv_tree.specs.DeclTree.{ctor_tree}
use Rattle.jv_tree.specs.TypeTree.{ids_of}
use Rattle.jv_expr.proofs.BodySteps.{ctor_starts_on}
use Rattle.jv_expr.proofs.bodies.start_ctor.Goals as goal

pub returns-clause-left : goal.returns-clause-left
returns-clause-left c =
    ctor_starts_on _ c.args.owner.now.layout.now c.args.owner.now.names.now c.args.owner.now.ty (map ids_of c.args.owner.now.extends.now) c.args.blanks.now (ctor_tree c.args.ctor.now) c.args.member c.in_ok-s.s c.in_ok-s.ensures c.in_ok-body.body c.in_ok-body.ensures.count c.in_ok-body.ensures.reads _ c.go_on_ctor.ensures.left
