use Rattle.std.proofs.Common.{map}
use Rattle.jv_tree.specs.DeclTree.{param_tree}
use Rattle.jv_tree.specs.TypeTree.{ids_of}
use Rattle.jv_expr.proofs.BodySteps.{start_goes_on}
use Rattle.jv_expr.proofs.bodies.start_method.Goals as goal

pub returns-clause-left : goal.returns-clause-left
returns-clause-left c =
    start_goes_on _ c.args.owner.now.layout.now c.args.owner.now.names.now c.args.owner.now.ty (map ids_of c.args.owner.now.extends.now) c.args.member _ (map param_tree c.args.params.now) c.in_ok-s.s c.in_ok-s.ensures c.in_ok-body.body c.in_ok-body.ensures _ c.go_on_method.ensures.left
