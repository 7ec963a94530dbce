use Rattle.std.proofs.Common.{◌≡◌, drop, map}
use Rattle.jv_tree.specs.DeclTree.{param_tree}
use Rattle.jv_expr.specs.Bodies.{params_declared}
use Rattle.jv_expr.specs.Sites.{site_of}
use Rattle.jv_expr.specs.Statements.{Scoped}
use Rattle.jv_expr.proofs.params.declare_params.Given as goal

-- what the rest of the parameters makes of the variables so far, all of them make of those at first
abbrev pub invariant-loop-param : goal.invariant-loop-param
invariant-loop-param l =
    (r : Scoped) → r ≡ params_declared (site_of l.site) (map param_tree (drop l.param-index l.params)) l.left l.locals.items l.ds → r ≡ params_declared (site_of l.site) (map param_tree l.params) l.types l.fn.locals.items l.fn.ds
