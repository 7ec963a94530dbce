use Rattle.std.proofs.Common.{◌≡◌, ◌<◌, ◌≤◌, ◌+◌, [], ◌∷◌, ◌++◌, length, sym, ap, ◌∙◌, subst, arith}
use Rattle.sg_base.specs.declared.path_node.PathNode.{PathNode}
use Rattle.sg_base.specs.PathTree.{PathTreeOf, path_at, paths_of, AreLaid}
use Rattle.sg_base.proofs.Trees.{few_steps, laid_push, paths_of-push}
use Rattle.sg_base.proofs.path_tree.PathTree.push.Goals as goal

pub overflow_add-len : goal.overflow_add-len
overflow_add-len c =
    let few = subst (λ (t : PathTreeOf). c.args.parent < length t.paths → length (path_at t.paths c.args.parent) ≤ c.args.parent) c.self.view_is (few_steps c.self.inside.nodes.items c.args.parent c.self.invariant) c.requires in
    omega (arith, few, c.requires, c.steps_len-len.ensures, c.len-place.ensures.len, c.len-place.ensures.fits)

pub invariant_of-self-2 : goal.invariant_of-self-2
invariant_of-self-2 c =
    let node : PathNode = record { parent = c.args.parent; step = c.args.step; len = c.steps_len-len.result + 1 } in
    let there : c.args.parent < length (paths_of c.self.inside.nodes.items) = subst (λ (t : PathTreeOf). c.args.parent < length t.paths) (sym c.self.view_is) c.requires in
    let long : c.steps_len-len.result ≡ length (path_at (paths_of c.self.inside.nodes.items) c.args.parent) = c.steps_len-len.ensures ∙ ap (λ (t : PathTreeOf). length (path_at t.paths c.args.parent)) (sym c.self.view_is) in
    subst AreLaid (sym c.in_ok-push.ensures.items) (laid_push c.self.inside.nodes.items node c.self.invariant there (omega (arith, long)))

pub returns-clause-ok : goal.returns-clause-ok
returns-clause-ok c =
    let node : PathNode = record { parent = c.args.parent; step = c.args.step; len = c.steps_len-len.result + 1 } in
    ap paths_of c.in_ok-push.ensures.items ∙ (paths_of-push c.self.inside.nodes.items node ∙ ap (λ (t : PathTreeOf). t.paths ++ (path_at t.paths c.args.parent ++ c.args.step ∷ []) ∷ []) c.self.view_is)
