use Rattle.std.proofs.Common.{◌≡◌, ◌<◌, List, [], ◌∷◌, ◌++◌, length, slice_index_or, ◌-◌, sym, ap, ◌∙◌, subst}
use Rattle.sg_base.specs.declared.path_node.PathNode.{PathNode}
use Rattle.sg_base.specs.PathTree.{PathTreeOf, path_at, paths_of}
use Rattle.sg_base.proofs.Trees.{below, node_laid, root_path}
use Rattle.sg_base.proofs.path_tree.PathTree.last.Goals as goal

pub node_at-node-requires : goal.node_at-node-requires
node_at-node-requires c =
    subst (λ (ns : List PathNode). c.args.place - 1 < length ns) (sym c.as_slice.ensures.value) (below c.self.inside.nodes.items c.args.place c.if-place-eq0.false (subst (λ (t : PathTreeOf). c.args.place < length t.paths) (sym c.self.view_is) c.requires))

pub returns-then-place-eq0 : goal.returns-then-place-eq0
returns-then-place-eq0 c =
    ap (λ (t : PathTreeOf). path_at t.paths c.args.place) (sym c.self.view_is) ∙ (ap (path_at (paths_of c.self.inside.nodes.items)) c.if-place-eq0.true ∙ root_path c.self.inside.nodes.items)

pub returns-else-place-eq0 : goal.returns-else-place-eq0
returns-else-place-eq0 c =
    let there : c.args.place < length (paths_of c.self.inside.nodes.items) = subst (λ (t : PathTreeOf). c.args.place < length t.paths) (sym c.self.view_is) c.requires in
    let a = node_laid c.self.inside.nodes.items c.node_at-node.result c.args.place c.self.invariant c.if-place-eq0.false there (c.node_at-node.ensures ∙ ap (λ (ns : List PathNode). slice_index_or ns (c.args.place - 1) c.node_at-node.result) c.as_slice.ensures.value) in
    (a.before, subst (λ (t : PathTreeOf). path_at t.paths c.args.place ≡ path_at t.paths c.node_at-node.result.parent ++ c.node_at-node.result.step ∷ []) c.self.view_is a.path)
