use Rattle.std.proofs.Common.{◌∙◌, length, sym, ap, arith}
use Rattle.sg_base.specs.PathTree.{PathTreeOf, path_at}
use Rattle.sg_base.proofs.Trees.{paths_of-length, root_path}
use Rattle.sg_base.proofs.path_tree.PathTree.first.Goals as goal

pub returns-clause-there : goal.returns-clause-there
returns-clause-there c = omega (arith, ap (λ (t : PathTreeOf). length t.paths) c.self.view_is, paths_of-length c.self.inside.nodes.items)

pub returns-clause-none : goal.returns-clause-none
returns-clause-none c = ap (λ (t : PathTreeOf). path_at t.paths 0) (sym c.self.view_is) ∙ root_path c.self.inside.nodes.items
