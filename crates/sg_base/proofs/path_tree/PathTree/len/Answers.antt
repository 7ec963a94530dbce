use Rattle.std.proofs.Common.{length, ap, arith}
use Rattle.sg_base.specs.PathTree.{PathTreeOf}
use Rattle.sg_base.proofs.Trees.{paths_of-length}
use Rattle.sg_base.proofs.path_tree.PathTree.len.Goals as goal

pub returns-clause-len : goal.returns-clause-len
returns-clause-len c = omega (arith, ap (λ (t : PathTreeOf). length t.paths) c.self.view_is, paths_of-length c.self.inside.nodes.items, c.len.ensures)
