use Rattle.std.proofs.Common.{◌≡◌, ◌<◌, length}
use Rattle.sg_base.specs.PathTree.{path_at}
use Rattle.sg_query.specs.Steps.{is_fresh}
use Rattle.sg_engine.specs.Tree.{paths_of}
use Rattle.sg_engine.proofs.tree.Tree.is_fresh_at.Given as goal

abbrev pub invariant-loop-k : goal.invariant-loop-k
invariant-loop-k g l =
    (l.k < length l.self.nodes.items) × (is_fresh l.self.start (path_at (paths_of l.self.nodes.items) l.place) l.t ≡ is_fresh l.self.start (path_at (paths_of l.self.nodes.items) l.k) l.t)

abbrev pub decreases-loop-k : goal.decreases-loop-k
decreases-loop-k g l = l.k
