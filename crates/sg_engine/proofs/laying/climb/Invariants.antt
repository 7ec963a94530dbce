use Rattle.sg_engine.specs.Laying.{IsClimb}
use Rattle.sg_engine.specs.Tree.{paths_of}
use Rattle.sg_engine.proofs.laying.climb.Given as goal

abbrev pub invariant-loop-top : goal.invariant-loop-top
invariant-loop-top g l = IsClimb (paths_of l.tree.nodes.items) l.place l.top l.climbed.items

abbrev pub decreases-loop-top : goal.decreases-loop-top
decreases-loop-top g l = l.top
