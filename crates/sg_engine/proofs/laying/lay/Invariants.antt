use Rattle.std.proofs.Common.{◌≡◌, ℕ, vec_len}
use Rattle.sg_engine.specs.Laying.{LiesAt, IsLaying, IsClimb}
use Rattle.sg_engine.specs.Tree.{paths_of, IsFrontOf}
use Rattle.sg_engine.proofs.laying.lay.Given as goal

abbrev pub invariant-loop-k : goal.invariant-loop-k
invariant-loop-k g l = record {
  start : l.paths.start ≡ l.fn.paths.start;
  front : IsFrontOf l.fn.paths.paths l.paths.paths;
  laid : IsLaying (paths_of l.tree.nodes.items) l.paths.paths l.places.items;
  climb : (top : ℕ) × IsClimb (paths_of l.tree.nodes.items) l.place top l.climbed.items × LiesAt (paths_of l.tree.nodes.items) l.paths.paths top l.under;
}

abbrev pub decreases-loop-k : goal.decreases-loop-k
decreases-loop-k g l = vec_len l.climbed
