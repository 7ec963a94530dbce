use Rattle.std.proofs.Common.{◌≡◌, ◌<◌, length}
use Rattle.sg_base.specs.Path.{shared_len}
use Rattle.sg_base.specs.PathTree.{path_at}
use Rattle.sg_base.proofs.path_tree.PathTree.shared_len.Given as goal

abbrev pub invariant-loop-i : goal.invariant-loop-i
invariant-loop-i l = record {
  first : l.i < length l.self.paths;
  second : l.j < length l.self.paths;
  long : length (path_at l.self.paths l.i) ≡ length (path_at l.self.paths l.j);
  alike : shared_len (path_at l.self.paths l.i) (path_at l.self.paths l.j) ≡ length (path_at l.self.paths l.i) → shared_len (path_at l.self.paths l.p) (path_at l.self.paths l.q) ≡ l.same;
  apart : shared_len (path_at l.self.paths l.i) (path_at l.self.paths l.j) < length (path_at l.self.paths l.i) → shared_len (path_at l.self.paths l.p) (path_at l.self.paths l.q) ≡ shared_len (path_at l.self.paths l.i) (path_at l.self.paths l.j);
}

abbrev pub decreases-loop-i : goal.decreases-loop-i
decreases-loop-i l = l.i
