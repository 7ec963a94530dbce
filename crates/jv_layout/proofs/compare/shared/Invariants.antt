use Rattle.std.proofs.Common.{◌≡◌, ◌≤◌, ◌-◌, List, map, take}
use Rattle.jv_tree.specs.DeclTree.{UnitTree}
use Rattle.jv_layout.specs.Paths.{clause_at, AreFirstFiles}
use Rattle.jv_layout.proofs.compare.shared.Given as goal

abbrev pub invariant-loop-low : goal.invariant-loop-low
invariant-loop-low l = record {
  ordered : l.low ≤ l.high;
  left : l.high ≤ l.a.len;
  right : l.high ≤ l.b.len;
  same : (units : List UnitTree) → AreFirstFiles units (map (λ v. v.items) l.firsts) → take l.low (clause_at units l.a.file) ≡ take l.low (clause_at units l.b.file);
}

abbrev pub decreases-loop-low : goal.decreases-loop-low
decreases-loop-low l = l.high - l.low
