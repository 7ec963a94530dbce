use Rattle.std.proofs.Common.{◌≡◌, ℕ, ◌-◌, ◌<◌, ◌≤◌, List, length, map, get_or}
use Rattle.std.specs.declared.cmp.Ordering.TheVariants.{Less, Greater}
use Rattle.jv_tree.specs.DeclTree.{tree_of}
use Rattle.jv_layout.specs.Folder.{path_cmp}
use Rattle.jv_layout.specs.Paths.{path_at}
use Rattle.jv_layout.proofs.packages.search.Given as goal

abbrev pub invariant-loop-low : goal.invariant-loop-low
invariant-loop-low l = record {
  ordered : l.low ≤ l.high;
  within : l.high ≤ length l.paths;
  before : (k : ℕ) (d : List ℕ) → k < l.low → path_cmp l.names (path_at (map tree_of l.files) l.wanted) (get_or (map (path_at (map tree_of l.files)) l.paths) k d) ≡ Greater;
  behind : (k : ℕ) (d : List ℕ) → l.high ≤ k → k < length (map (path_at (map tree_of l.files)) l.paths) → path_cmp l.names (path_at (map tree_of l.files) l.wanted) (get_or (map (path_at (map tree_of l.files)) l.paths) k d) ≡ Less;
}

abbrev pub decreases-loop-low : goal.decreases-loop-low
decreases-loop-low l = l.high - l.low
