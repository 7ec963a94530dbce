use Rattle.std.proofs.Common.{◌≡◌, [], map, take}
use Rattle.std.specs.List.{fold}
use Rattle.sg_base.specs.List.{IsRising}
use Rattle.sg_state.specs.Held.{put}
use Rattle.jv_tree.specs.DeclTree.{tree_of}
use Rattle.jv_layout.specs.Folder.{path_cmp}
use Rattle.jv_layout.specs.Paths.{path_at}
use Rattle.jv_layout.proofs.packages.each_once.Given as goal

abbrev pub invariant-loop-p : goal.invariant-loop-p
invariant-loop-p l = record {
  paths : map (path_at (map tree_of l.files)) l.paths.items ≡ fold (put (path_cmp l.names)) [] (map (path_at (map tree_of l.files)) (take l.p-index l.packages));
  rising : IsRising (path_cmp l.names) (map (path_at (map tree_of l.files)) l.paths.items);
}
