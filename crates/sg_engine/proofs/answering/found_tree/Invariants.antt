use Rattle.std.proofs.Common.{◌≡◌, map, take}
use Rattle.sg_query.specs.Found.{found_in, AreThere}
use Rattle.sg_engine.specs.Laying.{IsLaying}
use Rattle.sg_engine.specs.Tree.{paths_of, found_of}
use Rattle.sg_engine.proofs.answering.found_tree.Given as goal

abbrev pub invariant-loop-f : goal.invariant-loop-f
invariant-loop-f g l = record {
  start : l.paths.start ≡ l.tree.start;
  laid : IsLaying (paths_of l.tree.nodes.items) l.paths.paths l.places.items;
  there : AreThere l.paths l.found.items;
  found : map (found_in l.paths) l.found.items ≡ map (found_of l.tree.start (paths_of l.tree.nodes.items)) (take l.f-index l.tree.found.items);
}
