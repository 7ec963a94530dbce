use Rattle.std.proofs.Common.{◌≡◌, ◌<◌, ◌++◌, List, length, take}
use Rattle.sg_base.specs.declared.step.Step.{Step}
use Rattle.sg_base.specs.PathTree.{path_at}
use Rattle.sg_query.proofs.found_tree.FoundTree.add.Given as goal

abbrev pub invariant-loop-step : goal.invariant-loop-step
invariant-loop-step g l = record {
  start : l.self-inside.paths.start ≡ l.initial.self-inside.paths.start;
  found : l.self-inside.found.items ≡ l.initial.self-inside.found.items;
  grown : (more : List (List Step)) × (l.self-inside.paths.paths ≡ l.initial.self-inside.paths.paths ++ more);
  there : l.place < length l.self-inside.paths.paths;
  path : path_at l.self-inside.paths.paths l.place ≡ take l.step-index l.steps;
}
