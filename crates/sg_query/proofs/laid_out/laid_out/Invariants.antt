use Rattle.std.proofs.Common.{◌≡◌, ◌++◌}
use Rattle.std.specs.List.{Contains}
use Rattle.std.specs.Vec.Iter.{into_iter_items}
use Rattle.sg_query.specs.declared.found.Found.{Found}
use Rattle.sg_query.proofs.laid_out.laid_out.Given as goal

abbrev pub invariant-loop-found : goal.invariant-loop-found
invariant-loop-found g l = record {
  start : l.tree.start ≡ l.fn.start;
  whole : l.tree.found ++ into_iter_items l.found-iterator ≡ into_iter_items l.initial.found-iterator;
  same : (f : Found g.row.D.Denot) → Contains (into_iter_items l.found-iterator) f → f.path.start ≡ l.fn.start;
}
