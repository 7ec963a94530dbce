use Rattle.std.proofs.Common.{◌≡◌, ◌++◌, length}
use Rattle.jv_names.specs.declared.counts.Counts.TheVariants.{Supertypes}
use Rattle.jv_names.specs.Ends.{counted_ends}
use Rattle.jv_names.proofs.supers.path_supers.Given as goal

abbrev pub invariant-loop-end : goal.invariant-loop-end
invariant-loop-end l = l.supers ++ l.ends ≡ counted_ends l.l Supertypes l.paths

abbrev pub decreases-loop-end : goal.decreases-loop-end
decreases-loop-end l = length l.ends
