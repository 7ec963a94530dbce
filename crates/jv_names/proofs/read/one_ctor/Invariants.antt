use Rattle.std.proofs.Common.{◌≡◌, length}
use Rattle.jv_names.specs.declared.counts.Counts.TheVariants.{Constructors}
use Rattle.jv_names.specs.Ends.{counted_ends}
use Rattle.jv_names.specs.Read.{one_ctor}
use Rattle.jv_names.proofs.ReadSteps.{ctor_from}
use Rattle.jv_names.proofs.read.one_ctor.Given as goal

abbrev pub invariant-loop-end : goal.invariant-loop-end
invariant-loop-end l = one_ctor l.l (counted_ends l.l Constructors l.paths) ≡ ctor_from l.l l.first l.ends

abbrev pub decreases-loop-end : goal.decreases-loop-end
decreases-loop-end l = length l.ends
