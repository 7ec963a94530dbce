use Rattle.std.proofs.Common.{Result, length}
use Rattle.sg_base.specs.declared.scope.Scope.{Scope}
use Rattle.sg_reading.specs.Stop.{Reads}
use Rattle.jv_names.specs.Chosen.{first_fitting}
use Rattle.jv_names.specs.Replies.{reply_to}
use Rattle.jv_names.proofs.ChosenSteps.{Need}
use Rattle.jv_names.proofs.chosen.read_first_fitting.Given as goal

-- what the rule comes to for the rest of the methods, it comes to for all of them
abbrev pub invariant-loop-method : goal.invariant-loop-method
invariant-loop-method l =
    (x : Result Scope Need) → Reads (reply_to l.o) (first_fitting l.l l.all l.first l.rest l.left) x → Reads (reply_to l.o) (first_fitting l.l l.all l.first l.fn.methods l.fn.results) x

abbrev pub decreases-loop-method : goal.decreases-loop-method
decreases-loop-method l = length l.rest
