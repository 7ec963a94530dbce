use Rattle.std.proofs.Common.{Bool, Result, drop}
use Rattle.sg_reading.specs.Stop.{Reads}
use Rattle.jv_names.specs.Chosen.{fits_all}
use Rattle.jv_names.specs.Replies.{reply_to}
use Rattle.jv_names.proofs.ChosenSteps.{Need}
use Rattle.jv_names.proofs.chosen.read_fits_all.Given as goal

-- what the rule comes to for the rest of the types, it comes to for all of them
abbrev pub invariant-loop-to : goal.invariant-loop-to
invariant-loop-to l =
    (x : Result Bool Need) → Reads (reply_to l.o) (fits_all l.l l.from (drop l.to-index l.all)) x → Reads (reply_to l.o) (fits_all l.l l.from l.all) x
