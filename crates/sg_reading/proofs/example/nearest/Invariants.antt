use Rattle.std.proofs.Common.{ℕ, Option, Result, drop}
use Rattle.sg_reading.specs.declared.example.Query.{Query}
use Rattle.sg_reading.specs.declared.stop.Stop.{Stop}
use Rattle.sg_reading.specs.Example.{reply_to, declared_in}
use Rattle.sg_reading.specs.Reading.{first_found}
use Rattle.sg_reading.specs.Stop.{Reads}
use Rattle.sg_reading.proofs.example.nearest.Given as goal

-- what the rule comes to for the rest of the blocks, it comes to for all of them
abbrev pub invariant-loop-block : goal.invariant-loop-block
invariant-loop-block l =
    (x : Result (Option ℕ) (Stop Query)) → Reads (reply_to l.replies) (first_found (declared_in l.name) (drop l.block-index l.blocks)) x → Reads (reply_to l.replies) (first_found (declared_in l.name) l.blocks) x
