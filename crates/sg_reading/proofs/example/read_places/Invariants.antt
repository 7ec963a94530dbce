use Rattle.std.proofs.Common.{ℕ, List, Option, Result, drop}
use Rattle.sg_reading.specs.declared.example.Query.{Query}
use Rattle.sg_reading.specs.declared.stop.Stop.{Stop}
use Rattle.sg_reading.specs.Example.{reply_to, declared_in}
use Rattle.sg_reading.specs.Reading.{each}
use Rattle.sg_reading.specs.Stop.{Reads}
use Rattle.sg_reading.proofs.Lists.{each_after}
use Rattle.sg_reading.proofs.example.read_places.Given as goal

-- what the rule comes to for the rest of the blocks, after the places so far, it comes to for all of them
abbrev pub invariant-loop-block : goal.invariant-loop-block
invariant-loop-block l =
    (x : Result (List (Option ℕ)) (Stop Query)) → Reads (reply_to l.replies) (each_after (declared_in l.name) l.places (drop l.block-index l.blocks)) x → Reads (reply_to l.replies) (each (declared_in l.name) l.blocks) x
