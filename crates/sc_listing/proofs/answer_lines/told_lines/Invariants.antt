use Rattle.std.proofs.Common.{map, take}
use Rattle.sg_unit.specs.Trace.{told}
use Rattle.sc_listing.specs.Heard.{Hears}
use Rattle.sc_listing.specs.Listed.{listed_of}
use Rattle.sc_listing.proofs.answer_lines.told_lines.Given as goal

-- what the checker heard by the entries so far
abbrev pub invariant-loop-entry : goal.invariant-loop-entry
invariant-loop-entry l = Hears (listed_of l.w) l.heard (told (map (λ e. e.now) (take l.entry-index l.mine)))
