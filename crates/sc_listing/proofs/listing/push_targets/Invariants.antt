use Rattle.std.proofs.Common.{◌≡◌, ◌++◌, string_bytes, take}
use Rattle.sc_listing.specs.Graph.{target_lines}
use Rattle.sc_listing.specs.Listed.{listed_of}
use Rattle.sc_listing.proofs.listing.push_targets.Given as goal

abbrev pub invariant-loop-target : goal.invariant-loop-target
invariant-loop-target l = string_bytes l.text ≡ string_bytes l.initial.text ++ target_lines (listed_of l.w) l.word (take l.target-index l.targets)
