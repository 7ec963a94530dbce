use Rattle.std.proofs.Common.{◌≡◌, ◌-◌, ◌≤◌, drop, length}
use Rattle.jv_names.specs.Ends.{counted_ends}
use Rattle.jv_names.specs.Known.{AreKnown}
use Rattle.jv_names.proofs.counted_ends.CountedEnds.next.Given as goal

abbrev pub invariant-loop-self : goal.invariant-loop-self
invariant-loop-self l = record {
  within : l.self-inside.at ≤ length l.self-inside.paths.now;
  known : AreKnown l.self-inside.layout.now l.self-inside.paths.now l.self-inside.known;
  same : l.fn.self ≡ counted_ends l.self-inside.layout.now l.self-inside.counts (drop l.self-inside.at l.self-inside.paths.now);
}

abbrev pub decreases-loop-self : goal.decreases-loop-self
decreases-loop-self l = length l.self-inside.paths.now - l.self-inside.at
