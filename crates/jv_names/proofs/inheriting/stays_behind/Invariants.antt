use Rattle.std.proofs.Common.{◌≡◌, ◌≤◌, length, take}
use Rattle.jv_names.specs.Inherited.{lies_in}
use Rattle.jv_names.proofs.inheriting.stays_behind.Given as goal

abbrev pub invariant-loop-at : goal.invariant-loop-at
invariant-loop-at l = record {
  start : l.at.start ≡ l.path.start;
  same : lies_in l.l l.home l.path.start l.path.steps ≡ lies_in l.l l.home l.at.start l.at.steps;
  within : l.known ≤ length l.at.steps;
  front : take l.known l.at.steps ≡ take l.known l.path.steps;
}

abbrev pub decreases-loop-at : goal.decreases-loop-at
decreases-loop-at l = length l.at.steps
