use Rattle.std.proofs.Common.{◌≡◌, ◌≤◌, length, take}
use Rattle.sg_query.proofs.steps.Steps.go_to.Given as goal

abbrev pub invariant-loop-self : goal.invariant-loop-self
invariant-loop-self l = record {
  within : l.depth ≤ length l.self;
  front : take l.depth l.self ≡ take l.depth l.initial.self;
}

abbrev pub decreases-loop-self : goal.decreases-loop-self
decreases-loop-self l = length l.self
