use Rattle.std.proofs.Common.{◌≡◌, ◌≤◌, length, take}
use Rattle.sg_base.specs.Path.{end_of}
use Rattle.jv_layout.specs.Fits.{fits}
use Rattle.jv_layout.specs.Scopes.{place_of}
use Rattle.jv_layout.proofs.tables.Layout.fits_behind.Given as goal

abbrev pub invariant-loop-at : goal.invariant-loop-at
invariant-loop-at l = record {
  start : l.at.start ≡ l.p.start;
  same : fits l.self l.p ≡ fits l.self l.at;
  ends : l.to ≡ place_of l.self (end_of l.at.start l.at.steps);
  within : l.known ≤ length l.at.steps;
  front : take l.known l.at.steps ≡ take l.known l.p.steps;
}

abbrev pub decreases-loop-at : goal.decreases-loop-at
decreases-loop-at l = length l.at.steps
