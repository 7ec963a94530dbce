use Rattle.std.proofs.Common.{◌≡◌, map, take}
use Rattle.sc_listing.specs.ByUnit.{own_entries}
use Rattle.sc_listing.proofs.by_unit.by_unit.Given as goal

abbrev pub invariant-loop-entry : goal.invariant-loop-entry
invariant-loop-entry l = map (λ x. map (λ e. e.now) x.items) l.lists.items ≡ own_entries l.count (take l.entry-index l.log)
