use Rattle.std.proofs.Common.{◌≡◌, [], map}
use Rattle.sc_listing.specs.ByUnit.{own_entries}
use Rattle.sc_listing.proofs.by_unit.empty_lists.Given as goal

abbrev pub invariant-loop : goal.invariant-loop
invariant-loop l = map (λ x. map (λ e. e.now) x.items) l.lists.items ≡ own_entries l.counter []
