use Rattle.std.proofs.Common.{sym, ◌∙◌}
use Rattle.sg_base.proofs.Rising.{rising_from_sorted}
use Rattle.sg_waits.specs.Listing.{listing_cmp}
use Rattle.sg_waits.proofs.Listed.{listed_one, one_stays}
use Rattle.sg_waits.proofs.listings.add_one.Goals as goal

pub returns-in-Ok-clause-ok : goal.returns-in-Ok-clause-ok
returns-in-Ok-clause-ok c = rw c.in-Ok.ensures.keys (listed_one c.args.listings.now.keys (record { need = c.args.need; unit = c.args.unit }))

pub returns-in-Ok-clause-rising : goal.returns-in-Ok-clause-rising
returns-in-Ok-clause-rising c = rising_from_sorted listing_cmp c.insert.new.self.keys c.in-Ok.ensures.ordered

pub returns-then-is_ok-clause-ok : goal.returns-then-is_ok-clause-ok
returns-then-is_ok-clause-ok c = one_stays c.args.listings.now.keys c.args.need c.args.unit c.args.listed.now c.requires.listed_rise c.binary_search.result c.binary_search.ensures.bound c.binary_search.ensures.position c.requires.there (sym c.is_ok.ensures.value ∙ c.if-is_ok.true)
