use Rattle.std.proofs.Common.{sym, ◌∙◌}
use Rattle.sg_base.proofs.Rising.{rising_from_sorted}
use Rattle.sg_waits.specs.Listing.{listing_cmp}
use Rattle.sg_waits.proofs.Listed.{one_taken, one_left, was_err, was_ok}
use Rattle.sg_waits.proofs.listings.take_one.Goals as goal

pub returns-then-is_err-clause-left : goal.returns-then-is_err-clause-left
returns-then-is_err-clause-left c = rw c.remove.ensures.keys (one_taken c.args.listings.now.keys c.args.need c.args.unit c.args.keep.now c.requires.kept c.binary_search.result c.binary_search.ensures.bound c.binary_search.ensures.position c.requires.rising (was_err c.binary_search.result (sym c.is_err.ensures.value ∙ c.if-is_err.true)))

pub returns-then-is_err-clause-rising : goal.returns-then-is_err-clause-rising
returns-then-is_err-clause-rising c = rising_from_sorted listing_cmp c.remove.new.self.keys c.remove.ensures.ordered

pub returns-else-is_err-clause-left : goal.returns-else-is_err-clause-left
returns-else-is_err-clause-left c = one_left c.args.listings.now.keys c.args.need c.args.unit c.args.keep.now c.requires.kept c.binary_search.result c.binary_search.ensures.bound c.binary_search.ensures.position (was_ok c.binary_search.result (sym c.is_err.ensures.value ∙ c.if-is_err.false))
