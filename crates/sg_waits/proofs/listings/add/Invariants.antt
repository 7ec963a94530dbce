use Rattle.std.proofs.Common.{take}
use Rattle.sg_base.specs.List.{IsRising}
use Rattle.sg_waits.specs.Listing.{listing_cmp, AddsNeeds}
use Rattle.sg_waits.proofs.listings.add.Given as goal

abbrev pub invariant-loop-need : goal.invariant-loop-need
invariant-loop-need l = AddsNeeds l.initial.listings.keys l.listings.keys (take l.need-index l.needs) l.unit × IsRising listing_cmp l.listings.keys
