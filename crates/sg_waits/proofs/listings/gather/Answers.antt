use Rattle.std.proofs.Common.{◌∙◌, arith}
use Rattle.std.proofs.lemmas.Map.Iter.{iter_end}
use Rattle.std.specs.Map.Iter.{deref}
use Rattle.sg_waits.proofs.Gathered.{gathers, all_gathered}
use Rattle.sg_waits.proofs.listings.gather.Goals as goal

pub loop-listing-preserved : goal.loop-listing-preserved
loop-listing-preserved c = rw c.in-Ok.ensures.keys (gathers deref (λ k. k.unit) c.args.found.now.keys c.loop-listing.found.keys c.loop-listing.yielded c.in-Some.listing c.loop-listing.invariant)

pub returns : goal.returns
returns c =
    let between = rw (c.new.ensures.start, c.new.ensures.end) at (c.range-listing-items.ensures.between c.new.ensures.exhausted) in
    let whole = iter_end deref c.range-listing-items.result c.loop-listing.yielded c.into_iter-listing-iterator.result c.loop-listing.listing-iterator c.next.new.self c.next.result c.into_iter-listing-iterator.ensures.into_iter_gives c.loop-listing.yielded_by c.in-None.is c.next.ensures.steps in
    record {
      ok = all_gathered c.args.need.now 4294967295 c.args.listings.now.keys (λ k m. omega (arith, c.requires.few k m)) c.args.found.now.keys c.loop-listing.found.keys _ (whole.0 ∙ between) c.loop-listing.invariant;
    }
