use Rattle.std.proofs.Common.{List, inl, subst, arith}
use Rattle.std.proofs.lemmas.List.{take_all}
use Rattle.sg_state.specs.declared.need.Need.{Need}
use Rattle.sg_waits.specs.Listing.{AddsNeeds}
use Rattle.sg_waits.proofs.Listed.{adds_more, adds_part, adds_some}
use Rattle.sg_waits.proofs.listings.add.Goals as goal

pub add_one-requires : goal.add_one-requires
add_one-requires c = record {
  rising = c.loop-need.invariant.1;
  listed_rise = c.requires.listed_rise;
  there = λ k. (c.loop-need.invariant.0 (record { need = c.need-item.result; unit = c.args.unit })).1 (inl (c.requires.there c.need-item.result k));
}

pub loop-need-preserved : goal.loop-need-preserved
loop-need-preserved c = (
  adds_more c.args.listings.now.keys c.loop-need.listings.keys c.add_one.new.listings.keys c.args.needs.now c.loop-need.need-index c.need-item.result c.args.unit c.loop-need-test.true c.need-item.is c.loop-need.invariant.0 c.in-Ok.ensures.ok,
  c.add_one.ensures.rising,
)

pub returns-in-Err-clause-some : goal.returns-in-Err-clause-some
returns-in-Err-clause-some c = rw c.in-Err.ensures.err (adds_part c.args.listings.now.keys c.loop-need.listings.keys c.args.needs.now c.loop-need.need-index c.args.unit c.loop-need.invariant.0)

pub returns-in-Err-clause-rising : goal.returns-in-Err-clause-rising
returns-in-Err-clause-rising c = c.add_one.ensures.rising

pub returns-clause-ok : goal.returns-clause-ok
returns-clause-ok c =
    subst (λ (ns : List Need). AddsNeeds c.args.listings.now.keys c.loop-need.listings.keys ns c.args.unit) (take_all c.loop-need.need-index c.args.needs.now (omega arith)) c.loop-need.invariant.0

pub returns-clause-some : goal.returns-clause-some
returns-clause-some c = adds_some c.args.listings.now.keys c.loop-need.listings.keys c.args.needs.now c.args.unit (returns-clause-ok c)
