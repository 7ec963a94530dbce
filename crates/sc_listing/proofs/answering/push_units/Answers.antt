use Rattle.std.proofs.Common.{string_bytes, refl}
use Rattle.sc_listing.specs.Listed.{listed_of}
use Rattle.sc_listing.proofs.UnitTexts.{unit_step}
use Rattle.sc_listing.proofs.answering.push_units.Goals as goal

pub loop-s-preserved : goal.loop-s-preserved
loop-s-preserved c =
    unit_step (listed_of c.args.w.now) c.args.entries.now c.args.scopes.now c.loop-s.s-index _ _ c.unit_of.result c.index-entries-unit_of.result c.deref.result.now (string_bytes c.args.text.now) (string_bytes c.loop-s.text) (string_bytes c.push_unit.new.text) c.loop-s-test.true refl
    c.unit_of.ensures c.requires c.index-entries-unit_of.is c.deref.ensures.value c.loop-s.invariant c.in_ok-push_unit.ensures
