use Rattle.std.proofs.Common.{◌≡◌, ◌<◌, ◌≤◌, length, map, take, refl, ap, ◌∙◌, Vec, Global, arith}
use Rattle.sc_listing.proofs.OwnEntries.{Held, as_many, entries_in, put_entry, skip_more}
use Rattle.sc_listing.proofs.by_unit.by_unit.Goals as goal
use Rattle.sc_listing.proofs.by_unit.by_unit.Goals.{then-unit-len+in_ok-push, else-unit-len}

pub loop-entry-preserved : goal.loop-entry-preserved
loop-entry-preserved c =
    let lists = c.loop-entry.lists.items in
    let log = c.args.log.now in
    let i = c.loop-entry.entry-index in
    let long : length lists ≡ c.args.count = as_many entries_in lists c.args.count (take i log) c.loop-entry.invariant in
    elim c.if-unit-len.branch [
      | then-unit-len+in_ok-push w ↦ (
          let small : c.entry-item.result.unit < c.args.count = omega (arith, w.if-unit-len.true, c.len.ensures, c.loop-entry.lists.ok.0, long) in
          ap (λ (v : Vec Held Global). map entries_in v.items) w.lists-is
          ∙ put_entry log i _ c.loop-entry-test.true c.entry-item.is c.args.count lists c.loop-entry.invariant c.entry-item.result.unit w.index_mut.result.now w.push.new.self refl small w.index_mut.ensures.value w.in_ok-push.ensures.items
          )
      | else-unit-len w ↦ (
          let large : c.args.count ≤ c.entry-item.result.unit = omega (arith, w.if-unit-len.false, c.len.ensures, c.loop-entry.lists.ok.0, long) in
          ap (λ (v : Vec Held Global). map entries_in v.items) w.lists-is
          ∙ skip_more log i c.entry-item.result c.loop-entry-test.true c.entry-item.is c.args.count (map entries_in lists) c.loop-entry.invariant large
          )
    ]
