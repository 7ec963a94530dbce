use Rattle.std.proofs.Common.{[], ◌+◌, map, take}
use Rattle.sg_state.specs.Held.{RowHold}
use Rattle.sg_state.specs.Opening.{row_hold_of}
use Rattle.sg_state.proofs.Giving.{gives_row, here_still, next_more, next_in, noted_more}
use Rattle.sg_state.proofs.opened.add_row_holds.Goals as goal

pub put_holder-requires-clause-there : goal.put_holder-requires-clause-there
put_holder-requires-clause-there g c =
    let x = c.loop-unit-item.result in
    let done = map row_hold_of (take c.loop-unit.unit-index c.args.list.now) in
    let there = c.requires.there (row_hold_of x) (next_in c.args.list.now c.loop-unit.unit-index x c.loop-unit-item.is c.loop-unit-test.true row_hold_of) in
    here_still c.args.places.now.entries c.loop-unit.places.entries [] [] done [] [] x.1 c.loop-unit.invariant.0 there.0

pub loop-unit-preserved : goal.loop-unit-preserved
loop-unit-preserved g c =
    let x = c.loop-unit-item.result in
    let list = c.args.list.now in
    let done = map row_hold_of (take c.loop-unit.unit-index list) in
    let more = map row_hold_of (take (c.loop-unit.unit-index + 1) list) in
    let next = next_more list c.loop-unit.unit-index x c.loop-unit-item.is c.loop-unit-test.true row_hold_of in (
      gives_row c.args.places.now.entries c.loop-unit.places.entries c.put_holder.new.self.entries [] done [] [] x.1 c.loop-unit.invariant.0 x.2 x.0 more next (rw c.number.ensures.value at c.in_ok-put_holder.ensures.ok),
      noted_more (λ (k : RowHold). k.unit) (λ (k : RowHold). k.scope) done more (row_hold_of x) next c.loop-unit.units.entries c.note.new.lists.entries c.in_ok-note.ensures.kept c.in_ok-note.ensures.ok c.loop-unit.invariant.1,
      (λ u s h. c.in_ok-note.ensures.kept u s (c.loop-unit.invariant.2 u s h)),
      c.in_ok-note.ensures.rising,
    )
