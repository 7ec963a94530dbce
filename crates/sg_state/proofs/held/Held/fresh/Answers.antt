use Rattle.sg_state.specs.Part.{rest_in}
use Rattle.std.proofs.lemmas.List.{get_or_read}
use Rattle.sg_state.proofs.Freshening.{absent, relisted, scope_made, grown_kept, grown_parts}
use Rattle.sg_state.proofs.Keeping.{held_from}
use Rattle.sg_state.proofs.held.Held.fresh.Goals as goal

pub returns-in_err-place-clause-sound : goal.returns-in_err-place-clause-sound
returns-in_err-place-clause-sound g c = rw (← c.self.view_is) (held_from c.self.inside.places.entries c.self.inside.made.items c.self.inside.lists.entries c.self.invariant.0 _ c.self.inside.parts.entries c.self.invariant.1)

pub invariant_of-self : goal.invariant_of-self
invariant_of-self g c = (relisted c.self.inside.places.entries c.self.inside.made.items c.self.inside.lists.entries c.note.new.lists.entries c.self.invariant.0 c.in_err-note.ensures.kept c.in_err-note.ensures.rising, c.self.invariant.1)

pub returns-in_err-note-clause-sound : goal.returns-in_err-note-clause-sound
returns-in_err-note-clause-sound g c =
    let kept = invariant_of-self g c in
    held_from c.self.inside.places.entries c.self.inside.made.items c.note.new.lists.entries kept.0 _ c.self.inside.parts.entries kept.1

pub invariant_of-self-in_err-insert : goal.invariant_of-self-in_err-insert
invariant_of-self-in_err-insert g c = rw c.in_err-insert.ensures.err (
  relisted c.self.inside.places.entries c.self.inside.made.items c.self.inside.lists.entries c.note.new.lists.entries c.self.invariant.0 c.in_ok-note.ensures.kept c.in_ok-note.ensures.rising,
  c.self.invariant.1,
)

pub returns-in_err-insert-clause-sound : goal.returns-in_err-insert-clause-sound
returns-in_err-insert-clause-sound g c =
    let kept = invariant_of-self-in_err-insert g c in
    held_from c.insert.new.self.entries c.self.inside.made.items c.note.new.lists.entries kept.0 _ c.self.inside.parts.entries kept.1

pub insert-requires : goal.insert-requires
insert-requires g c =
    let made = c.self.inside.made.items in
    let lt = rw (← c.self.view_is) at c.requires.unit in
    let next = get_or_read made c.args.unit c.index-serial.result.now lt c.index-serial.ensures 0 in
    record { new = λ h. absent c.self.inside.places.entries made c.self.inside.lists.entries c.self.invariant.0 c.args.unit c.args.labels c.args.datum c.index-serial.result.now next lt c.in_ok-place.place c.in_ok-place.ensures h.0 h.1 }

pub invariant_of-self-2 : goal.invariant_of-self-2
invariant_of-self-2 g c =
    let made = c.self.inside.made.items in
    let lt = rw (← c.self.view_is) at c.requires.unit in
    let next = get_or_read made c.args.unit c.index-serial.result.now lt c.index-serial.ensures 0 in
    let up = rw c.in_ok-insert.ensures.entries at c.in_ok-insert.ensures.ordered in
    rw c.in_ok-insert.ensures.entries (
      grown_kept c.self.inside.places.entries made c.self.inside.lists.entries c.self.invariant.0 c.args.unit c.args.labels c.args.datum c.index-serial.result.now next lt c.in_ok-place.place c.in_ok-place.ensures up c.note.new.lists.entries c.in_ok-note.ensures.kept c.in_ok-note.ensures.rising c.in_ok-note.ensures.ok,
      grown_parts c.self.inside.places.entries made c.self.inside.lists.entries c.self.invariant.0 c.args.unit c.args.labels c.args.datum c.index-serial.result.now next lt c.in_ok-place.place c.in_ok-place.ensures up _ c.self.inside.parts.entries c.self.invariant.1,
    )

pub returns-clause-ok : goal.returns-clause-ok
returns-clause-ok g c =
    let made = c.self.inside.made.items in
    let lt = rw (← c.self.view_is) at c.requires.unit in
    let next = get_or_read made c.args.unit c.index-serial.result.now lt c.index-serial.ensures 0 in
    let up = rw c.in_ok-insert.ensures.entries at c.in_ok-insert.ensures.ordered in
    rw (c.in_ok-insert.ensures.entries, ← c.self.view_is) (scope_made c.self.inside.places.entries made c.self.inside.lists.entries c.self.invariant.0 c.args.unit c.args.labels c.args.datum c.index-serial.result.now next lt c.in_ok-place.place c.in_ok-place.ensures up (rest_in c.self.inside.parts.entries))

pub returns-clause-sound : goal.returns-clause-sound
returns-clause-sound g c =
    let kept = invariant_of-self-2 g c in
    held_from c.insert.new.self.entries _ c.note.new.lists.entries kept.0 _ c.self.inside.parts.entries kept.1
