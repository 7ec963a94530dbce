use Rattle.std.proofs.Common.{◌≡◌, List, true, ap, ◌∙◌}
use Rattle.sg_base.specs.declared.scope.Scope.{Scope}
use Rattle.sg_base.specs.Graph.{Edge}
use Rattle.sg_base.proofs.Rows.{on_err}
use Rattle.sg_state.specs.declared.part.Part.TheVariants.{Rest}
use Rattle.sg_state.specs.Part.{rest_in}
use Rattle.sg_state.specs.Place.{PlaceOf}
use Rattle.sg_state.specs.View.{EdgeAt, seen}
use Rattle.sg_state.proofs.InParts.{rest_same, rest_more, none_in, parts_kept, undone}
use Rattle.sg_state.proofs.Keeping.{held_from}
use Rattle.sg_state.proofs.Resting.{edge_again}
use Rattle.sg_state.proofs.Views.{edge_to, hold_from, key_from}
use Rattle.sg_state.proofs.Writing.{edge_written, edge_kept, edge_parts}
use Rattle.sg_state.proofs.held.Held.add_edge.Goals as goal

pub returns-then-has_target-clause-ok : goal.returns-then-has_target-clause-ok
returns-then-has_target-clause-ok g c =
    let es = c.self.inside.places.entries in
    let made = c.self.inside.made.items in
    let ps = c.self.inside.parts.entries in
    let held = held_from es made c.self.inside.lists.entries c.self.invariant.0 _ ps c.self.invariant.1 in
    let there = edge_to es c.args.from c.number-label.result c.args.to (c.has_target.ensures.0 c.if-has_target.true) in
    rw (← c.self.view_is, ← c.number-label.ensures.value) (edge_again (seen es made (rest_in ps)) c.args.from c.number-label.result c.args.to held there)

pub returns-then-has_target-clause-sound : goal.returns-then-has_target-clause-sound
returns-then-has_target-clause-sound g c = rw (← c.self.view_is) (held_from c.self.inside.places.entries c.self.inside.made.items c.self.inside.lists.entries c.self.invariant.0 _ c.self.inside.parts.entries c.self.invariant.1)

pub invariant_of-self : goal.invariant_of-self
invariant_of-self g c = (c.self.invariant.0, parts_kept _ c.self.inside.places.entries c.self.inside.parts.entries c.self.invariant.1 c.put.new.self.entries c.in_err-put.ensures.err)

pub returns-in_err-put-clause-sound : goal.returns-in_err-put-clause-sound
returns-in_err-put-clause-sound g c =
    let kept = invariant_of-self g c in
    held_from c.self.inside.places.entries c.self.inside.made.items c.self.inside.lists.entries kept.0 _ c.put.new.self.entries kept.1

pub returns-in_err-put-clause-err : goal.returns-in_err-put-clause-err
returns-in_err-put-clause-err g c =
    let same = rest_same c.self.inside.parts.entries c.put.new.self.entries (λ s l t. c.in_err-put.ensures.err (Rest s l) t) in
    on_err c.from_residual.result (ap (λ (r : List Edge). seen c.self.inside.places.entries c.self.inside.made.items r) same ∙ c.self.view_is)

pub add_target-requires-clause-there : goal.add_target-requires-clause-there
add_target-requires-clause-there g c =
    let holds = rw (← c.self.view_is) at c.requires.holds in
    let h = hold_from c.self.inside.places.entries c.args.from c.args.l c.args.unit holds in
    rw c.number-label.ensures.value (h.0, h.1, ((h.2).0, (h.2).1))

pub invariant_of-self-in-Ok : goal.invariant_of-self-in-Ok
invariant_of-self-in-Ok g c =
    let target = rw (← c.self.view_is) at c.requires.target in
    let es = c.self.inside.places.entries in
    let new = c.add_target.new.self.entries in
    let made = c.self.inside.made.items in
    let ps = c.self.inside.parts.entries in
    let places = (c.self.invariant.0).places in
    let l = c.number-label.result in
    let none : EdgeAt es c.args.from l c.args.to → ⊥ = λ e. (let f = c.if-has_target.false in let t : c.has_target.result ≡ true = c.has_target.ensures.1 e in cc) in (
      edge_kept es new made c.args.from places c.self.inside.lists.entries c.self.invariant.0 l c.args.to (key_from es c.args.to target) c.in-Ok.ensures.ok,
      edge_parts es new made c.args.from places _ ps c.self.invariant.1 l c.args.to c.in-Ok.ensures.ok none c.part_of-part.result c.put.new.self.entries c.part_of-part.ensures c.in_ok-put.ensures.ok,
    )

pub invariant_of-self-in-Err : goal.invariant_of-self-in-Err
invariant_of-self-in-Err g c =
    let es = c.self.inside.places.entries in
    let ps = c.self.inside.parts.entries in
    let l = c.number-label.result in
    let none : EdgeAt es c.args.from l c.args.to → ⊥ = λ e. (let f = c.if-has_target.false in let t : c.has_target.result ≡ true = c.has_target.ensures.1 e in cc) in
    let same = undone ps c.take.new.self.entries c.put.new.self.entries c.part_of-part.result c.args.to c.in_ok-put.ensures.ok c.take.ensures (none_in _ es ps c.self.invariant.1 c.args.from l c.args.to c.part_of-part.result c.part_of-part.ensures none) in
    rw c.in-Err.ensures.err (c.self.invariant.0, parts_kept _ es ps c.self.invariant.1 c.take.new.self.entries same)

pub returns-in-Ok-clause-ok : goal.returns-in-Ok-clause-ok
returns-in-Ok-clause-ok g c =
    let es = c.self.inside.places.entries in
    let new = c.add_target.new.self.entries in
    let made = c.self.inside.made.items in
    let ps = c.self.inside.parts.entries in
    let qs = c.put.new.self.entries in
    let l = c.number-label.result in
    let more = rest_more _ es ps c.self.invariant.1 c.args.from l c.args.to made c.part_of-part.result qs c.part_of-part.ensures c.in_ok-put.ensures.ok in
    rw (← c.self.view_is, ← c.number-label.ensures.value) (edge_written es new made c.args.from (c.self.invariant.0).places l c.args.to c.in-Ok.ensures.ok (rest_in ps) (rest_in qs) more)

pub returns-in-Ok-clause-sound : goal.returns-in-Ok-clause-sound
returns-in-Ok-clause-sound g c =
    let kept = invariant_of-self-in-Ok g c in
    held_from c.add_target.new.self.entries c.self.inside.made.items c.self.inside.lists.entries kept.0 _ c.put.new.self.entries kept.1

pub returns-in-Err-clause-sound : goal.returns-in-Err-clause-sound
returns-in-Err-clause-sound g c =
    let kept = invariant_of-self-in-Err g c in
    held_from c.add_target.new.self.entries c.self.inside.made.items c.self.inside.lists.entries kept.0 _ c.take.new.self.entries kept.1

pub returns-in-Err-clause-err : goal.returns-in-Err-clause-err
returns-in-Err-clause-err g c =
    let es = c.self.inside.places.entries in
    let made = c.self.inside.made.items in
    let ps = c.self.inside.parts.entries in
    let l = c.number-label.result in
    let none : EdgeAt es c.args.from l c.args.to → ⊥ = λ e. (let f = c.if-has_target.false in let t : c.has_target.result ≡ true = c.has_target.ensures.1 e in cc) in
    let same = undone ps c.take.new.self.entries c.put.new.self.entries c.part_of-part.result c.args.to c.in_ok-put.ensures.ok c.take.ensures (none_in _ es ps c.self.invariant.1 c.args.from l c.args.to c.part_of-part.result c.part_of-part.ensures none) in
    ap (λ (x : List (Scope × PlaceOf _)). seen x made (rest_in c.take.new.self.entries)) c.in-Err.ensures.err
    ∙ (ap (λ (r : List Edge). seen es made r) (rest_same ps c.take.new.self.entries (λ s l t. same (Rest s l) t)) ∙ c.self.view_is)
