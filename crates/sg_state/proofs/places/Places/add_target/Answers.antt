use Rattle.std.proofs.Common.{Some, None, refl, sym}
use Rattle.sg_state.specs.Place.{AddsTarget}
use Rattle.sg_state.proofs.Changing.{place_ok, row_here, row_found_at}
use Rattle.sg_state.proofs.InOrder.{place_here, place_changes, kept_by_place}
use Rattle.sg_state.proofs.places.Places.add_target.Goals as goal

pub add_target-requires-clause-there : goal.add_target-requires-clause-there
add_target-requires-clause-there g c =
    let here = place_here c.self.inside.found.all.items c.self.invariant.0 c.args.self.now c.self.view_is c.args.s (Some (c.index_mut.result.now).1) (sym (c.in-Some.ensures.found.found c.index_mut.result.now c.index_mut.ensures.value)) in
    row_here c.args.self.now.entries c.args.s c.requires.places c.args.label (c.index_mut.result.now).1 c.requires.there here

pub add_target-requires-clause-place : goal.add_target-requires-clause-place
add_target-requires-clause-place g c =
    let here = place_here c.self.inside.found.all.items c.self.invariant.0 c.args.self.now c.self.view_is c.args.s (Some (c.index_mut.result.now).1) (sym (c.in-Some.ensures.found.found c.index_mut.result.now c.index_mut.ensures.value)) in
    place_ok c.args.self.now.entries c.args.s c.requires.places (c.index_mut.result.now).1 here

pub invariant_of-self : goal.invariant_of-self
invariant_of-self g c = rw (c.in-Some.ensures.found.written c.index_mut.result.now c.add_target.new.self c.index_mut.ensures.value) (kept_by_place c.self.inside.found.all.items c.self.invariant.0 c.args.self.now c.self.view_is c.args.s c.self.inside.found.index c.add_target.new.self c.self.invariant.1)

pub invariant_of-self-in-Some : goal.invariant_of-self-in-Some
invariant_of-self-in-Some g c = rw (c.in-Some.ensures.found.written c.index_mut.result.now c.add_target.new.self c.index_mut.ensures.value) (kept_by_place c.self.inside.found.all.items c.self.invariant.0 c.args.self.now c.self.view_is c.args.s c.self.inside.found.index c.add_target.new.self c.self.invariant.1)

pub returns-in_ok-add_target-in-Some-clause-ok : goal.returns-in_ok-add_target-in-Some-clause-ok
returns-in_ok-add_target-in-Some-clause-ok g c =
    rw (c.in-Some.ensures.found.written c.index_mut.result.now c.add_target.new.self c.index_mut.ensures.value) (place_changes c.self.inside.found.all.items c.self.invariant.0 c.args.self.now c.self.view_is c.args.s (c.index_mut.result.now).1 c.add_target.new.self (sym (c.in-Some.ensures.found.found c.index_mut.result.now c.index_mut.ensures.value)) _ refl (λ p q. AddsTarget p q c.args.label c.args.to) c.in_ok-add_target-in-Some.ensures.ok c.in_ok-add_target-in-Some.ensures.place)

pub returns-in-None-clause-ok : goal.returns-in-None-clause-ok
returns-in-None-clause-ok g c = absurd (row_found_at c.args.self.now.entries c.args.s c.args.label c.requires.there (place_here c.self.inside.found.all.items c.self.invariant.0 c.args.self.now c.self.view_is c.args.s None (sym c.in-None.ensures.none)))
