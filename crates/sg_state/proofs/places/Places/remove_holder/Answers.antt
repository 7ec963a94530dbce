use Rattle.std.proofs.Common.{Some, None, refl, sym}
use Rattle.sg_state.specs.Place.{LosesHolder}
use Rattle.sg_state.proofs.Changing.{place_ok, key_found}
use Rattle.sg_state.proofs.InOrder.{place_here, place_changes, kept_by_place}
use Rattle.sg_state.proofs.places.Places.remove_holder.Goals as goal

pub remove_holder-requires : goal.remove_holder-requires
remove_holder-requires g c =
    let here = place_here c.self.inside.found.all.items c.self.invariant.0 c.args.self.now c.self.view_is c.args.s (Some (c.index_mut.result.now).1) (sym (c.in-Some.ensures.found.found c.index_mut.result.now c.index_mut.ensures.value)) in
    record { place = place_ok c.args.self.now.entries c.args.s c.requires.places (c.index_mut.result.now).1 here }

pub invariant_of-self : goal.invariant_of-self
invariant_of-self g c = rw (c.in-Some.ensures.found.written c.index_mut.result.now c.remove_holder.new.self c.index_mut.ensures.value) (kept_by_place c.self.inside.found.all.items c.self.invariant.0 c.args.self.now c.self.view_is c.args.s c.self.inside.found.index c.remove_holder.new.self c.self.invariant.1)

pub returns-in-Some : goal.returns-in-Some
returns-in-Some g c =
    rw (c.in-Some.ensures.found.written c.index_mut.result.now c.remove_holder.new.self c.index_mut.ensures.value) (place_changes c.self.inside.found.all.items c.self.invariant.0 c.args.self.now c.self.view_is c.args.s (c.index_mut.result.now).1 c.remove_holder.new.self (sym (c.in-Some.ensures.found.found c.index_mut.result.now c.index_mut.ensures.value)) _ refl (λ p q. LosesHolder p q c.args.label c.args.unit) c.remove_holder.ensures.gone c.remove_holder.ensures.place)

pub returns-in-None : goal.returns-in-None
returns-in-None g c = absurd (key_found c.args.self.now.entries c.args.s c.requires.there (place_here c.self.inside.found.all.items c.self.invariant.0 c.args.self.now c.self.view_is c.args.s None (sym c.in-None.ensures.none)))
