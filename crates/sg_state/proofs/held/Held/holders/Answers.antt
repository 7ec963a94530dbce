use Rattle.sg_base.proofs.Finite.{nothing_in}
use Rattle.sg_state.proofs.Finding.{holders_exact}
use Rattle.sg_state.proofs.Keeping.{held_from}
use Rattle.sg_state.proofs.Views.{hold_from, hold_to}
use Rattle.sg_state.proofs.held.Held.holders.Goals as goal

pub returns-in-Some-clause-exact : goal.returns-in-Some-clause-exact
returns-in-Some-clause-exact g c = λ u.
    let es = c.self.inside.places.entries in
    let k = holders_exact es c.args.s c.number-label.result (c.self.invariant.0).places c.in-Some.row.now c.in-Some.ensures.found u in
    rw (← c.self.view_is, c.as_slice.ensures.all, ← c.number-label.ensures.value) ((λ h. hold_to es c.args.s c.number-label.result u (k.0 h)), (λ h. k.1 (hold_from es c.args.s c.number-label.result u h)))

pub returns-in-None-clause-exact : goal.returns-in-None-clause-exact
returns-in-None-clause-exact g c = λ u.
    let es = c.self.inside.places.entries in
    rw (← c.self.view_is, ← c.number-label.ensures.value) ((λ h. absurd (nothing_in u h)), (λ e. let h = hold_from es c.args.s c.number-label.result u e in absurd (c.in-None.ensures.none (c.self.invariant.0).places (h.0, h.1, ((h.2).0, (h.2).1)))))

pub returns-in-Some-clause-sound : goal.returns-in-Some-clause-sound
returns-in-Some-clause-sound g c = rw (← c.self.view_is) (held_from c.self.inside.places.entries c.self.inside.made.items c.self.inside.lists.entries c.self.invariant.0 _ c.self.inside.parts.entries c.self.invariant.1)

pub returns-in-None-clause-sound : goal.returns-in-None-clause-sound
returns-in-None-clause-sound g c = rw (← c.self.view_is) (held_from c.self.inside.places.entries c.self.inside.made.items c.self.inside.lists.entries c.self.invariant.0 _ c.self.inside.parts.entries c.self.invariant.1)
