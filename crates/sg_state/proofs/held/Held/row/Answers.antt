use Rattle.sg_state.specs.Part.{rest_in}
use Rattle.std.proofs.Common.{[]}
use Rattle.sg_base.proofs.Finite.{nothing_in}
use Rattle.sg_state.proofs.Finding.{row_is, targets_exact}
use Rattle.sg_state.proofs.Keeping.{held_from}
use Rattle.sg_state.proofs.Views.{edge_from, edge_to}
use Rattle.sg_state.proofs.held.Held.row.Goals as goal

pub returns-in-Some-clause-row : goal.returns-in-Some-clause-row
returns-in-Some-clause-row g c =
    let es = c.self.inside.places.entries in
    let held = held_from es c.self.inside.made.items c.self.inside.lists.entries c.self.invariant.0 _ c.self.inside.parts.entries c.self.invariant.1 in
    rw (← c.self.view_is, c.as_slice.ensures.all, ← c.number-label.ensures.value) (row_is es c.self.inside.made.items (rest_in c.self.inside.parts.entries) c.args.s c.number-label.result held c.in-Some.row.now.targets c.as_slice.ensures.rising (targets_exact es c.args.s c.number-label.result (c.self.invariant.0).places c.in-Some.row.now c.in-Some.ensures.found))

pub returns-in-Some-clause-exact : goal.returns-in-Some-clause-exact
returns-in-Some-clause-exact g c = λ t.
    let es = c.self.inside.places.entries in
    let k = targets_exact es c.args.s c.number-label.result (c.self.invariant.0).places c.in-Some.row.now c.in-Some.ensures.found t in
    rw (← c.self.view_is, c.as_slice.ensures.all, ← c.number-label.ensures.value) ((λ h. edge_to es c.args.s c.number-label.result t (k.0 h)), (λ h. k.1 (edge_from es c.args.s c.number-label.result t h)))

pub returns-in-None-clause-row : goal.returns-in-None-clause-row
returns-in-None-clause-row g c =
    let es = c.self.inside.places.entries in
    let held = held_from es c.self.inside.made.items c.self.inside.lists.entries c.self.invariant.0 _ c.self.inside.parts.entries c.self.invariant.1 in
    rw (← c.self.view_is, ← c.number-label.ensures.value) (row_is es c.self.inside.made.items (rest_in c.self.inside.parts.entries) c.args.s c.number-label.result held [] tt
    (λ t. ((λ h. absurd (nothing_in t h)), (λ h. absurd (c.in-None.ensures.none (c.self.invariant.0).places (h.0, h.1, ((h.2).0, (h.2).1)))))))

pub returns-in-None-clause-exact : goal.returns-in-None-clause-exact
returns-in-None-clause-exact g c = λ t.
    let es = c.self.inside.places.entries in
    rw (← c.self.view_is, ← c.number-label.ensures.value) ((λ h. absurd (nothing_in t h)), (λ e. let h = edge_from es c.args.s c.number-label.result t e in absurd (c.in-None.ensures.none (c.self.invariant.0).places (h.0, h.1, ((h.2).0, (h.2).1)))))

pub returns-in-Some-clause-sound : goal.returns-in-Some-clause-sound
returns-in-Some-clause-sound g c = rw (← c.self.view_is) (held_from c.self.inside.places.entries c.self.inside.made.items c.self.inside.lists.entries c.self.invariant.0 _ c.self.inside.parts.entries c.self.invariant.1)

pub returns-in-None-clause-sound : goal.returns-in-None-clause-sound
returns-in-None-clause-sound g c = rw (← c.self.view_is) (held_from c.self.inside.places.entries c.self.inside.made.items c.self.inside.lists.entries c.self.invariant.0 _ c.self.inside.parts.entries c.self.invariant.1)
