use Rattle.sg_state.specs.Part.{rest_in}
use Rattle.std.proofs.Common.{ℕ, [], ◌↔◌, true, refl}
use Rattle.std.specs.List.{Contains}
use Rattle.sg_base.proofs.Finite.{nothing_in}
use Rattle.sg_state.specs.Held.{HoldsRow}
use Rattle.sg_state.specs.View.{seen}
use Rattle.sg_state.proofs.Finding.{row_is, targets_exact, holders_exact, closed_is, open_is}
use Rattle.sg_state.proofs.Keeping.{held_from}
use Rattle.sg_state.proofs.Views.{hold_from, hold_to}
use Rattle.sg_state.proofs.held.Held.closed_row.Goals as goal

pub returns-then-is_empty-clause-closed : goal.returns-then-is_empty-clause-closed
returns-then-is_empty-clause-closed g c =
    let es = c.self.inside.places.entries in
    let made = c.self.inside.made.items in
    let l = c.number-label.result in
    let row = c.in-Some.row.now in
    let held = held_from es made c.self.inside.lists.entries c.self.invariant.0 _ c.self.inside.parts.entries c.self.invariant.1 in
    let exact = holders_exact es c.args.s l (c.self.invariant.0).places row c.in-Some.ensures.found in
    let holds : (u : ℕ) → (Contains row.holders u) ↔ (HoldsRow (seen es made (rest_in c.self.inside.parts.entries)) u c.args.s l) = λ u. ((λ h. hold_to es c.args.s l u ((exact u).0 h)), (λ h. (exact u).1 (hold_from es c.args.s l u h))) in
    let shut = (closed_is (seen es made (rest_in c.self.inside.parts.entries)) c.args.s l row.holders c.is_empty.result (rw (← c.as_slice-holders.ensures.all) c.is_empty.ensures) holds).0 c.if-is_empty.true in
    rw (← c.self.view_is, c.as_slice.ensures.all, ← c.number-label.ensures.value) (shut, row_is es made (rest_in c.self.inside.parts.entries) c.args.s l held row.targets c.as_slice.ensures.rising (targets_exact es c.args.s l (c.self.invariant.0).places row c.in-Some.ensures.found))

pub returns-else-is_empty-clause-open : goal.returns-else-is_empty-clause-open
returns-else-is_empty-clause-open g c =
    let es = c.self.inside.places.entries in
    let made = c.self.inside.made.items in
    let l = c.number-label.result in
    let row = c.in-Some.row.now in
    let exact = holders_exact es c.args.s l (c.self.invariant.0).places row c.in-Some.ensures.found in
    let holds : (u : ℕ) → (Contains row.holders u) ↔ (HoldsRow (seen es made (rest_in c.self.inside.parts.entries)) u c.args.s l) = λ u. ((λ h. hold_to es c.args.s l u ((exact u).0 h)), (λ h. (exact u).1 (hold_from es c.args.s l u h))) in
    rw (← c.self.view_is, ← c.number-label.ensures.value) (open_is (seen es made (rest_in c.self.inside.parts.entries)) c.args.s l row.holders c.is_empty.result (rw (← c.as_slice-holders.ensures.all) c.is_empty.ensures) holds c.if-is_empty.false)

pub returns-in-None-clause-closed : goal.returns-in-None-clause-closed
returns-in-None-clause-closed g c =
    let es = c.self.inside.places.entries in
    let made = c.self.inside.made.items in
    let l = c.number-label.result in
    let held = held_from es made c.self.inside.lists.entries c.self.invariant.0 _ c.self.inside.parts.entries c.self.invariant.1 in
    let none = c.in-None.ensures.none (c.self.invariant.0).places in
    let holds : (u : ℕ) → (Contains [] u) ↔ (HoldsRow (seen es made (rest_in c.self.inside.parts.entries)) u c.args.s l) = λ u. ((λ h. absurd (nothing_in u h)), (λ h. let k = hold_from es c.args.s l u h in absurd (none (k.0, k.1, ((k.2).0, (k.2).1))))) in
    rw (← c.self.view_is, ← c.number-label.ensures.value) (
      (closed_is (seen es made (rest_in c.self.inside.parts.entries)) c.args.s l [] true refl holds).0 refl,
      row_is es made (rest_in c.self.inside.parts.entries) c.args.s l held [] tt (λ t. ((λ h. absurd (nothing_in t h)), (λ h. absurd (none (h.0, h.1, ((h.2).0, (h.2).1)))))),
    )

pub returns-then-is_empty-clause-sound : goal.returns-then-is_empty-clause-sound
returns-then-is_empty-clause-sound g c = rw (← c.self.view_is) (held_from c.self.inside.places.entries c.self.inside.made.items c.self.inside.lists.entries c.self.invariant.0 _ c.self.inside.parts.entries c.self.invariant.1)

pub returns-else-is_empty-clause-sound : goal.returns-else-is_empty-clause-sound
returns-else-is_empty-clause-sound g c = rw (← c.self.view_is) (held_from c.self.inside.places.entries c.self.inside.made.items c.self.inside.lists.entries c.self.invariant.0 _ c.self.inside.parts.entries c.self.invariant.1)

pub returns-in-None-clause-sound : goal.returns-in-None-clause-sound
returns-in-None-clause-sound g c = rw (← c.self.view_is) (held_from c.self.inside.places.entries c.self.inside.made.items c.self.inside.lists.entries c.self.invariant.0 _ c.self.inside.parts.entries c.self.invariant.1)
