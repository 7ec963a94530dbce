use Rattle.sg_state.proofs.InParts.{no_parts}
use Rattle.sg_state.proofs.Keeping.{none_kept, held_from}
use Rattle.sg_state.proofs.held.Held.new.Goals as goal

pub invariant_of-result : goal.invariant_of-result
invariant_of-result g c = rw (c.new.ensures, c.new-2.ensures.empty, c.new-3.ensures) (none_kept c.in_ok-made.made.items, no_parts _)

pub returns-clause-sound : goal.returns-clause-sound
returns-clause-sound g c =
    let kept = invariant_of-result g c in
    held_from _ _ _ kept.0 _ _ kept.1
