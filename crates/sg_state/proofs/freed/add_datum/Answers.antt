use Rattle.std.proofs.Common.{◌∙◌, sym, ap}
use Rattle.sg_state.specs.Slot.{waits_for}
use Rattle.sg_state.proofs.FreeNeeds.{datum_added}
use Rattle.sg_state.proofs.freed.add_datum.Goals as goal

pub returns-in_ok-push : goal.returns-in_ok-push
returns-in_ok-push g c =
    let waits = ap (λ x. waits_for x c.args.unit) (sym c.slot.ensures) ∙ sym c.waits_for.ensures ∙ c.if-waits_for.true in
    record { ok = rw c.in_ok-push.ensures.items (datum_added c.args.place.now c.args.unit c.args.s c.args.needs.now.items c.requires.rising c.requires.before waits) }
