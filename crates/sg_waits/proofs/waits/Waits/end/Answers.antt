use Rattle.std.proofs.Common.{◌≡◌, false, sym, ap, ◌∙◌, true≢false}
use Rattle.sg_waits.specs.Waits.{WaitsOf, is_live, status_at}
use Rattle.sg_waits.proofs.Standing.{ended_itself}
use Rattle.sg_waits.proofs.waits.Waits.end.Goals as goal

pub returns-else-is_live : goal.returns-else-is_live
returns-else-is_live c =
    let dead : false ≡ is_live (status_at c.args.self.now c.args.unit) = c.if-is_live.ensures ∙ ap (λ (ws : WaitsOf). is_live (status_at ws c.args.unit)) (c.deref.ensures.value ∙ c.self.view_is) in
    sym (ended_itself c.args.self.now c.args.unit (λ h. true≢false (sym h ∙ sym dead)))
