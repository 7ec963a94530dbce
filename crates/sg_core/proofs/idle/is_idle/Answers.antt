use Rattle.std.proofs.Common.{ap, ◌∙◌}
use Rattle.sg_base.specs.Graph.{GraphOf}
use Rattle.sg_core.proofs.Unheld.{idle_from}
use Rattle.sg_core.proofs.idle.is_idle.Goals as goal

pub returns-in-Ok : goal.returns-in-Ok
returns-in-Ok g c = λ t.
    idle_from c.args.held.now c.datum_holder-holder.ensures.sound c.scopes.result.now (c.scopes.ensures.all ∙ ap (λ (x : GraphOf g.row.I-Datum.Denot). x.scopes) c.in-Ok.ensures) (c.are_idle.ensures t)
