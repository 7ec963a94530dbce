use Rattle.sg_state.proofs.Gaining.{datum_gained}
use Rattle.sg_state.proofs.copied.add_datum.Goals as goal

pub returns-in_ok-set_datum-in-Given : goal.returns-in_ok-set_datum-in-Given
returns-in_ok-set_datum-in-Given g c =
    record { ok = rw (c.in-Given.is, ← c.in_ok-copy-in-Given.ensures) (datum_gained c.args.graph.now c.set_datum.new.self c.args.s c.in_ok-copy-in-Given.copy c.in_ok-set_datum-in-Given.ensures.ok) }
