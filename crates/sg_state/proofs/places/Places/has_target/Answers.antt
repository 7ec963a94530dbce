use Rattle.sg_state.proofs.Finding.{targets_exact}
use Rattle.sg_state.proofs.places.Places.has_target.Goals as goal

pub returns-in-Some : goal.returns-in-Some
returns-in-Some g c =
    let k = targets_exact c.args.self.now.entries c.args.s c.args.label c.requires.places c.in-Some.row.now c.in-Some.ensures.found c.args.to in
    ((λ t. k.0 (c.contains.ensures.0 t)), (λ h. c.contains.ensures.1 (k.1 h)))
