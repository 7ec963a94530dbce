use Rattle.sg_unit.proofs.Honesty.{new_units_are_honest, calls_keep_honest}
use Rattle.sg_unit.proofs.laws.calls_keep_units_honest.Goals as goal

pub returns-clause-new : goal.returns-clause-new
returns-clause-new g c = λ f. new_units_are_honest _ _ _ _ _

pub returns-clause-kept : goal.returns-clause-kept
returns-clause-kept g c = λ f. calls_keep_honest _ _ _ _ _
