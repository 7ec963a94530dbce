use Rattle.sg_headers.proofs.Importing.{import_rules_give_imports as proved, untouched_are_settled}
use Rattle.sg_headers.proofs.laws.import_rules_give_imports.Goals as goal

pub returns-clause-settled : goal.returns-clause-settled
returns-clause-settled g c = untouched_are_settled _

pub returns-clause-imports : goal.returns-clause-imports
returns-clause-imports g c = proved _ _ _ _ _
