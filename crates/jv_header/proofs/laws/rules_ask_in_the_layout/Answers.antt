use Rattle.jv_header.proofs.Bounds.{headers_stay_in, dependence_stays_in, imports_stay_in, statics_stay_in}
use Rattle.jv_header.proofs.laws.rules_ask_in_the_layout.Goals as goal

pub returns-clause-headers : goal.returns-clause-headers
returns-clause-headers c = headers_stay_in

pub returns-clause-dependence : goal.returns-clause-dependence
returns-clause-dependence c = dependence_stays_in

pub returns-clause-imports : goal.returns-clause-imports
returns-clause-imports c = imports_stay_in

pub returns-clause-statics : goal.returns-clause-statics
returns-clause-statics c = statics_stay_in
