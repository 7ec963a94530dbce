use Rattle.jv_flow.proofs.Telling.{faults_told}
use Rattle.jv_flow.proofs.laws.flow_faults_are_told.Goals as goal

pub returns : goal.returns
returns c = faults_told
