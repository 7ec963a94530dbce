use Rattle.jv_flow.specs.Reachable.{IsReachable}
use Rattle.jv_flow.proofs.Ordered.{one_list}
use Rattle.jv_flow.proofs.Telling.{places_told}
use Rattle.jv_flow.proofs.laws.fault_places_are_one.Goals as goal

pub returns-clause-one : goal.returns-clause-one
returns-clause-one c = λ xs ps qs h k. one_list xs (IsReachable xs) ps qs h k

pub returns-clause-told : goal.returns-clause-told
returns-clause-told c = places_told
