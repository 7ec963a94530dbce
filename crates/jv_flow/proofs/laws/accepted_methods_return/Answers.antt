use Rattle.std.proofs.Common.{false}
use Rattle.jv_flow.specs.FlowFaults.{gives_value}
use Rattle.jv_flow.proofs.Telling.{body_quiet, each_executed, none_falls_off}
use Rattle.jv_flow.proofs.laws.accepted_methods_return.Goals as goal

pub returns-clause-methods : goal.returns-clause-methods
returns-clause-methods c = λ names file m xs body shaped quiet.
    let none = body_quiet names file m xs body quiet in
    (each_executed names file xs (gives_value m.result.base) m.name shaped none, none_falls_off names file xs (gives_value m.result.base) m.name shaped none)

pub returns-clause-ctors : goal.returns-clause-ctors
returns-clause-ctors c = λ names file k shaped quiet. each_executed names file k.body false k.name shaped quiet
