use Rattle.sc_app.specs.Results.{CameToBelow}
use Rattle.sc_app.proofs.results.joined.Given as goal

abbrev pub invariant-loop-unit : goal.invariant-loop-unit
invariant-loop-unit l = CameToBelow l.core l.unit l.all
