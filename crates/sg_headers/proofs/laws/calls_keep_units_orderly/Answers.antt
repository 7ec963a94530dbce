use Rattle.sg_trace.proofs.Telling.{new_units_are_orderly, calls_keep_orderly}
use Rattle.sg_headers.specs.Orderly.{MayReadHeader, MayGiveImports}
use Rattle.sg_headers.proofs.laws.calls_keep_units_orderly.Goals as goal

pub returns-clause-readers : goal.returns-clause-readers
returns-clause-readers g c query header t super = (new_units_are_orderly (MayReadHeader query header t super), calls_keep_orderly (MayReadHeader query header t super))

pub returns-clause-importers : goal.returns-clause-importers
returns-clause-importers g c p z u = (new_units_are_orderly (MayGiveImports p z u), calls_keep_orderly (MayGiveImports p z u))
