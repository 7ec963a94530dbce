use Rattle.std.proofs.Common.{[], ◌∷◌}
use Rattle.sg_state.specs.Write.{close_row}
use Rattle.sg_engine_tests.proofs.tests.close.Goals as goal

pub returns-in-Some : goal.returns-in-Some
returns-in-Some g c =
    rw c.close_row.ensures.closed (c.writes_extend.ensures c.args.held.now (close_row c.in-Some.unit c.args.s c.args.l ∷ []) c.requires.held (c.in-Some.ensures, tt))
