use Rattle.std.proofs.Common.{[], ◌∷◌}
use Rattle.sg_state.specs.Write.{set_datum}
use Rattle.sg_engine_tests.proofs.tests.give.Goals as goal

pub returns-in-Some : goal.returns-in-Some
returns-in-Some g c =
    rw c.set_datum.ensures.set (c.writes_extend.ensures c.args.held.now (set_datum c.in-Some.unit c.args.s c.args.d ∷ []) c.requires.held (c.in-Some.ensures.found, tt))
