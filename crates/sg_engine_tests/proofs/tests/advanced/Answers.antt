use Rattle.sg_state.specs.Held.{state_of}
use Rattle.sg_engine_tests.proofs.tests.advanced.Goals as goal

pub advance_on-requires-2-clause-stands : goal.advance_on-requires-2-clause-stands
advance_on-requires-2-clause-stands g c =
    c.stands_later.ensures (state_of c.args.held.now) _ _ _ c.requires.held.graph (rw c.advance_on.ensures.query c.requires.start) c.make.ensures c.advance_on.ensures.stands
