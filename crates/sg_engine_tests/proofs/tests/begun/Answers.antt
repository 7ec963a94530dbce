use Rattle.sg_engine_tests.proofs.tests.begun.Goals as goal

pub returns-clause-stands : goal.returns-clause-stands
returns-clause-stands g c = rw c.in_ok-search.ensures.query (c.in_ok-search.ensures.stands _)
