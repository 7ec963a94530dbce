use Rattle.std.proofs.Common.{◌∙◌, arith, refl}
use Rattle.sg_engine_tests.proofs.tests.advance_on.Goals as goal

pub advance-requires-clause-table : goal.advance-requires-clause-table
advance-requires-clause-table g c = c.loop-n.invariant.2

pub advance-requires-clause-start : goal.advance-requires-clause-start
advance-requires-clause-start g c = c.loop-n.invariant.3

pub advance-requires-clause-stands : goal.advance-requires-clause-stands
advance-requires-clause-stands g c = c.loop-n.invariant.4

pub loop-n-init : goal.loop-n-init
loop-n-init g c = (omega arith, refl, c.requires.table, c.requires.start, c.requires.stands)

pub returns-in-Ready : goal.returns-in-Ready
returns-in-Ready g c =
    let k = c.in_ok-advance.ensures in
    record {
      query = k.query ∙ c.loop-n.invariant.1;
      table = k.table;
      stands = rw k.query k.stands;
      ready = λ e. let r = rw c.in-Ready.is at k.progress in rw (r.3).1 refl;
    }

pub returns-in-Blocked : goal.returns-in-Blocked
returns-in-Blocked g c =
    let k = c.in_ok-advance.ensures in
    record { query = k.query ∙ c.loop-n.invariant.1; table = k.table; stands = rw k.query k.stands; ready = λ e. absurd (cc) }

pub returns-in_err-advance-clause-query : goal.returns-in_err-advance-clause-query
returns-in_err-advance-clause-query g c = c.in_err-advance.ensures.query ∙ c.loop-n.invariant.1

pub returns-in_err-advance-clause-table : goal.returns-in_err-advance-clause-table
returns-in_err-advance-clause-table g c = c.in_err-advance.ensures.table

pub returns-in_err-advance-clause-stands : goal.returns-in_err-advance-clause-stands
returns-in_err-advance-clause-stands g c = rw c.in_err-advance.ensures.query c.in_err-advance.ensures.stands

pub returns : goal.returns
returns g c =
    record { query = c.loop-n.invariant.1; table = c.loop-n.invariant.2; stands = c.loop-n.invariant.4; ready = λ e. absurd (cc) }

pub loop-n-preserved : goal.loop-n-preserved
loop-n-preserved g c =
    let k = c.in_ok-advance.ensures in
    (omega (arith, c.loop-n.invariant.0), k.query ∙ c.loop-n.invariant.1, k.table, rw k.query c.loop-n.invariant.3, rw k.query k.stands)
