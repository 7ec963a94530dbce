use Rattle.std.proofs.Common.{List, ℕ, subst}
use Rattle.sc_app.specs.Told.{IsPut}
use Rattle.sc_app.proofs.HandingBack.{given_back}
use Rattle.sc_app.proofs.top_call.put_report.Goals as goal

pub returns-clause-outcome : goal.returns-clause-outcome
returns-clause-outcome g c = λ k files beside.
    given_back k files c.args.report.bytes.items c.args.report.status (g.S.Sink.written c.args.out.now) (g.S.Sink.written c.put_all-put.new.out) c.args.report.outcome c.outcome_of_written.result beside c.put_all-put.result
    (subst (λ (b : List ℕ). IsPut c.args.report.status b (g.S.Sink.written c.args.out.now) (g.S.Sink.written c.put_all-put.new.out) c.put_all-put.result) c.as_slice.ensures.value c.put_all-put.ensures.put) c.outcome_of_written.ensures.fault c.outcome_of_written.ensures.whole
