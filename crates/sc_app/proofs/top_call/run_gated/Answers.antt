use Rattle.std.proofs.Common.{Err, IfSome, List, ap, map, subst, sym}
use Rattle.sc_io.specs.SourceTree.{FileOf}
use Rattle.sc_app.specs.declared.command.Command.TheVariants.{Gen}
use Rattle.sc_app.specs.declared.ran.Ran.{Ran}
use Rattle.sc_app.specs.declared.status.Status.{Status}
use Rattle.sc_app.specs.Gathered.{MakesProject}
use Rattle.sc_app.specs.Told.{Writes}
use Rattle.sc_app.proofs.CommandLemmas.{asked_once}
use Rattle.sc_app.proofs.HandingBack.{handed_for}
use Rattle.sc_app.proofs.RunLemmas.{completed, limit_written, report_written, usage_written}
use Rattle.sc_app.proofs.Telling.{IfSome-all, IfSome-map}
use Rattle.sc_app.proofs.top_call.run_gated.Goals as goal

pub returns-in_default-clause-told : goal.returns-in_default-clause-told
returns-in_default-clause-told g c =
    subst (λ (s : Status). IfSome (g.T.SourceTree.files c.args.tree.now) (λ fs. Writes (map (λ w. w.now) c.args.words.now) fs s (g.S.Sink.written c.args.out.now) (g.S.Sink.written c.put_all.new.out))) (sym (ap (λ (r : Ran). r.status) c.ended.ensures))
    (IfSome-all (g.T.SourceTree.files c.args.tree.now) _ (λ fs. usage_written (map (λ w. w.now) c.args.words.now) fs (g.S.Sink.written c.args.out.now) (g.S.Sink.written c.put_all.new.out) c.put_all.result c.in_default.ensures c.put_all.ensures.put))

pub returns-in_default-clause-outcome : goal.returns-in_default-clause-outcome
returns-in_default-clause-outcome g c = λ d more also. absurd (c.in_default.ensures (d, more, also))

pub returns-in-Ok-clause-told : goal.returns-in-Ok-clause-told
returns-in-Ok-clause-told g c =
    IfSome-map (g.T.SourceTree.files c.args.tree.now) _ _ (λ fs checks. report_written (map (λ w. w.now) c.args.words.now) fs (g.S.Sink.written c.args.out.now) (g.S.Sink.written c.put_report.new.out) c.in-Some.asked.command c.in-Some.asked.workers c.in-Ok.report.bytes.items c.in-Ok.report.status c.put_report.result.status c.in-Some.ensures c.in-Ok.ensures.status checks c.put_report.ensures.put) c.in-Ok.ensures.report

pub returns-in-Ok-clause-complete : goal.returns-in-Ok-clause-complete
returns-in-Ok-clause-complete g c = λ command calm still.
    completed (map (λ w. w.now) c.args.words.now) c.in-Some.asked.command c.in-Some.asked.workers (g.T.SourceTree.files c.args.tree.now) c.in-Ok.report.bytes.items c.in-Ok.report.status c.put_report.result.status (g.S.Sink.written c.args.out.now) (g.S.Sink.written c.put_report.new.out) c.in-Some.ensures c.in-Ok.ensures.status c.in-Ok.ensures.report
    c.put_report.ensures.put c.put_report.ensures.failed still

pub returns-in-Ok-clause-outcome : goal.returns-in-Ok-clause-outcome
returns-in-Ok-clause-outcome g c = λ d more also.
    handed_for (map (λ w. w.now) c.args.words.now) c.in-Some.asked.command d c.in-Some.asked.workers more (g.T.SourceTree.files c.args.tree.now) c.put_report.result.outcome c.put_report.result.status (g.S.Sink.written c.args.out.now) (g.S.Sink.written c.put_report.new.out) c.in-Some.ensures also
    (c.put_report.ensures.outcome c.in-Some.asked.command (g.T.SourceTree.files c.args.tree.now) c.in-Ok.ensures.outcome)

pub returns-in-Ok-clause-limit : goal.returns-in-Ok-clause-limit
returns-in-Ok-clause-limit g c = λ which e.
    limit_written (map (λ w. w.now) c.args.words.now) (g.T.SourceTree.files c.args.tree.now) (g.S.Sink.written c.args.out.now) (g.S.Sink.written c.put_report.new.out) c.put_report.result.status (returns-in-Ok-clause-told g c) which e

pub returns-in-Ok-clause-unread : goal.returns-in-Ok-clause-unread
returns-in-Ok-clause-unread g c = λ n workers asks. c.in-Ok.ensures.unread (subst MakesProject (asked_once (map (λ w. w.now) c.args.words.now) (Gen n) c.in-Some.asked.command workers c.in-Some.asked.workers asks c.in-Some.ensures) tt)

pub returns-in-Err-Failed-clause-no_read_fault : goal.returns-in-Err-Failed-clause-no_read_fault
returns-in-Err-Failed-clause-no_read_fault g c = λ n workers asks e.
    c.in-Err-Failed.ensures.made (subst MakesProject (asked_once (map (λ w. w.now) c.args.words.now) (Gen n) c.in-Some.asked.command workers c.in-Some.asked.workers asks c.in-Some.ensures) tt) (ap Err c.in-Err-Failed.field-0-is)
