use Rattle.std.proofs.Common.{◌≡◌, IfSome, None, subst, sym}
use Rattle.sc_io.specs.declared.fault.TreeFault.TheVariants.{OutOfMemory}
use Rattle.sc_io.specs.SourceFile.{sources_of}
use Rattle.sc_app.specs.declared.gather.Gathered.TheVariants.{Sources, Passed}
use Rattle.sc_app.specs.declared.report.Report.{Report}
use Rattle.sc_app.specs.declared.status.Status.TheVariants.{Limit}
use Rattle.sc_app.specs.Checked.{IsChecked}
use Rattle.sc_app.specs.Gathered.{IsGathered}
use Rattle.sc_app.specs.Ran.{IsBeside, IsBesideIn, IsNoReport}
use Rattle.sc_app.specs.Sourced.{AreSources}
use Rattle.sc_app.specs.Told.{Checks, files_for, limit_line}
use Rattle.sc_app.proofs.CheckLemmas.{checked_within, refused, reported_gives}
use Rattle.sc_app.proofs.HandingBack.{beside_in, refused_beside}
use Rattle.sc_app.proofs.Telling.{IfSome-map}
use Rattle.sc_app.proofs.check.check.Goals as goal

pub returns-in-Sources-clause-report : goal.returns-in-Sources-clause-report
returns-in-Sources-clause-report g c =
    let old = g.T.SourceTree.files c.args.tree.now in
    let cmd = c.args.asked.command in
    let ss = sources_of c.in-Sources.files.items in
    let gathered = subst (λ k. IfSome old (λ fs. IsGathered (files_for cmd fs) k)) c.in-Sources.is c.in_ok-gathered.ensures.gathered in
    reported_gives c.folder_report.result c.reported.result OutOfMemory (λ (r : Report). IsChecked cmd ss r.bytes.items r.status) (λ (r : Report). IfSome old (λ fs. Checks cmd (files_for cmd fs) r.bytes.items r.status)) c.reported.ensures c.folder_report.ensures.report
    (λ r told. IfSome-map old (λ fs. IsGathered (files_for cmd fs) (Sources c.in-Sources.files)) (λ fs. Checks cmd (files_for cmd fs) r.bytes.items r.status) (λ fs k. checked_within cmd (files_for cmd fs) r.bytes.items r.status ss k.0 k.1 k.2 told) gathered)

pub returns-in-Sources-clause-outcome : goal.returns-in-Sources-clause-outcome
returns-in-Sources-clause-outcome g c =
    let old = g.T.SourceTree.files c.args.tree.now in
    let cmd = c.args.asked.command in
    let ss = sources_of c.in-Sources.files.items in
    let gathered = subst (λ k. IfSome old (λ fs. IsGathered (files_for cmd fs) k)) c.in-Sources.is c.in_ok-gathered.ensures.gathered in
    reported_gives c.folder_report.result c.reported.result OutOfMemory (λ (r : Report). IsBeside cmd ss r.outcome r.bytes.items r.status) (λ (r : Report). IsBesideIn cmd old r.outcome r.bytes.items r.status) c.reported.ensures c.folder_report.ensures.outcome
    (λ r beside. beside_in cmd old ss (IfSome-map old (λ fs. IsGathered (files_for cmd fs) (Sources c.in-Sources.files)) (λ fs. AreSources (files_for cmd fs) ss) (λ fs k. k.0) gathered) r.outcome r.bytes.items r.status beside)

pub returns-in-Passed-clause-report : goal.returns-in-Passed-clause-report
returns-in-Passed-clause-report g c =
    let old = g.T.SourceTree.files c.args.tree.now in
    let cmd = c.args.asked.command in
    let which = c.in-Passed.limit in
    let gathered = subst (λ k. IfSome old (λ fs. IsGathered (files_for cmd fs) k)) c.in-Passed.is c.in_ok-gathered.ensures.gathered in
    reported_gives c.refusal.result c.reported-in-Passed.result OutOfMemory (λ (r : Report). (r.bytes.items ≡ limit_line which) × (r.status ≡ Limit which) × (r.outcome ≡ None)) (λ (r : Report). IfSome old (λ fs. Checks cmd (files_for cmd fs) r.bytes.items r.status)) c.reported-in-Passed.ensures c.refusal.ensures
    (λ r told. IfSome-map old (λ fs. IsGathered (files_for cmd fs) (Passed which)) (λ fs. Checks cmd (files_for cmd fs) r.bytes.items r.status) (λ fs k. refused cmd (files_for cmd fs) r.bytes.items r.status k.0 k.1 which k.2 told.0 told.1) gathered)

pub returns-in-Passed-clause-outcome : goal.returns-in-Passed-clause-outcome
returns-in-Passed-clause-outcome g c =
    let old = g.T.SourceTree.files c.args.tree.now in
    let cmd = c.args.asked.command in
    let which = c.in-Passed.limit in
    reported_gives c.refusal.result c.reported-in-Passed.result OutOfMemory (λ (r : Report). (r.bytes.items ≡ limit_line which) × (r.status ≡ Limit which) × (r.outcome ≡ None)) (λ (r : Report). IsBesideIn cmd old r.outcome r.bytes.items r.status) c.reported-in-Passed.ensures c.refusal.ensures
    (λ r told. refused_beside cmd old r.outcome r.bytes.items r.status told.2 (subst IsNoReport (sym told.1) tt))
