use Rattle.std.proofs.Common.{◌≡◌, length, sym, subst, arith}
use Rattle.jv_unit.specs.Kept.{folder_of}
use Rattle.sc_app.specs.CircularLines.{AreLinesBelow}
use Rattle.sc_app.proofs.CircularLines.{lines_report, no_lines}
use Rattle.sc_app.proofs.NamedTypes.{lines_found}
use Rattle.sc_app.proofs.circular.circular_lines.Goals as goal

pub loop-t-init : goal.loop-t-init
loop-t-init c = subst (AreLinesBelow (folder_of c.args.folder.now) c.args.core.now 0) (sym c.empty-lines.ensures) (no_lines (folder_of c.args.folder.now) c.args.core.now)

pub loop-t-preserved : goal.loop-t-preserved
loop-t-preserved c = c.in_ok-add_line.ensures c.loop-t.invariant

pub returns-clause-reports : goal.returns-clause-reports
returns-clause-reports c =
    let w = folder_of c.args.folder.now in
    let core = c.args.core.now in
    let left = c.folder_runs_leave_greatest.ensures.greatest w core c.requires.whole.folder c.requires.run in
    let count : c.loop-t.t ≡ length w.layout.types = omega (arith, c.loop-t-test.false, c.loop-t.auto.t-end, c.type_count-t-end.ensures.count) in
    lines_report w core left.0 left.1 left.2 c.folders_have_one_report.ensures.types c.loop-t.lines (subst (λ n. AreLinesBelow w core n c.loop-t.lines) count c.loop-t.invariant)
    ((c.folder_runs_leave_greatest.ensures.stuck w core c.requires.whole.folder c.requires.run).0 c.requires.stuck)

pub returns-clause-found : goal.returns-clause-found
returns-clause-found c =
    let w = folder_of c.args.folder.now in
    let core = c.args.core.now in
    let count : c.loop-t.t ≡ length w.layout.types = omega (arith, c.loop-t-test.false, c.loop-t.auto.t-end, c.type_count-t-end.ensures.count) in
    lines_found c.circular_types_name_circular_types.ensures c.folder_runs_leave_greatest.ensures.stuck w core c.loop-t.lines c.requires.whole.folder c.requires.run
    (subst (λ n. AreLinesBelow w core n c.loop-t.lines) count c.loop-t.invariant) c.requires.stuck
