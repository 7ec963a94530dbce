use Rattle.std.proofs.Common.{◌≡◌, ◌↔◌, ◌+◌, List, length, sym, subst, arith}
use Rattle.std.specs.List.{Contains}
use Rattle.sg_base.specs.declared.scope.Scope.{Scope}
use Rattle.sg_state.specs.declared.need.Need.TheVariants.{Row}
use Rattle.sg_unit.specs.Own.{own}
use Rattle.sg_unit.specs.Trace.{told}
use Rattle.jv_diag.specs.declared.diagnostic.Diag.{Diag}
use Rattle.jv_diag.specs.Plain.{diag_of}
use Rattle.jv_instance.specs.declared.labels.TheConstants.{EXT}
use Rattle.jv_unit.specs.Kept.{folder_of}
use Rattle.sc_app.specs.CircularLines.{IsLineOf}
use Rattle.sc_app.specs.Heard.{Collects, JavaEntry}
use Rattle.sc_app.proofs.CircularLines.{if_ok, header_waits, says_circular, some_needed}
use Rattle.sc_app.proofs.circular.line_of_type.Goals as goal

pub overflow_add-unit : goal.overflow_add-unit
overflow_add-unit c = let few = c.requires.whole.folder.few in omega (arith, few, c.file_count.ensures, c.requires.within)

pub circular_line-requires-clause-waits : goal.circular_line-requires-clause-waits
circular_line-requires-clause-waits c =
    let w = folder_of c.args.folder.now in
    let core = c.args.core.now in
    let u = c.file_count.result + c.args.t in
    let left = c.folder_runs_leave_greatest.ensures.greatest w core c.requires.whole.folder c.requires.run in
    let unit : u ≡ length w.layout.files + c.args.t = omega (arith, c.file_count.ensures) in
    let collects = subst (λ (es : List JavaEntry). Collects (told (own u es)).past c.in_ok-replies.replies) c.log.ensures.log c.in_ok-replies.ensures in
    header_waits w core c.requires.run c.args.t c.requires.within u unit c.in_ok-replies.replies collects c.layout.result.now c.layout.ensures c.names.result.now c.names.ensures c.decl.result.now c.decl.ensures c.ty.result c.ty.ensures left.0 left.1
    (c.folder_runs_report.ensures.stuck w core left.0 left.1 c.args.t c.requires.whole.folder c.requires.run left.2 c.requires.within c.requires.waits)

pub circular_line-requires-clause-some : goal.circular_line-requires-clause-some
circular_line-requires-clause-some c =
    let w = folder_of c.args.folder.now in
    let core = c.args.core.now in
    let u = c.file_count.result + c.args.t in
    let left = c.folder_runs_leave_greatest.ensures.greatest w core c.requires.whole.folder c.requires.run in
    let unit : u ≡ length w.layout.files + c.args.t = omega (arith, c.file_count.ensures) in
    let collects = subst (λ (es : List JavaEntry). Collects (told (own u es)).past c.in_ok-replies.replies) c.log.ensures.log c.in_ok-replies.ensures in
    let rows = subst (λ (ss : List Scope). (s : Scope) → (Contains ss s) ↔ (Contains c.needs.result.now (Row s EXT))) (sym c.as_slice.ensures.value) c.in_ok-needed.ensures in
    some_needed w core c.requires.run c.args.t c.requires.within u unit c.in_ok-replies.replies collects c.layout.result.now c.layout.ensures c.names.result.now c.names.ensures c.decl.result.now c.decl.ensures c.ty.result c.ty.ensures left.0 left.1
    (c.folder_runs_report.ensures.stuck w core left.0 left.1 c.args.t c.requires.whole.folder c.requires.run left.2 c.requires.within c.requires.waits)
    c.needs.result.now c.needs.ensures.exact c.as_slice.result.now rows

pub returns : goal.returns
returns c =
    let w = folder_of c.args.folder.now in
    let core = c.args.core.now in
    let u = c.file_count.result + c.args.t in
    let unit : u ≡ length w.layout.files + c.args.t = omega (arith, c.file_count.ensures) in
    let collects = subst (λ (es : List JavaEntry). Collects (told (own u es)).past c.in_ok-replies.replies) c.log.ensures.log c.in_ok-replies.ensures in
    let rows = subst (λ (ss : List Scope). (s : Scope) → (Contains ss s) ↔ (Contains c.needs.result.now (Row s EXT))) (sym c.as_slice.ensures.value) c.in_ok-needed.ensures in
    if_ok _ (λ (d : Diag). IsLineOf w core c.args.t (diag_of d)) c.circular_line.result
    (λ d said g row left.
    says_circular w core c.requires.run c.args.t c.requires.within u unit c.in_ok-replies.replies collects c.layout.result.now c.layout.ensures c.names.result.now c.names.ensures c.decl.result.now c.decl.ensures c.ty.result c.ty.ensures g row
    (c.folder_runs_report.ensures.stuck w core g row c.args.t c.requires.whole.folder c.requires.run left c.requires.within c.requires.waits)
    c.needs.result.now c.needs.ensures.exact c.as_slice.result.now rows (diag_of d) said)
    c.circular_line.ensures
