-- The runs of a folder's checkers that are over leave the greatest stratified set of headers, and are stuck exactly where a type is outside it.
use Rattle.std.proofs.Common.{◌≡◌, ℕ, ◌+◌, ◌<◌, List, length, ◌↔◌, inl, inr, false, sym, subst, arith}
use Rattle.std.proofs.lemmas.List.{length-replicate}
use Rattle.std.specs.List.{Contains}
use Rattle.sg_base.specs.declared.scope.Scope.{Scope}
use Rattle.sg_base.specs.Graph.{GraphOf}
use Rattle.sg_core.specs.declared.phase.Phase.TheVariants.{Stuck}
use Rattle.sg_core.specs.Core.{IsPhase, run, setting}
use Rattle.sg_headers.specs.Run.{IsOrderlyRun, IsOver}
use Rattle.sg_headers.specs.Setting.{AreOrderly}
use Rattle.sg_headers.proofs.Headers.{closed_headers_are_greatest}
use Rattle.sg_headers.proofs.Sticking.{stuck_where_headers_wait}
use Rattle.sg_query.specs.declared.query.Query.{Query}
use Rattle.sg_trace.specs.Tells.{trace_of}
use Rattle.sg_unit.specs.Orderly.{IsOrderly}
use Rattle.sg_unit.specs.Run.{run_of}
use Rattle.jv_diag.specs.Plain.{DiagOf}
use Rattle.jv_instance.specs.declared.datum.JavaDatum.{JavaDatum}
use Rattle.jv_instance.specs.declared.java.Java.{Java}
use Rattle.jv_instance.specs.declared.pred.JavaPred.{JavaPred}
use Rattle.jv_instance.specs.Data.{is_wanted}
use Rattle.jv_layout.specs.Readers.{types_of}
use Rattle.jv_unit.specs.Folder.{FolderOf, IsFolderOf}
use Rattle.sc_app.specs.FolderGraph.{IsSkeleton, headers_of}
use Rattle.sc_app.specs.FolderLaw.{AsksSignaturesLast, FilesAskForOwn, FolderRunsAreOrderly, FolderRunsAreStuckByHeaders, FolderRunsAskSignaturesLast, FolderRunsLeaveGreatest, LeavesGreatest, MayAskForOwn, closed_in, roles_of}
use Rattle.sc_app.specs.FolderRun.{IsFolderRun, JavaCore, ruled, same_datum}
use Rattle.sc_app.proofs.HeaderOrder.{FolderEntry, folder_asks_for_own, folder_asks_last, folder_core, folder_orderly}
use Rattle.sc_app.proofs.HeaderSetting.{folder_program, folder_quiet, folder_setting, is_setting}
use Rattle.sc_app.proofs.HeaderSkeleton.{skeleton_exists}

-- a run of a folder has the core of its log
pub same_core : (w : FolderOf) (c : JavaCore) → IsFolderRun w c → folder_core w c.log ≡ c
same_core w c r = λ i. record { opening = sym r.opening i; kinds = sym r.kinds i; log = c.log }

module _ (w : FolderOf) (h : IsFolderOf w) (log : List FolderEntry) (r : IsFolderRun w (folder_core w log)) where
  is_over : IsOver (run_of (folder_setting w) log)
  is_over = elim r.over [ inl ended ↦ inl ended | inr stuck ↦ inr stuck ]

  -- over each skeleton it is a run of orderly units that is over
  pub folder_run_orderly : (g : GraphOf JavaDatum) (k : IsSkeleton (ruled w) g) → IsOrderlyRun (headers_of (ruled w) g) (folder_setting w) (roles_of w.layout) log
  folder_run_orderly g k = record {
    program = folder_program w h g k;
    quiet = folder_quiet w h g k;
    setting = is_setting w h g k;
    run = r.core.runs;
    orderly = folder_orderly w h g k log r.core.runs r.follows;
    over = is_over;
  }

  leaves : (g : GraphOf JavaDatum) × (row : Scope → List Scope) × LeavesGreatest w (folder_core w log) g row
  leaves =
      let g = skeleton_exists w h in
      let o = closed_headers_are_greatest Java (List DiagOf) (Query JavaPred) JavaDatum JavaPred (headers_of (ruled w) g.0) (folder_setting w) (roles_of w.layout) log (folder_run_orderly g.0 g.1) in
      (g.0, o.0, (g.1, o.1))

  sticks : (IsPhase (run is_wanted same_datum (folder_core w log)) Stuck) ↔ ((s : Scope) × Contains (types_of w.layout) s × (closed_in (folder_core w log) s ≡ false))
  sticks =
      let g = skeleton_exists w h in
      stuck_where_headers_wait Java (List DiagOf) (Query JavaPred) JavaDatum JavaPred (headers_of (ruled w) g.0) (folder_setting w) (roles_of w.layout) log (folder_run_orderly g.0 g.1)
      (folder_asks_last w h g.0 g.1 log r.core.runs r.follows)

  asks_last : (g : GraphOf JavaDatum) → IsSkeleton (ruled w) g → (u : ℕ) → u < length w.layout.files + length w.layout.types → AsksSignaturesLast w (folder_core w log) g u
  asks_last g k u few = folder_asks_last w h g k log r.core.runs r.follows u (omega (arith, few, length-replicate {A = ℕ} (length w.layout.files + length w.layout.types) 0))

pub runs_leave_greatest : FolderRunsLeaveGreatest
runs_leave_greatest w c h r =
    let same = same_core w c r in
    subst (λ (d : JavaCore). (g : GraphOf JavaDatum) × (row : Scope → List Scope) × LeavesGreatest w d g row) same (leaves w h c.log (subst (IsFolderRun w) (sym same) r))

pub runs_are_stuck_by_headers : FolderRunsAreStuckByHeaders
runs_are_stuck_by_headers w c h r =
    let same = same_core w c r in
    subst (λ (d : JavaCore). (IsPhase (run is_wanted same_datum d) Stuck) ↔ ((s : Scope) × Contains (types_of w.layout) s × (closed_in d s ≡ false))) same
    (sticks w h c.log (subst (IsFolderRun w) (sym same) r))

pub runs_ask_signatures_last : FolderRunsAskSignaturesLast
runs_ask_signatures_last w c g h r k u few =
    let same = same_core w c r in
    subst (λ (d : JavaCore). AsksSignaturesLast w d g u) same (asks_last w h c.log (subst (IsFolderRun w) (sym same) r) g k u few)

pub runs_are_orderly : FolderRunsAreOrderly
runs_are_orderly w c g h r k =
    let same = same_core w c r in
    let f : IsFolderRun w (folder_core w c.log) = subst (IsFolderRun w) (sym same) r in
    subst (λ (d : JavaCore). AreOrderly (headers_of (ruled w) g) (setting is_wanted same_datum d) (roles_of w.layout) d.log) same (folder_orderly w h g k c.log f.core.runs f.follows)

pub files_ask_for_own : FilesAskForOwn
files_ask_for_own w c h r u b =
    let same = same_core w c r in
    let f : IsFolderRun w (folder_core w c.log) = subst (IsFolderRun w) (sym same) r in
    let g = skeleton_exists w h in
    subst (λ (d : JavaCore). IsOrderly (MayAskForOwn d u) (trace_of u d.log).past (trace_of u d.log).last) same (folder_asks_for_own w h g.0 g.1 c.log f.core.runs f.follows u b)
