-- The types that lines on circular headers name have such lines.
use Rattle.std.proofs.Common.{◌≡◌, false, List, [], ◌++◌, length, slice_index_or, sym, subst}
use Rattle.std.specs.List.{Contains}
use Rattle.sg_base.specs.declared.scope.Scope.{Scope}
use Rattle.sg_base.specs.Graph.{GraphOf}
use Rattle.sg_base.specs.State.{IsOpen, State}
use Rattle.sg_core.specs.declared.phase.Phase.TheVariants.{Stuck}
use Rattle.sg_core.specs.Core.{IsPhase, run}
use Rattle.sg_headers.proofs.Headers.{open_type}
use Rattle.sg_query.specs.declared.query.Query.{Query}
use Rattle.sg_query.specs.State.{RowBlocks}
use Rattle.sg_strata.specs.Program.{IsNeeded, Program, state_with}
use Rattle.jv_diag.specs.Plain.{DiagOf}
use Rattle.jv_instance.specs.declared.datum.JavaDatum.{JavaDatum}
use Rattle.jv_instance.specs.declared.pred.JavaPred.{JavaPred}
use Rattle.jv_instance.specs.Data.{is_wanted}
use Rattle.jv_layout.specs.Scopes.{type_scope}
use Rattle.jv_layout.proofs.SoundLists.{from_image}
use Rattle.jv_names.specs.Written.{start_of}
use Rattle.jv_unit.specs.Folder.{FolderOf, IsFolderOf}
use Rattle.jv_unit.specs.Trees.{extends_of, implements_of}
use Rattle.sc_app.specs.CircularLines.{AreLinesBelow}
use Rattle.sc_app.specs.FolderGraph.{decl_of, headers_of}
use Rattle.sc_app.specs.FolderLaw.{FolderRunsAreStuckByHeaders, FolderRunsLeaveGreatest, LeavesGreatest, closed_in}
use Rattle.sc_app.specs.FolderReport.{SaysCircular}
use Rattle.sc_app.specs.FolderRun.{JavaCore, IsFolderRun, ruled, same_datum}
use Rattle.sc_app.specs.Found.{IsFoundBy}
use Rattle.sc_app.specs.NamedTypes.{CircularTypesNameCircularTypes, NamesCircular, SaysWaiting}
use Rattle.sc_app.proofs.Checked.{not_both}

module _ (w : FolderOf) (c : JavaCore) (g : GraphOf JavaDatum) (row : Scope → List Scope) (left : LeavesGreatest w c g row) where
  abbrev p : Program (Query JavaPred) JavaDatum
  p = headers_of (ruled w) g

  abbrev end : State JavaDatum
  end = state_with p (closed_in c) row

  -- the row of a type for which a header waits is open
  is_open : (q : Query JavaPred) (s : Scope) → RowBlocks end (p.asked q) s p.super_label → IsOpen end s p.super_label
  is_open q s (steps, path, ends, viable, opened) = opened

  row_is_open : (q : Query JavaPred) (s : Scope) → IsNeeded p end q s → closed_in c s ≡ false
  row_is_open q s (there, blocks) = (open_type p (closed_in c) row s p.super_label (is_open q s blocks)).2

  says_waiting : (s : Scope) (d : DiagOf) (k : SaysCircular (ruled w) g end s d) → SaysWaiting w s k.says.other d
  says_waiting s d k = record { at = start_of (slice_index_or (extends_of (decl_of (ruled w) s) ++ implements_of (decl_of (ruled w) s)) k.says.place []); line = k.says.line }

  module _ (ds : List DiagOf) (lines : AreLinesBelow w c (length w.layout.types) ds) where
    pub names_circular : (d : DiagOf) → Contains ds d → NamesCircular w ds d
    names_circular d h =
        let k = lines.each d h in
        let says : SaysCircular (ruled w) g end (type_scope w.layout k.0) d = k.3 g row left in
        let other : Scope = says.says.other in
        let needed : IsNeeded p end says.query other = (says.needs other).0 says.says.least.there in
        let at = from_image (type_scope w.layout) (length w.layout.types) other needed.0 in
        let own = lines.all at.0 at.1 (subst (λ (s : Scope). closed_in c s ≡ false) at.2 (row_is_open says.query other needed)) in
        let too : SaysCircular (ruled w) g end (type_scope w.layout at.0) own.0 = own.2 g row left in record {
          first = type_scope w.layout k.0;
          second = other;
          third = too.says.other;
          names = says_waiting (type_scope w.layout k.0) d says;
          type = needed.0;
          own = own.0;
          there = own.1;
          waits = subst (λ (s : Scope). SaysWaiting w s too.says.other own.0) (sym at.2) (says_waiting (type_scope w.layout at.0) own.0 too);
        }

pub circular_types_name_circular_types : FolderRunsLeaveGreatest → CircularTypesNameCircularTypes
circular_types_name_circular_types greatest w c ds folder ran lines d h =
    let left = greatest w c folder ran in
    names_circular w c left.0 left.1 left.2 ds lines d h

-- where a run is stuck, the lines of all its types are what is found
pub lines_found : CircularTypesNameCircularTypes → FolderRunsAreStuckByHeaders → (w : FolderOf) (c : JavaCore) (ds : List DiagOf) → IsFolderOf w → IsFolderRun w c → AreLinesBelow w c (length w.layout.types) ds
    → IsPhase (run is_wanted same_datum c) Stuck → IsFoundBy w c ds
lines_found names by_headers w c ds folder ran lines stuck =
    let waiting = (by_headers w c folder ran).0 stuck in
    let at = from_image (type_scope w.layout) (length w.layout.types) waiting.0 waiting.1 in
    let own = lines.all at.0 at.1 (subst (λ (x : Scope). closed_in c x ≡ false) at.2 waiting.2) in record {
      ended = λ e. absurd (not_both (run is_wanted same_datum c) e stuck);
      stuck = λ k. ((own.0, own.1), names w c ds folder ran lines);
    }
