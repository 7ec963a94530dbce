-- What a command shows of an outcome is what it tells of the sources.
use Rattle.std.proofs.Common.{◌≡◌, ℕ, ◌≤◌, List, [], length, map, Option, None, Some, Result, Ok, Err, IfOk, Bool, false, inl, inr, refl, sym, ap, ◌∙◌, subst}
use Rattle.std.proofs.lemmas.List.{length-map}
use Rattle.std.specs.Arc.{arc_value}
use Rattle.std.specs.declared.sync.Arc.{Arc}
use Rattle.std.specs.declared.alloc.Global.{Global}
use Rattle.std.specs.List.{Contains}
use Rattle.sg_base.specs.declared.scope.Scope.{Scope}
use Rattle.sg_base.specs.Graph.{GraphOf}
use Rattle.sg_core.specs.declared.phase.Phase.TheVariants.{Ended, Stuck}
use Rattle.sg_core.specs.Core.{IsPhase, run}
use Rattle.sg_query.specs.Query.{KindOf}
use Rattle.jv_diag.specs.Plain.{DiagOf, diag_of}
use Rattle.jv_instance.specs.declared.datum.JavaDatum.{JavaDatum}
use Rattle.jv_instance.specs.Data.{is_wanted}
use Rattle.jv_layout.specs.Readers.{types_of}
use Rattle.jv_layout.specs.Sizes.{most_types}
use Rattle.jv_tree.specs.DeclTree.{UnitTree}
use Rattle.jv_unit.specs.declared.folder.Folder.{Folder}
use Rattle.jv_unit.specs.Folder.{FolderOf}
use Rattle.jv_unit.specs.Kept.{folder_of}
use Rattle.sc_io.specs.SourceFile.{sources_of}
use Rattle.sc_io.specs.SourceTree.{FileOf}
use Rattle.sc_listing.specs.Answers.{IsAnswersText}
use Rattle.sc_listing.specs.Graph.{graph_text}
use Rattle.sc_listing.specs.Titles.{ListedOf}
use Rattle.sc_report.specs.Report.{report_text}
use Rattle.sc_sources.proofs.Once.{sources_once}
use Rattle.sc_app.specs.declared.command.Command.{Command}
use Rattle.sc_app.specs.declared.command.Command.TheVariants.{Check, Answers, Graph, Gen}
use Rattle.sc_app.specs.declared.outcome.Outcome.{Outcome}
use Rattle.sc_app.specs.declared.report.Report.{Report}
use Rattle.sc_app.specs.declared.status.Status.{Status}
use Rattle.sc_app.specs.Checked.{IsChecked}
use Rattle.sc_app.specs.Diagnoses.{Diagnoses, HaveTrees, IsReport, checked, faulty, laid_out, types_declared}
use Rattle.sc_app.specs.FolderGraph.{IsWhole}
use Rattle.sc_app.specs.FolderLaw.{LeavesGreatest, closed_in, last_graph}
use Rattle.sc_app.specs.FolderReport.{IsLaidOut}
use Rattle.sc_app.specs.FolderRun.{JavaCore, ruled, same_datum}
use Rattle.sc_app.specs.Listing.{IsAnswersIn, IsFinished, Lists, ListsNothing, listed_in, lists_answers, lists_graph}
use Rattle.sc_app.specs.Outcome.{HaveFault, IsOutcomeOf, IsRunOn, RanOn}
use Rattle.sc_app.specs.Ran.{Shows, ShowsListing, listed_by, outcome_text}
use Rattle.sc_app.specs.Statuses.{status_of}
use Rattle.sc_app.specs.Told.{Tells, listed, reported}
use Rattle.sc_app.proofs.EndedAnswers.{answers_in}
use Rattle.sc_app.proofs.EndedRuns.{ended_runs_report}
use Rattle.sc_app.proofs.HeaderRuns.{runs_are_stuck_by_headers, runs_leave_greatest}
use Rattle.sc_app.proofs.OneReport.{never_both, one_report}
use Rattle.sc_app.proofs.OneTold.{declared_one, laid, none_faulty, trees_are_one}

module _ (ss : List FileOf) where
  -- ---- sources of which nothing is listed

  -- the command asks for a listing
  abbrev IsListing : Command → Type 0
  IsListing Check = ⊥
  IsListing Answers = Unit {0}
  IsListing Graph = Unit {0}
  IsListing (Gen n) = ⊥

  asks_listing : (c : Command) (text : List ℕ) → Lists ss c text → IsListing c
  asks_listing c text (lists_graph names us g is) = tt
  asks_listing c text (lists_answers names us g others is are) = tt

  -- what is listed has a finished graph
  finished : (c : Command) (text : List ℕ) → Lists ss c text → (names : List (List ℕ)) × (us : List UnitTree) × (g : GraphOf JavaDatum) × IsFinished ss names us g
  finished c text (lists_graph names us g is) = (names, us, g, is)
  finished c text (lists_answers names us g others is are) = (names, us, g, is)

  faults_list_nothing : HaveFault ss → (c : Command) → ListsNothing ss c
  faults_list_nothing (others, xs, read, some) c text l =
      let f = finished c text l in
      none_faulty sources_once one_report ss f.0 others f.1 xs (f.3).have read some

  module _ (w : Folder) (c : JavaCore) (ran : RanOn ss w c) where
    ruled_is : ruled (folder_of w) ≡ laid_out ran.names ran.trees
    ruled_is = λ i. record { layout = ran.layout i; names = ran.names_are i; files = ran.trees_are i; kinds = [] }

    is_laid : IsLaidOut (ruled (folder_of w))
    is_laid = subst IsLaidOut (sym ruled_is) (laid sources_once one_report ss ran.names ran.trees ran.have)

    -- a graph that is whole by the sources is whole by the folder
    whole_here : (names : List (List ℕ)) (us : List UnitTree) (g : GraphOf JavaDatum) → HaveTrees ss names us → IsWhole (laid_out names us) g → IsWhole (ruled (folder_of w)) g
    whole_here names us g have whole =
        let same = trees_are_one sources_once one_report ss names ran.names us ran.trees have ran.have in
        let there : IsWhole (laid_out ran.names ran.trees) g = subst (λ (n : List (List ℕ)). IsWhole (laid_out n ran.trees) g) same.0 (subst (λ (ts : List UnitTree). IsWhole (laid_out names ts) g) same.1 whole) in
        subst (λ (z : FolderOf). IsWhole z g) (sym ruled_is) there

    stuck_lists_nothing : IsPhase (run is_wanted same_datum c) Stuck → (cmd : Command) → ListsNothing ss cmd
    stuck_lists_nothing stuck cmd text l =
        let f = finished cmd text l in
        let left = runs_leave_greatest (folder_of w) c ran.whole.folder ran.run in
        let out = (runs_are_stuck_by_headers (folder_of w) c ran.whole.folder ran.run).0 stuck in
        let all : LeavesGreatest (folder_of w) c left.0 left.1 = left.2 in
        never_both (ruled (folder_of w)) is_laid f.2 left.0 (whole_here f.0 f.1 f.2 (f.3).have (f.3).whole) (closed_in c) left.1 all.0 (all.1).greatest out.0 out.1 out.2

    -- ---- a run that has ended

    module _ (ds : List DiagOf) (n : ℕ) (diagnoses : Diagnoses ss ds n) (ended : IsPhase (run is_wanted same_datum c) Ended) where
      few_types : (es : List DiagOf) (m : ℕ) → Diagnoses ss es m → types_declared ran.names ran.trees ≤ most_types
      few_types es m (faulty others xs read some is) = absurd (none_faulty sources_once one_report ss ran.names others ran.trees xs ran.have read some)
      few_types es m (checked others vs had few said) =
          let same = declared_one sources_once one_report ss ran.names others ran.trees vs (trees_are_one sources_once one_report ss ran.names others ran.trees vs ran.have had) in
          subst (λ (k : ℕ). k ≤ most_types) (sym same) few

      is_finished : IsFinished ss ran.names ran.trees (last_graph c)
      is_finished = record {
        have = ran.have;
        few = few_types ds n diagnoses;
        whole =
            subst (λ (z : FolderOf). IsWhole z (last_graph c)) ruled_is
            (ended_runs_report runs_leave_greatest runs_are_stuck_by_headers (folder_of w) c ran.whole.folder ran.run ended).0;
      }

      module _ (files : List FileOf) (same : files ≡ ss) where
        listed_is : listed_by w files ≡ listed_in ss ran.names ran.trees
        listed_is = λ i. record { layout = ran.layout i; names = ran.names_are i; files = same i }

        graph_listed : (text : List ℕ) → text ≡ graph_text (listed_by w files) (last_graph c) → Lists ss Graph text
        graph_listed text e =
            let there : text ≡ graph_text (listed_in ss ran.names ran.trees) (last_graph c) = e ∙ ap (λ (l : ListedOf). graph_text l (last_graph c)) listed_is in
            subst (λ (b : List ℕ). Lists ss Graph b) (sym there) (lists_graph ran.names ran.trees (last_graph c) is_finished)

        answers_listed : (text : List ℕ) → IsAnswersText (listed_by w files) c.log text → Lists ss Answers text
        answers_listed text are =
            let here : IsAnswersIn (ruled (folder_of w)) (listed_by w files) (last_graph c) text = answers_in (folder_of w) c ran.whole.folder ran.run ended (listed_by w files) text are in
            let there : IsAnswersIn (laid_out ran.names ran.trees) (listed_in ss ran.names ran.trees) (last_graph c) text =
            subst (λ (z : FolderOf). IsAnswersIn z (listed_in ss ran.names ran.trees) (last_graph c) text) ruled_is (subst (λ (l : ListedOf). IsAnswersIn (ruled (folder_of w)) l (last_graph c) text) listed_is here) in
            lists_answers ran.names ran.trees (last_graph c) text is_finished there

-- ---- outcomes

module _ (ss : List FileOf) (o : Outcome) (is : IsOutcomeOf ss o) (status : Status) (end : status ≡ status_of (length o.diags.items)) where
  report_of : (bytes : List ℕ) → bytes ≡ outcome_text o → IsReport ss bytes status
  report_of bytes e =
      (is.found, o.types, is.diagnoses, (map diag_of o.diags.items, is.sorted, e ∙ ap (λ (z : List FileOf). report_text z (map diag_of o.diags.items) o.types) is.sources, end ∙ ap status_of (sym (length-map o.diags.items diag_of))))

  -- what lists of an ended run
  abbrev ListsEnded : Command → (ListedOf → JavaCore → List ℕ → Type 0) → Type 0
  ListsEnded cmd L = (w : Folder) (c : JavaCore) → RanOn ss w c → IsPhase (run is_wanted same_datum c) Ended → (text : List ℕ) → L (listed_by w (sources_of o.sources.items)) c text → Lists ss cmd text

  by_run : (cmd : Command) (L : ListedOf → JavaCore → List ℕ → Type 0) → ListsEnded cmd L → (folder : Option (Arc Folder Global)) (core : Option JavaCore) (bytes : List ℕ) → IsRunOn ss folder core → ShowsListing L o folder core bytes → Tells cmd ss bytes status
  by_run cmd L lists None None bytes fault e = reported (faults_list_nothing ss fault cmd) (report_of bytes e)
  by_run cmd L lists None (Some c) bytes none e = absurd none
  by_run cmd L lists (Some w) None bytes none e = absurd none
  by_run cmd L lists (Some w) (Some c) bytes ran (inl (ended, text)) = listed (outcome_text o) (lists (arc_value w) c ran ended bytes text) (report_of (outcome_text o) refl)
  by_run cmd L lists (Some w) (Some c) bytes ran (inr (stuck, e)) = reported (stuck_lists_nothing ss (arc_value w) c ran stuck cmd) (report_of bytes e)

  pub shown_tells : (cmd : Command) (bytes : List ℕ) → Shows cmd o bytes → Tells cmd ss bytes status
  shown_tells Check bytes e = reported (λ text l. asks_listing ss Check text l) (report_of bytes e)
  shown_tells (Gen n) bytes e = reported (λ text l. asks_listing ss (Gen n) text l) (report_of bytes e)
  shown_tells Graph bytes e =
      by_run Graph (λ l c text. text ≡ graph_text l (last_graph c)) (λ w c ran ended text k. graph_listed ss w c ran is.found o.types is.diagnoses ended (sources_of o.sources.items) is.sources text k) o.folder o.core bytes is.ran e
  shown_tells Answers bytes e =
      by_run Answers (λ l c text. IsAnswersText l c.log text) (λ w c ran ended text k. answers_listed ss w c ran is.found o.types is.diagnoses ended (sources_of o.sources.items) is.sources text k) o.folder o.core bytes is.ran e

module _ (ss : List FileOf) (o : Outcome) (is : IsOutcomeOf ss o) (cmd : Command) where
  pub checked_report : {E : Type 0} (r : Result Report E) → IfOk r (λ x. Shows cmd o x.bytes.items) → IfOk r (λ x. x.status ≡ status_of (length o.diags.items)) → IfOk r (λ x. IsChecked cmd ss x.bytes.items x.status)
  checked_report (Ok x) e k = inl (shown_tells ss o is x.status k cmd x.bytes.items e)
  checked_report (Err y) e k = tt
