-- What checking the sources of a folder comes to.
use Rattle.std.specs.List.{Contains}
use Rattle.std.proofs.Common.{◌↔◌, Result, Ok, Err, IfOk, ◌≡◌, ℕ, ◌<◌, ◌≤◌, length, map, List, [], true≢false, ◌⊎◌, inl, inr, refl, sym, ap, ◌∙◌, subst}
use Rattle.sg_core.specs.declared.phase.Phase.TheVariants.{Running, Ended, Stuck}
use Rattle.sg_core.specs.Core.{EndedWith, IsPhase, run}
use Rattle.sg_query.specs.Query.{KindOf}
use Rattle.sg_unit.specs.Run.{RunOf}
use Rattle.jv_diag.specs.Plain.{DiagOf}
use Rattle.jv_layout.specs.Folder.{LayoutOf, layout_of}
use Rattle.jv_layout.specs.Sizes.{most_types, own_types}
use Rattle.jv_tree.specs.DeclTree.{UnitTree}
use Rattle.jv_unit.specs.declared.folder.Folder.{Folder}
use Rattle.jv_unit.specs.Folder.{FolderOf}
use Rattle.jv_unit.specs.Kept.{folder_of, IsWhole}
use Rattle.sc_io.specs.SourceTree.{FileOf}
use Rattle.sc_sources.specs.Sources.{Outcome as SourceOutcome, ReadsFolder, faults_from}
use Rattle.sc_app.specs.Diagnoses.{Diagnoses, HaveTrees, checked, faulty, laid_out, types_declared}
use Rattle.sc_app.specs.FolderGraph.{IsWhole as IsWhole_graph}
use Rattle.sc_app.specs.FolderLaw.{last_graph}
use Rattle.sc_app.specs.FolderReport.{Reports, Rules, checked as checked_rules}
use Rattle.sc_app.specs.Results.{CameTo}
use Rattle.sc_app.specs.FolderRun.{JavaCore, IsFolderRun, ruled, same_datum}
use Rattle.sc_app.specs.Found.{IsFoundBy}
use Rattle.jv_instance.specs.Data.{is_wanted}
use Rattle.sc_app.specs.Outcome.{HaveFault, RanOn}

-- a run that is over does not go on
pub not_running : {D P : Type 0} (r : RunOf D P) → IsPhase r Ended ⊎ IsPhase r Stuck → IsPhase r Running → ⊥
not_running r (inl ended) (u, runs) = ended u runs.0
not_running r (inr stuck) (u, runs) = true≢false (sym (stuck.1 u runs.0) ∙ runs.1)

-- a run that has ended is not stuck
pub not_both : {D P : Type 0} (r : RunOf D P) → IsPhase r Ended → IsPhase r Stuck → ⊥
not_both r ended stuck = ended stuck.0.0 stuck.0.1

-- what the rules see of a folder that was made of trees
module _ (w : Folder) (l : LayoutOf) (names : List (List ℕ)) (us : List UnitTree) (kinds : List KindOf) (layout : l ≡ layout_of names us)
    (made : folder_of w ≡ record { layout = l; names = names; files = us; kinds = kinds }) where
  pub ruled_is : ruled (folder_of w) ≡ laid_out names us
  ruled_is = ap ruled made ∙ ap (λ (z : LayoutOf). record { layout = z; names = names; files = us; kinds = [] }) layout

  pub diagnosed : (fs : List FileOf) (ds : List DiagOf) → HaveTrees fs names us → types_declared names us ≤ most_types → Reports (ruled (folder_of w)) ds → Diagnoses fs ds (own_types l.types)
  diagnosed fs ds have few reports =
      subst (λ (z : LayoutOf). Diagnoses fs ds (own_types z.types)) (sym layout) (checked names us have few (subst (λ (z : FolderOf). Reports z ds) ruled_is reports))

  pub ran_on : (fs : List FileOf) (c : JavaCore) → HaveTrees fs names us → IsWhole w → IsFolderRun (folder_of w) c → RanOn fs w c
  ran_on fs c have whole run = record {
    names = names;
    trees = us;
    have = have;
    layout = ap (λ (z : FolderOf). z.layout) made ∙ layout;
    names_are = ap (λ (z : FolderOf). z.names) made;
    trees_are = ap (λ (z : FolderOf). z.files) made;
    whole = whole;
    run = run;
  }

-- ---- a run that has ended

if_ok : {A E : Type 0} (P Q : A → Type 0) (r : Result A E) → ((x : A) → P x → Q x) → IfOk r P → IfOk r Q
if_ok P Q (Ok x) f h = f x h
if_ok P Q (Err e) f h = tt

module _ (w : FolderOf) (c : JavaCore) (whole : IsWhole_graph (ruled w) (last_graph c) × ((d : DiagOf) → ((u : ℕ) × (x : List DiagOf) × EndedWith c.log u x × Contains x d) ↔ (Rules (ruled w) (last_graph c) d))) where
  reported : (ds : List DiagOf) → CameTo c ds → Reports (ruled w) ds
  reported ds came = checked_rules (last_graph c) whole.0 (λ d. ((λ k. (whole.1 d).0 ((came d).0 k)), (λ k. (came d).1 ((whole.1 d).1 k))))

  pub ended_report : {E : Type 0} (r : Result (List DiagOf) E) → IfOk r (CameTo c) → IfOk r (Reports (ruled w))
  ended_report r h = if_ok (CameTo c) (Reports (ruled w)) r reported h

  found : IsPhase (run is_wanted same_datum c) Ended → (ds : List DiagOf) → CameTo c ds → IsFoundBy w c ds
  found ended ds came = record {
    ended = λ e. (last_graph c, whole.0, λ d. ((λ k. (whole.1 d).0 ((came d).0 k)), (λ k. (came d).1 ((whole.1 d).1 k))));
    stuck = λ s. absurd (not_both (run is_wanted same_datum c) ended s);
  }

  pub ended_found : {E : Type 0} → IsPhase (run is_wanted same_datum c) Ended → (r : Result (List DiagOf) E) → IfOk r (CameTo c) → IfOk r (IsFoundBy w c)
  ended_found ended r h = if_ok (CameTo c) (IsFoundBy w c) r (found ended) h

-- ---- files with faults

module _ (fs : List FileOf) (ds : List DiagOf) (read : (names : List (List ℕ)) × (xs : List SourceOutcome) × ReadsFolder (map (λ f. f.bytes) fs) names xs × (ds ≡ faults_from 0 xs) × (0 < length ds)) where
  some_fault : 0 < length (faults_from 0 read.1)
  some_fault = subst (λ (es : List DiagOf). 0 < length es) read.3 read.4

  pub faults_diagnosed : Diagnoses fs ds 0
  faults_diagnosed = faulty read.0 read.1 read.2 some_fault read.3

  pub fault_there : HaveFault fs
  fault_there = (read.0, read.1, read.2, some_fault)
