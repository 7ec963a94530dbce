-- How far the row of a type was read: further replies leave it there, and one more type leads on.
use Rattle.std.proofs.Common.{◌≡◌, ◌+◌, ◌<◌, ◌≤◌, List, Option, Some, None, Ok, Err, drop, get_or, length, refl, sym, ap, subst}
use Rattle.std.proofs.lemmas.List.{at_drop_more, at_drop_all}
use Rattle.sg_base.specs.declared.scope.Scope.{Scope}
use Rattle.sg_query.specs.declared.answer.Answer.{Answer}
use Rattle.sg_query.specs.declared.query.Query.{Query}
use Rattle.sg_reading.specs.declared.stop.Stop.{Stop}
use Rattle.sg_reading.specs.declared.stop.Stop.TheVariants.{NoReply}
use Rattle.sg_reading.specs.Progress.{HasResidual, on}
use Rattle.sg_reading.specs.Reading.{ask}
use Rattle.sg_reading.specs.Replies.{AddsReply}
use Rattle.sg_reading.specs.Stop.{Reads}
use Rattle.sg_reading.proofs.Progress.{residual_added, residual_here, residual_on, residual_reads}
use Rattle.sg_reading.proofs.Steps.{ask_err, done_reads, reading_steps}
use Rattle.jv_instance.specs.declared.datum.JavaDatum.{JavaDatum}
use Rattle.jv_instance.specs.declared.pred.JavaPred.{JavaPred}
use Rattle.jv_layout.specs.Folder.{LayoutOf}
use Rattle.jv_names.specs.declared.kinds.TheConstants.{SUPERS}
use Rattle.jv_names.specs.Replies.{Rule, for_any}
use Rattle.jv_header.specs.declared.begun_dependence.BegunDependence.{BegunDependence}
use Rattle.jv_header.specs.declared.dependence.Dependence.{Dependence}
use Rattle.jv_header.specs.declared.dependence_progress.DependenceProgress.{DependenceProgress}
use Rattle.jv_header.specs.Depends.{dependence, dependence_from, with_supertypes}
use Rattle.jv_header.specs.RowProgress.{IsDependenceSoFar, IsRowSoFar, begun_of}
use Rattle.jv_header.specs.Progress.{Replies}
use Rattle.jv_header.proofs.Progress.{clause_stops}

module _ (reply : Replies) (l : LayoutOf) (c : Scope) (row : List Scope) where
  -- ---- one type of a row

  abbrev left_behind : BegunDependence → Rule Dependence
  left_behind b = dependence_from l c b.found (drop b.count row)

  module _ (b : BegunDependence) (so_far : IsRowSoFar reply l c row b) where
    module _ (d : Scope) (below : b.count < length row) where
      abbrev above : Query JavaPred
      above = for_any SUPERS (get_or row b.count d)

      abbrev next : Answer JavaDatum → Rule Dependence
      next a = dependence_from l c (with_supertypes l c b.found a) (drop (b.count + 1) row)

      here : ask above next ≡ left_behind b
      unfolding dependence_from
      here = sym (at_drop_more (λ (ts : List Scope). dependence_from l c b.found ts) row b.count d below)

      pub row_more : (a : Answer JavaDatum) (e : BegunDependence) → reply above ≡ Some a → e.found ≡ with_supertypes l c b.found a → e.count ≡ b.count + 1 → IsRowSoFar reply l c row e
      row_more a e k found count =
          residual_on reply (dependence l c row) (left_behind b) (left_behind e) so_far
          (subst (λ (r : Rule Dependence). HasResidual reply r (left_behind e)) here (on k (residual_here reply (next a) (left_behind e) (λ i. dependence_from l c (sym found i) (drop (sym count i) row)))))

      pub row_unknown : (e : Stop (Query JavaPred)) → e ≡ NoReply above → reply above ≡ None → Reads {U = Dependence} reply (dependence l c row) (Err e)
      row_unknown e stop none =
          subst (λ (z : Stop (Query JavaPred)). Reads {U = Dependence} reply (dependence l c row) (Err z)) (sym stop)
          (residual_reads reply (dependence l c row) (left_behind b) (Err (NoReply above)) so_far
          (subst (λ (r : Rule Dependence). Reads {U = Dependence} reply r (Err (NoReply above))) here (ask_err reply above next none)))

    pub row_ends : length row ≤ b.count → Reads reply (dependence l c row) (Ok b.found)
    unfolding dependence_from
    row_ends past =
        residual_reads reply (dependence l c row) (left_behind b) (Ok b.found) so_far
        (subst (λ (r : Rule Dependence). Reads reply r (Ok b.found)) (sym (at_drop_all (λ (ts : List Scope). dependence_from l c b.found ts) row b.count past)) (done_reads reply b.found b.found refl))

  -- ---- what was begun

  pub dependence_so_far_new : (p : DependenceProgress) → p.begun ≡ None → IsDependenceSoFar reply l c row p
  dependence_so_far_new p e =
      residual_here reply (dependence l c row) (left_behind (begun_of c row p.begun)) (ap (λ (o : Option BegunDependence). left_behind (begun_of c row o)) (sym e))

  pub row_begun : (p : DependenceProgress) (b : BegunDependence) → b ≡ begun_of c row p.begun → IsDependenceSoFar reply l c row p → IsRowSoFar reply l c row b
  row_begun p b e h = subst (λ (d : BegunDependence). IsRowSoFar reply l c row d) (sym e) h

  pub row_kept : (p : DependenceProgress) (b : BegunDependence) → p.begun ≡ Some b → IsRowSoFar reply l c row b → IsDependenceSoFar reply l c row p
  row_kept p b e h = subst (λ (o : Option BegunDependence). IsRowSoFar reply l c row (begun_of c row o)) (sym e) h

-- a reply more leaves it so far
pub dependence_so_far_added : (old new : Replies) (q : Query JavaPred) (a : Answer JavaDatum) (l : LayoutOf) (c : Scope) (row : List Scope) (p : DependenceProgress) → AddsReply old new q a → IsDependenceSoFar old l c row p → IsDependenceSoFar new l c row p
dependence_so_far_added old new q a l c row p adds h = residual_added old new q a (dependence l c row) (left_behind old l c row (begun_of c row p.begun)) adds h

pub ruleset row_steps = (row_more, row_unknown, row_ends, row_begun, row_kept, clause_stops)

pub ruleset depends_steps = (reading_steps, dependence_so_far_new)
