-- How far the head of a type was read.
use Rattle.std.proofs.Common.{◌≡◌, ℕ, List, ◌++◌, None, Result, Ok, Err, MatchResult, sym, subst}
use Rattle.sg_base.specs.declared.scope.Scope.{Scope}
use Rattle.sg_query.specs.declared.query.Query.{Query}
use Rattle.sg_reading.specs.declared.stop.Stop.{Stop}
use Rattle.sg_reading.specs.declared.stop.Stop.TheVariants.{OutOfMemory}
use Rattle.sg_reading.specs.Progress.{HasResidual, here}
use Rattle.sg_reading.specs.Reading.{done}
use Rattle.sg_reading.specs.Stop.{Reads}
use Rattle.sg_reading.proofs.Progress.{residual_behind, residual_on, residual_reads, residual_then}
use Rattle.sg_reading.proofs.Steps.{done_reads, then_err, then_ok}
use Rattle.jv_diag.specs.Plain.{DiagOf}
use Rattle.jv_header.specs.declared.dependence_progress.DependenceProgress.{DependenceProgress}
use Rattle.jv_header.specs.declared.header.Header.{Header}
use Rattle.jv_header.specs.Declaration.{declared_diags}
use Rattle.jv_header.specs.RowProgress.{IsDependenceSoFar}
use Rattle.jv_header.specs.Depends.{depends_rule}
use Rattle.jv_header.proofs.RowProgress.{dependence_so_far_new}
use Rattle.jv_instance.specs.declared.pred.JavaPred.{JavaPred}
use Rattle.jv_layout.specs.Folder.{LayoutOf}
use Rattle.jv_layout.specs.Scopes.{type_scope}
use Rattle.jv_names.specs.Replies.{Rule}
use Rattle.jv_tree.specs.DeclTree.{TypeDeclTree}
use Rattle.jv_unit.specs.declared.begun_head.BegunHead.{BegunHead}
use Rattle.jv_unit.specs.Folder.{FolderOf}
use Rattle.jv_unit.specs.Plans.{all_checks, behind_header, head_ending, type_dependence, type_header, type_part}
use Rattle.jv_unit.specs.Progress.{IsHeadSoFar, Replies, head_left, whole_rule}
use Rattle.jv_unit.specs.Trees.{decl_at, mods_of, name_of}

-- ---- by what the code has of the type

module _ (w : FolderOf) (t : ℕ) (c : Scope) (d : TypeDeclTree) (type : c ≡ type_scope w.layout t) (decl : d ≡ decl_at w.files t) where
  module _ (reply : Replies) (l : LayoutOf) (layout : l ≡ w.layout) (h : Header) (row : List Scope) (rows : row ≡ h.row) where
    pub dependence_read : (names : List (List ℕ)) → names ≡ w.names → (x : Result (List DiagOf) (Stop (Query JavaPred))) → Reads reply (depends_rule l names c (name_of d) row) x → Reads reply (type_dependence w t h.row) x
    dependence_read names named x k = subst (λ (r : Rule (List DiagOf)). Reads reply r x) (λ i. depends_rule (layout i) (named i) (type i) (name_of (decl i)) (rows i)) k

    module _ (p : DependenceProgress) where
      pub dependence_here : IsDependenceSoFar reply l c row p → IsDependenceSoFar reply w.layout (type_scope w.layout t) h.row p
      dependence_here k =
          subst (λ (m : LayoutOf). IsDependenceSoFar reply m (type_scope w.layout t) h.row p) layout
          (subst (λ (s : Scope). IsDependenceSoFar reply l s h.row p) type (subst (λ (ss : List Scope). IsDependenceSoFar reply l c ss p) rows k))

      pub dependence_there : IsDependenceSoFar reply w.layout (type_scope w.layout t) h.row p → IsDependenceSoFar reply l c row p
      dependence_there k =
          subst (λ (ss : List Scope). IsDependenceSoFar reply l c ss p) (sym rows)
          (subst (λ (s : Scope). IsDependenceSoFar reply l s h.row p) (sym type) (subst (λ (m : LayoutOf). IsDependenceSoFar reply m (type_scope w.layout t) h.row p) (sym layout) k))

  pub head_part : (h : Header) (ds own : List DiagOf) (x : Result (List DiagOf) (Stop (Query JavaPred))) → own ≡ declared_diags w.layout w.names c (name_of d) (mods_of d)
      → MatchResult x (λ all. all ≡ (h.diags ++ ds) ++ own) (λ stop. stop ≡ OutOfMemory) → MatchResult x (λ all. all ≡ type_part w t h ds) (λ stop. stop ≡ OutOfMemory)
  head_part h ds own x e k =
      subst (λ (o : List DiagOf). MatchResult x (λ all. all ≡ (h.diags ++ ds) ++ o) (λ stop. stop ≡ OutOfMemory)) (λ i. declared_diags w.layout w.names (type i) (name_of (decl i)) (mods_of (decl i)))
      (subst (λ (o : List DiagOf). MatchResult x (λ all. all ≡ (h.diags ++ ds) ++ o) (λ stop. stop ≡ OutOfMemory)) e k)

-- ---- a head

module _ (reply : Replies) (w : FolderOf) (t : ℕ) where
  pub header_unknown : (e : Stop (Query JavaPred)) → Reads {U = Header} reply (type_header w t) (Err e) → Reads {U = List DiagOf} reply (whole_rule w t) (Err e)
  unfolding whole_rule
  header_unknown e h = then_err reply (head_ending w t) (all_checks w t) e (then_err reply (type_header w t) (behind_header w t) e h)

  -- of whose row nothing was read
  pub head_so_far_first : (b : BegunHead) → Reads reply (type_header w t) (Ok b.header) → b.dependence.begun ≡ None → IsHeadSoFar reply w t b
  unfolding whole_rule head_left
  head_so_far_first b g new =
      record {
        rest = residual_then reply (head_ending w t) (behind_header w t b.header) (all_checks w t) (residual_behind reply (type_header w t) (behind_header w t) b.header (behind_header w t b.header) g here);
        dependence = dependence_so_far_new reply w.layout (type_scope w.layout t) b.header.row b.dependence new;
      }

  module _ (b : BegunHead) (h : IsHeadSoFar reply w t b) where
    -- with another progress behind the same header
    pub head_so_far_inside : (c : BegunHead) → c.header ≡ b.header → IsDependenceSoFar reply w.layout (type_scope w.layout t) b.header.row c.dependence → IsHeadSoFar reply w t c
    head_so_far_inside c same k =
        record {
          rest = subst (λ (x : Header). HasResidual reply (whole_rule w t) (head_left w t x)) (sym same) h.rest;
          dependence = subst (λ (x : Header). IsDependenceSoFar reply w.layout (type_scope w.layout t) x.row c.dependence) (sym same) k;
        }

    -- where its dependence stops
    pub head_stops : (e : Stop (Query JavaPred)) → Reads {U = List DiagOf} reply (type_dependence w t b.header.row) (Err e) → Reads {U = List DiagOf} reply (whole_rule w t) (Err e)
    unfolding head_left
    head_stops e g =
        residual_reads reply (whole_rule w t) (head_left w t b.header) (Err e) h.rest
        (then_err reply (behind_header w t b.header) (all_checks w t) e (then_err reply (type_dependence w t b.header.row) (λ ds. done (type_part w t b.header ds)) e g))

    -- behind it
    pub head_ends : (x : Header) (ds part : List DiagOf) → x ≡ b.header → Reads reply (type_dependence w t b.header.row) (Ok ds) → part ≡ type_part w t x ds → HasResidual reply (whole_rule w t) (all_checks w t part)
    unfolding head_left
    head_ends x ds part same g e =
        let said : type_part w t b.header ds ≡ part = sym (subst (λ (y : Header). part ≡ type_part w t y ds) same e) in
        residual_on reply (whole_rule w t) (head_left w t b.header) (all_checks w t part) h.rest
        (residual_behind reply (behind_header w t b.header) (all_checks w t) part (all_checks w t part)
        (then_ok reply (type_dependence w t b.header.row) (λ ds. done (type_part w t b.header ds)) ds (Ok part) g (done_reads reply (type_part w t b.header ds) part said)) here)
