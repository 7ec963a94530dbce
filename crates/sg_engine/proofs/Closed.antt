-- Closed paths, one step after another, and what follows a settled query in a graph that the state grew into.
use Rattle.std.proofs.Common.{◌≡◌, ℕ, List, [], ◌∷◌, ◌++◌, inl, inr, refl, sym, ap, ◌∙◌, subst, append_assoc}
use Rattle.std.proofs.lemmas.List.{append-nil}
use Rattle.sg_base.specs.declared.scope.Scope.{Scope}
use Rattle.sg_base.specs.declared.step.Step.{Step}
use Rattle.sg_base.specs.Graph.{GraphOf, IsGraph, HasScope, HasEdge, IsWalk, IsPath}
use Rattle.sg_base.specs.Label.{Word}
use Rattle.sg_base.specs.List.{IsDistinct}
use Rattle.sg_base.specs.Path.{end_of, word_of, reached_by}
use Rattle.sg_base.specs.State.{State, IsOpen, Extends, IsClosedPath}
use Rattle.sg_base.proofs.Finite.{Distinct-left}
use Rattle.sg_expr.specs.Tree.{ExprOf}
use Rattle.sg_expr.specs.Word.{In, IsViable}
use Rattle.sg_query.specs.Query.{Asked}
use Rattle.sg_query.specs.State.{NothingBlocks}
use Rattle.sg_query.proofs.Alike.{Closed-append}
use Rattle.sg_query.proofs.Paths.{word_of-append, end_of-append, front_distinct, end_in, Walk-append}

module _ {D : Type 0} where
  -- a walk of the state is a walk of what it grew into
  pub Walk-grows : (h : State D) (g : GraphOf D) → Extends h g → (s : Scope) (ps : List Step) → IsWalk h.graph s ps → IsWalk g s ps
  Walk-grows h g x s [] w = tt
  Walk-grows h g x s (p ∷ ps) w = (x.edges s p.label p.to w.0, Walk-grows h g x p.to ps w.1)

pub viable_front : (e : ExprOf) (ps qs : List Step) (l : ℕ) → IsViable e (word_of ps ++ (l ∷ word_of qs)) → IsViable e (word_of ps ++ l ∷ [])
viable_front e ps qs l v =
    (word_of qs ++ v.0, subst (In e) (append_assoc (word_of ps) (l ∷ word_of qs) v.0 ∙ sym (append_assoc (word_of ps) (l ∷ []) (word_of qs ++ v.0))) v.1)

module _ {D : Type 0} (h : State D) (g : GraphOf D) (q : Asked D) (ok : IsGraph h.graph) (start_in : HasScope h.graph q.start) (free : NothingBlocks h q) (grown : Extends h g) where
  -- a viable path of the greater graph passes closed rows of the state alone: by its steps, from the front
  closed_from : (front rest : List Step) → IsClosedPath h q.start front → IsWalk g (end_of q.start front) rest → IsDistinct (q.start ∷ reached_by (front ++ rest)) → IsViable q.expr (word_of front ++ word_of rest) → IsClosedPath h q.start (front ++ rest)
  closed_from front [] c w d v = rw (append-nil front) c
  closed_from front (p ∷ rest) c w d v =
      let at_end : HasScope h.graph (end_of q.start front) = end_in h.graph ok q.start front start_in (c.0).0 in
      let shut : IsOpen h (end_of q.start front) p.label → ⊥ =
      λ o. free.0 (end_of q.start front) p.label (front, c, refl, viable_front q.expr front rest p.label v, o) in
      let edge : HasEdge h.graph (end_of q.start front) p.label p.to =
      elim (grown.further_edges (end_of q.start front) p.label p.to w.0) [
        | inl e ↦ e
        | inr other ↦ elim other [ inl o ↦ absurd (shut o) | inr m ↦ absurd (m at_end) ]
      ] in
      let same : (front ++ p ∷ []) ++ rest ≡ front ++ p ∷ rest = append_assoc front (p ∷ []) rest in
      let distinct : IsDistinct (q.start ∷ reached_by ((front ++ p ∷ []) ++ rest)) =
      subst (λ (t : List Step). IsDistinct (q.start ∷ reached_by t)) (sym same) d in
      let further : IsClosedPath h q.start (front ++ p ∷ []) =
      ((Walk-append h.graph q.start front (p ∷ []) (c.0).0 (edge, tt), front_distinct q.start (front ++ p ∷ []) rest distinct), Closed-append h q.start front (p ∷ []) c.1 (shut, tt)) in
      let walk : IsWalk g (end_of q.start (front ++ p ∷ [])) rest =
      subst (λ (t : Scope). IsWalk g t rest) (sym (end_of-append q.start front (p ∷ []))) w.1 in
      let viable : IsViable q.expr (word_of (front ++ p ∷ []) ++ word_of rest) =
      subst (IsViable q.expr) (sym (ap (λ (t : Word). t ++ word_of rest) (word_of-append front (p ∷ [])) ∙ append_assoc (word_of front) (p.label ∷ []) (word_of rest))) v in
      subst (IsClosedPath h q.start) same (closed_from (front ++ p ∷ []) rest further walk distinct viable)

  pub to_closed : (ps : List Step) → IsPath g q.start ps → IsViable q.expr (word_of ps) → IsClosedPath h q.start ps
  to_closed ps path v =
      closed_from [] ps ((tt, Distinct-left (q.start ∷ []) (reached_by ps) path.1), tt) path.0 path.1 v
