-- A search stands in later states.
use Rattle.std.proofs.Common.{ℕ, List, [], ◌∷◌, ◌++◌, inl, inr, sym, subst}
use Rattle.sg_base.specs.declared.scope.Scope.{Scope}
use Rattle.sg_base.specs.declared.step.Step.{Step}
use Rattle.sg_base.specs.Graph.{IsGraph, HasScope, HasEdge, IsWalk}
use Rattle.sg_base.specs.Path.{end_of}
use Rattle.sg_base.specs.State.{State, IsOpen, IsUnset, PassesClosed, IsClosedPath, Follows}
use Rattle.sg_query.specs.declared.found.Found.{Found}
use Rattle.sg_query.specs.Answer.{Reaches}
use Rattle.sg_query.specs.Query.{Asked}
use Rattle.sg_query.specs.State.{Item, next, whole}
use Rattle.sg_query.proofs.Paths.{end_in, end_of-append}
use Rattle.sg_engine.proofs.Closed.{Walk-grows}
use Rattle.sg_engine.specs.Front.{Front, path_of, step_to, IsMet, IsExplored, StandsAfter}
use Rattle.sg_engine.specs.Law.{StandsLater}

-- ---- later states

module _ {D : Type 0} (h h' : State D) (q : Asked D) (ok : IsGraph h.graph) (start_in : HasScope h.graph q.start) (later : Follows h h') where
  was_open : (s : Scope) (l : ℕ) → HasScope h.graph s → IsOpen h' s l → IsOpen h s l
  was_open s l i o = elim (later.rows s l o) [ inl k ↦ k | inr n ↦ absurd (n i) ]

  was_unset : (s : Scope) → HasScope h.graph s → IsUnset h' s → IsUnset h s
  was_unset s i o = elim (later.data_at s o) [ inl k ↦ k | inr n ↦ absurd (n i) ]

  passes : (s : Scope) (ps : List Step) → HasScope h.graph s → IsWalk h.graph s ps → PassesClosed h s ps → PassesClosed h' s ps
  passes s [] i w c = tt
  passes s (p ∷ ps) i w c = ((λ o. c.0 (was_open s p.label i o)), passes p.to ps (ok.target s p.label p.to w.0) w.1 c.1)

  pub closed_later : (ps : List Step) → IsClosedPath h q.start ps → IsClosedPath h' q.start ps
  closed_later ps c = ((Walk-grows h h'.graph later.extends q.start ps (c.0).0, (c.0).1), passes q.start ps start_in (c.0).0 c.1)

  ends : (ps : List Step) → IsClosedPath h q.start ps → HasScope h.graph (end_of q.start ps)
  ends ps c = end_in h.graph ok q.start ps start_in (c.0).0

  met_later : (paths : List (List Step)) (ps : List Step) (l : ℕ) (t : Scope) → HasEdge h.graph (end_of q.start ps) l t → IsMet h q paths (ps ++ step_to l t ∷ []) → IsMet h' q paths (ps ++ step_to l t ∷ [])
  met_later paths ps l t edge m =
      let there : HasScope h.graph (end_of q.start (ps ++ step_to l t ∷ [])) = subst (HasScope h.graph) (sym (end_of-append q.start ps (step_to l t ∷ []))) (ok.target (end_of q.start ps) l t edge) in
      elim m [
        | inl c ↦ inl c
        | inr k ↦ inr (k.0, ((λ o. (k.1).0 (was_unset (end_of q.start (ps ++ step_to l t ∷ [])) there o)), ((k.1).1.0, later.extends.given (end_of q.start (ps ++ step_to l t ∷ [])) (k.1).1.0 (k.1).1.1, (k.1).1.2)))
      ]

  pub explored_later : (paths : List (List Step)) (found : List (Found D)) (x : Item) → IsClosedPath h q.start (path_of x) → IsExplored h q paths found x → IsExplored h' q paths found x
  explored_later paths found (next ps l) c e = (
    (λ o. e.0 (was_open (end_of q.start ps) l (ends ps c) o)),
    (λ t k n. elim (later.extends.further_edges (end_of q.start ps) l t k) [
      | inl old ↦ met_later paths ps l t old (e.1 t old n)
      | inr other ↦ elim other [ inl o ↦ absurd (e.0 o) | inr m ↦ absurd (m (ends ps c)) ]
    ]),
  )
  explored_later paths found (whole ps) c e = (
    (λ o. e.0 (was_unset (end_of q.start ps) (ends ps c) o)),
    (λ f a b k w. elim (later.extends.further_given (end_of q.start ps) f.datum k) [
      | inl old ↦ e.1 f a b old w
      | inr other ↦ elim other [ inl o ↦ absurd (e.0 o) | inr m ↦ absurd (m (ends ps c)) ]
    ]),
  )

  reaches_later : (ps : List Step) (d : D) → Reaches h.graph q ps d → Reaches h'.graph q ps d
  reaches_later ps d r =
      record { path = (Walk-grows h h'.graph later.extends q.start ps (r.path).0, (r.path).1); word = r.word; datum = later.extends.given (end_of q.start ps) d r.datum; wanted = r.wanted }

  pub stands_in : (f : Front D) (done : List Item) → StandsAfter h q f done → StandsAfter h' q f done
  stands_in f done s =
      record {
        root = s.root;
        closed = λ ps c. closed_later ps (s.closed ps c);
        once = s.once;
        entered = s.entered;
        offered = s.offered;
        done_once = s.done_once;
        left_once = s.left_once;
        apart = s.apart;
        explored = λ x c. explored_later f.paths f.found x (s.closed (path_of x) ((s.offered x).0 (inl c)).0) (s.explored x c);
        found_once = s.found_once;
        found = λ y c. ((s.found y c).0, reaches_later y.path.steps y.datum (s.found y c).1);
        read = s.read;
        count = s.count;
        going = s.going;
      }

pub stands_later : (D : Type 0) → StandsLater D
stands_later D h h' q f ok start_in later s = (s.0, stands_in h h' q ok start_in later f s.0 s.1)
