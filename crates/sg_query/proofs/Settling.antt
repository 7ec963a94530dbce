-- What becomes of a query while the graph grows.
use Rattle.std.proofs.Common.{ℕ, List, [], ◌∷◌, ◌++◌, inl, inr, refl}
use Rattle.sg_base.specs.declared.scope.Scope.{Scope}
use Rattle.sg_base.specs.declared.step.Step.{Step}
use Rattle.sg_base.specs.Graph.{IsGraph, HasScope, HasEdge, HasDatum}
use Rattle.sg_base.specs.Path.{end_of, word_of}
use Rattle.sg_base.specs.State.{State, IsOpen, IsUnset, Extends, IsClosedPath}
use Rattle.sg_expr.specs.Word.{In, IsViable}
use Rattle.sg_query.specs.Growth.{LooksAlike, StillBlocked}
use Rattle.sg_query.specs.Law.{SettledAnswersAreStable, SettledAnswersAreLocal, LaterStatesLookAlike, SettledQueriesStaySettled, WaitingQueriesStayOpen, ItemsAreKept}
use Rattle.sg_query.specs.Query.{Asked}
use Rattle.sg_query.proofs.Alike.{viable_from_in, viable_before, done_with, done_follows, carries, item_over, settled_over, answer_over, inside, follows_alike}

pub settled_local : (D : Type 0) → SettledAnswersAreLocal D
settled_local D h h' q s alike = (settled_over h h' q alike s, answer_over h h' q alike s)

pub later_alike : (D : Type 0) → LaterStatesLookAlike D
later_alike D h h' q ok start later = follows_alike h h' q ok start later

pub settled_stable : (D : Type 0) → SettledAnswersAreStable D
settled_stable D h g q a ok start s grown =
    answer_over h (done_with g) q (follows_alike h (done_with g) q ok start (done_follows h g grown)) s a

pub settled_stay_settled : (D : Type 0) → SettledQueriesStaySettled D
settled_stay_settled D h h' q ok start later s = settled_local D h h' q s (follows_alike h h' q ok start later)

pub items_are_kept : (D : Type 0) → ItemsAreKept D
items_are_kept D h h' q i ok start later k = item_over h h' q (follows_alike h h' q ok start later) i k

-- ---- a query that waits

module _ {D : Type 0} (h h' : State D) (q : Asked D) (ok : IsGraph h.graph) (start : HasScope h.graph q.start) (grown : Extends h h'.graph) (still : StillBlocked h h' q) where
  -- a row that is shut later was shut before, where the query comes to it, and had all its edges
  was_shut : (ps : List Step) (l : ℕ) → IsClosedPath h q.start ps → IsViable q.expr (word_of ps ++ l ∷ []) → (IsOpen h' (end_of q.start ps) l → ⊥) → IsOpen h (end_of q.start ps) l → ⊥
  was_shut ps l c v shut o = shut (still.rows (end_of q.start ps) l (ps, c, refl, v, o))

  old_edge : (ps : List Step) (l : ℕ) (t : Scope) → IsClosedPath h q.start ps → IsViable q.expr (word_of ps ++ l ∷ []) → (IsOpen h' (end_of q.start ps) l → ⊥) → HasEdge h'.graph (end_of q.start ps) l t → HasEdge h.graph (end_of q.start ps) l t
  old_edge ps l t c v shut e =
      elim (grown.further_edges (end_of q.start ps) l t e) [
        | inl old ↦ old
        | inr other ↦ elim other [ inl o ↦ absurd (was_shut ps l c v shut o) | inr m ↦ absurd (m (inside h h' q ok start ps c)) ]
      ]

  old_datum : (ps : List Step) (d : D) → IsClosedPath h q.start ps → In q.expr (word_of ps) → (IsUnset h' (end_of q.start ps) → ⊥) → HasDatum h'.graph (end_of q.start ps) d → HasDatum h.graph (end_of q.start ps) d
  old_datum ps d c i set e =
      elim (grown.further_given (end_of q.start ps) d e) [
        | inl old ↦ old
        | inr other ↦ elim other [ inl u ↦ absurd (set (still.data_at (end_of q.start ps) (ps, c, refl, i, u))) | inr m ↦ absurd (m (inside h h' q ok start ps c)) ]
      ]

  was_closed : (ps : List Step) → IsClosedPath h' q.start ps → IsViable q.expr (word_of ps) → IsClosedPath h q.start ps
  was_closed = carries h' h q (λ ps l t c' c v e. (old_edge ps l t c v e.1 e.0, was_shut ps l c v e.1))

  -- the earlier state looks like the later one
  looks_back : LooksAlike h' h q
  looks_back = record {
    edges = λ ps l t c' v shut. (
      old_edge ps l t (was_closed ps c' (viable_before q.expr (word_of ps) l v)) v shut,
      grown.edges (end_of q.start ps) l t,
    );
    rows = λ ps l c' v o. still.rows (end_of q.start ps) l (ps, was_closed ps c' (viable_before q.expr (word_of ps) l v), refl, v, o);
    given = λ ps d c' i set. (
      old_datum ps d (was_closed ps c' (viable_from_in q.expr (word_of ps) i)) i set,
      grown.given (end_of q.start ps) d,
    );
    unset = λ ps c' i u. still.data_at (end_of q.start ps) (ps, was_closed ps c' (viable_from_in q.expr (word_of ps) i), refl, i, u);
  }

pub waiting_stay_open : (D : Type 0) → WaitingQueriesStayOpen D
waiting_stay_open D h h' q ok start grown still un s = un (settled_over h' h q (looks_back h h' q ok start grown still) s)
