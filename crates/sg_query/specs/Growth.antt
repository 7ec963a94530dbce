-- What a query sees of a state that grows.
use Rattle.std.specs.Prelude.{ℕ, List, [], ◌∷◌, ◌++◌, ◌↔◌}
use Rattle.sg_base.specs.declared.scope.Scope.{Scope}
use Rattle.sg_base.specs.declared.step.Step.{Step}
use Rattle.sg_base.specs.Graph.{HasEdge, HasDatum}
use Rattle.sg_base.specs.Path.{end_of, word_of}
use Rattle.sg_base.specs.State.{State, IsOpen, IsUnset, IsClosedPath}
use Rattle.sg_expr.specs.Word.{In, IsViable}
use Rattle.sg_query.specs.Query.{Asked}
use Rattle.sg_query.specs.State.{RowBlocks, DatumBlocks}

-- the second state looks to the query like the first: at the ends of the closed paths that the query follows in the first, the rows that were not
-- open have the same targets, the scopes that were not unset have the same datum, and nothing is open or unset that was not
pub record LooksAlike {D : Type 0} (h h' : State D) (q : Asked D) : Type 0 where
  pub edges : (ps : List Step) (l : ℕ) (t : Scope) → IsClosedPath h q.start ps → IsViable q.expr (word_of ps ++ l ∷ []) → (IsOpen h (end_of q.start ps) l → ⊥) → (HasEdge h.graph (end_of q.start ps) l t) ↔ (HasEdge h'.graph (end_of q.start ps) l t)
  pub rows : (ps : List Step) (l : ℕ) → IsClosedPath h q.start ps → IsViable q.expr (word_of ps ++ l ∷ []) → IsOpen h' (end_of q.start ps) l → IsOpen h (end_of q.start ps) l
  pub given : (ps : List Step) (d : D) → IsClosedPath h q.start ps → In q.expr (word_of ps) → (IsUnset h (end_of q.start ps) → ⊥) → (HasDatum h.graph (end_of q.start ps) d) ↔ (HasDatum h'.graph (end_of q.start ps) d)
  pub unset : (ps : List Step) → IsClosedPath h q.start ps → In q.expr (word_of ps) → IsUnset h' (end_of q.start ps) → IsUnset h (end_of q.start ps)

-- all that blocked the query before is still open after
pub record StillBlocked {D : Type 0} (before after : State D) (q : Asked D) : Type 0 where
  pub rows : (s : Scope) (l : ℕ) → RowBlocks before q s l → IsOpen after s l
  pub data_at : (s : Scope) → DatumBlocks before q s → IsUnset after s
