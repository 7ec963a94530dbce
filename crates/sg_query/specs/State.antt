-- What a query still waits for in a graph that grows (critical edges; Van Antwerpen and Visser, "Scope States", ECOOP 2021).
use Rattle.std.specs.Prelude.{◌≡◌, ℕ, List, [], ◌∷◌, ◌++◌, ◌⊎◌}
use Rattle.sg_base.specs.declared.scope.Scope.{Scope}
use Rattle.sg_base.specs.declared.step.Step.{Step}
use Rattle.sg_base.specs.List.{MoreThan}
use Rattle.sg_base.specs.Path.{end_of, word_of}
use Rattle.sg_base.specs.State.{State, IsOpen, IsUnset, IsClosedPath}
use Rattle.sg_expr.specs.Word.{In, IsViable, IsContinuable}
use Rattle.sg_query.specs.Answer.{most_paths}
use Rattle.sg_query.specs.Query.{Asked}

-- an open row at the end of a closed path that some word of the expression goes on into
abbrev pub RowBlocks : {D : Type 0} → State D → Asked D → Scope → ℕ → Type 0
RowBlocks h q s l =
    (ps : List Step) × IsClosedPath h q.start ps × (end_of q.start ps ≡ s) × IsViable q.expr (word_of ps ++ l ∷ []) × IsOpen h s l

-- an unset datum at the end of a closed path whose word is in the expression
abbrev pub DatumBlocks : {D : Type 0} → State D → Asked D → Scope → Type 0
DatumBlocks h q s =
    (ps : List Step) × IsClosedPath h q.start ps × (end_of q.start ps ≡ s) × In q.expr (word_of ps) × IsUnset h s

-- no row and no datum blocks the query
abbrev pub NothingBlocks : {D : Type 0} → State D → Asked D → Type 0
NothingBlocks h q = ((s : Scope) (l : ℕ) → RowBlocks h q s l → ⊥) × ((s : Scope) → DatumBlocks h q s → ⊥)

-- a closed path from the query's start whose word is a proper prefix of a word of its expression
abbrev pub GoesOnClosed : {D : Type 0} → State D → Asked D → List Step → Type 0
GoesOnClosed h q ps = IsClosedPath h q.start ps × IsContinuable q.expr (word_of ps)

-- the query's answer can no longer change
abbrev pub IsSettled : {D : Type 0} → State D → Asked D → Type 0
IsSettled h q = NothingBlocks h q ⊎ MoreThan most_paths (GoesOnClosed h q)

-- what a search looks at: a path with a next label, or a path whose word is whole and whose end's datum is read
pub data Item : Type 0 where
  next : List Step → ℕ → Item
  whole : List Step → Item

-- an item of the query: a closed path that some word of the expression goes on from into a row that is not open, or a closed path whose word is
-- in the expression and whose end's datum is not unset
abbrev pub IsItem : {D : Type 0} → State D → Asked D → Item → Type 0
IsItem h q (next ps l) = IsClosedPath h q.start ps × IsViable q.expr (word_of ps ++ l ∷ []) × (IsOpen h (end_of q.start ps) l → ⊥)
IsItem h q (whole ps) = IsClosedPath h q.start ps × In q.expr (word_of ps) × (IsUnset h (end_of q.start ps) → ⊥)
