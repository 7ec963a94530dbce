-- What a query finds in a graph: reachable and visible paths, and its answer (Neron et al., "A Theory of Name Resolution", ESOP 2015).
use Rattle.std.specs.Prelude.{◌≡◌, ℕ, List, IsTrue, ◌↔◌}
use Rattle.std.specs.List.{Contains}
use Rattle.std.specs.Ordering.{on}
use Rattle.std.specs.declared.cmp.Ordering.{Ordering}
use Rattle.sg_base.specs.declared.step.Step.{Step}
use Rattle.sg_base.specs.Graph.{GraphOf, HasDatum, IsPath}
use Rattle.sg_base.specs.List.{IsRising, MoreThan}
use Rattle.sg_base.specs.Path.{end_of, word_of, path_cmp}
use Rattle.sg_expr.specs.Word.{In, IsContinuable}
use Rattle.sg_order.specs.Path.{IsPathBefore}
use Rattle.sg_query.specs.declared.answer.Answer.{Answer}
use Rattle.sg_query.specs.declared.answer.Answer.TheVariants.{Paths, TooMany}
use Rattle.sg_query.specs.declared.found.Found.{Found}
use Rattle.sg_query.specs.Query.{Asked}

-- how many paths that go on an answer looks at
abbrev pub most_paths : ℕ
most_paths = 4096

-- a path from the query's start whose word is in its expression, and whose end has this wanted datum
pub record Reaches {D : Type 0} (g : GraphOf D) (q : Asked D) (ps : List Step) (d : D) : Type 0 where
  pub path : IsPath g q.start ps
  pub word : In q.expr (word_of ps)
  pub datum : HasDatum g (end_of q.start ps) d
  pub wanted : IsTrue (q.wants d)

-- a reached path that no reached path with the same datum is before
pub record IsVisible {D : Type 0} (g : GraphOf D) (q : Asked D) (ps : List Step) (d : D) : Type 0 where
  pub reached : Reaches g q ps d
  pub unshadowed : (qs : List Step) (e : D) → Reaches g q qs e → IsTrue (q.same d e) → IsPathBefore q.order qs ps → ⊥

-- a path from the query's start whose word is a proper prefix of a word of its expression
abbrev pub GoesOn : {D : Type 0} → GraphOf D → Asked D → List Step → Type 0
GoesOn g q ps = IsPath g q.start ps × IsContinuable q.expr (word_of ps)

-- the order of found paths: that of their paths
abbrev pub found_cmp : {D : Type 0} → Found D → Found D → Ordering
found_cmp = on (λ f. f.path) path_cmp

-- the list holds exactly the visible paths, each with its end's datum
abbrev pub HoldsVisible : {D : Type 0} → GraphOf D → Asked D → List (Found D) → Type 0
HoldsVisible {D} g q fs = (f : Found D) → (Contains fs f) ↔ ((f.path.start ≡ q.start) × IsVisible g q f.path.steps f.datum)

-- the visible paths in rising order
pub record AreVisiblePaths {D : Type 0} (g : GraphOf D) (q : Asked D) (fs : List (Found D)) : Type 0 where
  pub rising : IsRising found_cmp fs
  pub visible : HoldsVisible g q fs

-- the answer of a query in a graph
abbrev pub IsAnswer : {D : Type 0} → GraphOf D → Asked D → Answer D → Type 0
IsAnswer g q TooMany = MoreThan most_paths (GoesOn g q)
IsAnswer g q (Paths fs) = (MoreThan most_paths (GoesOn g q) → ⊥) × AreVisiblePaths g q fs
