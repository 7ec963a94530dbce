-- What a query asks.
use Rattle.std.specs.Prelude.{ℕ, List, [], Bool, refl, slice_index_or}
use Rattle.std.specs.Coded.{Coded, code_by, coded_list, coded×, coded_ℕ}
use Rattle.sg_base.specs.declared.mark.Mark.{Mark}
use Rattle.sg_base.specs.declared.scope.Scope.{Scope}
use Rattle.sg_expr.specs.Code.{coded_expr}
use Rattle.sg_expr.specs.Tree.{ExprOf, no_word, expr_of}
use Rattle.sg_order.specs.Order.{precedes}
use Rattle.sg_query.specs.declared.kind.Kind.{Kind}
use Rattle.sg_query.specs.declared.query.Query.{Query}

-- a kind of query: the words that it follows, and the order of marks as rows of bits
pub record KindOf : Type 0 where
  pub expr : ExprOf
  pub order : List ℕ

-- the plain data of a kind of the code
abbrev pub value_of_kind : Kind → KindOf
value_of_kind k = record { expr = expr_of k.expr; order = k.order }

-- a kind is stored as the pair of its fields
abbrev pub coded_kind : Coded KindOf
coded_kind = code_by (ExprOf × List ℕ) (coded× coded_expr (coded_list coded_ℕ)) (λ k. (k.expr, k.order)) (λ p. record { expr = p.0; order = p.1 }) (λ _. refl)

-- what a query asks of a graph: where it starts, the words that it follows, the order of marks, the data that it wants, and which data it takes
-- for one
pub record Asked (D : Type 0) : Type 0 where
  pub start : Scope
  pub expr : ExprOf
  pub order : Mark → Mark → Bool
  pub wants : D → Bool
  pub same : D → D → Bool

-- the kind with a number; where the table has none, a kind that follows no word
abbrev pub kind_of : List KindOf → ℕ → KindOf
kind_of kinds number = slice_index_or kinds number (record { expr = no_word; order = [] })

-- what a query asks, by a table of kinds
abbrev pub asked : {P D : Type 0} → (P → D → Bool) → (D → D → Bool) → List KindOf → Query P → Asked D
asked wants same kinds q =
    record { start = q.start; expr = (kind_of kinds q.kind).expr; order = precedes (kind_of kinds q.kind).order; wants = wants q.pred; same = same }
