-- Path expressions as plain data, which definitions and contracts speak of.
use Rattle.std.specs.Prelude.{ℕ}
use Rattle.sg_expr.specs.declared.expr.Expr.{Expr}
use Rattle.sg_expr.specs.declared.expr.Expr.TheVariants.{Nothing, Empty, One, Seq', Alt', Star'}

-- a path expression: no word, the empty word, one label, two expressions in turn, either of two, or any number of one
pub data ExprOf : Type 0 where
  no_word : ExprOf
  empty_word : ExprOf
  one_label : ℕ → ExprOf
  in_turn : ExprOf → ExprOf → ExprOf
  either_of : ExprOf → ExprOf → ExprOf
  repeated : ExprOf → ExprOf

-- the plain data of an expression of the code
abbrev pub expr_of : Expr → ExprOf
expr_of Nothing = no_word
expr_of Empty = empty_word
expr_of (One l) = one_label l
expr_of (Seq' p a q b) = in_turn (expr_of a) (expr_of b)
expr_of (Alt' p a q b) = either_of (expr_of a) (expr_of b)
expr_of (Star' p a) = repeated (expr_of a)
