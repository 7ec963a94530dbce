-- Conditions that are literals (JLS 14.21): a condition is constant only where it is the literal `true` or `false`.
use Rattle.std.specs.Prelude.{Bool, true, false, Option, Some, None}
use Rattle.jv_tree.specs.ExprTree.{ExprTree, expr, bool}

-- the value of the literal `true` or `false`; any other expression has none. Parentheses leave no node, so what stands in them is meant too
abbrev pub literal_of : ExprTree → Option Bool
literal_of (expr at (bool b)) = Some b
literal_of (expr at k) = None

-- the value of the condition of a `for`, where it is a literal: one that is left out counts as `true` (JLS 14.14.1)
abbrev pub optional_literal : Option ExprTree → Option Bool
optional_literal None = Some true
optional_literal (Some x) = literal_of x

-- whether a condition is the literal `true`, by its value where it is a literal
abbrev pub is_true : Option Bool → Bool
is_true (Some b) = b
is_true None = false

-- whether a condition is the literal `false`
abbrev pub is_false : Option Bool → Bool
is_false (Some true) = false
is_false (Some false) = true
is_false None = false
