-- The numbers of operators are those that the lexer gives their marks, and 128 more than that of the keyword `instanceof` (JLS 3.9, 3.12).
use Rattle.std.specs.Prelude.{◌≡◌, ℕ, ◌-◌, Bool, List, [], ◌∷◌, ◌++◌, length, map, take, drop, slice_index_or, codes}
use Rattle.std.specs.List.{filter, enumerate_from}
use Rattle.jv_lex.specs.Punctuation.{marks}
use Rattle.jv_lex.specs.Word.{keywords}
use Rattle.jv_types.specs.Operators.{is_arithmetic, is_bitwise, is_comparison, is_equality, is_logical, is_shift, is_sign, is_step}
use Rattle.jv_expr.specs.Operators.{operator_of}

-- the marks whose numbers are taken, in the order of their numbers
abbrev pub marks_where : (ℕ → Bool) → List (List ℕ)
marks_where takes = map (λ (m : ℕ × List ℕ). m.1) (filter (λ (m : ℕ × List ℕ). takes m.0) (enumerate_from 0 marks))

-- the mark with a number
abbrev pub mark_at : ℕ → List ℕ
mark_at n = slice_index_or marks n []

-- the operators with one operand: signs and `~`, `!`, and the steps
pub record UnaryOperatorsAreMarks : Type 0 where
  pub signs : marks_where is_sign ≡ codes "~" ∷ codes "+" ∷ codes "-" ∷ []
  pub negation : mark_at 15 ≡ codes "!"
  pub steps : marks_where is_step ≡ codes "++" ∷ codes "--" ∷ []

-- those with two operands; no operator's mark has the number 50, which stands for an index
pub record BinaryOperatorsAreMarks : Type 0 where
  pub sum : mark_at 28 ≡ codes "+"
  pub arithmetic : marks_where is_arithmetic ≡ codes "-" ∷ codes "*" ∷ codes "/" ∷ codes "%" ∷ []
  pub shifts : marks_where is_shift ≡ codes "<<" ∷ codes ">>" ∷ codes ">>>" ∷ []
  pub comparisons : marks_where is_comparison ≡ codes ">" ∷ codes "<" ∷ codes ">=" ∷ codes "<=" ∷ []
  pub equalities : marks_where is_equality ≡ codes "==" ∷ codes "!=" ∷ []
  pub bitwise : marks_where is_bitwise ≡ codes "&" ∷ codes "|" ∷ codes "^" ∷ []
  pub logical : marks_where is_logical ≡ codes "&&" ∷ codes "||" ∷ []
  pub instances : slice_index_or keywords (153 - 128) [] ≡ codes "instanceof"
  pub index : length marks ≡ 50

-- the conditional, and assignments: each `op=` has the mark of its operator with `=` behind
pub record AssignmentsAreMarks : Type 0 where
  pub choice : mark_at 17 ≡ codes "?"
  pub plain : mark_at 12 ≡ codes "="
  pub compound : drop 39 marks ≡ map (λ (m : List ℕ). m ++ codes "=") (take 11 (drop (operator_of 39) marks))

-- all of them
abbrev pub OperatorsAreMarks : Type 0
OperatorsAreMarks = UnaryOperatorsAreMarks × BinaryOperatorsAreMarks × AssignmentsAreMarks
