use Rattle.std.proofs.Common.{arith, ◌≡◌}
use Rattle.std.proofs.lemmas.Bool.{ne_eqb}
use Rattle.jv_parse_expr.proofs.operators.level_ahead.Goals.{else-low-level-via-then-low-level+else-level-high, else-low-level-via-else-low-level}
use Rattle.jv_parse_expr.proofs.operators.level_ahead.Goals as goal

pub returns-then-level-high : goal.returns-then-level-high
returns-then-level-high c = (
  c.if-low-level.true,
  c.if-level-high.true,
  (λ k over under. c.first_level-level.ensures.only k (omega (arith, under, c.requires)) (ne_eqb k c.first_level-level.result (λ same. absurd (omega (arith, over, same))))),
)

pub returns-else-low-level : goal.returns-else-low-level
returns-else-low-level c = λ k over under.
    let no : k ≡ c.first_level-level.result → ⊥ = λ same. elim c.else-low-level.branch [
      | else-low-level-via-then-low-level+else-level-high w ↦ absurd (omega (arith, under, same, w.if-level-high.false))
      | else-low-level-via-else-low-level w ↦ absurd (omega (arith, over, same, w.if-low-level.false))
    ] in
    c.first_level-level.ensures.only k (omega (arith, under, c.requires)) (ne_eqb k c.first_level-level.result no)
