-- Paths as a start and steps, with their ends, words and order.
use Rattle.std.specs.Prelude.{ℕ, suc, ◌==◌, ◌&&◌, Bool, cond, List, [], ◌∷◌}
use Rattle.std.specs.Cmp.{IsTotalOrder, nat_cmp_total, on_total, then_total}
use Rattle.std.specs.Cmp.Lexicographic.{slice_cmp, lists_total}
use Rattle.std.specs.Ordering.{nat_cmp, on, then_cmp}
use Rattle.std.specs.declared.cmp.Ordering.{Ordering}
use Rattle.sg_base.specs.declared.scope.Scope.{Scope}
use Rattle.sg_base.specs.declared.step.Step.{Step}
use Rattle.sg_base.specs.Label.{Word}
use Rattle.sg_base.specs.Scope.{is_scope, scope_cmp, scope_total}

-- where a path starts, and its steps
pub record PathOf : Type 0 where
  pub start : Scope
  pub steps : List Step

-- where steps from a scope end: at the target of the last step, or at the scope itself
abbrev pub end_of : Scope → List Step → Scope
end_of s [] = s
end_of s (p ∷ ps) = end_of p.to ps

-- the word of steps: their labels
abbrev pub word_of : List Step → Word
word_of [] = []
word_of (p ∷ ps) = p.label ∷ word_of ps

-- the scopes that steps reach
abbrev pub reached_by : List Step → List Scope
reached_by [] = []
reached_by (p ∷ ps) = p.to ∷ reached_by ps

-- whether two steps are the same
abbrev pub is_step : Step → Step → Bool
is_step p q = (p.label == q.label) && is_scope p.to q.to

-- how many steps are the same at the beginning of both
abbrev pub shared_len : List Step → List Step → ℕ
shared_len [] qs = 0
shared_len (p ∷ ps) [] = 0
shared_len (p ∷ ps) (q ∷ qs) = cond (is_step p q) (suc (shared_len ps qs)) 0

-- the order of steps: by label number, then target
abbrev pub step_cmp : Step → Step → Ordering
step_cmp = then_cmp (on (λ p. p.label) nat_cmp) (on (λ p. p.to) scope_cmp)

-- the order of paths: by start, then step by step, a prefix first
abbrev pub path_cmp : PathOf → PathOf → Ordering
path_cmp = then_cmp (on (λ p. p.start) scope_cmp) (on (λ p. p.steps) (slice_cmp step_cmp))

-- the order of steps is total
pub step_total : IsTotalOrder step_cmp
step_total = then_total (on_total (λ p. p.label) nat_cmp_total) (on_total (λ p. p.to) scope_total)

-- the order of paths is total
pub path_total : IsTotalOrder path_cmp
path_total = then_total (on_total (λ p. p.start) scope_total) (on_total (λ p. p.steps) (lists_total step_total))
