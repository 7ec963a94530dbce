use Rattle.std.proofs.Common.{ℕ, zero, suc, ◌<◌, [], ◌∷◌, None, get_or, refl, arith, true≢false}
use Rattle.std.specs.Prelude.{Contains}
use Rattle.jv_tree.specs.declared.name.Ident.{Ident}
use Rattle.jv_tree.specs.StmtTree.{VarTree}
use Rattle.jv_tree.specs.Shaped.{IsShapedOption, levels}
use Rattle.jv_tree.proofs.laws.shapes_are_told_apart.Goals as goal

one_variable : (n : Ident) (k : ℕ) (d : VarTree) → k < 1 → IsShapedOption (get_or (record { name = n; init = None } ∷ []) k d).init
one_variable n zero d l = tt
one_variable n (suc k) d l = absurd (omega arith)

additive : Contains levels (28 ∷ 29 ∷ [])
additive = (8, omega arith, refl)

pub returns : goal.returns
returns c = λ at n. (
  (tt, (λ k d l. absurd (omega arith)), λ k d l. absurd (omega arith)),
  (tt, (((tt, omega arith), (omega arith, one_variable n)), tt), tt, tt, tt, tt, tt),
  (λ h. h.1),
  (λ h. h),
  (tt, tt, (28 ∷ 29 ∷ [], additive, (refl, (λ h. absurd (omega arith)), tt, (refl, (λ h. absurd (omega arith)), tt, tt)))),
  (λ h. h.1),
  (λ h. h.1),
  (λ h. true≢false h.2.1),
  (λ h. let e = h.1 refl refl in absurd (omega arith)),
  (omega arith, λ s e. absurd (true≢false e)),
)
