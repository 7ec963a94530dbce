-- How many sizes an array has.
use Rattle.std.proofs.Common.{◌≡◌, ℕ, suc, ◌+◌, ◌≤◌, Bool, true, false, cond, List, [], ◌∷◌, length, refl, sym, ap, ◌∙◌, arith, le-leb}
use Rattle.std.specs.Prelude.{nat_le}
use Rattle.std.proofs.lemmas.Bool.{leb-true}
use Rattle.jv_instance.specs.declared.ty.Ty.{Ty}
use Rattle.jv_tree.specs.declared.expression.Expr.{Expr}
use Rattle.jv_tree.specs.ExprTree.{expr_count, expr_trees}
use Rattle.jv_types.specs.Operators.{bad_type}
use Rattle.jv_expr.specs.Typed.{with_dims}

counted : (xs : List Expr) → expr_count (expr_trees xs) ≡ length xs
counted [] = refl
counted (x ∷ xs) = ap suc (counted xs)

module _ (t : Ty) (xs : List Expr) (n : ℕ) (count : n ≡ length xs) where
  same : n ≡ expr_count (expr_trees xs)
  same = count ∙ sym (counted xs)

  by_true : (b : Bool) → nat_le (t.dims + n) 255 ≡ b → t.dims + n ≤ 255 → cond b (record { base = t.base; dims = t.dims + n }) bad_type ≡ with_dims n t
  by_true b e h = ap (λ (b : Bool). cond b (record { base = t.base; dims = t.dims + n }) bad_type) (sym e)

  pub dims_within : (m : ℕ) → m ≡ length xs → t.dims + n ≤ 255 → ◌≡◌ {A = Ty} (record { base = t.base; dims = t.dims + m }) (with_dims (expr_count (expr_trees xs)) t)
  dims_within m e h =
      let k : nat_le (t.dims + n) 255 ≡ true = le-leb (t.dims + n) 255 h in
      let one : ◌≡◌ {A = Ty} (record { base = t.base; dims = t.dims + m }) (record { base = t.base; dims = t.dims + n }) = ap (λ (k : ℕ). let r : Ty = record { base = t.base; dims = t.dims + k } in r) (e ∙ sym count) in
      one ∙ (by_true true k h ∙ ap (λ (k : ℕ). with_dims k t) same)

  never : (b : Bool) → nat_le (t.dims + n) 255 ≡ b → 255 ≤ t.dims + n → ((t.dims + n ≤ 255) → ⊥) → ◌≡◌ {A = Ty} bad_type (cond b (record { base = t.base; dims = t.dims + n }) bad_type)
  never true e h k = absurd (k (leb-true (t.dims + n) 255 e))
  never false e h k = refl

  pub dims_beyond : ((t.dims + n ≤ 255) → ⊥) → ◌≡◌ {A = Ty} bad_type (with_dims (expr_count (expr_trees xs)) t)
  dims_beyond k = never (nat_le (t.dims + n) 255) refl (omega (arith, k)) k ∙ ap (λ (k : ℕ). with_dims k t) same
