-- The types whose bodies enclose a type, one after another.
use Rattle.std.proofs.Common.{◌≡◌, ℕ, zero, suc, ◌-◌, ◌<◌, ◌≤◌, [], ◌∷◌, Option, Some, None, refl, ap, arith}
use Rattle.sg_base.specs.declared.scope.Scope.{Scope}
use Rattle.jv_layout.specs.Folder.{LayoutOf}
use Rattle.jv_layout.specs.Readers.{owner_scope}
use Rattle.jv_names.specs.Bodies.{outward}

module _ (l : LayoutOf) where
  pub none_further : (n : ℕ) → outward l n None ≡ []
  none_further zero = refl
  none_further (suc k) = refl

  pub one_further : (n : ℕ) (t : Scope) → 0 < n → outward l n (Some t) ≡ t ∷ outward l (n - 1) (owner_scope l t)
  one_further zero t h = absurd (omega (arith, h))
  one_further (suc k) t h = ap (λ (m : ℕ). t ∷ outward l m (owner_scope l t)) (omega arith)

  pub no_more : (n : ℕ) (o : Option Scope) → n ≤ 0 → outward l n o ≡ []
  no_more zero o h = refl
  no_more (suc k) o h = absurd (omega (arith, h))

pub ruleset outward_steps = (none_further, one_further, no_more)
