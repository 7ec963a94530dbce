-- Steps from the start of a walk.
use Rattle.std.specs.Prelude.{◌≡◌, List, [], ◌∷◌, Option, Some, None, Bool, ◌&&◌, not}
use Rattle.std.specs.BTreeSet.{BTreeSet, contains}
use Rattle.std.specs.List.{list_any}
use Rattle.sg_base.specs.declared.scope.Scope.{Scope}
use Rattle.sg_base.specs.declared.step.Step.{Step}
use Rattle.sg_base.specs.Scope.{scope_cmp, is_scope}

-- whether steps from the start pass by the scope nowhere
abbrev pub is_fresh : Scope → List Step → Scope → Bool
is_fresh start ps t = not (is_scope t start) && not (list_any (λ p. is_scope p.to t) ps)

-- a step, if it is given
abbrev pub if_any : Option Step → List Step
if_any None = []
if_any (Some x) = x ∷ []

-- the set has exactly the scopes that the steps reach
abbrev pub AreReached : List Step → BTreeSet Scope → Type 0
AreReached ps set = (t : Scope) → contains scope_cmp set t ≡ list_any (λ p. is_scope p.to t) ps
