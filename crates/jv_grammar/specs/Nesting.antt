-- What the code of the load keeps, and what it means.
use Rattle.std.specs.Prelude.{ℕ, zero, suc, ◌≤◌, false, List, [], ◌∷◌, get_or}
use Rattle.jv_grammar.specs.Load.{Nesting, base}
use Rattle.jv_grammar.specs.declared.load.Opening.{Opening}
use Rattle.jv_grammar.specs.declared.load.OpenBrackets.{OpenBrackets}

-- what stands at no place of the array
abbrev pub no_opening : Opening
no_opening = record { load = 0; is_list = false }

-- the first entries of an array, the last one first
abbrev pub stack_of : List Opening → ℕ → List Opening
stack_of openings zero = []
stack_of openings (suc n) = get_or openings n no_opening ∷ stack_of openings n

-- the load and the stack that the code keeps
abbrev pub nesting_of : OpenBrackets → Nesting
nesting_of n = record { load = n.load; stack = stack_of n.stack n.depth }

-- each open bracket pushed at least the base of those around it
abbrev pub IsRising : List Opening → Type 0
IsRising [] = Unit
IsRising (o ∷ os) = (base os ≤ o.load) × IsRising os

-- the load is at least the base
pub record IsSound (n : Nesting) : Type 0 where
  pub low : base n.stack ≤ n.load
  pub rising : IsRising n.stack
