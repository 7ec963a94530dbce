-- Where terminals that are no file are refused: the least number of them that does not begin one.
use Rattle.std.specs.Prelude.{ℕ, suc, ◌<◌, ◌≤◌, List, length, take}
use Rattle.jv_grammar.specs.declared.terminal.Terminal.{Terminal}
use Rattle.jv_grammar.specs.DeclBegins.{Begins}

-- The terminals before the one of this number, from 0, begin a file, and with it they do not; where all begin a file, the number is
-- how many they are.
pub record IsRefusedAt (ts : List Terminal) (i : ℕ) : Type 0 where
  pub within : i ≤ length ts
  pub begins : (j : ℕ) → j ≤ i → Begins (take j ts)
  pub refuses : i < length ts → Begins (take (suc i) ts) → ⊥
