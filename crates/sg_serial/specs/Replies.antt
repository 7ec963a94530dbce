-- Replies that wait for units.
use Rattle.std.specs.Prelude.{◌≡◌, ℕ, List, Option, None, replicate}

-- no reply for each of so many units
abbrev pub AreNone : {Y : Type 0} → List (Option Y) → ℕ → Type 0
AreNone ys count = ys ≡ replicate count None
