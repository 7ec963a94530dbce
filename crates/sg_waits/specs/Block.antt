-- Blocks of 256 units, each with a flag.
use Rattle.std.specs.Prelude.{◌≡◌, ℕ, ◌+◌, ◌*◌, ◌/◌, ◌<◌, ◌≤◌, List, Bool, true, false, length, slice_index_or}
use Rattle.sg_waits.specs.declared.status.Status.TheVariants.{Runs}
use Rattle.sg_waits.specs.Waits.{WaitsOf, status_at}

-- the unit runs, and no lesser one does from a number on
pub record IsFirst (ws : WaitsOf) (low high : ℕ) (u : ℕ) : Type 0 where
  pub above : low ≤ u
  pub below : u < high
  pub runs : status_at ws u ≡ Runs
  pub first : (v : ℕ) → low ≤ v → v < u → status_at ws v ≡ Runs → ⊥

-- the unit is the first of a block that runs
abbrev pub IsFirstOf : WaitsOf → ℕ → ℕ → Type 0
IsFirstOf ws block u = IsFirst ws (256 * block) (256 * block + 256) u

-- the block of each unit that runs is flagged
pub record IsFlagged (ws : WaitsOf) (flags : List Bool) : Type 0 where
  pub room : length ws < 256 * length flags
  pub small : 256 * length flags ≤ length ws + 256
  pub each : (u : ℕ) → status_at ws u ≡ Runs → slice_index_or flags (u / 256) false ≡ true
