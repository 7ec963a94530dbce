-- The units of a run: which have ended, which run, and what the others wait for.
use Rattle.std.specs.Prelude.{◌≡◌, ℕ, ◌<◌, ◌↔◌, List, [], Bool, true, false, IsTrue, length, slice_index_or, slice_set}
use Rattle.std.specs.List.{Contains}
use Rattle.sg_base.specs.List.{IsRising}
use Rattle.sg_state.specs.declared.need.Need.{Need}
use Rattle.sg_state.specs.Need.{need_cmp}
use Rattle.sg_waits.specs.declared.status.Status.{Status}
use Rattle.sg_waits.specs.declared.status.Status.TheVariants.{Ended, Runs, Waits}

-- how each unit stands, by its number
abbrev pub WaitsOf : Type 0
WaitsOf = List Status

-- how a unit stands; a number that is no unit's counts as ended
abbrev pub status_at : WaitsOf → ℕ → Status
status_at ws u = slice_index_or ws u Ended

-- whether a unit that stands so is live
abbrev pub is_live : Status → Bool
is_live Ended = false
is_live Runs = true
is_live (Waits ns) = true

-- whether it is live and does not wait
abbrev pub runs : Status → Bool
runs Ended = false
runs Runs = true
runs (Waits ns) = false

-- whether it waits
abbrev pub waits : Status → Bool
waits Ended = false
waits Runs = false
waits (Waits ns) = true

-- what it waits for
abbrev pub needs_of : Status → List Need
needs_of Ended = []
needs_of Runs = []
needs_of (Waits ns) = ns

-- what a unit waits for
abbrev pub needs_at : WaitsOf → ℕ → List Need
needs_at ws u = needs_of (status_at ws u)

-- the unit is live
abbrev pub IsLive : WaitsOf → ℕ → Type 0
IsLive ws u = IsTrue (is_live (status_at ws u))

-- the unit waits
abbrev pub IsWaiting : WaitsOf → ℕ → Type 0
IsWaiting ws u = IsTrue (waits (status_at ws u))

-- the unit waits for some need of the list
abbrev pub WaitsForOne : WaitsOf → ℕ → List Need → Type 0
WaitsForOne ws u gone = (n : Need) × Contains gone n × Contains (needs_at ws u) n

-- the units that wait for a need of the list run in the new table, and each other unit stands as before
pub record Wakes (old new : WaitsOf) (gone : List Need) : Type 0 where
  pub units : length new ≡ length old
  pub woken : (u : ℕ) → WaitsForOne old u gone → status_at new u ≡ Runs
  pub kept : (u : ℕ) → (WaitsForOne old u gone → ⊥) → status_at new u ≡ status_at old u

-- the unit runs, and no lesser one does
pub record IsLeastRunning (ws : WaitsOf) (u : ℕ) : Type 0 where
  pub runs : status_at ws u ≡ Runs
  pub least : (v : ℕ) → v < u → status_at ws v ≡ Runs → ⊥

-- some unit is live, and each live unit waits
pub record AllWait (ws : WaitsOf) : Type 0 where
  pub some : (u : ℕ) × IsLive ws u
  pub each : (u : ℕ) → IsLive ws u → IsWaiting ws u

-- the rising list of these needs, each once
pub record IsRisingOf (needs ns : List Need) : Type 0 where
  pub rising : IsRising need_cmp ns
  pub exact : (n : Need) → (Contains ns n) ↔ (Contains needs n)

-- the unit waits for these needs in the new table, and each other unit stands as before
abbrev pub Notes : WaitsOf → WaitsOf → ℕ → List Need → Type 0
Notes old new u needs = (ns : List Need) × IsRisingOf needs ns × (new ≡ slice_set old u (Waits ns))

-- the table in which one more unit runs
abbrev pub set_running : WaitsOf → ℕ → WaitsOf
set_running ws u = slice_set ws u Runs
