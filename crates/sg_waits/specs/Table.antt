-- What holds of the table of units beside its listings and counts.
use Rattle.std.specs.Prelude.{◌≡◌, ℕ, ◌<◌, ◌^◌, List, ◌↔◌, IsTrue, length, count_by}
use Rattle.std.specs.List.{Contains}
use Rattle.sg_base.specs.List.{IsRising}
use Rattle.sg_state.specs.declared.need.Need.{Need}
use Rattle.sg_state.specs.Need.{need_cmp}
use Rattle.sg_waits.specs.declared.listing.Listing.{Listing}
use Rattle.sg_waits.specs.declared.status.Status.{Status}
use Rattle.sg_waits.specs.declared.status.Status.TheVariants.{Ended, Runs, Waits}
use Rattle.sg_waits.specs.Listing.{listing_cmp}
use Rattle.sg_waits.specs.Waits.{WaitsOf, status_at, needs_of, runs, waits}

-- needs rise, and a waiting unit has one
abbrev pub IsStanding : Status → Type 0
IsStanding s = IsRising need_cmp (needs_of s) × (IsTrue (waits s) → 0 < length (needs_of s))

-- what a unit that stands so is listed for: what it waits for, or else what it waited for last
abbrev pub listed_of : Status → Status → List Need
listed_of Ended kept = needs_of kept
listed_of Runs kept = needs_of kept
listed_of (Waits ns) kept = ns

-- what a unit is listed for, where the second table has how units stood when they last waited
abbrev pub listed_at : WaitsOf → WaitsOf → ℕ → List Need
listed_at ws kept u = listed_of (status_at ws u) (status_at kept u)

-- each unit is listed for what it waits for, or for what it waited for last, and the counts are those of the units that
-- run and of those that wait
pub record IsTable (ws kept : WaitsOf) (listings : List Listing) (running waiting : ℕ) : Type 0 where
  pub few : length ws < 2 ^ 32
  pub as_many : length kept ≡ length ws
  pub standing : (u : ℕ) → IsStanding (status_at ws u)
  pub listed : (k : Listing) → (Contains listings k) ↔ (Contains (listed_at ws kept k.unit) k.need)
  pub rising : IsRising listing_cmp listings
  pub count_running : running ≡ count_by runs ws
  pub count_waiting : waiting ≡ count_by waits ws
