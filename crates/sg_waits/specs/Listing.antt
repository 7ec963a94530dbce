-- Who waits for what, by need: listings in the order of needs and then units.
use Rattle.std.specs.Prelude.{◌≡◌, ℕ, List, ◌⊎◌, ◌↔◌}
use Rattle.std.specs.Cmp.{IsTotalOrder, nat_cmp_total, on_total, then_total}
use Rattle.std.specs.List.{Contains}
use Rattle.std.specs.Ordering.{nat_cmp, on, then_cmp}
use Rattle.std.specs.declared.cmp.Ordering.{Ordering}
use Rattle.sg_state.specs.declared.need.Need.{Need}
use Rattle.sg_state.specs.Need.{need_order, need_order_total}
use Rattle.sg_waits.specs.declared.listing.Listing.{Listing}

-- the order of listings: by need, then unit
abbrev pub listing_cmp : Listing → Listing → Ordering
listing_cmp = then_cmp (on (λ k. k.need) need_order) (on (λ k. k.unit) nat_cmp)

-- the order of listings is total
pub listing_total : IsTotalOrder listing_cmp
listing_total = then_total (on_total (λ k. k.need) need_order_total) (on_total (λ k. k.unit) nat_cmp_total)

-- the listing is of this unit and one of these needs
abbrev pub IsOf : List Need → ℕ → Listing → Type 0
IsOf needs unit k = (k.unit ≡ unit) × Contains needs k.need

-- the unit is listed for these needs too
abbrev pub AddsNeeds : List Listing → List Listing → List Need → ℕ → Type 0
AddsNeeds old new needs unit = (k : Listing) → (Contains new k) ↔ (Contains old k ⊎ IsOf needs unit k)

-- the unit may be listed for some of these needs too
pub record AddsSome (old new : List Listing) (needs : List Need) (unit : ℕ) : Type 0 where
  pub stay : (k : Listing) → Contains old k → Contains new k
  pub come : (k : Listing) → Contains new k → Contains old k ⊎ IsOf needs unit k

-- the unit is no longer listed for these needs, but for those to keep
abbrev pub TakesOff : List Listing → List Listing → List Need → List Need → ℕ → Type 0
TakesOff old new needs keep unit = (k : Listing) → (Contains new k) ↔ (Contains old k × (IsOf needs unit k → Contains keep k.need))

-- the unit is listed for these needs alone, and each other unit as before
abbrev pub Relists : List Listing → List Listing → List Need → ℕ → Type 0
Relists old new needs unit = (k : Listing) → (Contains new k) ↔ (((k.unit ≡ unit → ⊥) × Contains old k) ⊎ IsOf needs unit k)
