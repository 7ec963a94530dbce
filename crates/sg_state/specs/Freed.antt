-- Lists of needs that grow.
use Rattle.std.specs.Prelude.{ℕ, ◌≡◌, ◌<◌, List, [], ◌⊎◌, ◌↔◌, IsTrue}
use Rattle.std.specs.List.{Contains}
use Rattle.sg_base.specs.declared.scope.Scope.{Scope}
use Rattle.sg_base.specs.List.{IsRising}
use Rattle.sg_state.specs.declared.need.Need.{Need}
use Rattle.sg_state.specs.declared.need.Need.TheVariants.{Row, Datum}
use Rattle.sg_state.specs.Held.{HeldOf}
use Rattle.sg_state.specs.Need.{need_cmp, HoldsAlone}
use Rattle.sg_state.specs.Place.{PlaceOf, HasHolder}
use Rattle.sg_state.specs.Slot.{waits_for}
use Rattle.sg_state.specs.View.{seen}

-- the new list rises, and it lists what the old one lists, and the needs of this kind
pub record Adds (old new : List Need) (P : Need → Type 0) : Type 0 where
  pub rises : IsRising need_cmp new
  pub exact : (n : Need) → (Contains new n) ↔ (Contains old n ⊎ P n)

-- a row of a scope of the list
abbrev pub IsRowIn : List Scope → Need → Type 0
IsRowIn xs (Row s l) = Contains xs s × (l < 16)
IsRowIn xs (Datum s) = ⊥

-- the datum of a scope of the list
abbrev pub IsDatumIn : List Scope → Need → Type 0
IsDatumIn xs (Row s l) = ⊥
IsDatumIn xs (Datum s) = Contains xs s

-- what the scopes with their places hold, with no scope made and no rest
abbrev pub holds_of : {D : Type 0} → List (Scope × PlaceOf D) → HeldOf D
holds_of es = seen es [] []

-- the unit alone holds a row of a scope of the list
abbrev pub IsFreeRow : {D : Type 0} → HeldOf D → ℕ → List Scope → Need → Type 0
IsFreeRow h u xs n = HoldsAlone h u n × IsRowIn xs n

-- the unit alone holds the datum of a scope of the list
abbrev pub IsFreeDatum : {D : Type 0} → HeldOf D → ℕ → List Scope → Need → Type 0
IsFreeDatum h u xs n = HoldsAlone h u n × IsDatumIn xs n

-- the unit alone holds a row or the datum of a scope of the list
abbrev pub IsFree : {D : Type 0} → HeldOf D → ℕ → List Scope → Need → Type 0
IsFree h u xs n = IsFreeRow h u xs n ⊎ IsFreeDatum h u xs n

-- ---- at one scope

-- the unit holds the row of the label, and each unit that holds it is that one
abbrev pub HoldsRowAlone : {D : Type 0} → PlaceOf D → ℕ → ℕ → Type 0
HoldsRowAlone p u l = HasHolder p l u × ((v : ℕ) → HasHolder p l v → v ≡ u)

-- a row of the scope with a label below this one, which the unit alone holds
abbrev pub IsFreeBelow : {D : Type 0} → PlaceOf D → ℕ → Scope → ℕ → Need → Type 0
IsFreeBelow p u s k (Row t l) = HoldsRowAlone p u l × (t ≡ s) × (l < k)
IsFreeBelow p u s k (Datum t) = ⊥

-- the datum of the scope, which the unit holds
abbrev pub IsFreeSlot : {D : Type 0} → PlaceOf D → ℕ → Scope → Need → Type 0
IsFreeSlot p u s (Row t l) = ⊥
IsFreeSlot p u s (Datum t) = (t ≡ s) × IsTrue (waits_for p.slot u)
