-- What a scope of a held graph has.
use Rattle.std.specs.Prelude.{◌≡◌, ℕ, ◌<◌, List, map, ◌⊎◌, ◌↔◌, Bool, cond}
use Rattle.std.specs.List.{Contains, AllByRecursion}
use Rattle.std.specs.Ordering.{nat_cmp}
use Rattle.sg_base.specs.declared.scope.Scope.{Scope}
use Rattle.sg_base.specs.Label.{Has}
use Rattle.sg_base.specs.List.{IsRising}
use Rattle.sg_base.specs.Scope.{scope_cmp}
use Rattle.sg_state.specs.declared.row.Row.{Row}
use Rattle.sg_state.specs.declared.slot.Slot.{Slot}
use Rattle.sg_state.specs.declared.slot.Slot.TheVariants.{Waits, Empty}
use Rattle.sg_state.specs.Slot.{without_holder}

-- the rows of a scope by their labels, and its datum
pub record PlaceOf (D : Type 0) : Type 0 where
  pub rows : List (ℕ × Row)
  pub slot : Slot D

-- the row of the label has this target
abbrev pub HasTarget : {D : Type 0} → PlaceOf D → ℕ → Scope → Type 0
HasTarget p l t = (r : Row) × Contains p.rows (l, r) × Contains r.targets t

-- the unit holds the row of the label
abbrev pub HasHolder : {D : Type 0} → PlaceOf D → ℕ → ℕ → Type 0
HasHolder p l u = (r : Row) × Contains p.rows (l, r) × Contains r.holders u

-- each label stands once, in rising order and below 16, and the targets and holders of its row rise
pub record IsPlace {D : Type 0} (p : PlaceOf D) : Type 0 where
  pub labels_rise : IsRising nat_cmp (map (λ r. r.0) p.rows)
  pub labelled : AllByRecursion (λ r. r.0 < 16) p.rows
  pub targets_rise : AllByRecursion (λ r. IsRising scope_cmp (r.1).targets) p.rows
  pub holders_rise : AllByRecursion (λ r. IsRising nat_cmp (r.1).holders) p.rows

-- the scope has a row for the label
abbrev pub HasRow : {D : Type 0} → PlaceOf D → ℕ → Type 0
HasRow p l = (r : Row) × Contains p.rows (l, r)

-- the new place has the targets and the holders of the old one, and its datum
pub record KeepsPlace {D : Type 0} (old new : PlaceOf D) : Type 0 where
  pub targets : (l : ℕ) (t : Scope) → (HasTarget new l t) ↔ (HasTarget old l t)
  pub holders : (l u : ℕ) → (HasHolder new l u) ↔ (HasHolder old l u)
  pub slot : new.slot ≡ old.slot

-- the row of the label gets this target
pub record AddsTarget {D : Type 0} (old new : PlaceOf D) (l : ℕ) (to : Scope) : Type 0 where
  pub targets : (m : ℕ) (t : Scope) → (HasTarget new m t) ↔ (HasTarget old m t ⊎ ((m ≡ l) × (t ≡ to)))
  pub holders : (m u : ℕ) → (HasHolder new m u) ↔ (HasHolder old m u)
  pub slot : new.slot ≡ old.slot

-- the row of the label gets this holder
pub record AddsHolder {D : Type 0} (old new : PlaceOf D) (l unit : ℕ) : Type 0 where
  pub targets : (m : ℕ) (t : Scope) → (HasTarget new m t) ↔ (HasTarget old m t)
  pub holders : (m u : ℕ) → (HasHolder new m u) ↔ (HasHolder old m u ⊎ ((m ≡ l) × (u ≡ unit)))
  pub slot : new.slot ≡ old.slot

-- the row of the label loses this holder
pub record LosesHolder {D : Type 0} (old new : PlaceOf D) (l unit : ℕ) : Type 0 where
  pub targets : (m : ℕ) (t : Scope) → (HasTarget new m t) ↔ (HasTarget old m t)
  pub holders : (m u : ℕ) → (HasHolder new m u) ↔ (((m ≡ l) × (u ≡ unit) → ⊥) × HasHolder old m u)
  pub slot : new.slot ≡ old.slot

-- the rows lose this holder, and the datum too
pub record LosesUnit {D : Type 0} (old new : PlaceOf D) (unit : ℕ) : Type 0 where
  pub targets : (m : ℕ) (t : Scope) → (HasTarget new m t) ↔ (HasTarget old m t)
  pub holders : (m u : ℕ) → (HasHolder new m u) ↔ ((u ≡ unit → ⊥) × HasHolder old m u)
  pub slot : new.slot ≡ without_holder unit old.slot

-- the unit holds the rows of these labels, which have no target, and the datum where one is wanted
pub record IsFresh {D : Type 0} (p : PlaceOf D) (unit labels : ℕ) (datum : Bool) : Type 0 where
  pub place : IsPlace p
  pub targets : (l : ℕ) (t : Scope) → HasTarget p l t → ⊥
  pub holders : (l u : ℕ) → (HasHolder p l u) ↔ ((l < 16) × Has labels l × (u ≡ unit))
  pub slot : p.slot ≡ cond datum (Waits unit) Empty
