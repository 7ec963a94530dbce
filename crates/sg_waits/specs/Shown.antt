-- What a stuck table shows: who waits for what, and who holds it.
use Rattle.std.specs.Prelude.{◌≡◌, ℕ, ◌≤◌, List, [], ◌∷◌, ◌++◌, ◌⊎◌, ◌↔◌, Option, Some, None, min, cond, zero, suc}
use Rattle.std.specs.BTreeMap.{is_at}
use Rattle.std.specs.List.{Contains}
use Rattle.std.specs.Map.{lookup}
use Rattle.std.specs.Ordering.{nat_cmp, on}
use Rattle.std.specs.declared.cmp.Ordering.TheVariants.{Less}
use Rattle.sg_base.specs.List.{IsRising}
use Rattle.sg_state.specs.declared.need.Need.{Need}
use Rattle.sg_state.specs.Need.{need_cmp, need_order}
use Rattle.sg_waits.specs.declared.shown.ShownItem.{ShownItem}
use Rattle.sg_waits.specs.Waits.{WaitsOf, IsWaiting, needs_at}

-- the least need of a list
abbrev pub IsLeastNeed : List Need → Need → Type 0
IsLeastNeed ns n = Contains ns n × ((m : Need) → Contains ns m → (m ≡ n) ⊎ (need_cmp n m ≡ Less))

-- the least holder of a need, as listed
abbrev pub IsLeastHolder : List (Need × ℕ) → Need → ℕ → Type 0
IsLeastHolder hs n h = Contains hs (n, h) × ((k : ℕ) → Contains hs (n, k) → h ≤ k)

-- the list names a holder for the least need of each waiting unit
abbrev pub NamesHolders : WaitsOf → List (Need × ℕ) → Type 0
NamesHolders ws hs = (u : ℕ) (n : Need) → IsLeastNeed (needs_at ws u) n → (h : ℕ) × Contains hs (n, h)

-- one item for each waiting unit, in rising order of units, with its least need and the least holder of that
pub record AreShown (ws : WaitsOf) (hs : List (Need × ℕ)) (items : List ShownItem) : Type 0 where
  pub rising : IsRising (on (λ i. i.unit) nat_cmp) items
  pub exact : (i : ShownItem) → (Contains items i) ↔ (IsLeastNeed (needs_at ws i.unit) i.need × IsLeastHolder hs i.need i.holder)
  pub each : (u : ℕ) → IsWaiting ws u → (i : ShownItem) × Contains items i × (i.unit ≡ u)

-- ---- how it is found

-- what is known of the least holder of a need: none is listed, or this one
abbrev pub IsLeastAt : List (Need × ℕ) → Need → Option ℕ → Type 0
IsLeastAt hs n None = (h : ℕ) → Contains hs (n, h) → ⊥
IsLeastAt hs n (Some h) = IsLeastHolder hs n h

-- the less of a holder and one that is known
abbrev pub less_of : ℕ → Option ℕ → ℕ
less_of h None = h
less_of h (Some k) = min h k

-- what the entries have at a need
abbrev pub holder_at : List (Need × ℕ) → Need → Option ℕ
holder_at es n = lookup (is_at (need_order n)) es

-- the entries in which the need has this holder too
abbrev pub Lowers : List (Need × ℕ) → List (Need × ℕ) → Need → ℕ → Type 0
Lowers old new n h = (m : Need) → holder_at new m ≡ cond (is_at (need_order n) m) (Some (less_of h (holder_at old m))) (holder_at old m)

-- the item of a unit with this need, if it has this holder
abbrev pub held_item : Option ℕ → Need → ℕ → List ShownItem
held_item None n u = []
held_item (Some h) n u = record { unit = u; need = n; holder = h } ∷ []

-- the item of a unit with these needs, by entries of holders
abbrev pub item_of : List Need → List (Need × ℕ) → ℕ → List ShownItem
item_of [] es u = []
item_of (n ∷ ns) es u = held_item (holder_at es n) n u

-- the items of the units below a number
abbrev pub items_below : WaitsOf → List (Need × ℕ) → ℕ → List ShownItem
items_below ws es zero = []
items_below ws es (suc u) = items_below ws es u ++ item_of (needs_at ws u) es u
