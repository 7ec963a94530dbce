-- A held graph as the scopes with what they have.
use Rattle.std.specs.Prelude.{◌≡◌, ℕ, List, [], ◌∷◌, map, fold, Some, None, ◌<◌, ◌⊎◌, ◌↔◌, length, slice_index}
use Rattle.std.specs.BTreeMap.{is_at}
use Rattle.std.specs.List.{Contains, AllByRecursion, flat_map}
use Rattle.std.specs.Map.{lookup, set_value}
use Rattle.std.specs.Ordering.{nat_cmp, on}
use Rattle.sg_base.specs.declared.scope.Scope.{Scope}
use Rattle.sg_base.specs.Graph.{Edge}
use Rattle.sg_base.specs.List.{IsRising}
use Rattle.sg_base.specs.Scope.{scope_cmp}
use Rattle.sg_state.specs.declared.row.Row.{Row}
use Rattle.sg_state.specs.declared.slot.Slot.{Slot}
use Rattle.sg_state.specs.declared.slot.Slot.TheVariants.{Given, Waits, Empty}
use Rattle.sg_state.specs.Held.{HeldOf, RowHold, DatumHold, put}
use Rattle.sg_state.specs.Place.{PlaceOf, HasTarget, HasHolder, HasRow, IsPlace, LosesUnit}

-- scopes with what they have
pub record PlacesOf (D : Type 0) : Type 0 where
  pub entries : List (Scope × PlaceOf D)

-- entries in the rising order of their scopes
abbrev pub in_order : {V : Type 0} → List (Scope × V) → List (Scope × V)
in_order es = fold (put (on (λ p. p.0) scope_cmp)) [] es

-- the edges from a scope
abbrev pub edges_at : {D : Type 0} → Scope × PlaceOf D → List Edge
edges_at p = flat_map (λ r. map (λ t. record { from = p.0; label = r.0; to = t }) (r.1).targets) (p.1).rows

-- the holds of a scope's rows
abbrev pub row_holds_at : {D : Type 0} → Scope × PlaceOf D → List RowHold
row_holds_at p = flat_map (λ r. map (λ u. record { scope = p.0; label = r.0; unit = u }) (r.1).holders) (p.1).rows

-- the datum of a scope, if it is given
abbrev pub given_of : {D : Type 0} → Scope → Slot D → List (Scope × D)
given_of s (Given d) = (s, d) ∷ []
given_of s (Waits u) = []
given_of s Empty = []

-- the hold of a scope's datum, if it is unset
abbrev pub datum_hold_of : {D : Type 0} → Scope → Slot D → List DatumHold
datum_hold_of s (Given d) = []
datum_hold_of s (Waits u) = record { scope = s; unit = u } ∷ []
datum_hold_of s Empty = []

-- what the scopes with their places, the numbers of scopes made and the rest say
abbrev pub seen : {D : Type 0} → List (Scope × PlaceOf D) → List ℕ → List Edge → HeldOf D
seen ps made rest = record {
  graph = record {
    scopes = map (λ p. p.0) ps;
    edges = flat_map edges_at ps;
    given = flat_map (λ p. given_of p.0 (p.1).slot) ps;
  };
  row_holds = flat_map row_holds_at ps;
  datum_holds = flat_map (λ p. datum_hold_of p.0 (p.1).slot) ps;
  made = made;
  rest = rest;
}

-- each scope stands once, in rising order, with what a scope may have
pub record ArePlaces {D : Type 0} (es : List (Scope × PlaceOf D)) : Type 0 where
  pub keys_rise : IsRising scope_cmp (map (λ p. p.0) es)
  pub each : AllByRecursion (λ p. IsPlace p.1) es

-- the scope is there
abbrev pub HasKey : {D : Type 0} → List (Scope × PlaceOf D) → Scope → Type 0
HasKey {D} es s = (p : PlaceOf D) × Contains es (s, p)

-- the row of the scope and the label has this target
abbrev pub EdgeAt : {D : Type 0} → List (Scope × PlaceOf D) → Scope → ℕ → Scope → Type 0
EdgeAt {D} es s l t = (p : PlaceOf D) × Contains es (s, p) × HasTarget p l t

-- the row of the scope and the label has this holder
abbrev pub HoldAt : {D : Type 0} → List (Scope × PlaceOf D) → Scope → ℕ → ℕ → Type 0
HoldAt {D} es s l u = (p : PlaceOf D) × Contains es (s, p) × HasHolder p l u

-- the scope has a row for the label
abbrev pub RowAt : {D : Type 0} → List (Scope × PlaceOf D) → Scope → ℕ → Type 0
RowAt {D} es s l = (p : PlaceOf D) × Contains es (s, p) × HasRow p l

-- this is the row of the scope and the label
abbrev pub RowIs : {D : Type 0} → List (Scope × PlaceOf D) → Scope → ℕ → Row → Type 0
RowIs {D} es s l r = (p : PlaceOf D) × Contains es (s, p) × Contains p.rows (l, r)

-- the datum of the scope is this one
abbrev pub SlotAt : {D : Type 0} → List (Scope × PlaceOf D) → Scope → Slot D → Type 0
SlotAt {D} es s x = (p : PlaceOf D) × Contains es (s, p) × (p.slot ≡ x)

-- one scope's place is another in the new entries
abbrev pub ChangesPlace : {D : Type 0} → (PlaceOf D → PlaceOf D → Type 0) → List (Scope × PlaceOf D) → List (Scope × PlaceOf D) → Scope → Type 0
ChangesPlace {D} R old new s = (p : PlaceOf D) × (q : PlaceOf D) × (lookup (is_at (scope_cmp s)) old ≡ Some p) × (new ≡ set_value (is_at (scope_cmp s)) old q) × R p q × IsPlace q

-- the unit has left all that the scope has, or the scope is not there and nothing has changed
abbrev pub LeavesPlace : {D : Type 0} → List (Scope × PlaceOf D) → List (Scope × PlaceOf D) → Scope → ℕ → Type 0
LeavesPlace old new s unit =
    ChangesPlace (λ p q. LosesUnit p q unit) old new s ⊎ ((lookup (is_at (scope_cmp s)) old ≡ None) × (new ≡ old))

-- the unit has left all that the scopes of the list have
pub record LeavesAll {D : Type 0} (old new : List (Scope × PlaceOf D)) (list : List Scope) (unit : ℕ) : Type 0 where
  pub places : ArePlaces new
  pub keys : map (λ p. p.0) new ≡ map (λ p. p.0) old
  pub edges : (s : Scope) (l : ℕ) (t : Scope) → (EdgeAt new s l t) ↔ (EdgeAt old s l t)
  pub holds : (s : Scope) (l u : ℕ) → (HoldAt new s l u) ↔ (((u ≡ unit) × Contains list s → ⊥) × HoldAt old s l u)
  pub given : (s : Scope) (d : D) → (SlotAt new s (Given d)) ↔ (SlotAt old s (Given d))
  pub waits : (s : Scope) (u : ℕ) → (SlotAt new s (Waits u)) ↔ (((u ≡ unit) × Contains list s → ⊥) × SlotAt old s (Waits u))

-- the scope is in the unit's list
abbrev pub IsListed : List (ℕ × List Scope) → ℕ → Scope → Type 0
IsListed lists u s = (xs : List Scope) × Contains lists (u, xs) × Contains xs s

-- what is listed stays so
abbrev pub KeepsLists : List (ℕ × List Scope) → List (ℕ × List Scope) → Type 0
KeepsLists old new = (u : ℕ) (s : Scope) → IsListed old u s → IsListed new u s

-- edges lead to scopes, holds are listed for their units, which are units of the graph, and a unit has made the scopes with serials
-- below its number of them
pub record IsKept {D : Type 0} (es : List (Scope × PlaceOf D)) (made : List ℕ) (lists : List (ℕ × List Scope)) : Type 0 where
  pub places : ArePlaces es
  pub lists_rise : IsRising nat_cmp (map (λ p. p.0) lists)
  pub targets : (s : Scope) (l : ℕ) (t : Scope) → EdgeAt es s l t → HasKey es t
  pub row_listed : (s : Scope) (l u : ℕ) → HoldAt es s l u → (u < length made) × IsListed lists u s
  pub datum_listed : (s : Scope) (u : ℕ) → SlotAt es s (Waits u) → (u < length made) × IsListed lists u s
  pub serials : (s : Scope) → HasKey es s → s.unit < length made → s.serial < slice_index made s.unit

-- the places of these scopes have nothing yet
pub record AreBare {D : Type 0} (es : List (Scope × PlaceOf D)) (scopes : List Scope) : Type 0 where
  pub places : ArePlaces es
  pub keys : (s : Scope) → (HasKey es s) ↔ (Contains scopes s)
  pub edges : (s : Scope) (l : ℕ) (t : Scope) → EdgeAt es s l t → ⊥
  pub holds : (s : Scope) (l u : ℕ) → HoldAt es s l u → ⊥
  pub empty : (s : Scope) (p : PlaceOf D) → Contains es (s, p) → p.slot ≡ Empty

-- the scopes have got these edges, row holds, data and datum holds, each datum where none was given or held
pub record Gives {D : Type 0} (old new : List (Scope × PlaceOf D)) (more_edges : List Edge) (more_rows : List RowHold) (more_given : List (Scope × D)) (more_held : List DatumHold) : Type 0 where
  pub places : ArePlaces new
  pub keys : map (λ p. p.0) new ≡ map (λ p. p.0) old
  pub edges : (s : Scope) (l : ℕ) (t : Scope) → (EdgeAt new s l t) ↔ (EdgeAt old s l t ⊎ Contains more_edges (record { from = s; label = l; to = t }))
  pub holds : (s : Scope) (l u : ℕ) → (HoldAt new s l u) ↔ (HoldAt old s l u ⊎ Contains more_rows (record { scope = s; label = l; unit = u }))
  pub given : (s : Scope) (d : D) → (SlotAt new s (Given d)) ↔ (SlotAt old s (Given d) ⊎ Contains more_given (s, d))
  pub waits : (s : Scope) (u : ℕ) → (SlotAt new s (Waits u)) ↔ (SlotAt old s (Waits u) ⊎ Contains more_held (record { scope = s; unit = u }))
  pub empty : (s : Scope) → SlotAt old s Empty → (Contains (map (λ p. p.0) more_given) s → ⊥) → (Contains (map (λ k. k.scope) more_held) s → ⊥) → SlotAt new s Empty
