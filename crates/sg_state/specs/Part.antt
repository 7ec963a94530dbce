-- Parts of rows: the targets of one key, and the rest.
use Rattle.std.specs.Prelude.{◌≡◌, ℕ, List, [], map, fold, ◌⊎◌, ◌↔◌}
use Rattle.std.specs.List.{Contains, flat_map}
use Rattle.sg_base.specs.declared.scope.Scope.{Scope}
use Rattle.sg_base.specs.Graph.{Edge, edge_cmp}
use Rattle.sg_state.specs.declared.part.Part.{Part}
use Rattle.sg_state.specs.declared.part.Part.TheVariants.{Keyed, Rest}
use Rattle.sg_state.specs.declared.slot.Slot.TheVariants.{Given}
use Rattle.sg_state.specs.Held.{put}
use Rattle.sg_state.specs.Place.{PlaceOf}
use Rattle.sg_state.specs.View.{EdgeAt, SlotAt}

-- parts with their targets
pub record PartsOf : Type 0 where
  pub entries : List (Part × List Scope)

-- the scope of the part's row
abbrev pub scope_of : Part → Scope
scope_of (Keyed s l k) = s
scope_of (Rest s l) = s

-- the part has this target
abbrev pub HasIn : List (Part × List Scope) → Part → Scope → Type 0
HasIn ps p t = (xs : List Scope) × Contains ps (p, xs) × Contains xs t

-- the edges of a part, if it is the rest of a row
abbrev pub rest_of : Part → List Scope → List Edge
rest_of (Keyed s l k) ts = []
rest_of (Rest s l) ts = map (λ t. record { from = s; label = l; to = t }) ts

-- the edges of all that is rest, in rising order
abbrev pub rest_in : List (Part × List Scope) → List Edge
rest_in ps = fold (put edge_cmp) [] (flat_map (λ p. rest_of p.0 p.1) ps)

-- the parts have the targets that they had
abbrev pub KeepsParts : List (Part × List Scope) → List (Part × List Scope) → Type 0
KeepsParts old new = (p : Part) (t : Scope) → (HasIn new p t) ↔ (HasIn old p t)

-- the part gets this target
abbrev pub AddsIn : List (Part × List Scope) → List (Part × List Scope) → Part → Scope → Type 0
AddsIn old new p t = (q : Part) (x : Scope) → (HasIn new q x) ↔ (HasIn old q x ⊎ ((q ≡ p) × (x ≡ t)))

-- the part loses this target
abbrev pub LosesIn : List (Part × List Scope) → List (Part × List Scope) → Part → Scope → Type 0
LosesIn old new p t = (q : Part) (x : Scope) → (HasIn new q x) ↔ (((q ≡ p) × (x ≡ t) → ⊥) × HasIn old q x)

-- the target of an edge of this row belongs to this part: its datum has the key, or it has no datum
abbrev pub IsPartOf : {D : Type 0} → (D → ℕ) → List (Scope × PlaceOf D) → Scope → ℕ → Scope → Part → Type 0
IsPartOf {D} key es s l t (Keyed r m k) = (r ≡ s) × (m ≡ l) × (d : D) × SlotAt es t (Given d) × (key d ≡ k)
IsPartOf {D} key es s l t (Rest r m) = (r ≡ s) × (m ≡ l) × ((d : D) → SlotAt es t (Given d) → ⊥)

-- the parts have the targets of these edges, by their data
pub record ArePartsOf {D : Type 0} (key : D → ℕ) (es : List (Scope × PlaceOf D)) (edges : List Edge) (ps : List (Part × List Scope)) : Type 0 where
  pub keyed : (s : Scope) (l k : ℕ) (t : Scope) → (HasIn ps (Keyed s l k) t) ↔ (Contains edges (record { from = s; label = l; to = t }) × (d : D) × SlotAt es t (Given d) × (key d ≡ k))
  pub rest : (s : Scope) (l : ℕ) (t : Scope) → (HasIn ps (Rest s l) t) ↔ (Contains edges (record { from = s; label = l; to = t }) × ((d : D) → SlotAt es t (Given d) → ⊥))

-- the parts have the targets of the rows, each in one of them; a target with a key has a datum of that key
pub record AreParts {D : Type 0} (key : D → ℕ) (es : List (Scope × PlaceOf D)) (ps : List (Part × List Scope)) : Type 0 where
  pub keyed : (s : Scope) (l k : ℕ) (t : Scope) → HasIn ps (Keyed s l k) t → EdgeAt es s l t × (d : D) × SlotAt es t (Given d) × (key d ≡ k)
  pub rest : (s : Scope) (l : ℕ) (t : Scope) → HasIn ps (Rest s l) t → EdgeAt es s l t
  pub each : (s : Scope) (l : ℕ) (t : Scope) → EdgeAt es s l t → HasIn ps (Rest s l) t ⊎ ((d : D) × SlotAt es t (Given d) × HasIn ps (Keyed s l (key d)) t)
  pub apart : (s : Scope) (l k : ℕ) (t : Scope) → HasIn ps (Rest s l) t → HasIn ps (Keyed s l k) t → ⊥
