-- Rows in parts: the targets of each key, and the rest.
use Rattle.std.specs.Prelude.{◌≡◌, ℕ, List, ◌⊎◌, ◌↔◌}
use Rattle.sg_base.specs.declared.scope.Scope.{Scope}
use Rattle.sg_base.specs.Graph.{HasScope, HasEdge}
use Rattle.sg_base.specs.State.{IsOpen}
use Rattle.sg_state.specs.Held.{HeldOf, IsHeld, IsRest, IsKeyed, state_of}
use Rattle.sg_state.specs.Write.{Write, AreLawful, after_all}

-- the targets with a key and the rest are the row, none is both, and each has one key
pub record AreRowsInParts {D : Type 0} (key : D → ℕ) (h : HeldOf D) : Type 0 where
  pub all : (s : Scope) (l : ℕ) (t : Scope) → (HasEdge h.graph s l t) ↔ (IsRest h s l t ⊎ ((k : ℕ) × IsKeyed key h s l k t))
  pub apart : (s : Scope) (l k : ℕ) (t : Scope) → IsRest h s l t → IsKeyed key h s l k t → ⊥
  pub one_key : (s : Scope) (l j k : ℕ) (t : Scope) → IsKeyed key h s l j t → IsKeyed key h s l k t → j ≡ k

-- each target keeps its part, and a row that was closed then has the same parts
pub record KeepsRows {D : Type 0} (key : D → ℕ) (before after : HeldOf D) : Type 0 where
  pub rest : (s : Scope) (l : ℕ) (t : Scope) → IsRest before s l t → IsRest after s l t
  pub keyed : (s : Scope) (l k : ℕ) (t : Scope) → IsKeyed key before s l k t → IsKeyed key after s l k t
  pub closed_rest : (s : Scope) (l : ℕ) (t : Scope) → HasScope before.graph s → (IsOpen (state_of before) s l → ⊥) → IsRest after s l t → IsRest before s l t
  pub closed_keyed : (s : Scope) (l k : ℕ) (t : Scope) → HasScope before.graph s → (IsOpen (state_of before) s l → ⊥) → IsKeyed key after s l k t → IsKeyed key before s l k t

-- the parts of each row of a held graph are the row
abbrev pub RowsSplit : Type 0 → Type 0
RowsSplit D = (key : D → ℕ) (h : HeldOf D) → IsHeld h → AreRowsInParts key h

-- after any list of writes each target keeps its part, and a row that was closed before them has the same parts
abbrev pub RestStays : Type 0 → Type 0
RestStays D = (key : D → ℕ) (h : HeldOf D) (ws : List (Write D)) → IsHeld h → AreLawful h ws → KeepsRows key h (after_all h ws)
