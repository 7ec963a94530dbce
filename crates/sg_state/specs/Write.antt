-- The writes of a held graph, and what a list of them does.
use Rattle.std.specs.Prelude.{ℕ, ◌<◌, List, [], ◌∷◌, Bool, length}
use Rattle.sg_base.specs.declared.scope.Scope.{Scope}
use Rattle.sg_base.specs.Graph.{HasScope}
use Rattle.sg_base.specs.State.{Follows}
use Rattle.sg_state.specs.Held.{HeldOf, HoldsRow, HoldsDatum, IsHeld, state_of, with_fresh, with_edge, with_datum, without_row, without_unit}

-- a write, by the unit that makes it
pub data Write (D : Type 0) : Type 0 where
  fresh : ℕ → ℕ → Bool → Write D
  add_edge : ℕ → Scope → ℕ → Scope → Write D
  set_datum : ℕ → Scope → D → Write D
  close_row : ℕ → Scope → ℕ → Write D
  end_unit : ℕ → Write D

-- the unit may make the write
abbrev pub May : {D : Type 0} → HeldOf D → Write D → Type 0
May h (fresh u labels datum) = u < length h.made
May h (add_edge u s l t) = HoldsRow h u s l × HasScope h.graph t
May h (set_datum u s d) = HoldsDatum h u s
May h (close_row u s l) = HoldsRow h u s l
May h (end_unit u) = Unit {0}

-- the held graph after the write
abbrev pub after : {D : Type 0} → HeldOf D → Write D → HeldOf D
after h (fresh u labels datum) = with_fresh h u labels datum
after h (add_edge u s l t) = with_edge h (record { from = s; label = l; to = t })
after h (set_datum u s d) = with_datum h u s d
after h (close_row u s l) = without_row h u s l
after h (end_unit u) = without_unit h u

-- each write may be made after those before it
abbrev pub AreLawful : {D : Type 0} → HeldOf D → List (Write D) → Type 0
AreLawful h [] = Unit {0}
AreLawful h (w ∷ ws) = May h w × AreLawful (after h w) ws

-- the held graph after all writes of a list
abbrev pub after_all : {D : Type 0} → HeldOf D → List (Write D) → HeldOf D
after_all h [] = h
after_all h (w ∷ ws) = after_all (after h w) ws

-- after any list of writes the graph extends the state before them, and at scopes that were there before, what is open or unset was so
abbrev pub WritesExtend : Type 0 → Type 0
WritesExtend D = (h : HeldOf D) (ws : List (Write D)) → IsHeld h → AreLawful h ws → Follows (state_of h) (state_of (after_all h ws))
