-- Kinds beside the positions of their expressions. No public contract speaks of these definitions.
use Rattle.std.specs.Prelude.{◌≡◌, ℕ, ◌<◌, ◌↔◌, List, length, slice_index_or}
use Rattle.sg_base.specs.Label.{Word}
use Rattle.sg_expr.specs.Positions.{PositionsOf, Accepts, first_of}
use Rattle.sg_expr.specs.Word.{In}
use Rattle.sg_query.specs.Query.{KindOf, kind_of}

-- the positions accept exactly the words of the kind's expression
abbrev pub IsPositionsOf : KindOf → PositionsOf → Type 0
IsPositionsOf k p = (w : Word) → (Accepts p (first_of p) w) ↔ (In k.expr w)

-- each kind has its positions at its place
pub record ArePositions (kinds : List KindOf) (positions : List PositionsOf) : Type 0 where
  pub size : length positions ≡ length kinds
  pub each : (i : ℕ) (p : PositionsOf) → i < length kinds → IsPositionsOf (kind_of kinds i) (slice_index_or positions i p)
