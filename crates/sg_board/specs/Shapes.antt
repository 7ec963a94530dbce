-- Which deques a worker uses.
use Rattle.std.specs.Prelude.{◌≡◌, ℕ, ◌+◌, List, All, map}
use Rattle.std.specs.declared.alloc.Global.{Global}
use Rattle.atomic_blocks.specs.Lent.{RowsId}
use Rattle.sg_board.specs.Weighing.{all_parts}

-- which deque it is
abbrev pub DequeId : Type 0
DequeId = RowsId × Global

-- a worker's own deque, with so many parts of the right to know the whole, and the deques that it takes from
pub record Shape : Type 0 where
  pub own : DequeId
  pub parts : ℕ
  pub ways : List DequeId

abbrev pub shape_of : DequeId → ℕ → List DequeId → Shape
shape_of d p ds = record { own = d; parts = p; ways = ds }

-- each of so many workers has ways to the deques of all, and all parts of its deque are with them
abbrev pub AreShapes : ℕ → List Shape → Type 0
AreShapes n ss = All (λ s. (s.ways ≡ map (λ x. x.own) ss) × (s.parts + n ≡ all_parts)) ss
