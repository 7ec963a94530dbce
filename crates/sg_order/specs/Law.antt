-- Laws of orders.
use Rattle.std.specs.Prelude.{ℕ, ◌<◌, List, Bool}
use Rattle.std.specs.List.{Contains}
use Rattle.sg_base.specs.declared.mark.Mark.{Mark}
use Rattle.sg_base.specs.declared.step.Step.{Step}
use Rattle.sg_order.specs.Mark.{Precedes}
use Rattle.sg_order.specs.Order.{IsStrict}
use Rattle.sg_order.specs.Path.{IsPathBefore}

-- in a strict order of marks no path comes before itself
abbrev pub NoPathIsBeforeItself : Type 0
NoPathIsBeforeItself = (order : Mark → Mark → Bool) → IsStrict order → (ps : List Step) → IsPathBefore order ps ps → ⊥

-- and a path comes before all that a path behind it comes before
abbrev pub PathsAreChained : Type 0
PathsAreChained = (order : Mark → Mark → Bool) → IsStrict order → (ps qs rs : List Step) → IsPathBefore order ps qs → IsPathBefore order qs rs → IsPathBefore order ps rs

-- where each pair rises in some rank of marks, no mark comes before itself by the pairs
abbrev pub RisingPairsAreStrict : Type 0
RisingPairsAreStrict =
    (pairs : List (Mark × Mark)) (rank : Mark → ℕ) → ((a b : Mark) → Contains pairs (a, b) → rank a < rank b) → (m : Mark) → Precedes pairs m m → ⊥
