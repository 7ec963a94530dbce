use Rattle.std.specs.Prelude.{ℕ, List, [], ◌∷◌, ◌<◌, length}
use Rattle.std.proofs.Common.{slice_index_or, arith}
use Rattle.std.specs.List.{Contains}
use Rattle.sg_base.proofs.Finite.{Contains-head}
use Rattle.sg_state_tests.proofs.scripts.first_holder.Goals as goal

-- the first thing of a list is in it
first_in : (xs : List ℕ) → 0 < length xs → Contains xs (slice_index_or xs 0 0)
first_in [] h = absurd (omega (arith, h))
first_in (x ∷ xs) h = Contains-head x xs

pub returns-in-len1-up : goal.returns-in-len1-up
returns-in-len1-up c = (c.holders.ensures.exact (slice_index_or c.holders.result.now 0 0)).0 (first_in c.holders.result.now c.in-len1-up.len_at_least)
