-- Units that wait: what they need, who wakes them, and when no unit can go on.
use Rattle.std.specs.Prelude.{◌≡◌, ℕ, ◌<◌, List, [], IsTrue, ◌↔◌}
use Rattle.std.specs.List.{Contains}
use Rattle.std.specs.Ordering.{nat_cmp}
use Rattle.std.specs.declared.cmp.Ordering.TheVariants.{Less}
use Rattle.sg_base.specs.List.{IsRising}
use Rattle.sg_base.specs.State.{State, IsOpen, IsUnset}
use Rattle.sg_query.specs.declared.query.Query.{Query}
use Rattle.sg_query.specs.Query.{Asked}
use Rattle.sg_query.specs.State.{RowBlocks, DatumBlocks, IsSettled}
use Rattle.sg_state.specs.declared.need.Need.{Need}
use Rattle.sg_state.specs.declared.need.Need.TheVariants.{Row, Datum}
use Rattle.sg_state.specs.Held.{HeldOf, state_of}
use Rattle.sg_state.specs.Need.{need_cmp, Holds}
use Rattle.sg_unit.specs.Run.{Setting, RunOf, open_ask, asked_by}

-- it blocks the query
abbrev pub Blocks : {D : Type 0} → State D → Asked D → Need → Type 0
Blocks h q (Row s l) = RowBlocks h q s l
Blocks h q (Datum s) = DatumBlocks h q s

-- the row is open, or the datum unset
abbrev pub IsStillOpen : {D : Type 0} → State D → Need → Type 0
IsStillOpen h (Row s l) = IsOpen h s l
IsStillOpen h (Datum s) = IsUnset h s

-- the unit waits, and this blocks its query
abbrev pub WaitsOn : {D P : Type 0} → Setting D P → RunOf D P → ℕ → Need → Type 0
WaitsOn {D} {P} z r u n = IsTrue (r.waits u) × ((q : Query P) × (m : ℕ) × (r.asks u ≡ open_ask q m) × Blocks (state_of r.held) (asked_by z q) n)

-- the unit waits for something that is no longer open in the later held graph
abbrev pub Wakes : {D P : Type 0} → Setting D P → RunOf D P → HeldOf D → ℕ → Type 0
Wakes z r h u = (n : Need) × WaitsOn z r u n × (IsStillOpen (state_of h) n → ⊥)

-- these are the units that the write wakes which leads to this held graph, in rising order
abbrev pub IsWoken : {D P : Type 0} → Setting D P → RunOf D P → HeldOf D → List ℕ → Type 0
IsWoken z r h woken = IsRising nat_cmp woken × ((u : ℕ) → (Contains woken u) ↔ (Wakes z r h u))

-- some unit is live, and every live unit waits
abbrev pub IsStuck : {D P : Type 0} → RunOf D P → Type 0
IsStuck r = ((u : ℕ) × IsTrue (r.live u)) × ((u : ℕ) → IsTrue (r.live u) → IsTrue (r.waits u))

-- this is the least need of the unit, and the least holder of that need
pub record IsShown {D P : Type 0} (z : Setting D P) (r : RunOf D P) (u : ℕ) (n : Need) (holder : ℕ) : Type 0 where
  pub needs : WaitsOn z r u n
  pub least : (m : Need) → WaitsOn z r u m → need_cmp m n ≡ Less → ⊥
  pub holds : Holds r.held holder n
  pub first : (v : ℕ) → Holds r.held v n → v < holder → ⊥

-- the unit has an open ask that is not settled, all that blocks it has a live holder, and something does
pub record IsHeldUp {D P : Type 0} (z : Setting D P) (r : RunOf D P) (u : ℕ) : Type 0 where
  pub query : Query P
  pub count : ℕ
  pub asks : r.asks u ≡ open_ask query count
  pub live : IsTrue (r.live u)
  pub unsettled : IsSettled (state_of r.held) (asked_by z query) → ⊥
  pub holders : (n : Need) → Blocks (state_of r.held) (asked_by z query) n → (v : ℕ) × Holds r.held v n × IsTrue (r.live v)
  pub some_need : (ns : List Need) → ((n : Need) → (Contains ns n) ↔ (Blocks (state_of r.held) (asked_by z query) n)) → ns ≡ [] → ⊥
