-- What contracts see of a lock.
use Rattle.std.specs.Prelude.{◌≡◌, ℕ, zero, suc, List, [], ◌∷◌, ◌++◌, Some}
use Rattle.atomic_table.specs.Seated.{TableId}
use Rattle.atomic_table.specs.declared.shared.Seat.{Seat}
use Rattle.sg_turn.specs.TurnSeat.{Known, fresh_seat}

-- which lock it is, the root of its value, and how many seats it has
pub record Lock (R : Type 0) : Type 0 where
  pub turn : TableId
  pub root : R
  pub seats : ℕ

module _ {E R : Type 0} where
  -- a seat of this lock
  abbrev pub IsOf : Lock R → Known E R → Type 0
  IsOf lock s = (s.turn ≡ lock.turn) × (s.root ≡ Some lock.root)

  -- the first n seats of a lock, new, in the order of their numbers
  abbrev pub fresh_seats : TableId → R → ℕ → List (Known E R)
  fresh_seats z r zero = []
  fresh_seats z r (suc n) = fresh_seats z r n ++ fresh_seat z r n ∷ []

-- a table of three words and a slot
abbrev pub IsSized : TableId → Type 0
IsSized z = (z.words ≡ 3) × (z.slots ≡ 1)

-- the same seat of the same table
abbrev pub IsSame : {S V : Type 0} → Seat S V → Seat S V → Type 0
IsSame s t = (t.table_id ≡ s.table_id) × (t.id ≡ s.id)
