-- Where a seat stands.
use Rattle.std.specs.Prelude.{◌≡◌, ℕ, Bool, true, false}
use Rattle.sg_turn.specs.declared.stage.Stage.{Stage}
use Rattle.sg_turn.specs.declared.stage.Stage.TheVariants.{Outside, Drawn, Inside, Spent, Joined}

-- the seat was not taken back, has no ticket and has not the value
abbrev pub IsFree : Stage → Type 0
IsFree Outside = Unit {0}
IsFree (Drawn t) = ⊥
IsFree (Inside t) = ⊥
IsFree Spent = Unit {0}
IsFree Joined = ⊥

-- the seat has this ticket
abbrev pub Has : Stage → ℕ → Type 0
Has Outside t = ⊥
Has (Drawn u) t = u ≡ t
Has (Inside u) t = u ≡ t
Has Spent t = ⊥
Has Joined t = ⊥

-- the seat has the value
abbrev pub is_inside : Stage → Bool
is_inside Outside = false
is_inside (Drawn t) = false
is_inside (Inside t) = true
is_inside Spent = false
is_inside Joined = false

-- the seat has had its last turn
abbrev pub is_spent : Stage → Bool
is_spent Outside = false
is_spent (Drawn t) = false
is_spent (Inside t) = false
is_spent Spent = true
is_spent Joined = false

-- how many tickets the seat may have drawn beyond one for each of its entries
abbrev pub draws_at : Stage → ℕ
draws_at Outside = 0
draws_at (Drawn t) = 1
draws_at (Inside t) = 1
draws_at Spent = 1
draws_at Joined = 1

-- 1 until the seat is taken back
abbrev pub live_at : Stage → ℕ
live_at Outside = 1
live_at (Drawn t) = 1
live_at (Inside t) = 1
live_at Spent = 1
live_at Joined = 0
