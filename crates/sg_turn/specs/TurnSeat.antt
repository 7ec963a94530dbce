-- What contracts see of a seat.
use Rattle.std.specs.Prelude.{◌≡◌, ℕ, Bool, false, List, [], ◌∷◌, Option, Some, None}
use mathlib.Core.Option.{some}
use lib.ListN.{get_elem?}
use Rattle.atomic_table.specs.Table.{Me}
use Rattle.atomic_table.specs.Seated.{TableId}
use Rattle.sg_turn.specs.declared.stage.Stage.{Stage}
use Rattle.sg_turn.specs.declared.stage.Stage.TheVariants.{Outside, Drawn, Inside, Spent, Joined}
use Rattle.sg_turn.specs.declared.view.View.{View}
use Rattle.sg_turn.specs.Stage.{is_inside, is_spent}

-- which lock the seat is of, its number, the root, the entries that it has seen, its own (`mine`), those of the seats that it took back (`kept`),
-- whether it has the value, and whether it has had its last turn
pub record Known (E R : Type 0) : Type 0 where
  pub turn : TableId
  pub number : ℕ
  pub root : Option R
  pub seen : List E
  pub mine : List E
  pub kept : List (ℕ × List E)
  pub inside : Bool
  pub spent : Bool

module _ {E R : Type 0} where
  -- what contracts see of a seat of this lock, by its view
  abbrev pub known : TableId → View E R → Known E R
  known z v = record { turn = z; number = v.number; root = v.root; seen = v.seen; mine = v.mine; kept = v.kept; inside = is_inside v.stage; spent = is_spent v.stage }

  -- the seat keeps these entries of the seat n, which it took back
  abbrev pub Keeps : View E R → ℕ → List E → Type 0
  Keeps v n es = (q : ℕ) × (get_elem? v.kept q ≡ some (n, es))

  -- a new seat, of this number
  abbrev pub fresh_seat : TableId → R → ℕ → Known E R
  fresh_seat z r n = record { turn = z; number = n; root = Some r; seen = []; mine = []; kept = []; inside = false; spent = false }

-- between two calls a seat waits for no ticket, and has the empty slot while it is inside
abbrev pub Sits : {S : Type 0} → Stage → List (ℕ × Option S) → Type 0
Sits Outside c = c ≡ []
Sits (Drawn t) c = ⊥
Sits {S = S} (Inside t) c = ◌≡◌ {A = List (ℕ × Option S)} c ((0, None) ∷ [])
Sits Spent c = c ≡ []
Sits Joined c = ⊥

-- a seat sits so, by the stage of its view and the slots that it has taken
abbrev pub Rests : {S E R : Type 0} → Me (Option S) (View E R) → Type 0
Rests m = Sits m.0.stage m.1
