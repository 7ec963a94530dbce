-- What a seat knows, and what it is after a seat was made or taken back.
use Rattle.std.specs.Prelude.{ℕ, ◌+◌, List, [], ◌∷◌, ◌++◌, length, Some, None}
use Rattle.sg_turn.specs.declared.stage.Stage.TheVariants.{Outside, Joined}
use Rattle.sg_turn.specs.declared.view.View.{View}
use Rattle.sg_turn.specs.Stage.{draws_at, live_at}

module _ {E R : Type 0} where
  -- the first seat, which makes the others
  abbrev pub first_view : R → View E R
  first_view r = record { stage = Outside; number = 0; root = Some r; seen = []; mine = []; made = 1; kept = [] }

  -- a seat that was taken back knows nothing
  abbrev pub joined_view : View E R
  joined_view = record { stage = Joined; number = 0; root = None; seen = []; mine = []; made = 0; kept = [] }

  -- the seat that made another one makes no more
  abbrev pub former_maker : View E R → View E R
  former_maker v = record v { made = 0 }

  -- the seat that this one makes has the next number and the root, no entries, and nothing seen, and makes the next one
  abbrev pub new_maker : View E R → View E R
  new_maker v = record { stage = Outside; number = v.made; root = v.root; seen = []; mine = []; made = v.made + 1; kept = [] }

  -- v after it took w back: the entries of w, and of those that w took back, are kept with it
  abbrev pub gathering_view : View E R → View E R → View E R
  gathering_view v w = record v { kept = (w.number, w.mine) ∷ v.kept ++ w.kept }

  -- how many tickets the seat may have drawn beyond one for each of its entries
  abbrev pub draw_count : View E R → ℕ
  draw_count v = draws_at v.stage

  -- 1 until the seat is taken back
  abbrev pub live_count : View E R → ℕ
  live_count v = live_at v.stage

  -- how many seats it stands for: itself, and those that it took back
  abbrev pub weight : View E R → ℕ
  weight v = live_at v.stage + length v.kept

  -- f of each view, added up
  abbrev pub total : (View E R → ℕ) → List (View E R) → ℕ
  total f [] = 0
  total f (v ∷ vs) = f v + total f vs
