-- The nine kinds of atomic step, and that each keeps the rule. A step changes the view of its own seat alone, except the making and the joining of a seat.
--
--   1  make a seat           the new view has its number, the root, no entries, and nothing seen           `new_maker`
--   2  join a seat           the joined view is spent; its entries are kept with the gathering seat       `gathering_view`, `joined_view`
--   3  draw a ticket         `next` becomes one more if it is the ticket that was meant: the seat has it   `Draws`
--   4  look at `serving`     one load: where its ticket is served, the seat takes the slot, and has        `Looks`
--                            seen the value's entries
--   5  value out of the slot no word, no view: a plain read and write of a slot that the seat has          `exchange` of the table
--   6  value into the slot   no word, no view                                                             `exchange` of the table
--   7  advance `serving`     by one: the slot is given back, the new entries, which all name the seat,     `Serves`
--                            join its own, seen is the value's entries, no ticket; without a new entry
--                            the seat is spent
--   8  mark `asleep`         one store of 0 or 1: no view                                                  `Marks`
--   9  park or wake          no word, no view, no seat                                                     `park`, `wake_one` of the table
use Rattle.std.specs.Prelude.{◌≡◌, ◌≢◌, ℕ, ◌+◌, ◌%◌, ◌<◌, ◌≤◌, ◌^◌, ◌==◌, List, [], ◌∷◌, ◌++◌, length, Option, Some, All}
use prog.Atomic.{either}
use Rattle.atomic_table.specs.Table.{Me, Step, Allows, Splits, Joins}
use Rattle.sg_turn.specs.declared.stage.Stage.TheVariants.{Outside, Drawn, Inside, Spent}
use Rattle.sg_turn.specs.declared.view.View.{View}
use Rattle.sg_turn.specs.Entries.{Begins, told_by}
use Rattle.sg_turn.specs.Stage.{IsFree}
use Rattle.sg_turn.specs.View.{former_maker, new_maker, gathering_view, joined_view}
use Rattle.sg_turn.specs.Rule.{IsInTurn}

module _ {E R : Type 0} where
  -- 3: the seat has the ticket that was meant, if that was next, and else nothing changes
  abbrev pub Draws : {S : Type 0} → Step S → Me S (View E R) → ℕ → Me S (View E R) → Type 0
  Draws st m next m' = (next ≡ st.first → m' ≡ (record m.0 { stage = Drawn st.first }, m.1)) × (next ≢ st.first → m' ≡ m)

  -- 8: nothing changes but the mark
  abbrev pub Marks : {S : Type 0} → Step S → Me S (View E R) → ℕ → Me S (View E R) → Type 0
  Marks st m asleep m' = m' ≡ m

module _ {S E R : Type 0} (entries : S → List E) (root : S → R) (teller : E → ℕ) where
  -- the seat m took the slot, with the value in it, at its ticket t
  pub record Takes (m m' : Me (Option S) (View E R)) (t : ℕ) : Type 0 where
    pub value : S
    pub view : m'.0 ≡ record m.0 { stage = Inside t; seen = entries value }
    pub slot : m'.1 ≡ (0, Some value) ∷ m.1
    -- the value's entries begin with all that the seat had seen
    pub begins : Begins m.0.seen (entries value)
    -- those that name the seat are its own
    pub own : told_by teller m.0.number (entries value) ≡ m.0.mine
    pub rooted : m.0.root ≡ Some (root value)

  -- 4: the seat takes the slot where its ticket is served, and else nothing changes
  abbrev pub Looks : Step (Option S) → Me (Option S) (View E R) → ℕ → Me (Option S) (View E R) → Type 0
  Looks st m serving m' = (t : ℕ) → m.0.stage ≡ Drawn t → (serving ≡ t → Takes m m' t) × (serving ≢ t → m' ≡ m)

module _ {E R : Type 0} where
  -- a turn of the seat v ended with these entries: without a new one it is spent, and else the new ones are its own
  abbrev pub Ends : View E R → List E → View E R → Type 0
  Ends v es w = (es ≡ v.seen → w ≡ record v { stage = Spent }) × ((more : List E) → 0 < length more → es ≡ v.seen ++ more → w ≡ record v { stage = Outside; seen = es; mine = v.mine ++ more })

  -- 7: the slot is given back with the value x in it
  abbrev pub Serves : {S : Type 0} → (S → List E) → Step (Option S) → Me (Option S) (View E R) → ℕ → Me (Option S) (View E R) → Type 0
  Serves {S = S} entries st m serving m' = (x : S) → m.1 ≡ (0, Some x) ∷ [] → (m'.1 ≡ []) × Ends m.0 (entries x) m'.0

  -- what a seat may give back: the entries that it found, and new ones behind them, which all name it
  abbrev pub Gives : {S : Type 0} → (S → List E) → (E → ℕ) → View E R → S → Type 0
  Gives entries teller v x = (more : List E) × (entries x ≡ v.seen ++ more) × All (λ e. teller e ≡ v.number) more

module _ {S E R : Type 0} (entries : S → List E) (root : S → R) (teller : E → ℕ) where
  -- Whatever the other threads do between two steps of a seat, each of its steps keeps the rule.
  -- `Allows rule slots seat view word change tells` says so of a step on one word, `Splits` and `Joins` of the making and the joining of a seat
  pub record StepsKeepRule : Type 0 where
    pub makes_seat : (base : R) (seats id : ℕ) (v : View E R) → v.stage ≡ Outside → 0 < v.made → v.made < seats
        → Splits (IsInTurn entries root teller base seats) id v (former_maker v) (new_maker v)
    pub joins_seat : (base : R) (seats id : ℕ) (v : View E R) (other : ℕ) (w : View E R) → IsFree v.stage → IsFree w.stage
        → Joins (IsInTurn entries root teller base seats) id v other w (gathering_view v w) joined_view
    pub draws_ticket : (base : R) (seats slots id : ℕ) (st : Step (Option S)) (m : Me (Option S) (View E R)) → m.0.stage ≡ Outside
        → Allows (IsInTurn entries root teller base seats) slots id m 0 (λ n. either (n == st.first) ((st.first + 1) % 2 ^ 64) n) (Draws st m)
    pub looks_at_serving : (base : R) (seats slots id : ℕ) (st : Step (Option S)) (m : Me (Option S) (View E R)) (t : ℕ) → m.0.stage ≡ Drawn t
        → Allows (IsInTurn entries root teller base seats) slots id m 1 (λ n. n) (Looks entries root teller st m)
    pub advances_serving : (base : R) (seats slots id : ℕ) (st : Step (Option S)) (m : Me (Option S) (View E R)) (t : ℕ) (x : S) → m.0.stage ≡ Inside t → m.1 ≡ (0, Some x) ∷ []
        → length (entries x) < 2 ^ 63 → m.0.root ≡ Some (root x) → Gives entries teller m.0 x
        → Allows (IsInTurn entries root teller base seats) slots id m 1 (λ n. (n + 1) % 2 ^ 64) (Serves entries st m)
    pub marks_asleep : (base : R) (seats slots id : ℕ) (st : Step (Option S)) (m : Me (Option S) (View E R)) (mark : ℕ) → mark ≤ 1
        → Allows (IsInTurn entries root teller base seats) slots id m 2 (λ n. mark) (λ n. Marks st m mark)
