-- The rule of the lock's table, which holds between any two atomic steps.
-- Word 0 is `next`, the next ticket, word 1 is `serving`, the ticket that is served, and word 2 is `asleep`, which is 1 where a thread may be asleep. The one slot has the value, or nothing while the served seat has it.
-- The entries that the rule speaks of, `log`, are those of the value as of the last advance of `serving`. Before the first advance there are none.
use Rattle.std.specs.Prelude.{◌≡◌, ℕ, ◌+◌, ◌<◌, ◌≤◌, ◌^◌, List, [], ◌∷◌, length, Option, Some, All}
use mathlib.Core.Option as maybe
use lib.ListN.{get_elem?}
use Rattle.atomic_table.specs.Table.{State}
use Rattle.sg_turn.specs.declared.stage.Stage.{Stage}
use Rattle.sg_turn.specs.declared.stage.Stage.TheVariants.{Outside, Drawn, Inside, Spent, Joined}
use Rattle.sg_turn.specs.declared.view.View.{View}
use Rattle.sg_turn.specs.Entries.{Begins, told_by}
use Rattle.sg_turn.specs.Stage.{Has}
use Rattle.sg_turn.specs.View.{joined_view, draw_count, weight, total}

module _ {S E R : Type 0} (entries : S → List E) (root : S → R) (teller : E → ℕ) where
  -- what holds of a seat j that was not taken back
  pub record SeatKnows (base : R) (log : List E) (views : List (View E R)) (j : ℕ) (v : View E R) : Type 0 where
    -- seats are numbered as they were made, so no two have one number
    pub numbered : v.number ≡ j
    -- the root is that of the value which the lock was made with
    pub rooted : v.root ≡ Some base
    -- what the seat has seen begins the entries
    pub begins : Begins v.seen log
    -- the entries that name the seat are its own
    pub own : told_by teller v.number log ≡ v.mine
    -- who makes the next seat was made last, and knows how many there are
    pub maker : 0 < v.made → (v.made ≡ j + 1) × (v.made ≡ length views)
    -- of a seat that it took back, the entries that name that seat are those that it keeps
    pub kept : (n : ℕ) (es : List E) (q : ℕ) → get_elem? v.kept q ≡ maybe.some (n, es) → (told_by teller n log ≡ es) × (get_elem? views n ≡ maybe.some joined_view)

  module _ (base : R) (seats : ℕ) (log : List E) (next serving : ℕ) (views : List (View E R)) where
    -- What holds of the seat j at each stage. A ticket that is out lies from `serving` up to `next`.
    -- A seat that has the value has the served ticket, and has seen all entries
    abbrev pub Knows : ℕ → View E R → Stage → Type 0
    Knows j v Outside = SeatKnows base log views j v
    Knows j v (Drawn t) = SeatKnows base log views j v × (serving ≤ t) × (t < next)
    Knows j v (Inside t) = SeatKnows base log views j v × (t ≡ serving) × (t < next) × (v.seen ≡ log)
    Knows j v Spent = SeatKnows base log views j v
    Knows j v Joined = v ≡ joined_view

    -- the value is at home, with these entries and this root, or the served seat has it
    abbrev pub IsPlaced : maybe.Option (Option S) → Type 0
    IsPlaced maybe.none = (j : ℕ) × (v : View E R) × (get_elem? views j ≡ maybe.some v) × (v.stage ≡ Inside serving)
    IsPlaced (maybe.some y) = (x : S) × (y ≡ Some x) × (entries x ≡ log) × (root x ≡ base)

    -- the rule, of plain numbers and lists
    pub record IsRuled (home : maybe.Option (Option S)) : Type 0 where
      pub order : serving ≤ next
      pub short : length log < 2 ^ 63
      pub few : (length views ≤ seats) × (seats < 2 ^ 32)
      -- each seat that was made stands for itself, or was taken back by one that stands for it
      pub weights : total weight views ≡ length views
      -- a seat has drawn one ticket more than it has entries, at most
      pub drawn : next ≤ length log + total draw_count views
      pub place : IsPlaced home
      -- no entry names a seat that was not made
      pub strangers : (n : ℕ) → length views ≤ n → told_by teller n log ≡ []
      pub each : (j : ℕ) (v : View E R) → get_elem? views j ≡ maybe.some v → Knows j v v.stage
      -- each ticket that is out is held by a seat
      pub held : (t : ℕ) → serving ≤ t → t < next → (j : ℕ) × (v : View E R) × (get_elem? views j ≡ maybe.some v) × Has v.stage t
      -- and by no other
      pub apart : (i j t : ℕ) (v w : View E R) → get_elem? views i ≡ maybe.some v → get_elem? views j ≡ maybe.some w → Has v.stage t → Has w.stage t → i ≡ j

  -- the rule of the table of a lock, whose value was made with the root `base`, and which has so many seats at most
  pub record IsInTurn (base : R) (seats : ℕ) (s : State (Option S) (View E R)) : Type 0 where
    pub log : List E
    pub next : ℕ
    pub serving : ℕ
    pub asleep : ℕ
    pub home : maybe.Option (Option S)
    pub words : s.words ≡ next ∷ serving ∷ asleep ∷ []
    pub slots : s.homes ≡ home ∷ []
    pub ruled : IsRuled base seats log next serving s.views home
    pub marked : asleep ≤ 1

  -- under the rule the tickets and the mark fit their words, also the next one: no addition to a word wraps
  abbrev pub TicketsFit : Type 0
  TicketsFit = (base : R) (seats : ℕ) (s : State (Option S) (View E R)) → IsInTurn base seats s → All (λ n. n + 1 < 2 ^ 64) s.words
