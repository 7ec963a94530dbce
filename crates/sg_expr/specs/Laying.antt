-- Where the positions of an expression are laid. No public contract speaks of these definitions.
use Rattle.std.specs.Prelude.{◌≡◌, ℕ, ◌+◌, ◌*◌, ◌%◌, ◌^◌, ◌<◌, List, Bool, true, false, cond, ◌&&◌, ◌||◌, IsTrue, ◌↔◌, length, slice_index, bit_or}
use Rattle.sg_base.specs.Label.{Has, Word}
use Rattle.sg_expr.specs.Positions.{PositionsOf, Accepts}
use Rattle.sg_expr.specs.Tree.{ExprOf, no_word, empty_word, one_label, in_turn, either_of, repeated}

-- whether the empty word is in the expression
abbrev pub is_nullable : ExprOf → Bool
is_nullable no_word = false
is_nullable empty_word = true
is_nullable (one_label l) = false
is_nullable (in_turn a b) = is_nullable a && is_nullable b
is_nullable (either_of a b) = is_nullable a || is_nullable b
is_nullable (repeated a) = true

-- whether some word is in the expression
abbrev pub is_live : ExprOf → Bool
is_live no_word = false
is_live empty_word = true
is_live (one_label l) = true
is_live (in_turn a b) = is_live a && is_live b
is_live (either_of a b) = is_live a || is_live b
is_live (repeated a) = true

-- how many positions an expression has: one for each of its labels, but none in front of a part that has no word
abbrev pub places_of : ExprOf → ℕ
places_of no_word = 0
places_of empty_word = 0
places_of (one_label l) = 1
places_of (in_turn a b) = cond (is_live b) (places_of b + places_of a) 0
places_of (either_of a b) = places_of a + places_of b
places_of (repeated a) = places_of a

-- the set of one number
abbrev pub only : ℕ → ℕ
only n = 1 * 2 ^ n % 2 ^ 64

-- the positions with which the words of an expression begin whose positions are laid from a number on
abbrev pub first_at : ExprOf → ℕ → ℕ
first_at no_word n = 0
first_at empty_word n = 0
first_at (one_label l) n = only n
first_at (in_turn a b) n =
    cond (is_live b) (cond (is_nullable a) (bit_or (first_at a (n + places_of b)) (first_at b n)) (first_at a (n + places_of b))) 0
first_at (either_of a b) n = bit_or (first_at a n) (first_at b (n + places_of a))
first_at (repeated a) n = first_at a n

-- the same, and what may come behind the expression where it has the empty word
abbrev pub begin_at : ExprOf → ℕ → ℕ → ℕ
begin_at e n rest = cond (is_nullable e) (bit_or (first_at e n) rest) (first_at e n)

-- in these lists the positions of the expression are laid from a number on, and behind it may come what is in a set
abbrev pub IsLaid : List ℕ → List ℕ → ExprOf → ℕ → ℕ → Type 0
IsLaid behind places no_word n rest = Unit {0}
IsLaid behind places empty_word n rest = Unit {0}
IsLaid behind places (one_label l) n rest = (slice_index behind n ≡ rest) × ((m : ℕ) → (Has (slice_index places m) n) ↔ (m ≡ l))
IsLaid behind places (in_turn a b) n rest =
    IsTrue (is_live b) → IsLaid behind places b n rest × IsLaid behind places a (n + places_of b) (begin_at b n rest)
IsLaid behind places (either_of a b) n rest = IsLaid behind places a n rest × IsLaid behind places b (n + places_of a) rest
IsLaid behind places (repeated a) n rest = IsLaid behind places a n (bit_or (first_at a n) rest)

-- no label has a position beyond the first list
abbrev pub AreWithin : List ℕ → List ℕ → Type 0
AreWithin behind places = (l n : ℕ) → Has (slice_index places l) n → n < length behind

-- the positions below a number are the same
abbrev pub AreKept : ℕ → List ℕ → List ℕ → List ℕ → List ℕ → Type 0
AreKept below behind places behind' places' =
    (n : ℕ) → n < below → (slice_index behind' n ≡ slice_index behind n) × ((l : ℕ) → (Has (slice_index places' l) n) ↔ (Has (slice_index places l) n))

-- the positions of the expression are laid behind those that were there
pub record Lays (e : ExprOf) (rest : ℕ) (behind places behind' places' : List ℕ) : Type 0 where
  pub size : length behind' ≡ length behind + places_of e
  pub labels : length places' ≡ length places
  pub within : AreWithin behind' places'
  pub kept : AreKept (length behind) behind places behind' places'
  pub laid : IsLaid behind' places' e (length behind) rest

-- behind each position some word is accepted
abbrev pub AreLive : PositionsOf → Type 0
AreLive p = (l n : ℕ) → Has (slice_index p.places l) n → (w : Word) × Accepts p (slice_index p.behind n) w
