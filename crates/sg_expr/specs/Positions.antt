-- Sets of positions and the words that they accept (Glushkov, "The abstract theory of automata", Russian Mathematical Surveys 16:5, 1961).
use Rattle.std.specs.Prelude.{ℕ, List, [], ◌∷◌, slice_index}
use Rattle.sg_base.specs.Label.{Has, Word}

-- the positions of an expression, which are the places where labels stand in it, by their numbers from 0, and sets of them by the bits of a
-- number: with what words begin, for each position what may come behind it, and for each label its positions. The bit 63 says that a word may end
pub record PositionsOf : Type 0 where
  pub first : ℕ
  pub behind : List ℕ
  pub places : List ℕ

-- the set with which the words of the expression begin
abbrev pub first_of : PositionsOf → ℕ
first_of p = p.first

-- the word is one that begins with a position of the set, or is empty where it may end there
abbrev pub Accepts : PositionsOf → ℕ → Word → Type 0
Accepts p set [] = Has set 63
Accepts p set (l ∷ w) = (n : ℕ) × Has set n × Has (slice_index p.places l) n × Accepts p (slice_index p.behind n) w
