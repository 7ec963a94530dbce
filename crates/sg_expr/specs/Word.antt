-- The words of a path expression (path well-formedness; Neron et al., "A Theory of Name Resolution", ESOP 2015).
use Rattle.std.specs.Prelude.{◌≡◌, ◌≢◌, ℕ, ◌+◌, List, [], ◌∷◌, ◌++◌, ◌⊎◌}
use Rattle.std.specs.List.{concat}
use Rattle.sg_base.specs.Label.{Word}
use Rattle.sg_expr.specs.Tree.{ExprOf, no_word, empty_word, one_label, in_turn, either_of, repeated}

-- each word of the list is one of these words
abbrev pub EachWord : (Word → Type 0) → List Word → Type 0
EachWord A [] = Unit {0}
EachWord A (w ∷ ws) = A w × EachWord A ws

-- the word splits into a word of the first kind and a word of the second
abbrev pub Splits : (Word → Type 0) → (Word → Type 0) → Word → Type 0
Splits A B w = (u : Word) × (v : Word) × (w ≡ u ++ v) × A u × B v

-- the word is a chain of any number of these words
abbrev pub Chain : (Word → Type 0) → Word → Type 0
Chain A w = (ws : List Word) × (w ≡ concat ws) × EachWord A ws

-- the word is in the expression
abbrev pub In : ExprOf → Word → Type 0
In no_word w = ⊥
In empty_word w = w ≡ []
In (one_label l) w = w ≡ l ∷ []
In (in_turn a b) w = Splits (In a) (In b) w
In (either_of a b) w = In a w ⊎ In b w
In (repeated a) w = Chain (In a) w

-- some word of the expression has this word as a prefix
abbrev pub IsViable : ExprOf → Word → Type 0
IsViable e w = (v : Word) × In e (w ++ v)

-- some longer word of the expression has this word as a prefix
abbrev pub IsContinuable : ExprOf → Word → Type 0
IsContinuable e w = (v : Word) × (v ≢ []) × In e (w ++ v)

-- how many labels the expression names, each as often as it stands there
abbrev pub ones_of : ExprOf → ℕ
ones_of no_word = 0
ones_of empty_word = 0
ones_of (one_label l) = 1
ones_of (in_turn a b) = ones_of a + ones_of b
ones_of (either_of a b) = ones_of a + ones_of b
ones_of (repeated a) = ones_of a
