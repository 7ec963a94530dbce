-- The nodes of a tree of paths, and the words that may follow them.
use Rattle.std.specs.Prelude.{◌≡◌, ℕ, ◌<◌, ◌≤◌, ◌⊎◌, List, ◌∷◌, ◌↔◌, false, IsTrue, length, slice_index_or}
use Rattle.std.specs.List.{AllByRecursion, list_any}
use Rattle.sg_base.specs.declared.scope.Scope.{Scope}
use Rattle.sg_base.specs.Scope.{is_scope}
use Rattle.sg_base.specs.declared.step.Step.{Step}
use Rattle.sg_base.specs.Label.{Word}
use Rattle.sg_expr.specs.Positions.{PositionsOf, Accepts}
use Rattle.sg_engine.specs.declared.nodes.Node.{Node}

-- the words that may follow, by a set of positions
pub record RestOf : Type 0 where
  pub words : PositionsOf
  pub set : ℕ

-- the word is one of those that may follow
abbrev pub InRest : RestOf → Word → Type 0
InRest r w = Accepts r.words r.set w

-- a path as another path with one more step, and the words that may follow its word
pub record NodeOf : Type 0 where
  pub parent : ℕ
  pub step : Step
  pub rest : RestOf

-- the positions of the words that a search follows, and the nodes
pub record NodesOf : Type 0 where
  pub words : PositionsOf
  pub items : List NodeOf

-- a node by these positions
abbrev pub node_by : PositionsOf → Node → NodeOf
node_by words n = record { parent = n.parent; step = n.step; rest = record { words = words; set = n.set } }

-- this set has the words that follow a node over a label
abbrev pub IsRestAfter : NodesOf → ℕ → ℕ → ℕ → Type 0
IsRestAfter ns place l set = (n : NodeOf) → n ≡ slice_index_or ns.items place n → (w : Word) → (Accepts ns.words set w) ↔ (InRest n.rest (l ∷ w))

-- the scope is one of those that are passed
abbrev pub IsPassed : List Scope → Scope → Type 0
IsPassed passed t = IsTrue (list_any (is_scope t) passed)

-- what was passed still is
abbrev pub StayPassed : List Scope → List Scope → Type 0
StayPassed old new = (t : Scope) → IsPassed old t → IsPassed new t

-- up to how many nodes no scope is kept as passed
abbrev pub few_nodes : ℕ
few_nodes = 32

-- there are no more than a few
abbrev pub AreFew : {X : Type 0} → List X → Type 0
AreFew xs = length xs ≤ few_nodes

-- the scope where each of these nodes ends is passed
abbrev pub EndsPass : List Scope → List Node → Type 0
EndsPass passed nodes = AllByRecursion (λ n. IsPassed passed n.step.to) nodes

-- but for the first, each goes on from one before it
abbrev pub GoOnFromBefore : List NodeOf → Type 0
GoOnFromBefore items = (i : ℕ) (n : NodeOf) → 0 < i → i < length items → n ≡ slice_index_or items i n → n.parent < i

-- but for the first, each goes on from one before it, and the scope where that one ends is passed
abbrev pub ParentsPass : List Scope → List NodeOf → Type 0
ParentsPass passed items =
    (i : ℕ) (n : NodeOf) → 0 < i → i < length items → n ≡ slice_index_or items i n → (n.parent < i) × ((m : NodeOf) → m ≡ slice_index_or items n.parent m → IsPassed passed m.step.to)

-- each goes on from one before it; where there are more than a few, the scopes that they go on from are passed, and so is the last one
abbrev pub ArePassed : List Scope → Scope → List NodeOf → Type 0
ArePassed passed last items = GoOnFromBefore items × (AreFew items ⊎ (ParentsPass passed items × IsPassed passed last))

-- before one more node comes: there is room for it among a few; or this scope and the last one are passed, and so are the ends of a few
abbrev pub HasPassed : List Scope → Scope → Scope → List NodeOf → Type 0
HasPassed passed last from items =
    (length items < few_nodes) ⊎ (IsPassed passed last × IsPassed passed from × (length items ≡ few_nodes → AllByRecursion (λ n. IsPassed passed n.step.to) items))

-- the node at this place does not end at the scope, and neither does one that another goes on from
abbrev pub EndElsewhere : List NodeOf → ℕ → Scope → Type 0
EndElsewhere items place t =
    ((m : NodeOf) → m ≡ slice_index_or items place m → is_scope m.step.to t ≡ false) × ((i : ℕ) (n m : NodeOf) → 0 < i → i < length items → n ≡ slice_index_or items i n → m ≡ slice_index_or items n.parent m → is_scope m.step.to t ≡ false)
