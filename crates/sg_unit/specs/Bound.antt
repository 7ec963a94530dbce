-- How long an ask can go on while nobody writes.
use Rattle.std.specs.Prelude.{ℕ, zero, suc, ◌+◌, ◌-◌, List, [], ◌∷◌, ◌++◌, Bool, true, false, map, length}
use Rattle.std.specs.List.{flat_map}
use Rattle.sg_base.specs.declared.step.Step.{Step}
use Rattle.sg_base.specs.Graph.{GraphOf}
use Rattle.sg_expr.specs.Tree.{ExprOf, no_word, empty_word, one_label, in_turn, either_of, repeated}
use Rattle.sg_query.specs.State.{Item, next, whole}
use Rattle.sg_unit.specs.Run.{Setting, RunOf, Asking, no_ask, open_ask, ready_ask, asked_by}

-- the labels that an expression names
abbrev pub letters : ExprOf → List ℕ
letters no_word = []
letters empty_word = []
letters (one_label l) = l ∷ []
letters (in_turn a b) = letters a ++ letters b
letters (either_of a b) = letters a ++ letters b
letters (repeated a) = letters a

-- the lists of at most n things of a list
abbrev pub lists_of : {X : Type 0} → ℕ → List X → List (List X)
lists_of zero xs = [] ∷ []
lists_of (suc n) xs = [] ∷ flat_map (λ x. map (λ ys. x ∷ ys) (lists_of n xs)) xs

-- the steps along the edges of a graph
abbrev pub steps_in : {D : Type 0} → GraphOf D → List Step
steps_in g = map (λ a. record { label = a.label; to = a.to }) g.edges

-- all that a search can look at in a graph, and more
abbrev pub all_items : {D : Type 0} → GraphOf D → ExprOf → List Item
all_items g e = flat_map (λ ps. whole ps ∷ map (λ l. next ps l) (letters e)) (lists_of (length g.scopes) (steps_in g))

-- more than a query of this expression has items in the graph
abbrev pub item_bound : {D : Type 0} → GraphOf D → ExprOf → ℕ
item_bound g e = length (all_items g e)

-- how many more advances and takes a unit can do at most, and one more for an open ask, while nobody writes
abbrev pub weigh : {D P : Type 0} → Setting D P → GraphOf D → Bool → Asking P → ℕ
weigh z g true a = 0
weigh z g false no_ask = 0
weigh z g false (ready_ask q) = 1
weigh z g false (open_ask q m) = 2 + (item_bound g (asked_by z q).expr - m)

-- that number for a unit of a run, by whether it waits and what it asks
abbrev pub weight : {D P : Type 0} → Setting D P → RunOf D P → ℕ → ℕ
weight z r u = weigh z r.held.graph (r.waits u) (r.asks u)
