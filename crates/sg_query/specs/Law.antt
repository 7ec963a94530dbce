-- Laws of answers: a query has one answer in a graph, and what becomes of a query and its answer in a graph that grows.
use Rattle.std.specs.Prelude.{◌≡◌, ◌↔◌}
use Rattle.sg_base.specs.Graph.{GraphOf, IsGraph, HasScope}
use Rattle.sg_base.specs.State.{State, Extends, Follows}
use Rattle.sg_query.specs.declared.answer.Answer.{Answer}
use Rattle.sg_query.specs.Answer.{IsAnswer}
use Rattle.sg_query.specs.Growth.{LooksAlike, StillBlocked}
use Rattle.sg_query.specs.Query.{Asked}
use Rattle.sg_query.specs.State.{IsSettled, Item, IsItem}

-- each query has an answer in a sound graph
abbrev pub AnswersExist : Type 0 → Type 0
AnswersExist D = (g : GraphOf D) (q : Asked D) → IsGraph g → (a : Answer D) × IsAnswer g q a

-- a query has one answer at most
abbrev pub AnswersAreOne : Type 0 → Type 0
AnswersAreOne D = (g : GraphOf D) (q : Asked D) (a b : Answer D) → IsAnswer g q a → IsAnswer g q b → a ≡ b

-- where a query is settled in a state, its answers in a graph that the state grew into are those in the state's graph
abbrev pub SettledAnswersAreStable : Type 0 → Type 0
SettledAnswersAreStable D =
    (h : State D) (g : GraphOf D) (q : Asked D) (a : Answer D) → IsGraph h.graph → HasScope h.graph q.start → IsSettled h q → Extends h g → (IsAnswer g q a) ↔ (IsAnswer h.graph q a)

-- where a state looks to a settled query like the one in which it is settled, the query is settled there too, with the same answers
abbrev pub SettledAnswersAreLocal : Type 0 → Type 0
SettledAnswersAreLocal D =
    (h h' : State D) (q : Asked D) → IsSettled h q → LooksAlike h h' q → IsSettled h' q × ((a : Answer D) → (IsAnswer h'.graph q a) ↔ (IsAnswer h.graph q a))

-- each later state looks to a query that starts in a state like that state
abbrev pub LaterStatesLookAlike : Type 0 → Type 0
LaterStatesLookAlike D = (h h' : State D) (q : Asked D) → IsGraph h.graph → HasScope h.graph q.start → Follows h h' → LooksAlike h h' q

-- a query that is settled stays so in every later state, with the same answers
abbrev pub SettledQueriesStaySettled : Type 0 → Type 0
SettledQueriesStaySettled D =
    (h h' : State D) (q : Asked D) → IsGraph h.graph → HasScope h.graph q.start → Follows h h' → IsSettled h q → IsSettled h' q × ((a : Answer D) → (IsAnswer h'.graph q a) ↔ (IsAnswer h.graph q a))

-- a query that is not settled stays so while all that blocked it is still open
abbrev pub WaitingQueriesStayOpen : Type 0 → Type 0
WaitingQueriesStayOpen D =
    (h h' : State D) (q : Asked D) → IsGraph h.graph → HasScope h.graph q.start → Extends h h'.graph → StillBlocked h h' q → (IsSettled h q → ⊥) → IsSettled h' q → ⊥

-- an item of a query in a state is one in every later state
abbrev pub ItemsAreKept : Type 0 → Type 0
ItemsAreKept D =
    (h h' : State D) (q : Asked D) (i : Item) → IsGraph h.graph → HasScope h.graph q.start → Follows h h' → IsItem h q i → IsItem h' q i
