-- Small states that tell apart what waits, what is settled, and what is looked at.
use Rattle.std.specs.Prelude.{ℕ, List, [], ◌∷◌, true, false, ◌==◌}
use Rattle.sg_base.specs.declared.scope.Scope.{Scope}
use Rattle.sg_base.specs.declared.step.Step.{Step}
use Rattle.sg_base.specs.Graph.{Edge, IsGraph}
use Rattle.sg_base.specs.State.{State, Extends, Follows}
use Rattle.sg_expr.specs.Tree.{ExprOf, one_label, in_turn}
use Rattle.sg_query.specs.Growth.{LooksAlike, StillBlocked}
use Rattle.sg_query.specs.Query.{Asked}
use Rattle.sg_query.specs.State.{RowBlocks, IsSettled, next, whole, IsItem}

-- a scope
abbrev pub home : Scope
home = record { unit = 0; serial = 0 }

-- another scope
abbrev pub away : Scope
away = record { unit = 0; serial = 1 }

-- the edge from the first scope to the other, with the label 1
abbrev pub out_edge : Edge
out_edge = record { from = home; label = 1; to = away }

-- an edge back, with the label 2
abbrev pub back_edge : Edge
back_edge = record { from = away; label = 2; to = home }

-- the two scopes with these edges and data, where these rows are open and these data unset
abbrev pub two_scopes : List Edge → List (Scope × ℕ) → List (Scope × ℕ) → List Scope → State ℕ
two_scopes edges given open_rows unset =
    record { graph = record { scopes = home ∷ away ∷ []; edges = edges; given = given }; open_rows = open_rows; unset = unset }

-- one edge, the other scope has a datum, and nothing is open or unset
abbrev pub finished : State ℕ
finished = two_scopes (out_edge ∷ []) ((away, 7) ∷ []) [] []

-- the row of the edge is still open
abbrev pub open_row : State ℕ
open_row = two_scopes (out_edge ∷ []) ((away, 7) ∷ []) ((home, 1) ∷ []) []

-- a row of the other scope is still open
abbrev pub open_behind : State ℕ
open_behind = two_scopes (out_edge ∷ []) ((away, 7) ∷ []) ((away, 2) ∷ []) []

-- both rows are still open
abbrev pub open_both : State ℕ
open_both = two_scopes (out_edge ∷ []) ((away, 7) ∷ []) ((home, 1) ∷ (away, 2) ∷ []) []

-- the other scope's datum is still unset
abbrev pub unset_datum : State ℕ
unset_datum = two_scopes (out_edge ∷ []) [] [] (away ∷ [])

-- other rows are open, and the first scope's datum is unset
abbrev pub open_elsewhere : State ℕ
open_elsewhere = two_scopes (out_edge ∷ []) ((away, 7) ∷ []) ((home, 2) ∷ (away, 1) ∷ (away, 2) ∷ []) (home ∷ [])

-- there is an edge back
abbrev pub further_edge : State ℕ
further_edge = two_scopes (out_edge ∷ back_edge ∷ []) ((away, 7) ∷ []) [] []

-- a query from the first scope for all data at the ends of an expression's words
abbrev pub all_data : ExprOf → Asked ℕ
all_data e = record { start = home; expr = e; order = λ m n. false; wants = λ d. true; same = λ d e. d == e }

-- a query that follows the word of the label 1
abbrev pub one_step : Asked ℕ
one_step = all_data (one_label 1)

-- a query that follows the word of the labels 1 and 2
abbrev pub two_steps : Asked ℕ
two_steps = all_data (in_turn (one_label 1) (one_label 2))

-- the step along the edge
abbrev pub out_step : Step
out_step = record { label = 1; to = away }

-- what keeps a query from being settled
pub record WaitsAreToldApart : Type 0 where
  pub sound : IsGraph finished.graph
  -- an open row that the query goes into does, until it is closed
  pub waits_for_row : IsSettled open_row one_step → ⊥
  pub row_closes : Follows open_row finished
  -- an unset datum at the end of its word does, until it is set
  pub waits_for_datum : IsSettled unset_datum one_step → ⊥
  pub datum_comes : Follows unset_datum finished
  -- then it is settled, and what it does not look at may be open
  pub settled : IsSettled finished one_step
  pub settled_elsewhere : IsSettled open_elsewhere one_step
  -- a row behind an open one does not block the query while that is open, and does once it is closed
  pub not_yet : RowBlocks open_both two_steps away 2 → ⊥
  pub row_behind : RowBlocks open_behind two_steps away 2
  -- so the query waits as before where that row is closed first, and not where the first one is
  pub still_blocked : StillBlocked open_both open_row two_steps
  pub set_free : StillBlocked open_both open_behind two_steps → ⊥

-- what a query looks at
pub record LooksAreToldApart : Type 0 where
  -- a row is an item once it is closed, and an end once its datum is set
  pub row_open : IsItem open_row one_step (next [] 1) → ⊥
  pub row_closed : IsItem finished one_step (next [] 1)
  pub datum_unset : IsItem unset_datum one_step (whole (out_step ∷ [])) → ⊥
  pub datum_set : IsItem finished one_step (whole (out_step ∷ []))
  -- an edge in a row that was not open may not come, and yet changes nothing for a query that does not follow it
  pub may_not_come : Extends finished further_edge.graph → ⊥
  pub alike : LooksAlike finished further_edge one_step
  pub unlike : LooksAlike finished further_edge two_steps → ⊥
