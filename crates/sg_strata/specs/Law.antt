-- Laws of headers: the supertypes that they give are unique, and every header run finds them.
use Rattle.std.specs.Prelude.{◌≡◌, List, Bool, false, IsTrue, ◌↔◌}
use Rattle.std.specs.List.{Contains}
use Rattle.sg_base.specs.declared.scope.Scope.{Scope}
use Rattle.sg_base.specs.Graph.{IsGraph}
use Rattle.sg_reading.specs.Reading.{Gives}
use Rattle.sg_strata.specs.Program.{Program, IsProgram, IsQuiet, state_with, graph_with, AnswersIn, IsFirstOpen, IsNeeded}
use Rattle.sg_strata.specs.Run.{IsHeaderRun, WaitsFor}
use Rattle.sg_strata.specs.Strata.{IsStratified, IsGreatest}

-- the supertypes of a stratified set make a sound graph
abbrev pub StratifiedGraphsAreSound : Type 0 → Type 0 → Type 0
StratifiedGraphsAreSound Q D = (p : Program Q D) (in_set : Scope → Bool) (row : Scope → List Scope) → IsProgram p → IsStratified p in_set row → IsGraph (graph_with p in_set row)

-- two stratified pairs with one set have equal graphs
abbrev pub StratifiedGraphsAreUnique : Type 0 → Type 0 → Type 0
StratifiedGraphsAreUnique Q D =
    (p : Program Q D) (in_set : Scope → Bool) (row row' : Scope → List Scope) → IsProgram p → IsStratified p in_set row → IsStratified p in_set row' → graph_with p in_set row ≡ graph_with p in_set row'

-- in the graph of a stratified set, the header of each of its types gives the supertypes that it has there
abbrev pub StratifiedRowsStand : Type 0 → Type 0 → Type 0
StratifiedRowsStand Q D =
    (p : Program Q D) (in_set : Scope → Bool) (row : Scope → List Scope) → IsProgram p → IsStratified p in_set row → (c : Scope) → Contains p.types c → IsTrue (in_set c)
    → (qs : List Q) × Gives (AnswersIn p (graph_with p in_set row)) (p.header c) (row c) qs

-- at most one pair is the greatest
abbrev pub GreatestIsUnique : Type 0 → Type 0 → Type 0
GreatestIsUnique Q D =
    (p : Program Q D) (in_set in_set' : Scope → Bool) (row row' : Scope → List Scope) → IsProgram p → IsGreatest p in_set row → IsGreatest p in_set' row'
    → ((c : Scope) → Contains p.types c → in_set c ≡ in_set' c) × (graph_with p in_set row ≡ graph_with p in_set' row')

-- where each type outside a stratified set has a query that the set leaves open, the set is the greatest
abbrev pub StuckSetsAreGreatest : Type 0 → Type 0 → Type 0
StuckSetsAreGreatest Q D =
    (p : Program Q D) (in_set : Scope → Bool) (row : Scope → List Scope) → IsProgram p → IsStratified p in_set row
    → ((c : Scope) → Contains p.types c → in_set c ≡ false → (q : Q) × IsFirstOpen p (state_with p in_set row) c q)
    → IsGreatest p in_set row

-- the set whose rows a header run leaves closed is the greatest stratified set
abbrev pub HeaderRunsAreGreatest : Type 0 → Type 0 → Type 0
HeaderRunsAreGreatest Q D =
    (p : Program Q D) (in_set : Scope → Bool) (row : Scope → List Scope) → IsProgram p → IsQuiet p → IsHeaderRun p in_set row → IsGreatest p in_set row

-- what another type waits for at the end of a header run is its first open query by the greatest set, and it waits there for the same types
abbrev pub WaitingHeadersAreOpen : Type 0 → Type 0 → Type 0
WaitingHeadersAreOpen Q D =
    (p : Program Q D) (in_set : Scope → Bool) (row : Scope → List Scope) → IsProgram p → IsQuiet p → (run : IsHeaderRun p in_set row)
    → (c : Scope) (q : Q) → Contains p.types c → WaitsFor p run.at run.last c q
    → IsFirstOpen p (state_with p in_set row) c q × ((t : Scope) → (IsNeeded p (run.at run.last) q t) ↔ (IsNeeded p (state_with p in_set row) q t))

-- each stratified set whose other types all have an open query is what some header run leaves
abbrev pub StuckSetsHaveRuns : Type 0 → Type 0 → Type 0
StuckSetsHaveRuns Q D =
    (p : Program Q D) (in_set : Scope → Bool) (row : Scope → List Scope) → IsStratified p in_set row
    → ((c : Scope) → Contains p.types c → in_set c ≡ false → (q : Q) × IsFirstOpen p (state_with p in_set row) c q)
    → IsHeaderRun p in_set row
