-- What the rules say of a body, its runs do.
use Rattle.std.specs.Prelude.{◌≡◌, ℕ, ◌↔◌, Bool, true, List, [], Some}
use Rattle.std.specs.List.{Contains}
use Rattle.jv_diag.specs.Plain.{DiagOf}
use Rattle.jv_tree.specs.declared.name.Ident.{Ident}
use Rattle.jv_tree.specs.DeclTree.{MethodTree, CtorTree}
use Rattle.jv_tree.specs.StmtTree.{StmtTrees}
use Rattle.jv_tree.specs.Shaped.{AreShapedStmts}
use Rattle.jv_flow.specs.Fault.{AreFaultPlaces}
use Rattle.jv_flow.specs.FaultList.{fault_places}
use Rattle.jv_flow.specs.FlowFaults.{ctor_flow, flow_faults, gives_value, method_flow, IsFlowFault}
use Rattle.jv_flow.specs.Place.{PlaceInAll}
use Rattle.jv_flow.specs.Run.{FallsOff, Executes}
use Rattle.jv_flow.specs.Reachable.{CompletesNormally, IsReachable}

-- some number of steps, with some choices, falls off the end of the body
abbrev pub SomeRunFallsOff : StmtTrees → Type 0
SomeRunFallsOff xs = (n : ℕ) × (cs : List Bool) × FallsOff n cs xs

-- some number of steps, with some choices, executes the statement
abbrev pub SomeRunExecutes : (xs : StmtTrees) → PlaceInAll xs → Type 0
SomeRunExecutes xs p = (n : ℕ) × (cs : List Bool) × Executes n cs xs p

-- a body completes normally exactly where some run falls off its end, and a statement is reachable exactly where some run executes it
abbrev pub RulesTellRuns : Type 0
RulesTellRuns = (xs : StmtTrees) → AreShapedStmts xs
    → (CompletesNormally xs ↔ SomeRunFallsOff xs)
    × ((p : PlaceInAll xs) → IsReachable xs p ↔ SomeRunExecutes xs p)

-- only one list has the places of the faults of a body
abbrev pub FaultPlacesAreOne : Type 0
FaultPlacesAreOne = (xs : StmtTrees) (ps qs : List ℕ) → AreFaultPlaces xs (IsReachable xs) ps → AreFaultPlaces xs (IsReachable xs) qs → ps ≡ qs

-- the list of fault places has the places where the outermost unreachable statements start
abbrev pub FaultPlacesAreTold : Type 0
FaultPlacesAreTold = (xs : StmtTrees) → AreFaultPlaces xs (IsReachable xs) (fault_places xs)

-- the list of diagnostics of a body has each that the rules give, and no other
abbrev pub FlowFaultsAreTold : Type 0
FlowFaultsAreTold = (names : List (List ℕ)) (file : ℕ) (xs : StmtTrees) (must : Bool) (i : Ident) (d : DiagOf) → Contains (flow_faults names file xs must i) d ↔ IsFlowFault names file xs must i d

-- each statement of a method without such diagnostics is executed by some run, and where the method gives a value, no run falls off its end
abbrev pub AcceptedMethodsReturn : Type 0
AcceptedMethodsReturn = (names : List (List ℕ)) (file : ℕ) (m : MethodTree) (xs : StmtTrees) → m.body ≡ Some xs → AreShapedStmts xs → method_flow names file m ≡ []
    → ((p : PlaceInAll xs) → SomeRunExecutes xs p) × (gives_value m.result.base ≡ true → SomeRunFallsOff xs → ⊥)

-- each statement of a constructor without such diagnostics is executed by some run
abbrev pub AcceptedCtorsRun : Type 0
AcceptedCtorsRun = (names : List (List ℕ)) (file : ℕ) (k : CtorTree) → AreShapedStmts k.body → ctor_flow names file k ≡ []
    → (p : PlaceInAll k.body) → SomeRunExecutes k.body p
