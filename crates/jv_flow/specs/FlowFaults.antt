-- What is wrong with the flow of control through the body of a method or a constructor: unreachable statements, and a result that is not returned
-- (JLS 8.4.7, 14.21).
use Rattle.std.specs.Prelude.{◌≡◌, ◌⊎◌, ◌&&◌, ℕ, Bool, true, false, List, [], ◌∷◌, ◌++◌, Option, Some, None, map, slice_index_or}
use Rattle.jv_diag.specs.declared.codes.TheConstants.{MISSING_RETURN, UNREACHABLE}
use Rattle.jv_diag.specs.Plain.{DiagOf, diagnostic, fault_if}
use Rattle.jv_tree.specs.declared.name.Ident.{Ident}
use Rattle.jv_tree.specs.TypeTree.{BaseTree, void}
use Rattle.jv_tree.specs.StmtTree.{StmtTrees}
use Rattle.jv_tree.specs.DeclTree.{MethodTree, CtorTree, MemberTree, nested, field, method, ctor}
use Rattle.jv_flow.specs.Fault.{IsFaultPlace}
use Rattle.jv_flow.specs.FaultList.{fault_places}
use Rattle.jv_flow.specs.Reachable.{CompletesNormally, IsReachable, all_complete}

-- E60 where a statement of a file starts
abbrev pub unreachable_at : ℕ → ℕ → DiagOf
unreachable_at file at = diagnostic file at UNREACHABLE []

-- E61 at the name of a method
abbrev pub missing_return_in : List (List ℕ) → ℕ → Ident → DiagOf
missing_return_in names file i = diagnostic file i.at MISSING_RETURN (slice_index_or names i.id.0 [] ∷ [])

-- a method whose result has this type, without its brackets, gives a value: each but `void` (JLS 8.4.5)
abbrev pub gives_value : BaseTree → Bool
gives_value void = false
gives_value b = true

-- a diagnostic of a body in a file: E60 at a place of an unreachable statement; and where the body has to give a value, as that of a method with this
-- name, E61 at the name, if the body completes
abbrev pub IsFlowFault : List (List ℕ) → ℕ → StmtTrees → Bool → Ident → DiagOf → Type 0
IsFlowFault names file xs must i d = ((at : ℕ) × IsFaultPlace xs (IsReachable xs) at × (d ≡ unreachable_at file at))
    ⊎ ((must ≡ true) × CompletesNormally xs × (d ≡ missing_return_in names file i))

-- E60 of a body in a file, by rising places
abbrev pub unreachable_in : ℕ → StmtTrees → List DiagOf
unreachable_in file xs = map (unreachable_at file) (fault_places xs)

-- E61 of a body that has to give a value if `must`, as that of a method with this name
abbrev pub missing_return : List (List ℕ) → ℕ → StmtTrees → Bool → Ident → List DiagOf
missing_return names file xs must i = fault_if (must && all_complete true xs) (missing_return_in names file i)

-- all of them
abbrev pub flow_faults : List (List ℕ) → ℕ → StmtTrees → Bool → Ident → List DiagOf
flow_faults names file xs must i = unreachable_in file xs ++ missing_return names file xs must i

-- all of them, of a body where there is one
abbrev pub optional_flow_faults : List (List ℕ) → ℕ → Option StmtTrees → Bool → Ident → List DiagOf
optional_flow_faults names file None must i = []
optional_flow_faults names file (Some xs) must i = flow_faults names file xs must i

-- those of a method in a file
abbrev pub method_flow : List (List ℕ) → ℕ → MethodTree → List DiagOf
method_flow names file m = optional_flow_faults names file m.body (gives_value m.result.base) m.name

-- those of a constructor in a file, which has no value to give
abbrev pub ctor_flow : List (List ℕ) → ℕ → CtorTree → List DiagOf
ctor_flow names file c = flow_faults names file c.body false c.name

-- those of a member in a file; nested types and fields have no body
abbrev pub declared_flow : List (List ℕ) → ℕ → MemberTree → List DiagOf
declared_flow names file (nested d) = []
declared_flow names file (field ms t vs) = []
declared_flow names file (method m) = method_flow names file m
declared_flow names file (ctor k) = ctor_flow names file k
