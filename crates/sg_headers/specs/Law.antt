-- Laws of the runs of orderly units.
use Rattle.std.specs.Prelude.{◌≡◌, ℕ, ◌<◌, List, Option, Bool, false, IsTrue, ◌↔◌}
use Rattle.std.specs.List.{Contains}
use Rattle.sg_base.specs.declared.scope.Scope.{Scope}
use Rattle.sg_query.specs.declared.answer.Answer.{Answer}
use Rattle.sg_query.specs.declared.query.Query.{Query}
use Rattle.sg_base.specs.State.{State}
use Rattle.sg_query.specs.Query.{Asked}
use Rattle.sg_query.specs.State.{IsSettled}
use Rattle.sg_reading.specs.Reading.{Reading}
use Rattle.sg_unit.specs.declared.entry.Entry.{Entry}
use Rattle.sg_unit.specs.declared.op.Op.{Op}
use Rattle.sg_unit.specs.Run.{Setting, units_of, run_of}
use Rattle.sg_unit.specs.Step.{IsRun}
use Rattle.sg_state.specs.Opening.{IsOpening}
use Rattle.sg_base.specs.Graph.{Edge, GraphOf}
use Rattle.sg_unit.specs.Example.{corner, lonely_setting, lonely_log}
use Rattle.sg_unit.specs.Honest.{AnswersAsTold}
use Rattle.sg_unit.specs.Orderly.{IsOrderly}
use Rattle.sg_trace.specs.Law.{NewUnitsAreOrderly, CallsKeepOrderly}
use Rattle.sg_trace.specs.Tells.{trace_of}
use Rattle.sg_unit.specs.Trace.{Past}
use Rattle.sg_unit.specs.Waiting.{IsStuck}
use Rattle.sg_strata.specs.Program.{Program}
use Rattle.sg_headers.specs.Example.{one_type, one_reader, circular, plain, plain_log}
use Rattle.sg_headers.specs.Honest.{ReadsIn}
use Rattle.sg_headers.specs.Imports.{TouchesNothingOpen, MayReadImports, GivesImports}
use Rattle.sg_headers.specs.Orderly.{MayReadHeader, MayGiveImports, MayAskSignatures}
use Rattle.sg_headers.specs.Outcome.{is_closed, Leaves, LeavesAlike}
use Rattle.sg_headers.specs.Run.{IsOrderlyRun}
use Rattle.sg_headers.specs.Setting.{Roles}

-- in every run of orderly units that is over, the types whose rows are closed are the greatest stratified set
abbrev pub ClosedHeadersAreGreatest : Type 0 → Type 0 → Type 0 → Type 0 → Type 0 → Type 0
ClosedHeadersAreGreatest I R Q D P =
    (p : Program Q D) (z : Setting D P) (k : Roles Q P) (log : List (Entry I R D P))
    → IsOrderlyRun p z k log
    → (row : Scope → List Scope) × Leaves p z k (run_of z log) (is_closed (run_of z log).held p.super_label) row

-- readers of headers are orderly by their calls
abbrev pub ReadersStayOrderly : Type 0 → Type 0 → Type 0 → Type 0 → Type 0 → Type 0
ReadersStayOrderly I R Q D P =
    (query : Q → Query P) (header : Reading Q (Answer D) (List Scope)) (c : Scope) (super : ℕ)
    → (let May : Past I R D P → Op I R D P → Type 0 = MayReadHeader query header c super in NewUnitsAreOrderly May × CallsKeepOrderly May)

-- an orderly reader gave what its header gives in each graph that answers as it was told
abbrev pub OrderlyReadersAreHonest : Type 0 → Type 0 → Type 0 → Type 0 → Type 0 → Type 0
OrderlyReadersAreHonest I R Q D P =
    (z : Setting D P) (g : GraphOf D) (query : Q → Query P) (header : Reading Q (Answer D) (List Scope)) (c : Scope) (super : ℕ) (past : Past I R D P) (last : Option (Op I R D P))
    → IsOrderly (MayReadHeader query header c super) past last → AnswersAsTold z g past → ReadsIn z g query header c super past last

-- units of imports are orderly by their calls
abbrev pub ImportersStayOrderly : Type 0 → Type 0 → Type 0 → Type 0 → Type 0 → Type 0
ImportersStayOrderly I R Q D P =
    (p : Program Q D) (z : Setting D P) (u : ℕ) → (let May : Past I R D P → Op I R D P → Type 0 = MayGiveImports p z u in NewUnitsAreOrderly May × CallsKeepOrderly May)

-- in a run, a unit that reads a rule of imports gives the imports that the skeleton has by this rule
abbrev pub ImportRulesGiveImports : Type 0 → Type 0 → Type 0 → Type 0 → Type 0 → Type 0
ImportRulesGiveImports I R Q D P =
    (p : Program Q D) (z : Setting D P) (query : Q → Query P) (rule : Reading Q (Answer D) (List Edge)) (u : ℕ) (log : List (Entry I R D P))
    → IsOpening z.opening → IsRun z log → GivesImports p z query rule u
    → IsOrderly (MayReadImports z u query rule) (trace_of u log).past (trace_of u log).last → IsOrderly (MayGiveImports p z u) (trace_of u log).past (trace_of u log).last

-- a query that touches nothing open is settled
abbrev pub UntouchedQueriesAreSettled : Type 0 → Type 0
UntouchedQueriesAreSettled D = (h : State D) (q : Asked D) → TouchesNothingOpen h q → IsSettled h q

-- so all runs of a program that are over leave the same
abbrev pub RunsLeaveAlike : Type 0 → Type 0 → Type 0 → Type 0 → Type 0 → Type 0
RunsLeaveAlike I R Q D P =
    (p : Program Q D) (z : Setting D P) (k : Roles Q P) (log log' : List (Entry I R D P))
    → IsOrderlyRun p z k log → IsOrderlyRun p z k log'
    → LeavesAlike p z k (run_of z log) (run_of z log')

-- a run is stuck exactly where some type's row is open, where no unit asks for a signature until it has set all its own
abbrev pub StuckWhereHeadersWait : Type 0 → Type 0 → Type 0 → Type 0 → Type 0 → Type 0
StuckWhereHeadersWait I R Q D P =
    (p : Program Q D) (z : Setting D P) (k : Roles Q P) (log : List (Entry I R D P))
    → IsOrderlyRun p z k log
    → ((u : ℕ) → u < units_of z → IsOrderly (MayAskSignatures p z u) (trace_of u log).past (trace_of u log).last)
    → (IsStuck (run_of z log)) ↔ ((c : Scope) × Contains p.types c × (is_closed (run_of z log).held p.super_label c ≡ false))

-- ---- that there are such runs

-- a header that asks along its own row gets stuck, and one that asks nothing closes its row
abbrev pub SomeRunsAreOrderly : Type 0 → Type 0 → Type 0 → Type 0 → Type 0
SomeRunsAreOrderly I R D P =
    (wants : P → D → Bool) (same : D → D → Bool) (x : P) (y : R)
    → (let log : List (Entry I R D P) = lonely_log x in IsOrderlyRun (one_type wants same (circular x)) (lonely_setting wants same) one_reader log × IsStuck (run_of (lonely_setting wants same) log))
    × (let log : List (Entry I R D P) = plain_log y in IsOrderlyRun (one_type wants same plain) (lonely_setting wants same) one_reader log × IsTrue (is_closed (run_of (lonely_setting wants same) log).held 0 corner))
