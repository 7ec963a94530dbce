-- What the traces of units tell of every run.
use Rattle.std.specs.Prelude.{ℕ, List, [], ◌∷◌, ◌++◌, Option, Some, None, ◌⊎◌, ◌↔◌}
use Rattle.sg_base.specs.declared.scope.Scope.{Scope}
use Rattle.sg_base.specs.Graph.{HasScope, HasEdge}
use Rattle.sg_query.specs.declared.answer.Answer.{Answer}
use Rattle.sg_query.specs.declared.query.Query.{Query}
use Rattle.sg_query.specs.Answer.{IsAnswer}
use Rattle.sg_state.specs.Held.{HoldsRow, HoldsDatum}
use Rattle.sg_state.specs.Opening.{IsOpening}
use Rattle.sg_unit.specs.declared.entry.Entry.{Entry}
use Rattle.sg_unit.specs.declared.op.Op.{Op}
use Rattle.sg_unit.specs.declared.op.Op.TheVariants.{AddEdge, SetDatum, CloseRow}
use Rattle.sg_unit.specs.declared.reply.Reply.{Reply}
use Rattle.sg_unit.specs.Orderly.{Did, WasTold, GaveAfter, IsOrderly}
use Rattle.sg_unit.specs.Run.{Setting, asked_by, run_of}
use Rattle.sg_unit.specs.Step.{IsRun}
use Rattle.sg_unit.specs.Trace.{Past, with_last, handed, IsHanded}
use Rattle.sg_trace.specs.Entries.{IsGiven, IsWritten, MakeNoScope, HasEntry, WasGivenUp}
use Rattle.sg_trace.specs.Tells.{trace_of, TellsAsk, WasSettled}

-- ---- traces and entries

-- a unit's trace tells what it asks
abbrev pub TracesTellAsks : Type 0 → Type 0 → Type 0 → Type 0 → Type 0
TracesTellAsks I R D P =
    (z : Setting D P) (log : List (Entry I R D P)) (u : ℕ) → IsRun z log → TellsAsk ((run_of z log).asks u) (trace_of u log).last (trace_of u log).reply

-- a unit gave an entry's operation next after what it was handed by then
abbrev pub EntriesFollowTraces : Type 0 → Type 0 → Type 0 → Type 0 → Type 0
EntriesFollowTraces I R D P =
    (z : Setting D P) (front : List (Entry I R D P)) (e : Entry I R D P) (rest : List (Entry I R D P)) → IsOpening z.opening → IsRun z (front ++ e ∷ rest) → IsGiven e.op
    → GaveAfter (trace_of e.unit (front ++ e ∷ rest)).past (trace_of e.unit (front ++ e ∷ rest)).last (handed (trace_of e.unit front)) e.op

-- what a unit wrote is an entry
abbrev pub WritesAreEntries : Type 0 → Type 0 → Type 0 → Type 0 → Type 0
WritesAreEntries I R D P =
    (z : Setting D P) (log : List (Entry I R D P)) (u : ℕ) (op : Op I R D P) → IsOpening z.opening → IsRun z log → IsWritten op → Did (handed (trace_of u log)) op → HasEntry u log op

-- ---- answers

-- what a unit was told was settled by then, and is the answer in the graph of each later state
abbrev pub ToldAnswersStand : Type 0 → Type 0 → Type 0 → Type 0 → Type 0
ToldAnswersStand I R D P =
    (z : Setting D P) (log more : List (Entry I R D P)) (u : ℕ) (q : Query P) (a : Answer D) → IsOpening z.opening → IsRun z (log ++ more) → WasTold (handed (trace_of u log)) q a
    → WasSettled z log q a × IsAnswer (run_of z (log ++ more)).held.graph (asked_by z q) a

-- ---- edges and holds

-- an edge of the graph is the opening's, or an entry added it
abbrev pub EdgesAreAdded : Type 0 → Type 0 → Type 0 → Type 0 → Type 0
EdgesAreAdded I R D P =
    (z : Setting D P) (log : List (Entry I R D P)) (s : Scope) (l : ℕ) (t : Scope) → IsOpening z.opening → IsRun z log
    → (HasEdge (run_of z log).held.graph s l t) ↔ (HasEdge z.opening.graph s l t ⊎ ((u : ℕ) × HasEntry u log (AddEdge s l t)))

-- where no unit makes a scope, what is there and what is held was there and held before
abbrev pub HoldsWereHeld : Type 0 → Type 0 → Type 0 → Type 0 → Type 0
HoldsWereHeld I R D P =
    (z : Setting D P) (log more : List (Entry I R D P)) → IsOpening z.opening → IsRun z (log ++ more) → MakeNoScope (log ++ more)
    → ((s : Scope) → HasScope (run_of z (log ++ more)).held.graph s → HasScope (run_of z log).held.graph s)
    × ((u : ℕ) (s : Scope) (l : ℕ) → HoldsRow (run_of z (log ++ more)).held u s l → HoldsRow (run_of z log).held u s l)
    × ((u : ℕ) (s : Scope) → HoldsDatum (run_of z (log ++ more)).held u s → HoldsDatum (run_of z log).held u s)

-- a row that a unit held at the opening it holds, or it gave it up
abbrev pub RowsAreGivenUp : Type 0 → Type 0 → Type 0 → Type 0 → Type 0
RowsAreGivenUp I R D P =
    (z : Setting D P) (log : List (Entry I R D P)) (u : ℕ) (s : Scope) (l : ℕ) → IsOpening z.opening → IsRun z log → HoldsRow z.opening u s l → HoldsRow (run_of z log).held u s l ⊎ WasGivenUp z u log s l

-- where no unit makes a scope, a unit no longer holds a row that it closed, nor a datum that it set
abbrev pub GivenUpStays : Type 0 → Type 0 → Type 0 → Type 0 → Type 0
GivenUpStays I R D P =
    (z : Setting D P) (log : List (Entry I R D P)) (u : ℕ) (s : Scope) → IsOpening z.opening → IsRun z log → MakeNoScope log
    → ((l : ℕ) → HasEntry u log (CloseRow s l) → HoldsRow (run_of z log).held u s l → ⊥) × ((d : D) → HasEntry u log (SetDatum s d) → HoldsDatum (run_of z log).held u s → ⊥)

-- ---- order

-- a unit that gave nothing is orderly, where this may follow
abbrev pub NewUnitsAreOrderly : {I R D P : Type 0} → (Past I R D P → Op I R D P → Type 0) → Type 0
NewUnitsAreOrderly MayFollow = IsOrderly MayFollow [] None

-- an orderly unit stays so by a call whose operation may follow what it was handed
abbrev pub CallsKeepOrderly : {I R D P : Type 0} → (Past I R D P → Op I R D P → Type 0) → Type 0
CallsKeepOrderly {I} {R} {D} {P} MayFollow =
    (z : Setting D P) (u : ℕ) (past : Past I R D P) (given : Option (Op I R D P)) (last : Option (Reply I D P)) (op : Op I R D P)
    → IsOrderly MayFollow past given → IsHanded z u past given last → MayFollow (with_last past given last) op → IsOrderly MayFollow (with_last past given last) (Some op)
