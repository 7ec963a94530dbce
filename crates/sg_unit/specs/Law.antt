-- What holds of every run.
use Rattle.std.specs.Prelude.{◌≡◌, ◌≢◌, ℕ, ◌<◌, List, [], ◌∷◌, ◌++◌, Bool, false, IsTrue, Option, Some, None, ◌⊎◌}
use Rattle.std.specs.List.{Contains}
use Rattle.sg_base.specs.declared.scope.Scope.{Scope}
use Rattle.sg_base.specs.Graph.{GraphOf, IsGraph, HasScope}
use Rattle.sg_base.specs.List.{MoreThan}
use Rattle.sg_base.specs.State.{State, Follows}
use Rattle.sg_query.specs.declared.answer.Answer.{Answer}
use Rattle.sg_query.specs.declared.query.Query.{Query}
use Rattle.sg_query.specs.Answer.{IsAnswer}
use Rattle.sg_query.specs.Query.{Asked}
use Rattle.sg_query.specs.State.{IsItem}
use Rattle.sg_state.specs.declared.need.Need.{Need}
use Rattle.sg_state.specs.Held.{state_of, without_row}
use Rattle.sg_state.specs.Opening.{IsOpening}
use Rattle.sg_unit.specs.declared.entry.Entry.{Entry}
use Rattle.sg_unit.specs.declared.op.Op.{Op}
use Rattle.sg_unit.specs.declared.op.Op.TheVariants.{AddEdge, CloseRow, Ask, Advance, Take, End}
use Rattle.sg_unit.specs.declared.reply.Reply.{Reply}
use Rattle.sg_unit.specs.declared.reply.Reply.TheVariants.{Moved, Ready, Answer as Answered, Stuck}
use Rattle.sg_unit.specs.Bound.{item_bound, weight}
use Rattle.sg_unit.specs.Example.{corner, corner_query, lonely_setting, lonely_log, pair, pair_setting, pair_log}
use Rattle.sg_unit.specs.Honest.{AnswersAsTold, GivesResults, IsHonest}
use Rattle.sg_unit.specs.Own.{own, KnowsScope, MayBy, Uses, CanReply, IsOwnRun}
use Rattle.sg_unit.specs.Run.{Setting, units_of, ready_ask, asked_by, NoAsk, after, run_of}
use Rattle.sg_unit.specs.Step.{May, IsStep, IsRun, asks, taken}
use Rattle.sg_unit.specs.Trace.{Past, with_last, handed, told_after, told, MayGive, IsHanded}
use Rattle.sg_unit.specs.Waiting.{IsHeldUp, IsShown, IsStuck, IsWoken}

-- ---- time

-- each later state of a run follows each earlier one
abbrev pub StatesFollow : Type 0 → Type 0 → Type 0 → Type 0 → Type 0
StatesFollow I R D P =
    (z : Setting D P) (log more : List (Entry I R D P)) → IsOpening z.opening → IsRun z (log ++ more) → Follows (state_of (run_of z log).held) (state_of (run_of z (log ++ more)).held)

-- an answer that was taken in a run is the answer in each later graph of it
abbrev pub AnswersLast : Type 0 → Type 0 → Type 0 → Type 0 → Type 0
AnswersLast I R D P =
    (z : Setting D P) (log more : List (Entry I R D P)) (u : ℕ) (a : Answer D) (q : Query P) → IsOpening z.opening → IsRun z (log ++ taken u a ∷ more)
    → (run_of z log).asks u ≡ ready_ask q → IsAnswer (run_of z (log ++ taken u a ∷ more)).held.graph (asked_by z q) a

-- ---- what a unit can tell

-- what a unit's own entries allow, the run allows
abbrev pub OwnEntriesAllow : Type 0 → Type 0 → Type 0 → Type 0 → Type 0
OwnEntriesAllow I R D P =
    (z : Setting D P) (log : List (Entry I R D P)) (u : ℕ) (op : Op I R D P) → IsOpening z.opening → IsRun z log → MayBy z (own u log) u op → May z (run_of z log) u op

-- what a run allows, the unit's own entries allow, where it knows the scopes
abbrev pub RunsAllow : Type 0 → Type 0 → Type 0 → Type 0 → Type 0
RunsAllow I R D P =
    (z : Setting D P) (log : List (Entry I R D P)) (u : ℕ) (op : Op I R D P) → May z (run_of z log) u op → ((s : Scope) → Uses op s → KnowsScope z (own u log) s) → MayBy z (own u log) u op

-- a unit's own entries in a run are such as it can tell
abbrev pub OwnEntriesRun : Type 0 → Type 0 → Type 0 → Type 0 → Type 0
OwnEntriesRun I R D P = (z : Setting D P) (log : List (Entry I R D P)) (u : ℕ) → IsRun z log → IsOwnRun z u (own u log)

-- the reply of each entry of a run is one that its operation can have, as the entries of its unit before it tell
abbrev pub OwnEntriesReply : Type 0 → Type 0 → Type 0 → Type 0 → Type 0
OwnEntriesReply I R D P = (z : Setting D P) (log more : List (Entry I R D P)) (e : Entry I R D P) → IsRun z (log ++ e ∷ more) → CanReply (run_of z (own e.unit log)) e.unit e.op e.reply

-- where a unit asks nothing: what it may give as its trace tells it, it may do as its own entries tell it
abbrev pub TracesAllow : Type 0 → Type 0 → Type 0 → Type 0 → Type 0
TracesAllow I R D P =
    (z : Setting D P) (mine : List (Entry I R D P)) (u : ℕ) (op : Op I R D P) → IsOwnRun z u mine → NoAsk (run_of z mine) u → MayGive z u (handed (told mine)) op → MayBy z mine u op

-- where a live unit asks nothing, what its own entries tell it next is what it can be handed
abbrev pub TracesHand : Type 0 → Type 0 → Type 0 → Type 0 → Type 0
TracesHand I R D P =
    (z : Setting D P) (mine : List (Entry I R D P)) (u : ℕ) → IsOwnRun z u mine → NoAsk (run_of z mine) u → IsTrue ((run_of z mine).live u) → IsHanded z u (told mine).past (told mine).last (told mine).reply

-- where a unit asks nothing: what it may give as its trace tells it, it may do in the run
abbrev pub TracesTell : Type 0 → Type 0 → Type 0 → Type 0 → Type 0
TracesTell I R D P =
    (z : Setting D P) (log : List (Entry I R D P)) (u : ℕ) (op : Op I R D P) → IsOpening z.opening → IsRun z log → NoAsk (run_of z log) u → MayGive z u (handed (told (own u log))) op → May z (run_of z log) u op

-- ---- growth

-- a run with one more legal entry is a run
abbrev pub RunsGrow : Type 0 → Type 0 → Type 0 → Type 0 → Type 0
RunsGrow I R D P = (z : Setting D P) (log : List (Entry I R D P)) (e : Entry I R D P) → IsRun z log → IsStep z (run_of z log) e → IsRun z (log ++ e ∷ [])

-- it holds what the entry makes of what the run held
abbrev pub RunsHold : Type 0 → Type 0 → Type 0 → Type 0 → Type 0
RunsHold I R D P = (z : Setting D P) (log : List (Entry I R D P)) (e : Entry I R D P) → run_of z (log ++ e ∷ []) ≡ after (run_of z log) e

-- a unit's own entries grow by what they allow, with a reply that it can have
abbrev pub OwnRunsGrow : Type 0 → Type 0 → Type 0 → Type 0 → Type 0
OwnRunsGrow I R D P =
    (z : Setting D P) (mine : List (Entry I R D P)) (u : ℕ) (op : Op I R D P) (y : Reply I D P) → IsOwnRun z u mine → MayBy z mine u op → CanReply (run_of z mine) u op y → IsOwnRun z u (mine ++ (record { unit = u; op = op; reply = y }) ∷ [])

-- a trace grows by what the entry tells
abbrev pub TracesGrow : Type 0 → Type 0 → Type 0 → Type 0 → Type 0
TracesGrow I R D P = (mine : List (Entry I R D P)) (e : Entry I R D P) → told (mine ++ e ∷ []) ≡ told_after (told mine) e.op e.reply

-- ---- waiting

-- who waits in a run is held up by others that are live
abbrev pub WaitersAreHeldUp : Type 0 → Type 0 → Type 0 → Type 0 → Type 0
WaitersAreHeldUp I R D P =
    (z : Setting D P) (log : List (Entry I R D P)) (u : ℕ) → IsOpening z.opening → IsRun z log → IsTrue ((run_of z log).waits u) → IsHeldUp z (run_of z log) u

-- in a stuck run each live unit is held up
abbrev pub StuckUnitsAreHeldUp : Type 0 → Type 0 → Type 0 → Type 0 → Type 0
StuckUnitsAreHeldUp I R D P =
    (z : Setting D P) (log : List (Entry I R D P)) (u : ℕ) → IsOpening z.opening → IsRun z log → IsStuck (run_of z log) → IsTrue ((run_of z log).live u) → IsHeldUp z (run_of z log) u

-- who is shown in a stuck run waits for a unit that is live and waits too
abbrev pub ShownHoldersWait : Type 0 → Type 0 → Type 0 → Type 0 → Type 0
ShownHoldersWait I R D P =
    (z : Setting D P) (log : List (Entry I R D P)) (u : ℕ) (n : Need) (holder : ℕ) → IsOpening z.opening → IsRun z log → IsStuck (run_of z log) → IsShown z (run_of z log) u n holder
    → IsTrue ((run_of z log).live u) × IsTrue ((run_of z log).live holder) × IsTrue ((run_of z log).waits holder)

-- ---- ends

-- a query has fewer items than its expression and the graph allow
abbrev pub ItemsAreFew : Type 0 → Type 0
ItemsAreFew D = (h : State D) (q : Asked D) (n : ℕ) → IsGraph h.graph → HasScope h.graph q.start → MoreThan n (IsItem h q) → n < item_bound h.graph q.expr

-- each advance of a unit that does not wait, and each take, lowers the unit's weight and leaves those of others
abbrev pub AsksFall : Type 0 → Type 0 → Type 0 → Type 0 → Type 0
AsksFall I R D P =
    (z : Setting D P) (log : List (Entry I R D P)) (u : ℕ) (op : Op I R D P) (y : Reply I D P) → IsOpening z.opening → IsRun z log → IsStep z (run_of z log) (record { unit = u; op = op; reply = y })
    → (run_of z log).waits u ≡ false → ((op ≡ Advance) ⊎ (op ≡ Take))
    → (weight z (after (run_of z log) (record { unit = u; op = op; reply = y })) u < weight z (run_of z log) u) × ((v : ℕ) → v ≢ u → weight z (after (run_of z log) (record { unit = u; op = op; reply = y })) v ≡ weight z (run_of z log) v)

-- ---- when a run is over

-- a stuck run stays stuck: each later entry is an advance, and is answered that every live unit waits
abbrev pub StuckRunsStayStuck : Type 0 → Type 0 → Type 0 → Type 0 → Type 0
StuckRunsStayStuck I R D P =
    (z : Setting D P) (log more : List (Entry I R D P)) → IsOpening z.opening → IsRun z (log ++ more) → IsStuck (run_of z log)
    → IsStuck (run_of z (log ++ more)) × ((e : Entry I R D P) → Contains more e → (e.op ≡ Advance) × (e.reply ≡ Stuck))

-- a run is stuck where some entry was answered that every live unit waits
abbrev pub StuckIsTold : Type 0 → Type 0 → Type 0 → Type 0 → Type 0
StuckIsTold I R D P = (z : Setting D P) (log : List (Entry I R D P)) (e : Entry I R D P) → IsOpening z.opening → IsRun z log → Contains log e → e.reply ≡ Stuck → IsStuck (run_of z log)

-- a unit has ended in a run where it has ended by its own entries, and is live where it is live by them
abbrev pub OwnEntriesEnd : Type 0 → Type 0 → Type 0 → Type 0 → Type 0
OwnEntriesEnd I R D P = (z : Setting D P) (log : List (Entry I R D P)) (u : ℕ) → (run_of z log).live u ≡ (run_of z (own u log)).live u

-- no unit is live where each one of the opening has ended by its own entries
abbrev pub EndIsTold : Type 0 → Type 0 → Type 0 → Type 0 → Type 0
EndIsTold I R D P =
    (z : Setting D P) (log : List (Entry I R D P)) → IsOpening z.opening → IsRun z log → ((u : ℕ) → u < units_of z → (run_of z (own u log)).live u ≡ false)
    → (u : ℕ) → IsTrue ((run_of z log).live u) → ⊥

-- ---- that there are such runs

-- the run of a unit that asks along a row which it holds itself is stuck
abbrev pub SomeGetStuck : Type 0 → Type 0 → Type 0 → Type 0 → Type 0
SomeGetStuck I R D P =
    (wants : P → D → Bool) (same : D → D → Bool) (p : P) → IsOpening (lonely_setting wants same).opening
    × (let log : List (Entry I R D P) = lonely_log p in IsRun (lonely_setting wants same) log × IsStuck (run_of (lonely_setting wants same) log))

-- ---- what small runs tell apart

-- where a unit asks along its own row and there is no other, its advance has the reply Stuck alone
abbrev pub LonelyUnitsGetStuck : Type 0 → Type 0 → Type 0 → Type 0 → Type 0
LonelyUnitsGetStuck I R D P =
    (wants : P → D → Bool) (same : D → D → Bool) (p : P) (y : Reply I D P)
    → (let log : List (Entry I R D P) = (record { unit = 0; op = Ask (corner_query p); reply = Moved }) ∷ (record { unit = 0; op = Advance; reply = y }) ∷ [] in IsRun (lonely_setting wants same) log) → y ≡ Stuck

-- a unit does not end while it asks
abbrev pub AskersDoNotEnd : Type 0 → Type 0 → Type 0 → Type 0 → Type 0
AskersDoNotEnd I R D P =
    (wants : P → D → Bool) (same : D → D → Bool) (p : P) (x : R) (y : Reply I D P)
    → (let log : List (Entry I R D P) = (record { unit = 0; op = Ask (corner_query p); reply = Moved }) ∷ (record { unit = 0; op = End x; reply = y }) ∷ [] in IsRun (lonely_setting wants same) log) → ⊥

-- no unit adds to another's row, nor to its own once it closed that, as its own entries tell it; and what has ended holds nothing
abbrev pub HoldersAloneAdd : Type 0 → Type 0 → Type 0 → Type 0 → Type 0
HoldersAloneAdd I R D P =
    (wants : P → D → Bool) (same : D → D → Bool) (x : R) (y : Reply I D P)
    → ((let log : List (Entry I R D P) = (record { unit = 0; op = AddEdge corner 0 corner; reply = y }) ∷ [] in IsRun (pair_setting wants same) log) → ⊥)
    × ((let mine : List (Entry I R D P) = (record { unit = 1; op = CloseRow corner 0; reply = y }) ∷ [] in MayBy (pair_setting wants same) mine 1 (AddEdge corner 0 corner)) → ⊥)
    × ((let log : List (Entry I R D P) = (record { unit = 1; op = End x; reply = y }) ∷ [] in run_of (pair_setting wants same) log).held.row_holds ≡ [])

-- who waits for a row is woken by who closes it
abbrev pub WaitersAreWoken : Type 0 → Type 0 → Type 0 → Type 0 → Type 0
WaitersAreWoken I R D P =
    (wants : P → D → Bool) (same : D → D → Bool) (p : P) (woken : List ℕ)
    → (let log : List (Entry I R D P) = pair_log p in IsWoken (pair_setting wants same) (run_of (pair_setting wants same) log) (without_row (pair {D = D}) 1 corner 0) woken) → Contains woken 0

-- the answer that was taken is handed to who asked
abbrev pub AnswersAreHanded : Type 0 → Type 0 → Type 0 → Type 0 → Type 0
AnswersAreHanded I R D P =
    (p : P) (a : Answer D)
    → (let mine : List (Entry I R D P) = (record { unit = 0; op = Ask (corner_query p); reply = Moved }) ∷ (record { unit = 0; op = Advance; reply = Ready }) ∷ taken 0 a ∷ [] in handed (told mine)) ≡ (Ask (corner_query p), Answered a) ∷ []

-- ---- honesty

-- a unit that gave nothing is honest, where it owes these things in each graph
abbrev pub NewUnitsAreHonest : (I : Type 0) {R D P : Type 0} → (GraphOf D → Scope → ℕ → Scope → Type 0) → (GraphOf D → Scope → D → Type 0) → (GraphOf D → Query P → Type 0) → (GraphOf D → R → Type 0) → Type 0
NewUnitsAreHonest I {R} {D} {P} edges data_at asked result =
    (z : Setting D P) (u : ℕ) → (let past : Past I R D P = [] in IsHonest z u edges data_at asked result past None)

-- a unit that is honest by its trace stays so by a call whose operation meets its condition and after which it gave what it owes
abbrev pub CallsKeepHonest : (I : Type 0) {R D P : Type 0} → (GraphOf D → Scope → ℕ → Scope → Type 0) → (GraphOf D → Scope → D → Type 0) → (GraphOf D → Query P → Type 0) → (GraphOf D → R → Type 0) → Type 0
CallsKeepHonest I {R} {D} {P} edges data_at asked result =
    (z : Setting D P) (u : ℕ) (past : Past I R D P) (given : Option (Op I R D P)) (last : Option (Reply I D P)) (op : Op I R D P)
    → IsHonest z u edges data_at asked result past given → IsHanded z u past given last → MayGive z u (with_last past given last) op
    → ((g : GraphOf D) → AnswersAsTold z g (with_last past given last) → GivesResults z u (edges g) (data_at g) (asked g) (result g) (with_last past given last) (Some op))
    → IsHonest z u edges data_at asked result (with_last past given last) (Some op)

-- ---- ended units

-- a unit that has ended asks nothing
abbrev pub EndedUnitsAskNothing : Type 0 → Type 0 → Type 0 → Type 0 → Type 0
EndedUnitsAskNothing I R D P = (z : Setting D P) (log : List (Entry I R D P)) (u : ℕ) → IsRun z log → (run_of z log).live u ≡ false → NoAsk (run_of z log) u

-- each ask of a unit that has ended was followed by its take
abbrev pub EndedUnitsTook : Type 0 → Type 0 → Type 0 → Type 0 → Type 0
EndedUnitsTook I R D P =
    (z : Setting D P) (before behind : List (Entry I R D P)) (u : ℕ) (q : Query P) (y : Reply I D P) → IsRun z (before ++ asks u q y ∷ behind) → (run_of z (before ++ asks u q y ∷ behind)).live u ≡ false
    → (between : List (Entry I R D P)) × (rest : List (Entry I R D P)) × (a : Answer D) × (behind ≡ between ++ taken u a ∷ rest) × ((run_of z (before ++ asks u q y ∷ between)).asks u ≡ ready_ask q)
