-- Legal runs: each operation meets its condition, and has the reply that it is owed.
use Rattle.std.specs.Prelude.{◌≡◌, ℕ, suc, ◌+◌, ◌*◌, ◌<◌, ◌^◌, List, [], ◌∷◌, false, length, slice_index, IsTrue}
use Rattle.sg_base.specs.declared.scope.Scope.{Scope}
use Rattle.sg_base.specs.Graph.{HasScope}
use Rattle.sg_base.specs.List.{MoreThan}
use Rattle.sg_query.specs.declared.answer.Answer.{Answer}
use Rattle.sg_query.specs.declared.query.Query.{Query}
use Rattle.sg_query.specs.Answer.{IsAnswer}
use Rattle.sg_query.specs.State.{IsItem, IsSettled}
use Rattle.sg_state.specs.Held.{HeldOf, HoldsRow, HoldsDatum, state_of, next_scope}
use Rattle.sg_unit.specs.declared.entry.Entry.{Entry}
use Rattle.sg_unit.specs.declared.op.Op.{Op}
use Rattle.sg_unit.specs.declared.op.Op.TheVariants.{Fresh, AddEdge, SetDatum, CloseRow, Ask, Advance, Take, End}
use Rattle.sg_unit.specs.declared.reply.Reply.{Reply}
use Rattle.sg_unit.specs.declared.reply.Reply.TheVariants.{Made, Done, Moved, Ready, Suspended, Answer as Answered, Stuck}
use Rattle.sg_unit.specs.Run.{Setting, RunOf, ready_ask, open_ask, asked_by, opened, after, NoAsk, IsOpenAsk, IsReadyAsk}
use Rattle.sg_unit.specs.Waiting.{IsWoken, IsStuck}

-- ---- conditions

-- the condition of the operation, where these scopes are there: a unit asks nothing when it writes, asks or ends, makes fewer than 2^32 - 1
-- scopes, holds what it adds to or gives up, and asks by a kind of the table; it advances an open query, and takes a ready one
abbrev pub Meets : {I R D P : Type 0} → Setting D P → (Scope → Type 0) → RunOf D P → ℕ → Op I R D P → Type 0
Meets z There r u (Fresh labels datum) = NoAsk r u × (slice_index r.held.made u + 1 < 2 ^ 32)
Meets z There r u (AddEdge from label to) = NoAsk r u × HoldsRow r.held u from label × There to
Meets z There r u (SetDatum s d) = NoAsk r u × HoldsDatum r.held u s
Meets z There r u (CloseRow s l) = NoAsk r u × HoldsRow r.held u s l
Meets z There r u (Ask q) = NoAsk r u × (q.kind < length z.kinds) × There q.start
Meets z There r u Advance = IsOpenAsk (r.asks u)
Meets z There r u Take = IsReadyAsk (r.asks u)
Meets z There r u (End x) = NoAsk r u

-- the unit may do this next: it is live, and the operation's condition holds with the scopes of the graph
abbrev pub May : {I R D P : Type 0} → Setting D P → RunOf D P → ℕ → Op I R D P → Type 0
May z r u op = IsTrue (r.live u) × Meets z (HasScope r.held.graph) r u op

-- ---- replies

-- what an advance of the open query answers, which was moved on m times; `next` is what the run holds after it: Ready where it is settled;
-- Moved where the unit does not wait and the query has more items than were looked at; else the unit waits, and all live units do where it is Stuck
abbrev pub Advances : {I D P : Type 0} → Setting D P → RunOf D P → RunOf D P → ℕ → Query P → ℕ → Reply I D P → Type 0
Advances z r next u q m Ready = IsSettled (state_of r.held) (asked_by z q)
Advances z r next u q m Moved = (r.waits u ≡ false) × MoreThan (64 * suc m) (IsItem (state_of r.held) (asked_by z q))
Advances z r next u q m Suspended = (IsSettled (state_of r.held) (asked_by z q) → ⊥) × (IsStuck next → ⊥)
Advances z r next u q m Stuck = (IsSettled (state_of r.held) (asked_by z q) → ⊥) × IsStuck next
Advances z r next u q m (Made s) = ⊥
Advances z r next u q m (Done woken) = ⊥
Advances z r next u q m (Answered a) = ⊥

-- what a write answers that leads to this held graph: Done, with the units that it wakes
abbrev pub IsDone : {I D P : Type 0} → Setting D P → RunOf D P → HeldOf D → Reply I D P → Type 0
IsDone z r h (Done woken) = IsWoken z r h woken
IsDone z r h (Made s) = ⊥
IsDone z r h Moved = ⊥
IsDone z r h Ready = ⊥
IsDone z r h Suspended = ⊥
IsDone z r h (Answered a) = ⊥
IsDone z r h Stuck = ⊥

-- what an end answers: Done, with the units that it wakes, or Stuck, where all live units wait then
abbrev pub IsEnd : {I D P : Type 0} → Setting D P → RunOf D P → RunOf D P → Reply I D P → Type 0
IsEnd z r next (Done woken) = IsWoken z r next.held woken × (IsStuck next → ⊥)
IsEnd z r next Stuck = IsWoken z r next.held [] × IsStuck next
IsEnd z r next (Made s) = ⊥
IsEnd z r next Moved = ⊥
IsEnd z r next Ready = ⊥
IsEnd z r next Suspended = ⊥
IsEnd z r next (Answered a) = ⊥

-- the reply is one that the operation has here; `next` is what the run holds after both
abbrev pub Replies : {I R D P : Type 0} → Setting D P → RunOf D P → RunOf D P → ℕ → Op I R D P → Reply I D P → Type 0
Replies z r next u (Fresh labels datum) y = y ≡ Made (next_scope r.held u)
Replies z r next u (AddEdge from label to) y = y ≡ Done []
Replies z r next u (SetDatum s d) y = IsDone z r next.held y
Replies z r next u (CloseRow s l) y = IsDone z r next.held y
Replies z r next u (Ask q) y = y ≡ Moved
Replies {P = P} z r next u Advance y = (q : Query P) (m : ℕ) → r.asks u ≡ open_ask q m → Advances z r next u q m y
Replies {D = D} {P = P} z r next u Take y = (a : Answer D) × (y ≡ Answered a) × ((q : Query P) → r.asks u ≡ ready_ask q → IsAnswer r.held.graph (asked_by z q) a)
Replies z r next u (End x) y = IsEnd z r next y

-- ---- runs

-- the entry is legal where this is held: its unit may do it, and the reply is one that it has
pub record IsStep {I R D P : Type 0} (z : Setting D P) (r : RunOf D P) (e : Entry I R D P) : Type 0 where
  pub may : May z r e.unit e.op
  pub replies : Replies z r (after r e) e.unit e.op e.reply

-- each entry is legal after those before it
abbrev pub IsRunFrom : {I R D P : Type 0} → Setting D P → RunOf D P → List (Entry I R D P) → Type 0
IsRunFrom z r [] = Unit {0}
IsRunFrom z r (e ∷ es) = IsStep z r e × IsRunFrom z (after r e) es

-- a run from the opening
abbrev pub IsRun : {I R D P : Type 0} → Setting D P → List (Entry I R D P) → Type 0
IsRun z log = IsRunFrom z (opened z) log

-- the unit takes this answer
abbrev pub taken : {I R D P : Type 0} → ℕ → Answer D → Entry I R D P
taken u a = record { unit = u; op = Take; reply = Answered a }

-- the unit asks this query
abbrev pub asks : {I R D P : Type 0} → ℕ → Query P → Reply I D P → Entry I R D P
asks u q y = record { unit = u; op = Ask q; reply = y }
