-- Runs: what a list of entries makes of an opening.
use Rattle.std.specs.Prelude.{◌≡◌, ℕ, suc, List, [], ◌∷◌, Bool, false, ◌&&◌, not, ◌==◌, cond, length, nat_lt, IsTrue}
use Rattle.std.specs.List.{list_any}
use Rattle.sg_query.specs.declared.query.Query.{Query}
use Rattle.sg_query.specs.Query.{KindOf, Asked, asked}
use Rattle.sg_state.specs.Held.{HeldOf, with_fresh, with_edge, with_datum, without_row, without_unit}
use Rattle.sg_unit.specs.declared.entry.Entry.{Entry}
use Rattle.sg_unit.specs.declared.op.Op.{Op}
use Rattle.sg_unit.specs.declared.op.Op.TheVariants.{Fresh, AddEdge, SetDatum, CloseRow, Ask, Advance, Take, End}
use Rattle.sg_unit.specs.declared.reply.Reply.{Reply}
use Rattle.sg_unit.specs.declared.reply.Reply.TheVariants.{Moved, Ready}
use Rattle.sg_unit.specs.Operation.{goes_on, woken_by, waits_by}

-- what a run is about: the held graph that it begins with, the kinds of its queries, which data a predicate wants, and which count as one
pub record Setting (D P : Type 0) : Type 0 where
  pub opening : HeldOf D
  pub kinds : List KindOf
  pub wants : P → D → Bool
  pub same : D → D → Bool

-- how many units there are
abbrev pub units_of : {D P : Type 0} → Setting D P → ℕ
units_of z = length z.opening.made

-- what a query asks in a run
abbrev pub asked_by : {D P : Type 0} → Setting D P → Query P → Asked D
asked_by z q = asked z.wants z.same z.kinds q

-- what a unit asks: nothing, or a query that is open, with how many times its search was moved on, or one that is ready
pub data Asking (P : Type 0) : Type 0 where
  no_ask : Asking P
  open_ask : Query P → ℕ → Asking P
  ready_ask : Query P → Asking P

-- what a run holds: the held graph, which units are live, which of them wait, and what each asks
pub record RunOf (D P : Type 0) : Type 0 where
  pub held : HeldOf D
  pub live : ℕ → Bool
  pub waits : ℕ → Bool
  pub asks : ℕ → Asking P

-- a run before its first entry: each unit is live, none waits, and none asks
abbrev pub opened : {D P : Type 0} → Setting D P → RunOf D P
opened z = record { held = z.opening; live = λ u. nat_lt u (units_of z); waits = λ u. false; asks = λ u. no_ask }

-- ---- what an entry does

-- the held graph after a unit's operation
abbrev pub held_after : {I R D P : Type 0} → HeldOf D → ℕ → Op I R D P → HeldOf D
held_after h u (Fresh labels datum) = with_fresh h u labels datum
held_after h u (AddEdge from label to) = with_edge h (record { from = from; label = label; to = to })
held_after h u (SetDatum s d) = with_datum h u s d
held_after h u (CloseRow s l) = without_row h u s l
held_after h u (Ask q) = h
held_after h u Advance = h
held_after h u Take = h
held_after h u (End x) = without_unit h u

-- what a unit asks after the reply to an advance
abbrev pub advanced : {I D P : Type 0} → Asking P → Reply I D P → Asking P
advanced (open_ask q m) Moved = open_ask q (suc m)
advanced (open_ask q m) Ready = ready_ask q
advanced a y = a

-- what a unit asks after an operation of its own
abbrev pub ask_after : {I R D P : Type 0} → Asking P → Op I R D P → Reply I D P → Asking P
ask_after a (Fresh labels datum) y = a
ask_after a (AddEdge from label to) y = a
ask_after a (SetDatum s d) y = a
ask_after a (CloseRow s l) y = a
ask_after a (Ask q) y = open_ask q 0
ask_after a Advance y = advanced a y
ask_after a Take y = no_ask
ask_after a (End x) y = a

-- which units wait after an entry
abbrev pub waits_after : {I R D P : Type 0} → (ℕ → Bool) → Entry I R D P → ℕ → Bool
waits_after waits e u = cond (e.unit == u) (goes_on e.op && waits_by (waits u) e.reply) (waits u && not (list_any (λ w. w == u) (woken_by e.reply)))

-- what a run holds after an entry
abbrev pub after : {I R D P : Type 0} → RunOf D P → Entry I R D P → RunOf D P
after r e = record {
  held = held_after r.held e.unit e.op;
  live = λ u. cond (e.unit == u) (r.live u && goes_on e.op) (r.live u);
  waits = waits_after r.waits e;
  asks = λ u. cond (e.unit == u) (ask_after (r.asks u) e.op e.reply) (r.asks u);
}

-- what a run holds after these entries
abbrev pub run_from : {I R D P : Type 0} → RunOf D P → List (Entry I R D P) → RunOf D P
run_from r [] = r
run_from r (e ∷ es) = run_from (after r e) es

-- what a run with these entries holds
abbrev pub run_of : {I R D P : Type 0} → Setting D P → List (Entry I R D P) → RunOf D P
run_of z log = run_from (opened z) log

-- ---- what a unit asks

-- the unit asks nothing
abbrev pub NoAsk : {D P : Type 0} → RunOf D P → ℕ → Type 0
NoAsk r u = r.asks u ≡ no_ask

-- it asks nothing, and is live
abbrev pub IsFreeUnit : {D P : Type 0} → RunOf D P → ℕ → Type 0
IsFreeUnit r u = NoAsk r u × IsTrue (r.live u)

-- it is an open query
abbrev pub IsOpenAsk : {P : Type 0} → Asking P → Type 0
IsOpenAsk {P} a = (q : Query P) × (m : ℕ) × (a ≡ open_ask q m)

-- it is a query that is ready
abbrev pub IsReadyAsk : {P : Type 0} → Asking P → Type 0
IsReadyAsk {P} a = (q : Query P) × (a ≡ ready_ask q)

-- it is this query, open or ready
abbrev pub IsFor : {P : Type 0} → Asking P → Query P → Type 0
IsFor no_ask q = ⊥
IsFor (open_ask x m) q = x ≡ q
IsFor (ready_ask x) q = x ≡ q
