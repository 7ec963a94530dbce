-- What a seat has beside its turns: what it has seen of the run, and the events that it keeps.
use Rattle.std.specs.Prelude.{◌≡◌, ℕ, ◌+◌, ◌<◌, ◌^◌, List, [], ◌∷◌, ◌++◌, ◌⊎◌, Bool, Option, Some, None, Result, Ok, Err, All, IfSome, length}
use Rattle.sg_base.specs.Graph.{IsGraph, HasScope}
use Rattle.sg_query.specs.declared.query.Query.{Query}
use Rattle.sg_state.specs.Opening.{IsOpening}
use Rattle.sg_unit.specs.declared.entry.Entry.{Entry}
use Rattle.sg_unit.specs.declared.op.Op.{Op}
use Rattle.sg_unit.specs.declared.op.Op.TheVariants.{Ask as AskOf}
use Rattle.sg_unit.specs.declared.reply.Reply.{Reply}
use Rattle.sg_unit.specs.Own.{own}
use Rattle.sg_unit.specs.Run.{Setting, run_of, IsFreeUnit}
use Rattle.sg_unit.specs.Step.{IsRun}
use Rattle.sg_core.specs.declared.ahead.Ahead.{Ahead}
use Rattle.sg_core.specs.declared.found_ask.FoundAsk.{FoundAsk}
use Rattle.sg_core.specs.declared.found_ask.FoundAsk.TheVariants.{Nothing}
use Rattle.sg_core.specs.Ahead.{IsAhead}
use Rattle.sg_core.specs.Beside.{KeepsOne, KeepsAll, with_events}
use Rattle.sg_core.specs.Core.{CoreOf, entry}
use Rattle.sg_core.specs.Sight.{SightOf, IsSightOf}
use Rattle.sg_broker.specs.declared.step.Step.{Step}
use Rattle.sg_broker.specs.declared.step.Step.TheVariants.{Told, Turn}

-- it is what the run held after the first of the events that the seat has seen
abbrev pub IsSeen : {I R D P : Type 0} → Setting D P → List (Entry I R D P) → SightOf D → Type 0
IsSeen {I} {R} {D} {P} z seen v =
    (front : List (Entry I R D P)) × (back : List (Entry I R D P)) × (seen ≡ front ++ back) × (v.held ≡ (run_of z front).held) × (v.kinds ≡ z.kinds)

-- The seat of unit u has seen this many events, a legal run whose own events are these (`mine`), and what the run held in an earlier state. It
-- keeps events of the unit that are settled there, where the unit is live and asks nothing by its own events in the log
pub record IsBeside {I R D P : Type 0} (z : Setting D P) (seen mine : List (Entry I R D P)) (u : ℕ) (v : SightOf D) (count : ℕ) (kept : List (Entry I R D P)) (ask : FoundAsk D) : Type 0 where
  pub opens : IsOpening z.opening
  pub runs : IsRun z seen
  pub counted : length seen ≡ count
  pub own : own u seen ≡ mine
  pub sight : IsSeen z seen v
  pub keeps : KeepsAll z.wants z.same v.kinds v.held u Nothing kept ask
  pub free : (kept ≡ []) ⊎ IsFreeUnit (run_of z mine) u

-- a seat that has seen nothing of what the run held keeps nothing
abbrev pub IsAside : {I R D P : Type 0} → Setting D P → List (Entry I R D P) → List (Entry I R D P) → ℕ → Option (SightOf D) → ℕ → List (Entry I R D P) → FoundAsk D → Type 0
IsAside z seen mine u None count kept ask = (kept ≡ []) × (ask ≡ Nothing)
IsAside z seen mine u (Some v) count kept ask = IsBeside z seen mine u v count kept ask

-- ---- an operation at the seat

-- the kind of the query that is asked is one of what was seen
abbrev pub HasKindOf : {I R D P : Type 0} → Option (SightOf D) → Op I R D P → Type 0
HasKindOf None op = Unit {0}
HasKindOf {P = P} (Some v) op = (q : Query P) → op ≡ AskOf q → q.kind < length v.kinds

-- what the search of the query that is asked came to there; nothing where nothing was seen
abbrev pub AreAhead : {I R D P : Type 0} → (P → D → Bool) → (D → D → Bool) → Option (SightOf D) → Op I R D P → Option (Ahead I D P) → Type 0
AreAhead wants same None op o = o ≡ None
AreAhead {P = P} wants same (Some v) op o =
    (q : Query P) → op ≡ AskOf q → IfSome o (λ b. IsGraph v.held.graph × HasScope v.held.graph q.start × IsAhead wants same v.kinds v.held q b)

-- what is handed in beside an ask is what its search came to in what the seat has seen of the run
abbrev pub HoldsAhead : {I R D P : Type 0} → Setting D P → List (Entry I R D P) → Op I R D P → Option (Ahead I D P) → Type 0
HoldsAhead {D = D} {P = P} z seen op o =
    (q : Query P) → op ≡ AskOf q → IfSome o (λ b. (v : SightOf D) × IsSeen z seen v × IsGraph v.held.graph × HasScope v.held.graph q.start × IsAhead z.wants z.same v.kinds v.held q b)

-- the operation was answered by what was seen, and the event is kept
abbrev pub TellsHere : {I R D P : Type 0} → (P → D → Bool) → (D → D → Bool) → Option (SightOf D) → ℕ → Op I R D P → Reply I D P → List (Entry I R D P) → FoundAsk D → List (Entry I R D P) → FoundAsk D → Type 0
TellsHere wants same None u op y old ask new then = ⊥
TellsHere wants same (Some v) u op y old ask new then = (new ≡ old ++ entry u op y ∷ []) × KeepsOne wants same v.kinds v.held u ask (entry u op y) then

-- what comes of an operation at its seat: it is answered there, or left for a turn with what its search came to
abbrev pub Comes : {I R D P : Type 0} → (P → D → Bool) → (D → D → Bool) → Option (SightOf D) → ℕ → Op I R D P → List (Entry I R D P) → FoundAsk D → List (Entry I R D P) → FoundAsk D → Step I R D P → Type 0
Comes wants same o u op old ask new then (Told y) = TellsHere wants same o u op y old ask new then
Comes wants same o u op old ask new then (Turn p a) = (p ≡ op) × AreAhead wants same o op a × (new ≡ old) × (then ≡ ask)

-- where it is answered there, this many events and those that are kept have room for one more
abbrev pub HasRoom : {I R D P : Type 0} → ℕ → List (Entry I R D P) → Step I R D P → Type 0
HasRoom count kept (Told y) = count + length kept + 1 < 2 ^ 63
HasRoom count kept (Turn p a) = Unit {0}

-- ---- a turn

-- the first sight stays, and else it is what the core's run holds
abbrev pub FirstOf : {I R D P : Type 0} → (P → D → Bool) → (D → D → Bool) → CoreOf I R D P → Option (SightOf D) → Option (SightOf D) → Type 0
FirstOf wants same c (Some v) new = new ≡ Some v
FirstOf wants same c None new = IfSome new (IsSightOf wants same c)

-- the event of an operation, where it was applied
abbrev pub told_by : {I R D P E : Type 0} → ℕ → Op I R D P → Result (Reply I D P) E → List (Entry I R D P)
told_by u op (Ok y) = entry u op y ∷ []
told_by u op (Err e) = []

-- The core's log gained events of the unit: they and what is kept now are what was kept and these new ones; and all that was kept is in the
-- log, or nothing has changed
pub record Gains {I R D P : Type 0} (old new : CoreOf I R D P) (u : ℕ) (kept : List (Entry I R D P)) (ask : FoundAsk D) (told left : List (Entry I R D P)) (then : FoundAsk D) : Type 0 where
  pub more : List (Entry I R D P)
  pub logged : new ≡ with_events old more
  pub units : All (λ e. e.unit ≡ u) more
  pub adds : more ++ left ≡ kept ++ told
  pub empty : ((left ≡ []) × (then ≡ Nothing)) ⊎ ((more ≡ []) × (left ≡ kept) × (then ≡ ask))
