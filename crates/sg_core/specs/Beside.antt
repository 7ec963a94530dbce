-- Events of a unit that were kept beside the turn: asks that are settled in a held graph, with their ready advances and takes.
use Rattle.std.specs.Prelude.{◌≡◌, ℕ, ◌<◌, ◌++◌, List, [], ◌∷◌, ◌⊎◌, Bool, length}
use Rattle.sg_base.specs.Graph.{HasScope}
use Rattle.sg_query.specs.declared.answer.Answer.{Answer}
use Rattle.sg_query.specs.declared.query.Query.{Query}
use Rattle.sg_query.specs.Answer.{IsAnswer}
use Rattle.sg_query.specs.Query.{KindOf, asked}
use Rattle.sg_query.specs.State.{IsSettled}
use Rattle.sg_state.specs.Held.{HeldOf, state_of}
use Rattle.sg_unit.specs.declared.entry.Entry.{Entry}
use Rattle.sg_unit.specs.declared.op.Op.TheVariants.{Ask as AskOf, Advance, Take}
use Rattle.sg_unit.specs.declared.reply.Reply.TheVariants.{Moved, Ready as ReadyNow, Answer as Answered}
use Rattle.sg_core.specs.declared.ask.Ask.{Ask}
use Rattle.sg_core.specs.declared.ask.Ask.TheVariants as ask
use Rattle.sg_core.specs.declared.found_ask.FoundAsk.{FoundAsk}
use Rattle.sg_core.specs.declared.found_ask.FoundAsk.TheVariants.{Nothing, Found, Ready}
use Rattle.sg_core.specs.Core.{CoreOf, entry}

-- what a core keeps of such an ask
abbrev pub ask_found : {I D P : Type 0} → FoundAsk D → Ask I D P
ask_found Nothing = ask.Nothing
ask_found (Found a) = ask.Found a
ask_found (Ready a) = ask.Ready a

-- ---- one event

-- the ask of a query whose answer was found is one event more
abbrev pub AsksFound : {I R D P : Type 0} → ℕ → Query P → Answer D → List (Entry I R D P) → List (Entry I R D P) → FoundAsk D → Type 0
AsksFound u q a old new b = (new ≡ old ++ entry u (AskOf q) Moved ∷ []) × (b ≡ Found a)

-- so is the advance that tells that it is ready
abbrev pub TellsReady : {I R D P : Type 0} → ℕ → FoundAsk D → List (Entry I R D P) → List (Entry I R D P) → FoundAsk D → Type 0
TellsReady {D = D} u a old new b = (x : Answer D) × (a ≡ Found x) × (new ≡ old ++ entry u Advance ReadyNow ∷ []) × (b ≡ Ready x)

-- so is its take
abbrev pub TakesReady : {I R D P : Type 0} → ℕ → Answer D → FoundAsk D → List (Entry I R D P) → List (Entry I R D P) → FoundAsk D → Type 0
TakesReady u x a old new b = (a ≡ Ready x) × (new ≡ old ++ entry u Take (Answered x) ∷ []) × (b ≡ Nothing)

-- ---- all events

module _ {I R D P : Type 0} (wants : P → D → Bool) (same : D → D → Bool) (kinds : List KindOf) (h : HeldOf D) (u : ℕ) where
  -- the unit asks nothing, and asks a query of the table from a scope that is there, which is settled here, and whose answer here was found
  abbrev pub KeepsAsk : FoundAsk D → Entry I R D P → FoundAsk D → Type 0
  KeepsAsk a e b =
      (q : Query P) × (x : Answer D) × (a ≡ Nothing) × (e ≡ entry u (AskOf q) Moved) × (b ≡ Found x)
      × (q.kind < length kinds) × HasScope h.graph q.start × IsSettled (state_of h) (asked wants same kinds q) × IsAnswer h.graph (asked wants same kinds q) x

  -- it is told that the answer that was found is ready
  abbrev pub KeepsAdvance : FoundAsk D → Entry I R D P → FoundAsk D → Type 0
  KeepsAdvance a e b = (x : Answer D) × (a ≡ Found x) × (e ≡ entry u Advance ReadyNow) × (b ≡ Ready x)

  -- it takes the answer that is ready
  abbrev pub KeepsTake : FoundAsk D → Entry I R D P → FoundAsk D → Type 0
  KeepsTake a e b = (x : Answer D) × (a ≡ Ready x) × (e ≡ entry u Take (Answered x)) × (b ≡ Nothing)

  -- the event is one of these: what the unit asked before it and asks after it
  abbrev pub KeepsOne : FoundAsk D → Entry I R D P → FoundAsk D → Type 0
  KeepsOne a e b = KeepsAsk a e b ⊎ (KeepsAdvance a e b ⊎ KeepsTake a e b)

  -- all these events are such, one after the other
  abbrev pub KeepsAll : FoundAsk D → List (Entry I R D P) → FoundAsk D → Type 0
  KeepsAll a [] b = a ≡ b
  KeepsAll a (e ∷ es) b = (c : FoundAsk D) × KeepsOne a e c × KeepsAll c es b

-- the core with these entries behind its log
abbrev pub with_events : {I R D P : Type 0} → CoreOf I R D P → List (Entry I R D P) → CoreOf I R D P
with_events c es = record { opening = c.opening; kinds = c.kinds; log = c.log ++ es }

-- none of the events is kept any more, and all of them are behind the log
abbrev pub HandsIn : {I R D P : Type 0} → CoreOf I R D P → CoreOf I R D P → List (Entry I R D P) → List (Entry I R D P) → FoundAsk D → Type 0
HandsIn old new kept left ask = (new ≡ with_events old kept) × (left ≡ []) × (ask ≡ Nothing)

-- nothing changed
abbrev pub KeepsOn : {I R D P : Type 0} → CoreOf I R D P → CoreOf I R D P → List (Entry I R D P) → List (Entry I R D P) → FoundAsk D → FoundAsk D → Type 0
KeepsOn old new kept left ask then = (new ≡ old) × (left ≡ kept) × (then ≡ ask)
