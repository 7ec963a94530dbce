-- Traces: what a unit gave and was handed, without what its driver did.
use Rattle.std.specs.Prelude.{◌≡◌, ℕ, List, [], ◌∷◌, ◌++◌, Option, Some, None}
use Rattle.sg_query.specs.declared.answer.Answer.{Answer}
use Rattle.sg_state.specs.Held.{next_scope}
use Rattle.sg_unit.specs.declared.entry.Entry.{Entry}
use Rattle.sg_unit.specs.declared.op.Op.{Op}
use Rattle.sg_unit.specs.declared.op.Op.TheVariants.{Fresh, AddEdge, SetDatum, CloseRow, Ask, Advance, Take, End}
use Rattle.sg_unit.specs.declared.reply.Reply.{Reply}
use Rattle.sg_unit.specs.declared.reply.Reply.TheVariants.{Made, Done, Moved, Ready, Answer as Answered}
use Rattle.sg_unit.specs.Run.{Setting, run_of}
use Rattle.sg_unit.specs.Own.{MayBy}

-- operations that a unit gave, each with the reply that it was handed: the answer, where it asked
abbrev pub Past : Type 0 → Type 0 → Type 0 → Type 0 → Type 0
Past I R D P = List (Op I R D P × Reply I D P)

-- what a unit gave and was told. It stands for the trace of `past` and `last`, its last operation, which it was handed no reply to;
-- `reply` waits to be handed to it, where that operation has one
pub record Trace (I R D P : Type 0) : Type 0 where
  pub past : Past I R D P
  pub last : Option (Op I R D P)
  pub reply : Option (Reply I D P)

-- the trace once a reply is handed to the unit, where there is one
abbrev pub with_last : {I R D P : Type 0} → Past I R D P → Option (Op I R D P) → Option (Reply I D P) → Past I R D P
with_last past None y = past
with_last past (Some op) None = past
with_last past (Some op) (Some y) = past ++ (op, y) ∷ []

-- all that the unit gave, once the reply that waits is handed to it
abbrev pub handed : {I R D P : Type 0} → Trace I R D P → Past I R D P
handed t = with_last t.past t.last t.reply

-- the unit is handed the reply that waits, and gives its next operation
abbrev pub gave : {I R D P : Type 0} → Trace I R D P → Op I R D P → Option (Reply I D P) → Trace I R D P
gave t op y = record { past = handed t; last = Some op; reply = y }

-- what an entry of the unit tells: the driver's advances tell nothing, and its take has the answer of the unit's ask
abbrev pub told_after : {I R D P : Type 0} → Trace I R D P → Op I R D P → Reply I D P → Trace I R D P
told_after t (Fresh labels datum) y = gave t (Fresh labels datum) (Some y)
told_after t (AddEdge from label to) y = gave t (AddEdge from label to) (Some y)
told_after t (SetDatum s d) y = gave t (SetDatum s d) (Some y)
told_after t (CloseRow s l) y = gave t (CloseRow s l) (Some y)
told_after t (Ask q) y = gave t (Ask q) None
told_after t Advance y = t
told_after t Take y = record { past = t.past; last = t.last; reply = Some y }
told_after t (End x) y = gave t (End x) (Some y)

-- what further entries of the unit tell, one after another, behind what was told before
abbrev pub told_from : {I R D P : Type 0} → Trace I R D P → List (Entry I R D P) → Trace I R D P
told_from t [] = t
told_from t (e ∷ es) = told_from (told_after t e.op e.reply) es

-- a unit that gave nothing yet
abbrev pub untold : {I R D P : Type 0} → Trace I R D P
untold = record { past = []; last = None; reply = None }

-- what a unit with these entries gave and was told
abbrev pub told : {I R D P : Type 0} → List (Entry I R D P) → Trace I R D P
told mine = told_from untold mine

-- ---- the entries that a trace stands for

-- the entries that tell this: an ask is advanced once and taken
abbrev pub entries_for : {I R D P : Type 0} → ℕ → Op I R D P → Reply I D P → List (Entry I R D P)
entries_for u (Fresh labels datum) y = (record { unit = u; op = Fresh labels datum; reply = y }) ∷ []
entries_for u (AddEdge from label to) y = (record { unit = u; op = AddEdge from label to; reply = y }) ∷ []
entries_for u (SetDatum s d) y = (record { unit = u; op = SetDatum s d; reply = y }) ∷ []
entries_for u (CloseRow s l) y = (record { unit = u; op = CloseRow s l; reply = y }) ∷ []
entries_for u (Ask q) y = (record { unit = u; op = Ask q; reply = Moved }) ∷ (record { unit = u; op = Advance; reply = Ready }) ∷ (record { unit = u; op = Take; reply = y }) ∷ []
entries_for u Advance y = []
entries_for u Take y = []
entries_for u (End x) y = (record { unit = u; op = End x; reply = y }) ∷ []

-- entries of the unit that tell it this past
abbrev pub entries_of : {I R D P : Type 0} → ℕ → Past I R D P → List (Entry I R D P)
entries_of u [] = []
entries_of u (x ∷ xs) = entries_for u x.0 x.1 ++ entries_of u xs

-- the unit may give this next, as what it was handed tells it
abbrev pub MayGive : {I R D P : Type 0} → Setting D P → ℕ → Past I R D P → Op I R D P → Type 0
MayGive z u past op = MayBy z (entries_of u past) u op

-- the unit can be handed this reply to the operation that it gave after this past: its end has none, and its ask an answer
abbrev pub CanHand : {I R D P : Type 0} → Setting D P → ℕ → Past I R D P → Op I R D P → Reply I D P → Type 0
CanHand z u past (Fresh labels datum) y = y ≡ Made (next_scope (run_of z (entries_of u past)).held u)
CanHand z u past (AddEdge from label to) y = y ≡ Done []
CanHand z u past (SetDatum s d) y = (woken : List ℕ) × (y ≡ Done woken)
CanHand z u past (CloseRow s l) y = (woken : List ℕ) × (y ≡ Done woken)
CanHand {D = D} z u past (Ask q) y = (a : Answer D) × (y ≡ Answered a)
CanHand z u past Advance y = ⊥
CanHand z u past Take y = ⊥
CanHand z u past (End x) y = ⊥

-- this is what the unit is handed at its next call: nothing at the first, and later a reply that its last operation can have
abbrev pub IsHanded : {I R D P : Type 0} → Setting D P → ℕ → Past I R D P → Option (Op I R D P) → Option (Reply I D P) → Type 0
IsHanded z u past None y = (past ≡ []) × (y ≡ None)
IsHanded z u past (Some op) None = ⊥
IsHanded z u past (Some op) (Some y) = CanHand z u past op y
