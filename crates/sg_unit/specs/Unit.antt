-- What a unit's next call takes and gives.
use Rattle.std.specs.Prelude.{ℕ, List, Bool, Option, Some}
use Rattle.sg_base.specs.declared.scope.Scope.{Scope}
use Rattle.sg_base.specs.Graph.{GraphOf}
use Rattle.sg_query.specs.declared.query.Query.{Query}
use Rattle.sg_query.specs.Query.{KindOf}
use Rattle.sg_state.specs.Held.{HeldOf}
use Rattle.sg_unit.specs.declared.entry.Entry.{Entry}
use Rattle.sg_unit.specs.declared.op.Op.{Op}
use Rattle.sg_unit.specs.declared.reply.Reply.{Reply}
use Rattle.sg_unit.specs.Honest.{AnswersAsTold, GivesResults}
use Rattle.sg_unit.specs.Own.{CanReply}
use Rattle.sg_unit.specs.Run.{Setting, run_of}
use Rattle.sg_unit.specs.Trace.{Past, with_last, MayGive, IsHanded}

-- the setting with an instance's ways to compare data
abbrev pub setting_of : {D P : Type 0} → (P → D → Bool) → (D → D → Bool) → HeldOf D → List KindOf → Setting D P
setting_of wants same opening kinds = record { opening = opening; kinds = kinds; wants = wants; same = same }

-- the same at a fixed part or a seat that has this opening and these kinds
abbrev pub setting_at : {D P F : Type 0} → (P → D → Bool) → (D → D → Bool) → (F → HeldOf D) → (F → List KindOf) → F → Setting D P
setting_at wants same opening kinds f = setting_of wants same (opening f) (kinds f)

-- the reply is one that an operation of the seat's unit can have, as far as the seat's entries tell
abbrev pub SeatCanReply : {I R D P S : Type 0} → (P → D → Bool) → (D → D → Bool) → (S → HeldOf D) → (S → List KindOf) → (S → List (Entry I R D P)) → (S → ℕ) → S → Op I R D P → Reply I D P → Type 0
SeatCanReply wants same opening kinds mine number s = CanReply (run_of (setting_at wants same opening kinds s) (mine s)) (number s)

-- the unit stands for a trace after which it can be handed this
abbrev pub CanBeHanded : {I R D P : Type 0} → Setting D P → ℕ → (Past I R D P → Option (Op I R D P) → Type 0) → Option (Reply I D P) → Type 0
CanBeHanded {I} {R} {D} {P} z u Stands last = (past : Past I R D P) × (given : Option (Op I R D P)) × Stands past given × IsHanded z u past given last

-- for each trace that the unit stood for: it stands for that trace with what it was handed and the new operation, which meets its condition
abbrev pub GoesOn : {I R D P : Type 0} → Setting D P → ℕ → (Past I R D P → Option (Op I R D P) → Type 0) → (Past I R D P → Option (Op I R D P) → Type 0) → Option (Reply I D P) → Op I R D P → Type 0
GoesOn {I} {R} {D} {P} z u Stood Stands last op =
    (past : Past I R D P) (given : Option (Op I R D P)) → Stood past given → IsHanded z u past given last → Stands (with_last past given last) (Some op) × MayGive z u (with_last past given last) op

-- for each trace that the unit stood for, and each graph that answers as it was told: what it gave by now is what it owes in that graph
abbrev pub GivesOwed : {I R D P : Type 0} → Setting D P → ℕ → (GraphOf D → Scope → ℕ → Scope → Type 0) → (GraphOf D → Scope → D → Type 0) → (GraphOf D → Query P → Type 0) → (GraphOf D → R → Type 0) → (Past I R D P → Option (Op I R D P) → Type 0) → Option (Reply I D P) → Op I R D P → Type 0
GivesOwed {I} {R} {D} {P} z u edges data_at asks result Stood last op =
    (past : Past I R D P) (given : Option (Op I R D P)) (g : GraphOf D) → Stood past given → IsHanded z u past given last → AnswersAsTold z g (with_last past given last)
    → GivesResults z u (edges g) (data_at g) (asks g) (result g) (with_last past given last) (Some op)

-- the same of a unit of which these are the setting's parts, what it owes, its number, its fixed part and the traces that it stands for
abbrev pub UnitGivesOwed : {I R D P V F : Type 0} → (P → D → Bool) → (D → D → Bool) → (F → HeldOf D) → (F → List KindOf) → (F → GraphOf D → Scope → ℕ → Scope → Type 0) → (F → GraphOf D → Scope → D → Type 0) → (F → GraphOf D → Query P → Type 0) → (F → GraphOf D → R → Type 0) → (V → ℕ) → (V → F) → (V → Past I R D P → Option (Op I R D P) → Type 0) → V → Option (Reply I D P) → Op I R D P → Type 0
UnitGivesOwed wants same opening kinds edges data_at asks result number fixed stands v =
    GivesOwed (setting_at wants same opening kinds (fixed v)) (number v) (edges (fixed v)) (data_at (fixed v)) (asks (fixed v)) (result (fixed v)) (stands v)
