-- Four small units and a desk of their own.
use Rattle.std.specs.Prelude.{◌≡◌, ◌+◌, ℕ, List, [], ◌∷◌, Bool, Option, Some, None, length, slice_index}
use Rattle.sg_state.specs.Held.{HeldOf}
use Rattle.sg_unit.specs.declared.entry.Entry.{Entry}
use Rattle.sg_unit.specs.declared.op.Op.{Op}
use Rattle.sg_unit.specs.declared.op.Op.TheVariants.{Fresh, AddEdge, SetDatum, CloseRow, Ask, Advance, Take, End}
use Rattle.sg_unit.specs.declared.reply.Reply.{Reply}
use Rattle.sg_unit.specs.declared.reply.Reply.TheVariants.{Made, Done}
use Rattle.sg_unit.specs.Run.{Setting, run_of}
use Rattle.sg_unit.specs.Trace.{Past}
use Rattle.sg_unit.specs.Unit.{setting_of, GivesOwed}

-- no scope, and four units
abbrev pub four : {D : Type 0} → HeldOf D
four = record {
  graph = record { scopes = []; edges = []; given = [] };
  row_holds = [];
  datum_holds = [];
  made = 0 ∷ 0 ∷ 0 ∷ 0 ∷ [];
  rest = [];
}

-- the setting that opens so, with no kind of query and these ways to compare data
abbrev pub four_setting : {D P : Type 0} → (P → D → Bool) → (D → D → Bool) → Setting D P
four_setting wants same = setting_of wants same four []

-- what the unit gave by now is what it owes, for one that owes whatever it gives
abbrev pub GivesAny : {I R D P : Type 0} → Setting D P → ℕ → (Past I R D P → Option (Op I R D P) → Type 0) → Option (Reply I D P) → Op I R D P → Type 0
GivesAny z u Stood last op = GivesOwed z u (λ _ _ _ _. Unit {0}) (λ _ _ _. Unit {0}) (λ _ _. Unit {0}) (λ _ _. Unit {0}) Stood last op

-- what the desk replies to the unit with this number, which made so many scopes: it makes scopes and ends units, and does nothing else
abbrev pub made_reply : {I R D P : Type 0} → ℕ → ℕ → Op I R D P → Option (Reply I D P)
made_reply u m (Fresh labels datum) = Some (Made (record { unit = u; serial = m }))
made_reply u m (AddEdge from label to) = None
made_reply u m (SetDatum s d) = None
made_reply u m (CloseRow s l) = None
made_reply u m (Ask q) = None
made_reply u m Advance = None
made_reply u m Take = None
made_reply u m (End x) = Some (Done [])

-- how many scopes it made then
abbrev pub made_after : {I R D P : Type 0} → ℕ → Op I R D P → ℕ
made_after m (Fresh labels datum) = m + 1
made_after m (AddEdge from label to) = m
made_after m (SetDatum s d) = m
made_after m (CloseRow s l) = m
made_after m (Ask q) = m
made_after m Advance = m
made_after m Take = m
made_after m (End x) = m

-- by these entries the unit made so many scopes
abbrev pub HasMade : {I R D P : Type 0} → (P → D → Bool) → (D → D → Bool) → ℕ → ℕ → List (Entry I R D P) → Type 0
HasMade wants same u m mine = (length (run_of (four_setting wants same) mine).held.made ≡ 4) × (slice_index (run_of (four_setting wants same) mine).held.made u ≡ m)
