-- Small units and a small run, which show that the definitions are met.
use Rattle.std.specs.Prelude.{◌≡◌, ℕ, zero, suc, List, [], ◌∷◌, ◌==◌, Bool, false, Option, Some, None}
use Rattle.sg_base.specs.declared.scope.Scope.{Scope}
use Rattle.sg_expr.specs.Tree.{one_label}
use Rattle.sg_query.specs.declared.answer.Answer.TheVariants.{TooMany}
use Rattle.sg_query.specs.declared.query.Query.{Query}
use Rattle.sg_query.specs.Query.{KindOf}
use Rattle.sg_state.specs.Held.{HeldOf}
use Rattle.sg_state.specs.Opening.{nobody}
use Rattle.sg_unit.specs.declared.entry.Entry.{Entry}
use Rattle.sg_unit.specs.declared.op.Op.{Op}
use Rattle.sg_unit.specs.declared.op.Op.TheVariants.{Fresh, AddEdge, SetDatum, CloseRow, Ask, Advance, Take, End}
use Rattle.sg_unit.specs.declared.reply.Reply.{Reply}
use Rattle.sg_unit.specs.declared.reply.Reply.TheVariants.{Done, Moved, Ready, Suspended, Answer as Answered, Stuck}
use Rattle.sg_unit.specs.Run.{Setting}
use Rattle.sg_unit.specs.Trace.{Past}

-- the only scope
abbrev pub corner : Scope
corner = record { unit = nobody; serial = 0 }

-- the query of kind 0 from the scope
abbrev pub corner_query : {P : Type 0} → P → Query P
corner_query p = record { start = corner; kind = 0; pred = p }

-- the queries of kind 0 take one step with label 0
abbrev pub one_step : List KindOf
one_step = (record { expr = one_label 0; order = [] }) ∷ []

-- ---- a unit that waits for itself

-- the scope's row with label 0 is held by unit 0, and there is no other unit
abbrev pub lonely : {D : Type 0} → HeldOf D
lonely = record {
  graph = record { scopes = corner ∷ []; edges = []; given = [] };
  row_holds = (record { scope = corner; label = 0; unit = 0 }) ∷ [];
  datum_holds = [];
  made = 0 ∷ [];
  rest = [];
}

-- the setting that opens so, with the queries of kind 0 and these ways to compare data
abbrev pub lonely_setting : {D P : Type 0} → (P → D → Bool) → (D → D → Bool) → Setting D P
lonely_setting wants same = record { opening = lonely; kinds = one_step; wants = wants; same = same }

-- the unit asks along the row that it holds itself
abbrev pub lonely_log : {I R D P : Type 0} → P → List (Entry I R D P)
lonely_log p = (record { unit = 0; op = Ask (corner_query p); reply = Moved }) ∷ (record { unit = 0; op = Advance; reply = Stuck }) ∷ []

-- ---- a unit that asks, and one that makes scopes

-- the scope's row with label 0 is held by unit 1, and unit 0 holds nothing
abbrev pub pair : {D : Type 0} → HeldOf D
pair = record {
  graph = record { scopes = corner ∷ []; edges = []; given = [] };
  row_holds = (record { scope = corner; label = 0; unit = 1 }) ∷ [];
  datum_holds = [];
  made = 0 ∷ 0 ∷ [];
  rest = [];
}

-- the setting that opens so, with the queries of kind 0 and these ways to compare data
abbrev pub pair_setting : {D P : Type 0} → (P → D → Bool) → (D → D → Bool) → Setting D P
pair_setting wants same = record { opening = pair; kinds = one_step; wants = wants; same = same }

-- that setting, where data are numbers, and so are predicates, each of which wants the number that it equals
abbrev pub number_pair : Setting ℕ ℕ
number_pair = pair_setting (λ p d. p == d) (λ a b. a == b)

-- unit 0 asks along the row of unit 1, and waits
abbrev pub pair_log : {I R D P : Type 0} → P → List (Entry I R D P)
pair_log p = (record { unit = 0; op = Ask (corner_query p); reply = Moved }) ∷ (record { unit = 0; op = Advance; reply = Suspended }) ∷ []

-- unit 1 asks, adds an edge from the scope to itself, and ends: the traces after that many operations
abbrev pub AskerStands : {I R D P : Type 0} → P → R → ℕ → Past I R D P → Option (Op I R D P) → Type 0
AskerStands p x zero past given = (past ≡ []) × (given ≡ None)
AskerStands p x (suc zero) past given = (past ≡ []) × (given ≡ Some (Ask (corner_query p)))
AskerStands {I} {R} {D} {P} p x (suc (suc zero)) past given = (y : Reply I D P) × (past ≡ (Ask (corner_query p), y) ∷ []) × (given ≡ Some (AddEdge corner 0 corner))
AskerStands {I} {R} {D} {P} p x (suc (suc (suc n))) past given =
    (y : Reply I D P) × (w : Reply I D P) × (past ≡ (Ask (corner_query p), y) ∷ (AddEdge corner 0 corner, w) ∷ []) × (given ≡ Some (End x))

-- the edge that it owes
abbrev pub IsAskersEdge : Scope → ℕ → Scope → Type 0
IsAskersEdge s l t = (s ≡ corner) × (l ≡ 0) × (t ≡ corner)

-- unit 0 makes two scopes, and ends: the traces after that many operations
abbrev pub MakerStands : {I R D P : Type 0} → R → ℕ → Past I R D P → Option (Op I R D P) → Type 0
MakerStands x zero past given = (past ≡ []) × (given ≡ None)
MakerStands x (suc zero) past given = (a : ℕ) × (past ≡ []) × (given ≡ Some (Fresh a false))
MakerStands {I} {R} {D} {P} x (suc (suc zero)) past given = (a : ℕ) × (b : ℕ) × (y : Reply I D P) × (past ≡ (Fresh a false, y) ∷ []) × (given ≡ Some (Fresh b false))
MakerStands {I} {R} {D} {P} x (suc (suc (suc n))) past given =
    (a : ℕ) × (b : ℕ) × (y : Reply I D P) × (w : Reply I D P) × (past ≡ (Fresh a false, y) ∷ (Fresh b false, w) ∷ []) × (given ≡ Some (End x))

-- ---- a desk without room for scopes, at which every ask is ready at once and has too many paths

-- what the desk replies to an operation: a unit that wants a scope gets no reply
abbrev pub desk_reply : {I R D P : Type 0} → Op I R D P → Option (Reply I D P)
desk_reply (Fresh labels datum) = None
desk_reply (AddEdge from label to) = Some (Done [])
desk_reply (SetDatum s d) = Some (Done [])
desk_reply (CloseRow s l) = Some (Done [])
desk_reply (Ask q) = Some Moved
desk_reply Advance = Some Ready
desk_reply Take = Some (Answered TooMany)
desk_reply (End x) = Some (Done [])
