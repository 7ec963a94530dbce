-- What holds of every follower.
use Rattle.std.specs.Prelude.{ℕ, List, Bool, Option}
use Rattle.std.specs.List.{Contains}
use Rattle.sg_base.specs.declared.scope.Scope.{Scope}
use Rattle.sg_base.specs.Graph.{Edge, HasScope}
use Rattle.sg_base.specs.List.{IsDistinct}
use Rattle.sg_query.specs.declared.answer.Answer.{Answer}
use Rattle.sg_query.specs.declared.query.Query.{Query}
use Rattle.sg_reading.specs.Reading.{Reading, AllAsked, AllEnds}
use Rattle.sg_state.specs.Held.{HoldsRow, HoldsDatum}
use Rattle.sg_unit.specs.declared.op.Op.{Op}
use Rattle.sg_unit.specs.Honest.{IsHonest}
use Rattle.sg_unit.specs.Trace.{Past}
use Rattle.sg_script.specs.declared.write.Write.{Write}
use Rattle.sg_script.specs.Following.{FollowsPlan}
use Rattle.sg_script.specs.Owing.{OwesEdge, OwesDatum, AsksIn, ComesTo}
use Rattle.sg_script.specs.Script.{Plan, IsQuery, IsStage, row_stage, edges_stage, datum_stage, setting_by}

-- a unit that follows a plan by a trace is honest by that trace
abbrev pub FollowersAreHonest : Type 0 → Type 0 → Type 0 → Type 0 → Type 0
FollowersAreHonest I R D P =
    (wants : P → D → Bool) (same : D → D → Bool) (plan : Plan R D P) (reply : Query P → Option (Answer D)) (asked : Option (Query P)) (pending : List (Write D)) (n : ℕ) (ended : Bool) (past : Past I R D P) (last : Option (Op I R D P))
    → FollowsPlan plan reply asked pending n ended past last
    → IsHonest (setting_by wants same plan) plan.unit (OwesEdge (setting_by wants same plan) plan.stages) (OwesDatum (setting_by wants same plan) plan.stages) (AsksIn (setting_by wants same plan) plan.stages plan.ending) (ComesTo (setting_by wants same plan) plan.ending) past last

-- a rule makes a stage of a row that the unit holds, where it asks the plan's queries and gives scopes of the opening
abbrev pub RowsAreStages : Type 0 → Type 0 → Type 0 → Type 0
RowsAreStages R D P =
    (plan : Plan R D P) (s : Scope) (label : ℕ) (rule : Reading (Query P) (Answer D) (List Scope)) → HoldsRow plan.opening plan.unit s label → AllAsked (IsQuery plan) rule
    → AllEnds (λ ts. (t : Scope) → Contains ts t → HasScope plan.opening.graph t) rule → IsStage plan (row_stage s label rule)

-- a rule makes a stage of rows that the unit holds, where it asks the plan's queries and gives edges in these rows to scopes of the opening
abbrev pub EdgesAreStages : Type 0 → Type 0 → Type 0 → Type 0
EdgesAreStages R D P =
    (plan : Plan R D P) (rows : List (Scope × ℕ)) (rule : Reading (Query P) (Answer D) (List Edge)) → IsDistinct rows → ((s : Scope) (l : ℕ) → Contains rows (s, l) → HoldsRow plan.opening plan.unit s l) → AllAsked (IsQuery plan) rule
    → AllEnds (λ es. (e : Edge) → Contains es e → Contains rows (e.from, e.label) × HasScope plan.opening.graph e.to) rule → IsStage plan (edges_stage rows rule)

-- a rule makes a stage of a datum that the unit holds, where it asks the plan's queries
abbrev pub DataAreStages : Type 0 → Type 0 → Type 0 → Type 0
DataAreStages R D P =
    (plan : Plan R D P) (s : Scope) (rule : Reading (Query P) (Answer D) D) → HoldsDatum plan.opening plan.unit s → AllAsked (IsQuery plan) rule → IsStage plan (datum_stage s rule)
