-- Orderly units: what a unit gave, one operation after another, and what may come next.
use Rattle.std.specs.Prelude.{◌≡◌, ◌∷◌, ◌++◌, Option, Some, ◌⊎◌}
use Rattle.std.specs.List.{Contains}
use Rattle.sg_query.specs.declared.answer.Answer.{Answer}
use Rattle.sg_query.specs.declared.query.Query.{Query}
use Rattle.sg_unit.specs.declared.op.Op.{Op}
use Rattle.sg_unit.specs.declared.op.Op.TheVariants.{Ask}
use Rattle.sg_unit.specs.declared.reply.Reply.{Reply}
use Rattle.sg_unit.specs.declared.reply.Reply.TheVariants.{Answer as Answered}
use Rattle.sg_unit.specs.Trace.{Past}

-- the unit gave this operation, and was handed a reply to it
abbrev pub Did : {I R D P : Type 0} → Past I R D P → Op I R D P → Type 0
Did {I} {R} {D} {P} past op = (y : Reply I D P) × Contains past (op, y)

-- the unit was told this answer to a query
abbrev pub WasTold : {I R D P : Type 0} → Past I R D P → Query P → Answer D → Type 0
WasTold past q a = Contains past (Ask q, Answered a)

-- the unit gave this operation next after this past
abbrev pub GaveAfter : {I R D P : Type 0} → Past I R D P → Option (Op I R D P) → Past I R D P → Op I R D P → Type 0
GaveAfter {I} {R} {D} {P} past last before op = ((past ≡ before) × (last ≡ Some op)) ⊎ ((y : Reply I D P) × (behind : Past I R D P) × (past ≡ before ++ (op, y) ∷ behind))

-- each operation that the unit gave may come after those before it
abbrev pub IsOrderly : {I R D P : Type 0} → (Past I R D P → Op I R D P → Type 0) → Past I R D P → Option (Op I R D P) → Type 0
IsOrderly {I} {R} {D} {P} MayFollow past last = (before : Past I R D P) (op : Op I R D P) → GaveAfter past last before op → MayFollow before op
