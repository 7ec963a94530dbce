-- What a reader of a header owes in a graph.
use Rattle.std.specs.Prelude.{◌≡◌, ℕ, List, Option}
use Rattle.std.specs.List.{Contains}
use Rattle.sg_base.specs.declared.scope.Scope.{Scope}
use Rattle.sg_base.specs.Graph.{GraphOf}
use Rattle.sg_query.specs.declared.answer.Answer.{Answer}
use Rattle.sg_query.specs.declared.query.Query.{Query}
use Rattle.sg_query.specs.Answer.{IsAnswer}
use Rattle.sg_reading.specs.Reading.{Reading, Gives, Asks}
use Rattle.sg_unit.specs.declared.op.Op.{Op}
use Rattle.sg_unit.specs.declared.op.Op.TheVariants.{AddEdge, CloseRow, Ask, End}
use Rattle.sg_unit.specs.Honest.{Gave}
use Rattle.sg_unit.specs.Orderly.{Did}
use Rattle.sg_unit.specs.Run.{Setting, asked_by}
use Rattle.sg_unit.specs.Trace.{Past}

-- the query has this answer in the graph
abbrev pub AnswersHere : {Q D P : Type 0} → Setting D P → GraphOf D → (Q → Query P) → Q → Answer D → Type 0
AnswersHere z g query q a = IsAnswer g (asked_by z (query q)) a

-- in the graph the header gives this supertype
abbrev pub OwesSuper : {Q D P : Type 0} → Setting D P → GraphOf D → (Q → Query P) → Reading Q (Answer D) (List Scope) → Scope → Type 0
OwesSuper {Q = Q} z g query header t = (ts : List Scope) × (qs : List Q) × Gives (AnswersHere z g query) header ts qs × Contains ts t

-- what a reader gave to the row of its type's supertypes is what its header gives in the graph, all of it where it closed the row or ended, and what it
-- asked before it closed the row its header asks there
pub record ReadsIn {I R Q D P : Type 0} (z : Setting D P) (g : GraphOf D) (query : Q → Query P) (header : Reading Q (Answer D) (List Scope)) (c : Scope) (super : ℕ) (past : Past I R D P) (last : Option (Op I R D P)) : Type 0 where
  pub edge : (t : Scope) → Gave past last (AddEdge c super t) → OwesSuper z g query header t
  pub closed : Gave past last (CloseRow c super) → (t : Scope) → OwesSuper z g query header t → Gave past last (AddEdge c super t)
  pub ended : (x : R) → Gave past last (End x) → (t : Scope) → OwesSuper z g query header t → Gave past last (AddEdge c super t)
  pub asked : (q : Query P) → Gave past last (Ask q) → (Did past (CloseRow c super) → ⊥) → (x : Q) × (query x ≡ q) × Asks (AnswersHere z g query) header x
