-- Honest units: what they give meets its condition, and is what they owe in each graph that answers as they were told.
use Rattle.std.specs.Prelude.{◌≡◌, ℕ, [], ◌∷◌, ◌++◌, Option, Some, None, ◌⊎◌}
use Rattle.std.specs.List.{Contains}
use Rattle.sg_base.specs.declared.scope.Scope.{Scope}
use Rattle.sg_base.specs.Graph.{GraphOf, HasScope}
use Rattle.sg_query.specs.declared.answer.Answer.{Answer}
use Rattle.sg_query.specs.declared.query.Query.{Query}
use Rattle.sg_query.specs.Answer.{IsAnswer}
use Rattle.sg_state.specs.Held.{HoldsRow, HoldsDatum}
use Rattle.sg_unit.specs.declared.op.Op.{Op}
use Rattle.sg_unit.specs.declared.op.Op.TheVariants.{AddEdge, SetDatum, CloseRow, Ask, End}
use Rattle.sg_unit.specs.declared.reply.Reply.{Reply}
use Rattle.sg_unit.specs.declared.reply.Reply.TheVariants.{Answer as Answered}
use Rattle.sg_unit.specs.Run.{Setting, asked_by}
use Rattle.sg_unit.specs.Trace.{Past, MayGive, CanHand}

-- ---- conditions

-- each reply is one that its operation can have, after those before it
abbrev pub AreHanded : {I R D P : Type 0} → Setting D P → ℕ → Past I R D P → Past I R D P → Type 0
AreHanded z u before [] = Unit {0}
AreHanded z u before (x ∷ xs) = CanHand z u before x.0 x.1 × AreHanded z u (before ++ x ∷ []) xs

-- each operation meets its condition, after those before it
abbrev pub AllMayBeGiven : {I R D P : Type 0} → Setting D P → ℕ → Past I R D P → Past I R D P → Type 0
AllMayBeGiven z u before [] = Unit {0}
AllMayBeGiven z u before (x ∷ xs) = MayGive z u before x.0 × AllMayBeGiven z u (before ++ x ∷ []) xs

-- so does the last one, where there is one
abbrev pub LastMayBeGiven : {I R D P : Type 0} → Setting D P → ℕ → Past I R D P → Option (Op I R D P) → Type 0
LastMayBeGiven z u past None = Unit {0}
LastMayBeGiven z u past (Some op) = MayGive z u past op

-- all that the unit gave meets its condition, as its opening, its kinds and its trace tell it
abbrev pub MeetsConditions : {I R D P : Type 0} → Setting D P → ℕ → Past I R D P → Option (Op I R D P) → Type 0
MeetsConditions z u past last = AllMayBeGiven z u [] past × LastMayBeGiven z u past last

-- ---- results

-- the graph answers as the unit was told
abbrev pub AnswersAsTold : {I R D P : Type 0} → Setting D P → GraphOf D → Past I R D P → Type 0
AnswersAsTold {I} {R} {D} {P} z g past = (q : Query P) (a : Answer D) → Contains past (Ask q, Answered a) → IsAnswer g (asked_by z q) a

-- the unit gave this operation
abbrev pub Gave : {I R D P : Type 0} → Past I R D P → Option (Op I R D P) → Op I R D P → Type 0
Gave {I} {R} {D} {P} past last op = (last ≡ Some op) ⊎ ((y : Reply I D P) × Contains past (op, y))

-- all edges that the unit owes to the row were given
abbrev pub GaveRow : {I R D P : Type 0} → (Scope → ℕ → Scope → Type 0) → Past I R D P → Option (Op I R D P) → Scope → ℕ → Type 0
GaveRow edges past last s l = (t : Scope) → edges s l t → Gave past last (AddEdge s l t)

-- what the unit gave is what it owes in a graph, where it owes these edges to the rows that it held at the opening and these data to scopes
-- of the opening, may ask these queries, and comes to this result
pub record GivesResults {I R D P : Type 0} (z : Setting D P) (u : ℕ) (edges : Scope → ℕ → Scope → Type 0) (data_at : Scope → D → Type 0) (asks : Query P → Type 0) (result : R → Type 0) (past : Past I R D P) (last : Option (Op I R D P)) : Type 0 where
  pub edge : (s : Scope) (l : ℕ) (t : Scope) → HoldsRow z.opening u s l → Gave past last (AddEdge s l t) → edges s l t
  pub datum : (s : Scope) (d : D) → HasScope z.opening.graph s → Gave past last (SetDatum s d) → data_at s d
  pub closed : (s : Scope) (l : ℕ) → HoldsRow z.opening u s l → Gave past last (CloseRow s l) → GaveRow edges past last s l
  pub asked : (q : Query P) → Gave past last (Ask q) → asks q
  pub outcome : (x : R) → Gave past last (End x) → result x
  pub ended_edges : (x : R) (s : Scope) (l : ℕ) → Gave past last (End x) → HoldsRow z.opening u s l → GaveRow edges past last s l
  pub ended_data : (x : R) (s : Scope) (d : D) → Gave past last (End x) → HoldsDatum z.opening u s → data_at s d → Gave past last (SetDatum s d)

-- ---- honesty

-- the unit is honest by this trace, where it owes these things in each graph
abbrev pub IsHonest : {I R D P : Type 0} → Setting D P → ℕ → (GraphOf D → Scope → ℕ → Scope → Type 0) → (GraphOf D → Scope → D → Type 0) → (GraphOf D → Query P → Type 0) → (GraphOf D → R → Type 0) → Past I R D P → Option (Op I R D P) → Type 0
IsHonest {I} {R} {D} {P} z u edges data_at asks result past last =
    (AreHanded z u [] past → MeetsConditions z u past last) × ((g : GraphOf D) → AnswersAsTold z g past → GivesResults z u (edges g) (data_at g) (asks g) (result g) past last)
