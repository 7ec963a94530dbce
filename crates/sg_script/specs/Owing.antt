-- What a script owes in a graph.
use Rattle.std.specs.Prelude.{ℕ, List, ◌⊎◌}
use Rattle.std.specs.List.{Contains}
use Rattle.sg_base.specs.declared.scope.Scope.{Scope}
use Rattle.sg_base.specs.Graph.{GraphOf}
use Rattle.sg_query.specs.declared.answer.Answer.{Answer}
use Rattle.sg_query.specs.declared.query.Query.{Query}
use Rattle.sg_query.specs.Answer.{IsAnswer}
use Rattle.sg_reading.specs.Reading.{Reading, Gives, Asks}
use Rattle.sg_script.specs.declared.write.Write.{Write}
use Rattle.sg_script.specs.declared.write.Write.TheVariants.{AddEdge as Adds, SetDatum as Sets}
use Rattle.sg_script.specs.Script.{Stage}
use Rattle.sg_unit.specs.Run.{Setting, asked_by}

-- the query has this answer in the graph
abbrev pub GraphAnswers : {D P : Type 0} → Setting D P → GraphOf D → Query P → Answer D → Type 0
GraphAnswers z g q a = IsAnswer g (asked_by z q) a

-- a stage gives this write by the graph's answers
pub record Owes {D P : Type 0} (z : Setting D P) (g : GraphOf D) (stages : List (Stage D P)) (w : Write D) : Type 0 where
  pub stage : Stage D P
  pub listed : Contains stages stage
  pub writes : List (Write D)
  pub queries : List (Query P)
  pub gives : Gives (GraphAnswers z g) stage.rule writes queries
  pub written : Contains writes w

-- the script owes this edge in the graph
abbrev pub OwesEdge : {D P : Type 0} → Setting D P → List (Stage D P) → GraphOf D → Scope → ℕ → Scope → Type 0
OwesEdge z stages g s l t = Owes z g stages (Adds s l t)

-- the script owes this datum in the graph
abbrev pub OwesDatum : {D P : Type 0} → Setting D P → List (Stage D P) → GraphOf D → Scope → D → Type 0
OwesDatum z stages g s d = Owes z g stages (Sets s d)

-- a rule of the script asks this query by the graph's answers
abbrev pub AsksIn : {R D P : Type 0} → Setting D P → List (Stage D P) → Reading (Query P) (Answer D) R → GraphOf D → Query P → Type 0
AsksIn {R} {D} {P} z stages ending g q = ((s : Stage D P) × Contains stages s × Asks (GraphAnswers z g) s.rule q) ⊎ Asks (GraphAnswers z g) ending q

-- the last rule gives this by the graph's answers
abbrev pub ComesTo : {R D P : Type 0} → Setting D P → Reading (Query P) (Answer D) R → GraphOf D → R → Type 0
ComesTo {R} {D} {P} z ending g x = (qs : List (Query P)) × Gives (GraphAnswers z g) ending x qs
