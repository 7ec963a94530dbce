-- Scripts: in stages, what a unit writes by the answers that it was told, and what makes a script sound.
use Rattle.std.specs.Prelude.{◌≡◌, ℕ, ◌<◌, List, [], ◌∷◌, ◌++◌, Bool, true, false, IsTrue, Option, Some, ◌⊎◌, ◌↔◌, length, map, slice_get}
use Rattle.std.specs.List.{Contains}
use Rattle.sg_base.specs.declared.scope.Scope.{Scope}
use Rattle.sg_base.specs.Graph.{Edge, GraphOf, HasScope}
use Rattle.sg_query.specs.declared.answer.Answer.{Answer}
use Rattle.sg_query.specs.declared.query.Query.{Query}
use Rattle.sg_reading.specs.declared.known.Known.{Known}
use Rattle.sg_reading.specs.Reading.{Reading, done, Gives, AllAsked, AllEnds, and_then}
use Rattle.sg_reading.specs.Stop.{Replied, IsKnown}
use Rattle.sg_script.specs.declared.write.Write.{Write}
use Rattle.sg_script.specs.declared.write.Write.TheVariants.{AddEdge, SetDatum, CloseRow}
use Rattle.sg_state.specs.declared.need.Need.{Need}
use Rattle.sg_state.specs.declared.need.Need.TheVariants.{Row, Datum}
use Rattle.sg_state.specs.Need.{Holds}
use Rattle.sg_query.specs.Query.{KindOf}
use Rattle.sg_state.specs.Held.{HeldOf}
use Rattle.sg_unit.specs.Run.{Setting}
use Rattle.sg_unit.specs.Unit.{setting_of}

-- ---- writes

-- the row or datum that is written
abbrev pub place_of : {D : Type 0} → Write D → Need
place_of (AddEdge from label to) = Row from label
place_of (SetDatum s d) = Datum s
place_of (CloseRow s label) = Row s label

-- whether the write gives up the hold that it needs
abbrev pub gives_up : {D : Type 0} → Write D → Bool
gives_up (AddEdge from label to) = false
gives_up (SetDatum s d) = true
gives_up (CloseRow s label) = true

-- where an edge is added, the graph has its target
abbrev pub HasTarget : {D : Type 0} → GraphOf D → Write D → Type 0
HasTarget g (AddEdge from label to) = HasScope g to
HasTarget g (SetDatum s d) = Unit {0}
HasTarget g (CloseRow s label) = Unit {0}

-- nothing is written behind a write that gave up the hold for it
abbrev pub AreInTurn : {D : Type 0} → List (Write D) → Type 0
AreInTurn [] = Unit {0}
AreInTurn {D} (w ∷ ws) = (IsTrue (gives_up w) → (x : Write D) → Contains ws x → place_of x ≡ place_of w → ⊥) × AreInTurn ws

-- ---- stages

-- a stage: the rule that gives its writes, and the rows and data that it may write
pub record Stage (D P : Type 0) : Type 0 where
  pub rule : Reading (Query P) (Answer D) (List (Write D))
  pub places : List Need

-- by these answers the stages give these writes, one stage after another
abbrev pub AreGiven : {D P : Type 0} → (Query P → Answer D → Type 0) → List (Stage D P) → List (Write D) → Type 0
AreGiven R [] ws = ws ≡ []
AreGiven {D} {P} R (s ∷ ss) ws =
    (first : List (Write D)) × (more : List (Write D)) × (qs : List (Query P)) × Gives R s.rule first qs × AreGiven R ss more × (ws ≡ first ++ more)

-- what a unit does: its number, the held graph that its run begins with, the kinds of its queries and the predicates that they may have, its stages, and the
-- rule of what it comes to
pub record Plan (R D P : Type 0) : Type 0 where
  pub unit : ℕ
  pub opening : HeldOf D
  pub kinds : List KindOf
  pub preds : List P
  pub stages : List (Stage D P)
  pub ending : Reading (Query P) (Answer D) R

-- the setting of a plan's run, with these ways to compare data
abbrev pub setting_by : {R D P : Type 0} → (P → D → Bool) → (D → D → Bool) → Plan R D P → Setting D P
setting_by wants same plan = setting_of wants same plan.opening plan.kinds

-- the query starts in the opening, has a kind of the table, and has one of the plan's predicates
pub record IsQuery {R D P : Type 0} (plan : Plan R D P) (q : Query P) : Type 0 where
  pub start : HasScope plan.opening.graph q.start
  pub kind : q.kind < length plan.kinds
  pub pred : Contains plan.preds q.pred

-- the writes are to these places and to scopes of the graph, in turn
pub record AreWrites {D : Type 0} (g : GraphOf D) (places : List Need) (ws : List (Write D)) : Type 0 where
  pub placed : (w : Write D) → Contains ws w → Contains places (place_of w)
  pub targets : (w : Write D) → Contains ws w → HasTarget g w
  pub turns : AreInTurn ws

-- the unit holds the stage's places at the opening; and whatever the answers, its rule asks such queries and gives such writes
pub record IsStage {R D P : Type 0} (plan : Plan R D P) (s : Stage D P) : Type 0 where
  pub held : (n : Need) → Contains s.places n → Holds plan.opening plan.unit n
  pub asks : AllAsked (IsQuery plan) s.rule
  pub writes : AllEnds (AreWrites plan.opening.graph s.places) s.rule

-- no two stages have a place in common
abbrev pub AreApart : {D P : Type 0} → List (Stage D P) → Type 0
AreApart [] = Unit {0}
AreApart {D} {P} (s ∷ ss) = ((t : Stage D P) (n : Need) → Contains ss t → Contains s.places n → Contains t.places n → ⊥) × AreApart ss

-- the unit is one of the opening, its stages are such and apart from one another, and its last rule asks such queries
pub record IsSound {R D P : Type 0} (plan : Plan R D P) : Type 0 where
  pub unit : plan.unit < length plan.opening.made
  pub each : (s : Stage D P) → Contains plan.stages s → IsStage plan s
  pub apart : AreApart plan.stages
  pub asks : AllAsked (IsQuery plan) plan.ending

-- ---- reading a script

-- this is what the stage with this number comes to over the replies
abbrev pub ReadsStage : {D P : Type 0} → (Query P → Option (Answer D)) → List (Stage D P) → ℕ → Known (List (Write D)) (Query P) → Type 0
ReadsStage {D} {P} reply stages n k = (s : Stage D P) → slice_get stages n ≡ Some s → IsKnown reply s.rule k

-- ---- stages of three kinds

-- the writes of a row: its edges, and then its close
abbrev pub row_writes : {D : Type 0} → Scope → ℕ → List Scope → List (Write D)
row_writes s label ts = map (λ t. AddEdge s label t) ts ++ CloseRow s label ∷ []

-- a stage that writes one row, whose targets a rule gives
abbrev pub row_stage : {D P : Type 0} → Scope → ℕ → Reading (Query P) (Answer D) (List Scope) → Stage D P
row_stage s label rule = record { rule = and_then rule (λ ts. done (row_writes s label ts)); places = Row s label ∷ [] }

-- the writes of some rows: all their edges, and then their closes
abbrev pub edge_writes : {D : Type 0} → List (Scope × ℕ) → List Edge → List (Write D)
edge_writes rows es = map (λ e. AddEdge e.from e.label e.to) es ++ map (λ r. CloseRow r.0 r.1) rows

-- a stage that writes these rows, whose edges a rule gives
abbrev pub edges_stage : {D P : Type 0} → List (Scope × ℕ) → Reading (Query P) (Answer D) (List Edge) → Stage D P
edges_stage rows rule = record { rule = and_then rule (λ es. done (edge_writes rows es)); places = map (λ r. Row r.0 r.1) rows }

-- a stage that sets one datum, which a rule gives
abbrev pub datum_stage : {D P : Type 0} → Scope → Reading (Query P) (Answer D) D → Stage D P
datum_stage s rule = record { rule = and_then rule (λ d. done (SetDatum s d ∷ [])); places = Datum s ∷ [] }
