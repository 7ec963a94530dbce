-- Imports as rules: what a unit gives that reads one, and the edges that it owes to the skeleton.
use Rattle.std.specs.Prelude.{◌≡◌, ℕ, List, ◌⊎◌}
use Rattle.std.specs.List.{Contains}
use Rattle.sg_base.specs.declared.scope.Scope.{Scope}
use Rattle.sg_base.specs.Graph.{Edge, HasScope, HasEdge}
use Rattle.sg_base.specs.Label.{Word}
use Rattle.sg_base.specs.State.{State, IsOpen, IsUnset}
use Rattle.sg_expr.specs.Word.{In}
use Rattle.sg_query.specs.declared.answer.Answer.{Answer}
use Rattle.sg_query.specs.declared.query.Query.{Query}
use Rattle.sg_query.specs.Answer.{IsAnswer}
use Rattle.sg_query.specs.Query.{Asked}
use Rattle.sg_query.specs.State.{IsSettled}
use Rattle.sg_reading.specs.Reading.{Reading, Gives, Needs, AllAsked}
use Rattle.sg_state.specs.Held.{HoldsRow, state_of}
use Rattle.sg_unit.specs.declared.op.Op.{Op}
use Rattle.sg_unit.specs.declared.op.Op.TheVariants.{Fresh, AddEdge, SetDatum, CloseRow, Ask, Advance, Take, End}
use Rattle.sg_unit.specs.Orderly.{Did}
use Rattle.sg_unit.specs.Run.{Setting, asked_by}
use Rattle.sg_unit.specs.Trace.{Past}
use Rattle.sg_strata.specs.Program.{Program}
use Rattle.sg_headers.specs.Orderly.{AnswersTold, HasRead}

-- no label of a word that the query follows has an open row, and none leads to an unset datum, nor does the query start at one
pub record TouchesNothingOpen {D : Type 0} (h : State D) (q : Asked D) : Type 0 where
  pub rows : (w : Word) → In q.expr w → (l : ℕ) → Contains w l → (s : Scope) → IsOpen h s l → ⊥
  pub targets : (w : Word) → In q.expr w → (l : ℕ) → Contains w l → (s t : Scope) → HasEdge h.graph s l t → IsUnset h t → ⊥
  pub start : IsUnset h q.start → ⊥

-- the rule's edges are known, and those of the row were added
abbrev pub AddedRow : {I R Q D P : Type 0} → (Q → Query P) → Reading Q (Answer D) (List Edge) → Past I R D P → Scope → ℕ → Type 0
AddedRow query rule past s l =
    (es : List Edge) × HasRead query rule past es × ((t : Scope) → Contains es (record { from = s; label = l; to = t }) → Did past (AddEdge s l t))

-- what a unit may give next that reads a rule of imports: it makes no scope, asks the rule's first query that has no answer until it has closed all its
-- rows, adds edges that the rule gives, and gives up a row once all that the rule gives to it is added
abbrev pub MayReadImports : {I R Q D P : Type 0} → Setting D P → ℕ → (Q → Query P) → Reading Q (Answer D) (List Edge) → Past I R D P → Op I R D P → Type 0
MayReadImports z u query rule past (Fresh labels datum) = ⊥
MayReadImports z u query rule past (AddEdge from label to) = (es : List Edge) × HasRead query rule past es × Contains es (record { from = from; label = label; to = to })
MayReadImports z u query rule past (SetDatum s d) = Unit {0}
MayReadImports z u query rule past (CloseRow s l) = AddedRow query rule past s l
MayReadImports {Q = Q} z u query rule past (Ask q) = (s : Scope) (l : ℕ) → HoldsRow z.opening u s l → Did past (CloseRow s l) ⊎ ((x : Q) × (query x ≡ q) × Needs (AnswersTold query past) rule x)
MayReadImports z u query rule past Advance = Unit {0}
MayReadImports z u query rule past Take = Unit {0}
MayReadImports z u query rule past (End x) = (s : Scope) (l : ℕ) → AddedRow query rule past s l

-- the rule asks only what is settled from the start, and what it gives there is what the skeleton has further in the rows that the unit holds
pub record GivesImports {Q D P : Type 0} (p : Program Q D) (z : Setting D P) (query : Q → Query P) (rule : Reading Q (Answer D) (List Edge)) (u : ℕ) : Type 0 where
  pub asks : AllAsked (λ q. HasScope z.opening.graph (query q).start × IsSettled (state_of z.opening) (asked_by z (query q))) rule
  pub edges : List Edge
  pub queries : List Q
  pub gives : Gives (λ q a. IsAnswer z.opening.graph (asked_by z (query q)) a) rule edges queries
  pub sound : (e : Edge) → Contains edges e → Contains p.skeleton.edges e
  pub whole : (s : Scope) (l : ℕ) (t : Scope) → HoldsRow z.opening u s l → HasEdge p.skeleton s l t → HasEdge z.opening.graph s l t ⊎ Contains edges (record { from = s; label = l; to = t })
