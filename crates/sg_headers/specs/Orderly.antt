-- Orderly units: what the readers of headers and of imports may give next, after what they gave and were told.
use Rattle.std.specs.Prelude.{◌≡◌, ℕ, List, ◌⊎◌}
use Rattle.std.specs.List.{Contains}
use Rattle.sg_base.specs.declared.scope.Scope.{Scope}
use Rattle.sg_base.specs.Graph.{HasEdge}
use Rattle.sg_base.specs.Label.{Word}
use Rattle.sg_expr.specs.Word.{In}
use Rattle.sg_query.specs.declared.answer.Answer.{Answer}
use Rattle.sg_query.specs.declared.query.Query.{Query}
use Rattle.sg_query.specs.Query.{Asked}
use Rattle.sg_query.specs.State.{IsSettled}
use Rattle.sg_reading.specs.Reading.{Reading, Gives, Needs}
use Rattle.sg_state.specs.Held.{HoldsRow, HoldsDatum, state_of}
use Rattle.sg_unit.specs.declared.op.Op.{Op}
use Rattle.sg_unit.specs.declared.op.Op.TheVariants.{Fresh, AddEdge, SetDatum, CloseRow, Ask, Advance, Take, End}
use Rattle.sg_unit.specs.Orderly.{Did, WasTold}
use Rattle.sg_unit.specs.Run.{Setting, asked_by}
use Rattle.sg_unit.specs.Trace.{Past}
use Rattle.sg_strata.specs.Program.{Program}

-- ---- what a unit read

-- the unit was told this answer to the query
abbrev pub AnswersTold : {I R Q D P : Type 0} → (Q → Query P) → Past I R D P → Q → Answer D → Type 0
AnswersTold query past q a = WasTold past (query q) a

-- by what the unit was told, the rule gives this
abbrev pub HasRead : {I R Q D P X : Type 0} → (Q → Query P) → Reading Q (Answer D) X → Past I R D P → X → Type 0
HasRead {Q = Q} query rule past x = (qs : List Q) × Gives (AnswersTold query past) rule x qs

-- ---- the unit of a type

-- what the unit of a type may give next, where `super` is the label of the row of its supertypes: it makes no scope; until that row is closed it
-- asks the first query of its header that has no answer; it adds to the row what the header gives, closes it once all that is added, and ends
-- after that
abbrev pub MayReadHeader : {I R Q D P : Type 0} → (Q → Query P) → Reading Q (Answer D) (List Scope) → Scope → ℕ → Past I R D P → Op I R D P → Type 0
MayReadHeader query header c super past (Fresh labels datum) = ⊥
MayReadHeader query header c super past (AddEdge from label to) = from ≡ c → label ≡ super → (ts : List Scope) × HasRead query header past ts × Contains ts to
MayReadHeader query header c super past (SetDatum s d) = Unit {0}
MayReadHeader query header c super past (CloseRow s label) =
    s ≡ c → label ≡ super → (ts : List Scope) × HasRead query header past ts × ((t : Scope) → Contains ts t → Did past (AddEdge c super t))
MayReadHeader {Q = Q} query header c super past (Ask q) = (Did past (CloseRow c super) → ⊥) → (x : Q) × (query x ≡ q) × Needs (AnswersTold query past) header x
MayReadHeader query header c super past Advance = Unit {0}
MayReadHeader query header c super past Take = Unit {0}
MayReadHeader query header c super past (End x) = Did past (CloseRow c super)

-- ---- a unit that gives imports

-- all edges of the row in the skeleton were there from the start, or the unit added them
abbrev pub HasWholeRow : {I R Q D P : Type 0} → Program Q D → Setting D P → Past I R D P → Scope → ℕ → Type 0
HasWholeRow p z past s l = (t : Scope) → HasEdge p.skeleton s l t → HasEdge z.opening.graph s l t ⊎ Did past (AddEdge s l t)

-- what a unit of imports may give next: it makes no scope, asks what is settled from the start until it has closed all its rows, adds edges of the
-- skeleton, and gives up a row once all its edges are there
abbrev pub MayGiveImports : {I R Q D P : Type 0} → Program Q D → Setting D P → ℕ → Past I R D P → Op I R D P → Type 0
MayGiveImports p z u past (Fresh labels datum) = ⊥
MayGiveImports p z u past (AddEdge from label to) = HasEdge p.skeleton from label to
MayGiveImports p z u past (SetDatum s d) = Unit {0}
MayGiveImports p z u past (CloseRow s label) = HoldsRow z.opening u s label → HasWholeRow p z past s label
MayGiveImports p z u past (Ask q) = (s : Scope) (l : ℕ) → HoldsRow z.opening u s l → Did past (CloseRow s l) ⊎ IsSettled (state_of z.opening) (asked_by z q)
MayGiveImports p z u past Advance = Unit {0}
MayGiveImports p z u past Take = Unit {0}
MayGiveImports p z u past (End x) = (s : Scope) (l : ℕ) → HoldsRow z.opening u s l → HasWholeRow p z past s l

-- ---- signatures

-- the query starts at no signature and follows no step to one
abbrev pub AsksNoSignature : {Q D : Type 0} → Program Q D → Asked D → Type 0
AsksNoSignature p q = ((w : Word) → In q.expr w → Contains w p.signature_label → ⊥) × (Contains p.signatures q.start → ⊥)

-- the unit set the datum of the scope
abbrev pub DidSet : {I R D P : Type 0} → Past I R D P → Scope → Type 0
DidSet {D = D} past s = (d : D) × Did past (SetDatum s d)

-- what a unit may ask: no signature, until it has set all data that it held
abbrev pub MayAskSignatures : {I R Q D P : Type 0} → Program Q D → Setting D P → ℕ → Past I R D P → Op I R D P → Type 0
MayAskSignatures p z u past (Fresh labels datum) = Unit {0}
MayAskSignatures p z u past (AddEdge from label to) = Unit {0}
MayAskSignatures p z u past (SetDatum s d) = Unit {0}
MayAskSignatures p z u past (CloseRow s label) = Unit {0}
MayAskSignatures p z u past (Ask q) = (s : Scope) → HoldsDatum z.opening u s → DidSet past s ⊎ AsksNoSignature p (asked_by z q)
MayAskSignatures p z u past Advance = Unit {0}
MayAskSignatures p z u past Take = Unit {0}
MayAskSignatures p z u past (End x) = Unit {0}
