-- What the entries of a run did.
use Rattle.std.specs.Prelude.{◌≡◌, ℕ, List, ◌∷◌, ◌++◌, ◌⊎◌}
use Rattle.std.specs.List.{Contains}
use Rattle.sg_base.specs.declared.scope.Scope.{Scope}
use Rattle.sg_state.specs.Held.{HoldsRow}
use Rattle.sg_unit.specs.declared.entry.Entry.{Entry}
use Rattle.sg_unit.specs.declared.op.Op.{Op}
use Rattle.sg_unit.specs.declared.op.Op.TheVariants.{Fresh, AddEdge, SetDatum, CloseRow, Ask, Advance, Take, End}
use Rattle.sg_unit.specs.Run.{Setting, run_of}

-- ---- operations

-- the operation is the unit's own, and no driver's
abbrev pub IsGiven : {I R D P : Type 0} → Op I R D P → Type 0
IsGiven (Fresh labels datum) = Unit {0}
IsGiven (AddEdge from label to) = Unit {0}
IsGiven (SetDatum s d) = Unit {0}
IsGiven (CloseRow s l) = Unit {0}
IsGiven (Ask q) = Unit {0}
IsGiven Advance = ⊥
IsGiven Take = ⊥
IsGiven (End x) = Unit {0}

-- and no ask
abbrev pub IsWritten : {I R D P : Type 0} → Op I R D P → Type 0
IsWritten (Fresh labels datum) = Unit {0}
IsWritten (AddEdge from label to) = Unit {0}
IsWritten (SetDatum s d) = Unit {0}
IsWritten (CloseRow s l) = Unit {0}
IsWritten (Ask q) = ⊥
IsWritten Advance = ⊥
IsWritten Take = ⊥
IsWritten (End x) = Unit {0}

-- the operation makes a scope
abbrev pub MakesScope : {I R D P : Type 0} → Op I R D P → Type 0
MakesScope (Fresh labels datum) = Unit {0}
MakesScope (AddEdge from label to) = ⊥
MakesScope (SetDatum s d) = ⊥
MakesScope (CloseRow s l) = ⊥
MakesScope (Ask q) = ⊥
MakesScope Advance = ⊥
MakesScope Take = ⊥
MakesScope (End x) = ⊥

-- the operation gives up the row
abbrev pub GivesUp : {I R D P : Type 0} → Op I R D P → Scope → ℕ → Type 0
GivesUp {I} {R} {D} {P} op s l = (let closes : Op I R D P = CloseRow s l in op ≡ closes) ⊎ ((x : R) × (let ends : Op I R D P = End x in op ≡ ends))

-- ---- entries

-- no entry makes a scope
abbrev pub MakeNoScope : {I R D P : Type 0} → List (Entry I R D P) → Type 0
MakeNoScope {I} {R} {D} {P} log = (e : Entry I R D P) → Contains log e → MakesScope e.op → ⊥

-- one of the entries is the unit's, with this operation
pub record HasEntry {I R D P : Type 0} (u : ℕ) (log : List (Entry I R D P)) (op : Op I R D P) : Type 0 where
  pub before : List (Entry I R D P)
  pub entry : Entry I R D P
  pub behind : List (Entry I R D P)
  pub split : log ≡ before ++ entry ∷ behind
  pub own : entry.unit ≡ u
  pub given : entry.op ≡ op

-- one of the entries is the unit's, and gives up the row while the unit holds it
pub record WasGivenUp {I R D P : Type 0} (z : Setting D P) (u : ℕ) (log : List (Entry I R D P)) (s : Scope) (l : ℕ) : Type 0 where
  pub before : List (Entry I R D P)
  pub entry : Entry I R D P
  pub behind : List (Entry I R D P)
  pub split : log ≡ before ++ entry ∷ behind
  pub own : entry.unit ≡ u
  pub held_then : HoldsRow (run_of z before).held u s l
  pub gives_up : GivesUp entry.op s l
