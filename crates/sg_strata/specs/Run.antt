-- What a run of units leaves behind that read the headers, one each.
use Rattle.std.specs.Prelude.{◌≡◌, ◌≢◌, ℕ, ◌<◌, ◌≤◌, List, Bool, false, ◌&&◌, nat_lt, IsTrue, ◌↔◌}
use Rattle.std.specs.List.{Contains}
use Rattle.sg_base.specs.declared.scope.Scope.{Scope}
use Rattle.sg_base.specs.Graph.{HasEdge, HasDatum}
use Rattle.sg_base.specs.State.{State, IsOpen, IsUnset}
use Rattle.sg_query.specs.declared.answer.Answer.{Answer}
use Rattle.sg_query.specs.Answer.{IsAnswer}
use Rattle.sg_query.specs.State.{IsSettled}
use Rattle.sg_reading.specs.Reading.{Gives, Asks}
use Rattle.sg_strata.specs.Program.{Program, state_with, graph_with}

-- a state in which these types have closed their rows, seen without its signatures: what is closed is as it will be
pub record IsMoment {Q D : Type 0} (p : Program Q D) (closed : Scope → Bool) (row : Scope → List Scope) (h : State D) : Type 0 where
  pub edges : (s : Scope) (l : ℕ) (t : Scope) → l ≢ p.signature_label → (IsOpen h s l → ⊥) → (HasEdge h.graph s l t) ↔ (HasEdge (graph_with p closed row) s l t)
  pub open_there : (s : Scope) (l : ℕ) → IsOpen (state_with p closed row) s l → IsOpen h s l
  pub given : (s : Scope) (d : D) → (Contains p.signatures s → ⊥) → (HasDatum h.graph s d) ↔ (HasDatum p.skeleton s d)
  pub unset : (s : Scope) → IsUnset h s → Contains p.signatures s

-- the query was settled at some moment up to this one, with this answer
pub record AnsweredBy {Q D : Type 0} (p : Program Q D) (at : ℕ → State D) (n : ℕ) (q : Q) (a : Answer D) : Type 0 where
  pub time : ℕ
  pub before : time ≤ n
  pub settled : IsSettled (at time) (p.asked q)
  pub answer : IsAnswer (at time).graph (p.asked q) a

-- the types that closed their rows before a moment
abbrev pub closed_before : (Scope → Bool) → (Scope → ℕ) → ℕ → Scope → Bool
closed_before in_set moment n c = in_set c && nat_lt (moment c) n

-- a query of a type's header that is not settled at a moment, where all before it were answered by then
abbrev pub WaitsFor : {Q D : Type 0} → Program Q D → (ℕ → State D) → ℕ → Scope → Q → Type 0
WaitsFor p at n c q = Asks (AnsweredBy p at n) (p.header c) q × (IsSettled (at n) (p.asked q) → ⊥)

-- a run at whose end the types of the set have closed these rows, and all others wait in their headers
pub record IsHeaderRun {Q D : Type 0} (p : Program Q D) (in_set : Scope → Bool) (row : Scope → List Scope) : Type 0 where
  -- the states of the run, the last of them, and when each row was closed
  pub at : ℕ → State D
  pub last : ℕ
  pub moment : Scope → ℕ
  pub ended : (c : Scope) → Contains p.types c → IsTrue (in_set c) → moment c < last
  pub moments : (n : ℕ) → n ≤ last → IsMoment p (closed_before in_set moment n) row (at n)
  -- honest: a closed row is what the header gives by answers that were settled before
  pub read : (c : Scope) → Contains p.types c → IsTrue (in_set c) → (qs : List Q) × Gives (AnsweredBy p at (moment c)) (p.header c) (row c) qs
  -- orderly: a type that has not closed its row waits for a query of its header
  pub waits : (c : Scope) → Contains p.types c → in_set c ≡ false → (q : Q) × WaitsFor p at last c q
  -- at the end nothing else is open
  pub shut : (s : Scope) (l : ℕ) → l ≢ p.signature_label → IsOpen (at last) s l → IsOpen (state_with p in_set row) s l
