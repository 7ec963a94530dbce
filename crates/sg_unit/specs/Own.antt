-- What a unit's own entries tell of a run.
use Rattle.std.specs.Prelude.{◌≡◌, ℕ, List, [], ◌∷◌, ◌⊎◌, ◌==◌, IsTrue}
use Rattle.std.specs.List.{Contains, filter}
use Rattle.sg_base.specs.declared.scope.Scope.{Scope}
use Rattle.sg_base.specs.Graph.{HasScope}
use Rattle.sg_base.specs.Path.{reached_by}
use Rattle.sg_query.specs.declared.answer.Answer.{Answer}
use Rattle.sg_query.specs.declared.answer.Answer.TheVariants.{Paths, TooMany}
use Rattle.sg_query.specs.declared.found.Found.{Found}
use Rattle.sg_state.specs.Held.{next_scope}
use Rattle.sg_unit.specs.declared.entry.Entry.{Entry}
use Rattle.sg_unit.specs.declared.op.Op.{Op}
use Rattle.sg_unit.specs.declared.op.Op.TheVariants.{Fresh, AddEdge, SetDatum, CloseRow, Ask, Advance, Take, End}
use Rattle.sg_unit.specs.declared.reply.Reply.{Reply}
use Rattle.sg_unit.specs.declared.reply.Reply.TheVariants.{Made, Done, Moved, Ready, Suspended, Answer as Answered, Stuck}
use Rattle.sg_unit.specs.Run.{Setting, RunOf, opened, after, run_of}
use Rattle.sg_unit.specs.Step.{Meets}

-- the entries of a unit
abbrev pub own : {I R D P : Type 0} → ℕ → List (Entry I R D P) → List (Entry I R D P)
own u log = filter (λ e. e.unit == u) log

-- the answer names the scope: one of its paths passes there
abbrev pub Names : {D : Type 0} → Answer D → Scope → Type 0
Names {D} (Paths fs) s = (f : Found D) × Contains fs f × Contains (f.path.start ∷ reached_by f.path.steps) s
Names TooMany s = ⊥

-- the opening lists the scope, one of these entries made it, or an answer of them names it
abbrev pub KnowsScope : {I R D P : Type 0} → Setting D P → List (Entry I R D P) → Scope → Type 0
KnowsScope {I} {R} {D} {P} z mine s = HasScope (run_of z mine).held.graph s ⊎ ((e : Entry I R D P) × Contains mine e × ((a : Answer D) × (e.reply ≡ Answered a) × Names a s))

-- the unit may do this next, as its own entries tell it: it is live, and the condition holds in the run of these entries alone, with the
-- scopes that it knows
abbrev pub MayBy : {I R D P : Type 0} → Setting D P → List (Entry I R D P) → ℕ → Op I R D P → Type 0
MayBy z mine u op = IsTrue ((run_of z mine).live u) × Meets z (KnowsScope z mine) (run_of z mine) u op

-- the scopes that have to be there for an operation
abbrev pub Uses : {I R D P : Type 0} → Op I R D P → Scope → Type 0
Uses (AddEdge from label to) s = s ≡ to
Uses (Ask q) s = s ≡ q.start
Uses (Fresh labels datum) s = ⊥
Uses (SetDatum t d) s = ⊥
Uses (CloseRow t l) s = ⊥
Uses Advance s = ⊥
Uses Take s = ⊥
Uses (End x) s = ⊥

-- the reply is one that an advance can have
abbrev pub IsAdvanceReply : {I D P : Type 0} → Reply I D P → Type 0
IsAdvanceReply Moved = Unit {0}
IsAdvanceReply Ready = Unit {0}
IsAdvanceReply Suspended = Unit {0}
IsAdvanceReply Stuck = Unit {0}
IsAdvanceReply (Made s) = ⊥
IsAdvanceReply (Done woken) = ⊥
IsAdvanceReply (Answered a) = ⊥

-- the reply is one that an end can have
abbrev pub IsEndReply : {I D P : Type 0} → Reply I D P → Type 0
IsEndReply (Done woken) = Unit {0}
IsEndReply Stuck = Unit {0}
IsEndReply (Made s) = ⊥
IsEndReply Moved = ⊥
IsEndReply Ready = ⊥
IsEndReply Suspended = ⊥
IsEndReply (Answered a) = ⊥

-- the reply is one that the operation can have, as far as the unit can tell
abbrev pub CanReply : {I R D P : Type 0} → RunOf D P → ℕ → Op I R D P → Reply I D P → Type 0
CanReply r u (Fresh labels datum) y = y ≡ Made (next_scope r.held u)
CanReply r u (AddEdge from label to) y = y ≡ Done []
CanReply r u (SetDatum s d) y = (woken : List ℕ) × (y ≡ Done woken)
CanReply r u (CloseRow s l) y = (woken : List ℕ) × (y ≡ Done woken)
CanReply r u (Ask q) y = y ≡ Moved
CanReply r u Advance y = IsAdvanceReply y
CanReply {D = D} r u Take y = (a : Answer D) × (y ≡ Answered a)
CanReply r u (End x) y = IsEndReply y

-- the entry is the unit's, meets its condition wherever its scopes are, and has a reply that it can have
pub record IsOwnStep {I R D P : Type 0} (z : Setting D P) (u : ℕ) (r : RunOf D P) (e : Entry I R D P) : Type 0 where
  pub unit : e.unit ≡ u
  pub live : IsTrue (r.live u)
  pub meets : Meets z (λ s. Unit {0}) r u e.op
  pub replies : CanReply r u e.op e.reply

-- each entry is such a one after those before it
abbrev pub IsOwnRunFrom : {I R D P : Type 0} → Setting D P → ℕ → RunOf D P → List (Entry I R D P) → Type 0
IsOwnRunFrom z u r [] = Unit {0}
IsOwnRunFrom z u r (e ∷ es) = IsOwnStep z u r e × IsOwnRunFrom z u (after r e) es

-- entries that are a unit's own in some run, as far as it can tell
abbrev pub IsOwnRun : {I R D P : Type 0} → Setting D P → ℕ → List (Entry I R D P) → Type 0
IsOwnRun z u mine = IsOwnRunFrom z u (opened z) mine
