-- What a unit's trace tells of the run.
use Rattle.std.specs.Prelude.{◌≡◌, ℕ, List, ◌++◌, Option, Some, None}
use Rattle.sg_base.specs.Graph.{HasScope}
use Rattle.sg_query.specs.declared.answer.Answer.{Answer}
use Rattle.sg_query.specs.declared.query.Query.{Query}
use Rattle.sg_query.specs.Answer.{IsAnswer}
use Rattle.sg_query.specs.State.{IsSettled}
use Rattle.sg_state.specs.Held.{state_of}
use Rattle.sg_unit.specs.declared.entry.Entry.{Entry}
use Rattle.sg_unit.specs.declared.op.Op.{Op}
use Rattle.sg_unit.specs.declared.op.Op.TheVariants.{Ask}
use Rattle.sg_unit.specs.declared.reply.Reply.{Reply}
use Rattle.sg_unit.specs.Own.{own}
use Rattle.sg_unit.specs.Run.{Setting, Asking, no_ask, asked_by, run_of, IsFor}
use Rattle.sg_unit.specs.Trace.{Trace, told}

-- what a unit gave and was told by the entries of a run
abbrev pub trace_of : {I R D P : Type 0} → ℕ → List (Entry I R D P) → Trace I R D P
trace_of u log = told (own u log)

-- what a unit asks, by its last operation and the reply that waits to be handed to it: that operation's query, where it is an ask without reply
abbrev pub TellsAsk : {I R D P : Type 0} → Asking P → Option (Op I R D P) → Option (Reply I D P) → Type 0
TellsAsk a None y = a ≡ no_ask
TellsAsk a (Some op) (Some y) = a ≡ no_ask
TellsAsk {P = P} a (Some op) None = (q : Query P) × (op ≡ Ask q) × IsFor a q

-- the query was settled after some of these entries, with this answer
pub record WasSettled {I R D P : Type 0} (z : Setting D P) (log : List (Entry I R D P)) (q : Query P) (a : Answer D) : Type 0 where
  pub before : List (Entry I R D P)
  pub behind : List (Entry I R D P)
  pub split : log ≡ before ++ behind
  pub start : HasScope (run_of z before).held.graph q.start
  pub settled : IsSettled (state_of (run_of z before).held) (asked_by z q)
  pub answer : IsAnswer (run_of z before).held.graph (asked_by z q) a
