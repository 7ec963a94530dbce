-- What a unit was told, as it is read off the log of a run.
use Rattle.std.specs.Prelude.{◌≡◌, cond, List, Option, Some, None}
use Rattle.sg_query.specs.declared.answer.Answer.{Answer}
use Rattle.sg_query.specs.declared.query.Query.{Query}
use Rattle.sg_reading.specs.Stop.{Replied}
use Rattle.sg_script.specs.Following.{asked_last}
use Rattle.sg_unit.specs.declared.entry.Entry.{Entry}
use Rattle.sg_unit.specs.declared.op.Op.{Op}
use Rattle.sg_unit.specs.declared.reply.Reply.{Reply}
use Rattle.sg_unit.specs.declared.reply.Reply.TheVariants.{Made, Done, Moved, Ready, Suspended, Answer as Answered, Stuck}
use Rattle.sg_unit.specs.Orderly.{WasTold}
use Rattle.sg_unit.specs.Trace.{Past, Trace}
use Rattle.jv_diag.specs.Plain.{DiagOf}
use Rattle.jv_instance.specs.declared.datum.JavaDatum.{JavaDatum}
use Rattle.jv_instance.specs.declared.java.Java.{Java}
use Rattle.jv_instance.specs.declared.pred.JavaPred.{JavaPred}
use Rattle.jv_names.specs.Replies.{is_query, reply_to}
use Rattle.sc_app.specs.declared.heard.Heard.{Heard}

-- ---- the log of a run of Java's units

-- an operation of one of Java's units
abbrev pub JavaOp : Type 0
JavaOp = Op Java (List DiagOf) JavaDatum JavaPred

-- a reply to such an operation
abbrev pub JavaReply : Type 0
JavaReply = Reply Java JavaDatum JavaPred

-- an entry of the log of such a run
abbrev pub JavaEntry : Type 0
JavaEntry = Entry Java (List DiagOf) JavaDatum JavaPred

-- operations that such a unit gave, each with the reply that it was handed
abbrev pub JavaPast : Type 0
JavaPast = Past Java (List DiagOf) JavaDatum JavaPred

-- what such a unit gave and was told
abbrev pub JavaTrace : Type 0
JavaTrace = Trace Java (List DiagOf) JavaDatum JavaPred

-- ---- what a unit heard

-- the answer that a reply is, where it is one
abbrev pub answer_in : JavaReply → Option (Answer JavaDatum)
answer_in (Answered a) = Some a
answer_in (Made s) = None
answer_in (Done woken) = None
answer_in Moved = None
answer_in Ready = None
answer_in Suspended = None
answer_in Stuck = None

-- the answer that waits to be handed, where one does
abbrev pub waiting_answer : Option JavaReply → Option (Answer JavaDatum)
waiting_answer None = None
waiting_answer (Some y) = answer_in y

-- the replies with the answer to a query, where it has come
abbrev pub with_waiting : Query JavaPred → Option (Answer JavaDatum) → (Query JavaPred → Option (Answer JavaDatum)) → Query JavaPred → Option (Answer JavaDatum)
with_waiting q None reply p = reply p
with_waiting q (Some a) reply p = cond (is_query q p) (Some a) (reply p)

-- each reply was told, and each query to which an answer was told has a reply
pub record Collects (past : JavaPast) (replies : List (Query JavaPred × Answer JavaDatum)) : Type 0 where
  pub told : (q : Query JavaPred) (a : Answer JavaDatum) → Replied (reply_to replies) q a → WasTold past q a
  pub replied : (q : Query JavaPred) (a : Answer JavaDatum) → WasTold past q a → (b : Answer JavaDatum) × Replied (reply_to replies) q b

-- this is what a unit heard that gave and was told so much: the query that it asked last, the answer to that which waits, and the replies
pub record Hears (h : Heard) (t : JavaTrace) : Type 0 where
  pub asked : h.asked ≡ asked_last t.last
  pub answer : (q : Query JavaPred) → h.asked ≡ Some q → h.answer ≡ waiting_answer t.reply
  pub collects : Collects t.past h.replies
