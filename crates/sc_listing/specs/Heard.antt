-- What a checker was told, as it is read off its own entries.
use Rattle.std.specs.Prelude.{◌≡◌, ℕ, List, [], ◌∷◌, ◌++◌, Option, Some, None, map, ◌↔◌}
use Rattle.std.specs.List.{Contains}
use Rattle.std.specs.String.{string_bytes}
use Rattle.sg_query.specs.declared.answer.Answer.{Answer}
use Rattle.sg_query.specs.declared.query.Query.{Query}
use Rattle.sg_unit.specs.declared.op.Op.{Op}
use Rattle.sg_unit.specs.declared.op.Op.TheVariants.{Fresh, AddEdge, SetDatum, CloseRow, Ask, Advance, Take, End}
use Rattle.sg_unit.specs.declared.reply.Reply.{Reply}
use Rattle.sg_unit.specs.declared.reply.Reply.TheVariants.{Made, Done, Moved, Ready, Suspended, Answer as Answered, Stuck}
use Rattle.sg_unit.specs.Trace.{Trace}
use Rattle.jv_diag.specs.Plain.{DiagOf}
use Rattle.jv_instance.specs.declared.datum.JavaDatum.{JavaDatum}
use Rattle.jv_instance.specs.declared.java.Java.{Java}
use Rattle.jv_instance.specs.declared.pred.JavaPred.{JavaPred}
use Rattle.sc_listing.specs.declared.heard.Heard.{Heard}
use Rattle.sc_listing.specs.Answers.{JavaPast, IsToldLine}
use Rattle.sc_listing.specs.Questions.{question_line}
use Rattle.sc_listing.specs.Titles.{ListedOf}

-- an operation that a checker of a folder gives
abbrev pub JavaOp : Type 0
JavaOp = Op Java (List DiagOf) JavaDatum JavaPred

-- a reply that a checker of a folder is told
abbrev pub JavaReply : Type 0
JavaReply = Reply Java JavaDatum JavaPred

-- what a checker of a folder gave and was told
abbrev pub JavaTrace : Type 0
JavaTrace = Trace Java (List DiagOf) JavaDatum JavaPred

-- the query that an operation asks, where it is an ask
abbrev pub query_in : JavaOp → Option (Query JavaPred)
query_in (Ask q) = Some q
query_in (Fresh labels datum) = None
query_in (AddEdge from label to) = None
query_in (SetDatum s d) = None
query_in (CloseRow s l) = None
query_in Advance = None
query_in Take = None
query_in (End x) = None

-- the query that was asked last, where the last operation is an ask
abbrev pub asked_last : Option JavaOp → Option (Query JavaPred)
asked_last None = None
asked_last (Some op) = query_in op

-- the answer that a reply is, where it is one
abbrev pub answer_in : JavaReply → Option (Answer JavaDatum)
answer_in (Answered a) = Some a
answer_in (Made s) = None
answer_in (Done woken) = None
answer_in Moved = None
answer_in Ready = None
answer_in Suspended = None
answer_in Stuck = None

-- the answer that waits to be handed, where one does
abbrev pub waiting_answer : Option JavaReply → Option (Answer JavaDatum)
waiting_answer None = None
waiting_answer (Some y) = answer_in y

-- the lines with that of a question, where its answer has come
abbrev pub with_answer : ListedOf → List (List ℕ) → Query JavaPred → Option (Answer JavaDatum) → List (List ℕ)
with_answer w lines q None = lines
with_answer w lines q (Some a) = lines ++ question_line w q a ∷ []

-- the lines are those of the questions whose answers were told
pub record AreTold (w : ListedOf) (past : JavaPast) (lines : List (List ℕ)) : Type 0 where
  pub exact : (line : List ℕ) → (Contains lines line) ↔ (IsToldLine w past line)

-- this is what a checker heard that gave and was told so much: the query that it asked last, the answer to that which waits, and the lines
-- of what it was handed
pub record Hears (w : ListedOf) (h : Heard) (t : JavaTrace) : Type 0 where
  pub asked : h.asked ≡ asked_last t.last
  pub answer : (q : Query JavaPred) → h.asked ≡ Some q → h.answer ≡ waiting_answer t.reply
  pub lines : AreTold w t.past (map string_bytes h.lines.items)
