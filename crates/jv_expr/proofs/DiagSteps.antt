-- The steps of rules that end with the diagnostics so far.
use Rattle.std.proofs.Common.{◌≡◌, List, Option, Result, Ok, Err}
use Rattle.std.specs.Result.{IsErrAnd}
use Rattle.sg_query.specs.declared.answer.Answer.{Answer}
use Rattle.sg_query.specs.declared.query.Query.{Query}
use Rattle.sg_reading.specs.declared.stop.Stop.{Stop}
use Rattle.sg_reading.specs.declared.stop.Stop.TheVariants.{OutOfMemory}
use Rattle.sg_reading.specs.Stop.{Reads}
use Rattle.sg_reading.proofs.Steps.{stops, memory_stops, reading_steps}
use Rattle.jv_diag.specs.Plain.{DiagOf}
use Rattle.jv_instance.specs.declared.datum.JavaDatum.{JavaDatum}
use Rattle.jv_instance.specs.declared.pred.JavaPred.{JavaPred}
use Rattle.jv_names.specs.Replies.{Rule}
use Rattle.jv_expr.specs.Checking.{Checking, with_diags, only_diags}

abbrev Replies : Type 0
Replies = Query JavaPred → Option (Answer JavaDatum)

module _ {T : Type 0} (reply : Replies) where
  pub diags_stops : (r : Checking T) (e : Stop (Query JavaPred)) (x : Result T (Stop (Query JavaPred))) (ds : List DiagOf) → IsErrAnd x (λ y. y ≡ e) → Reads {U = T × List DiagOf} reply r (Err e) → Reads reply r (with_diags x ds)
  diags_stops r e (Ok v) ds k h = absurd k
  diags_stops r e (Err y) ds k h = stops reply r e (Err y) k h

  pub diags_memory : (r : Checking T) (e : Stop (Query JavaPred)) (x : Result T (Stop (Query JavaPred))) (ds : List DiagOf) → IsErrAnd x (λ y. y ≡ e) → e ≡ OutOfMemory → Reads reply r (with_diags x ds)
  diags_memory r e (Ok v) ds k h = absurd k
  diags_memory r e (Err y) ds k h = memory_stops reply r e (Err y) k h

module _ (reply : Replies) where
  pub only_stops : (r : Rule (List DiagOf)) (e : Stop (Query JavaPred)) (x : Result (Unit {0}) (Stop (Query JavaPred))) (ds : List DiagOf) → IsErrAnd x (λ y. y ≡ e) → Reads {U = List DiagOf} reply r (Err e) → Reads reply r (only_diags x ds)
  only_stops r e (Ok v) ds k h = absurd k
  only_stops r e (Err y) ds k h = stops reply r e (Err y) k h

  pub only_memory : (r : Rule (List DiagOf)) (e : Stop (Query JavaPred)) (x : Result (Unit {0}) (Stop (Query JavaPred))) (ds : List DiagOf) → IsErrAnd x (λ y. y ≡ e) → e ≡ OutOfMemory → Reads reply r (only_diags x ds)
  only_memory r e (Ok v) ds k h = absurd k
  only_memory r e (Err y) ds k h = memory_stops reply r e (Err y) k h

pub ruleset diag_steps = (reading_steps, diags_stops, diags_memory, only_stops, only_memory)
