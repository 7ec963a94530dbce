-- The steps by which fields and names are checked.
use Rattle.std.proofs.Common.{◌≡◌, List, Option, Result, Ok, Err, sym, subst}
use Rattle.std.specs.Result.{IsErrAnd}
use Rattle.sg_query.specs.declared.answer.Answer.{Answer}
use Rattle.sg_query.specs.declared.query.Query.{Query}
use Rattle.sg_reading.specs.declared.stop.Stop.{Stop}
use Rattle.sg_reading.specs.declared.stop.Stop.TheVariants.{OutOfMemory}
use Rattle.sg_reading.specs.Reading.{done}
use Rattle.sg_reading.specs.Stop.{Reads}
use Rattle.sg_reading.proofs.Steps.{done_reads, memory_reads, reading_steps}
use Rattle.jv_diag.specs.Plain.{DiagOf}
use Rattle.jv_instance.specs.declared.datum.JavaDatum.{JavaDatum}
use Rattle.jv_instance.specs.declared.pred.JavaPred.{JavaPred}
use Rattle.jv_expr.specs.Checking.{Checking, with_diags}

abbrev Replies : Type 0
Replies = Query JavaPred → Option (Answer JavaDatum)

module _ {U : Type 0} (reply : Replies) where
  -- the exit of a `?`
  pub named_stops : (r : Checking U) (e : Stop (Query JavaPred)) (x : Result U (Stop (Query JavaPred))) (ds : List DiagOf) → IsErrAnd x (λ y. y ≡ e) → Reads {U = U × List DiagOf} reply r (Err e) → Reads reply r (with_diags x ds)
  named_stops r e (Ok v) ds k h = absurd k
  named_stops r e (Err y) ds k h = subst (λ (z : Stop (Query JavaPred)). Reads {U = U × List DiagOf} reply r (Err z)) (sym k) h

  -- the exit of a `?` for want of memory
  pub named_memory : (r : Checking U) (e : Stop (Query JavaPred)) (x : Result U (Stop (Query JavaPred))) (ds : List DiagOf) → IsErrAnd x (λ y. y ≡ e) → e ≡ OutOfMemory → Reads reply r (with_diags x ds)
  named_memory r e x ds k h = named_stops r e x ds k (subst (λ (z : Stop (Query JavaPred)). Reads {U = U × List DiagOf} reply r (Err z)) (sym h) (memory_reads reply r))

  -- a value with the diagnostics behind it
  pub named_done : (v w : U) (ds es : List DiagOf) → w ≡ v → es ≡ ds → Reads {U = U × List DiagOf} reply (done (v, ds)) (Ok (w, es))
  named_done v w ds es e k =
      let before : U × List DiagOf = (v, ds) in
      let after : U × List DiagOf = (w, es) in
      done_reads reply before after (λ i. (sym e i, sym k i))

pub ruleset naming_steps = (reading_steps, named_stops, named_memory, named_done)
