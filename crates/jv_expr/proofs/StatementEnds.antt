-- How functions that add to the diagnostics end: with a value, with the diagnostics alone, or with the local variables.
use Rattle.std.proofs.Common.{◌≡◌, List, Option, Result, Ok, Err, sym, subst}
use Rattle.std.specs.Result.{IsErrAnd}
use Rattle.sg_query.specs.declared.answer.Answer.{Answer}
use Rattle.sg_query.specs.declared.query.Query.{Query}
use Rattle.sg_reading.specs.declared.stop.Stop.{Stop}
use Rattle.sg_reading.specs.declared.stop.Stop.TheVariants.{OutOfMemory}
use Rattle.sg_reading.specs.Stop.{Reads}
use Rattle.sg_reading.proofs.Steps.{memory_reads, reading_steps}
use Rattle.jv_diag.specs.Plain.{DiagOf}
use Rattle.jv_instance.specs.declared.datum.JavaDatum.{JavaDatum}
use Rattle.jv_instance.specs.declared.pred.JavaPred.{JavaPred}
use Rattle.jv_names.specs.Replies.{Rule}
use Rattle.jv_expr.specs.Checking.{Checking, with_diags, only_diags, with_scope}
use Rattle.jv_expr.proofs.Locals.{local_steps}

module _ (reply : Query JavaPred → Option (Answer JavaDatum)) where
  module _ {U : Type 0} (r : Checking U) (e : Stop (Query JavaPred)) (x : Result U (Stop (Query JavaPred))) (ds : List DiagOf) (is : IsErrAnd x (λ y. y ≡ e)) where
    -- the exit of a `?`, where there is a value
    pub valued_stops : Reads {U = U × List DiagOf} reply r (Err e) → Reads reply r (with_diags x ds)
    valued_stops h = by x is
      where
        by : (x : Result U (Stop (Query JavaPred))) → IsErrAnd x (λ y. y ≡ e) → Reads reply r (with_diags x ds)
        by (Ok v) k = absurd k
        by (Err y) k = subst (λ (z : Stop (Query JavaPred)). Reads {U = U × List DiagOf} reply r (Err z)) (sym k) h

    pub valued_memory : e ≡ OutOfMemory → Reads reply r (with_diags x ds)
    valued_memory h = valued_stops (subst (λ (z : Stop (Query JavaPred)). Reads {U = U × List DiagOf} reply r (Err z)) (sym h) (memory_reads reply r))

  module _ (e : Stop (Query JavaPred)) (x : Result (Unit {0}) (Stop (Query JavaPred))) (ds : List DiagOf) (is : IsErrAnd x (λ y. y ≡ e)) where
    -- where there are diagnostics alone
    module _ (r : Rule (List DiagOf)) where
      pub plain_stops : Reads {U = List DiagOf} reply r (Err e) → Reads reply r (only_diags x ds)
      plain_stops h = by x is
        where
          by : (x : Result (Unit {0}) (Stop (Query JavaPred))) → IsErrAnd x (λ y. y ≡ e) → Reads reply r (only_diags x ds)
          by (Ok v) k = absurd k
          by (Err y) k = subst (λ (z : Stop (Query JavaPred)). Reads {U = List DiagOf} reply r (Err z)) (sym k) h

      pub plain_memory : e ≡ OutOfMemory → Reads reply r (only_diags x ds)
      plain_memory h = plain_stops (subst (λ (z : Stop (Query JavaPred)). Reads {U = List DiagOf} reply r (Err z)) (sym h) (memory_reads reply r))

    -- where there are local variables
    module _ {S : Type 0} (s : S) (r : Checking S) where
      pub scope_stops : Reads {U = S × List DiagOf} reply r (Err e) → Reads reply r (with_scope x s ds)
      scope_stops h = by x is
        where
          by : (x : Result (Unit {0}) (Stop (Query JavaPred))) → IsErrAnd x (λ y. y ≡ e) → Reads reply r (with_scope x s ds)
          by (Ok v) k = absurd k
          by (Err y) k = subst (λ (z : Stop (Query JavaPred)). Reads {U = S × List DiagOf} reply r (Err z)) (sym k) h

      pub scope_memory : e ≡ OutOfMemory → Reads reply r (with_scope x s ds)
      scope_memory h = scope_stops (subst (λ (z : Stop (Query JavaPred)). Reads {U = S × List DiagOf} reply r (Err z)) (sym h) (memory_reads reply r))

pub ruleset end_steps = (reading_steps, local_steps, valued_stops, valued_memory, plain_stops, plain_memory, scope_stops, scope_memory)
