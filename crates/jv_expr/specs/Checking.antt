-- Rules that end with a value and with the diagnostics so far.
use Rattle.std.specs.Prelude.{List, Result, Ok, Err}
use Rattle.sg_query.specs.declared.answer.Answer.{Answer}
use Rattle.sg_query.specs.declared.query.Query.{Query}
use Rattle.sg_reading.specs.declared.stop.Stop.{Stop}
use Rattle.sg_reading.specs.Stop.{Reads}
use Rattle.jv_diag.specs.Plain.{DiagOf}
use Rattle.jv_instance.specs.declared.datum.JavaDatum.{JavaDatum}
use Rattle.jv_instance.specs.declared.pred.JavaPred.{JavaPred}
use Rattle.jv_names.specs.Replies.{Rule, reply_to}

-- a rule that is handed the diagnostics so far, and gives a value with the diagnostics behind it
abbrev pub Checking : Type 0 → Type 0
Checking U = Rule (U × List DiagOf)

-- what a call gives that adds to the diagnostics
abbrev pub with_diags : {U : Type 0} → Result U (Stop (Query JavaPred)) → List DiagOf → Result (U × List DiagOf) (Stop (Query JavaPred))
with_diags (Ok v) ds = Ok (v, ds)
with_diags (Err e) ds = Err e

-- what a call without a value gives that adds to the diagnostics
abbrev pub only_diags : Result (Unit {0}) (Stop (Query JavaPred)) → List DiagOf → Result (List DiagOf) (Stop (Query JavaPred))
only_diags (Ok v) ds = Ok ds
only_diags (Err e) ds = Err e

-- what a call without a value gives that adds to the local variables and to the diagnostics
abbrev pub with_scope : {S : Type 0} → Result (Unit {0}) (Stop (Query JavaPred)) → S → List DiagOf → Result (S × List DiagOf) (Stop (Query JavaPred))
with_scope (Ok v) s ds = Ok (s, ds)
with_scope (Err e) s ds = Err e

-- over these replies, such a call reads the rule: it gives the local variables and the diagnostics that the rule comes to
abbrev pub ReadsScope : {S : Type 0} → List (Query JavaPred × Answer JavaDatum) → Checking S → Result (Unit {0}) (Stop (Query JavaPred)) → S → List DiagOf → Type 0
ReadsScope replies r x s ds = Reads (reply_to replies) r (with_scope x s ds)
