-- The steps by which names of one part and of several are told apart.
use Rattle.std.proofs.Common.{◌≡◌, List, [], ◌∷◌, Option, Result, sym, subst, ◌∙◌, ap}
use Rattle.sg_query.specs.declared.answer.Answer.{Answer}
use Rattle.sg_query.specs.declared.query.Query.{Query}
use Rattle.sg_reading.specs.declared.stop.Stop.{Stop}
use Rattle.sg_reading.specs.Reading.{done, and_then}
use Rattle.sg_reading.specs.Stop.{Reads}
use Rattle.jv_diag.specs.Plain.{DiagOf}
use Rattle.jv_instance.specs.declared.datum.JavaDatum.{JavaDatum}
use Rattle.jv_instance.specs.declared.pred.JavaPred.{JavaPred}
use Rattle.jv_tree.specs.declared.name.Ident.{Ident}
use Rattle.jv_expr.specs.declared.local.Local.{Local}
use Rattle.jv_expr.specs.declared.value.Value.{Value}
use Rattle.jv_expr.specs.Site.{SiteOf}
use Rattle.jv_expr.specs.Variables.{denoted, ended_value, name_value_of, simple_name}
use Rattle.jv_expr.proofs.NamingSteps.{naming_steps}

module _ (reply : Query JavaPred → Option (Answer JavaDatum)) (site : SiteOf) (vs : List Local) (i : Ident) (is ids : List Ident) (ds : List DiagOf) (x : Result (Value × List DiagOf) (Stop (Query JavaPred))) where
  pub one_part : ids ≡ i ∷ is → is ≡ [] → Reads reply (simple_name site vs i ds) x → Reads reply (name_value_of site vs ids ds) x
  one_part e k h = subst (λ (js : List Ident). Reads reply (name_value_of site vs js ds) x) (sym (e ∙ ap (λ (js : List Ident). i ∷ js) k)) h

  pub long_name : (j : Ident) (js : List Ident) → ids ≡ i ∷ is → is ≡ j ∷ js → Reads reply (and_then (denoted site vs i is ds) (λ d. done (ended_value site i is d.0 d.1))) x → Reads reply (name_value_of site vs ids ds) x
  long_name j js e k h =
      subst (λ (ks : List Ident). Reads reply (name_value_of site vs ks ds) x) (sym (e ∙ ap (λ (ks : List Ident). i ∷ ks) k))
      (subst (λ (ks : List Ident). Reads reply (and_then (denoted site vs i ks ds) (λ d. done (ended_value site i ks d.0 d.1))) x) k h)

pub ruleset long_steps = (naming_steps, one_part, long_name)
