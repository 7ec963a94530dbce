-- Expressions whose values are left alone, one after another.
use Rattle.std.proofs.Common.{◌≡◌, ℕ, ◌+◌, ◌<◌, ◌≤◌, List, ◌∷◌, Option, Result, Ok, Err, length, get_or, drop, sym, subst}
use Rattle.std.proofs.lemmas.List.{at_drop_more, at_drop_all}
use Rattle.sg_query.specs.declared.answer.Answer.{Answer}
use Rattle.sg_query.specs.declared.query.Query.{Query}
use Rattle.sg_reading.specs.declared.stop.Stop.{Stop}
use Rattle.sg_reading.specs.Stop.{Reads}
use Rattle.sg_reading.proofs.Steps.{done_reads, then_ok, then_err}
use Rattle.jv_diag.specs.Plain.{DiagOf}
use Rattle.jv_instance.specs.declared.datum.JavaDatum.{JavaDatum}
use Rattle.jv_instance.specs.declared.pred.JavaPred.{JavaPred}
use Rattle.jv_tree.specs.declared.expression.Expr.{Expr}
use Rattle.jv_tree.specs.ExprTree.{expr_tree, expr_trees}
use Rattle.jv_names.specs.Replies.{Rule}
use Rattle.jv_expr.specs.declared.local.Local.{Local}
use Rattle.jv_expr.specs.Site.{SiteOf}
use Rattle.jv_expr.specs.Statements.{effect_checked, effects_checked}
use Rattle.jv_expr.proofs.StatementEnds.{end_steps}

module _ (reply : Query JavaPred → Option (Answer JavaDatum)) (site : SiteOf) (vs : List Local) (xs : List Expr) (i : ℕ) (ds : List DiagOf) where
  module _ (x : Expr) (below : i < length xs) (is : x ≡ get_or xs i x) where
    here : (r : Result (List DiagOf) (Stop (Query JavaPred))) → Reads reply (effects_checked site vs (expr_trees (x ∷ drop (i + 1) xs)) ds) r → Reads reply (effects_checked site vs (expr_trees (drop i xs)) ds) r
    here r h =
        subst (λ (t : Rule (List DiagOf)). Reads reply t r) (sym (at_drop_more (λ (xs : List Expr). effects_checked site vs (expr_trees xs) ds) xs i x below))
        (subst (λ (y : Expr). Reads reply (effects_checked site vs (expr_trees (y ∷ drop (i + 1) xs)) ds) r) is h)

    pub effects_step : (ds' : List DiagOf) (r : Result (List DiagOf) (Stop (Query JavaPred))) → Reads reply (effect_checked site vs (expr_tree x) ds) (Ok ds') → Reads reply (effects_checked site vs (expr_trees (drop (i + 1) xs)) ds') r → Reads reply (effects_checked site vs (expr_trees (drop i xs)) ds) r
    effects_step ds' r g h = here r (then_ok reply (effect_checked site vs (expr_tree x) ds) (λ ds. effects_checked site vs (expr_trees (drop (i + 1) xs)) ds) ds' r g h)

    pub effects_stop : (e : Stop (Query JavaPred)) → Reads {U = List DiagOf} reply (effect_checked site vs (expr_tree x) ds) (Err e) → Reads {U = List DiagOf} reply (effects_checked site vs (expr_trees (drop i xs)) ds) (Err e)
    effects_stop e g = here (Err e) (then_err reply (effect_checked site vs (expr_tree x) ds) (λ ds. effects_checked site vs (expr_trees (drop (i + 1) xs)) ds) e g)

  pub effects_end : (ds' : List DiagOf) → length xs ≤ i → ds ≡ ds' → Reads reply (effects_checked site vs (expr_trees (drop i xs)) ds) (Ok ds')
  effects_end ds' past is = subst (λ (t : Rule (List DiagOf)). Reads reply t (Ok ds')) (sym (at_drop_all (λ (xs : List Expr). effects_checked site vs (expr_trees xs) ds) xs i past)) (done_reads reply ds ds' is)

pub ruleset effect_steps = (end_steps, effects_step, effects_stop, effects_end)
