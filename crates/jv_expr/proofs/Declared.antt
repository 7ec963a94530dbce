-- The variables of a declaration, one after another.
use Rattle.std.proofs.Common.{◌≡◌, ℕ, ◌+◌, ◌<◌, ◌≤◌, Bool, List, ◌∷◌, Option, Result, Ok, Err, length, get_or, drop, sym, subst}
use Rattle.std.specs.Prelude.{◌&&◌, is_some}
use Rattle.std.specs.Option.{option_map}
use Rattle.std.proofs.lemmas.List.{at_drop_more, at_drop_all}
use Rattle.sg_query.specs.declared.answer.Answer.{Answer}
use Rattle.sg_query.specs.declared.query.Query.{Query}
use Rattle.sg_reading.specs.declared.stop.Stop.{Stop}
use Rattle.sg_reading.specs.Reading.{done, and_then}
use Rattle.sg_reading.specs.Stop.{Reads}
use Rattle.sg_reading.proofs.Steps.{done_reads, then_ok, then_err}
use Rattle.jv_diag.specs.Plain.{DiagOf}
use Rattle.jv_instance.specs.declared.datum.JavaDatum.{JavaDatum}
use Rattle.jv_instance.specs.declared.pred.JavaPred.{JavaPred}
use Rattle.jv_instance.specs.declared.ty.Ty.{Ty}
use Rattle.jv_tree.specs.declared.type_ref.Var.{Var}
use Rattle.jv_tree.specs.ExprTree.{init_tree}
use Rattle.jv_tree.specs.StmtTree.{var_tree, var_trees}
use Rattle.jv_names.specs.Replies.{Rule}
use Rattle.jv_expr.specs.declared.local.Local.{Local}
use Rattle.jv_expr.specs.Site.{SiteOf}
use Rattle.jv_expr.specs.Statements.{Scoped, declared, optional_init, variable_checked, variables_checked}
use Rattle.jv_expr.proofs.StatementEnds.{end_steps}

module _ (reply : Query JavaPred → Option (Answer JavaDatum)) (site : SiteOf) (f : Bool) (t : Ty) where
  -- one variable, which is in scope before its initializer
  pub variable_case : (v : Var) (vs vs' : List Local) (ds ds' : List DiagOf) (b : Bool) (r : Result Scoped (Stop (Query JavaPred)))
      → b ≡ (f && is_some (option_map init_tree v.init)) → ◌≡◌ {A = Scoped} (vs', ds') (declared site v.name t b vs ds)
      → Reads reply (and_then (optional_init site vs' t (option_map init_tree v.init) ds') (λ ds''. done (vs', ds''))) r
      → Reads reply (variable_checked site f t (var_tree v) vs ds) r
  variable_case v vs vs' ds ds' b r sealed is h =
      subst (λ (b : Bool). Reads reply (and_then (optional_init site (declared site v.name t b vs ds).0 t (option_map init_tree v.init) (declared site v.name t b vs ds).1) (λ ds''. done ((declared site v.name t b vs ds).0, ds''))) r) sealed
      (subst (λ (s : Scoped). Reads reply (and_then (optional_init site s.0 t (option_map init_tree v.init) s.1) (λ ds''. done (s.0, ds''))) r) is h)

  module _ (xs : List Var) (i : ℕ) (vs : List Local) (ds : List DiagOf) where
    module _ (x : Var) (below : i < length xs) (is : x ≡ get_or xs i x) where
      here : (r : Result Scoped (Stop (Query JavaPred))) → Reads reply (variables_checked site f t (var_trees (x ∷ drop (i + 1) xs)) vs ds) r → Reads reply (variables_checked site f t (var_trees (drop i xs)) vs ds) r
      here r h =
          subst (λ (u : Rule Scoped). Reads reply u r) (sym (at_drop_more (λ (xs : List Var). variables_checked site f t (var_trees xs) vs ds) xs i x below))
          (subst (λ (y : Var). Reads reply (variables_checked site f t (var_trees (y ∷ drop (i + 1) xs)) vs ds) r) is h)

      pub variables_step : (vs' : List Local) (ds' : List DiagOf) (r : Result Scoped (Stop (Query JavaPred))) → Reads {U = Scoped} reply (variable_checked site f t (var_tree x) vs ds) (Ok (vs', ds'))
          → Reads reply (variables_checked site f t (var_trees (drop (i + 1) xs)) vs' ds') r → Reads reply (variables_checked site f t (var_trees (drop i xs)) vs ds) r
      variables_step vs' ds' r g h = here r (then_ok reply (variable_checked site f t (var_tree x) vs ds) (λ s. variables_checked site f t (var_trees (drop (i + 1) xs)) s.0 s.1) (vs', ds') r g h)

      pub variables_stop : (e : Stop (Query JavaPred)) → Reads {U = Scoped} reply (variable_checked site f t (var_tree x) vs ds) (Err e) → Reads {U = Scoped} reply (variables_checked site f t (var_trees (drop i xs)) vs ds) (Err e)
      variables_stop e g = here (Err e) (then_err reply (variable_checked site f t (var_tree x) vs ds) (λ s. variables_checked site f t (var_trees (drop (i + 1) xs)) s.0 s.1) e g)

    pub variables_end : (s : Scoped) → length xs ≤ i → ◌≡◌ {A = Scoped} (vs, ds) s → Reads reply (variables_checked site f t (var_trees (drop i xs)) vs ds) (Ok s)
    variables_end s past is = subst (λ (u : Rule Scoped). Reads reply u (Ok s)) (sym (at_drop_all (λ (xs : List Var). variables_checked site f t (var_trees xs) vs ds) xs i past)) (done_reads reply (vs, ds) s is)

  -- a further variable, where the place is known in an equal list
  pub variables_next : (xs ys : List Var) (i : ℕ) (vs vs' : List Local) (ds ds' : List DiagOf) (x : Var) (r : Result Scoped (Stop (Query JavaPred))) → ys ≡ xs → i < length ys → x ≡ get_or ys i x
      → Reads {U = Scoped} reply (variable_checked site f t (var_tree x) vs ds) (Ok (vs', ds')) → Reads reply (variables_checked site f t (var_trees (drop (i + 1) xs)) vs' ds') r → Reads reply (variables_checked site f t (var_trees (drop i xs)) vs ds) r
  variables_next xs ys i vs vs' ds ds' x r same below is g h =
      variables_step xs i vs ds x (subst (λ (ys : List Var). i < length ys) same below) (subst (λ (ys : List Var). x ≡ get_or ys i x) same is) vs' ds' r g h

pub ruleset variable_steps = (end_steps, variable_case)

pub ruleset variables_steps = (end_steps, variables_step, variables_stop, variables_end)
