-- Arguments, sizes, operators and elements of lists, one after another.
use Rattle.std.proofs.Common.{◌≡◌, ℕ, ◌+◌, ◌<◌, ◌≤◌, List, [], ◌∷◌, ◌++◌, Option, Result, Ok, Err, length, get_or, drop, sym, subst}
use Rattle.std.proofs.lemmas.List.{at_drop_more, at_drop_all}
use Rattle.sg_query.specs.declared.answer.Answer.{Answer}
use Rattle.sg_query.specs.declared.query.Query.{Query}
use Rattle.sg_reading.specs.declared.stop.Stop.{Stop}
use Rattle.sg_reading.specs.Stop.{Reads}
use Rattle.sg_reading.proofs.Steps.{done_reads, then_ok, then_err}
use Rattle.jv_diag.specs.Plain.{DiagOf}
use Rattle.jv_instance.specs.declared.datum.JavaDatum.{JavaDatum}
use Rattle.jv_instance.specs.declared.pred.JavaPred.{JavaPred}
use Rattle.jv_instance.specs.declared.ty.Ty.{Ty}
use Rattle.jv_tree.specs.declared.expression.Expr.{Expr}
use Rattle.jv_tree.specs.declared.expression.Init.{Init}
use Rattle.jv_tree.specs.declared.expression.Operand.{Operand}
use Rattle.jv_tree.specs.ExprTree.{expr_tree, expr_trees, init_tree, init_trees, link_trees, operand_tree}
use Rattle.jv_names.specs.Replies.{Rule}
use Rattle.jv_expr.specs.declared.argument.Argument.{Argument}
use Rattle.jv_expr.specs.declared.local.Local.{Local}
use Rattle.jv_expr.specs.declared.value.Value.{Value}
use Rattle.jv_expr.specs.Checking.{Checking}
use Rattle.jv_expr.specs.Operators.{with_size}
use Rattle.jv_expr.specs.Site.{SiteOf}
use Rattle.jv_expr.specs.Typed.{arguments_typed, init_typed, inits_typed, link_typed, links_typed, sizes_typed, typed}
use Rattle.jv_expr.proofs.Sizes.{element_sizes}
use Rattle.jv_expr.proofs.StatementEnds.{end_steps}

module _ (reply : Query JavaPred → Option (Answer JavaDatum)) (site : SiteOf) (vs : List Local) where
  module _ (xs : List Expr) (i : ℕ) (ds : List DiagOf) where
    -- ---- arguments
    module _ (as' : List Argument) where
      module _ (x : Expr) (below : i < length xs) (is : x ≡ get_or xs i x) where
        argument_here : (r : Result (List Argument × List DiagOf) (Stop (Query JavaPred))) → Reads reply (arguments_typed site vs (expr_trees (x ∷ drop (i + 1) xs)) as' ds) r → Reads reply (arguments_typed site vs (expr_trees (drop i xs)) as' ds) r
        argument_here r h =
            subst (λ (u : Checking (List Argument)). Reads reply u r) (sym (at_drop_more (λ (xs : List Expr). arguments_typed site vs (expr_trees xs) as' ds) xs i x below))
            (subst (λ (y : Expr). Reads reply (arguments_typed site vs (expr_trees (y ∷ drop (i + 1) xs)) as' ds) r) is h)

        pub argument_step : (v : Value) (ds' : List DiagOf) (more : List Argument) (r : Result (List Argument × List DiagOf) (Stop (Query JavaPred))) → Reads {U = Value × List DiagOf} reply (typed site vs (expr_tree x) ds) (Ok (v, ds')) → more ≡ as' ++ record { at = x.at; ty = v.ty } ∷ []
            → Reads reply (arguments_typed site vs (expr_trees (drop (i + 1) xs)) more ds') r → Reads reply (arguments_typed site vs (expr_trees (drop i xs)) as' ds) r
        argument_step v ds' more r g k h =
            argument_here r (then_ok reply (typed site vs (expr_tree x) ds) (λ w. arguments_typed site vs (expr_trees (drop (i + 1) xs)) (as' ++ record { at = x.at; ty = w.0.ty } ∷ []) w.1) (v, ds') r g
            (subst (λ (more : List Argument). Reads reply (arguments_typed site vs (expr_trees (drop (i + 1) xs)) more ds') r) k h))

        pub argument_stop : (e : Stop (Query JavaPred)) → Reads {U = Value × List DiagOf} reply (typed site vs (expr_tree x) ds) (Err e) → Reads {U = List Argument × List DiagOf} reply (arguments_typed site vs (expr_trees (drop i xs)) as' ds) (Err e)
        argument_stop e g = argument_here (Err e) (then_err reply (typed site vs (expr_tree x) ds) (λ w. arguments_typed site vs (expr_trees (drop (i + 1) xs)) (as' ++ record { at = x.at; ty = w.0.ty } ∷ []) w.1) e g)

      pub argument_end : (s : List Argument × List DiagOf) → length xs ≤ i → ◌≡◌ {A = List Argument × List DiagOf} (as', ds) s → Reads reply (arguments_typed site vs (expr_trees (drop i xs)) as' ds) (Ok s)
      argument_end s past is = subst (λ (u : Checking (List Argument)). Reads reply u (Ok s)) (sym (at_drop_all (λ (xs : List Expr). arguments_typed site vs (expr_trees xs) as' ds) xs i past)) (done_reads reply (as', ds) s is)

    -- ---- sizes
    module _ (x : Expr) (below : i < length xs) (is : x ≡ get_or xs i x) where
      size_here : (r : Result (List DiagOf) (Stop (Query JavaPred))) → Reads reply (sizes_typed site vs (expr_trees (x ∷ drop (i + 1) xs)) ds) r → Reads reply (sizes_typed site vs (expr_trees (drop i xs)) ds) r
      size_here r h =
          subst (λ (u : Rule (List DiagOf)). Reads reply u r) (sym (at_drop_more (λ (xs : List Expr). sizes_typed site vs (expr_trees xs) ds) xs i x below))
          (subst (λ (y : Expr). Reads reply (sizes_typed site vs (expr_trees (y ∷ drop (i + 1) xs)) ds) r) is h)

      pub size_step : (v : Value) (ds' more : List DiagOf) (r : Result (List DiagOf) (Stop (Query JavaPred))) → Reads {U = Value × List DiagOf} reply (typed site vs (expr_tree x) ds) (Ok (v, ds')) → more ≡ with_size site x.at v.ty ds'
          → Reads reply (sizes_typed site vs (expr_trees (drop (i + 1) xs)) more) r → Reads reply (sizes_typed site vs (expr_trees (drop i xs)) ds) r
      size_step v ds' more r g k h =
          size_here r (then_ok reply (typed site vs (expr_tree x) ds) (λ w. sizes_typed site vs (expr_trees (drop (i + 1) xs)) (with_size site x.at w.0.ty w.1)) (v, ds') r g
          (subst (λ (more : List DiagOf). Reads reply (sizes_typed site vs (expr_trees (drop (i + 1) xs)) more) r) k h))

      pub size_stop : (e : Stop (Query JavaPred)) → Reads {U = Value × List DiagOf} reply (typed site vs (expr_tree x) ds) (Err e) → Reads {U = List DiagOf} reply (sizes_typed site vs (expr_trees (drop i xs)) ds) (Err e)
      size_stop e g = size_here (Err e) (then_err reply (typed site vs (expr_tree x) ds) (λ w. sizes_typed site vs (expr_trees (drop (i + 1) xs)) (with_size site x.at w.0.ty w.1)) e g)

    pub size_end : (s : List DiagOf) → length xs ≤ i → ds ≡ s → Reads reply (sizes_typed site vs (expr_trees (drop i xs)) ds) (Ok s)
    size_end s past is = subst (λ (u : Rule (List DiagOf)). Reads reply u (Ok s)) (sym (at_drop_all (λ (xs : List Expr). sizes_typed site vs (expr_trees xs) ds) xs i past)) (done_reads reply ds s is)

  -- ---- operators
  module _ (xs : List (ℕ × ℕ × Operand)) (i : ℕ) (t : Ty) (ds : List DiagOf) where
    module _ (x : ℕ × ℕ × Operand) (below : i < length xs) (is : x ≡ get_or xs i x) where
      link_here : (r : Result (Ty × List DiagOf) (Stop (Query JavaPred))) → Reads reply (links_typed site vs t (link_trees (x ∷ drop (i + 1) xs)) ds) r → Reads reply (links_typed site vs t (link_trees (drop i xs)) ds) r
      link_here r h =
          subst (λ (u : Checking Ty). Reads reply u r) (sym (at_drop_more (λ (xs : List (ℕ × ℕ × Operand)). links_typed site vs t (link_trees xs) ds) xs i x below))
          (subst (λ (y : ℕ × ℕ × Operand). Reads reply (links_typed site vs t (link_trees (y ∷ drop (i + 1) xs)) ds) r) is h)

      pub link_step : (u : Ty) (ds' : List DiagOf) (r : Result (Ty × List DiagOf) (Stop (Query JavaPred))) → Reads {U = Ty × List DiagOf} reply (link_typed site vs t x.0 x.1 (operand_tree x.2) ds) (Ok (u, ds')) → Reads reply (links_typed site vs u (link_trees (drop (i + 1) xs)) ds') r
          → Reads reply (links_typed site vs t (link_trees (drop i xs)) ds) r
      link_step u ds' r g h = link_here r (then_ok reply (link_typed site vs t x.0 x.1 (operand_tree x.2) ds) (λ u. links_typed site vs u.0 (link_trees (drop (i + 1) xs)) u.1) (u, ds') r g h)

      pub link_stop : (e : Stop (Query JavaPred)) → Reads {U = Ty × List DiagOf} reply (link_typed site vs t x.0 x.1 (operand_tree x.2) ds) (Err e) → Reads {U = Ty × List DiagOf} reply (links_typed site vs t (link_trees (drop i xs)) ds) (Err e)
      link_stop e g = link_here (Err e) (then_err reply (link_typed site vs t x.0 x.1 (operand_tree x.2) ds) (λ u. links_typed site vs u.0 (link_trees (drop (i + 1) xs)) u.1) e g)

    pub link_end : (s : Ty × List DiagOf) → length xs ≤ i → ◌≡◌ {A = Ty × List DiagOf} (t, ds) s → Reads reply (links_typed site vs t (link_trees (drop i xs)) ds) (Ok s)
    link_end s past is = subst (λ (u : Checking Ty). Reads reply u (Ok s)) (sym (at_drop_all (λ (xs : List (ℕ × ℕ × Operand)). links_typed site vs t (link_trees xs) ds) xs i past)) (done_reads reply (t, ds) s is)

  -- ---- elements
  module _ (xs : List Init) (i : ℕ) (t : Ty) (ds : List DiagOf) where
    module _ (x : Init) (below : i < length xs) (is : x ≡ get_or xs i x) where
      init_here : (r : Result (List DiagOf) (Stop (Query JavaPred))) → Reads reply (inits_typed site vs t (init_trees (x ∷ drop (i + 1) xs)) ds) r → Reads reply (inits_typed site vs t (init_trees (drop i xs)) ds) r
      init_here r h =
          subst (λ (u : Rule (List DiagOf)). Reads reply u r) (sym (at_drop_more (λ (xs : List Init). inits_typed site vs t (init_trees xs) ds) xs i x below))
          (subst (λ (y : Init). Reads reply (inits_typed site vs t (init_trees (y ∷ drop (i + 1) xs)) ds) r) is h)

      pub init_step : (ds' : List DiagOf) (r : Result (List DiagOf) (Stop (Query JavaPred))) → Reads {U = List DiagOf} reply (init_typed site vs t (init_tree x) ds) (Ok ds') → Reads reply (inits_typed site vs t (init_trees (drop (i + 1) xs)) ds') r → Reads reply (inits_typed site vs t (init_trees (drop i xs)) ds) r
      init_step ds' r g h = init_here r (then_ok reply (init_typed site vs t (init_tree x) ds) (λ ds. inits_typed site vs t (init_trees (drop (i + 1) xs)) ds) ds' r g h)

      pub init_stop : (e : Stop (Query JavaPred)) → Reads {U = List DiagOf} reply (init_typed site vs t (init_tree x) ds) (Err e) → Reads {U = List DiagOf} reply (inits_typed site vs t (init_trees (drop i xs)) ds) (Err e)
      init_stop e g = init_here (Err e) (then_err reply (init_typed site vs t (init_tree x) ds) (λ ds. inits_typed site vs t (init_trees (drop (i + 1) xs)) ds) e g)

    pub init_end : (s : List DiagOf) → length xs ≤ i → ds ≡ s → Reads reply (inits_typed site vs t (init_trees (drop i xs)) ds) (Ok s)
    init_end s past is = subst (λ (u : Rule (List DiagOf)). Reads reply u (Ok s)) (sym (at_drop_all (λ (xs : List Init). inits_typed site vs t (init_trees xs) ds) xs i past)) (done_reads reply ds s is)

pub ruleset expression_list_steps = (end_steps, argument_step, argument_stop, argument_end, size_step, size_stop, size_end, link_step, link_stop, link_end, init_step, init_stop, init_end, element_sizes)
