-- Statements, and the conditions of an `if` with what they guard, one after another.
use Rattle.std.proofs.Common.{◌≡◌, ℕ, ◌+◌, ◌<◌, ◌≤◌, Bool, List, ◌∷◌, Option, Result, Ok, Err, length, get_or, drop, sym, subst}
use Rattle.std.proofs.lemmas.List.{at_drop_more, at_drop_all}
use Rattle.sg_query.specs.declared.answer.Answer.{Answer}
use Rattle.sg_query.specs.declared.query.Query.{Query}
use Rattle.sg_reading.specs.declared.stop.Stop.{Stop}
use Rattle.sg_reading.specs.Reading.{and_then}
use Rattle.sg_reading.specs.Stop.{Reads}
use Rattle.sg_reading.proofs.Steps.{done_reads, then_ok, then_err}
use Rattle.jv_diag.specs.Plain.{DiagOf}
use Rattle.jv_instance.specs.declared.datum.JavaDatum.{JavaDatum}
use Rattle.jv_instance.specs.declared.pred.JavaPred.{JavaPred}
use Rattle.jv_tree.specs.declared.expression.Expr.{Expr}
use Rattle.jv_tree.specs.declared.statement.Stmt.{Stmt}
use Rattle.jv_tree.specs.ExprTree.{expr_tree}
use Rattle.jv_tree.specs.StmtTree.{stmt_tree, stmt_trees, branch_trees}
use Rattle.jv_names.specs.Replies.{Rule}
use Rattle.jv_expr.specs.declared.local.Local.{Local}
use Rattle.jv_expr.specs.Site.{SiteOf}
use Rattle.jv_expr.specs.Statements.{Scoped, all_checked, branches_checked, checked, condition_checked}
use Rattle.jv_expr.proofs.StatementEnds.{end_steps}
use Rattle.jv_expr.proofs.StatementCases.{branches_case, no_branches_case}

module _ (reply : Query JavaPred → Option (Answer JavaDatum)) (site : SiteOf) (w : Bool) where
  module _ (xs : List Stmt) (i : ℕ) (vs : List Local) (ds : List DiagOf) where
    module _ (x : Stmt) (below : i < length xs) (is : x ≡ get_or xs i x) where
      here : (r : Result Scoped (Stop (Query JavaPred))) → Reads reply (all_checked site w (stmt_trees (x ∷ drop (i + 1) xs)) vs ds) r → Reads reply (all_checked site w (stmt_trees (drop i xs)) vs ds) r
      here r h =
          subst (λ (u : Rule Scoped). Reads reply u r) (sym (at_drop_more (λ (xs : List Stmt). all_checked site w (stmt_trees xs) vs ds) xs i x below))
          (subst (λ (y : Stmt). Reads reply (all_checked site w (stmt_trees (y ∷ drop (i + 1) xs)) vs ds) r) is h)

      pub all_step : (vs' : List Local) (ds' : List DiagOf) (r : Result Scoped (Stop (Query JavaPred))) → Reads {U = Scoped} reply (checked site w (stmt_tree x) vs ds) (Ok (vs', ds'))
          → Reads reply (all_checked site w (stmt_trees (drop (i + 1) xs)) vs' ds') r → Reads reply (all_checked site w (stmt_trees (drop i xs)) vs ds) r
      all_step vs' ds' r g h = here r (then_ok reply (checked site w (stmt_tree x) vs ds) (λ s. all_checked site w (stmt_trees (drop (i + 1) xs)) s.0 s.1) (vs', ds') r g h)

      pub all_stop : (e : Stop (Query JavaPred)) → Reads {U = Scoped} reply (checked site w (stmt_tree x) vs ds) (Err e) → Reads {U = Scoped} reply (all_checked site w (stmt_trees (drop i xs)) vs ds) (Err e)
      all_stop e g = here (Err e) (then_err reply (checked site w (stmt_tree x) vs ds) (λ s. all_checked site w (stmt_trees (drop (i + 1) xs)) s.0 s.1) e g)

    -- the same, where the place is known in an equal list
    pub all_halt : (ys : List Stmt) (x : Stmt) (e : Stop (Query JavaPred)) → ys ≡ xs → i < length ys → x ≡ get_or ys i x → Reads {U = Scoped} reply (checked site w (stmt_tree x) vs ds) (Err e) → Reads {U = Scoped} reply (all_checked site w (stmt_trees (drop i xs)) vs ds) (Err e)
    all_halt ys x e same below is g = all_stop x (subst (λ (ys : List Stmt). i < length ys) same below) (subst (λ (ys : List Stmt). x ≡ get_or ys i x) same is) e g

    pub all_end : (s : Scoped) → length xs ≤ i → ◌≡◌ {A = Scoped} (vs, ds) s → Reads reply (all_checked site w (stmt_trees (drop i xs)) vs ds) (Ok s)
    all_end s past is = subst (λ (u : Rule Scoped). Reads reply u (Ok s)) (sym (at_drop_all (λ (xs : List Stmt). all_checked site w (stmt_trees xs) vs ds) xs i past)) (done_reads reply (vs, ds) s is)

  module _ (xs : List (Expr × Stmt)) (i : ℕ) (vs : List Local) (ds : List DiagOf) where
    module _ (x : Expr × Stmt) (below : i < length xs) (is : x ≡ get_or xs i x) where
      branch_here : (r : Result Scoped (Stop (Query JavaPred))) → Reads reply (branches_checked site w (branch_trees (x ∷ drop (i + 1) xs)) vs ds) r → Reads reply (branches_checked site w (branch_trees (drop i xs)) vs ds) r
      branch_here r h =
          subst (λ (u : Rule Scoped). Reads reply u r) (sym (at_drop_more (λ (xs : List (Expr × Stmt)). branches_checked site w (branch_trees xs) vs ds) xs i x below))
          (subst (λ (y : Expr × Stmt). Reads reply (branches_checked site w (branch_trees (y ∷ drop (i + 1) xs)) vs ds) r) is h)

      -- behind the condition
      abbrev guarded : List DiagOf → Rule Scoped
      guarded ds = and_then (checked site w (stmt_tree x.1) vs ds) (λ t. branches_checked site w (branch_trees (drop (i + 1) xs)) t.0 t.1)

      pub condition_stop : (e : Stop (Query JavaPred)) → Reads {U = List DiagOf} reply (condition_checked site vs (expr_tree x.0) ds) (Err e) → Reads {U = Scoped} reply (branches_checked site w (branch_trees (drop i xs)) vs ds) (Err e)
      condition_stop e g = branch_here (Err e) (then_err reply (condition_checked site vs (expr_tree x.0) ds) guarded e g)

      module _ (ds' : List DiagOf) (c : Reads {U = List DiagOf} reply (condition_checked site vs (expr_tree x.0) ds) (Ok ds')) where
        pub branches_step : (vs'' : List Local) (ds'' : List DiagOf) (r : Result Scoped (Stop (Query JavaPred))) → Reads {U = Scoped} reply (checked site w (stmt_tree x.1) vs ds') (Ok (vs'', ds''))
            → Reads reply (branches_checked site w (branch_trees (drop (i + 1) xs)) vs'' ds'') r → Reads reply (branches_checked site w (branch_trees (drop i xs)) vs ds) r
        branches_step vs'' ds'' r g h = branch_here r (then_ok reply (condition_checked site vs (expr_tree x.0) ds) guarded ds' r c (then_ok reply (checked site w (stmt_tree x.1) vs ds') (λ t. branches_checked site w (branch_trees (drop (i + 1) xs)) t.0 t.1) (vs'', ds'') r g h))

        pub guarded_stop : (e : Stop (Query JavaPred)) → Reads {U = Scoped} reply (checked site w (stmt_tree x.1) vs ds') (Err e) → Reads {U = Scoped} reply (branches_checked site w (branch_trees (drop i xs)) vs ds) (Err e)
        guarded_stop e g = branch_here (Err e) (then_ok reply (condition_checked site vs (expr_tree x.0) ds) guarded ds' (Err e) c (then_err reply (checked site w (stmt_tree x.1) vs ds') (λ t. branches_checked site w (branch_trees (drop (i + 1) xs)) t.0 t.1) e g))

    -- the same, where the condition is said to stand among equal variables
    pub branches_next : (x : Expr × Stmt) (us : List Local) (a : Expr) (b : Stmt) (ds' : List DiagOf) (vs'' : List Local) (ds'' : List DiagOf) (r : Result Scoped (Stop (Query JavaPred))) → i < length xs → x ≡ get_or xs i x → us ≡ vs → a ≡ x.0 → b ≡ x.1
        → Reads {U = List DiagOf} reply (condition_checked site us (expr_tree a) ds) (Ok ds') → Reads {U = Scoped} reply (checked site w (stmt_tree b) vs ds') (Ok (vs'', ds''))
        → Reads reply (branches_checked site w (branch_trees (drop (i + 1) xs)) vs'' ds'') r → Reads reply (branches_checked site w (branch_trees (drop i xs)) vs ds) r
    branches_next x us a b ds' vs'' ds'' r below is same left right c g h =
        branches_step x below is ds' (subst (λ (us : List Local). Reads {U = List DiagOf} reply (condition_checked site us (expr_tree x.0) ds) (Ok ds')) same (subst (λ (a : Expr). Reads {U = List DiagOf} reply (condition_checked site us (expr_tree a) ds) (Ok ds')) left c))
        vs'' ds'' r (subst (λ (b : Stmt). Reads {U = Scoped} reply (checked site w (stmt_tree b) vs ds') (Ok (vs'', ds''))) right g) h

    -- and where the condition stops
    pub branches_halt : (x : Expr × Stmt) (us : List Local) (a : Expr) (e : Stop (Query JavaPred)) → i < length xs → x ≡ get_or xs i x → us ≡ vs → a ≡ x.0 → Reads {U = List DiagOf} reply (condition_checked site us (expr_tree a) ds) (Err e)
        → Reads {U = Scoped} reply (branches_checked site w (branch_trees (drop i xs)) vs ds) (Err e)
    branches_halt x us a e below is same left g =
        condition_stop x below is e (subst (λ (us : List Local). Reads {U = List DiagOf} reply (condition_checked site us (expr_tree x.0) ds) (Err e)) same (subst (λ (a : Expr). Reads {U = List DiagOf} reply (condition_checked site us (expr_tree a) ds) (Err e)) left g))

    pub branches_end : (s : Scoped) → length xs ≤ i → ◌≡◌ {A = Scoped} (vs, ds) s → Reads reply (branches_checked site w (branch_trees (drop i xs)) vs ds) (Ok s)
    branches_end s past is = subst (λ (u : Rule Scoped). Reads reply u (Ok s)) (sym (at_drop_all (λ (xs : List (Expr × Stmt)). branches_checked site w (branch_trees xs) vs ds) xs i past)) (done_reads reply (vs, ds) s is)

pub ruleset all_steps = (end_steps, all_step, all_stop, all_end)

pub ruleset branch_steps = (end_steps, branches_case, no_branches_case, branches_step, condition_stop, guarded_stop, branches_end)
