-- The rule of each kind of statement.
use Rattle.std.proofs.Common.{◌≡◌, ℕ, Bool, true, List, Option, Some, None, Result, Ok, Err, length, refl, sym, ap, ◌∙◌, subst, Global}
use Rattle.std.specs.Prelude.{Vec, take}
use Rattle.std.specs.Option.{option_map}
use Rattle.std.specs.declared.boxed.Box.{Box}
use Rattle.sg_query.specs.declared.answer.Answer.{Answer}
use Rattle.sg_query.specs.declared.query.Query.{Query}
use Rattle.sg_reading.specs.declared.stop.Stop.{Stop}
use Rattle.sg_reading.specs.Reading.{done, and_then}
use Rattle.sg_reading.specs.Stop.{Reads}
use Rattle.sg_reading.proofs.Sequences.{and_then-and_then}
use Rattle.sg_reading.proofs.Steps.{done_reads, then_ok, then_err}
use Rattle.jv_diag.specs.Plain.{DiagOf}
use Rattle.jv_instance.specs.declared.datum.JavaDatum.{JavaDatum}
use Rattle.jv_instance.specs.declared.pred.JavaPred.{JavaPred}
use Rattle.jv_tree.specs.declared.expression.Expr.{Expr}
use Rattle.jv_tree.specs.declared.statement.Stmt.{Stmt}
use Rattle.jv_tree.specs.declared.statement.StmtKind.{StmtKind, Empty, Local as LocalKind, Effect, Return, Break, Continue}
use Rattle.jv_tree.specs.declared.statement.StmtKind.TheViews.{Block, If, While, Do, For}
use Rattle.jv_tree.specs.declared.type_ref.TypeRef.{TypeRef}
use Rattle.jv_tree.specs.declared.type_ref.Var.{Var}
use Rattle.jv_tree.specs.ExprTree.{ExprTree, expr_tree, expr_trees}
use Rattle.jv_tree.specs.StmtTree.{StmtTrees, BranchTrees, no_branches, stmt, stmt_tree, stmt_trees, stmt_kind_tree, branch_trees, optional_else, var_trees}
use Rattle.jv_tree.specs.TypeTree.{type_tree}
use Rattle.jv_tree.proofs.Rows.{stmts_made, branches_made}
use Rattle.jv_names.specs.Replies.{Rule}
use Rattle.jv_expr.specs.declared.local.Local.{Local}
use Rattle.jv_expr.specs.Branches.{branches_of}
use Rattle.jv_expr.specs.Site.{SiteOf}
use Rattle.jv_expr.specs.Statements.{Scoped, all_checked, branches_checked, checked, condition_checked, effect_checked, effects_checked, else_checked, in_loop, keeping, left, optional_condition, returned, variables_checked}
use Rattle.jv_expr.specs.Typed.{written_at}
use Rattle.jv_expr.proofs.StatementEnds.{end_steps}

-- what a `for` does behind its first statements
abbrev pub rounds : SiteOf → Option ExprTree → List Expr → Stmt → List Local → List DiagOf → Rule Scoped
rounds site z u y vs ds = and_then (optional_condition site vs z ds) (λ ds. and_then (effects_checked site vs (expr_trees u) ds) (λ ds. checked site true (stmt_tree y) vs ds))

module _ (reply : Query JavaPred → Option (Answer JavaDatum)) (site : SiteOf) (w : Bool) (vs : List Local) (ds : List DiagOf) (r : Result Scoped (Stop (Query JavaPred))) where
  child : (f : Stmt → Rule Scoped) (x y : Stmt) → y ≡ x → Reads reply (f y) r → Reads reply (f x) r
  child f x y is h = subst (λ (x : Stmt). Reads reply (f x) r) is h

  module _ (s : Stmt) where
    by_kind : (k : StmtKind) → s.kind ≡ k → Reads reply (checked site w (stmt s.at (stmt_kind_tree k)) vs ds) r → Reads reply (checked site w (stmt_tree s) vs ds) r
    by_kind k is h = subst (λ (k : StmtKind). Reads reply (checked site w (stmt s.at (stmt_kind_tree k)) vs ds) r) (sym is) h

    pub block_case : (v : Vec Stmt Global) → s.kind ≡ Block v → Reads reply (left vs (all_checked site w (stmt_trees v.items) vs ds)) r → Reads reply (checked site w (stmt_tree s) vs ds) r
    block_case v is h = by_kind (Block v) is (subst (λ (t : StmtTrees). Reads reply (left vs (all_checked site w t vs ds)) r) (sym (stmts_made v)) h)

    pub empty_case : s.kind ≡ Empty → Reads reply (done (vs, ds)) r → Reads reply (checked site w (stmt_tree s) vs ds) r
    empty_case is h = by_kind Empty is h

    pub local_case : (f : Bool) (t : TypeRef) (v : Vec Var Global) → s.kind ≡ LocalKind f t v → Reads reply (and_then (written_at site (type_tree t) ds) (λ w. variables_checked site f w.0 (var_trees v.items) vs w.1)) r → Reads reply (checked site w (stmt_tree s) vs ds) r
    local_case f t v is h = by_kind (LocalKind f t v) is h

    pub effect_case : (e : Expr) → s.kind ≡ Effect e → Reads reply (keeping vs (effect_checked site vs (expr_tree e) ds)) r → Reads reply (checked site w (stmt_tree s) vs ds) r
    effect_case e is h = by_kind (Effect e) is h

    pub if_case : (v : Vec (Expr × Stmt) Global) (z : Option (Box Stmt Global)) → s.kind ≡ If v z
        → Reads reply (and_then (branches_checked site w (branches_of (stmt_kind_tree s.kind)) vs ds) (λ s. else_checked site w (optional_else (option_map (λ (b : Box Stmt Global). b.value) z)) s.0 s.1)) r
        → Reads reply (checked site w (stmt_tree s) vs ds) r
    if_case v None is h = by_kind (If v None) is (subst (λ (k : StmtKind). Reads reply (and_then (branches_checked site w (branches_of (stmt_kind_tree k)) vs ds) (λ s. else_checked site w (optional_else None) s.0 s.1)) r) is h)
    if_case v (Some b) is h = by_kind (If v (Some b)) is (subst (λ (k : StmtKind). Reads reply (and_then (branches_checked site w (branches_of (stmt_kind_tree k)) vs ds) (λ s. else_checked site w (optional_else (Some b.value)) s.0 s.1)) r) is h)

    pub while_case : (e : Expr) (x : Box Stmt Global) (y : Stmt) → s.kind ≡ While e x → y ≡ x.value → Reads reply (and_then (condition_checked site vs (expr_tree e) ds) (λ ds. checked site true (stmt_tree y) vs ds)) r → Reads reply (checked site w (stmt_tree s) vs ds) r
    while_case e x y is here h = by_kind (While e x) is (child (λ y. and_then (condition_checked site vs (expr_tree e) ds) (λ ds. checked site true (stmt_tree y) vs ds)) x.value y here h)

    pub do_case : (x : Box Stmt Global) (e : Expr) (y : Stmt) → s.kind ≡ Do x e → y ≡ x.value → Reads reply (and_then (checked site true (stmt_tree y) vs ds) (λ t. keeping t.0 (condition_checked site t.0 (expr_tree e) t.1))) r → Reads reply (checked site w (stmt_tree s) vs ds) r
    do_case x e y is here h = by_kind (Do x e) is (child (λ y. and_then (checked site true (stmt_tree y) vs ds) (λ t. keeping t.0 (condition_checked site t.0 (expr_tree e) t.1))) x.value y here h)

    pub for_case : (v : Vec Stmt Global) (z : Option Expr) (u : Vec Expr Global) (x : Box Stmt Global) (y : Stmt) → s.kind ≡ For v z u x → y ≡ x.value
        → Reads reply (and_then (all_checked site w (stmt_trees v.items) vs ds) (λ t. left vs (rounds site (option_map expr_tree z) u.items y t.0 t.1))) r → Reads reply (checked site w (stmt_tree s) vs ds) r
    for_case v z u x y is here h =
        by_kind (For v z u x) is
        (subst (λ (t : StmtTrees). Reads reply (left vs (and_then (all_checked site w t vs ds) (λ t. rounds site (option_map expr_tree z) u.items x.value t.0 t.1))) r) (sym (stmts_made v))
        (child (λ y. left vs (and_then (all_checked site w (stmt_trees v.items) vs ds) (λ t. rounds site (option_map expr_tree z) u.items y t.0 t.1))) x.value y here
        (subst (λ (q : Rule Scoped). Reads reply q r) (sym (and_then-and_then (all_checked site w (stmt_trees v.items) vs ds) (λ t. rounds site (option_map expr_tree z) u.items y t.0 t.1) (λ s. done (take (length vs) s.0, s.1)))) h)))

    pub return_case : (z : Option Expr) → s.kind ≡ Return z → Reads reply (keeping vs (returned site s.at vs (option_map expr_tree z) ds)) r → Reads reply (checked site w (stmt_tree s) vs ds) r
    return_case z is h = by_kind (Return z) is h

    pub break_case : s.kind ≡ Break → Reads reply (done (vs, in_loop site s.at w ds)) r → Reads reply (checked site w (stmt_tree s) vs ds) r
    break_case is h = by_kind Break is h

    pub continue_case : s.kind ≡ Continue → Reads reply (done (vs, in_loop site s.at w ds)) r → Reads reply (checked site w (stmt_tree s) vs ds) r
    continue_case is h = by_kind Continue is h

    -- the branches
    pub branches_case : (v : Vec (Expr × Stmt) Global) (z : Option (Box Stmt Global)) → s.kind ≡ If v z → Reads reply (branches_checked site w (branch_trees v.items) vs ds) r → Reads reply (branches_checked site w (branches_of (stmt_kind_tree s.kind)) vs ds) r
    branches_case v z is h = subst (λ (k : StmtKind). Reads reply (branches_checked site w (branches_of (stmt_kind_tree k)) vs ds) r) (sym is) (subst (λ (t : BranchTrees). Reads reply (branches_checked site w t vs ds) r) (sym (branches_made v)) h)

    pub no_branches_case : (k : StmtKind) → s.kind ≡ k → no_branches ≡ branches_of (stmt_kind_tree k) → Reads reply (done (vs, ds)) r → Reads reply (branches_checked site w (branches_of (stmt_kind_tree s.kind)) vs ds) r
    no_branches_case k is none h = subst (λ (k : StmtKind). Reads reply (branches_checked site w (branches_of (stmt_kind_tree k)) vs ds) r) (sym is) (subst (λ (t : BranchTrees). Reads reply (branches_checked site w t vs ds) r) none h)

  -- behind the last `else`
  pub else_some : (z : Option (Box Stmt Global)) (x : Box Stmt Global) (y : Stmt) → z ≡ Some x → y ≡ x.value → Reads reply (checked site w (stmt_tree y) vs ds) r → Reads reply (else_checked site w (optional_else (option_map (λ (b : Box Stmt Global). b.value) z)) vs ds) r
  else_some z x y is here h = subst (λ (z : Option (Box Stmt Global)). Reads reply (else_checked site w (optional_else (option_map (λ (b : Box Stmt Global). b.value) z)) vs ds) r) (sym is) (child (λ y. checked site w (stmt_tree y) vs ds) x.value y here h)

  pub else_none : (z : Option (Box Stmt Global)) → z ≡ None → Reads reply (done (vs, ds)) r → Reads reply (else_checked site w (optional_else (option_map (λ (b : Box Stmt Global). b.value) z)) vs ds) r
  else_none z is h = subst (λ (z : Option (Box Stmt Global)). Reads reply (else_checked site w (optional_else (option_map (λ (b : Box Stmt Global). b.value) z)) vs ds) r) (sym is) h

-- a `for`, by what its parts come to
module _ (reply : Query JavaPred → Option (Answer JavaDatum)) (site : SiteOf) (w : Bool) (vs : List Local) (ds : List DiagOf) (s : Stmt) (v : Vec Stmt Global) (z : Option Expr) (u : Vec Expr Global) (x : Box Stmt Global) (is : s.kind ≡ For v z u x) where
  abbrev behind : Stmt → Scoped → Rule Scoped
  behind y t = left vs (rounds site (option_map expr_tree z) u.items y t.0 t.1)

  pub for_stops_first : (e : Stop (Query JavaPred)) → Reads {U = Scoped} reply (all_checked site w (stmt_trees v.items) vs ds) (Err e) → Reads {U = Scoped} reply (checked site w (stmt_tree s) vs ds) (Err e)
  for_stops_first e g = for_case reply site w vs ds (Err e) s v z u x x.value is refl (then_err reply (all_checked site w (stmt_trees v.items) vs ds) (behind x.value) e g)

  module _ (y : Stmt) (here : y ≡ x.value) (vs' : List Local) (ds' : List DiagOf) (first : Reads {U = Scoped} reply (all_checked site w (stmt_trees v.items) vs ds) (Ok (vs', ds'))) where
    pub for_stops_second : (e : Stop (Query JavaPred)) → Reads {U = Scoped} reply (rounds site (option_map expr_tree z) u.items y vs' ds') (Err e) → Reads {U = Scoped} reply (checked site w (stmt_tree s) vs ds) (Err e)
    for_stops_second e g =
        for_case reply site w vs ds (Err e) s v z u x y is here
        (then_ok reply (all_checked site w (stmt_trees v.items) vs ds) (behind y) (vs', ds') (Err e) first
        (then_err reply (rounds site (option_map expr_tree z) u.items y vs' ds') (λ s. done (take (length vs) s.0, s.1)) e g))

    pub for_ends : (vs'' ws : List Local) (ds'' : List DiagOf) (n : ℕ) → n ≡ length vs → ws ≡ take n vs'' → Reads {U = Scoped} reply (rounds site (option_map expr_tree z) u.items y vs' ds') (Ok (vs'', ds'')) → Reads {U = Scoped} reply (checked site w (stmt_tree s) vs ds) (Ok (ws, ds''))
    for_ends vs'' ws ds'' n count cut g =
        for_case reply site w vs ds (Ok (ws, ds'')) s v z u x y is here
        (then_ok reply (all_checked site w (stmt_trees v.items) vs ds) (behind y) (vs', ds') (Ok (ws, ds'')) first
        (then_ok reply (rounds site (option_map expr_tree z) u.items y vs' ds') (λ s. done (take (length vs) s.0, s.1)) (vs'', ds'') (Ok (ws, ds'')) g
        (done_reads reply (take (length vs) vs'', ds'') (ws, ds'') (λ j. ((ap (λ (n : ℕ). take n vs'') (sym count) ∙ sym cut) j, ds'')))))

pub ruleset statement_steps = (end_steps, block_case, empty_case, local_case, effect_case, if_case, while_case, do_case, for_case, return_case, break_case, continue_case)

pub ruleset else_steps = (end_steps, else_some, else_none)
