-- Statements ask queries of the layout, and declare local variables with types of it.
use Rattle.std.proofs.Common.{◌&&◌, ℕ, Bool, true, List, [], ◌∷◌, length, take, All, Option, Some, None, is_some}
use Rattle.std.proofs.lemmas.List.Elements.{All-head, All-tail, All-push, All-take}
use Rattle.sg_reading.specs.Reading.{done}
use Rattle.jv_diag.specs.Plain.{DiagOf}
use Rattle.jv_instance.specs.declared.ty.Ty.{Ty}
use Rattle.jv_layout.specs.Folder.{LayoutOf}
use Rattle.jv_tree.specs.declared.name.Ident.{Ident}
use Rattle.jv_tree.specs.ExprTree.{ExprTree, ExprTrees, no_exprs, exprs, InitTree}
use Rattle.jv_tree.specs.StmtTree.{VarTree, StmtTree, stmt, block, empty, local, effect, if_else, while_loop, do_loop, for_loop, return, break, continue, StmtTrees, no_stmts, stmts, BranchTrees, no_branches, branches, ElseTree, no_else, otherwise}
use Rattle.jv_tree.specs.Numbered.{AreNumberedBranches, AreNumberedExprs, AreNumberedStmts, IsNumberedCondition, IsNumberedElse, IsNumberedExpr, IsNumberedOption, IsNumberedStmt, IsNumberedVar}
use Rattle.jv_names.specs.Bounds.{AsksIn, IsTyIn}
use Rattle.jv_names.specs.Replies.{Rule}
use Rattle.jv_expr.specs.declared.local.Local.{Local}
use Rattle.jv_expr.specs.Bounds.{IsAnything, IsSiteIn}
use Rattle.jv_expr.specs.Operators.{with_condition}
use Rattle.jv_expr.specs.Site.{SiteOf, with_fault, with_fault_if}
use Rattle.jv_expr.specs.Statements.{Scoped, all_checked, branches_checked, checked, condition_checked, declared, effect_checked, effects_checked, else_checked, in_loop, keeping, left, optional_condition, optional_init, returned, value_returned, variable_checked, variables_checked}
use Rattle.jv_expr.specs.Typed.{start, typed, written_at}
use Rattle.jv_expr.proofs.AskedConversions.{assigned_asks}
use Rattle.jv_expr.proofs.AskedFields.{IsFirstValueIn}
use Rattle.jv_expr.proofs.AskedCalls.{IsFirstTyIn}
use Rattle.jv_expr.proofs.AskedSteps.{done_asks, then_asks}
use Rattle.jv_expr.proofs.AskedTyped.{init_asks, typed_asks, written_at_asks}
use Rattle.jv_expr.proofs.AskedVariables.{AreLocalsIn, IsLocalIn}

-- the local variables in scope have types of the layout
abbrev pub IsScopedIn : LayoutOf → Scoped → Type 0
IsScopedIn l s = AreLocalsIn l s.0

module _ (site : SiteOf) where
  pub declared_in : (i : Ident) (t : Ty) (sealed : Bool) (vs : List Local) (ds : List DiagOf) → IsTyIn site.layout t → AreLocalsIn site.layout vs → IsScopedIn site.layout (declared site i t sealed vs ds)
  declared_in i t sealed vs ds h k = All-push (IsLocalIn site.layout) vs (record { name = i.id; ty = t; sealed = sealed }) k h

module _ (site : SiteOf) (count : ℕ) (is : IsSiteIn count site) where
  abbrev L : LayoutOf
  L = site.layout

  abbrev S : Scoped → Type 0
  S = IsScopedIn L

  -- ---- expressions in statements

  module _ (vs : List Local) (h : AreLocalsIn L vs) where
    effect_asks : (x : ExprTree) (ds : List DiagOf) → IsNumberedExpr count x → AsksIn L count IsAnything (effect_checked site vs x ds)
    effect_asks x ds n = then_asks L count (IsFirstValueIn L) IsAnything (typed site vs x ds) (λ v. done v.1) (typed_asks site count is vs h x ds n) (λ v e. done_asks L count IsAnything v.1 tt)

    effects_ask : (xs : ExprTrees) (ds : List DiagOf) → AreNumberedExprs count xs → AsksIn L count IsAnything (effects_checked site vs xs ds)
    effects_ask no_exprs ds n = done_asks L count IsAnything ds tt
    effects_ask (exprs x xs) ds n =
        then_asks L count IsAnything IsAnything (effect_checked site vs x ds) (λ ds. effects_checked site vs xs ds) (effect_asks x ds n.0) (λ ds e. effects_ask xs ds n.1)

    condition_asks : (x : ExprTree) (ds : List DiagOf) → IsNumberedExpr count x → AsksIn L count IsAnything (condition_checked site vs x ds)
    condition_asks x ds n =
        then_asks L count (IsFirstValueIn L) IsAnything (typed site vs x ds) (λ v. done (with_condition site (start x) v.0.ty v.1)) (typed_asks site count is vs h x ds n)
        (λ v e. done_asks L count IsAnything (with_condition site (start x) v.0.ty v.1) tt)

    optional_asks : (x : Option ExprTree) (ds : List DiagOf) → IsNumberedCondition count x → AsksIn L count IsAnything (optional_condition site vs x ds)
    optional_asks None ds n = done_asks L count IsAnything ds tt
    optional_asks (Some x) ds n = condition_asks x ds n

    value_returned_asks : (at : ℕ) (o : Option Ty) (place : ℕ) (t : Ty) (ds : List DiagOf) → IsTyIn L t → AsksIn L count IsAnything (value_returned site at o place t ds)
    value_returned_asks at None place t ds k = done_asks L count IsAnything (with_fault site at 53 [] ds) tt
    value_returned_asks at (Some r) place t ds k = assigned_asks site count place t r ds k

    returned_asks : (at : ℕ) (x : Option ExprTree) (ds : List DiagOf) → IsNumberedCondition count x → AsksIn L count IsAnything (returned site at vs x ds)
    returned_asks at None ds n = done_asks L count IsAnything (with_fault_if (is_some site.result) site at 53 [] ds) tt
    returned_asks at (Some x) ds n =
        then_asks L count (IsFirstValueIn L) IsAnything (typed site vs x ds) (λ v. value_returned site at site.result (start x) v.0.ty v.1) (typed_asks site count is vs h x ds n)
        (λ v e. value_returned_asks at site.result (start x) v.0.ty v.1 e)

    optional_init_asks : (t : Ty) (x : Option InitTree) (ds : List DiagOf) → IsNumberedOption count x → AsksIn L count IsAnything (optional_init site vs t x ds)
    optional_init_asks t None ds n = done_asks L count IsAnything ds tt
    optional_init_asks t (Some x) ds n = init_asks site count is vs h t x ds n

    left_asks : (r : Rule Scoped) → AsksIn L count S r → AsksIn L count S (left vs r)
    left_asks r k = then_asks L count S S r (λ s. done (take (length vs) s.0, s.1)) k (λ s e. done_asks L count S (take (length vs) s.0, s.1) (All-take (IsLocalIn L) (length vs) s.0 e))

    keeping_asks : (r : Rule (List DiagOf)) → AsksIn L count IsAnything r → AsksIn L count S (keeping vs r)
    keeping_asks r k = then_asks L count IsAnything S r (λ ds. done (vs, ds)) k (λ ds e. done_asks L count S (vs, ds) h)

  -- ---- local variables

  variable_asks : (is_final : Bool) (t : Ty) (v : VarTree) (vs : List Local) (ds : List DiagOf) → IsTyIn L t → AreLocalsIn L vs → IsNumberedVar count v → AsksIn L count S (variable_checked site is_final t v vs ds)
  variable_asks is_final t v vs ds k h n =
      let d : Scoped = declared site v.name t (is_final && is_some v.init) vs ds in
      let e : S d = declared_in site v.name t (is_final && is_some v.init) vs ds k h in
      then_asks L count IsAnything S (optional_init site d.0 t v.init d.1) (λ ds'. done (d.0, ds')) (optional_init_asks d.0 e t v.init d.1 n.1) (λ ds' u. done_asks L count S (d.0, ds') e)

  variables_ask : (is_final : Bool) (t : Ty) (xs : List VarTree) (vs : List Local) (ds : List DiagOf) → IsTyIn L t → AreLocalsIn L vs → All (IsNumberedVar count) xs → AsksIn L count S (variables_checked site is_final t xs vs ds)
  variables_ask is_final t [] vs ds k h n = done_asks L count S (vs, ds) h
  variables_ask is_final t (x ∷ xs) vs ds k h n =
      then_asks L count S S (variable_checked site is_final t x vs ds) (λ s. variables_checked site is_final t xs s.0 s.1) (variable_asks is_final t x vs ds k h (All-head (IsNumberedVar count) x xs n))
      (λ s e. variables_ask is_final t xs s.0 s.1 k e (All-tail (IsNumberedVar count) x xs n))

  -- ---- statements

  mutual
    pub checked_asks : (loop : Bool) (x : StmtTree) (vs : List Local) (ds : List DiagOf) → AreLocalsIn L vs → IsNumberedStmt count x → AsksIn L count S (checked site loop x vs ds)
    checked_asks loop (stmt at (block xs)) vs ds h n = left_asks vs h (all_checked site loop xs vs ds) (all_asks loop xs vs ds h n)
    checked_asks loop (stmt at empty) vs ds h n = done_asks L count S (vs, ds) h
    checked_asks loop (stmt at (local f t xs)) vs ds h n =
        then_asks L count (IsFirstTyIn L) S (written_at site t ds) _ (written_at_asks site count is t ds n.0) (λ w e. variables_ask f w.0 xs vs w.1 e h n.1)
    checked_asks loop (stmt at (effect x)) vs ds h n = keeping_asks vs h (effect_checked site vs x ds) (effect_asks vs h x ds n)
    checked_asks loop (stmt at (if_else xs e)) vs ds h n =
        then_asks L count S S (branches_checked site loop xs vs ds) _ (branches_ask loop xs vs ds h n.0) (λ s k. else_asks loop e s.0 s.1 k n.1)
    checked_asks loop (stmt at (while_loop x s)) vs ds h n =
        then_asks L count IsAnything S (condition_checked site vs x ds) _ (condition_asks vs h x ds n.0) (λ ds e. checked_asks true s vs ds h n.1)
    checked_asks loop (stmt at (do_loop s x)) vs ds h n =
        then_asks L count S S (checked site true s vs ds) _ (checked_asks true s vs ds h n.0) (λ t e. keeping_asks t.0 e (condition_checked site t.0 x t.1) (condition_asks t.0 e x t.1 n.1))
    checked_asks loop (stmt at (for_loop xs x ys s)) vs ds h n =
        left_asks vs h _
        (then_asks L count S S (all_checked site loop xs vs ds) _ (all_asks loop xs vs ds h n.0)
        (λ t e. then_asks L count IsAnything S (optional_condition site t.0 x t.1) _ (optional_asks t.0 e x t.1 n.1)
        (λ ds u. then_asks L count IsAnything S (effects_checked site t.0 ys ds) _ (effects_ask t.0 e ys ds n.2) (λ ds u. checked_asks true s t.0 ds e n.3))))
    checked_asks loop (stmt at (return x)) vs ds h n = keeping_asks vs h (returned site at vs x ds) (returned_asks vs h at x ds n)
    checked_asks loop (stmt at break) vs ds h n = done_asks L count S (vs, in_loop site at loop ds) h
    checked_asks loop (stmt at continue) vs ds h n = done_asks L count S (vs, in_loop site at loop ds) h

    all_asks : (loop : Bool) (xs : StmtTrees) (vs : List Local) (ds : List DiagOf) → AreLocalsIn L vs → AreNumberedStmts count xs → AsksIn L count S (all_checked site loop xs vs ds)
    all_asks loop no_stmts vs ds h n = done_asks L count S (vs, ds) h
    all_asks loop (stmts x xs) vs ds h n = then_asks L count S S (checked site loop x vs ds) _ (checked_asks loop x vs ds h n.0) (λ s e. all_asks loop xs s.0 s.1 e n.1)

    branches_ask : (loop : Bool) (xs : BranchTrees) (vs : List Local) (ds : List DiagOf) → AreLocalsIn L vs → AreNumberedBranches count xs → AsksIn L count S (branches_checked site loop xs vs ds)
    branches_ask loop no_branches vs ds h n = done_asks L count S (vs, ds) h
    branches_ask loop (branches x s xs) vs ds h n =
        then_asks L count IsAnything S (condition_checked site vs x ds) _ (condition_asks vs h x ds n.0)
        (λ ds u. then_asks L count S S (checked site loop s vs ds) _ (checked_asks loop s vs ds h n.1) (λ t e. branches_ask loop xs t.0 t.1 e n.2))

    else_asks : (loop : Bool) (x : ElseTree) (vs : List Local) (ds : List DiagOf) → AreLocalsIn L vs → IsNumberedElse count x → AsksIn L count S (else_checked site loop x vs ds)
    else_asks loop no_else vs ds h n = done_asks L count S (vs, ds) h
    else_asks loop (otherwise s) vs ds h n = checked_asks loop s vs ds h n
