-- The statements at the top of a body, one after another.
use Rattle.std.proofs.Common.{◌≡◌, ℕ, zero, suc, false, ◌+◌, ◌<◌, ◌≤◌, List, [], ◌∷◌, ◌++◌, Option, Ok, Err, length, get_or, refl, sym, ap, ◌∙◌, subst, arith, add-one}
use Rattle.sg_query.specs.declared.answer.Answer.{Answer}
use Rattle.sg_query.specs.declared.query.Query.{Query}
use Rattle.sg_reading.specs.declared.stop.Stop.{Stop}
use Rattle.sg_reading.specs.Progress.{HasResidual}
use Rattle.sg_reading.specs.Reading.{done, and_then}
use Rattle.sg_reading.specs.Stop.{Reads}
use Rattle.sg_reading.proofs.Progress.{residual_behind, residual_here, residual_on, residual_reads}
use Rattle.sg_reading.proofs.Sequences.{and_then-and_then}
use Rattle.sg_reading.proofs.Steps.{done_reads, then_err, then_ok}
use Rattle.jv_diag.specs.Plain.{DiagOf}
use Rattle.jv_instance.specs.declared.datum.JavaDatum.{JavaDatum}
use Rattle.jv_instance.specs.declared.pred.JavaPred.{JavaPred}
use Rattle.jv_instance.specs.declared.ty.Ty.{Ty}
use Rattle.jv_tree.specs.declared.statement.Stmt.{Stmt}
use Rattle.jv_tree.specs.StmtTree.{StmtTree, StmtTrees, no_stmts, stmts, stmt_tree, stmt_trees}
use Rattle.jv_names.specs.Replies.{Rule}
use Rattle.jv_expr.specs.declared.begun_body.BegunBody.{BegunBody}
use Rattle.jv_expr.specs.declared.local.Local.{Local}
use Rattle.jv_expr.specs.Bodies.{statements_checked}
use Rattle.jv_expr.specs.Progress.{IsBegun, behind, statements_left, top_checked}
use Rattle.jv_expr.specs.Site.{SiteOf}
use Rattle.jv_expr.specs.Statements.{Scoped, checked}
use Rattle.jv_expr.proofs.Locals.{adds_cut}
use Rattle.jv_expr.proofs.StatementEnds.{end_steps}

-- ---- the statements behind the first so many

behind_here : (xs : List Stmt) (n : ℕ) (x : Stmt) → n < length xs → behind n (stmt_trees xs) ≡ stmts (stmt_tree (get_or xs n x)) (behind (suc n) (stmt_trees xs))
behind_here [] n x h = absurd (omega (arith, h))
behind_here (y ∷ ys) zero x h = refl
behind_here (y ∷ ys) (suc n) x h = behind_here ys n x (omega (arith, h))

behind_end : (xs : List Stmt) (n : ℕ) → length xs ≤ n → behind n (stmt_trees xs) ≡ no_stmts
behind_end [] zero h = refl
behind_end [] (suc n) h = refl
behind_end (y ∷ ys) zero h = absurd (omega (arith, h))
behind_end (y ∷ ys) (suc n) h = behind_end ys n (omega (arith, h))

module _ (reply : Query JavaPred → Option (Answer JavaDatum)) (site : SiteOf) where
  -- the first of some statements and the others
  first_of : (x : StmtTree) (xs : StmtTrees) (s : Scoped) → and_then (top_checked site x s) (λ t. statements_checked site xs t) ≡ statements_checked site (stmts x xs) s
  first_of x xs s = and_then-and_then (checked site false x s.0 []) (λ t. done (t.0, s.1 ++ t.1)) (λ t. statements_checked site xs t)

  -- one statement
  module _ (x : StmtTree) (vs : List Local) (ds : List DiagOf) where
    pub top_ok : (vs' : List Local) (own all : List DiagOf) → Reads {U = Scoped} reply (checked site false x vs []) (Ok (vs', own)) → all ≡ ds ++ own → Reads {U = Scoped} reply (top_checked site x (vs, ds)) (Ok (vs', all))
    top_ok vs' own all g e =
        then_ok reply (checked site false x vs []) (λ t. done (t.0, ds ++ t.1)) (vs', own) (Ok (vs', all)) g (done_reads reply (vs', ds ++ own) (vs', all) (λ i. (vs', sym e i)))

    pub top_err : (e : Stop (Query JavaPred)) → Reads {U = Scoped} reply (checked site false x vs []) (Err e) → Reads {U = Scoped} reply (top_checked site x (vs, ds)) (Err e)
    top_err e g = then_err reply (checked site false x vs []) (λ t. done (t.0, ds ++ t.1)) e g

  module _ (xs : List Stmt) (b : BegunBody) where
    abbrev rest : BegunBody → Rule (List DiagOf)
    rest c = statements_left site (stmt_trees xs) c

    module _ (x : Stmt) (below : b.count < length xs) (is : x ≡ get_or xs b.count x) where
      here : and_then (top_checked site (stmt_tree x) (b.locals.items, b.diags)) (λ t. statements_checked site (behind (b.count + 1) (stmt_trees xs)) t) ≡ rest b
      here =
          first_of (stmt_tree x) (behind (b.count + 1) (stmt_trees xs)) (b.locals.items, b.diags)
          ∙ (ap (λ (n : ℕ). statements_checked site (stmts (stmt_tree x) (behind n (stmt_trees xs))) (b.locals.items, b.diags)) (add-one b.count)
          ∙ (ap (λ (y : Stmt). statements_checked site (stmts (stmt_tree y) (behind (suc b.count) (stmt_trees xs))) (b.locals.items, b.diags)) is
          ∙ ap (λ (zs : StmtTrees). statements_checked site zs (b.locals.items, b.diags)) (sym (behind_here xs b.count x below))))

      pub left_more : (c : BegunBody) → c.count ≡ b.count + 1 → Reads {U = Scoped} reply (top_checked site (stmt_tree x) (b.locals.items, b.diags)) (Ok (c.locals.items, c.diags)) → HasResidual reply (rest b) (rest c)
      left_more c next g =
          subst (λ (r : Rule (List DiagOf)). HasResidual reply r (rest c)) here
          (residual_behind reply (top_checked site (stmt_tree x) (b.locals.items, b.diags)) (λ t. statements_checked site (behind (b.count + 1) (stmt_trees xs)) t) (c.locals.items, c.diags) (rest c) g
          (residual_here reply (statements_checked site (behind (b.count + 1) (stmt_trees xs)) (c.locals.items, c.diags)) (rest c) (ap (λ (n : ℕ). statements_checked site (behind n (stmt_trees xs)) (c.locals.items, c.diags)) (sym next))))

      pub left_stops : (e : Stop (Query JavaPred)) → Reads {U = Scoped} reply (top_checked site (stmt_tree x) (b.locals.items, b.diags)) (Err e) → Reads {U = List DiagOf} reply (rest b) (Err e)
      left_stops e g =
          subst (λ (r : Rule (List DiagOf)). Reads {U = List DiagOf} reply r (Err e)) here
          (then_err reply (top_checked site (stmt_tree x) (b.locals.items, b.diags)) (λ t. statements_checked site (behind (b.count + 1) (stmt_trees xs)) t) e g)

    pub left_ends : (ds : List DiagOf) → length xs ≤ b.count → b.diags ≡ ds → Reads reply (rest b) (Ok ds)
    left_ends ds past e =
        subst (λ (r : Rule (List DiagOf)). Reads reply r (Ok ds)) (ap (λ (zs : StmtTrees). statements_checked site zs (b.locals.items, b.diags)) (sym (behind_end xs b.count past))) (done_reads reply b.diags ds e)

    -- where it stands as before
    pub left_same : (c : BegunBody) → c.count ≡ b.count → c.locals.items ≡ b.locals.items → c.diags ≡ b.diags → HasResidual reply (rest b) (rest c)
    left_same c count locals diags = residual_here reply (rest b) (rest c) (λ i. statements_checked site (behind (sym count i) (stmt_trees xs)) (sym locals i, sym diags i))

-- a body that was begun
pub begun_left : (site : SiteOf) (xs : StmtTrees) (given : Option Ty) (s : Scoped) (b : BegunBody) → IsBegun given s b → statements_left site xs b ≡ statements_checked site xs s
begun_left site xs given s b is = λ i. statements_checked site (behind (is.count i) xs) (is.scope i)

pub ruleset own_steps = (end_steps, top_ok, top_err)

pub ruleset next_steps = (end_steps, adds_cut)

pub ruleset left_steps = (end_steps, residual_reads, residual_on, residual_here, left_more, left_stops, left_ends, left_same)

pub ruleset begun_steps = end_steps
