-- Whether a `return` stands among the statements that a loop has left.
use Rattle.std.proofs.Common.{◌≡◌, ℕ, ◌+◌, ◌<◌, ◌≤◌, Bool, true, false, ◌||◌, List, ◌∷◌, Option, length, get_or, drop, sym, ap, ◌∙◌, Global}
use Rattle.std.specs.Prelude.{Vec}
use Rattle.std.specs.declared.boxed.Box.{Box}
use Rattle.std.proofs.lemmas.List.{at_drop_more, at_drop_all}
use Rattle.jv_tree.specs.declared.expression.Expr.{Expr}
use Rattle.jv_tree.specs.declared.statement.Stmt.{Stmt}
use Rattle.jv_tree.specs.declared.statement.StmtKind.{StmtKind}
use Rattle.jv_tree.specs.declared.statement.StmtKind.TheViews.{Block, If, For}
use Rattle.jv_tree.specs.StmtTree.{stmt, stmt_tree, stmt_trees, stmt_kind_tree, branch_trees}
use Rattle.jv_tree.proofs.Rows.{stmts_made, branches_made}
use Rattle.jv_expr.specs.Branches.{branches_of}
use Rattle.jv_expr.specs.Returns.{branch_returns, has_return, some_return}

-- ---- kinds of statements

module _ (s : Stmt) where
  of_kind : (k : StmtKind) → s.kind ≡ k → has_return (stmt s.at (stmt_kind_tree k)) ≡ has_return (stmt_tree s)
  of_kind k is = ap (λ (k : StmtKind). has_return (stmt s.at (stmt_kind_tree k))) (sym is)

  -- the statements of a block, or what comes first in a `for`
  row_returns : (v : Vec Stmt Global) (ys : List Stmt) (b : Bool) → ys ≡ v.items → b ≡ some_return (stmt_trees ys) → b ≡ some_return (stmt_trees v.items)
  row_returns v ys b same h = h ∙ ap (λ (l : List Stmt). some_return (stmt_trees l)) same

  pub block_returns : (v : Vec Stmt Global) (ys : List Stmt) (b : Bool) → s.kind ≡ Block v → ys ≡ v.items → b ≡ some_return (stmt_trees ys) → b ≡ has_return (stmt_tree s)
  block_returns v ys b is same h = row_returns v ys b same h ∙ (ap some_return (sym (stmts_made v)) ∙ of_kind (Block v) is)

  -- a `for`, by what comes first and by its body
  module _ (v : Vec Stmt Global) (z : Option Expr) (u : Vec Expr Global) (x : Box Stmt Global) (ys : List Stmt) (a : Bool) (is : s.kind ≡ For v z u x) (same : ys ≡ v.items) (first : a ≡ some_return (stmt_trees ys)) where
    for_whole : (a || has_return (stmt_tree x.value)) ≡ has_return (stmt_tree s)
    for_whole = ap (λ (b : Bool). b || has_return (stmt_tree x.value)) (row_returns v ys a same first ∙ ap some_return (sym (stmts_made v))) ∙ of_kind (For v z u x) is

    pub for_found : a ≡ true → a ≡ has_return (stmt_tree s)
    for_found on = on ∙ (ap (λ (b : Bool). b || has_return (stmt_tree x.value)) (sym on) ∙ for_whole)

    pub for_last : (y : Stmt) (b : Bool) → a ≡ false → y ≡ x.value → b ≡ has_return (stmt_tree y) → b ≡ has_return (stmt_tree s)
    for_last y b off here last = last ∙ (ap (λ (y : Stmt). has_return (stmt_tree y)) here ∙ (ap (λ (b : Bool). b || has_return (stmt_tree x.value)) (sym off) ∙ for_whole))

-- ---- statements one after another

module _ (ss : List Stmt) (i : ℕ) (w : Bool) (so_far : some_return (stmt_trees (drop i ss)) ≡ w) where
  module _ (x : Stmt) (a : Bool) (below : i < length ss) (is : x ≡ get_or ss i x) (found : a ≡ has_return (stmt_tree x)) where
    here : (a || some_return (stmt_trees (drop (i + 1) ss))) ≡ w
    here =
        ap (λ (b : Bool). b || some_return (stmt_trees (drop (i + 1) ss))) found
        ∙ (ap (λ (y : Stmt). some_return (stmt_trees (y ∷ drop (i + 1) ss))) is
        ∙ (sym (at_drop_more (λ (l : List Stmt). some_return (stmt_trees l)) ss i x below) ∙ so_far))

    pub all_found : a ≡ true → true ≡ w
    all_found on = ap (λ (b : Bool). b || some_return (stmt_trees (drop (i + 1) ss))) (sym on) ∙ here

    pub all_next : a ≡ false → some_return (stmt_trees (drop (i + 1) ss)) ≡ w
    all_next off = ap (λ (b : Bool). b || some_return (stmt_trees (drop (i + 1) ss))) (sym off) ∙ here

  pub all_done : length ss ≤ i → false ≡ w
  all_done past = sym (at_drop_all (λ (l : List Stmt). some_return (stmt_trees l)) ss i past) ∙ so_far

pub ruleset all_steps = (all_found, all_next, all_done)

-- ---- branches

pub branches_begin : (s : Stmt) (v : Vec (Expr × Stmt) Global) (z : Option (Box Stmt Global)) (ys : List (Expr × Stmt)) → s.kind ≡ If v z → ys ≡ v.items → branch_returns (branch_trees ys) ≡ branch_returns (branches_of (stmt_kind_tree s.kind))
branches_begin s v z ys is same = ap branch_returns (ap branch_trees same ∙ (sym (branches_made v) ∙ ap (λ (k : StmtKind). branches_of (stmt_kind_tree k)) (sym is)))

module _ (ss : List (Expr × Stmt)) (i : ℕ) (w : Bool) (so_far : branch_returns (branch_trees (drop i ss)) ≡ w) where
  module _ (x : Expr × Stmt) (a : Bool) (below : i < length ss) (is : x ≡ get_or ss i x) (found : a ≡ has_return (stmt_tree x.1)) where
    branch_here : (a || branch_returns (branch_trees (drop (i + 1) ss))) ≡ w
    branch_here =
        ap (λ (b : Bool). b || branch_returns (branch_trees (drop (i + 1) ss))) found
        ∙ (ap (λ (y : Expr × Stmt). branch_returns (branch_trees (y ∷ drop (i + 1) ss))) is
        ∙ (sym (at_drop_more (λ (l : List (Expr × Stmt)). branch_returns (branch_trees l)) ss i x below) ∙ so_far))

    pub branch_found : a ≡ true → true ≡ w
    branch_found on = ap (λ (b : Bool). b || branch_returns (branch_trees (drop (i + 1) ss))) (sym on) ∙ branch_here

    pub branch_next : a ≡ false → branch_returns (branch_trees (drop (i + 1) ss)) ≡ w
    branch_next off = ap (λ (b : Bool). b || branch_returns (branch_trees (drop (i + 1) ss))) (sym off) ∙ branch_here

  pub branches_done : length ss ≤ i → false ≡ w
  branches_done past = sym (at_drop_all (λ (l : List (Expr × Stmt)). branch_returns (branch_trees l)) ss i past) ∙ so_far

pub ruleset branch_steps = (branches_begin, branch_found, branch_next, branches_done)
