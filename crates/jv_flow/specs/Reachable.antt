-- Which statements are reachable, and which complete normally (JLS 14.21). `r` says whether what stands around is reachable.
use Rattle.std.specs.Prelude.{◌≡◌, Bool, true, false, not, ◌&&◌, ◌||◌}
use Rattle.std.proofs.Common.{inl, inr}
use Rattle.jv_tree.specs.StmtTree.{StmtTree, StmtKindTree, stmt, block, empty, local, effect, if_else, while_loop, do_loop, for_loop, return, break, continue, StmtTrees, no_stmts, stmts, BranchTrees, no_branches, branches, ElseTree, no_else, otherwise}
use Rattle.jv_flow.specs.Condition.{literal_of, optional_literal, is_true, is_false}
use Rattle.jv_flow.specs.Place.{PlaceIn, PlaceInside, PlaceInAll, PlaceInBranches, PlaceInElse}

abbrev mutual
  -- a statement completes, where it is reachable if `r`
  pub completes : Bool → StmtTree → Bool
  completes r (stmt at (block xs)) = all_complete r xs
  completes r (stmt at empty) = r
  completes r (stmt at (local f t vs)) = r
  completes r (stmt at (effect x)) = r
  completes r (stmt at (if_else bs no_else)) = r
  completes r (stmt at (if_else bs (otherwise x))) = branch_completes r bs || completes r x
  completes r (stmt at (while_loop x t)) = (r && not (is_true (literal_of x))) || breaks (r && not (is_false (literal_of x))) t
  completes r (stmt at (do_loop t x)) = (not (is_true (literal_of x)) && (completes r t || continues r t)) || breaks r t
  completes r (stmt at (for_loop xs x ys t)) = (r && not (is_true (optional_literal x))) || breaks (r && not (is_false (optional_literal x))) t
  completes r (stmt at (return x)) = false
  completes r (stmt at break) = false
  completes r (stmt at continue) = false

  -- statements one after another complete: the first is reachable if `r`, each further one where the one before completes
  pub all_complete : Bool → StmtTrees → Bool
  all_complete r no_stmts = r
  all_complete r (stmts x xs) = all_complete (completes r x) xs

  -- a branch of an `if` completes
  pub branch_completes : Bool → BranchTrees → Bool
  branch_completes r no_branches = false
  branch_completes r (branches c x bs) = completes r x || branch_completes r bs

  -- a reachable `break` in the statement leaves the loop around the statement; one in a loop inside leaves that one
  pub breaks : Bool → StmtTree → Bool
  breaks r (stmt at (block xs)) = all_break r xs
  breaks r (stmt at (if_else bs e)) = branch_breaks r bs || else_breaks r e
  breaks r (stmt at break) = r
  breaks r (stmt at k) = false

  -- so in one of statements one after another
  pub all_break : Bool → StmtTrees → Bool
  all_break r no_stmts = false
  all_break r (stmts x xs) = breaks r x || all_break (completes r x) xs

  -- so in a branch of an `if`
  pub branch_breaks : Bool → BranchTrees → Bool
  branch_breaks r no_branches = false
  branch_breaks r (branches c x bs) = breaks r x || branch_breaks r bs

  -- so behind the last `else`
  pub else_breaks : Bool → ElseTree → Bool
  else_breaks r no_else = false
  else_breaks r (otherwise x) = breaks r x

  -- a reachable `continue` in the statement belongs to the loop around the statement; one in a loop inside belongs to that one
  pub continues : Bool → StmtTree → Bool
  continues r (stmt at (block xs)) = all_continue r xs
  continues r (stmt at (if_else bs e)) = branch_continues r bs || else_continues r e
  continues r (stmt at continue) = r
  continues r (stmt at k) = false

  -- so in one of statements one after another
  pub all_continue : Bool → StmtTrees → Bool
  all_continue r no_stmts = false
  all_continue r (stmts x xs) = continues r x || all_continue (completes r x) xs

  -- so in a branch of an `if`
  pub branch_continues : Bool → BranchTrees → Bool
  branch_continues r no_branches = false
  branch_continues r (branches c x bs) = continues r x || branch_continues r bs

  -- so behind the last `else`
  pub else_continues : Bool → ElseTree → Bool
  else_continues r no_else = false
  else_continues r (otherwise x) = continues r x

abbrev mutual
  -- a statement of a statement is reachable, where that is reachable if `r`
  pub reachable : Bool → (x : StmtTree) → PlaceIn x → Bool
  reachable r (stmt at k) (inl u) = r
  reachable r (stmt at k) (inr p) = inside_reachable r k p

  -- a statement inside another is
  pub inside_reachable : Bool → (k : StmtKindTree) → PlaceInside k → Bool
  inside_reachable r (block xs) p = all_reachable r xs p
  inside_reachable r (if_else bs e) (inl p) = branch_reachable r bs p
  inside_reachable r (if_else bs e) (inr p) = else_reachable r e p
  inside_reachable r (while_loop x t) p = reachable (r && not (is_false (literal_of x))) t p
  inside_reachable r (do_loop t x) p = reachable r t p
  inside_reachable r (for_loop xs x ys t) (inl p) = r
  inside_reachable r (for_loop xs x ys t) (inr p) = reachable (r && not (is_false (optional_literal x))) t p
  inside_reachable r k p = false

  -- a statement of statements one after another is: the first where `r`, each further one where the one before completes
  pub all_reachable : Bool → (xs : StmtTrees) → PlaceInAll xs → Bool
  all_reachable r no_stmts p = false
  all_reachable r (stmts x xs) (inl p) = reachable r x p
  all_reachable r (stmts x xs) (inr p) = all_reachable (completes r x) xs p

  -- a statement of the branches of an `if` is
  pub branch_reachable : Bool → (bs : BranchTrees) → PlaceInBranches bs → Bool
  branch_reachable r no_branches p = false
  branch_reachable r (branches c x bs) (inl p) = reachable r x p
  branch_reachable r (branches c x bs) (inr p) = branch_reachable r bs p

  -- a statement of what stands behind the last `else` is
  pub else_reachable : Bool → (e : ElseTree) → PlaceInElse e → Bool
  else_reachable r no_else p = false
  else_reachable r (otherwise x) p = reachable r x p

-- a body completes normally
abbrev pub CompletesNormally : StmtTrees → Type 0
CompletesNormally xs = all_complete true xs ≡ true

-- a statement of a body is reachable
abbrev pub IsReachable : (xs : StmtTrees) → PlaceInAll xs → Type 0
IsReachable xs p = all_reachable true xs p ≡ true
