-- The places of the faults of a body as a list.
use Rattle.std.specs.Prelude.{◌==◌, ℕ, nat_lt, Bool, true, false, not, List, [], ◌∷◌, ◌++◌, if◌then◌else◌}
use Rattle.jv_tree.specs.StmtTree.{StmtTree, stmt, block, if_else, while_loop, do_loop, for_loop, StmtTrees, no_stmts, stmts, BranchTrees, no_branches, branches, ElseTree, no_else, otherwise}
use Rattle.jv_flow.specs.Condition.{literal_of, optional_literal, is_false}
use Rattle.jv_flow.specs.Reachable.{completes}

abbrev mutual
  -- the faults of a statement, which is reachable where `r`, and what stands around it is
  pub faults : Bool → StmtTree → List ℕ
  faults false (stmt at k) = at ∷ []
  faults true (stmt at (block xs)) = all_faults true xs
  faults true (stmt at (if_else bs e)) = branch_faults bs ++ else_faults e
  faults true (stmt at (while_loop x t)) = faults (not (is_false (literal_of x))) t
  faults true (stmt at (do_loop t x)) = faults true t
  faults true (stmt at (for_loop xs x ys t)) = faults (not (is_false (optional_literal x))) t
  faults true (stmt at k) = []

  -- those of statements one after another, the first of which is reachable where `r`: none behind the first fault
  pub all_faults : Bool → StmtTrees → List ℕ
  all_faults r no_stmts = []
  all_faults true (stmts x xs) = faults true x ++ all_faults (completes true x) xs
  all_faults false (stmts (stmt at k) xs) = at ∷ []

  -- those of the branches of an `if`
  pub branch_faults : BranchTrees → List ℕ
  branch_faults no_branches = []
  branch_faults (branches c x bs) = faults true x ++ branch_faults bs

  -- those of what stands behind the last `else`
  pub else_faults : ElseTree → List ℕ
  else_faults no_else = []
  else_faults (otherwise x) = faults true x

-- a number among numbers that rise, where it is none of them yet
abbrev pub put_among : ℕ → List ℕ → List ℕ
put_among n [] = n ∷ []
put_among n (m ∷ ms) = if nat_lt n m then n ∷ m ∷ ms else (if n == m then m ∷ ms else m ∷ put_among n ms)

-- numbers in rising order, each once
abbrev pub in_rising_order : List ℕ → List ℕ
in_rising_order [] = []
in_rising_order (n ∷ ns) = put_among n (in_rising_order ns)

-- the places of the faults of a body, in rising order: `FaultPlacesAreTold` says what they are
abbrev pub fault_places : StmtTrees → List ℕ
fault_places xs = in_rising_order (all_faults true xs)
