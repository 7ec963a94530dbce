-- Runs of a body: what its statements do, step by step, for given choices (JLS 14.9, 14.12 to 14.17). Each condition of an `if` takes the next choice.
-- That of a loop decides by its value where it is a literal, counts as `true` where it is missing, and else takes the next choice. A run ends where no
-- choice is left, at a `return`, at a `break` or `continue` outside a loop, or past the last statement of the body, where it falls off.
use Rattle.std.specs.Prelude.{◌≡◌, ℕ, zero, suc, ◌<◌, Bool, true, false, List, [], ◌∷◌, Option, Some, None}
use Rattle.std.proofs.Common.{inl, inr}
use Rattle.jv_tree.specs.StmtTree.{StmtTree, stmt, block, empty, local, effect, if_else, while_loop, do_loop, for_loop, return, break, continue, StmtTrees, no_stmts, stmts, BranchTrees, no_branches, branches, ElseTree, no_else, otherwise}
use Rattle.jv_flow.specs.Condition.{literal_of, optional_literal}
use Rattle.jv_flow.specs.Place.{PlaceIn, PlaceInAll, PlaceInBranches, PlaceInElse, itself}

-- what a run still has to do. Beside a tree stands which statements of the body its statements are
pub data Todo (P : Type 0) : Type 0 where
  fell_off : Todo P  -- nothing: it is past the last statement
  stopped : Todo P  -- nothing: it ended before
  execute : (x : StmtTree) → (PlaceIn x → P) → Todo P → Todo P  -- to execute a statement, then the rest
  in_order : (xs : StmtTrees) → (PlaceInAll xs → P) → Todo P → Todo P  -- to execute statements in order, then the rest
  choose : (bs : BranchTrees) (e : ElseTree) → (PlaceInBranches bs → P) → (PlaceInElse e → P) → Todo P → Todo P  -- to take a branch of an `if`, then the rest
  go_round : Option Bool → (x : StmtTree) → (PlaceIn x → P) → Todo P → Todo P  -- to decide a loop's condition, whose value is given where it is a literal, for its body, then the rest

module _ {P : Type 0} where
  -- what is left to do behind the loop that stands around, where a `break` leaves it
  abbrev pub behind_loop : Todo P → Todo P
  behind_loop fell_off = stopped
  behind_loop stopped = stopped
  behind_loop (execute x f rest) = behind_loop rest
  behind_loop (in_order xs f rest) = behind_loop rest
  behind_loop (choose bs e f g rest) = behind_loop rest
  behind_loop (go_round c x f rest) = rest

  -- what is left to do from the condition of the loop that stands around, where a `continue` goes on with it
  abbrev pub next_round : Todo P → Todo P
  next_round fell_off = stopped
  next_round stopped = stopped
  next_round (execute x f rest) = next_round rest
  next_round (in_order xs f rest) = next_round rest
  next_round (choose bs e f g rest) = next_round rest
  next_round (go_round c x f rest) = go_round c x f rest

  -- what a statement leaves to do when it is executed
  abbrev pub executing : (x : StmtTree) → (PlaceIn x → P) → Todo P → Todo P
  executing (stmt at (block xs)) f rest = in_order xs (λ p. f (inr p)) rest
  executing (stmt at empty) f rest = rest
  executing (stmt at (local final t vs)) f rest = rest
  executing (stmt at (effect x)) f rest = rest
  executing (stmt at (if_else bs e)) f rest = choose bs e (λ p. f (inr (inl p))) (λ p. f (inr (inr p))) rest
  executing (stmt at (while_loop x t)) f rest = go_round (literal_of x) t (λ p. f (inr p)) rest
  executing (stmt at (do_loop t x)) f rest = execute t (λ p. f (inr p)) (go_round (literal_of x) t (λ p. f (inr p)) rest)
  executing (stmt at (for_loop xs x ys t)) f rest = in_order xs (λ p. f (inr (inl p))) (go_round (optional_literal x) t (λ p. f (inr (inr p))) rest)
  executing (stmt at (return x)) f rest = stopped
  executing (stmt at break) f rest = behind_loop rest
  executing (stmt at continue) f rest = next_round rest

  -- one step, with the choices that are left
  abbrev pub step : Todo P → List Bool → Todo P × List Bool
  step fell_off cs = (fell_off, cs)
  step stopped cs = (stopped, cs)
  step (execute x f rest) cs = (executing x f rest, cs)
  step (in_order no_stmts f rest) cs = (rest, cs)
  step (in_order (stmts x xs) f rest) cs = (execute x (λ p. f (inl p)) (in_order xs (λ p. f (inr p)) rest), cs)
  step (choose no_branches no_else f g rest) cs = (rest, cs)
  step (choose no_branches (otherwise x) f g rest) cs = (execute x g rest, cs)
  step (choose (branches c x bs) e f g rest) [] = (stopped, [])
  step (choose (branches c x bs) e f g rest) (true ∷ cs) = (execute x (λ p. f (inl p)) rest, cs)
  step (choose (branches c x bs) e f g rest) (false ∷ cs) = (choose bs e (λ p. f (inr p)) g rest, cs)
  step (go_round (Some true) x f rest) cs = (execute x f (go_round (Some true) x f rest), cs)
  step (go_round (Some false) x f rest) cs = (rest, cs)
  step (go_round None x f rest) [] = (stopped, [])
  step (go_round None x f rest) (true ∷ cs) = (execute x f (go_round None x f rest), cs)
  step (go_round None x f rest) (false ∷ cs) = (rest, cs)

  -- what is left to do after the first steps
  abbrev pub after : ℕ → Todo P → List Bool → Todo P
  after zero t cs = t
  after (suc n) t cs = after n (step t cs).0 (step t cs).1

  -- the statement that the next step executes
  abbrev pub executed : Todo P → Option P
  executed fell_off = None
  executed stopped = None
  executed (execute x f rest) = Some (f (itself x))
  executed (in_order xs f rest) = None
  executed (choose bs e f g rest) = None
  executed (go_round c x f rest) = None

-- all that a run of a body has to do
abbrev pub start_of : (xs : StmtTrees) → Todo (PlaceInAll xs)
start_of xs = in_order xs (λ p. p) fell_off

-- the first `n` steps of a body, with these choices, fall off its end
abbrev pub FallsOff : ℕ → List Bool → StmtTrees → Type 0
FallsOff n cs xs = after n (start_of xs) cs ≡ fell_off

-- the first `n` steps of a body, with these choices, execute the statement
abbrev pub Executes : ℕ → List Bool → (xs : StmtTrees) → PlaceInAll xs → Type 0
Executes n cs xs p = (k : ℕ) × (k < n) × (executed (after k (start_of xs) cs) ≡ Some p)
