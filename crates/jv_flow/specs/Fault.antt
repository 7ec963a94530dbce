-- Which statements are at fault since they are unreachable: the outermost ones, and in a block the first.
use Rattle.std.specs.Prelude.{◌≡◌, ℕ, ◌↔◌, List}
use Rattle.std.specs.List.{Contains}
use Rattle.std.specs.List.Sorted.{IsStrictlyIncreasing}
use Rattle.std.proofs.Common.{inl, inr}
use Rattle.jv_tree.specs.StmtTree.{StmtTree, StmtKindTree, stmt, block, if_else, while_loop, do_loop, for_loop, StmtTrees, no_stmts, stmts, BranchTrees, no_branches, branches, ElseTree, no_else, otherwise}
use Rattle.jv_flow.specs.Place.{PlaceIn, PlaceInside, PlaceInAll, PlaceInBranches, PlaceInElse}

-- a statement of a statement is the whole
abbrev pub IsWhole : (x : StmtTree) → PlaceIn x → Type 0
IsWhole (stmt at k) (inl u) = Unit {0}
IsWhole (stmt at k) (inr p) = ⊥

-- a statement of statements one after another is one of them, and does not stand inside one
abbrev pub IsOneOfAll : (xs : StmtTrees) → PlaceInAll xs → Type 0
IsOneOfAll no_stmts p = ⊥
IsOneOfAll (stmts x xs) (inl p) = IsWhole x p
IsOneOfAll (stmts x xs) (inr p) = IsOneOfAll xs p

abbrev mutual
  -- the first statement encloses the second
  pub Encloses : (x : StmtTree) → PlaceIn x → PlaceIn x → Type 0
  Encloses (stmt at k) q (inl u) = ⊥
  Encloses (stmt at k) (inl u) (inr p) = Unit {0}
  Encloses (stmt at k) (inr q) (inr p) = InsideEncloses k q p

  -- so inside a statement
  pub InsideEncloses : (k : StmtKindTree) → PlaceInside k → PlaceInside k → Type 0
  InsideEncloses (block xs) q p = AllEnclose xs q p
  InsideEncloses (if_else bs e) (inl q) (inl p) = BranchEncloses bs q p
  InsideEncloses (if_else bs e) (inr q) (inr p) = ElseEncloses e q p
  InsideEncloses (while_loop x t) q p = Encloses t q p
  InsideEncloses (do_loop t x) q p = Encloses t q p
  InsideEncloses (for_loop xs x ys t) (inl q) (inl p) = AllEnclose xs q p
  InsideEncloses (for_loop xs x ys t) (inr q) (inr p) = Encloses t q p
  InsideEncloses k q p = ⊥

  -- so among statements one after another
  pub AllEnclose : (xs : StmtTrees) → PlaceInAll xs → PlaceInAll xs → Type 0
  AllEnclose no_stmts q p = ⊥
  AllEnclose (stmts x xs) (inl q) (inl p) = Encloses x q p
  AllEnclose (stmts x xs) (inl q) (inr p) = ⊥
  AllEnclose (stmts x xs) (inr q) (inl p) = ⊥
  AllEnclose (stmts x xs) (inr q) (inr p) = AllEnclose xs q p

  -- so in the branches of an `if`
  pub BranchEncloses : (bs : BranchTrees) → PlaceInBranches bs → PlaceInBranches bs → Type 0
  BranchEncloses no_branches q p = ⊥
  BranchEncloses (branches c x bs) (inl q) (inl p) = Encloses x q p
  BranchEncloses (branches c x bs) (inl q) (inr p) = ⊥
  BranchEncloses (branches c x bs) (inr q) (inl p) = ⊥
  BranchEncloses (branches c x bs) (inr q) (inr p) = BranchEncloses bs q p

  -- so behind the last `else`
  pub ElseEncloses : (e : ElseTree) → PlaceInElse e → PlaceInElse e → Type 0
  ElseEncloses no_else q p = ⊥
  ElseEncloses (otherwise x) q p = Encloses x q p

abbrev mutual
  -- both are statements of one block, and the first stands before the second
  pub Precedes : (x : StmtTree) → PlaceIn x → PlaceIn x → Type 0
  Precedes (stmt at k) q (inl u) = ⊥
  Precedes (stmt at k) (inl u) (inr p) = ⊥
  Precedes (stmt at k) (inr q) (inr p) = InsidePrecedes k q p

  -- so inside a statement
  pub InsidePrecedes : (k : StmtKindTree) → PlaceInside k → PlaceInside k → Type 0
  InsidePrecedes (block xs) q p = AllPrecede xs q p
  InsidePrecedes (if_else bs e) (inl q) (inl p) = BranchPrecedes bs q p
  InsidePrecedes (if_else bs e) (inr q) (inr p) = ElsePrecedes e q p
  InsidePrecedes (while_loop x t) q p = Precedes t q p
  InsidePrecedes (do_loop t x) q p = Precedes t q p
  InsidePrecedes (for_loop xs x ys t) (inl q) (inl p) = AllPrecede xs q p
  InsidePrecedes (for_loop xs x ys t) (inr q) (inr p) = Precedes t q p
  InsidePrecedes k q p = ⊥

  -- so among statements one after another, which are the statements of a block
  pub AllPrecede : (xs : StmtTrees) → PlaceInAll xs → PlaceInAll xs → Type 0
  AllPrecede no_stmts q p = ⊥
  AllPrecede (stmts x xs) (inl q) (inl p) = Precedes x q p
  AllPrecede (stmts x xs) (inl q) (inr p) = IsWhole x q × IsOneOfAll xs p
  AllPrecede (stmts x xs) (inr q) (inl p) = ⊥
  AllPrecede (stmts x xs) (inr q) (inr p) = AllPrecede xs q p

  -- so in the branches of an `if`
  pub BranchPrecedes : (bs : BranchTrees) → PlaceInBranches bs → PlaceInBranches bs → Type 0
  BranchPrecedes no_branches q p = ⊥
  BranchPrecedes (branches c x bs) (inl q) (inl p) = Precedes x q p
  BranchPrecedes (branches c x bs) (inl q) (inr p) = ⊥
  BranchPrecedes (branches c x bs) (inr q) (inl p) = ⊥
  BranchPrecedes (branches c x bs) (inr q) (inr p) = BranchPrecedes bs q p

  -- so behind the last `else`
  pub ElsePrecedes : (e : ElseTree) → PlaceInElse e → PlaceInElse e → Type 0
  ElsePrecedes no_else q p = ⊥
  ElsePrecedes (otherwise x) q p = Precedes x q p

-- where a statement of a statement starts
abbrev mutual
  -- the place of a statement of a statement
  pub start_in : (x : StmtTree) → PlaceIn x → ℕ
  start_in (stmt at k) (inl u) = at
  start_in (stmt at k) (inr p) = start_inside k p

  -- the place of one inside a statement
  pub start_inside : (k : StmtKindTree) → PlaceInside k → ℕ
  start_inside (block xs) p = start_of_one xs p
  start_inside (if_else bs e) (inl p) = start_in_branch bs p
  start_inside (if_else bs e) (inr p) = start_in_else e p
  start_inside (while_loop x t) p = start_in t p
  start_inside (do_loop t x) p = start_in t p
  start_inside (for_loop xs x ys t) (inl p) = start_of_one xs p
  start_inside (for_loop xs x ys t) (inr p) = start_in t p
  start_inside k p = 0

  -- the place of one among statements one after another
  pub start_of_one : (xs : StmtTrees) → PlaceInAll xs → ℕ
  start_of_one no_stmts p = 0
  start_of_one (stmts x xs) (inl p) = start_in x p
  start_of_one (stmts x xs) (inr p) = start_of_one xs p

  -- the place of one in the branches of an `if`
  pub start_in_branch : (bs : BranchTrees) → PlaceInBranches bs → ℕ
  start_in_branch no_branches p = 0
  start_in_branch (branches c x bs) (inl p) = start_in x p
  start_in_branch (branches c x bs) (inr p) = start_in_branch bs p

  -- the place of one behind the last `else`
  pub start_in_else : (e : ElseTree) → PlaceInElse e → ℕ
  start_in_else no_else p = 0
  start_in_else (otherwise x) p = start_in x p

-- what is not so, while it is so of all that enclose it and of all before it in its block
pub record IsOutermost (xs : StmtTrees) (Is : PlaceInAll xs → Type 0) (p : PlaceInAll xs) : Type 0 where
  pub itself : Is p → ⊥
  pub enclosing : (q : PlaceInAll xs) → AllEnclose xs q p → Is q
  pub before : (q : PlaceInAll xs) → AllPrecede xs q p → Is q

-- a place is where such a statement starts
abbrev pub IsFaultPlace : (xs : StmtTrees) → (PlaceInAll xs → Type 0) → ℕ → Type 0
IsFaultPlace xs Is at = (p : PlaceInAll xs) × IsOutermost xs Is p × (start_of_one xs p ≡ at)

-- the places where such statements start, in rising order
pub record AreFaultPlaces (xs : StmtTrees) (Is : PlaceInAll xs → Type 0) (places : List ℕ) : Type 0 where
  pub rising : IsStrictlyIncreasing places
  pub exact : (at : ℕ) → Contains places at ↔ IsFaultPlace xs Is at
