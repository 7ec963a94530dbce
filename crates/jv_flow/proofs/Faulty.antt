-- The list of faults has the places of the outermost unreachable statements, and no others.
use Rattle.std.proofs.Common.{◌≡◌, ℕ, zero, suc, ◌<◌, get_or, ◌⊎◌, Bool, true, false, not, [], ◌∷◌, inl, inr, refl, sym, subst, arith}
use Rattle.std.specs.List.{Contains}
use Rattle.std.proofs.lemmas.List.Elements.{Contains-append_left, Contains-append_right, Contains-append_cases}
use Rattle.jv_tree.specs.StmtTree.{StmtTree, StmtKindTree, stmt, block, empty, local, effect, if_else, while_loop, do_loop, for_loop, return, break, continue, StmtTrees, no_stmts, stmts, BranchTrees, no_branches, branches, ElseTree, no_else, otherwise}
use Rattle.jv_flow.specs.Condition.{literal_of, optional_literal, is_false}
use Rattle.jv_flow.specs.Place.{PlaceIn, PlaceInside, PlaceInAll, PlaceInBranches, PlaceInElse}
use Rattle.jv_flow.specs.Reachable.{completes, reachable, inside_reachable, all_reachable, branch_reachable, else_reachable}
use Rattle.jv_flow.specs.Fault.{IsWhole, IsOneOfAll, Encloses, InsideEncloses, AllEnclose, BranchEncloses, ElseEncloses, Precedes, InsidePrecedes, AllPrecede, BranchPrecedes, ElsePrecedes, start_in, start_of_one, start_in_branch, start_in_else}
use Rattle.jv_flow.specs.FaultList.{faults, all_faults, branch_faults, else_faults}
use Rattle.jv_flow.proofs.Bools.{never}
use Rattle.jv_flow.proofs.Unreached.{completes_not, all_reachable_not}

-- an unreachable place, while those that enclose it and those before it in its block are reachable
pub record Outermost (A : Type 0) (Encl Prec : A → A → Type 0) (reach : A → Bool) (p : A) : Type 0 where
  pub unreached : reach p ≡ false
  pub enclosing : (q : A) → Encl q p → reach q ≡ true
  pub before : (q : A) → Prec q p → reach q ≡ true

abbrev pub Fault : Bool → (x : StmtTree) → PlaceIn x → Type 0
Fault r x p = Outermost (PlaceIn x) (Encloses x) (Precedes x) (reachable r x) p

abbrev pub InsideFault : (k : StmtKindTree) → PlaceInside k → Type 0
InsideFault k p = Outermost (PlaceInside k) (InsideEncloses k) (InsidePrecedes k) (inside_reachable true k) p

abbrev pub AllFault : Bool → (xs : StmtTrees) → PlaceInAll xs → Type 0
AllFault r xs p = Outermost (PlaceInAll xs) (AllEnclose xs) (AllPrecede xs) (all_reachable r xs) p

abbrev pub BranchFault : (bs : BranchTrees) → PlaceInBranches bs → Type 0
BranchFault bs p = Outermost (PlaceInBranches bs) (BranchEncloses bs) (BranchPrecedes bs) (branch_reachable true bs) p

abbrev pub ElseFault : (e : ElseTree) → PlaceInElse e → Type 0
ElseFault e p = Outermost (PlaceInElse e) (ElseEncloses e) (ElsePrecedes e) (else_reachable true e) p

whole_reached : (x : StmtTree) (q : PlaceIn x) → IsWhole x q → reachable true x q ≡ true
whole_reached (stmt at k) (inl u) h = refl
whole_reached (stmt at k) (inr q) h = absurd h

whole_unreached : (x : StmtTree) (q : PlaceIn x) → IsWhole x q → reachable false x q ≡ false
whole_unreached (stmt at k) (inl u) h = refl
whole_unreached (stmt at k) (inr q) h = absurd h

the_whole : (x : StmtTree) → (q : PlaceIn x) × IsWhole x q
the_whole (stmt at k) = (inl tt, tt)

-- a statement among others is one of them, or stands in one
one_or_inside : (xs : StmtTrees) (p : PlaceInAll xs) → IsOneOfAll xs p ⊎ ((q : PlaceInAll xs) × AllEnclose xs q p)
one_or_inside no_stmts p = elim p [ ]
one_or_inside (stmts (stmt at k) xs) (inl (inl u)) = inl tt
one_or_inside (stmts (stmt at k) xs) (inl (inr p)) = inr (inl (inl tt), tt)
one_or_inside (stmts x xs) (inr p) = elim (one_or_inside xs p) [ inl h ↦ inl h | inr h ↦ inr (inr h.0, h.1) ]

pub alone : (at : ℕ) → Contains (at ∷ []) at
alone at = (0, omega arith, refl)

alone_is : (at a : ℕ) → Contains (at ∷ []) a → at ≡ a
alone_is at a h = first h.0 h.1 h.2
  where
    first : (k : ℕ) → k < 1 → get_or (at ∷ []) k a ≡ a → at ≡ a
    first zero l e = e
    first (suc k) l e = absurd (omega arith)

nowhere : {A : Type 0} (a : ℕ) → Contains {X = ℕ} [] a → A
nowhere a h = absurd (let l = h.1 in omega arith)

mutual
  pub found : (r : Bool) (x : StmtTree) (p : PlaceIn x) → Fault r x p → Contains (faults r x) (start_in x p)
  found false (stmt at k) (inl u) h = alone at
  found false (stmt at k) (inr p) h = never false refl (h.enclosing (inl tt) tt)
  found true (stmt at k) (inl u) h = never true h.unreached refl
  found true (stmt at (block xs)) (inr p) h = found_all true xs p (record { unreached = h.unreached; enclosing = λ q e. h.enclosing (inr q) e; before = λ q e. h.before (inr q) e })
  found true (stmt at empty) (inr p) h = elim p [ ]
  found true (stmt at (local f t vs)) (inr p) h = elim p [ ]
  found true (stmt at (effect x)) (inr p) h = elim p [ ]
  found true (stmt at (if_else bs e)) (inr (inl p)) h = Contains-append_left (branch_faults bs) (else_faults e) (start_in_branch bs p) (found_branch bs p (record { unreached = h.unreached; enclosing = λ q e. h.enclosing (inr (inl q)) e; before = λ q e. h.before (inr (inl q)) e }))
  found true (stmt at (if_else bs e)) (inr (inr p)) h = Contains-append_right (branch_faults bs) (else_faults e) (start_in_else e p) (found_else e p (record { unreached = h.unreached; enclosing = λ q e. h.enclosing (inr (inr q)) e; before = λ q e. h.before (inr (inr q)) e }))
  found true (stmt at (while_loop x t)) (inr p) h = found (not (is_false (literal_of x))) t p (record { unreached = h.unreached; enclosing = λ q e. h.enclosing (inr q) e; before = λ q e. h.before (inr q) e })
  found true (stmt at (do_loop t x)) (inr p) h = found true t p (record { unreached = h.unreached; enclosing = λ q e. h.enclosing (inr q) e; before = λ q e. h.before (inr q) e })
  found true (stmt at (for_loop xs x ys t)) (inr (inl p)) h = never true h.unreached refl
  found true (stmt at (for_loop xs x ys t)) (inr (inr p)) h = found (not (is_false (optional_literal x))) t p (record { unreached = h.unreached; enclosing = λ q e. h.enclosing (inr (inr q)) e; before = λ q e. h.before (inr (inr q)) e })
  found true (stmt at (return x)) (inr p) h = elim p [ ]
  found true (stmt at break) (inr p) h = elim p [ ]
  found true (stmt at continue) (inr p) h = elim p [ ]

  pub found_all : (r : Bool) (xs : StmtTrees) (p : PlaceInAll xs) → AllFault r xs p → Contains (all_faults r xs) (start_of_one xs p)
  found_all r no_stmts p h = elim p [ ]
  found_all true (stmts x xs) (inl p) h = Contains-append_left (faults true x) (all_faults (completes true x) xs) (start_in x p) (found true x p (record { unreached = h.unreached; enclosing = λ q e. h.enclosing (inl q) e; before = λ q e. h.before (inl q) e }))
  found_all true (stmts x xs) (inr p) h = Contains-append_right (faults true x) (all_faults (completes true x) xs) (start_of_one xs p) (found_all (completes true x) xs p (record { unreached = h.unreached; enclosing = λ q e. h.enclosing (inr q) e; before = λ q e. h.before (inr q) e }))
  found_all false (stmts (stmt at k) xs) (inl (inl u)) h = alone at
  found_all false (stmts (stmt at k) xs) (inl (inr p)) h = never false refl (h.enclosing (inl (inl tt)) tt)
  found_all false (stmts (stmt at k) xs) (inr p) h = elim (one_or_inside xs p) [
    | inl one ↦ never false refl (h.before (inl (inl tt)) (tt, one))
    | inr inside ↦ never (all_reachable (completes false (stmt at k)) xs inside.0) (subst (λ (r : Bool). all_reachable r xs inside.0 ≡ false) (sym (completes_not (stmt at k))) (all_reachable_not xs inside.0)) (h.enclosing (inr inside.0) inside.1)
  ]

  pub found_branch : (bs : BranchTrees) (p : PlaceInBranches bs) → BranchFault bs p → Contains (branch_faults bs) (start_in_branch bs p)
  found_branch no_branches p h = elim p [ ]
  found_branch (branches c x bs) (inl p) h = Contains-append_left (faults true x) (branch_faults bs) (start_in x p) (found true x p (record { unreached = h.unreached; enclosing = λ q e. h.enclosing (inl q) e; before = λ q e. h.before (inl q) e }))
  found_branch (branches c x bs) (inr p) h = Contains-append_right (faults true x) (branch_faults bs) (start_in_branch bs p) (found_branch bs p (record { unreached = h.unreached; enclosing = λ q e. h.enclosing (inr q) e; before = λ q e. h.before (inr q) e }))

  pub found_else : (e : ElseTree) (p : PlaceInElse e) → ElseFault e p → Contains (else_faults e) (start_in_else e p)
  found_else no_else p h = elim p [ ]
  found_else (otherwise x) p h = found true x p (record { unreached = h.unreached; enclosing = h.enclosing; before = h.before })

-- what is outermost inside a statement that is reachable is so in it
inside_fault : (at : ℕ) (k : StmtKindTree) (p : PlaceInside k) → InsideFault k p → Fault true (stmt at k) (inr p)
inside_fault at k p h = record { unreached = h.unreached; enclosing = encl; before = prec }
  where
    encl : (q : PlaceIn (stmt at k)) → Encloses (stmt at k) q (inr p) → reachable true (stmt at k) q ≡ true
    encl (inl u) e = refl
    encl (inr q) e = h.enclosing q e

    prec : (q : PlaceIn (stmt at k)) → Precedes (stmt at k) q (inr p) → reachable true (stmt at k) q ≡ true
    prec (inl u) e = absurd e
    prec (inr q) e = h.before q e

branch_fault : (bs : BranchTrees) (e : ElseTree) (p : PlaceInBranches bs) → BranchFault bs p → InsideFault (if_else bs e) (inl p)
branch_fault bs e p h = record { unreached = h.unreached; enclosing = encl; before = prec }
  where
    encl : (q : PlaceInside (if_else bs e)) → InsideEncloses (if_else bs e) q (inl p) → inside_reachable true (if_else bs e) q ≡ true
    encl (inl q) g = h.enclosing q g
    encl (inr q) g = absurd g

    prec : (q : PlaceInside (if_else bs e)) → InsidePrecedes (if_else bs e) q (inl p) → inside_reachable true (if_else bs e) q ≡ true
    prec (inl q) g = h.before q g
    prec (inr q) g = absurd g

else_fault : (bs : BranchTrees) (e : ElseTree) (p : PlaceInElse e) → ElseFault e p → InsideFault (if_else bs e) (inr p)
else_fault bs e p h = record { unreached = h.unreached; enclosing = encl; before = prec }
  where
    encl : (q : PlaceInside (if_else bs e)) → InsideEncloses (if_else bs e) q (inr p) → inside_reachable true (if_else bs e) q ≡ true
    encl (inl q) g = absurd g
    encl (inr q) g = h.enclosing q g

    prec : (q : PlaceInside (if_else bs e)) → InsidePrecedes (if_else bs e) q (inr p) → inside_reachable true (if_else bs e) q ≡ true
    prec (inl q) g = absurd g
    prec (inr q) g = h.before q g

round_fault : (xs : StmtTrees) (x : _) (ys : _) (t : StmtTree) (p : PlaceIn t) → Fault (not (is_false (optional_literal x))) t p → InsideFault (for_loop xs x ys t) (inr p)
round_fault xs x ys t p h = record { unreached = h.unreached; enclosing = encl; before = prec }
  where
    encl : (q : PlaceInside (for_loop xs x ys t)) → InsideEncloses (for_loop xs x ys t) q (inr p) → inside_reachable true (for_loop xs x ys t) q ≡ true
    encl (inl q) g = absurd g
    encl (inr q) g = h.enclosing q g

    prec : (q : PlaceInside (for_loop xs x ys t)) → InsidePrecedes (for_loop xs x ys t) q (inr p) → inside_reachable true (for_loop xs x ys t) q ≡ true
    prec (inl q) g = absurd g
    prec (inr q) g = h.before q g

-- the same among statements one after another, and in branches
first_fault : (r : Bool) (x : StmtTree) (xs : StmtTrees) (p : PlaceIn x) → Fault r x p → AllFault r (stmts x xs) (inl p)
first_fault r x xs p h = record { unreached = h.unreached; enclosing = encl; before = prec }
  where
    encl : (q : PlaceInAll (stmts x xs)) → AllEnclose (stmts x xs) q (inl p) → all_reachable r (stmts x xs) q ≡ true
    encl (inl q) g = h.enclosing q g
    encl (inr q) g = absurd g

    prec : (q : PlaceInAll (stmts x xs)) → AllPrecede (stmts x xs) q (inl p) → all_reachable r (stmts x xs) q ≡ true
    prec (inl q) g = h.before q g
    prec (inr q) g = absurd g

further_fault : (x : StmtTree) (xs : StmtTrees) (p : PlaceInAll xs) → AllFault (completes true x) xs p → AllFault true (stmts x xs) (inr p)
further_fault x xs p h = record { unreached = h.unreached; enclosing = encl; before = prec }
  where
    encl : (q : PlaceInAll (stmts x xs)) → AllEnclose (stmts x xs) q (inr p) → all_reachable true (stmts x xs) q ≡ true
    encl (inl q) g = absurd g
    encl (inr q) g = h.enclosing q g

    prec : (q : PlaceInAll (stmts x xs)) → AllPrecede (stmts x xs) q (inr p) → all_reachable true (stmts x xs) q ≡ true
    prec (inl q) g = whole_reached x q g.0
    prec (inr q) g = h.before q g

first_branch_fault : (c : _) (x : StmtTree) (bs : BranchTrees) (p : PlaceIn x) → Fault true x p → BranchFault (branches c x bs) (inl p)
first_branch_fault c x bs p h = record { unreached = h.unreached; enclosing = encl; before = prec }
  where
    encl : (q : PlaceInBranches (branches c x bs)) → BranchEncloses (branches c x bs) q (inl p) → branch_reachable true (branches c x bs) q ≡ true
    encl (inl q) g = h.enclosing q g
    encl (inr q) g = absurd g

    prec : (q : PlaceInBranches (branches c x bs)) → BranchPrecedes (branches c x bs) q (inl p) → branch_reachable true (branches c x bs) q ≡ true
    prec (inl q) g = h.before q g
    prec (inr q) g = absurd g

further_branch_fault : (c : _) (x : StmtTree) (bs : BranchTrees) (p : PlaceInBranches bs) → BranchFault bs p → BranchFault (branches c x bs) (inr p)
further_branch_fault c x bs p h = record { unreached = h.unreached; enclosing = encl; before = prec }
  where
    encl : (q : PlaceInBranches (branches c x bs)) → BranchEncloses (branches c x bs) q (inr p) → branch_reachable true (branches c x bs) q ≡ true
    encl (inl q) g = absurd g
    encl (inr q) g = h.enclosing q g

    prec : (q : PlaceInBranches (branches c x bs)) → BranchPrecedes (branches c x bs) q (inr p) → branch_reachable true (branches c x bs) q ≡ true
    prec (inl q) g = absurd g
    prec (inr q) g = h.before q g

-- one that is not reached itself
whole_fault : (at : ℕ) (k : StmtKindTree) → Fault false (stmt at k) (inl tt)
whole_fault at k = record { unreached = refl; enclosing = λ q g. absurd g; before = λ q g. absurd g }

mutual
  pub told : (r : Bool) (x : StmtTree) (a : ℕ) → Contains (faults r x) a → (p : PlaceIn x) × Fault r x p × (start_in x p ≡ a)
  told false (stmt at k) a h = (inl tt, whole_fault at k, alone_is at a h)
  told true (stmt at (block xs)) a h = let u = told_all true xs a h in (inr u.0, inside_fault at (block xs) u.0 (record { unreached = u.1.unreached; enclosing = u.1.enclosing; before = u.1.before }), u.2)
  told true (stmt at empty) a h = nowhere a h
  told true (stmt at (local f t vs)) a h = nowhere a h
  told true (stmt at (effect x)) a h = nowhere a h
  told true (stmt at (if_else bs e)) a h = elim (Contains-append_cases (branch_faults bs) (else_faults e) a h) [
    | inl l ↦ let u = told_branch bs a l in (inr (inl u.0), inside_fault at (if_else bs e) (inl u.0) (branch_fault bs e u.0 u.1), u.2)
    | inr l ↦ let u = told_else e a l in (inr (inr u.0), inside_fault at (if_else bs e) (inr u.0) (else_fault bs e u.0 u.1), u.2)
  ]
  told true (stmt at (while_loop x t)) a h = let u = told (not (is_false (literal_of x))) t a h in (inr u.0, inside_fault at (while_loop x t) u.0 (record { unreached = u.1.unreached; enclosing = u.1.enclosing; before = u.1.before }), u.2)
  told true (stmt at (do_loop t x)) a h = let u = told true t a h in (inr u.0, inside_fault at (do_loop t x) u.0 (record { unreached = u.1.unreached; enclosing = u.1.enclosing; before = u.1.before }), u.2)
  told true (stmt at (for_loop xs x ys t)) a h = let u = told (not (is_false (optional_literal x))) t a h in (inr (inr u.0), inside_fault at (for_loop xs x ys t) (inr u.0) (round_fault xs x ys t u.0 u.1), u.2)
  told true (stmt at (return x)) a h = nowhere a h
  told true (stmt at break) a h = nowhere a h
  told true (stmt at continue) a h = nowhere a h

  pub told_all : (r : Bool) (xs : StmtTrees) (a : ℕ) → Contains (all_faults r xs) a → (p : PlaceInAll xs) × AllFault r xs p × (start_of_one xs p ≡ a)
  told_all r no_stmts a h = nowhere a h
  told_all true (stmts x xs) a h = elim (Contains-append_cases (faults true x) (all_faults (completes true x) xs) a h) [
    | inl l ↦ let u = told true x a l in (inl u.0, first_fault true x xs u.0 u.1, u.2)
    | inr l ↦ let u = told_all (completes true x) xs a l in (inr u.0, further_fault x xs u.0 u.1, u.2)
  ]
  told_all false (stmts (stmt at k) xs) a h = (inl (inl tt), first_fault false (stmt at k) xs (inl tt) (whole_fault at k), alone_is at a h)

  pub told_branch : (bs : BranchTrees) (a : ℕ) → Contains (branch_faults bs) a → (p : PlaceInBranches bs) × BranchFault bs p × (start_in_branch bs p ≡ a)
  told_branch no_branches a h = nowhere a h
  told_branch (branches c x bs) a h = elim (Contains-append_cases (faults true x) (branch_faults bs) a h) [
    | inl l ↦ let u = told true x a l in (inl u.0, first_branch_fault c x bs u.0 u.1, u.2)
    | inr l ↦ let u = told_branch bs a l in (inr u.0, further_branch_fault c x bs u.0 u.1, u.2)
  ]

  pub told_else : (e : ElseTree) (a : ℕ) → Contains (else_faults e) a → (p : PlaceInElse e) × ElseFault e p × (start_in_else e p ≡ a)
  told_else no_else a h = nowhere a h
  told_else (otherwise x) a h = let u = told true x a h in (u.0, record { unreached = u.1.unreached; enclosing = u.1.enclosing; before = u.1.before }, u.2)
