-- Examples of runs, and of what no run does.
use Rattle.std.specs.Prelude.{ℕ, Bool, true, false, List, [], ◌∷◌, None}
use Rattle.std.proofs.Common.{inl, inr}
use Rattle.jv_tree.specs.ExprTree as e
use Rattle.jv_tree.specs.ExprTree.{ExprTree}
use Rattle.jv_tree.specs.StmtTree.{StmtTree, StmtTrees, stmt, empty, while_loop, do_loop, for_loop, if_else, branches, no_branches, no_else, return, break, continue, no_stmts, stmts}
use Rattle.jv_flow.specs.Run.{FallsOff, Executes}

-- a statement alone, and two of them
abbrev pub alone : StmtTree → StmtTrees
alone x = stmts x no_stmts

-- two statements one after the other
abbrev pub two : StmtTree → StmtTree → StmtTrees
two x y = stmts x (stmts y no_stmts)

-- the literal `true`
abbrev pub always : ExprTree
always = e.expr 0 (e.bool true)

-- a condition that is no literal
abbrev pub chosen : ExprTree
chosen = e.expr 0 e.this

-- `;`
abbrev pub nothing : StmtTree
nothing = stmt 0 empty

-- an empty body is fallen off in one step; `;` takes three; `if (b) return; ;` needs the choice `false`, and without a choice
-- it ends; `while (b) ;` goes round as often as it is chosen; `while (true) break;` is fallen off, and `while (true) ;` and
-- `return; ;` never are, nor is `for (;;) ;`; a run executes the `;` behind `do continue; while (b);`, and none the one behind `return;`
abbrev pub RunsAreToldApart : Type 0
RunsAreToldApart =
    FallsOff 1 [] no_stmts
    × FallsOff 3 [] (alone nothing)
    × (FallsOff 2 [] (alone nothing) → ⊥)
    × FallsOff 8 (false ∷ []) (two (stmt 0 (if_else (branches chosen (stmt 0 (return None)) no_branches) no_else)) nothing)
    × ((n : ℕ) → FallsOff n [] (alone (stmt 0 (if_else (branches chosen nothing no_branches) no_else))) → ⊥)
    × FallsOff 9 (true ∷ true ∷ false ∷ []) (alone (stmt 0 (while_loop chosen nothing)))
    × FallsOff 9 [] (alone (stmt 0 (while_loop always (stmt 0 break))))
    × ((n : ℕ) (cs : List Bool) → FallsOff n cs (alone (stmt 0 (while_loop always nothing))) → ⊥)
    × ((n : ℕ) (cs : List Bool) → FallsOff n cs (two (stmt 0 (return None)) nothing) → ⊥)
    × Executes 9 (false ∷ []) (two (stmt 0 (do_loop (stmt 0 continue) chosen)) nothing) (inr (inl (inl tt)))
    × ((n : ℕ) (cs : List Bool) → Executes n cs (two (stmt 0 (return None)) nothing) (inr (inl (inl tt))) → ⊥)
    × ((n : ℕ) (cs : List Bool) → FallsOff n cs (alone (stmt 0 (for_loop no_stmts None e.no_exprs nothing))) → ⊥)
