-- The branches of a statement.
use Rattle.jv_tree.specs.StmtTree.{StmtKindTree, BranchTrees, no_branches, block, empty, local, effect, if_else, while_loop, do_loop, for_loop, return, break, continue}

-- the conditions of an `if` with what they guard; other statements have none
abbrev pub branches_of : StmtKindTree → BranchTrees
branches_of (if_else xs e) = xs
branches_of (block xs) = no_branches
branches_of empty = no_branches
branches_of (local f t xs) = no_branches
branches_of (effect x) = no_branches
branches_of (while_loop x s) = no_branches
branches_of (do_loop s x) = no_branches
branches_of (for_loop xs x ys s) = no_branches
branches_of (return x) = no_branches
branches_of break = no_branches
branches_of continue = no_branches
