-- The ways in which a statement can end, together.
use Rattle.std.specs.Prelude.{Bool, true, false, not, ◌&&◌, ◌||◌, Option}
use Rattle.jv_tree.specs.StmtTree.{StmtTree, StmtKindTree, StmtTrees, BranchTrees, no_branches, ElseTree, no_else, otherwise, if_else}
use Rattle.std.specs.Option.{option_map}
use Rattle.std.specs.declared.alloc.Global.{Global}
use Rattle.std.specs.declared.boxed.Box.{Box}
use Rattle.jv_tree.specs.declared.statement.Stmt.{Stmt}
use Rattle.jv_tree.specs.StmtTree.{optional_else}
use Rattle.jv_flow.specs.declared.ends.Ends.{Ends}
use Rattle.jv_flow.specs.Condition.{is_true}
use Rattle.jv_flow.specs.Reachable.{completes, all_complete, branch_completes, breaks, all_break, branch_breaks, continues, all_continue, branch_continues}

-- in no way
abbrev pub nowhere : Ends
nowhere = record { completes = false; breaks = false; continues = false }

-- past the end alone
abbrev pub past : Ends
past = record { completes = true; breaks = false; continues = false }

-- at a `break` alone
abbrev pub breaking : Ends
breaking = record { completes = false; breaks = true; continues = false }

-- at a `continue` alone
abbrev pub continuing : Ends
continuing = record { completes = false; breaks = false; continues = true }

-- in the ways of one or the other
abbrev pub either : Ends → Ends → Ends
either a b = record { completes = a.completes || b.completes; breaks = a.breaks || b.breaks; continues = a.continues || b.continues }

-- in the ways of what comes first and of what stands behind it
abbrev pub in_turn : Ends → Ends → Ends
in_turn a b = record { completes = b.completes; breaks = a.breaks || b.breaks; continues = a.continues || b.continues }

-- an `if` without `else`, by the ways of its branches
abbrev pub without_else : Ends → Ends
without_else a = record { completes = true; breaks = a.breaks; continues = a.continues }

-- a `while` or `for` that is reachable, by the value of its condition and the ways of its body
abbrev pub loop_ends : Option Bool → Ends → Ends
loop_ends c a = record { completes = not (is_true c) || a.breaks; breaks = false; continues = false }

-- a `do` that is reachable
abbrev pub do_ends : Option Bool → Ends → Ends
do_ends c a = record { completes = (not (is_true c) && (a.completes || a.continues)) || a.breaks; breaks = false; continues = false }

-- the ways of a statement, which is reachable where `r`
abbrev pub ends_of : Bool → StmtTree → Ends
ends_of r x = record { completes = completes r x; breaks = breaks r x; continues = continues r x }

-- the ways of statements one after another, the first of which is reachable where `r`
abbrev pub all_end : Bool → StmtTrees → Ends
all_end r xs = record { completes = all_complete r xs; breaks = all_break r xs; continues = all_continue r xs }

-- the ways of statements that stand behind others
abbrev pub all_behind : Ends → StmtTrees → Ends
all_behind a xs = in_turn a (all_end a.completes xs)

-- the ways of the branches of an `if` that is reachable
abbrev pub branches_end : BranchTrees → Ends
branches_end bs = record { completes = branch_completes true bs; breaks = branch_breaks true bs; continues = branch_continues true bs }

-- an `if` that is reachable, by the ways of its branches
abbrev pub with_else : Ends → ElseTree → Ends
with_else a no_else = without_else a
with_else a (otherwise x) = either a (ends_of true x)

-- the conditions of an `if` with what they guard; other statements have none
abbrev pub branches_of : StmtKindTree → BranchTrees
branches_of (if_else xs e) = xs
branches_of k = no_branches

-- what stands behind the last `else`, where there is one
abbrev pub else_of : Option (Box Stmt Global) → ElseTree
else_of o = optional_else (option_map (λ (b : Box Stmt Global). b.value) o)
