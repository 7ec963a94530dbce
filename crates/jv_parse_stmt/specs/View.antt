-- What functions that read statements return, against readers.
use Rattle.std.specs.Prelude.{List, Ok, if◌then◌else◌}
use Rattle.std.specs.Option.{option_map}
use Rattle.jv_tree.specs.ExprTree.{ExprTree, expr_tree, expr_trees}
use Rattle.jv_tree.specs.StmtTree as s
use Rattle.jv_tree.specs.StmtTree.{StmtTree, StmtTrees, BranchTrees, ElseTree, stmt_trees}
use Rattle.jv_grammar.specs.declared.terminal.Terminal.{Terminal}
use Rattle.jv_grammar.specs.Marks.{word_else}
use Rattle.jv_grammar.specs.TypeGrammar.{starts_word}
use Rattle.jv_grammar.specs.StmtGrammar.{effect_stmts}
use Rattle.jv_grammar.specs.Reader.{Reads, ◌>>=◌, rest_of}
use Rattle.jv_grammar.specs.ExprReader.{Below}
use Rattle.jv_grammar.specs.StmtReader.{BelowStmt, ForHead, effects_by, paren_by}
use Rattle.jv_parse_stmt.specs.declared.for_head.ForHead.{ForHead as HeadRead}

-- effects as statements
abbrev pub effect_stmts_by : Below → List Terminal → Reads StmtTrees
effect_stmts_by b xs = effects_by b xs >>= λ r. Ok (effect_stmts r.0, r.1)

-- the head of a `for`
abbrev pub head_tree : HeadRead → ForHead
head_tree h = record { first = stmt_trees h.first.items; condition = option_map expr_tree h.condition; updates = expr_trees h.updates.items }

-- a condition in parentheses, and the statement behind it
abbrev pub guarded_by : Below → BelowStmt → List Terminal → Reads (ExprTree × StmtTree)
guarded_by b l xs = paren_by b xs >>= λ r. l.stmt r.1 >>= λ q. Ok ((r.0, q.0), q.1)

-- the conditions of an `if` with what they guard, and what stands behind the last `else`
abbrev pub Branching : Type 0
Branching = BranchTrees × ElseTree

-- one condition with what it guards, and what stands behind its `else`
abbrev pub alone : ExprTree → StmtTree → ElseTree → Branching
alone e x y = (s.branches e x s.no_branches, y)

-- a branch in front of what stands behind its `else`: the branches of a further `if`, or any other statement
abbrev pub with_else : ExprTree → StmtTree → StmtTree → Branching
with_else e x (s.stmt at (s.if_else bs y)) = (s.branches e x bs, y)
with_else e x y = alone e x (s.otherwise y)

-- the branches of an `if`, behind its keyword
abbrev pub branches_by : Below → BelowStmt → List Terminal → Reads Branching
branches_by b l xs = guarded_by b l xs >>= λ r.
    if starts_word word_else r.1
    then (l.stmt (rest_of r.1) >>= λ u. Ok (with_else r.0.0 r.0.1 u.0, u.1))
    else Ok (alone r.0.0 r.0.1 s.no_else, r.1)
