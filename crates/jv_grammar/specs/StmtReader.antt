-- Reading statements, blocks and local variables.
use Rattle.std.specs.Prelude.{ℕ, zero, suc, Bool, true, false, ◌||◌, nat_eq, List, [], ◌∷◌, length, Option, None, Some, Result, Ok, Err, if◌then◌else◌}
use Rattle.jv_tree.specs.declared.name.Ident.{Ident as Identifier}
use Rattle.jv_tree.specs.ExprTree as t
use Rattle.jv_tree.specs.ExprTree.{ExprTree, ExprTrees, InitTree}
use Rattle.jv_tree.specs.StmtTree as s
use Rattle.jv_tree.specs.StmtTree.{VarTree, StmtTree, StmtTrees}
use Rattle.jv_grammar.specs.declared.terminal.Terminal.{Terminal}
use Rattle.jv_grammar.specs.declared.terminal.Terminal.TheVariants.{Ident, Keyword, Punct}
use Rattle.jv_grammar.specs.declared.form.Form.{Form}
use Rattle.jv_grammar.specs.declared.form.Form.TheVariants.{Effect}
use Rattle.jv_grammar.specs.Marks.{paren_open, paren_close, brace_open, brace_close, semicolon, comma, equals_sign, word_break, word_continue, word_do, word_else, word_final, word_for, word_if, word_return, word_while}
use Rattle.jv_grammar.specs.TypeGrammar.{is_mark, starts, starts_word}
use Rattle.jv_grammar.specs.ExprGrammar.{at_of}
use Rattle.jv_grammar.specs.StmtGrammar.{if_else_kind, effect_stmts}
use Rattle.jv_grammar.specs.Reader.{Reads, ◌>>=◌, rest_of, closed}
use Rattle.jv_grammar.specs.TypeReader.{ty_of, declares}
use Rattle.jv_grammar.specs.ExprReader.{Below, expr_of, init_of, below}

-- The readers of what is nested one statement deeper.
pub record BelowStmt : Type 0 where
  pub stmt : List Terminal → Reads StmtTree
  pub bstmts : List Terminal → Reads StmtTrees

-- what stands behind the mark n, the keyword n
abbrev pub behind : ℕ → List Terminal → Result (List Terminal) (List Terminal)
behind n xs = if starts n xs then Ok (rest_of xs) else Err xs

-- what stands behind the keyword n
abbrev pub behind_word : ℕ → List Terminal → Result (List Terminal) (List Terminal)
behind_word n xs = if starts_word n xs then Ok (rest_of xs) else Err xs

-- a variable, behind its identifier
abbrev pub init_for : Below → Identifier → List Terminal → Reads VarTree
init_for b i xs =
    if starts equals_sign xs
    then (init_of b (rest_of xs) >>= λ r. Ok (record { name = i; init = Some r.0 }, r.1))
    else Ok (record { name = i; init = None }, xs)

-- a variable: its identifier, and its initializer where an `=` stands behind it
unfoldable pub var_by : Below → List Terminal → Reads VarTree
var_by b (Ident i ∷ xs) = init_for b i xs
var_by b xs = Err xs

-- variables with commas between them, at most as many as counted
unfoldable pub vars_up_to : Below → ℕ → List Terminal → Reads (List VarTree)
vars_up_to b zero xs = Err xs
vars_up_to b (suc c) xs = var_by b xs >>= λ r.
    if starts comma r.1
    then (vars_up_to b c (rest_of r.1) >>= λ q. Ok (r.0 ∷ q.0, q.1))
    else Ok (r.0 ∷ [], r.1)

-- variables with commas between them
unfoldable pub vars_by : Below → List Terminal → Reads (List VarTree)
vars_by b xs = vars_up_to b (length xs) xs

-- local variables, behind a `final` at p or without one
unfoldable pub final_by : Below → ℕ → List Terminal → Reads StmtTree
final_by b p xs = ty_of xs >>= λ r. vars_by b r.1 >>= λ q. Ok (s.stmt p (s.local true r.0 q.0), q.1)

-- local variables without a `final`
unfoldable pub plain_by : Below → List Terminal → Reads StmtTree
plain_by b xs = ty_of xs >>= λ r. vars_by b r.1 >>= λ q. Ok (s.stmt r.0.at (s.local false r.0 q.0), q.1)

-- local variables, with a `final` in front or without one
unfoldable pub local_by : Below → List Terminal → Reads StmtTree
local_by b (Keyword p k ∷ xs) = if nat_eq k word_final then final_by b p xs else plain_by b (Keyword p k ∷ xs)
local_by b xs = plain_by b xs

-- the terminals begin local variables
abbrev pub begins_local : List Terminal → Bool
begins_local xs = starts_word word_final xs || declares xs

-- an expression that is an effect; else what stands behind it is refused
abbrev pub is_effect : Form → Bool
is_effect Effect = true
is_effect f = false

-- an effect; of any other expression what stands behind it is refused
unfoldable pub effect_by : Below → List Terminal → Reads ExprTree
effect_by b xs = expr_of b xs >>= λ r. if is_effect r.0.0 then Ok (r.0.1, r.1) else Err r.1

-- effects with commas between them, at most as many as counted
unfoldable pub effects_up_to : Below → ℕ → List Terminal → Reads ExprTrees
effects_up_to b zero xs = Err xs
effects_up_to b (suc c) xs = effect_by b xs >>= λ r.
    if starts comma r.1
    then (effects_up_to b c (rest_of r.1) >>= λ q. Ok (t.exprs r.0 q.0, q.1))
    else Ok (t.exprs r.0 t.no_exprs, r.1)

-- effects with commas between them
unfoldable pub effects_by : Below → List Terminal → Reads ExprTrees
effects_by b xs = effects_up_to b (length xs) xs

-- what a `for` begins with, up to its `;`
unfoldable pub first_by : Below → List Terminal → Reads StmtTrees
first_by b xs =
    if starts semicolon xs then Ok (s.no_stmts, xs)
    else if begins_local xs then (local_by b xs >>= λ r. Ok (s.stmts r.0 s.no_stmts, r.1))
    else (effects_by b xs >>= λ r. Ok (effect_stmts r.0, r.1))

-- an expression or none, up to a `;`
unfoldable pub optional_by : Below → List Terminal → Reads (Option ExprTree)
optional_by b xs = if starts semicolon xs then Ok (None, xs) else (expr_of b xs >>= λ r. Ok (Some r.0.1, r.1))

-- effects or none, up to a `)`
unfoldable pub updates_by : Below → List Terminal → Reads ExprTrees
updates_by b xs = if starts paren_close xs then Ok (t.no_exprs, xs) else effects_by b xs

-- an expression in parentheses
unfoldable pub paren_by : Below → List Terminal → Reads ExprTree
paren_by b xs = behind paren_open xs >>= λ ys. expr_of b ys >>= λ r. closed paren_close r.0.1 r.1

-- a block with where it starts
unfoldable pub block_by : BelowStmt → List Terminal → Reads (ℕ × StmtTrees)
block_by l (Punct p o ∷ xs) =
    if nat_eq o brace_open then (l.bstmts xs >>= λ r. closed brace_close (p, r.0) r.1)
    else Err (Punct p o ∷ xs)
block_by l xs = Err xs

-- an effect as a statement
unfoldable pub effect_stmt_by : Below → List Terminal → Reads StmtTree
effect_stmt_by b xs = effect_by b xs >>= λ r. closed semicolon (s.stmt (at_of r.0) (s.effect r.0)) r.1

-- Statements behind their keyword, which is at p. An `else` is taken by the nearest `if`.
unfoldable pub if_by : Below → BelowStmt → ℕ → List Terminal → Reads StmtTree
if_by b l p xs = paren_by b xs >>= λ r. l.stmt r.1 >>= λ q.
    if starts_word word_else q.1
    then (l.stmt (rest_of q.1) >>= λ u. Ok (s.stmt p (if_else_kind r.0 q.0 u.0), u.1))
    else Ok (s.stmt p (s.if_else (s.branches r.0 q.0 s.no_branches) s.no_else), q.1)

-- a `while` behind its keyword, which is at p
unfoldable pub while_by : Below → BelowStmt → ℕ → List Terminal → Reads StmtTree
while_by b l p xs = paren_by b xs >>= λ r. l.stmt r.1 >>= λ q. Ok (s.stmt p (s.while_loop r.0 q.0), q.1)

-- a `do` behind its keyword, which is at p, up to the `;` behind its condition
unfoldable pub do_by : Below → BelowStmt → ℕ → List Terminal → Reads StmtTree
do_by b l p xs = l.stmt xs >>= λ r. behind_word word_while r.1 >>= λ ys. paren_by b ys >>= λ q. closed semicolon (s.stmt p (s.do_loop r.0 q.0)) q.1

-- the head of a `for`, in its parentheses
pub record ForHead : Type 0 where
  pub first : StmtTrees
  pub condition : Option ExprTree
  pub updates : ExprTrees

-- the head of a `for`, with its parentheses
unfoldable pub for_head_by : Below → List Terminal → Reads ForHead
for_head_by b xs = behind paren_open xs >>= λ ys.
    first_by b ys >>= λ r. behind semicolon r.1 >>= λ zs.
    optional_by b zs >>= λ q. behind semicolon q.1 >>= λ ws.
    updates_by b ws >>= λ u. closed paren_close (record { first = r.0; condition = q.0; updates = u.0 }) u.1

-- a `for` behind its keyword, which is at p
unfoldable pub for_by : Below → BelowStmt → ℕ → List Terminal → Reads StmtTree
for_by b l p xs = for_head_by b xs >>= λ r. l.stmt r.1 >>= λ q. Ok (s.stmt p (s.for_loop r.0.first r.0.condition r.0.updates q.0), q.1)

-- a `return` behind its keyword, which is at p
unfoldable pub return_by : Below → ℕ → List Terminal → Reads StmtTree
return_by b p xs = optional_by b xs >>= λ r. closed semicolon (s.stmt p (s.return r.0)) r.1

-- what a keyword begins
unfoldable pub word_by : Below → BelowStmt → ℕ → ℕ → List Terminal → Reads StmtTree
word_by b l p k xs =
    if nat_eq k word_if then if_by b l p xs
    else if nat_eq k word_while then while_by b l p xs
    else if nat_eq k word_do then do_by b l p xs
    else if nat_eq k word_for then for_by b l p xs
    else if nat_eq k word_return then return_by b p xs
    else if nat_eq k word_break then closed semicolon (s.stmt p s.break) xs
    else if nat_eq k word_continue then closed semicolon (s.stmt p s.continue) xs
    else effect_stmt_by b (Keyword p k ∷ xs)

-- a statement: what a keyword begins, a block, a `;` alone, or an effect
unfoldable pub stmt_by : Below → BelowStmt → List Terminal → Reads StmtTree
stmt_by b l (Keyword p k ∷ xs) = word_by b l p k xs
stmt_by b l (Punct p o ∷ xs) =
    if nat_eq o brace_open then (block_by l (Punct p o ∷ xs) >>= λ r. Ok (s.stmt r.0.0 (s.block r.0.1), r.1))
    else if nat_eq o semicolon then Ok (s.stmt p s.empty, xs)
    else effect_stmt_by b (Punct p o ∷ xs)
stmt_by b l xs = effect_stmt_by b xs

-- a statement of a block: local variables, or any other
unfoldable pub bstmt_by : Below → BelowStmt → List Terminal → Reads StmtTree
bstmt_by b l xs = if begins_local xs then (local_by b xs >>= λ r. closed semicolon r.0 r.1) else stmt_by b l xs

-- no further statement of a block stands here
abbrev pub ends_block : List Terminal → Bool
ends_block [] = true
ends_block (x ∷ xs) = is_mark brace_close x

-- statements of a block up to a `}` or the end, at most as many as counted
unfoldable pub bstmts_up_to : Below → BelowStmt → ℕ → List Terminal → Reads StmtTrees
bstmts_up_to b l zero xs = Err xs
bstmts_up_to b l (suc c) xs =
    if ends_block xs then Ok (s.no_stmts, xs)
    else (bstmt_by b l xs >>= λ r. bstmts_up_to b l c r.1 >>= λ q. Ok (s.stmts r.0 q.0, q.1))

-- statements of a block up to a `}` or the end
unfoldable pub bstmts_by : Below → BelowStmt → List Terminal → Reads StmtTrees
bstmts_by b l xs = bstmts_up_to b l (suc (length xs)) xs

-- the readers of what nests less than n deep; an expression in a statement may nest as deep as the statement
unfoldable pub below_stmt : ℕ → BelowStmt
below_stmt zero = record { stmt = λ xs. Err xs; bstmts = λ xs. Err xs }
below_stmt (suc n) = record { stmt = stmt_by (below n) (below_stmt n); bstmts = bstmts_by (below n) (below_stmt n) }

-- The readers of what nests at most n deep.
abbrev pub vars_of : ℕ → List Terminal → Reads (List VarTree)
vars_of n = vars_by (below n)

-- local variables that nest at most n deep
abbrev pub local_of : ℕ → List Terminal → Reads StmtTree
local_of n = local_by (below n)

-- a block that nests at most n deep, with where it starts
abbrev pub block_of : ℕ → List Terminal → Reads (ℕ × StmtTrees)
block_of n = block_by (below_stmt n)

-- statements of a block that nest at most n deep
abbrev pub bstmts_of : ℕ → List Terminal → Reads StmtTrees
bstmts_of n = bstmts_by (below n) (below_stmt n)

-- a statement that nests at most n deep
abbrev pub stmt_of : ℕ → List Terminal → Reads StmtTree
stmt_of n = stmt_by (below n) (below_stmt n)
