-- What a function that reads terminals returns, against a reader: what it read, or how many terminals are left where one was refused.
use Rattle.std.specs.Prelude.{◌≡◌, ◌&&◌, ◌+◌, ◌<◌, ◌≤◌, ℕ, Bool, true, false, nat_eq, List, [], ◌∷◌, length, Option, Some, None, Result, Ok, Err, get_or, drop, if◌then◌else◌}
use Rattle.std.specs.List.{list_any}
use Rattle.std.specs.Borrow.{Bor}
use Rattle.jv_tree.specs.declared.expression.Expr.{Expr}
use Rattle.jv_tree.specs.declared.expression.Operand.{Operand}
use Rattle.jv_tree.specs.declared.name.Ident.{Ident as Identifier}
use Rattle.jv_tree.specs.ExprTree as t
use Rattle.jv_tree.specs.ExprTree.{ExprTree, KindTree, OperandTree, ExprTrees, InitTrees, LinkTrees, expr_tree, expr_trees, init_tree, init_trees, link_trees, operand_tree}
use Rattle.jv_tree.specs.Shaped.{instance_of, levels, postfix_operators}
use Rattle.jv_grammar.specs.declared.terminal.Terminal.{Terminal}
use Rattle.jv_grammar.specs.declared.form.Form.{Form}
use Rattle.jv_grammar.specs.declared.form.Form.TheVariants.{Target}
use Rattle.jv_grammar.specs.declared.terminal.Terminal.TheVariants.{Keyword, Punct}
use Rattle.jv_grammar.specs.Marks.{brace_close, bracket_open, bracket_close, comma, dot, word_instanceof}
use Rattle.jv_grammar.specs.TypeGrammar.{starts}
use Rattle.jv_grammar.specs.ExprGrammar.{at_of}
use Rattle.jv_grammar.specs.Reader.{Reads, ◌>>=◌, rest_of, closed}
use Rattle.jv_grammar.specs.TypeReader.{reference_of}
use Rattle.jv_grammar.specs.ExprReader.{Parsed, Below, done, member_of, is_mark_of, run_of}
use Rattle.jv_parse_expr.specs.declared.fault.Fault.{Fault}
use Rattle.jv_parse_expr.specs.declared.fault.Fault.TheVariants.{OutOfMemory, Refused}

-- how many terminals are left where reading stopped
abbrev pub left : {Y : Type 0} → Result Y (List Terminal) → Option ℕ
left (Ok y) = None
left (Err xs) = Some (length xs)

-- the fault is that of reading, unless memory ran out
abbrev pub Fails : {Y : Type 0} → Fault → Result Y (List Terminal) → Type 0
Fails OutOfMemory read = Unit {0}
Fails (Refused n) read = left read ≡ Some n

-- what a function returned, seen by view, is what reading gives, unless memory ran out
abbrev pub Gives : {X Y : Type 0} → (X → Y) → Result X Fault → Result Y (List Terminal) → Type 0
Gives view (Ok x) read = read ≡ Ok (view x)
Gives view (Err e) read = Fails e read

-- an expression with its form and the terminals behind it
abbrev pub shown : Form × Expr × Bor (List Terminal) → Parsed × List Terminal
shown r = ((r.0, expr_tree r.1), r.2.now)

-- the terminals behind what reading gives
abbrev pub past : {Y : Type 0} → Result (Y × List Terminal) (List Terminal) → Option (List Terminal)
past (Ok r) = Some r.1
past (Err e) = None

-- what was returned are the terminals behind what reading gives, if it gives anything
abbrev pub Skips : {Y : Type 0} → Option (Bor (List Terminal)) → Result (Y × List Terminal) (List Terminal) → Type 0
Skips None read = past read ≡ None
Skips (Some r) read = past read ≡ Some r.now

-- the terminals begin as is asked, and these are all of them but the first
abbrev pub StandsBehind : Bool → List Terminal → List Terminal → Type 0
StandsBehind begins xs ys = (begins ≡ true) × (ys ≡ rest_of xs) × (length xs ≡ length ys + 1)

-- the run that the terminals start with is the identifier and the run of these, which are fewer
abbrev pub StartsRun : List Terminal → Identifier → List Terminal → Type 0
StartsRun xs i ys = (run_of xs ≡ (i ∷ (run_of ys).0, (run_of ys).1)) × (length ys < length xs)

-- a `++` or `--` of the place and the number stands first, and these terminals behind it
abbrev pub StartsStep : List Terminal → ℕ → ℕ → List Terminal → Type 0
StartsStep xs p o ys = (xs ≡ Punct p o ∷ ys) × (list_any (nat_eq o) postfix_operators ≡ true) × (length ys < length xs)

-- an identifier in front of a run of them
abbrev pub headed : Identifier → List Identifier × List Terminal → Reads (List Identifier)
headed i r = Ok (i ∷ r.0, r.1)

-- an operator with its place, its number and its operand
abbrev pub Link : Type 0
Link = ℕ × ℕ × OperandTree

-- no operator stands first
abbrev pub no_link : List Terminal → Reads (Option Link)
no_link xs = Ok (None, xs)

-- an operator with its operand stands first, and these terminals behind it
abbrev pub some_link : ℕ → ℕ → OperandTree → List Terminal → Reads (Option Link)
some_link p o x ys = Ok (Some (p, o, x), ys)

-- an operator of the level with its operand, if one stands first
abbrev pub link_of : (List Terminal → Reads Parsed) → List ℕ → List Terminal → Reads (Option Link)
link_of operand level (Punct p o ∷ xs) = if is_mark_of level o then (operand xs >>= λ r. some_link p o (t.operand r.0.1) r.1) else no_link (Punct p o ∷ xs)
link_of operand level (Keyword p k ∷ xs) =
    if nat_eq k word_instanceof && list_any (nat_eq instance_of) level
    then (reference_of xs >>= λ r. some_link p instance_of (t.of_type r.0) r.1)
    else no_link (Keyword p k ∷ xs)
link_of operand level xs = no_link xs

-- the operators of the level of a number, from 0 for the loosest
abbrev pub level_at : ℕ → List ℕ
level_at k = get_or levels k []

-- the levels that bind tighter than that of a number
abbrev pub tighter_than : ℕ → List (List ℕ)
tighter_than k = drop (k + 1) levels

-- no operator of the level of a number stands first
abbrev pub HasNoLink : ℕ → List Terminal → Type 0
HasNoLink k xs = (operand : List Terminal → Reads Parsed) → link_of operand (level_at k) xs ≡ no_link xs

-- no operator of a level from the one number to below the other stands first
abbrev pub HasNoLinks : ℕ → ℕ → List Terminal → Type 0
HasNoLinks low high xs = (k : ℕ) → low ≤ k → k < high → HasNoLink k xs

-- an operator of the code with its operand
abbrev pub link_tree : ℕ × ℕ × Operand → Link
link_tree l = (l.0, l.1, operand_tree l.2)

-- an expression, with its form if a field, a call or an index was read behind it
abbrev pub Suffixed : Type 0
Suffixed = Option Form × ExprTree

-- an expression with the field, the call or the index behind it, or the expression itself
abbrev pub suffix_of : Below → ExprTree → List Terminal → Reads Suffixed
suffix_of b e xs =
    if starts bracket_open xs
    then (b.expr (rest_of xs) >>= λ r. closed bracket_close r.0.1 r.1 >>= λ s. Ok ((Some Target, t.expr (at_of e) (t.index e s.0)), s.1))
    else if starts dot xs
    then (member_of b.expr done (at_of e) (t.on e) (t.field e) (rest_of xs) >>= λ r. Ok ((Some r.0.0, r.0.1), r.1))
    else Ok ((None, e), xs)

-- what is read, as a reader's result
abbrev pub stepped : Parsed × List Terminal → Reads Parsed
stepped r = Ok r

-- whether another element stands behind an element of a list, or else its end
abbrev pub separator_of : List Terminal → Reads Bool
separator_of xs =
    if starts comma xs
    then (if starts brace_close (rest_of xs) then Ok (false, rest_of (rest_of xs)) else Ok (true, rest_of xs))
    else closed brace_close false xs
