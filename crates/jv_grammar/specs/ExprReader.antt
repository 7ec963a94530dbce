-- Reading expressions, initializers and lists.
use Rattle.std.specs.Prelude.{ℕ, zero, suc, Bool, false, ◌&&◌, ◌||◌, not, nat_eq, List, [], ◌∷◌, length, Ok, Err, if◌then◌else◌}
use Rattle.std.specs.List.{list_any}
use Rattle.jv_tree.specs.declared.name.Ident.{Ident as Identifier}
use Rattle.jv_tree.specs.TypeTree.{BaseTree, named}
use Rattle.jv_tree.specs.ExprTree as t
use Rattle.jv_tree.specs.ExprTree.{ExprTree, KindTree, TargetTree, InitTree, ExprTrees, InitTrees, LinkTrees}
use Rattle.jv_tree.specs.Shaped.{levels, instance_of, postfix_operators, assignment_operators}
use Rattle.jv_grammar.specs.declared.terminal.Terminal.{Terminal}
use Rattle.jv_grammar.specs.declared.terminal.Terminal.TheVariants.{Ident, Keyword, Literal, Minimum, MinimumLong, Punct}
use Rattle.jv_grammar.specs.declared.form.Form.{Form}
use Rattle.jv_grammar.specs.declared.form.Form.TheVariants.{Target, Effect, Other}
use Rattle.jv_grammar.specs.Marks.{paren_open, paren_close, brace_open, brace_close, bracket_open, bracket_close, comma, dot, question_mark, colon, minus_sign, signs, word_instanceof, word_new, word_super, word_this}
use Rattle.jv_grammar.specs.TypeGrammar.{is_mark, starts}
use Rattle.jv_grammar.specs.ExprGrammar.{at_of, kind_of, literal_tree, begins_plain, goes_on}
use Rattle.jv_grammar.specs.Reader.{Reads, ◌>>=◌, rest_of, closed}
use Rattle.jv_grammar.specs.TypeReader.{name_of, base_of, pairs_of, ty_of, is_bare, reference_of, prim_of, is_prim, starts_pair}

-- an expression with its outermost form
abbrev pub Parsed : Type 0
Parsed = Form × ExprTree

-- The readers of what is nested one level deeper.
pub record Below : Type 0 where
  pub expr : List Terminal → Reads Parsed
  pub cond : List Terminal → Reads Parsed
  pub unary : List Terminal → Reads Parsed
  pub init : List Terminal → Reads InitTree

-- the longest name of a head, behind its first identifier
abbrev pub named_on : Terminal → List Identifier × List Terminal → List Identifier × List Terminal
named_on (Ident i) r = (i ∷ r.0, r.1)
named_on x r = r

-- the identifiers of the longest name of a head that stand behind its first one, each behind its dot
unfoldable pub run_of : List Terminal → List Identifier × List Terminal
run_of [] = ([], [])
run_of (x ∷ []) = ([], x ∷ [])
run_of (x ∷ y ∷ xs) = if is_mark dot x && goes_on (y ∷ xs) then named_on y (run_of xs) else ([], x ∷ y ∷ xs)

-- expressions with commas between them, at most as many as counted
unfoldable pub exprs_of : (List Terminal → Reads Parsed) → ℕ → List Terminal → Reads ExprTrees
exprs_of expr zero xs = Err xs
exprs_of expr (suc c) xs = expr xs >>= λ r.
    if starts comma r.1
    then (exprs_of expr c (rest_of r.1) >>= λ s. Ok (t.exprs r.0.1 s.0, s.1))
    else Ok (t.exprs r.0.1 t.no_exprs, r.1)

-- arguments in parentheses
unfoldable pub args_of : (List Terminal → Reads Parsed) → List Terminal → Reads ExprTrees
args_of expr xs =
    if starts paren_open xs
    then (if starts paren_close (rest_of xs) then Ok (t.no_exprs, rest_of (rest_of xs))
    else (exprs_of expr (length xs) (rest_of xs) >>= λ r. closed paren_close r.0 r.1))
    else Err xs

-- the elements of a list, at most as many as counted, up to its end
unfoldable pub inits_of : (List Terminal → Reads InitTree) → ℕ → List Terminal → Reads InitTrees
inits_of init zero xs = Err xs
inits_of init (suc c) xs = init xs >>= λ r.
    if starts comma r.1
    then (if starts brace_close (rest_of r.1) then Ok (t.inits r.0 t.no_inits, rest_of (rest_of r.1))
    else (inits_of init c (rest_of r.1) >>= λ s. Ok (t.inits r.0 s.0, s.1)))
    else closed brace_close (t.inits r.0 t.no_inits) r.1

-- the elements of a list in braces
unfoldable pub list_of : (List Terminal → Reads InitTree) → List Terminal → Reads InitTrees
list_of init xs =
    if starts brace_open xs
    then (if starts brace_close (rest_of xs) then Ok (t.no_inits, rest_of (rest_of xs))
    else if starts comma (rest_of xs) then closed brace_close t.no_inits (rest_of (rest_of xs))
    else inits_of init (length xs) (rest_of xs))
    else Err xs

-- the sizes of a new array and how many pairs of brackets stand behind them; there is room for so many of both
unfoldable pub sizes_of : (List Terminal → Reads Parsed) → ℕ → List Terminal → Reads (ExprTrees × ℕ)
sizes_of expr zero xs = if starts bracket_open xs then Err xs else Ok ((t.no_exprs, zero), xs)
sizes_of expr (suc room) xs =
    if starts_pair xs then (pairs_of (suc room) xs >>= λ r. Ok ((t.no_exprs, r.0), r.1))
    else if starts bracket_open xs
    then (expr (rest_of xs) >>= λ r. closed bracket_close r.0.1 r.1 >>= λ s.
    sizes_of expr room s.1 >>= λ u. Ok ((t.exprs s.0 u.0.0, u.0.1), u.1))
    else Ok ((t.no_exprs, zero), xs)

-- a new object of the class, or else a new array of the base, behind the class or base
abbrev pub object_of : Below → ℕ → BaseTree → List Terminal → Reads Parsed
object_of b p (named ids) xs = args_of b.expr xs >>= λ r. Ok ((Effect, t.expr p (t.new ids r.0)), r.1)
object_of b p base xs = Err xs

-- a new array of the base, behind the base: with pairs of brackets and a list, or with sizes
abbrev pub array_of : Below → ℕ → ℕ → BaseTree → List Terminal → Reads Parsed
array_of b p q base xs =
    if starts_pair xs
    then (pairs_of 200 xs >>= λ r. list_of b.init r.1 >>= λ s. Ok ((Other, t.expr p (t.new_list (record { at = q; base = base; dims = r.0 }) s.0)), s.1))
    else if starts bracket_open xs
    then (sizes_of b.expr 200 xs >>= λ r. Ok ((Other, t.expr p (t.new_array (record { at = q; base = base; dims = r.0.1 }) r.0.0)), r.1))
    else Err xs

-- what stands behind `new`, which is at p
unfoldable pub new_of : Below → ℕ → List Terminal → Reads Parsed
new_of b p xs = base_of xs >>= λ r. if starts paren_open r.1 then object_of b p r.0.1 r.1 else array_of b p r.0.0 r.0.1 r.1

-- an identifier with arguments, or else without: the method or the field of what stands in front, with the place p
abbrev pub member_of : (List Terminal → Reads Parsed) → (Form → ExprTree → List Terminal → Reads Parsed) → ℕ → TargetTree → (Identifier → KindTree) → List Terminal → Reads Parsed
member_of expr go p target field (Ident i ∷ xs) =
    if starts paren_open xs
    then (args_of expr xs >>= λ r. go Effect (t.expr p (t.call target i r.0)) r.1)
    else go Target (t.expr p (field i)) xs
member_of expr go p target field xs = Err xs

-- what is read
abbrev pub done : Form → ExprTree → List Terminal → Reads Parsed
done f e xs = Ok ((f, e), xs)

-- what stands behind `super`, which is at p
abbrev pub super_of : Below → ℕ → List Terminal → Reads Parsed
super_of b p xs = if starts dot xs then member_of b.expr done p t.super t.super_field (rest_of xs) else Err xs

-- a head: a call or a name, a literal, `this`, what `super` or `new` begins, or an expression in parentheses
unfoldable pub head_of : Below → List Terminal → Reads Parsed
head_of b (Ident i ∷ xs) =
    if starts paren_open xs then (args_of b.expr xs >>= λ r. Ok ((Effect, t.expr i.at (t.call t.bare i r.0)), r.1))
    else Ok ((Target, t.expr i.at (t.name (i ∷ (run_of xs).0))), (run_of xs).1)
head_of b (Literal p l ∷ xs) = Ok ((Other, t.expr p (literal_tree l)), xs)
head_of b (Keyword p k ∷ xs) =
    if nat_eq k word_this then Ok ((Other, t.expr p t.this), xs)
    else if nat_eq k word_super then super_of b p xs
    else if nat_eq k word_new then new_of b p xs
    else Err (Keyword p k ∷ xs)
head_of b (Punct p o ∷ xs) =
    if nat_eq o paren_open then (b.expr xs >>= λ r. closed paren_close (Other, t.expr p (kind_of r.0.1)) r.1)
    else Err (Punct p o ∷ xs)
head_of b xs = Err xs

-- the fields, calls and indexes behind a head, at most as many as counted
unfoldable pub suffixes_of : Below → ℕ → Form → ExprTree → List Terminal → Reads Parsed
suffixes_of b zero f e xs = Err xs
suffixes_of b (suc c) f e xs =
    if starts bracket_open xs
    then (b.expr (rest_of xs) >>= λ r. closed bracket_close r.0.1 r.1 >>= λ s. suffixes_of b c Target (t.expr (at_of e) (t.index e s.0)) s.1)
    else if starts dot xs
    then member_of b.expr (suffixes_of b c) (at_of e) (t.on e) (t.field e) (rest_of xs)
    else Ok ((f, e), xs)

-- a head with the fields, calls and indexes behind it
unfoldable pub primary_of : Below → List Terminal → Reads Parsed
primary_of b xs = head_of b xs >>= λ r. suffixes_of b (suc (length xs)) r.0.0 r.0.1 r.1

-- the `++` and `--` behind a primary
unfoldable pub steps_of : Form → ExprTree → List Terminal → Parsed × List Terminal
steps_of f e (Punct p o ∷ xs) =
    if list_any (nat_eq o) postfix_operators then steps_of Effect (t.expr (at_of e) (t.post p o e)) xs else ((f, e), Punct p o ∷ xs)
steps_of f e xs = ((f, e), xs)

-- a primary with the `++` and `--` behind it
unfoldable pub post_of : Below → List Terminal → Reads Parsed
post_of b xs = primary_of b xs >>= λ r. Ok (steps_of r.0.0 r.0.1 r.1)

-- what is read has a pair of brackets behind it, or a `)` and a terminal that begins a `plain`
abbrev pub is_cast : Reads (List Identifier) → Bool
is_cast (Ok r) = starts_pair r.1 || (starts paren_close r.1 && begins_plain (rest_of r.1))
is_cast (Err e) = false

-- behind a `(` stands a type and what makes it a cast
unfoldable pub cast_ahead : List Terminal → Bool
cast_ahead (Keyword p k ∷ xs) = is_prim (prim_of k)
cast_ahead (Ident i ∷ xs) = is_cast (name_of (Ident i ∷ xs))
cast_ahead xs = false

-- a cast behind its `(`, which is at p
unfoldable pub cast_of : Below → ℕ → List Terminal → Reads Parsed
cast_of b p xs = ty_of xs >>= λ r. closed paren_close r.0 r.1 >>= λ s.
    if is_bare s.0 || begins_plain s.1
    then (b.unary s.1 >>= λ u. Ok ((Other, t.expr p (t.cast s.0 u.0.1)), u.1))
    else Err s.1

-- what stands behind a sign, which is at p; a minimum literal stands behind `-` alone
abbrev pub signed_by : Below → ℕ → ℕ → List Terminal → Reads Parsed
signed_by b p o xs = b.unary xs >>= λ r. Ok ((Other, t.expr p (t.pre p o r.0.1)), r.1)

-- what stands behind a sign, which is at p: a minimum literal, which all signs but `-` refuse, or a unary
unfoldable pub signed_of : Below → ℕ → ℕ → List Terminal → Reads Parsed
signed_of b p o (Minimum q ∷ xs) = if nat_eq o minus_sign then Ok ((Other, t.expr p (t.pre p o (t.expr q t.int))), xs) else Err (Minimum q ∷ xs)
signed_of b p o (MinimumLong q ∷ xs) = if nat_eq o minus_sign then Ok ((Other, t.expr p (t.pre p o (t.expr q t.long))), xs) else Err (MinimumLong q ∷ xs)
signed_of b p o xs = signed_by b p o xs

-- a unary: `++`, `--` or a sign with what stands behind it, a cast, or a primary with the `++` and `--` behind it
unfoldable pub unary_of : Below → List Terminal → Reads Parsed
unary_of b (Punct p o ∷ xs) =
    if list_any (nat_eq o) postfix_operators then (b.unary xs >>= λ r. Ok ((Effect, t.expr p (t.pre p o r.0.1)), r.1))
    else if list_any (nat_eq o) signs then signed_of b p o xs
    else if nat_eq o paren_open && cast_ahead xs then cast_of b p xs
    else post_of b (Punct p o ∷ xs)
unary_of b xs = post_of b xs

-- the mark is an operator of the level
abbrev pub is_mark_of : List ℕ → ℕ → Bool
is_mark_of level o = list_any (nat_eq o) level && not (nat_eq o instance_of)

-- the operators of the level with what stands behind them, at most as many as counted
unfoldable pub links_of : (List Terminal → Reads Parsed) → List ℕ → ℕ → List Terminal → Reads LinkTrees
links_of operand level zero xs = Err xs
links_of operand level (suc c) (Punct p o ∷ xs) =
    if is_mark_of level o
    then (operand xs >>= λ r. links_of operand level c r.1 >>= λ s. Ok (t.links p o (t.operand r.0.1) s.0, s.1))
    else Ok (t.no_links, Punct p o ∷ xs)
links_of operand level (suc c) (Keyword p k ∷ xs) =
    if nat_eq k word_instanceof && list_any (nat_eq instance_of) level
    then (reference_of xs >>= λ r. links_of operand level c r.1 >>= λ s. Ok (t.links p instance_of (t.of_type r.0) s.0, s.1))
    else Ok (t.no_links, Keyword p k ∷ xs)
links_of operand level (suc c) xs = Ok (t.no_links, xs)

-- an operand with the operators behind it
abbrev pub chained : Parsed → LinkTrees → Parsed
chained r t.no_links = r
chained r (t.links p o x ls) = (Other, t.expr (at_of r.1) (t.chain r.1 (t.links p o x ls)))

-- operands and operators of these levels, loosest first
unfoldable pub bin_of : Below → List (List ℕ) → List Terminal → Reads Parsed
bin_of b [] xs = unary_of b xs
bin_of b (level ∷ tighter) xs = bin_of b tighter xs >>= λ r.
    links_of (bin_of b tighter) level (suc (length xs)) r.1 >>= λ s. Ok (chained r.0 s.0, s.1)

-- operands and operators of all levels, and where a `?` stands behind them a conditional
unfoldable pub cond_of : Below → List Terminal → Reads Parsed
cond_of b xs = bin_of b levels xs >>= λ r.
    if starts question_mark r.1
    then (b.expr (rest_of r.1) >>= λ s. closed colon s.0.1 s.1 >>= λ u. b.cond u.1 >>= λ v.
    Ok ((Other, t.expr (at_of r.0.1) (t.choice r.0.1 u.0 v.0.1)), v.1))
    else Ok r

-- the right side of an assignment to a target, behind its operator
abbrev pub assigned_to : Below → Form → ExprTree → ℕ → ℕ → List Terminal → Reads Parsed
assigned_to b Target e p o xs = b.expr xs >>= λ r. Ok ((Effect, t.expr (at_of e) (t.assign p o e r.0.1)), r.1)
assigned_to b f e p o xs = Err (Punct p o ∷ xs)

-- an expression, and where an assignment operator stands behind it the assignment to it
abbrev pub assigned_of : Below → Parsed → List Terminal → Reads Parsed
assigned_of b r (Punct p o ∷ xs) = if list_any (nat_eq o) assignment_operators then assigned_to b r.0 r.1 p o xs else Ok (r, Punct p o ∷ xs)
assigned_of b r xs = Ok (r, xs)

-- an expression: a conditional or an assignment
unfoldable pub expr_of : Below → List Terminal → Reads Parsed
expr_of b xs = cond_of b xs >>= λ r. assigned_of b r.0 r.1

-- an initializer: a list, or an expression
unfoldable pub init_of : Below → List Terminal → Reads InitTree
init_of b (Punct p o ∷ xs) =
    if nat_eq o brace_open then (list_of b.init (Punct p o ∷ xs) >>= λ r. Ok (t.list p r.0, r.1))
    else (expr_of b (Punct p o ∷ xs) >>= λ r. Ok (t.one r.0.1, r.1))
init_of b xs = expr_of b xs >>= λ r. Ok (t.one r.0.1, r.1)

-- the readers of what is nested less than n deep
unfoldable pub below : ℕ → Below
below zero = record { expr = λ xs. Err xs; cond = λ xs. Err xs; unary = λ xs. Err xs; init = λ xs. Err xs }
below (suc n) = record { expr = expr_of (below n); cond = cond_of (below n); unary = unary_of (below n); init = init_of (below n) }
