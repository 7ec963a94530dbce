-- What statements begin with, and how a block tells local variables from the rest.
use Rattle.std.proofs.Common.{◌≡◌, ℕ, ◌<◌, ◌||◌, Bool, true, false, nat_eq, List, [], ◌∷◌, refl, lit<}
use Rattle.std.specs.List.{list_any}
use Rattle.jv_tree.specs.TypeTree.{TypeTree}
use Rattle.jv_tree.specs.ExprTree.{ExprTree, ExprTrees}
use Rattle.jv_tree.specs.StmtTree.{VarTree, StmtTree}
use Rattle.jv_grammar.specs.declared.terminal.Terminal.{Terminal}
use Rattle.jv_grammar.specs.declared.terminal.Terminal.TheVariants.{Ident, Keyword, Literal, Minimum, MinimumLong, Punct}
use Rattle.jv_grammar.specs.declared.form.Form.{Form}
use Rattle.jv_grammar.specs.Marks.{brace_open, brace_close, bracket_open, dot, semicolon, word_final, word_new, word_super, word_this}
use Rattle.jv_grammar.specs.TypeGrammar.{starts, starts_word, name_one, name_more, prim_boolean, prim_char, prim_int, prim_long, base_prim, base_name, DerivesTy, ty}
use Rattle.jv_grammar.specs.ExprGrammar.{DerivesExpr}
use Rattle.jv_grammar.specs.StmtGrammar.{DerivesVar, var_alone, var_init, DerivesVars, vars_one, vars_more, DerivesLocal, local_vars, local_final, DerivesEffects, effects_one, effects_more, block, DerivesBstmt, bstmt_local, bstmt_stmt, DerivesStmt, stmt_block, stmt_empty, stmt_effect, stmt_if, stmt_if_else, stmt_while, stmt_do, stmt_for, stmt_return, stmt_break, stmt_continue}
use Rattle.jv_grammar.specs.Reader.{starts_ident}
use Rattle.jv_grammar.specs.TypeReader.{declares}
use Rattle.jv_grammar.specs.ExprReader.{Below}
use Rattle.jv_grammar.specs.StmtReader.{BelowStmt, plain_by, local_by, begins_local, effect_stmt_by, word_by, stmt_by, ends_block}
use Rattle.jv_grammar.proofs.Read.{among}
use Rattle.jv_grammar.proofs.Ranks.{first_rank}
use Rattle.jv_grammar.proofs.Starts.{IsStart, not_starts, start_expr}
use Rattle.jv_grammar.proofs.Ahead.{declares_ty, no_declares}

-- the keywords that an expression may begin with
abbrev pub start_words : List ℕ
start_words = word_this ∷ word_super ∷ word_new ∷ []

or_right : (a b : Bool) → b ≡ true → a || b ≡ true
or_right true b h = refl
or_right false b h = h

in_list : (a b c : Bool) → a || b || c ≡ true → a || (b || (c || false)) ≡ true
in_list true b c h = refl
in_list false true c h = refl
in_list false false true h = refl
in_list false false false h = h

-- a keyword that begins an expression is one of these
pub start_word : (p k : ℕ) (xs : List Terminal) → IsStart (Keyword p k ∷ xs) → list_any (nat_eq k) start_words ≡ true
start_word p k xs h = in_list (nat_eq k word_this) (nat_eq k word_super) (nat_eq k word_new) h

-- an expression does not begin with `final`
pub no_final : (xs : List Terminal) → IsStart xs → starts_word word_final xs ≡ false
no_final [] h = refl
no_final (Ident i ∷ xs) h = refl
no_final (Keyword p k ∷ xs) h = among (λ n. nat_eq n word_final ≡ false) start_words k (refl, (refl, (refl, tt))) (start_word p k xs h)
no_final (Literal p l ∷ xs) h = refl
no_final (Minimum p ∷ xs) h = refl
no_final (MinimumLong p ∷ xs) h = refl
no_final (Punct p o ∷ xs) h = refl

-- what begins an expression ends no block
start_goes_on : (xs : List Terminal) → IsStart xs → ends_block xs ≡ false
start_goes_on [] h = absurd h
start_goes_on (x ∷ xs) h = not_starts brace_close (x ∷ xs) refl h

-- what begins an expression is not taken for local variables
pub no_local_expr : {f : Form} {e : ExprTree} {xs ys : List Terminal} → DerivesExpr f e xs ys → 0 < first_rank ys → starts_ident ys ≡ false → begins_local xs ≡ false
no_local_expr {xs} d r h = rw (no_final xs (start_expr d), no_declares d r h) refl

pub start_effects : {es : ExprTrees} {xs ys : List Terminal} → DerivesEffects es xs ys → IsStart xs
start_effects (effects_one d) = start_expr d
start_effects (effects_more d r) = start_expr d

pub no_local_effects : {es : ExprTrees} {xs ys : List Terminal} → DerivesEffects es xs ys → 0 < first_rank ys → starts_ident ys ≡ false → begins_local xs ≡ false
no_local_effects (effects_one d) r h = no_local_expr d r h
no_local_effects (effects_more d m) r h = no_local_expr d (lit< tt) refl

-- what begins an expression begins no other statement
pub to_effect : (b : Below) (l : BelowStmt) (xs : List Terminal) → IsStart xs → stmt_by b l xs ≡ effect_stmt_by b xs
unfolding stmt_by word_by
to_effect b l [] h = absurd h
to_effect b l (Ident i ∷ xs) h = refl
to_effect b l (Keyword p k ∷ xs) h =
    among (λ n. word_by b l p n xs ≡ effect_stmt_by b (Keyword p n ∷ xs)) start_words k (refl, (refl, (refl, tt))) (start_word p k xs h)
to_effect b l (Literal p q ∷ xs) h = refl
to_effect b l (Minimum p ∷ xs) h = refl
to_effect b l (MinimumLong p ∷ xs) h = refl
to_effect b l (Punct p o ∷ xs) h = rw (not_starts brace_open (Punct p o ∷ xs) refl h, not_starts semicolon (Punct p o ∷ xs) refl h) refl

-- variables begin with an identifier
pub var_ident : {v : VarTree} {xs ys : List Terminal} → DerivesVar v xs ys → (starts_ident xs ≡ true) × (starts dot xs ≡ false) × (starts bracket_open xs ≡ false)
var_ident var_alone = (refl, refl, refl)
var_ident (var_init d) = (refl, refl, refl)

pub vars_ident : {vs : List VarTree} {xs ys : List Terminal} → DerivesVars vs xs ys → (starts_ident xs ≡ true) × (starts dot xs ≡ false) × (starts bracket_open xs ≡ false)
vars_ident (vars_one d) = var_ident d
vars_ident (vars_more d r) = var_ident d

-- a type begins with no mark, and ends no block
pub ty_starts : (n : ℕ) {r : TypeTree} {xs ys : List Terminal} → DerivesTy r xs ys → starts n xs ≡ false
ty_starts n (ty (base_prim prim_boolean) q) = refl
ty_starts n (ty (base_prim prim_char) q) = refl
ty_starts n (ty (base_prim prim_int) q) = refl
ty_starts n (ty (base_prim prim_long) q) = refl
ty_starts n (ty (base_name name_one) q) = refl
ty_starts n (ty (base_name (name_more d)) q) = refl

ty_goes_on : {r : TypeTree} {xs ys : List Terminal} → DerivesTy r xs ys → ends_block xs ≡ false
ty_goes_on (ty (base_prim prim_boolean) q) = refl
ty_goes_on (ty (base_prim prim_char) q) = refl
ty_goes_on (ty (base_prim prim_int) q) = refl
ty_goes_on (ty (base_prim prim_long) q) = refl
ty_goes_on (ty (base_name name_one) q) = refl
ty_goes_on (ty (base_name (name_more d)) q) = refl

-- a type does not begin with `final`
pub plain_local : (b : Below) {r : TypeTree} {xs ys : List Terminal} → DerivesTy r xs ys → local_by b xs ≡ plain_by b xs
unfolding local_by
plain_local b (ty (base_prim prim_boolean) q) = refl
plain_local b (ty (base_prim prim_char) q) = refl
plain_local b (ty (base_prim prim_int) q) = refl
plain_local b (ty (base_prim prim_long) q) = refl
plain_local b (ty (base_name name_one) q) = refl
plain_local b (ty (base_name (name_more d)) q) = refl

-- local variables are seen as such
pub local_seen : {x : StmtTree} {xs ys : List Terminal} → DerivesLocal x xs ys → begins_local xs ≡ true
local_seen (local_vars {xs} d r) = or_right (starts_word word_final xs) (declares xs) (declares_ty d (vars_ident r).0)
local_seen (local_final d r) = refl

pub local_starts : (n : ℕ) {x : StmtTree} {xs ys : List Terminal} → DerivesLocal x xs ys → starts n xs ≡ false
local_starts n (local_vars d r) = ty_starts n d
local_starts n (local_final d r) = refl

local_goes_on : {x : StmtTree} {xs ys : List Terminal} → DerivesLocal x xs ys → ends_block xs ≡ false
local_goes_on (local_vars d r) = ty_goes_on d
local_goes_on (local_final d r) = refl

-- no other statement is taken for local variables
pub no_local : {x : StmtTree} {xs ys : List Terminal} → DerivesStmt x xs ys → begins_local xs ≡ false
unfolding declares
no_local (stmt_block (block d)) = refl
no_local stmt_empty = refl
no_local (stmt_effect d) = no_local_expr d (lit< tt) refl
no_local (stmt_if c d h) = refl
no_local (stmt_if_else c d r) = refl
no_local (stmt_while c d) = refl
no_local (stmt_do d c) = refl
no_local (stmt_for i c u d) = refl
no_local (stmt_return c) = refl
no_local stmt_break = refl
no_local stmt_continue = refl

stmt_goes_on : {x : StmtTree} {xs ys : List Terminal} → DerivesStmt x xs ys → ends_block xs ≡ false
stmt_goes_on (stmt_block (block d)) = refl
stmt_goes_on stmt_empty = refl
stmt_goes_on (stmt_effect {xs} d) = start_goes_on xs (start_expr d)
stmt_goes_on (stmt_if c d h) = refl
stmt_goes_on (stmt_if_else c d r) = refl
stmt_goes_on (stmt_while c d) = refl
stmt_goes_on (stmt_do d c) = refl
stmt_goes_on (stmt_for i c u d) = refl
stmt_goes_on (stmt_return c) = refl
stmt_goes_on stmt_break = refl
stmt_goes_on stmt_continue = refl

-- where a statement stands, a block has not ended
pub bstmt_goes_on : {x : StmtTree} {xs ys : List Terminal} → DerivesBstmt x xs ys → ends_block xs ≡ false
bstmt_goes_on (bstmt_local d) = local_goes_on d
bstmt_goes_on (bstmt_stmt d) = stmt_goes_on d
