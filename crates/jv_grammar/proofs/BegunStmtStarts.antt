-- What begun statements begin with, and how a block tells begun local variables from the rest.
use Rattle.std.proofs.Common.{◌≡◌, ℕ, true, false, List, [], ◌∷◌, refl, lit<}
use Rattle.jv_tree.specs.TypeTree.{BaseTree}
use Rattle.jv_grammar.specs.declared.terminal.Terminal.{Terminal}
use Rattle.jv_grammar.specs.Marks.{brace_close, bracket_open, dot, word_final}
use Rattle.jv_grammar.specs.TypeGrammar.{starts, starts_word, name_one, name_more, prim_boolean, prim_char, prim_int, prim_long, DerivesBase, base_prim, base_name}
use Rattle.jv_grammar.specs.StmtGrammar.{block, bstmt_stmt}
use Rattle.jv_grammar.specs.Reader.{starts_ident}
use Rattle.jv_grammar.specs.TypeReader.{declares}
use Rattle.jv_grammar.specs.ExprReader.{Below}
use Rattle.jv_grammar.specs.StmtReader.{BelowStmt, plain_by, local_by, begins_local, effect_stmt_by, stmt_by, ends_block}
use Rattle.jv_grammar.specs.TypeBegins.{BeginsName, begun_name_none, begun_name_more, begun_name_whole, begun_base_none, begun_base_name, begun_base_whole, BeginsTy, begun_ty_none, begun_ty_base, begun_ty_pairs, begun_ty_whole}
use Rattle.jv_grammar.specs.ExprBegins.{BeginsExpr}
use Rattle.jv_grammar.specs.StmtBegins.{BeginsVar, begun_var_none, begun_var_init, begun_var_whole, BeginsVars, begun_vars_none, begun_vars_one, begun_vars_more, begun_vars_whole, BeginsLocal, begun_local_none, begun_local_ty, begun_local_vars, begun_local_final_ty, begun_local_final_vars, begun_local_whole, BeginsEffects, begun_effects_none, begun_effects_one, begun_effects_more, begun_effects_whole, begun_block_none, begun_block_some, begun_block_whole, BeginsBstmt, begun_bstmt_none, begun_bstmt_local, begun_bstmt_stmt, begun_bstmt_whole, BeginsStmt, begun_stmt_none, begun_stmt_block, begun_stmt_effect, begun_stmt_if, begun_stmt_if_test, begun_stmt_if_then, begun_stmt_if_else, begun_stmt_while, begun_stmt_while_test, begun_stmt_while_body, begun_stmt_do, begun_stmt_do_while, begun_stmt_do_test, begun_stmt_do_close, begun_stmt_for, begun_stmt_for_first, begun_stmt_for_test, begun_stmt_for_updates, begun_stmt_for_body, begun_stmt_return, begun_stmt_break, begun_stmt_continue, begun_stmt_whole}
use Rattle.jv_grammar.proofs.Starts.{start_expr}
use Rattle.jv_grammar.proofs.StmtStarts.{no_final, no_local_expr, start_effects, no_local_effects, to_effect, var_ident, vars_ident, ty_starts, plain_local, local_starts, no_local, bstmt_goes_on}
use Rattle.jv_grammar.proofs.BegunStarts.{IsBegunStart, start_is, not_begun, begun_expr}
use Rattle.jv_grammar.proofs.BegunFree.{begun_no_declares}

-- the first terminal is an identifier, if there is one
abbrev pub IsBegunIdent : List Terminal → Type 0
IsBegunIdent [] = Unit {0}
IsBegunIdent (x ∷ xs) = starts_ident (x ∷ xs) ≡ true

pub ident_is_begun : (xs : List Terminal) → starts_ident xs ≡ true → IsBegunIdent xs
ident_is_begun [] h = tt
ident_is_begun (x ∷ xs) h = h

abbrev pub StartVars : List Terminal → Type 0
StartVars xs = IsBegunIdent xs × (starts dot xs ≡ false) × (starts bracket_open xs ≡ false)

begun_var : {xs : List Terminal} → BeginsVar xs → StartVars xs
begun_var begun_var_none = (tt, refl, refl)
begun_var (begun_var_init r) = (refl, refl, refl)
begun_var (begun_var_whole {xs} d) = let i = var_ident d in (ident_is_begun xs i.0, i.1, i.2)

pub begun_vars : {xs : List Terminal} → BeginsVars xs → StartVars xs
begun_vars begun_vars_none = (tt, refl, refl)
begun_vars (begun_vars_one r) = begun_var r
begun_vars (begun_vars_more {xs} d r) = let i = var_ident d in (ident_is_begun xs i.0, i.1, i.2)
begun_vars (begun_vars_whole {xs} d) = let i = vars_ident d in (ident_is_begun xs i.0, i.1, i.2)

-- a begun type begins with no mark
name_apart : (n : ℕ) {xs : List Terminal} → BeginsName xs → starts n xs ≡ false
name_apart n begun_name_none = refl
name_apart n (begun_name_more r) = refl
name_apart n (begun_name_whole name_one) = refl
name_apart n (begun_name_whole (name_more d)) = refl

base_apart : (n : ℕ) {xs ys : List Terminal} {p : ℕ} {b : BaseTree} → DerivesBase p b xs ys → starts n xs ≡ false
base_apart n (base_prim prim_boolean) = refl
base_apart n (base_prim prim_char) = refl
base_apart n (base_prim prim_int) = refl
base_apart n (base_prim prim_long) = refl
base_apart n (base_name name_one) = refl
base_apart n (base_name (name_more d)) = refl

pub ty_apart : (n : ℕ) {xs : List Terminal} → BeginsTy xs → starts n xs ≡ false
ty_apart n begun_ty_none = refl
ty_apart n (begun_ty_base begun_base_none) = refl
ty_apart n (begun_ty_base (begun_base_name r)) = name_apart n r
ty_apart n (begun_ty_base (begun_base_whole d)) = base_apart n d
ty_apart n (begun_ty_pairs d r) = base_apart n d
ty_apart n (begun_ty_whole d) = ty_starts n d

-- a begun type does not begin with `final`
name_local : (b : Below) {xs : List Terminal} → BeginsName xs → local_by b xs ≡ plain_by b xs
unfolding local_by
name_local b begun_name_none = refl
name_local b (begun_name_more r) = refl
name_local b (begun_name_whole name_one) = refl
name_local b (begun_name_whole (name_more d)) = refl

base_local : (b : Below) {xs ys : List Terminal} {p : ℕ} {a : BaseTree} → DerivesBase p a xs ys → local_by b xs ≡ plain_by b xs
unfolding local_by
base_local b (base_prim prim_boolean) = refl
base_local b (base_prim prim_char) = refl
base_local b (base_prim prim_int) = refl
base_local b (base_prim prim_long) = refl
base_local b (base_name name_one) = refl
base_local b (base_name (name_more d)) = refl

pub ty_local : (b : Below) {xs : List Terminal} → BeginsTy xs → local_by b xs ≡ plain_by b xs
unfolding local_by
ty_local b begun_ty_none = refl
ty_local b (begun_ty_base begun_base_none) = refl
ty_local b (begun_ty_base (begun_base_name r)) = name_local b r
ty_local b (begun_ty_base (begun_base_whole d)) = base_local b d
ty_local b (begun_ty_pairs d r) = base_local b d
ty_local b (begun_ty_whole d) = plain_local b d

pub local_apart : (n : ℕ) {xs : List Terminal} → BeginsLocal xs → starts n xs ≡ false
local_apart n begun_local_none = refl
local_apart n (begun_local_ty r) = ty_apart n r
local_apart n (begun_local_vars d r) = ty_starts n d
local_apart n (begun_local_final_ty r) = refl
local_apart n (begun_local_final_vars d r) = refl
local_apart n (begun_local_whole d) = local_starts n d

-- a begun expression is not taken for local variables, and begins no other statement
begun_no_final : (xs : List Terminal) → IsBegunStart xs → starts_word word_final xs ≡ false
begun_no_final [] h = refl
begun_no_final (x ∷ xs) h = no_final (x ∷ xs) h

pub begun_no_local : {xs : List Terminal} → BeginsExpr xs → begins_local xs ≡ false
begun_no_local {xs} r = rw (begun_no_final xs (begun_expr r), begun_no_declares r) refl

pub begun_to_effect : (b : Below) (l : BelowStmt) (xs : List Terminal) → IsBegunStart xs → stmt_by b l xs ≡ effect_stmt_by b xs
unfolding stmt_by
begun_to_effect b l [] h = refl
begun_to_effect b l (x ∷ xs) h = to_effect b l (x ∷ xs) h

pub begun_effects : {xs : List Terminal} → BeginsEffects xs → IsBegunStart xs
begun_effects begun_effects_none = tt
begun_effects (begun_effects_one r) = begun_expr r
begun_effects (begun_effects_more {xs} d r) = start_is xs (start_expr d)
begun_effects (begun_effects_whole {xs} d) = start_is xs (start_effects d)

pub effects_no_local : {xs : List Terminal} → BeginsEffects xs → begins_local xs ≡ false
unfolding declares
effects_no_local begun_effects_none = refl
effects_no_local (begun_effects_one r) = begun_no_local r
effects_no_local (begun_effects_more d r) = no_local_expr d (lit< tt) refl
effects_no_local (begun_effects_whole d) = no_local_effects d (lit< tt) refl

pub stmt_no_local : {xs : List Terminal} → BeginsStmt xs → begins_local xs ≡ false
unfolding declares
stmt_no_local begun_stmt_none = refl
stmt_no_local (begun_stmt_block begun_block_none) = refl
stmt_no_local (begun_stmt_block (begun_block_some r)) = refl
stmt_no_local (begun_stmt_block (begun_block_whole (block d))) = refl
stmt_no_local (begun_stmt_effect r) = begun_no_local r
stmt_no_local begun_stmt_if = refl
stmt_no_local (begun_stmt_if_test r) = refl
stmt_no_local (begun_stmt_if_then d r) = refl
stmt_no_local (begun_stmt_if_else c d r) = refl
stmt_no_local begun_stmt_while = refl
stmt_no_local (begun_stmt_while_test r) = refl
stmt_no_local (begun_stmt_while_body d r) = refl
stmt_no_local (begun_stmt_do r) = refl
stmt_no_local (begun_stmt_do_while d) = refl
stmt_no_local (begun_stmt_do_test d r) = refl
stmt_no_local (begun_stmt_do_close d r) = refl
stmt_no_local begun_stmt_for = refl
stmt_no_local (begun_stmt_for_first r) = refl
stmt_no_local (begun_stmt_for_test i r) = refl
stmt_no_local (begun_stmt_for_updates i c r) = refl
stmt_no_local (begun_stmt_for_body i c u r) = refl
stmt_no_local (begun_stmt_return r) = refl
stmt_no_local begun_stmt_break = refl
stmt_no_local begun_stmt_continue = refl
stmt_no_local (begun_stmt_whole d) = no_local d

-- where a statement is begun, a block has not ended
goes_apart : (xs : List Terminal) → ends_block xs ≡ false → starts brace_close xs ≡ false
goes_apart [] h = refl
goes_apart (x ∷ xs) h = h

stmt_apart : {xs : List Terminal} → BeginsStmt xs → starts brace_close xs ≡ false
stmt_apart begun_stmt_none = refl
stmt_apart (begun_stmt_block begun_block_none) = refl
stmt_apart (begun_stmt_block (begun_block_some r)) = refl
stmt_apart (begun_stmt_block (begun_block_whole (block d))) = refl
stmt_apart (begun_stmt_effect {xs} r) = not_begun brace_close xs refl (begun_expr r)
stmt_apart begun_stmt_if = refl
stmt_apart (begun_stmt_if_test r) = refl
stmt_apart (begun_stmt_if_then d r) = refl
stmt_apart (begun_stmt_if_else c d r) = refl
stmt_apart begun_stmt_while = refl
stmt_apart (begun_stmt_while_test r) = refl
stmt_apart (begun_stmt_while_body d r) = refl
stmt_apart (begun_stmt_do r) = refl
stmt_apart (begun_stmt_do_while d) = refl
stmt_apart (begun_stmt_do_test d r) = refl
stmt_apart (begun_stmt_do_close d r) = refl
stmt_apart begun_stmt_for = refl
stmt_apart (begun_stmt_for_first r) = refl
stmt_apart (begun_stmt_for_test i r) = refl
stmt_apart (begun_stmt_for_updates i c r) = refl
stmt_apart (begun_stmt_for_body i c u r) = refl
stmt_apart (begun_stmt_return r) = refl
stmt_apart begun_stmt_break = refl
stmt_apart begun_stmt_continue = refl
stmt_apart (begun_stmt_whole {xs} d) = goes_apart xs (bstmt_goes_on (bstmt_stmt d))

pub bstmt_apart : {xs : List Terminal} → BeginsBstmt xs → starts brace_close xs ≡ false
bstmt_apart begun_bstmt_none = refl
bstmt_apart (begun_bstmt_local r) = local_apart brace_close r
bstmt_apart (begun_bstmt_stmt r) = stmt_apart r
bstmt_apart (begun_bstmt_whole {xs} d) = goes_apart xs (bstmt_goes_on d)
