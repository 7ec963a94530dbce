-- No begun expression is the front of a declaration, or of a cast behind a parenthesis.
use Rattle.std.proofs.Common.{◌≡◌, ℕ, ◌≤◌, false, List, [], ◌∷◌, length, arith, refl, Ok, Err}
use Rattle.jv_tree.specs.declared.name.Ident.{Ident as Identifier}
use Rattle.jv_tree.specs.Shaped.{assignment_operators}
use Rattle.jv_grammar.specs.declared.terminal.Terminal.{Terminal}
use Rattle.jv_grammar.specs.declared.terminal.Terminal.TheVariants.{Ident, Punct}
use Rattle.jv_grammar.specs.Marks.{bracket_open, bracket_close, dot, question_mark}
use Rattle.jv_grammar.specs.ExprGrammar.{IsCast, args_none, args_some}
use Rattle.jv_grammar.specs.Reader.{Reads, starts_ident}
use Rattle.jv_grammar.specs.TypeReader.{name_of, is_declared, declares}
use Rattle.jv_grammar.specs.ExprReader.{cast_ahead}
use Rattle.jv_grammar.specs.TypeBegins.{BeginsName}
use Rattle.jv_grammar.specs.ExprBegins.{BeginsExpr, begun_expr_none, begun_expr_assign, begun_expr_cond, begun_expr_whole, BeginsCond, begun_cond_none, begun_cond_bin, begun_cond_yes, begun_cond_no, begun_cond_whole, BeginsBin, begun_bin_none, begun_bin_unary, begun_bin_one, begun_bin_chain, begun_bin_whole, BeginsLinks, begun_links_none, begun_links_one, begun_links_more, begun_links_whole, BeginsLink, begun_link_none, begun_link_operand, begun_link_type, begun_link_whole, BeginsUnary, begun_unary_none, begun_unary_sign, begun_unary_step, begun_unary_cast, begun_unary_post, begun_unary_whole, BeginsCast, begun_cast_none, begun_cast_type, begun_cast_prim, begun_cast_reference, begun_cast_whole, BeginsPost, begun_post_none, begun_post_primary, begun_post_whole, BeginsPrimary, begun_primary_none, begun_primary_head, begun_primary_dot, begun_primary_call, begun_primary_index, begun_primary_whole, BeginsHead, begun_head_none, begun_head_paren, begun_head_name, begun_head_call, begun_head_super, begun_head_super_dot, begun_head_super_call, begun_head_new, begun_head_new_args, begun_head_new_dims, begun_head_new_pairs, begun_head_new_list, begun_head_whole}
use Rattle.jv_grammar.specs.ExprBegins.{BeginsArgs, begun_args_none, begun_args_some, begun_args_whole}
use Rattle.jv_grammar.proofs.Ending.{Ends}
use Rattle.jv_grammar.proofs.Ranks.{IsRanked, levels_ranked, assignments_ranked, ranked}
use Rattle.jv_grammar.proofs.Ahead.{IsFree, settle, no_pair, link_no_ident, links_no_ident, beyond_head, beyond_primary, beyond_post, beyond_cast, beyond_unary, beyond_bin, beyond_cond, beyond_expr, ahead_free, free_declares}
use Rattle.jv_grammar.proofs.Goes.{goes_name}
use Rattle.jv_grammar.proofs.BegunStarts.{IsBegunStart, not_begun, begun_expr, links_high}

-- a name that is read to the end is no declaration
ends_free : (r : Reads (List Identifier)) → Ends r → is_declared r ≡ false
ends_free (Ok r) h = rw h refl
ends_free (Err e) h = refl

free_name : {xs : List Terminal} → BeginsName xs → IsFree xs
free_name {xs} r = ends_free (name_of xs) (goes_name r)

free_call : (i : Identifier) {xs : List Terminal} → BeginsArgs xs → IsFree (Ident i ∷ xs)
unfolding name_of
free_call i begun_args_none = refl
free_call i (begun_args_some r) = refl
free_call i (begun_args_whole args_none) = refl
free_call i (begun_args_whole (args_some d)) = refl

free_head : {xs : List Terminal} → BeginsHead xs → IsFree xs
unfolding name_of
free_head begun_head_none = refl
free_head (begun_head_paren r) = refl
free_head (begun_head_name r) = free_name r
free_head (begun_head_call {i} r) = free_call i r
free_head begun_head_super = refl
free_head begun_head_super_dot = refl
free_head (begun_head_super_call r) = refl
free_head (begun_head_new r) = refl
free_head (begun_head_new_args m r) = refl
free_head (begun_head_new_dims m r) = refl
free_head (begun_head_new_pairs m r) = refl
free_head (begun_head_new_list m q r) = refl
free_head (begun_head_whole {xs} d) = settle xs [] (beyond_head d) refl refl

free_primary : {xs : List Terminal} → BeginsPrimary xs → IsFree xs
unfolding name_of
free_primary begun_primary_none = refl
free_primary (begun_primary_head r) = free_head r
free_primary (begun_primary_dot {p} {xs} d) = settle xs (Punct p dot ∷ []) (beyond_primary d) refl refl
free_primary (begun_primary_call {i} {p} {xs} {zs} d r) = settle xs (Punct p dot ∷ Ident i ∷ zs) (beyond_primary d) refl refl
free_primary (begun_primary_index {p} {xs} {zs} d r) = settle xs (Punct p bracket_open ∷ zs) (beyond_primary d) refl (not_begun bracket_close zs refl (begun_expr r))
free_primary (begun_primary_whole {xs} d) = settle xs [] (beyond_primary d) refl refl

free_post : {xs : List Terminal} → BeginsPost xs → IsFree xs
unfolding name_of
free_post begun_post_none = refl
free_post (begun_post_primary r) = free_primary r
free_post (begun_post_whole {xs} d) = settle xs [] (beyond_post d) refl refl

free_cast : {xs : List Terminal} → BeginsCast xs → IsFree xs
unfolding name_of
free_cast begun_cast_none = refl
free_cast (begun_cast_type r) = refl
free_cast (begun_cast_prim m r) = refl
free_cast (begun_cast_reference m r) = refl
free_cast (begun_cast_whole d) = beyond_cast d

free_unary : {xs : List Terminal} → BeginsUnary xs → IsFree xs
unfolding name_of
free_unary begun_unary_none = refl
free_unary (begun_unary_sign h r) = refl
free_unary (begun_unary_step h r) = refl
free_unary (begun_unary_cast r) = free_cast r
free_unary (begun_unary_post r) = free_post r
free_unary (begun_unary_whole {xs} d) = settle xs [] (beyond_unary d) refl refl

begun_link_no_ident : {level : List ℕ} {tighter : List (List ℕ)} {xs : List Terminal} → BeginsLink level tighter xs → starts_ident xs ≡ false
begun_link_no_ident begun_link_none = refl
begun_link_no_ident (begun_link_operand h r) = refl
begun_link_no_ident (begun_link_type h r) = refl
begun_link_no_ident (begun_link_whole d) = link_no_ident d

begun_links_no_ident : {level : List ℕ} {tighter : List (List ℕ)} {xs : List Terminal} → BeginsLinks level tighter xs → starts_ident xs ≡ false
begun_links_no_ident begun_links_none = refl
begun_links_no_ident (begun_links_one r) = begun_link_no_ident r
begun_links_no_ident (begun_links_more d r) = link_no_ident d
begun_links_no_ident (begun_links_whole d) = links_no_ident d

free_bin : {rest : List (List ℕ)} {xs : List Terminal} → IsRanked rest → length rest ≤ 12 → BeginsBin rest xs → IsFree xs
unfolding name_of
free_bin a l begun_bin_none = refl
free_bin a l (begun_bin_unary r) = free_unary r
free_bin a l (begun_bin_one r) = free_bin a.1 (omega arith) r
free_bin a l (begun_bin_chain {xs} {zs} d r) =
    settle xs zs (beyond_bin a.1 d) (begun_links_no_ident r) (no_pair zs (let k = links_high _ a.0 (omega arith) r in omega (arith, k)))
free_bin a l (begun_bin_whole {xs} d) = settle xs [] (beyond_bin a d) refl refl

free_cond : {xs : List Terminal} → BeginsCond xs → IsFree xs
unfolding name_of
free_cond begun_cond_none = refl
free_cond (begun_cond_bin r) = free_bin levels_ranked (omega arith) r
free_cond (begun_cond_yes {p} {xs} {zs} d r) = settle xs (Punct p question_mark ∷ zs) (beyond_bin levels_ranked d) refl refl
free_cond (begun_cond_no {p} {xs} {zs} d a r) = settle xs (Punct p question_mark ∷ zs) (beyond_bin levels_ranked d) refl refl
free_cond (begun_cond_whole {xs} d) = settle xs [] (beyond_cond d) refl refl

pub free_expr : {xs : List Terminal} → BeginsExpr xs → IsFree xs
unfolding name_of
free_expr begun_expr_none = refl
free_expr (begun_expr_assign {p} {o} {xs} {zs} d h r) = settle xs (Punct p o ∷ zs) (beyond_primary d) refl (no_pair (Punct p o ∷ zs) (let k = ranked 12 assignment_operators o assignments_ranked h in omega (arith, k)))
free_expr (begun_expr_cond r) = free_cond r
free_expr (begun_expr_whole {xs} d) = settle xs [] (beyond_expr d) refl refl

-- no begun expression is the front of a declaration
begun_free : (xs : List Terminal) → IsBegunStart xs → IsFree xs → declares xs ≡ false
unfolding declares
begun_free [] s f = refl
begun_free (x ∷ xs) s f = free_declares (x ∷ xs) s f

pub begun_no_declares : {xs : List Terminal} → BeginsExpr xs → declares xs ≡ false
begun_no_declares {xs} r = begun_free xs (begun_expr r) (free_expr r)

-- where no cast by a name stands behind a `(`, the test sees none
ahead_begun : (xs : List Terminal) → IsBegunStart xs → IsFree xs → (IsCast xs → ⊥) → cast_ahead xs ≡ false
unfolding cast_ahead
ahead_begun [] s f n = refl
ahead_begun (x ∷ xs) s f n = ahead_free (x ∷ xs) s f n

pub begun_no_cast : {xs : List Terminal} → BeginsExpr xs → (IsCast xs → ⊥) → cast_ahead xs ≡ false
begun_no_cast {xs} r n = ahead_begun xs (begun_expr r) (free_expr r) n
