-- What begun expressions may begin with.
use Rattle.std.proofs.Common.{◌≡◌, ℕ, ◌≤◌, true, false, nat_eq, List, [], ◌∷◌, arith, refl}
use Rattle.jv_tree.specs.Shaped.{IsOneOf, instance_of}
use Rattle.jv_grammar.specs.declared.terminal.Terminal.{Terminal}
use Rattle.jv_grammar.specs.declared.terminal.Terminal.TheVariants.{Punct}
use Rattle.jv_grammar.specs.Marks.{brace_open, complements}
use Rattle.jv_grammar.specs.TypeGrammar.{starts, name_one, name_more}
use Rattle.jv_grammar.specs.ExprGrammar.{is_plain, begins_plain, inits_one, list_none, list_some}
use Rattle.jv_grammar.specs.TypeBegins.{BeginsName, begun_name_none, begun_name_more, begun_name_whole}
use Rattle.jv_grammar.specs.ExprBegins.{BeginsExpr, begun_expr_none, begun_expr_assign, begun_expr_cond, begun_expr_whole, BeginsCond, begun_cond_none, begun_cond_bin, begun_cond_yes, begun_cond_no, begun_cond_whole, BeginsBin, begun_bin_none, begun_bin_unary, begun_bin_one, begun_bin_chain, begun_bin_whole, BeginsLinks, begun_links_none, begun_links_one, begun_links_more, begun_links_whole, BeginsLink, begun_link_none, begun_link_operand, begun_link_type, begun_link_whole, BeginsUnary, begun_unary_none, begun_unary_sign, begun_unary_step, begun_unary_cast, begun_unary_post, begun_unary_whole, BeginsCast, begun_cast_none, begun_cast_type, begun_cast_prim, begun_cast_reference, begun_cast_whole, BeginsPlain, begun_plain_none, begun_plain_sign, begun_plain_cast, begun_plain_post, begun_plain_whole, BeginsPost, begun_post_none, begun_post_primary, begun_post_whole, BeginsPrimary, begun_primary_none, begun_primary_head, begun_primary_dot, begun_primary_call, begun_primary_index, begun_primary_whole, BeginsHead, begun_head_none, begun_head_paren, begun_head_name, begun_head_call, begun_head_super, begun_head_super_dot, begun_head_super_call, begun_head_new, begun_head_new_args, begun_head_new_dims, begun_head_new_pairs, begun_head_new_list, begun_head_whole, BeginsExprs, begun_exprs_none, begun_exprs_one, begun_exprs_more, begun_exprs_whole, BeginsInit, begun_init_none, begun_init_expr, begun_init_list, begun_init_whole, BeginsList, begun_list_none, begun_list_empty, begun_list_some, begun_list_end, begun_list_whole, BeginsInits, begun_inits_none, begun_inits_one, begun_inits_more, begun_inits_whole}
use Rattle.jv_grammar.proofs.Read.{among}
use Rattle.jv_grammar.proofs.Ranks.{first_rank, AreRanked, ranked}
use Rattle.jv_grammar.proofs.Starts.{is_start, IsStart, not_starts, sign_start, step_start, plain_start, plain_head, plain_primary, plain_posts, plain_casts, plain_begins, start_primary, start_unary, start_bin, start_cond, start_expr, start_exprs}
use Rattle.jv_grammar.proofs.Ahead.{link_rank, links_rank}
use Rattle.jv_grammar.proofs.Complete.{inits_starts}

-- of the first terminal, if there is one
abbrev pub IsBegunStart : List Terminal → Type 0
IsBegunStart [] = Unit {0}
IsBegunStart (x ∷ xs) = is_start x ≡ true

abbrev pub IsBegunPlain : List Terminal → Type 0
IsBegunPlain [] = Unit {0}
IsBegunPlain (x ∷ xs) = is_plain x ≡ true

pub start_is : (xs : List Terminal) → IsStart xs → IsBegunStart xs
start_is [] h = absurd h
start_is (x ∷ xs) h = h

pub plain_is : (xs : List Terminal) → begins_plain xs ≡ true → IsBegunPlain xs
plain_is [] h = tt
plain_is (x ∷ xs) h = h

begun_start : (xs : List Terminal) → IsBegunPlain xs → IsBegunStart xs
begun_start [] h = tt
begun_start (x ∷ xs) h = plain_start (x ∷ xs) h

pub not_begun : (n : ℕ) (xs : List Terminal) → is_start (Punct 0 n) ≡ false → IsBegunStart xs → starts n xs ≡ false
not_begun n [] f h = refl
not_begun n (x ∷ xs) f h = not_starts n (x ∷ xs) f h

begun_name : {xs : List Terminal} → BeginsName xs → IsBegunPlain xs
begun_name begun_name_none = tt
begun_name (begun_name_more r) = refl
begun_name (begun_name_whole name_one) = refl
begun_name (begun_name_whole (name_more d)) = refl

begun_head : {xs : List Terminal} → BeginsHead xs → IsBegunPlain xs
begun_head begun_head_none = tt
begun_head (begun_head_paren r) = refl
begun_head (begun_head_name r) = begun_name r
begun_head (begun_head_call r) = refl
begun_head begun_head_super = refl
begun_head begun_head_super_dot = refl
begun_head (begun_head_super_call r) = refl
begun_head (begun_head_new r) = refl
begun_head (begun_head_new_args m r) = refl
begun_head (begun_head_new_dims m r) = refl
begun_head (begun_head_new_pairs m r) = refl
begun_head (begun_head_new_list m q r) = refl
begun_head (begun_head_whole {xs} d) = plain_is xs (plain_head d)

begun_primary : {xs : List Terminal} → BeginsPrimary xs → IsBegunPlain xs
begun_primary begun_primary_none = tt
begun_primary (begun_primary_head r) = begun_head r
begun_primary (begun_primary_dot {xs} d) = plain_is xs (plain_primary d)
begun_primary (begun_primary_call {xs} d r) = plain_is xs (plain_primary d)
begun_primary (begun_primary_index {xs} d r) = plain_is xs (plain_primary d)
begun_primary (begun_primary_whole {xs} d) = plain_is xs (plain_primary d)

begun_post : {xs : List Terminal} → BeginsPost xs → IsBegunPlain xs
begun_post begun_post_none = tt
begun_post (begun_post_primary r) = begun_primary r
begun_post (begun_post_whole {xs} d) = plain_is xs (plain_posts d)

begun_cast : {xs : List Terminal} → BeginsCast xs → IsBegunPlain xs
begun_cast begun_cast_none = tt
begun_cast (begun_cast_type r) = refl
begun_cast (begun_cast_prim m r) = refl
begun_cast (begun_cast_reference m r) = refl
begun_cast (begun_cast_whole {xs} d) = plain_is xs (plain_casts d)

complement_plain : (p o : ℕ) (xs : List Terminal) → IsOneOf complements o → IsBegunPlain (Punct p o ∷ xs)
complement_plain p o xs h = among (λ n. is_plain (Punct p n) ≡ true) complements o (refl, (refl, tt)) h

pub begun_plain : {xs : List Terminal} → BeginsPlain xs → IsBegunPlain xs
begun_plain begun_plain_none = tt
begun_plain (begun_plain_sign {p} {o} {xs} h r) = complement_plain p o xs h
begun_plain (begun_plain_cast r) = begun_cast r
begun_plain (begun_plain_post r) = begun_post r
begun_plain (begun_plain_whole {xs} d) = plain_is xs (plain_begins d)

pub begun_unary : {xs : List Terminal} → BeginsUnary xs → IsBegunStart xs
begun_unary begun_unary_none = tt
begun_unary (begun_unary_sign {o} h r) = sign_start o h
begun_unary (begun_unary_step {o} h r) = step_start o h
begun_unary (begun_unary_cast {xs} r) = begun_start xs (begun_cast r)
begun_unary (begun_unary_post {xs} r) = begun_start xs (begun_post r)
begun_unary (begun_unary_whole {xs} d) = start_is xs (start_unary d)

begun_bin : {rest : List (List ℕ)} {xs : List Terminal} → BeginsBin rest xs → IsBegunStart xs
begun_bin begun_bin_none = tt
begun_bin (begun_bin_unary r) = begun_unary r
begun_bin (begun_bin_one r) = begun_bin r
begun_bin (begun_bin_chain {xs} d r) = start_is xs (start_bin d)
begun_bin (begun_bin_whole {xs} d) = start_is xs (start_bin d)

begun_cond : {xs : List Terminal} → BeginsCond xs → IsBegunStart xs
begun_cond begun_cond_none = tt
begun_cond (begun_cond_bin r) = begun_bin r
begun_cond (begun_cond_yes {xs} d r) = start_is xs (start_bin d)
begun_cond (begun_cond_no {xs} d a r) = start_is xs (start_bin d)
begun_cond (begun_cond_whole {xs} d) = start_is xs (start_cond d)

pub begun_expr : {xs : List Terminal} → BeginsExpr xs → IsBegunStart xs
begun_expr begun_expr_none = tt
begun_expr (begun_expr_assign {xs} d h r) = start_is xs (start_primary d)
begun_expr (begun_expr_cond r) = begun_cond r
begun_expr (begun_expr_whole {xs} d) = start_is xs (start_expr d)

pub begun_exprs : {xs : List Terminal} → BeginsExprs xs → IsBegunStart xs
begun_exprs begun_exprs_none = tt
begun_exprs (begun_exprs_one r) = begun_expr r
begun_exprs (begun_exprs_more {xs} d r) = start_is xs (start_expr d)
begun_exprs (begun_exprs_whole {xs} d) = start_is xs (start_exprs d)

pub list_apart : (n : ℕ) {xs : List Terminal} → nat_eq brace_open n ≡ false → BeginsList xs → starts n xs ≡ false
list_apart n h begun_list_none = refl
list_apart n h (begun_list_empty r) = h
list_apart n h (begun_list_some r) = h
list_apart n h (begun_list_end d r) = h
list_apart n h (begun_list_whole (list_none d)) = h
list_apart n h (begun_list_whole (list_some d e)) = h

init_apart : (n : ℕ) {xs : List Terminal} → is_start (Punct 0 n) ≡ false → nat_eq brace_open n ≡ false → BeginsInit xs → starts n xs ≡ false
init_apart n h h' begun_init_none = refl
init_apart n h h' (begun_init_expr {xs} r) = not_begun n xs h (begun_expr r)
init_apart n h h' (begun_init_list r) = list_apart n h' r
init_apart n h h' (begun_init_whole d) = inits_starts n h h' (inits_one d)

-- the elements of a list begin with no mark that neither an expression nor a list begins with
pub inits_apart : (n : ℕ) {xs : List Terminal} → is_start (Punct 0 n) ≡ false → nat_eq brace_open n ≡ false → BeginsInits xs → starts n xs ≡ false
inits_apart n h h' begun_inits_none = refl
inits_apart n h h' (begun_inits_one r) = init_apart n h h' r
inits_apart n h h' (begun_inits_more d r) = inits_starts n h h' (inits_one d)
inits_apart n h h' (begun_inits_whole d) = inits_starts n h h' d

-- the token behind an operand ends it, if there is one
link_high : {level : List ℕ} {tighter : List (List ℕ)} {xs : List Terminal} (k : ℕ) → AreRanked k level → k ≤ 13 → BeginsLink level tighter xs → k ≤ first_rank xs
link_high k r l begun_link_none = l
link_high {level} k r l (begun_link_operand {o} h d) = let e = ranked k level o r h.0 in omega (arith, e)
link_high {level} k r l (begun_link_type h d) = let e : 4 ≡ k = ranked k level instance_of r h in omega (arith, e)
link_high k r l (begun_link_whole d) = let e = link_rank k r d in omega (arith, e)

pub links_high : {level : List ℕ} {tighter : List (List ℕ)} {xs : List Terminal} (k : ℕ) → AreRanked k level → k ≤ 13 → BeginsLinks level tighter xs → k ≤ first_rank xs
links_high k r l begun_links_none = l
links_high k r l (begun_links_one d) = link_high k r l d
links_high k r l (begun_links_more d m) = let e = link_rank k r d in omega (arith, e)
links_high k r l (begun_links_whole d) = let e = links_rank k r d in omega (arith, e)
