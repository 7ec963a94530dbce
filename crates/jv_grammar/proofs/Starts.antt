-- What an expression may begin with.
use Rattle.std.proofs.Common.{◌≡◌, ℕ, ◌||◌, inl, inr, Bool, true, false, nat_eq, List, [], ◌∷◌, refl, sym, ap, ◌∙◌, true≢false}
use Rattle.std.specs.List.{list_any}
use borrow.Author.Tests.{eqb-true}
use Rattle.jv_tree.specs.declared.name.Ident.{Ident as Identifier}
use Rattle.jv_tree.specs.ExprTree.{ExprTree, ExprTrees}
use Rattle.jv_tree.specs.Shaped.{postfix_operators}
use Rattle.jv_grammar.specs.declared.terminal.Terminal.{Terminal}
use Rattle.jv_grammar.specs.declared.terminal.Terminal.TheVariants.{Ident, Keyword, Literal, Minimum, MinimumLong, Punct}
use Rattle.jv_grammar.specs.declared.form.Form.{Form}
use Rattle.jv_grammar.specs.Marks.{paren_open, complements, signs, word_new, word_super, word_this}
use Rattle.jv_grammar.specs.TypeGrammar.{starts, DerivesName, name_one, name_more}
use Rattle.jv_grammar.specs.ExprGrammar.{begins_plain, DerivesExpr, expr_assign, expr_cond, DerivesCond, cond_bin, cond_choice, DerivesBin, bin_unary, bin_one, bin_chain, DerivesUnary, unary_sign, unary_step, unary_minimum, unary_minimum_long, unary_cast, unary_post, DerivesCast, cast_prim, cast_reference, DerivesPlain, plain_sign, plain_cast, plain_post, DerivesPost, post_primary, post_step, DerivesPrimary, primary_head, primary_field, primary_call, primary_index, DerivesHead, head_literal, head_this, head_paren, head_name, head_call, head_super_field, head_super_call, head_new, head_new_array, head_new_list, DerivesExprs, exprs_one, exprs_more}
use Rattle.jv_grammar.proofs.Read.{or_either, among}
use Rattle.jv_grammar.proofs.Ranks.{apart}

abbrev pub is_start : Terminal → Bool
is_start (Ident i) = true
is_start (Keyword p k) = nat_eq k word_this || nat_eq k word_super || nat_eq k word_new
is_start (Literal p l) = true
is_start (Punct p o) = nat_eq o paren_open || (list_any (nat_eq o) postfix_operators || list_any (nat_eq o) signs)
is_start x = false

abbrev pub IsStart : List Terminal → Type 0
IsStart [] = ⊥
IsStart (x ∷ xs) = is_start x ≡ true

-- no expression begins with a mark that none may begin with
pub not_starts : (n : ℕ) (xs : List Terminal) → is_start (Punct 0 n) ≡ false → IsStart xs → starts n xs ≡ false
not_starts n [] f h = refl
not_starts n (Punct p o ∷ xs) f h = apart (λ k. nat_eq k n) o (λ e. true≢false (sym h ∙ ap (λ k. is_start (Punct p k)) (eqb-true o n e) ∙ f))
not_starts n (Ident i ∷ xs) f h = refl
not_starts n (Keyword p k ∷ xs) f h = refl
not_starts n (Literal p l ∷ xs) f h = refl
not_starts n (Minimum p ∷ xs) f h = refl
not_starts n (MinimumLong p ∷ xs) f h = refl

pub or_true : (a b : Bool) → b ≡ true → a || b ≡ true
or_true true b h = refl
or_true false b h = h

or_mid : (a b c : Bool) → b ≡ true → a || (b || c) ≡ true
or_mid true b c h = refl
or_mid false true c h = refl
or_mid false false c h = absurd (true≢false (sym h))

pub sign_start : (o : ℕ) → list_any (nat_eq o) signs ≡ true → is_start (Punct 0 o) ≡ true
sign_start o h = or_true (nat_eq o paren_open) _ (or_true (list_any (nat_eq o) postfix_operators) _ h)

pub step_start : (o : ℕ) → list_any (nat_eq o) postfix_operators ≡ true → is_start (Punct 0 o) ≡ true
step_start o h = or_mid (nat_eq o paren_open) (list_any (nat_eq o) postfix_operators) (list_any (nat_eq o) signs) h

pub complement_sign : (o : ℕ) → list_any (nat_eq o) complements ≡ true → list_any (nat_eq o) signs ≡ true
complement_sign o h = among (λ n. list_any (nat_eq n) signs ≡ true) complements o (refl, (refl, tt)) h

-- what begins a `plain` begins an expression
pub plain_start : (xs : List Terminal) → begins_plain xs ≡ true → IsStart xs
plain_start [] h = true≢false (sym h)
plain_start (Ident i ∷ xs) h = refl
plain_start (Keyword p k ∷ xs) h = h
plain_start (Literal p l ∷ xs) h = refl
plain_start (Minimum p ∷ xs) h = h
plain_start (MinimumLong p ∷ xs) h = h
plain_start (Punct p o ∷ xs) h = elim (or_either (nat_eq o paren_open) (list_any (nat_eq o) complements) h) [
  | inl w ↦ ap (λ n. is_start (Punct p n)) (eqb-true o 0 w)
  | inr w ↦ sign_start o (complement_sign o w)
]

pub plain_name : {ids : List Identifier} {xs ys : List Terminal} → DerivesName ids xs ys → begins_plain xs ≡ true
plain_name name_one = refl
plain_name (name_more d) = refl

pub plain_head : {f : Form} {e : ExprTree} {xs ys : List Terminal} → DerivesHead f e xs ys → begins_plain xs ≡ true
plain_head head_literal = refl
plain_head head_this = refl
plain_head (head_paren h d) = refl
plain_head (head_name d h) = plain_name d
plain_head (head_call a) = refl
plain_head (head_super_field h) = refl
plain_head (head_super_call a) = refl
plain_head (head_new m a) = refl
plain_head (head_new_array m d h) = refl
plain_head (head_new_list m q l) = refl

pub plain_primary : {f : Form} {e : ExprTree} {xs ys : List Terminal} → DerivesPrimary f e xs ys → begins_plain xs ≡ true
plain_primary (primary_head d) = plain_head d
plain_primary (primary_field d h) = plain_primary d
plain_primary (primary_call d a) = plain_primary d
plain_primary (primary_index d x) = plain_primary d

pub plain_posts : {f : Form} {e : ExprTree} {xs ys : List Terminal} → DerivesPost f e xs ys → begins_plain xs ≡ true
plain_posts (post_primary d) = plain_primary d
plain_posts (post_step d h) = plain_posts d

pub plain_casts : {e : ExprTree} {xs ys : List Terminal} → DerivesCast e xs ys → begins_plain xs ≡ true
plain_casts (cast_prim m d) = refl
plain_casts (cast_reference m d) = refl

pub plain_begins : {f : Form} {e : ExprTree} {xs ys : List Terminal} → DerivesPlain f e xs ys → begins_plain xs ≡ true
plain_begins (plain_sign {o} h d) = or_true (nat_eq o paren_open) _ h
plain_begins (plain_cast d) = plain_casts d
plain_begins (plain_post d) = plain_posts d

pub start_primary : {f : Form} {e : ExprTree} {xs ys : List Terminal} → DerivesPrimary f e xs ys → IsStart xs
start_primary {xs} d = plain_start xs (plain_primary d)

pub start_unary : {f : Form} {e : ExprTree} {xs ys : List Terminal} → DerivesUnary f e xs ys → IsStart xs
start_unary (unary_sign {o} h d) = sign_start o h
start_unary (unary_step {o} h d) = step_start o h
start_unary unary_minimum = refl
start_unary unary_minimum_long = refl
start_unary (unary_cast {xs} d) = plain_start xs (plain_casts d)
start_unary (unary_post {xs} d) = plain_start xs (plain_posts d)

pub start_bin : {levels : List (List ℕ)} {f : Form} {e : ExprTree} {xs ys : List Terminal} → DerivesBin levels f e xs ys → IsStart xs
start_bin (bin_unary d) = start_unary d
start_bin (bin_one d) = start_bin d
start_bin (bin_chain d l) = start_bin d

pub start_cond : {f : Form} {e : ExprTree} {xs ys : List Terminal} → DerivesCond f e xs ys → IsStart xs
start_cond (cond_bin d) = start_bin d
start_cond (cond_choice d a b) = start_bin d

pub start_expr : {f : Form} {e : ExprTree} {xs ys : List Terminal} → DerivesExpr f e xs ys → IsStart xs
start_expr (expr_assign d h r) = start_primary d
start_expr (expr_cond d) = start_cond d

pub start_exprs : {es : ExprTrees} {xs ys : List Terminal} → DerivesExprs es xs ys → IsStart xs
start_exprs (exprs_one d) = start_expr d
start_exprs (exprs_more d r) = start_expr d
