-- Where no more than 200 pairs of square brackets follow one another, no type that derives has more.
use Rattle.std.proofs.Common.{◌≡◌, ℕ, ◌≤◌, false, List, [], ◌∷◌, arith, refl}
use Rattle.jv_tree.specs.declared.name.Ident.{Ident as Identifier}
use Rattle.jv_tree.specs.TypeTree.{BaseTree, TypeTree}
use Rattle.jv_tree.specs.ExprTree.{ExprTree, OperandTree, InitTree, ExprTrees, InitTrees, LinkTrees}
use Rattle.jv_tree.specs.Shaped.{levels, postfix_operators, assignment_operators}
use Rattle.jv_grammar.specs.declared.terminal.Terminal.{Terminal}
use Rattle.jv_grammar.specs.declared.terminal.Terminal.TheVariants.{Punct}
use Rattle.jv_grammar.specs.declared.form.Form.{Form}
use Rattle.jv_grammar.specs.Marks.{complements, signs}
use Rattle.jv_grammar.specs.TypeGrammar.{DerivesName, name_one, name_more, DerivesPrim, prim_boolean, prim_char, prim_int, prim_long, DerivesBase, base_prim, base_name, DerivesPairs, pairs_none, pairs_more, DerivesTy, ty, DerivesReference, reference_name, reference_prim}
use Rattle.jv_grammar.specs.ExprGrammar.{DerivesExpr, expr_assign, expr_cond, DerivesCond, cond_bin, cond_choice, DerivesBin, bin_unary, bin_one, bin_chain, DerivesLinks, links_one, links_more, DerivesLink, link_operand, link_type, DerivesUnary, unary_sign, unary_step, unary_minimum, unary_minimum_long, unary_cast, unary_post, DerivesCast, cast_prim, cast_reference, DerivesPlain, plain_sign, plain_cast, plain_post, DerivesPost, post_primary, post_step, DerivesPrimary, primary_head, primary_field, primary_call, primary_index, DerivesHead, head_literal, head_this, head_paren, head_name, head_call, head_super_field, head_super_call, head_new, head_new_array, head_new_list, DerivesDims, dims_one, dims_more, DerivesArgs, args_none, args_some, DerivesExprs, exprs_one, exprs_more, DerivesInit, init_expr, init_list, DerivesList, list_none, list_some, DerivesInits, inits_one, inits_more, list_end, list_comma_end}
use Rattle.jv_grammar.specs.TypeGrammar.{DerivesNames, names_one, names_more, DerivesResult, result_ty, result_void}
use Rattle.jv_grammar.specs.Load.{is_opening, is_closing, IsClosed, nothing, terminal, group, BeginsWithPairs, none, pair, HasFewBrackets}
use Rattle.jv_grammar.specs.Width.{wide_ty, wide_reference, wide_result, count_dims, wide_expr, wide_cond, wide_bin, wide_links, wide_link, wide_unary, wide_cast, wide_plain, wide_post, wide_primary, wide_head, wide_dims, wide_args, wide_exprs, wide_init, wide_list, wide_inits}
use Rattle.jv_grammar.proofs.Read.{among, Each}
use Rattle.jv_grammar.proofs.ClosedBrackets.{closed_trans, few_behind, few_pairs}

-- a mark that is no bracket
abbrev pub IsFlat : ℕ → Type 0
IsFlat o = (is_opening (Punct 0 o) ≡ false) × (is_closing (Punct 0 o) ≡ false)

flat : (p o : ℕ) {xs ys : List Terminal} → IsFlat o → IsClosed xs ys → IsClosed (Punct p o ∷ xs) ys
flat p o f c = terminal f.0 f.1 c

-- no operator of the levels is a bracket
abbrev pub AreFlat : List (List ℕ) → Type 0
AreFlat [] = Unit {0}
AreFlat (level ∷ tighter) = Each IsFlat level × AreFlat tighter

pub levels_flat : AreFlat levels
levels_flat = (((refl, refl), tt), (((refl, refl), tt), (((refl, refl), tt), (((refl, refl), tt), (((refl, refl), tt), (((refl, refl), ((refl, refl), tt)), (((refl, refl), ((refl, refl), ((refl, refl), ((refl, refl), ((refl, refl), tt))))), (((refl, refl), ((refl, refl), ((refl, refl), tt))), (((refl, refl), ((refl, refl), tt)), (((refl, refl), ((refl, refl), ((refl, refl), tt))), tt))))))))))

assignments_flat : Each IsFlat assignment_operators
assignments_flat = ((refl, refl), ((refl, refl), ((refl, refl), ((refl, refl), ((refl, refl), ((refl, refl), ((refl, refl), ((refl, refl), ((refl, refl), ((refl, refl), ((refl, refl), ((refl, refl), tt))))))))))))

steps_flat : Each IsFlat postfix_operators
steps_flat = ((refl, refl), ((refl, refl), tt))

signs_flat : Each IsFlat signs
signs_flat = ((refl, refl), ((refl, refl), ((refl, refl), ((refl, refl), tt))))

complements_flat : Each IsFlat complements
complements_flat = ((refl, refl), ((refl, refl), tt))

-- each bracket of a derivation is closed in it
pub closed_name : {ids : List Identifier} {xs ys : List Terminal} → DerivesName ids xs ys → IsClosed xs ys
closed_name name_one = terminal refl refl nothing
closed_name (name_more d) = terminal refl refl (terminal refl refl (closed_name d))

pub closed_names : {ns : List (List Identifier)} {xs ys : List Terminal} → DerivesNames ns xs ys → IsClosed xs ys
closed_names (names_one d) = closed_name d
closed_names (names_more d r) = closed_trans (closed_name d) (terminal refl refl (closed_names r))

pub closed_prim : {p : ℕ} {b : BaseTree} {xs ys : List Terminal} → DerivesPrim p b xs ys → IsClosed xs ys
closed_prim prim_boolean = terminal refl refl nothing
closed_prim prim_char = terminal refl refl nothing
closed_prim prim_int = terminal refl refl nothing
closed_prim prim_long = terminal refl refl nothing

pub closed_base : {p : ℕ} {b : BaseTree} {xs ys : List Terminal} → DerivesBase p b xs ys → IsClosed xs ys
closed_base (base_prim d) = closed_prim d
closed_base (base_name d) = closed_name d

pub closed_pairs : {n : ℕ} {xs ys : List Terminal} → DerivesPairs n xs ys → IsClosed xs ys
closed_pairs pairs_none = nothing
closed_pairs (pairs_more d) = group refl nothing refl (closed_pairs d)

pub closed_ty : {r : TypeTree} {xs ys : List Terminal} → DerivesTy r xs ys → IsClosed xs ys
closed_ty (ty m d) = closed_trans (closed_base m) (closed_pairs d)

pub closed_reference : {r : TypeTree} {xs ys : List Terminal} → DerivesReference r xs ys → IsClosed xs ys
closed_reference (reference_name m d) = closed_trans (closed_name m) (closed_pairs d)
closed_reference (reference_prim m d) = closed_trans (closed_prim m) (closed_pairs d)

pub closed_result : {r : TypeTree} {xs ys : List Terminal} → DerivesResult r xs ys → IsClosed xs ys
closed_result (result_ty d) = closed_ty d
closed_result result_void = terminal refl refl nothing

mutual
  pub closed_expr : {f : Form} {e : ExprTree} {xs ys : List Terminal} → DerivesExpr f e xs ys → IsClosed xs ys
  closed_expr (expr_assign {p} {o} d h r) = closed_trans (closed_primary d) (flat p o (among IsFlat assignment_operators o assignments_flat h) (closed_expr r))
  closed_expr (expr_cond d) = closed_cond d

  pub closed_cond : {f : Form} {e : ExprTree} {xs ys : List Terminal} → DerivesCond f e xs ys → IsClosed xs ys
  closed_cond (cond_bin d) = closed_bin levels_flat d
  closed_cond (cond_choice d x y) = closed_trans (closed_bin levels_flat d) (terminal refl refl (closed_trans (closed_expr x) (terminal refl refl (closed_cond y))))

  pub closed_bin : {levels' : List (List ℕ)} {f : Form} {e : ExprTree} {xs ys : List Terminal} → AreFlat levels' → DerivesBin levels' f e xs ys → IsClosed xs ys
  closed_bin a (bin_unary d) = closed_unary d
  closed_bin a (bin_one d) = closed_bin a.1 d
  closed_bin a (bin_chain d l) = closed_trans (closed_bin a.1 d) (closed_links a.0 a.1 l)

  pub closed_links : {level : List ℕ} {tighter : List (List ℕ)} {ls : LinkTrees} {xs ys : List Terminal} → Each IsFlat level → AreFlat tighter → DerivesLinks level tighter ls xs ys → IsClosed xs ys
  closed_links e a (links_one d) = closed_link e a d
  closed_links e a (links_more d l) = closed_trans (closed_link e a d) (closed_links e a l)

  pub closed_link : {level : List ℕ} {tighter : List (List ℕ)} {p o : ℕ} {x : OperandTree} {xs ys : List Terminal} → Each IsFlat level → AreFlat tighter → DerivesLink level tighter p o x xs ys → IsClosed xs ys
  closed_link {level} e a (link_operand {p} {o} m d) = flat p o (among IsFlat level o e m.0) (closed_bin a d)
  closed_link e a (link_type m d) = terminal refl refl (closed_reference d)

  pub closed_unary : {f : Form} {e : ExprTree} {xs ys : List Terminal} → DerivesUnary f e xs ys → IsClosed xs ys
  closed_unary (unary_sign {p} {o} h d) = flat p o (among IsFlat signs o signs_flat h) (closed_unary d)
  closed_unary (unary_step {p} {o} h d) = flat p o (among IsFlat postfix_operators o steps_flat h) (closed_unary d)
  closed_unary unary_minimum = terminal refl refl (terminal refl refl nothing)
  closed_unary unary_minimum_long = terminal refl refl (terminal refl refl nothing)
  closed_unary (unary_cast d) = closed_cast d
  closed_unary (unary_post d) = closed_post d

  pub closed_cast : {e : ExprTree} {xs ys : List Terminal} → DerivesCast e xs ys → IsClosed xs ys
  closed_cast (cast_prim m d) = group refl (closed_prim m) refl (closed_unary d)
  closed_cast (cast_reference m d) = group refl (closed_reference m) refl (closed_plain d)

  pub closed_plain : {f : Form} {e : ExprTree} {xs ys : List Terminal} → DerivesPlain f e xs ys → IsClosed xs ys
  closed_plain (plain_sign {p} {o} h d) = flat p o (among IsFlat complements o complements_flat h) (closed_unary d)
  closed_plain (plain_cast d) = closed_cast d
  closed_plain (plain_post d) = closed_post d

  pub closed_post : {f : Form} {e : ExprTree} {xs ys : List Terminal} → DerivesPost f e xs ys → IsClosed xs ys
  closed_post (post_primary d) = closed_primary d
  closed_post (post_step {p} {o} d h) = closed_trans (closed_post d) (flat p o (among IsFlat postfix_operators o steps_flat h) nothing)

  pub closed_primary : {f : Form} {e : ExprTree} {xs ys : List Terminal} → DerivesPrimary f e xs ys → IsClosed xs ys
  closed_primary (primary_head d) = closed_head d
  closed_primary (primary_field d h) = closed_trans (closed_primary d) (terminal refl refl (terminal refl refl nothing))
  closed_primary (primary_call d a) = closed_trans (closed_primary d) (terminal refl refl (terminal refl refl (closed_args a)))
  closed_primary (primary_index d x) = closed_trans (closed_primary d) (group refl (closed_expr x) refl nothing)

  pub closed_head : {f : Form} {e : ExprTree} {xs ys : List Terminal} → DerivesHead f e xs ys → IsClosed xs ys
  closed_head head_literal = terminal refl refl nothing
  closed_head head_this = terminal refl refl nothing
  closed_head (head_paren h d) = group refl (closed_expr d) refl nothing
  closed_head (head_name d h) = closed_name d
  closed_head (head_call a) = terminal refl refl (closed_args a)
  closed_head (head_super_field h) = terminal refl refl (terminal refl refl (terminal refl refl nothing))
  closed_head (head_super_call a) = terminal refl refl (terminal refl refl (terminal refl refl (closed_args a)))
  closed_head (head_new m a) = terminal refl refl (closed_trans (closed_name m) (closed_args a))
  closed_head (head_new_array m d h) = terminal refl refl (closed_trans (closed_base m) (closed_dims d))
  closed_head (head_new_list m q l) = terminal refl refl (closed_trans (closed_base m) (closed_trans (closed_pairs q) (closed_list l)))

  pub closed_dims : {es : ExprTrees} {n : ℕ} {xs ys : List Terminal} → DerivesDims es n xs ys → IsClosed xs ys
  closed_dims (dims_one d q) = group refl (closed_expr d) refl (closed_pairs q)
  closed_dims (dims_more d r) = group refl (closed_expr d) refl (closed_dims r)

  pub closed_args : {es : ExprTrees} {xs ys : List Terminal} → DerivesArgs es xs ys → IsClosed xs ys
  closed_args args_none = group refl nothing refl nothing
  closed_args (args_some d) = group refl (closed_exprs d) refl nothing

  pub closed_exprs : {es : ExprTrees} {xs ys : List Terminal} → DerivesExprs es xs ys → IsClosed xs ys
  closed_exprs (exprs_one d) = closed_expr d
  closed_exprs (exprs_more d r) = closed_trans (closed_expr d) (terminal refl refl (closed_exprs r))

  pub closed_init : {i : InitTree} {xs ys : List Terminal} → DerivesInit i xs ys → IsClosed xs ys
  closed_init (init_expr d) = closed_expr d
  closed_init (init_list d) = closed_list d

  pub closed_list : {p : ℕ} {is : InitTrees} {xs ys : List Terminal} → DerivesList p is xs ys → IsClosed xs ys
  closed_list (list_none list_end) = group refl nothing refl nothing
  closed_list (list_none list_comma_end) = group refl (terminal refl refl nothing) refl nothing
  closed_list (list_some d list_end) = group refl (closed_inits d) refl nothing
  closed_list (list_some d list_comma_end) = group refl (closed_trans (closed_inits d) (terminal refl refl nothing)) refl nothing

  pub closed_inits : {is : InitTrees} {xs ys : List Terminal} → DerivesInits is xs ys → IsClosed xs ys
  closed_inits (inits_one d) = closed_init d
  closed_inits (inits_more d r) = closed_trans (closed_init d) (terminal refl refl (closed_inits r))

pub pairs_begin : {n : ℕ} {xs ys : List Terminal} → DerivesPairs n xs ys → BeginsWithPairs n xs
pairs_begin pairs_none = none
pairs_begin (pairs_more d) = pair nothing (pairs_begin d)

pub dims_begin : {es : ExprTrees} {n : ℕ} {xs ys : List Terminal} (d : DerivesDims es n xs ys) → BeginsWithPairs (count_dims d) xs
dims_begin (dims_one d q) = pair (closed_expr d) (pairs_begin q)
dims_begin (dims_more d r) = pair (closed_expr d) (dims_begin r)

few_of : {n : ℕ} {xs zs ys : List Terminal} → HasFewBrackets xs → IsClosed xs zs → DerivesPairs n zs ys → n ≤ 200
few_of h c d = few_pairs (few_behind c h) (pairs_begin d)

-- no type has more than 200 pairs
pub few_ty : {r : TypeTree} {xs ys : List Terminal} → HasFewBrackets xs → (d : DerivesTy r xs ys) → wide_ty d ≤ 200
few_ty h (ty m d) = few_of h (closed_base m) d

pub few_reference : {r : TypeTree} {xs ys : List Terminal} → HasFewBrackets xs → (d : DerivesReference r xs ys) → wide_reference d ≤ 200
few_reference h (reference_name m d) = few_of h (closed_name m) d
few_reference h (reference_prim m d) = few_of h (closed_prim m) d

pub few_result : {r : TypeTree} {xs ys : List Terminal} → HasFewBrackets xs → (d : DerivesResult r xs ys) → wide_result d ≤ 200
few_result h (result_ty d) = few_ty h d
few_result h result_void = omega arith

mutual
  pub few_expr : {f : Form} {e : ExprTree} {xs ys : List Terminal} → HasFewBrackets xs → (d : DerivesExpr f e xs ys) → wide_expr d ≤ 200
  few_expr h (expr_assign d m r) = omega (arith, few_primary h d, few_expr (few_behind (closed_primary d) h).1 r)
  few_expr h (expr_cond d) = few_cond h d

  pub few_cond : {f : Form} {e : ExprTree} {xs ys : List Terminal} → HasFewBrackets xs → (d : DerivesCond f e xs ys) → wide_cond d ≤ 200
  few_cond h (cond_bin d) = few_bin levels_flat h d
  few_cond h (cond_choice d x y) =
      let k = (few_behind (closed_bin levels_flat d) h).1 in
      omega (arith, few_bin levels_flat h d, few_expr k x, few_cond (few_behind (closed_expr x) k).1 y)

  pub few_bin : {levels' : List (List ℕ)} {f : Form} {e : ExprTree} {xs ys : List Terminal} → AreFlat levels' → HasFewBrackets xs → (d : DerivesBin levels' f e xs ys) → wide_bin d ≤ 200
  few_bin a h (bin_unary d) = few_unary h d
  few_bin a h (bin_one d) = few_bin a.1 h d
  few_bin a h (bin_chain d l) = omega (arith, few_bin a.1 h d, few_links a.0 a.1 (few_behind (closed_bin a.1 d) h) l)

  pub few_links : {level : List ℕ} {tighter : List (List ℕ)} {ls : LinkTrees} {xs ys : List Terminal} → Each IsFlat level → AreFlat tighter → HasFewBrackets xs → (d : DerivesLinks level tighter ls xs ys) → wide_links d ≤ 200
  few_links e a h (links_one d) = few_link e a h d
  few_links e a h (links_more d l) = omega (arith, few_link e a h d, few_links e a (few_behind (closed_link e a d) h) l)

  pub few_link : {level : List ℕ} {tighter : List (List ℕ)} {p o : ℕ} {x : OperandTree} {xs ys : List Terminal} → Each IsFlat level → AreFlat tighter → HasFewBrackets xs → (d : DerivesLink level tighter p o x xs ys) → wide_link d ≤ 200
  few_link e a h (link_operand m d) = few_bin a h.1 d
  few_link e a h (link_type m d) = few_reference h.1 d

  pub few_unary : {f : Form} {e : ExprTree} {xs ys : List Terminal} → HasFewBrackets xs → (d : DerivesUnary f e xs ys) → wide_unary d ≤ 200
  few_unary h (unary_sign m d) = few_unary h.1 d
  few_unary h (unary_step m d) = few_unary h.1 d
  few_unary h unary_minimum = omega arith
  few_unary h unary_minimum_long = omega arith
  few_unary h (unary_cast d) = few_cast h d
  few_unary h (unary_post d) = few_post h d

  pub few_cast : {e : ExprTree} {xs ys : List Terminal} → HasFewBrackets xs → (d : DerivesCast e xs ys) → wide_cast d ≤ 200
  few_cast h (cast_prim m d) = few_unary (few_behind (closed_prim m) h.1).1 d
  few_cast h (cast_reference m d) = omega (arith, few_reference h.1 m, few_plain (few_behind (closed_reference m) h.1).1 d)

  pub few_plain : {f : Form} {e : ExprTree} {xs ys : List Terminal} → HasFewBrackets xs → (d : DerivesPlain f e xs ys) → wide_plain d ≤ 200
  few_plain h (plain_sign m d) = few_unary h.1 d
  few_plain h (plain_cast d) = few_cast h d
  few_plain h (plain_post d) = few_post h d

  pub few_post : {f : Form} {e : ExprTree} {xs ys : List Terminal} → HasFewBrackets xs → (d : DerivesPost f e xs ys) → wide_post d ≤ 200
  few_post h (post_primary d) = few_primary h d
  few_post h (post_step d m) = few_post h d

  pub few_primary : {f : Form} {e : ExprTree} {xs ys : List Terminal} → HasFewBrackets xs → (d : DerivesPrimary f e xs ys) → wide_primary d ≤ 200
  few_primary h (primary_head d) = few_head h d
  few_primary h (primary_field d m) = few_primary h d
  few_primary h (primary_call d a) = omega (arith, few_primary h d, few_args (few_behind (closed_primary d) h).1.1 a)
  few_primary h (primary_index d x) = omega (arith, few_primary h d, few_expr (few_behind (closed_primary d) h).1 x)

  pub few_head : {f : Form} {e : ExprTree} {xs ys : List Terminal} → HasFewBrackets xs → (d : DerivesHead f e xs ys) → wide_head d ≤ 200
  few_head h head_literal = omega arith
  few_head h head_this = omega arith
  few_head h (head_paren m d) = few_expr h.1 d
  few_head h (head_name d m) = omega arith
  few_head h (head_call a) = few_args h.1 a
  few_head h (head_super_field m) = omega arith
  few_head h (head_super_call a) = few_args h.1.1.1 a
  few_head h (head_new m a) = few_args (few_behind (closed_name m) h.1) a
  few_head h (head_new_array m d s) =
      let k = few_behind (closed_base m) h.1 in
      omega (arith, few_pairs k (dims_begin d), few_dims k d)
  few_head h (head_new_list m q l) = omega (arith, few_of h.1 (closed_base m) q, few_list (few_behind (closed_trans (closed_base m) (closed_pairs q)) h.1) l)

  pub few_dims : {es : ExprTrees} {n : ℕ} {xs ys : List Terminal} → HasFewBrackets xs → (d : DerivesDims es n xs ys) → wide_dims d ≤ 200
  few_dims h (dims_one d q) = few_expr h.1 d
  few_dims h (dims_more d r) = omega (arith, few_expr h.1 d, few_dims (few_behind (closed_expr d) h.1).1 r)

  pub few_args : {es : ExprTrees} {xs ys : List Terminal} → HasFewBrackets xs → (d : DerivesArgs es xs ys) → wide_args d ≤ 200
  few_args h args_none = omega arith
  few_args h (args_some d) = few_exprs h.1 d

  pub few_exprs : {es : ExprTrees} {xs ys : List Terminal} → HasFewBrackets xs → (d : DerivesExprs es xs ys) → wide_exprs d ≤ 200
  few_exprs h (exprs_one d) = few_expr h d
  few_exprs h (exprs_more d r) = omega (arith, few_expr h d, few_exprs (few_behind (closed_expr d) h).1 r)

  pub few_init : {i : InitTree} {xs ys : List Terminal} → HasFewBrackets xs → (d : DerivesInit i xs ys) → wide_init d ≤ 200
  few_init h (init_expr d) = few_expr h d
  few_init h (init_list d) = few_list h d

  pub few_list : {p : ℕ} {is : InitTrees} {xs ys : List Terminal} → HasFewBrackets xs → (d : DerivesList p is xs ys) → wide_list d ≤ 200
  few_list h (list_none d) = omega arith
  few_list h (list_some d e) = few_inits h.1 d

  pub few_inits : {is : InitTrees} {xs ys : List Terminal} → HasFewBrackets xs → (d : DerivesInits is xs ys) → wide_inits d ≤ 200
  few_inits h (inits_one d) = few_init h d
  few_inits h (inits_more d r) = omega (arith, few_init h d, few_inits (few_behind (closed_init d) h).1 r)
