-- That a derivation takes terminals, and nests less deep than it takes them.
use Rattle.std.proofs.Common.{ℕ, ◌<◌, ◌≤◌, ◌+◌, List, length, arith}
use Rattle.jv_tree.specs.declared.name.Ident.{Ident as Identifier}
use Rattle.jv_tree.specs.TypeTree.{BaseTree, TypeTree}
use Rattle.jv_tree.specs.ExprTree.{ExprTree, OperandTree, InitTree, ExprTrees, InitTrees, LinkTrees}
use Rattle.jv_grammar.specs.declared.terminal.Terminal.{Terminal}
use Rattle.jv_grammar.specs.declared.form.Form.{Form}
use Rattle.jv_grammar.specs.TypeGrammar.{DerivesName, name_one, name_more, DerivesNames, names_one, names_more, DerivesPrim, prim_boolean, prim_char, prim_int, prim_long, DerivesBase, base_prim, base_name, DerivesPairs, pairs_none, pairs_more, DerivesTy, ty, DerivesReference, reference_name, reference_prim, DerivesResult, result_ty, result_void}
use Rattle.jv_grammar.specs.ExprGrammar.{DerivesExpr, expr_assign, expr_cond, DerivesCond, cond_bin, cond_choice, DerivesBin, bin_unary, bin_one, bin_chain, DerivesLinks, links_one, links_more, DerivesLink, link_operand, link_type, DerivesUnary, unary_sign, unary_step, unary_minimum, unary_minimum_long, unary_cast, unary_post, DerivesCast, cast_prim, cast_reference, DerivesPlain, plain_sign, plain_cast, plain_post, DerivesPost, post_primary, post_step, DerivesPrimary, primary_head, primary_field, primary_call, primary_index, DerivesHead, head_literal, head_this, head_paren, head_name, head_call, head_super_field, head_super_call, head_new, head_new_array, head_new_list, DerivesDims, dims_one, dims_more, DerivesArgs, args_none, args_some, DerivesExprs, exprs_one, exprs_more, DerivesInit, init_expr, init_list, DerivesList, list_none, list_some, DerivesInits, inits_one, inits_more, DerivesListEnd, list_end, list_comma_end}
pub use Rattle.jv_grammar.specs.Depth.{deep_expr, deep_cond, deep_bin, deep_links, deep_link, deep_unary, deep_cast, deep_plain, deep_post, deep_primary, deep_head, deep_dims, deep_args, deep_exprs, deep_init, deep_list, deep_inits}

-- a derivation takes at least one terminal
pub less_name : {ids : List Identifier} {xs ys : List Terminal} → DerivesName ids xs ys → length ys < length xs
less_name name_one = omega arith
less_name (name_more d) = omega (arith, less_name d)

pub less_names : {ns : List (List Identifier)} {xs ys : List Terminal} → DerivesNames ns xs ys → length ys < length xs
less_names (names_one d) = less_name d
less_names (names_more d r) = omega (arith, less_name d, less_names r)

pub less_prim : {p : ℕ} {b : BaseTree} {xs ys : List Terminal} → DerivesPrim p b xs ys → length ys < length xs
less_prim prim_boolean = omega arith
less_prim prim_char = omega arith
less_prim prim_int = omega arith
less_prim prim_long = omega arith

pub less_base : {p : ℕ} {b : BaseTree} {xs ys : List Terminal} → DerivesBase p b xs ys → length ys < length xs
less_base (base_prim d) = less_prim d
less_base (base_name d) = less_name d

pub less_pairs : {n : ℕ} {xs ys : List Terminal} → DerivesPairs n xs ys → length ys ≤ length xs
less_pairs pairs_none = omega arith
less_pairs (pairs_more d) = omega (arith, less_pairs d)

pub less_ty : {r : TypeTree} {xs ys : List Terminal} → DerivesTy r xs ys → length ys < length xs
less_ty (ty b d) = omega (arith, less_base b, less_pairs d)

pub less_reference : {r : TypeTree} {xs ys : List Terminal} → DerivesReference r xs ys → length ys < length xs
less_reference (reference_name m d) = omega (arith, less_name m, less_pairs d)
less_reference (reference_prim m d) = omega (arith, less_prim m, less_pairs d)

pub less_result : {r : TypeTree} {xs ys : List Terminal} → DerivesResult r xs ys → length ys < length xs
less_result (result_ty d) = less_ty d
less_result result_void = omega arith

pub less_end : {xs ys : List Terminal} → DerivesListEnd xs ys → length ys < length xs
less_end list_end = omega arith
less_end list_comma_end = omega arith

mutual
  pub less_expr : {f : Form} {e : ExprTree} {xs ys : List Terminal} → DerivesExpr f e xs ys → length ys < length xs
  less_expr (expr_assign d h r) = omega (arith, less_primary d, less_expr r)
  less_expr (expr_cond d) = omega (arith, less_cond d)

  pub less_cond : {f : Form} {e : ExprTree} {xs ys : List Terminal} → DerivesCond f e xs ys → length ys < length xs
  less_cond (cond_bin d) = omega (arith, less_bin d)
  less_cond (cond_choice d a b) = omega (arith, less_bin d, less_expr a, less_cond b)

  pub less_bin : {levels : List (List ℕ)} {f : Form} {e : ExprTree} {xs ys : List Terminal} → DerivesBin levels f e xs ys → length ys < length xs
  less_bin (bin_unary d) = omega (arith, less_unary d)
  less_bin (bin_one d) = omega (arith, less_bin d)
  less_bin (bin_chain d l) = omega (arith, less_bin d, less_links l)

  pub less_links : {level : List ℕ} {tighter : List (List ℕ)} {ls : LinkTrees} {xs ys : List Terminal} → DerivesLinks level tighter ls xs ys → length ys < length xs
  less_links (links_one d) = omega (arith, less_link d)
  less_links (links_more d l) = omega (arith, less_link d, less_links l)

  pub less_link : {level : List ℕ} {tighter : List (List ℕ)} {p o : ℕ} {x : OperandTree} {xs ys : List Terminal} → DerivesLink level tighter p o x xs ys → length ys < length xs
  less_link (link_operand h d) = omega (arith, less_bin d)
  less_link (link_type h d) = omega (arith, less_reference d)

  pub less_unary : {f : Form} {e : ExprTree} {xs ys : List Terminal} → DerivesUnary f e xs ys → length ys < length xs
  less_unary (unary_sign h d) = omega (arith, less_unary d)
  less_unary (unary_step h d) = omega (arith, less_unary d)
  less_unary unary_minimum = omega arith
  less_unary unary_minimum_long = omega arith
  less_unary (unary_cast d) = omega (arith, less_cast d)
  less_unary (unary_post d) = omega (arith, less_post d)

  pub less_cast : {e : ExprTree} {xs ys : List Terminal} → DerivesCast e xs ys → length ys < length xs
  less_cast (cast_prim m d) = omega (arith, less_prim m, less_unary d)
  less_cast (cast_reference m d) = omega (arith, less_reference m, less_plain d)

  pub less_plain : {f : Form} {e : ExprTree} {xs ys : List Terminal} → DerivesPlain f e xs ys → length ys < length xs
  less_plain (plain_sign h d) = omega (arith, less_unary d)
  less_plain (plain_cast d) = omega (arith, less_cast d)
  less_plain (plain_post d) = omega (arith, less_post d)

  pub less_post : {f : Form} {e : ExprTree} {xs ys : List Terminal} → DerivesPost f e xs ys → length ys < length xs
  less_post (post_primary d) = omega (arith, less_primary d)
  less_post (post_step d h) = omega (arith, less_post d)

  pub less_primary : {f : Form} {e : ExprTree} {xs ys : List Terminal} → DerivesPrimary f e xs ys → length ys < length xs
  less_primary (primary_head d) = omega (arith, less_head d)
  less_primary (primary_field d h) = omega (arith, less_primary d)
  less_primary (primary_call d a) = omega (arith, less_primary d, less_args a)
  less_primary (primary_index d x) = omega (arith, less_primary d, less_expr x)

  pub less_head : {f : Form} {e : ExprTree} {xs ys : List Terminal} → DerivesHead f e xs ys → length ys < length xs
  less_head head_literal = omega arith
  less_head head_this = omega arith
  less_head (head_paren h d) = omega (arith, less_expr d)
  less_head (head_name m h) = omega (arith, less_name m)
  less_head (head_call a) = omega (arith, less_args a)
  less_head (head_super_field h) = omega arith
  less_head (head_super_call a) = omega (arith, less_args a)
  less_head (head_new m a) = omega (arith, less_name m, less_args a)
  less_head (head_new_array m d h) = omega (arith, less_base m, less_dims d)
  less_head (head_new_list m q l) = omega (arith, less_base m, less_pairs q, less_list l)

  pub less_dims : {es : ExprTrees} {n : ℕ} {xs ys : List Terminal} → DerivesDims es n xs ys → length ys < length xs
  less_dims (dims_one d q) = omega (arith, less_expr d, less_pairs q)
  less_dims (dims_more d r) = omega (arith, less_expr d, less_dims r)

  pub less_args : {es : ExprTrees} {xs ys : List Terminal} → DerivesArgs es xs ys → length ys < length xs
  less_args args_none = omega arith
  less_args (args_some d) = omega (arith, less_exprs d)

  pub less_exprs : {es : ExprTrees} {xs ys : List Terminal} → DerivesExprs es xs ys → length ys < length xs
  less_exprs (exprs_one d) = omega (arith, less_expr d)
  less_exprs (exprs_more d r) = omega (arith, less_expr d, less_exprs r)

  pub less_init : {i : InitTree} {xs ys : List Terminal} → DerivesInit i xs ys → length ys < length xs
  less_init (init_expr d) = omega (arith, less_expr d)
  less_init (init_list d) = omega (arith, less_list d)

  pub less_list : {p : ℕ} {is : InitTrees} {xs ys : List Terminal} → DerivesList p is xs ys → length ys < length xs
  less_list (list_none d) = omega (arith, less_end d)
  less_list (list_some d q) = omega (arith, less_inits d, less_end q)

  pub less_inits : {is : InitTrees} {xs ys : List Terminal} → DerivesInits is xs ys → length ys < length xs
  less_inits (inits_one d) = omega (arith, less_init d)
  less_inits (inits_more d r) = omega (arith, less_init d, less_inits r)

-- a derivation nests less deep than it has terminals
mutual
  pub fits_expr : {f : Form} {e : ExprTree} {xs ys : List Terminal} → (d : DerivesExpr f e xs ys) → deep_expr d + length ys < length xs
  fits_expr (expr_assign d h r) = omega (arith, fits_primary d, fits_expr r)
  fits_expr (expr_cond d) = omega (arith, fits_cond d)

  pub fits_cond : {f : Form} {e : ExprTree} {xs ys : List Terminal} → (d : DerivesCond f e xs ys) → deep_cond d + length ys < length xs
  fits_cond (cond_bin d) = omega (arith, fits_bin d)
  fits_cond (cond_choice d a b) = omega (arith, fits_bin d, fits_expr a, fits_cond b)

  pub fits_bin : {levels : List (List ℕ)} {f : Form} {e : ExprTree} {xs ys : List Terminal} → (d : DerivesBin levels f e xs ys) → deep_bin d + length ys < length xs
  fits_bin (bin_unary d) = omega (arith, fits_unary d)
  fits_bin (bin_one d) = omega (arith, fits_bin d)
  fits_bin (bin_chain d l) = omega (arith, fits_bin d, fits_links l)

  pub fits_links : {level : List ℕ} {tighter : List (List ℕ)} {ls : LinkTrees} {xs ys : List Terminal} → (d : DerivesLinks level tighter ls xs ys) → deep_links d + length ys < length xs
  fits_links (links_one d) = omega (arith, fits_link d)
  fits_links (links_more d l) = omega (arith, fits_link d, fits_links l)

  pub fits_link : {level : List ℕ} {tighter : List (List ℕ)} {p o : ℕ} {x : OperandTree} {xs ys : List Terminal} → (d : DerivesLink level tighter p o x xs ys) → deep_link d + length ys < length xs
  fits_link (link_operand h d) = omega (arith, fits_bin d)
  fits_link (link_type h d) = omega (arith, less_reference d)

  pub fits_unary : {f : Form} {e : ExprTree} {xs ys : List Terminal} → (d : DerivesUnary f e xs ys) → deep_unary d + length ys < length xs
  fits_unary (unary_sign h d) = omega (arith, fits_unary d)
  fits_unary (unary_step h d) = omega (arith, fits_unary d)
  fits_unary unary_minimum = omega arith
  fits_unary unary_minimum_long = omega arith
  fits_unary (unary_cast d) = omega (arith, fits_cast d)
  fits_unary (unary_post d) = omega (arith, fits_post d)

  pub fits_cast : {e : ExprTree} {xs ys : List Terminal} → (d : DerivesCast e xs ys) → deep_cast d + length ys < length xs
  fits_cast (cast_prim m d) = omega (arith, less_prim m, fits_unary d)
  fits_cast (cast_reference m d) = omega (arith, less_reference m, fits_plain d)

  pub fits_plain : {f : Form} {e : ExprTree} {xs ys : List Terminal} → (d : DerivesPlain f e xs ys) → deep_plain d + length ys < length xs
  fits_plain (plain_sign h d) = omega (arith, fits_unary d)
  fits_plain (plain_cast d) = omega (arith, fits_cast d)
  fits_plain (plain_post d) = omega (arith, fits_post d)

  pub fits_post : {f : Form} {e : ExprTree} {xs ys : List Terminal} → (d : DerivesPost f e xs ys) → deep_post d + length ys < length xs
  fits_post (post_primary d) = omega (arith, fits_primary d)
  fits_post (post_step d h) = omega (arith, fits_post d)

  pub fits_primary : {f : Form} {e : ExprTree} {xs ys : List Terminal} → (d : DerivesPrimary f e xs ys) → deep_primary d + length ys < length xs
  fits_primary (primary_head d) = omega (arith, fits_head d)
  fits_primary (primary_field d h) = omega (arith, fits_primary d)
  fits_primary (primary_call d a) = omega (arith, fits_primary d, fits_args a)
  fits_primary (primary_index d x) = omega (arith, fits_primary d, fits_expr x)

  pub fits_head : {f : Form} {e : ExprTree} {xs ys : List Terminal} → (d : DerivesHead f e xs ys) → deep_head d + length ys < length xs
  fits_head head_literal = omega arith
  fits_head head_this = omega arith
  fits_head (head_paren h d) = omega (arith, fits_expr d)
  fits_head (head_name m h) = omega (arith, less_name m)
  fits_head (head_call a) = omega (arith, fits_args a)
  fits_head (head_super_field h) = omega arith
  fits_head (head_super_call a) = omega (arith, fits_args a)
  fits_head (head_new m a) = omega (arith, less_name m, fits_args a)
  fits_head (head_new_array m d h) = omega (arith, less_base m, fits_dims d)
  fits_head (head_new_list m q l) = omega (arith, less_base m, less_pairs q, fits_list l)

  pub fits_dims : {es : ExprTrees} {n : ℕ} {xs ys : List Terminal} → (d : DerivesDims es n xs ys) → deep_dims d + length ys < length xs
  fits_dims (dims_one d q) = omega (arith, fits_expr d, less_pairs q)
  fits_dims (dims_more d r) = omega (arith, fits_expr d, fits_dims r)

  pub fits_args : {es : ExprTrees} {xs ys : List Terminal} → (d : DerivesArgs es xs ys) → deep_args d + length ys < length xs
  fits_args args_none = omega arith
  fits_args (args_some d) = omega (arith, fits_exprs d)

  pub fits_exprs : {es : ExprTrees} {xs ys : List Terminal} → (d : DerivesExprs es xs ys) → deep_exprs d + length ys < length xs
  fits_exprs (exprs_one d) = omega (arith, fits_expr d)
  fits_exprs (exprs_more d r) = omega (arith, fits_expr d, fits_exprs r)

  pub fits_init : {i : InitTree} {xs ys : List Terminal} → (d : DerivesInit i xs ys) → deep_init d + length ys < length xs
  fits_init (init_expr d) = omega (arith, fits_expr d)
  fits_init (init_list d) = omega (arith, fits_list d)

  pub fits_list : {p : ℕ} {is : InitTrees} {xs ys : List Terminal} → (d : DerivesList p is xs ys) → deep_list d + length ys < length xs
  fits_list (list_none d) = omega (arith, less_end d)
  fits_list (list_some d q) = omega (arith, fits_inits d, less_end q)

  pub fits_inits : {is : InitTrees} {xs ys : List Terminal} → (d : DerivesInits is xs ys) → deep_inits d + length ys < length xs
  fits_inits (inits_one d) = omega (arith, fits_init d)
  fits_inits (inits_more d r) = omega (arith, fits_init d, fits_inits r)
