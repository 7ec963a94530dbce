-- That a derivation of an expression has the identifiers of its tree.
use Rattle.std.proofs.Common.{◌≡◌, ℕ, ◌+◌, List, length, arith, refl}
use Rattle.jv_tree.specs.declared.name.Ident.{Ident as Identifier}
use Rattle.jv_tree.specs.TypeTree.{BaseTree, TypeTree}
use Rattle.jv_tree.specs.ExprTree.{ExprTree, KindTree, OperandTree, InitTree, ExprTrees, InitTrees, LinkTrees}
use Rattle.jv_grammar.specs.declared.terminal.Terminal.{Terminal}
use Rattle.jv_grammar.specs.declared.form.Form.{Form}
use Rattle.jv_grammar.specs.TypeGrammar.{DerivesName, name_one, name_more, DerivesNames, names_one, names_more, DerivesPrim, prim_boolean, prim_char, prim_int, prim_long, DerivesBase, base_prim, base_name, DerivesPairs, pairs_none, pairs_more, DerivesTy, ty, DerivesReference, reference_name, reference_prim, DerivesResult, result_ty, result_void}
use Rattle.jv_grammar.specs.ExprGrammar.{kind_of, literal_tree, DerivesExpr, expr_assign, expr_cond, DerivesCond, cond_bin, cond_choice, DerivesBin, bin_unary, bin_one, bin_chain, DerivesLinks, links_one, links_more, DerivesLink, link_operand, link_type, DerivesUnary, unary_sign, unary_step, unary_minimum, unary_minimum_long, unary_cast, unary_post, DerivesCast, cast_prim, cast_reference, DerivesPlain, plain_sign, plain_cast, plain_post, DerivesPost, post_primary, post_step, DerivesPrimary, primary_head, primary_field, primary_call, primary_index, DerivesHead, head_literal, head_this, head_paren, head_name, head_call, head_super_field, head_super_call, head_new, head_new_array, head_new_list, DerivesDims, dims_one, dims_more, DerivesArgs, args_none, args_some, DerivesExprs, exprs_one, exprs_more, DerivesInit, init_expr, init_list, DerivesList, list_none, list_some, DerivesInits, inits_one, inits_more, DerivesListEnd, list_end, list_comma_end}
use Rattle.jv_tree.specs.ExprTree as t
use Rattle.jv_grammar.specs.declared.terminal.LiteralKind.{LiteralKind}
use Rattle.jv_grammar.specs.declared.terminal.LiteralKind.TheVariants.{Int, Long, Char, Str, Bool, Null}
use Rattle.jv_tree.specs.Identifiers.{idents_names, idents_base, idents_type, idents_expr, idents_kind, idents_operand, idents_init, idents_exprs, idents_inits, idents_links}
use Rattle.jv_parse.specs.Identifiers.{idents_terminals}

-- what stands in parentheses has the identifiers of its kind, and a literal has none
idents_of_kind : (e : ExprTree) → idents_kind (kind_of e) ≡ idents_expr e
idents_of_kind (t.expr at k) = refl

idents_of_literal : (l : LiteralKind) → idents_kind (literal_tree l) ≡ 0
idents_of_literal Int = refl
idents_of_literal Long = refl
idents_of_literal Char = refl
idents_of_literal Str = refl
idents_of_literal (Bool b) = refl
idents_of_literal Null = refl

-- a derivation takes the identifiers of its tree, and no other
pub counted_name : {ids : List Identifier} {xs ys : List Terminal} → DerivesName ids xs ys → length ids + idents_terminals ys ≡ idents_terminals xs
counted_name name_one = omega arith
counted_name (name_more d) = omega (arith, counted_name d)

pub counted_names : {ns : List (List Identifier)} {xs ys : List Terminal} → DerivesNames ns xs ys → idents_names ns + idents_terminals ys ≡ idents_terminals xs
counted_names (names_one d) = omega (arith, counted_name d)
counted_names (names_more d r) = omega (arith, counted_name d, counted_names r)

pub counted_prim : {p : ℕ} {b : BaseTree} {xs ys : List Terminal} → DerivesPrim p b xs ys → idents_base b + idents_terminals ys ≡ idents_terminals xs
counted_prim prim_boolean = omega arith
counted_prim prim_char = omega arith
counted_prim prim_int = omega arith
counted_prim prim_long = omega arith

pub counted_base : {p : ℕ} {b : BaseTree} {xs ys : List Terminal} → DerivesBase p b xs ys → idents_base b + idents_terminals ys ≡ idents_terminals xs
counted_base (base_prim d) = omega (arith, counted_prim d)
counted_base (base_name d) = omega (arith, counted_name d)

pub counted_pairs : {n : ℕ} {xs ys : List Terminal} → DerivesPairs n xs ys → idents_terminals ys ≡ idents_terminals xs
counted_pairs pairs_none = omega arith
counted_pairs (pairs_more d) = omega (arith, counted_pairs d)

pub counted_ty : {r : TypeTree} {xs ys : List Terminal} → DerivesTy r xs ys → idents_type r + idents_terminals ys ≡ idents_terminals xs
counted_ty (ty b d) = omega (arith, counted_base b, counted_pairs d)

pub counted_reference : {r : TypeTree} {xs ys : List Terminal} → DerivesReference r xs ys → idents_type r + idents_terminals ys ≡ idents_terminals xs
counted_reference (reference_name m d) = omega (arith, counted_name m, counted_pairs d)
counted_reference (reference_prim m d) = omega (arith, counted_prim m, counted_pairs d)

pub counted_result : {r : TypeTree} {xs ys : List Terminal} → DerivesResult r xs ys → idents_type r + idents_terminals ys ≡ idents_terminals xs
counted_result (result_ty d) = omega (arith, counted_ty d)
counted_result result_void = omega arith

pub counted_end : {xs ys : List Terminal} → DerivesListEnd xs ys → idents_terminals ys ≡ idents_terminals xs
counted_end list_end = omega arith
counted_end list_comma_end = omega arith

mutual
  pub counted_expr : {f : Form} {e : ExprTree} {xs ys : List Terminal} → DerivesExpr f e xs ys → idents_expr e + idents_terminals ys ≡ idents_terminals xs
  counted_expr (expr_assign d h r) = omega (arith, counted_primary d, counted_expr r)
  counted_expr (expr_cond d) = omega (arith, counted_cond d)

  pub counted_cond : {f : Form} {e : ExprTree} {xs ys : List Terminal} → DerivesCond f e xs ys → idents_expr e + idents_terminals ys ≡ idents_terminals xs
  counted_cond (cond_bin d) = omega (arith, counted_bin d)
  counted_cond (cond_choice d a b) = omega (arith, counted_bin d, counted_expr a, counted_cond b)

  pub counted_bin : {levels : List (List ℕ)} {f : Form} {e : ExprTree} {xs ys : List Terminal} → DerivesBin levels f e xs ys → idents_expr e + idents_terminals ys ≡ idents_terminals xs
  counted_bin (bin_unary d) = omega (arith, counted_unary d)
  counted_bin (bin_one d) = omega (arith, counted_bin d)
  counted_bin (bin_chain d l) = omega (arith, counted_bin d, counted_links l)

  pub counted_links : {level : List ℕ} {tighter : List (List ℕ)} {ls : LinkTrees} {xs ys : List Terminal} → DerivesLinks level tighter ls xs ys → idents_links ls + idents_terminals ys ≡ idents_terminals xs
  counted_links (links_one d) = omega (arith, counted_link d)
  counted_links (links_more d l) = omega (arith, counted_link d, counted_links l)

  pub counted_link : {level : List ℕ} {tighter : List (List ℕ)} {p o : ℕ} {x : OperandTree} {xs ys : List Terminal} → DerivesLink level tighter p o x xs ys → idents_operand x + idents_terminals ys ≡ idents_terminals xs
  counted_link (link_operand h d) = omega (arith, counted_bin d)
  counted_link (link_type h d) = omega (arith, counted_reference d)

  pub counted_unary : {f : Form} {e : ExprTree} {xs ys : List Terminal} → DerivesUnary f e xs ys → idents_expr e + idents_terminals ys ≡ idents_terminals xs
  counted_unary (unary_sign h d) = omega (arith, counted_unary d)
  counted_unary (unary_step h d) = omega (arith, counted_unary d)
  counted_unary unary_minimum = omega arith
  counted_unary unary_minimum_long = omega arith
  counted_unary (unary_cast d) = omega (arith, counted_cast d)
  counted_unary (unary_post d) = omega (arith, counted_post d)

  pub counted_cast : {e : ExprTree} {xs ys : List Terminal} → DerivesCast e xs ys → idents_expr e + idents_terminals ys ≡ idents_terminals xs
  counted_cast (cast_prim m d) = omega (arith, counted_prim m, counted_unary d)
  counted_cast (cast_reference m d) = omega (arith, counted_reference m, counted_plain d)

  pub counted_plain : {f : Form} {e : ExprTree} {xs ys : List Terminal} → DerivesPlain f e xs ys → idents_expr e + idents_terminals ys ≡ idents_terminals xs
  counted_plain (plain_sign h d) = omega (arith, counted_unary d)
  counted_plain (plain_cast d) = omega (arith, counted_cast d)
  counted_plain (plain_post d) = omega (arith, counted_post d)

  pub counted_post : {f : Form} {e : ExprTree} {xs ys : List Terminal} → DerivesPost f e xs ys → idents_expr e + idents_terminals ys ≡ idents_terminals xs
  counted_post (post_primary d) = omega (arith, counted_primary d)
  counted_post (post_step d h) = omega (arith, counted_post d)

  pub counted_primary : {f : Form} {e : ExprTree} {xs ys : List Terminal} → DerivesPrimary f e xs ys → idents_expr e + idents_terminals ys ≡ idents_terminals xs
  counted_primary (primary_head d) = omega (arith, counted_head d)
  counted_primary (primary_field d h) = omega (arith, counted_primary d)
  counted_primary (primary_call d a) = omega (arith, counted_primary d, counted_args a)
  counted_primary (primary_index d x) = omega (arith, counted_primary d, counted_expr x)

  pub counted_head : {f : Form} {e : ExprTree} {xs ys : List Terminal} → DerivesHead f e xs ys → idents_expr e + idents_terminals ys ≡ idents_terminals xs
  counted_head (head_literal {l}) = omega (arith, idents_of_literal l)
  counted_head head_this = omega arith
  counted_head (head_paren {e} h d) = omega (arith, idents_of_kind e, counted_expr d)
  counted_head (head_name m h) = omega (arith, counted_name m)
  counted_head (head_call a) = omega (arith, counted_args a)
  counted_head (head_super_field h) = omega arith
  counted_head (head_super_call a) = omega (arith, counted_args a)
  counted_head (head_new m a) = omega (arith, counted_name m, counted_args a)
  counted_head (head_new_array m d h) = omega (arith, counted_base m, counted_dims d)
  counted_head (head_new_list m q l) = omega (arith, counted_base m, counted_pairs q, counted_list l)

  pub counted_dims : {es : ExprTrees} {n : ℕ} {xs ys : List Terminal} → DerivesDims es n xs ys → idents_exprs es + idents_terminals ys ≡ idents_terminals xs
  counted_dims (dims_one d q) = omega (arith, counted_expr d, counted_pairs q)
  counted_dims (dims_more d r) = omega (arith, counted_expr d, counted_dims r)

  pub counted_args : {es : ExprTrees} {xs ys : List Terminal} → DerivesArgs es xs ys → idents_exprs es + idents_terminals ys ≡ idents_terminals xs
  counted_args args_none = omega arith
  counted_args (args_some d) = omega (arith, counted_exprs d)

  pub counted_exprs : {es : ExprTrees} {xs ys : List Terminal} → DerivesExprs es xs ys → idents_exprs es + idents_terminals ys ≡ idents_terminals xs
  counted_exprs (exprs_one d) = omega (arith, counted_expr d)
  counted_exprs (exprs_more d r) = omega (arith, counted_expr d, counted_exprs r)

  pub counted_init : {i : InitTree} {xs ys : List Terminal} → DerivesInit i xs ys → idents_init i + idents_terminals ys ≡ idents_terminals xs
  counted_init (init_expr d) = omega (arith, counted_expr d)
  counted_init (init_list d) = omega (arith, counted_list d)

  pub counted_list : {p : ℕ} {is : InitTrees} {xs ys : List Terminal} → DerivesList p is xs ys → idents_inits is + idents_terminals ys ≡ idents_terminals xs
  counted_list (list_none d) = omega (arith, counted_end d)
  counted_list (list_some d q) = omega (arith, counted_inits d, counted_end q)

  pub counted_inits : {is : InitTrees} {xs ys : List Terminal} → DerivesInits is xs ys → idents_inits is + idents_terminals ys ≡ idents_terminals xs
  counted_inits (inits_one d) = omega (arith, counted_init d)
  counted_inits (inits_more d r) = omega (arith, counted_init d, counted_inits r)
