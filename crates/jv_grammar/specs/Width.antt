-- The most pairs of brackets that a type in a derivation has.
use Rattle.std.specs.Prelude.{ℕ, suc, max, List}
use Rattle.jv_tree.specs.TypeTree.{TypeTree}
use Rattle.jv_tree.specs.ExprTree.{ExprTree, OperandTree, InitTree, ExprTrees, InitTrees, LinkTrees}
use Rattle.jv_grammar.specs.declared.terminal.Terminal.{Terminal}
use Rattle.jv_grammar.specs.declared.form.Form.{Form}
use Rattle.jv_grammar.specs.TypeGrammar.{DerivesTy, ty, DerivesReference, reference_name, reference_prim, DerivesResult, result_ty, result_void}
use Rattle.jv_grammar.specs.ExprGrammar.{DerivesExpr, expr_assign, expr_cond, DerivesCond, cond_bin, cond_choice, DerivesBin, bin_unary, bin_one, bin_chain, DerivesLinks, links_one, links_more, DerivesLink, link_operand, link_type, DerivesUnary, unary_sign, unary_step, unary_minimum, unary_minimum_long, unary_cast, unary_post, DerivesCast, cast_prim, cast_reference, DerivesPlain, plain_sign, plain_cast, plain_post, DerivesPost, post_primary, post_step, DerivesPrimary, primary_head, primary_field, primary_call, primary_index, DerivesHead, head_literal, head_this, head_paren, head_name, head_call, head_super_field, head_super_call, head_new, head_new_array, head_new_list, DerivesDims, dims_one, dims_more, DerivesArgs, args_none, args_some, DerivesExprs, exprs_one, exprs_more, DerivesInit, init_expr, init_list, DerivesList, list_none, list_some, DerivesInits, inits_one, inits_more}

-- how many pairs of brackets a type has
abbrev pub wide_ty : {r : TypeTree} {xs ys : List Terminal} → DerivesTy r xs ys → ℕ
wide_ty (ty {n} b d) = n

-- how many pairs of brackets a type has that is no bare primitive
abbrev pub wide_reference : {r : TypeTree} {xs ys : List Terminal} → DerivesReference r xs ys → ℕ
wide_reference (reference_name {n} m d) = n
wide_reference (reference_prim {n} m d) = suc n

-- how many pairs of brackets the result of a method has; `void` has none
abbrev pub wide_result : {r : TypeTree} {xs ys : List Terminal} → DerivesResult r xs ys → ℕ
wide_result (result_ty d) = wide_ty d
wide_result result_void = 0

-- how many pairs the dims of a new array have, with its sizes
abbrev pub count_dims : {es : ExprTrees} {n : ℕ} {xs ys : List Terminal} → DerivesDims es n xs ys → ℕ
count_dims (dims_one {n} d q) = suc n
count_dims (dims_more d r) = suc (count_dims r)

abbrev mutual
  -- the most pairs of brackets that a type in an expression has
  pub wide_expr : {f : Form} {e : ExprTree} {xs ys : List Terminal} → DerivesExpr f e xs ys → ℕ
  wide_expr (expr_assign d h r) = max (wide_primary d) (wide_expr r)
  wide_expr (expr_cond d) = wide_cond d

  -- the most pairs of brackets that a type in a conditional has
  pub wide_cond : {f : Form} {e : ExprTree} {xs ys : List Terminal} → DerivesCond f e xs ys → ℕ
  wide_cond (cond_bin d) = wide_bin d
  wide_cond (cond_choice d a b) = max (wide_bin d) (max (wide_expr a) (wide_cond b))

  -- the most pairs of brackets that a type in operands with operators between them has
  pub wide_bin : {levels : List (List ℕ)} {f : Form} {e : ExprTree} {xs ys : List Terminal} → DerivesBin levels f e xs ys → ℕ
  wide_bin (bin_unary d) = wide_unary d
  wide_bin (bin_one d) = wide_bin d
  wide_bin (bin_chain d l) = max (wide_bin d) (wide_links l)

  -- the most pairs of brackets that a type in the operators of a level with what stands behind them has
  pub wide_links : {level : List ℕ} {tighter : List (List ℕ)} {ls : LinkTrees} {xs ys : List Terminal} → DerivesLinks level tighter ls xs ys → ℕ
  wide_links (links_one d) = wide_link d
  wide_links (links_more d l) = max (wide_link d) (wide_links l)

  -- the most pairs of brackets that a type in what stands behind an operator has, or that the type behind `instanceof` has
  pub wide_link : {level : List ℕ} {tighter : List (List ℕ)} {p o : ℕ} {x : OperandTree} {xs ys : List Terminal} → DerivesLink level tighter p o x xs ys → ℕ
  wide_link (link_operand h d) = wide_bin d
  wide_link (link_type h d) = wide_reference d

  -- the most pairs of brackets that a type in a unary has
  pub wide_unary : {f : Form} {e : ExprTree} {xs ys : List Terminal} → DerivesUnary f e xs ys → ℕ
  wide_unary (unary_sign h d) = wide_unary d
  wide_unary (unary_step h d) = wide_unary d
  wide_unary unary_minimum = 0
  wide_unary unary_minimum_long = 0
  wide_unary (unary_cast d) = wide_cast d
  wide_unary (unary_post d) = wide_post d

  -- the most pairs of brackets that a type in a cast has: its own, and those in what it casts
  pub wide_cast : {e : ExprTree} {xs ys : List Terminal} → DerivesCast e xs ys → ℕ
  wide_cast (cast_prim m d) = wide_unary d
  wide_cast (cast_reference m d) = max (wide_reference m) (wide_plain d)

  -- the most pairs of brackets that a type in a `plain` has
  pub wide_plain : {f : Form} {e : ExprTree} {xs ys : List Terminal} → DerivesPlain f e xs ys → ℕ
  wide_plain (plain_sign h d) = wide_unary d
  wide_plain (plain_cast d) = wide_cast d
  wide_plain (plain_post d) = wide_post d

  -- the most pairs of brackets that a type in a primary with `++` and `--` behind it has
  pub wide_post : {f : Form} {e : ExprTree} {xs ys : List Terminal} → DerivesPost f e xs ys → ℕ
  wide_post (post_primary d) = wide_primary d
  wide_post (post_step d h) = wide_post d

  -- the most pairs of brackets that a type in a primary has
  pub wide_primary : {f : Form} {e : ExprTree} {xs ys : List Terminal} → DerivesPrimary f e xs ys → ℕ
  wide_primary (primary_head d) = wide_head d
  wide_primary (primary_field d h) = wide_primary d
  wide_primary (primary_call d a) = max (wide_primary d) (wide_args a)
  wide_primary (primary_index d x) = max (wide_primary d) (wide_expr x)

  -- the most pairs of brackets that a type in a head has; the sizes of a new array count as pairs
  pub wide_head : {f : Form} {e : ExprTree} {xs ys : List Terminal} → DerivesHead f e xs ys → ℕ
  wide_head head_literal = 0
  wide_head head_this = 0
  wide_head (head_paren h d) = wide_expr d
  wide_head (head_name m h) = 0
  wide_head (head_call a) = wide_args a
  wide_head (head_super_field h) = 0
  wide_head (head_super_call a) = wide_args a
  wide_head (head_new m a) = wide_args a
  wide_head (head_new_array m d h) = max (count_dims d) (wide_dims d)
  wide_head (head_new_list {n} m q l) = max (suc n) (wide_list l)

  -- the most pairs of brackets that a type in the sizes of a new array has
  pub wide_dims : {es : ExprTrees} {n : ℕ} {xs ys : List Terminal} → DerivesDims es n xs ys → ℕ
  wide_dims (dims_one d q) = wide_expr d
  wide_dims (dims_more d r) = max (wide_expr d) (wide_dims r)

  -- the most pairs of brackets that a type in arguments has, and 0 for none
  pub wide_args : {es : ExprTrees} {xs ys : List Terminal} → DerivesArgs es xs ys → ℕ
  wide_args args_none = 0
  wide_args (args_some d) = wide_exprs d

  -- the most pairs of brackets that a type in expressions with commas between them has
  pub wide_exprs : {es : ExprTrees} {xs ys : List Terminal} → DerivesExprs es xs ys → ℕ
  wide_exprs (exprs_one d) = wide_expr d
  wide_exprs (exprs_more d r) = max (wide_expr d) (wide_exprs r)

  -- the most pairs of brackets that a type in an initializer has
  pub wide_init : {i : InitTree} {xs ys : List Terminal} → DerivesInit i xs ys → ℕ
  wide_init (init_expr d) = wide_expr d
  wide_init (init_list d) = wide_list d

  -- the most pairs of brackets that a type in a list in braces has, and 0 without elements
  pub wide_list : {p : ℕ} {is : InitTrees} {xs ys : List Terminal} → DerivesList p is xs ys → ℕ
  wide_list (list_none d) = 0
  wide_list (list_some d q) = wide_inits d

  -- the most pairs of brackets that a type in the elements of a list has
  pub wide_inits : {is : InitTrees} {xs ys : List Terminal} → DerivesInits is xs ys → ℕ
  wide_inits (inits_one d) = wide_init d
  wide_inits (inits_more d r) = max (wide_init d) (wide_inits r)
