-- What derives has the shape of the grammar, where its types have at most 200 pairs of brackets.
use Rattle.std.proofs.Common.{◌≡◌, ℕ, ◌<◌, ◌≤◌, ◌+◌, inl, inr, List, [], ◌∷◌, arith, refl}
use Rattle.jv_tree.specs.declared.name.Ident.{Ident as Identifier}
use Rattle.jv_tree.specs.TypeTree.{BaseTree, TypeTree}
use Rattle.jv_tree.specs.ExprTree as t
use Rattle.jv_tree.specs.ExprTree.{ExprTree, KindTree, TargetTree, OperandTree, InitTree, ExprTrees, InitTrees, LinkTrees}
use Rattle.std.specs.Prelude.{Contains}
use Rattle.jv_tree.specs.ExprTree.{expr_count}
use Rattle.jv_tree.specs.Shaped.{IsOneOf, levels, prefix_operators, postfix_operators, IsName, IsBase, IsType, IsReference, IsResult, IsTarget, IsEffect, HasLinks, IsShapedExpr, IsShapedKind, IsShapedInit, AreShapedExprs, AreShapedInits, AreShapedLinks}
use Rattle.jv_grammar.specs.declared.terminal.Terminal.{Terminal}
use Rattle.jv_grammar.specs.declared.terminal.LiteralKind.{LiteralKind}
use Rattle.jv_grammar.specs.declared.terminal.LiteralKind.TheVariants.{Int, Long, Char, Str, Bool as BoolLiteral, Null}
use Rattle.jv_grammar.specs.declared.form.Form.{Form}
use Rattle.jv_grammar.specs.declared.form.Form.TheVariants.{Target, Effect}
use Rattle.jv_grammar.specs.Marks.{complements, signs}
use Rattle.jv_grammar.specs.TypeGrammar.{DerivesName, name_one, name_more, DerivesPrim, prim_boolean, prim_char, prim_int, prim_long, DerivesBase, base_prim, base_name, DerivesTy, ty, DerivesReference, reference_name, reference_prim}
use Rattle.jv_grammar.specs.ExprGrammar.{kind_of, literal_tree, DerivesExpr, expr_assign, expr_cond, DerivesCond, cond_bin, cond_choice, DerivesBin, bin_unary, bin_one, bin_chain, DerivesLinks, links_one, links_more, DerivesLink, link_operand, link_type, DerivesUnary, unary_sign, unary_step, unary_minimum, unary_minimum_long, unary_cast, unary_post, DerivesCast, cast_prim, cast_reference, DerivesPlain, plain_sign, plain_cast, plain_post, DerivesPost, post_primary, post_step, DerivesPrimary, primary_head, primary_field, primary_call, primary_index, DerivesHead, head_literal, head_this, head_paren, head_name, head_call, head_super_field, head_super_call, head_new, head_new_array, head_new_list, DerivesDims, dims_one, dims_more, DerivesArgs, args_none, args_some, DerivesExprs, exprs_one, exprs_more, DerivesInit, init_expr, init_list, DerivesList, list_none, list_some, DerivesInits, inits_one, inits_more}
use Rattle.jv_grammar.specs.TypeGrammar.{DerivesResult, result_ty, result_void}
use Rattle.jv_grammar.specs.Width.{wide_ty, wide_reference, wide_result, count_dims, wide_expr, wide_cond, wide_bin, wide_links, wide_link, wide_unary, wide_cast, wide_plain, wide_post, wide_primary, wide_head, wide_dims, wide_args, wide_exprs, wide_init, wide_list, wide_inits}
use Rattle.jv_grammar.proofs.Read.{among}

pub shape_name : {ids : List Identifier} {xs ys : List Terminal} → DerivesName ids xs ys → IsName ids
shape_name name_one = omega arith
shape_name (name_more d) = omega arith

pub shape_prim : {p : ℕ} {b : BaseTree} {xs ys : List Terminal} → DerivesPrim p b xs ys → IsBase b
shape_prim prim_boolean = tt
shape_prim prim_char = tt
shape_prim prim_int = tt
shape_prim prim_long = tt

pub shape_base : {p : ℕ} {b : BaseTree} {xs ys : List Terminal} → DerivesBase p b xs ys → IsBase b
shape_base (base_prim d) = shape_prim d
shape_base (base_name d) = shape_name d

pub shape_ty : {r : TypeTree} {xs ys : List Terminal} (d : DerivesTy r xs ys) → wide_ty d ≤ 200 → IsType r
shape_ty (ty m d) w = (shape_base m, w)

pub shape_result : {r : TypeTree} {xs ys : List Terminal} (d : DerivesResult r xs ys) → wide_result d ≤ 200 → IsResult r
shape_result (result_ty d) w = inl (shape_ty d w)
shape_result result_void w = inr (refl, refl)

pub shape_reference : {r : TypeTree} {xs ys : List Terminal} (d : DerivesReference r xs ys) → wide_reference d ≤ 200 → IsReference r
shape_reference (reference_name {i} {ids} m d) w = ((shape_name m, w), inr (i ∷ ids, refl))
shape_reference (reference_prim m d) w = ((shape_prim m, w), inl (omega arith))

-- each of the levels is one of the grammar's
abbrev pub AreLevels : List (List ℕ) → Type 0
AreLevels [] = Unit {0}
AreLevels (level ∷ tighter) = Contains levels level × AreLevels tighter

pub levels_are : AreLevels levels
levels_are = ((0, omega arith, refl), ((1, omega arith, refl), ((2, omega arith, refl), ((3, omega arith, refl), ((4, omega arith, refl), ((5, omega arith, refl), ((6, omega arith, refl), ((7, omega arith, refl), ((8, omega arith, refl), ((9, omega arith, refl), tt))))))))))

kind_shaped : (e : ExprTree) → IsShapedExpr e → IsShapedKind (kind_of e)
kind_shaped (t.expr at k) h = h

literal_shaped : (l : LiteralKind) → IsShapedKind (literal_tree l)
literal_shaped Int = tt
literal_shaped Long = tt
literal_shaped Char = tt
literal_shaped Str = tt
literal_shaped (BoolLiteral b) = tt
literal_shaped Null = tt

sign_prefix : (o : ℕ) → IsOneOf signs o → IsOneOf prefix_operators o
sign_prefix o h = among (λ n. IsOneOf prefix_operators n) signs o (refl, (refl, (refl, (refl, tt)))) h

step_prefix : (o : ℕ) → IsOneOf postfix_operators o → IsOneOf prefix_operators o
step_prefix o h = among (λ n. IsOneOf prefix_operators n) postfix_operators o (refl, (refl, tt)) h

complement_prefix : (o : ℕ) → IsOneOf complements o → IsOneOf prefix_operators o
complement_prefix o h = among (λ n. IsOneOf prefix_operators n) complements o (refl, (refl, tt)) h

-- the left side of an assignment
pub shape_target : {e : ExprTree} {xs ys : List Terminal} → DerivesPrimary Target e xs ys → IsTarget e
shape_target (primary_head (head_name d h)) = tt
shape_target (primary_head (head_super_field h)) = tt
shape_target (primary_field d h) = tt
shape_target (primary_index d x) = tt

-- an expression that may stand as a statement
effect_post : {e : ExprTree} {xs ys : List Terminal} → DerivesPost Effect e xs ys → IsEffect e
effect_post (post_step d h) = tt
effect_post (post_primary (primary_call d a)) = tt
effect_post (post_primary (primary_head (head_call a))) = tt
effect_post (post_primary (primary_head (head_super_call a))) = tt
effect_post (post_primary (primary_head (head_new m a))) = tt

effect_bin : {levels : List (List ℕ)} {e : ExprTree} {xs ys : List Terminal} → DerivesBin levels Effect e xs ys → IsEffect e
effect_bin (bin_unary (unary_step h d)) = h
effect_bin (bin_unary (unary_post d)) = effect_post d
effect_bin (bin_one d) = effect_bin d

pub shape_effect : {e : ExprTree} {xs ys : List Terminal} → DerivesExpr Effect e xs ys → IsEffect e
shape_effect (expr_assign d h r) = tt
shape_effect (expr_cond (cond_bin d)) = effect_bin d

has_links : {level : List ℕ} {tighter : List (List ℕ)} {ls : LinkTrees} {xs ys : List Terminal} → DerivesLinks level tighter ls xs ys → HasLinks ls
has_links (links_one d) = tt
has_links (links_more d l) = tt

-- how many sizes and pairs there are
count_is : {es : ExprTrees} {n : ℕ} {xs ys : List Terminal} (d : DerivesDims es n xs ys) → count_dims d ≡ n + expr_count es
count_is (dims_one d q) = omega arith
count_is (dims_more d r) = omega (arith, count_is r)

some_count : {es : ExprTrees} {n : ℕ} {xs ys : List Terminal} → DerivesDims es n xs ys → 0 < expr_count es
some_count (dims_one d q) = omega arith
some_count (dims_more d r) = omega arith

mutual
  pub shape_expr : {f : Form} {e : ExprTree} {xs ys : List Terminal} (d : DerivesExpr f e xs ys) → wide_expr d ≤ 200 → IsShapedExpr e
  shape_expr (expr_assign d h r) w = (h, shape_target d, shape_primary d (omega arith), shape_expr r (omega arith))
  shape_expr (expr_cond d) w = shape_cond d w

  pub shape_cond : {f : Form} {e : ExprTree} {xs ys : List Terminal} (d : DerivesCond f e xs ys) → wide_cond d ≤ 200 → IsShapedExpr e
  shape_cond (cond_bin d) w = shape_bin levels_are d w
  shape_cond (cond_choice d x y) w = (shape_bin levels_are d (omega arith), shape_expr x (omega arith), shape_cond y (omega arith))

  pub shape_bin : {levels' : List (List ℕ)} {f : Form} {e : ExprTree} {xs ys : List Terminal} → AreLevels levels' → (d : DerivesBin levels' f e xs ys) → wide_bin d ≤ 200 → IsShapedExpr e
  shape_bin a (bin_unary d) w = shape_unary d w
  shape_bin a (bin_one d) w = shape_bin a.1 d w
  shape_bin a (bin_chain {level} d l) w = (shape_bin a.1 d (omega arith), has_links l, (level, a.0, shape_links a.1 l (omega arith)))

  pub shape_links : {level : List ℕ} {tighter : List (List ℕ)} {ls : LinkTrees} {xs ys : List Terminal} → AreLevels tighter → (d : DerivesLinks level tighter ls xs ys) → wide_links d ≤ 200 → AreShapedLinks level ls
  shape_links a (links_one d) w = shape_link t.no_links a d w tt
  shape_links a (links_more {ls} d l) w = shape_link ls a d (omega arith) (shape_links a l (omega arith))

  pub shape_link : {level : List ℕ} {tighter : List (List ℕ)} {p o : ℕ} {x : OperandTree} (ls : LinkTrees) {xs ys : List Terminal} → AreLevels tighter → (d : DerivesLink level tighter p o x xs ys) → wide_link d ≤ 200
      → AreShapedLinks level ls → AreShapedLinks level (t.links p o x ls)
  shape_link ls a (link_operand m d) w l = (m.0, m.1, shape_bin a d w, l)
  shape_link ls a (link_type m d) w l = (m, refl, shape_reference d w, l)

  pub shape_unary : {f : Form} {e : ExprTree} {xs ys : List Terminal} (d : DerivesUnary f e xs ys) → wide_unary d ≤ 200 → IsShapedExpr e
  shape_unary (unary_sign {o} h d) w = (sign_prefix o h, shape_unary d w)
  shape_unary (unary_step {o} h d) w = (step_prefix o h, shape_unary d w)
  shape_unary unary_minimum w = (refl, tt)
  shape_unary unary_minimum_long w = (refl, tt)
  shape_unary (unary_cast d) w = shape_cast d w
  shape_unary (unary_post d) w = shape_post d w

  pub shape_cast : {e : ExprTree} {xs ys : List Terminal} (d : DerivesCast e xs ys) → wide_cast d ≤ 200 → IsShapedExpr e
  shape_cast (cast_prim m d) w = ((shape_prim m, omega arith), shape_unary d w)
  shape_cast (cast_reference m d) w = ((shape_reference m (omega arith)).0, shape_plain d (omega arith))

  pub shape_plain : {f : Form} {e : ExprTree} {xs ys : List Terminal} (d : DerivesPlain f e xs ys) → wide_plain d ≤ 200 → IsShapedExpr e
  shape_plain (plain_sign {o} h d) w = (complement_prefix o h, shape_unary d w)
  shape_plain (plain_cast d) w = shape_cast d w
  shape_plain (plain_post d) w = shape_post d w

  pub shape_post : {f : Form} {e : ExprTree} {xs ys : List Terminal} (d : DerivesPost f e xs ys) → wide_post d ≤ 200 → IsShapedExpr e
  shape_post (post_primary d) w = shape_primary d w
  shape_post (post_step d h) w = (h, shape_post d w)

  pub shape_primary : {f : Form} {e : ExprTree} {xs ys : List Terminal} (d : DerivesPrimary f e xs ys) → wide_primary d ≤ 200 → IsShapedExpr e
  shape_primary (primary_head d) w = shape_head d w
  shape_primary (primary_field d h) w = shape_primary d w
  shape_primary (primary_call d a) w = (shape_primary d (omega arith), shape_args a (omega arith))
  shape_primary (primary_index d x) w = (shape_primary d (omega arith), shape_expr x (omega arith))

  pub shape_head : {f : Form} {e : ExprTree} {xs ys : List Terminal} (d : DerivesHead f e xs ys) → wide_head d ≤ 200 → IsShapedExpr e
  shape_head (head_literal {l}) w = literal_shaped l
  shape_head head_this w = tt
  shape_head (head_paren {e} h d) w = kind_shaped e (shape_expr d w)
  shape_head (head_name d h) w = shape_name d
  shape_head (head_call a) w = (tt, shape_args a w)
  shape_head (head_super_field h) w = tt
  shape_head (head_super_call a) w = (tt, shape_args a w)
  shape_head (head_new m a) w = (shape_name m, shape_args a w)
  shape_head (head_new_array m d h) w = (shape_base m, some_count d, omega (arith, count_is d), shape_dims d (omega arith))
  shape_head (head_new_list m q l) w = ((shape_base m, omega arith), omega arith, shape_list l (omega arith))

  pub shape_dims : {es : ExprTrees} {n : ℕ} {xs ys : List Terminal} (d : DerivesDims es n xs ys) → wide_dims d ≤ 200 → AreShapedExprs es
  shape_dims (dims_one d q) w = (shape_expr d w, tt)
  shape_dims (dims_more d r) w = (shape_expr d (omega arith), shape_dims r (omega arith))

  pub shape_args : {es : ExprTrees} {xs ys : List Terminal} (d : DerivesArgs es xs ys) → wide_args d ≤ 200 → AreShapedExprs es
  shape_args args_none w = tt
  shape_args (args_some d) w = shape_exprs d w

  pub shape_exprs : {es : ExprTrees} {xs ys : List Terminal} (d : DerivesExprs es xs ys) → wide_exprs d ≤ 200 → AreShapedExprs es
  shape_exprs (exprs_one d) w = (shape_expr d w, tt)
  shape_exprs (exprs_more d r) w = (shape_expr d (omega arith), shape_exprs r (omega arith))

  pub shape_init : {i : InitTree} {xs ys : List Terminal} (d : DerivesInit i xs ys) → wide_init d ≤ 200 → IsShapedInit i
  shape_init (init_expr d) w = shape_expr d w
  shape_init (init_list d) w = shape_list d w

  pub shape_list : {p : ℕ} {is : InitTrees} {xs ys : List Terminal} (d : DerivesList p is xs ys) → wide_list d ≤ 200 → AreShapedInits is
  shape_list (list_none d) w = tt
  shape_list (list_some d e) w = shape_inits d w

  pub shape_inits : {is : InitTrees} {xs ys : List Terminal} (d : DerivesInits is xs ys) → wide_inits d ≤ 200 → AreShapedInits is
  shape_inits (inits_one d) w = (shape_init d w, tt)
  shape_inits (inits_more d r) w = (shape_init d (omega arith), shape_inits r (omega arith))
