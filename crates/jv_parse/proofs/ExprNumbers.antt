-- That the identifiers of an expression are numbered where those of its terminals are.
use Rattle.std.proofs.Common.{ℕ, List, []}
use Rattle.jv_tree.specs.declared.name.Ident.{Ident as Identifier}
use Rattle.jv_tree.specs.TypeTree.{BaseTree, TypeTree}
use Rattle.jv_tree.specs.ExprTree.{ExprTree, KindTree, OperandTree, InitTree, ExprTrees, InitTrees, LinkTrees}
use Rattle.jv_grammar.specs.declared.terminal.Terminal.{Terminal}
use Rattle.jv_grammar.specs.declared.form.Form.{Form}
use Rattle.jv_grammar.specs.TypeGrammar.{DerivesName, name_one, name_more, DerivesNames, names_one, names_more, DerivesPrim, prim_boolean, prim_char, prim_int, prim_long, DerivesBase, base_prim, base_name, DerivesPairs, pairs_none, pairs_more, DerivesTy, ty, DerivesReference, reference_name, reference_prim, DerivesResult, result_ty, result_void}
use Rattle.jv_grammar.specs.ExprGrammar.{kind_of, literal_tree, DerivesExpr, expr_assign, expr_cond, DerivesCond, cond_bin, cond_choice, DerivesBin, bin_unary, bin_one, bin_chain, DerivesLinks, links_one, links_more, DerivesLink, link_operand, link_type, DerivesUnary, unary_sign, unary_step, unary_minimum, unary_minimum_long, unary_cast, unary_post, DerivesCast, cast_prim, cast_reference, DerivesPlain, plain_sign, plain_cast, plain_post, DerivesPost, post_primary, post_step, DerivesPrimary, primary_head, primary_field, primary_call, primary_index, DerivesHead, head_literal, head_this, head_paren, head_name, head_call, head_super_field, head_super_call, head_new, head_new_array, head_new_list, DerivesDims, dims_one, dims_more, DerivesArgs, args_none, args_some, DerivesExprs, exprs_one, exprs_more, DerivesInit, init_expr, init_list, DerivesList, list_none, list_some, DerivesInits, inits_one, inits_more, DerivesListEnd, list_end, list_comma_end}
use Rattle.jv_tree.specs.ExprTree as t
use Rattle.jv_grammar.specs.declared.terminal.LiteralKind.{LiteralKind}
use Rattle.jv_grammar.specs.declared.terminal.LiteralKind.TheVariants.{Int, Long, Char, Str, Bool, Null}
use Rattle.std.proofs.lemmas.List.Elements.{All-cons, All-nil}
use Rattle.jv_tree.specs.Numbered.{IsNumberedIdent, IsNumberedName, AreNumberedNames, IsNumberedBase, IsNumberedType, IsNumberedExpr, IsNumberedKind, IsNumberedOperand, IsNumberedInit, AreNumberedExprs, AreNumberedInits, AreNumberedLinks}
use Rattle.jv_parse.specs.Identifiers.{AreNumberedTerminals}

module _ (n : ℕ) where
  -- what stands in parentheses has the identifiers of its kind, and a literal has none
  numbered_kind : (e : ExprTree) → IsNumberedExpr n e → IsNumberedKind n (kind_of e)
  numbered_kind (t.expr at k) h = h

  numbered_literal : (l : LiteralKind) → IsNumberedKind n (literal_tree l)
  numbered_literal Int = tt
  numbered_literal Long = tt
  numbered_literal Char = tt
  numbered_literal Str = tt
  numbered_literal (Bool b) = tt
  numbered_literal Null = tt

  -- a derivation gives its tree the identifiers of the terminals that it takes
  pub numbered_name : {ids : List Identifier} {xs ys : List Terminal} → DerivesName ids xs ys → AreNumberedTerminals n xs → IsNumberedName n ids × AreNumberedTerminals n ys
  numbered_name (name_one {i}) h = (All-cons (IsNumberedIdent n) i [] h.0 (All-nil (IsNumberedIdent n)), h.1)
  numbered_name (name_more {i} {ids} d) h = let r = numbered_name d h.1 in (All-cons (IsNumberedIdent n) i ids h.0 r.0, r.1)

  pub numbered_names : {ns : List (List Identifier)} {xs ys : List Terminal} → DerivesNames ns xs ys → AreNumberedTerminals n xs → AreNumberedNames n ns × AreNumberedTerminals n ys
  numbered_names (names_one {ids} d) h = let r = numbered_name d h in (All-cons (IsNumberedName n) ids [] r.0 (All-nil (IsNumberedName n)), r.1)
  numbered_names (names_more {ids} {ns} d r) h = let a = numbered_name d h in let b = numbered_names r a.1 in (All-cons (IsNumberedName n) ids ns a.0 b.0, b.1)

  pub numbered_prim : {p : ℕ} {b : BaseTree} {xs ys : List Terminal} → DerivesPrim p b xs ys → AreNumberedTerminals n xs → IsNumberedBase n b × AreNumberedTerminals n ys
  numbered_prim prim_boolean h = (tt, h)
  numbered_prim prim_char h = (tt, h)
  numbered_prim prim_int h = (tt, h)
  numbered_prim prim_long h = (tt, h)

  pub numbered_base : {p : ℕ} {b : BaseTree} {xs ys : List Terminal} → DerivesBase p b xs ys → AreNumberedTerminals n xs → IsNumberedBase n b × AreNumberedTerminals n ys
  numbered_base (base_prim d) h = numbered_prim d h
  numbered_base (base_name d) h = numbered_name d h

  pub numbered_pairs : {k : ℕ} {xs ys : List Terminal} → DerivesPairs k xs ys → AreNumberedTerminals n xs → AreNumberedTerminals n ys
  numbered_pairs pairs_none h = h
  numbered_pairs (pairs_more d) h = numbered_pairs d h

  pub numbered_ty : {r : TypeTree} {xs ys : List Terminal} → DerivesTy r xs ys → AreNumberedTerminals n xs → IsNumberedType n r × AreNumberedTerminals n ys
  numbered_ty (ty b d) h = let a = numbered_base b h in (a.0, numbered_pairs d a.1)

  pub numbered_reference : {r : TypeTree} {xs ys : List Terminal} → DerivesReference r xs ys → AreNumberedTerminals n xs → IsNumberedType n r × AreNumberedTerminals n ys
  numbered_reference (reference_name m d) h = let a = numbered_name m h in (a.0, numbered_pairs d a.1)
  numbered_reference (reference_prim m d) h = let a = numbered_prim m h in (a.0, numbered_pairs d a.1)

  pub numbered_result : {r : TypeTree} {xs ys : List Terminal} → DerivesResult r xs ys → AreNumberedTerminals n xs → IsNumberedType n r × AreNumberedTerminals n ys
  numbered_result (result_ty d) h = numbered_ty d h
  numbered_result result_void h = (tt, h)

  pub numbered_end : {xs ys : List Terminal} → DerivesListEnd xs ys → AreNumberedTerminals n xs → AreNumberedTerminals n ys
  numbered_end list_end h = h
  numbered_end list_comma_end h = h

  mutual
    pub numbered_expr : {f : Form} {e : ExprTree} {xs ys : List Terminal} → DerivesExpr f e xs ys → AreNumberedTerminals n xs → IsNumberedExpr n e × AreNumberedTerminals n ys
    numbered_expr (expr_assign d g r) h = let a = numbered_primary d h in let b = numbered_expr r a.1 in ((a.0, b.0), b.1)
    numbered_expr (expr_cond d) h = numbered_cond d h

    pub numbered_cond : {f : Form} {e : ExprTree} {xs ys : List Terminal} → DerivesCond f e xs ys → AreNumberedTerminals n xs → IsNumberedExpr n e × AreNumberedTerminals n ys
    numbered_cond (cond_bin d) h = numbered_bin d h
    numbered_cond (cond_choice d a b) h = let x = numbered_bin d h in let y = numbered_expr a x.1 in let z = numbered_cond b y.1 in ((x.0, y.0, z.0), z.1)

    pub numbered_bin : {levels : List (List ℕ)} {f : Form} {e : ExprTree} {xs ys : List Terminal} → DerivesBin levels f e xs ys → AreNumberedTerminals n xs → IsNumberedExpr n e × AreNumberedTerminals n ys
    numbered_bin (bin_unary d) h = numbered_unary d h
    numbered_bin (bin_one d) h = numbered_bin d h
    numbered_bin (bin_chain d l) h = let a = numbered_bin d h in let b = numbered_links l a.1 in ((a.0, b.0), b.1)

    pub numbered_links : {level : List ℕ} {tighter : List (List ℕ)} {ls : LinkTrees} {xs ys : List Terminal} → DerivesLinks level tighter ls xs ys → AreNumberedTerminals n xs → AreNumberedLinks n ls × AreNumberedTerminals n ys
    numbered_links (links_one d) h = let a = numbered_link d h in ((a.0, tt), a.1)
    numbered_links (links_more d l) h = let a = numbered_link d h in let b = numbered_links l a.1 in ((a.0, b.0), b.1)

    pub numbered_link : {level : List ℕ} {tighter : List (List ℕ)} {p o : ℕ} {x : OperandTree} {xs ys : List Terminal} → DerivesLink level tighter p o x xs ys → AreNumberedTerminals n xs → IsNumberedOperand n x × AreNumberedTerminals n ys
    numbered_link (link_operand g d) h = numbered_bin d h
    numbered_link (link_type g d) h = numbered_reference d h

    pub numbered_unary : {f : Form} {e : ExprTree} {xs ys : List Terminal} → DerivesUnary f e xs ys → AreNumberedTerminals n xs → IsNumberedExpr n e × AreNumberedTerminals n ys
    numbered_unary (unary_sign g d) h = numbered_unary d h
    numbered_unary (unary_step g d) h = numbered_unary d h
    numbered_unary unary_minimum h = (tt, h)
    numbered_unary unary_minimum_long h = (tt, h)
    numbered_unary (unary_cast d) h = numbered_cast d h
    numbered_unary (unary_post d) h = numbered_post d h

    pub numbered_cast : {e : ExprTree} {xs ys : List Terminal} → DerivesCast e xs ys → AreNumberedTerminals n xs → IsNumberedExpr n e × AreNumberedTerminals n ys
    numbered_cast (cast_prim m d) h = let a = numbered_prim m h in let b = numbered_unary d a.1 in ((a.0, b.0), b.1)
    numbered_cast (cast_reference m d) h = let a = numbered_reference m h in let b = numbered_plain d a.1 in ((a.0, b.0), b.1)

    pub numbered_plain : {f : Form} {e : ExprTree} {xs ys : List Terminal} → DerivesPlain f e xs ys → AreNumberedTerminals n xs → IsNumberedExpr n e × AreNumberedTerminals n ys
    numbered_plain (plain_sign g d) h = numbered_unary d h
    numbered_plain (plain_cast d) h = numbered_cast d h
    numbered_plain (plain_post d) h = numbered_post d h

    pub numbered_post : {f : Form} {e : ExprTree} {xs ys : List Terminal} → DerivesPost f e xs ys → AreNumberedTerminals n xs → IsNumberedExpr n e × AreNumberedTerminals n ys
    numbered_post (post_primary d) h = numbered_primary d h
    numbered_post (post_step d g) h = numbered_post d h

    pub numbered_primary : {f : Form} {e : ExprTree} {xs ys : List Terminal} → DerivesPrimary f e xs ys → AreNumberedTerminals n xs → IsNumberedExpr n e × AreNumberedTerminals n ys
    numbered_primary (primary_head d) h = numbered_head d h
    numbered_primary (primary_field d g) h = let a = numbered_primary d h in ((a.0, a.1.0), a.1.1)
    numbered_primary (primary_call d r) h = let a = numbered_primary d h in let b = numbered_args r a.1.1 in ((a.0, a.1.0, b.0), b.1)
    numbered_primary (primary_index d x) h = let a = numbered_primary d h in let b = numbered_expr x a.1 in ((a.0, b.0), b.1)

    pub numbered_head : {f : Form} {e : ExprTree} {xs ys : List Terminal} → DerivesHead f e xs ys → AreNumberedTerminals n xs → IsNumberedExpr n e × AreNumberedTerminals n ys
    numbered_head (head_literal {l}) h = (numbered_literal l, h)
    numbered_head head_this h = (tt, h)
    numbered_head (head_paren {e} g d) h = let a = numbered_expr d h in (numbered_kind e a.0, a.1)
    numbered_head (head_name m g) h = numbered_name m h
    numbered_head (head_call r) h = let a = numbered_args r h.1 in ((tt, h.0, a.0), a.1)
    numbered_head (head_super_field g) h = (h.0, h.1)
    numbered_head (head_super_call r) h = let a = numbered_args r h.1 in ((tt, h.0, a.0), a.1)
    numbered_head (head_new m r) h = let a = numbered_name m h in let b = numbered_args r a.1 in ((a.0, b.0), b.1)
    numbered_head (head_new_array m d g) h = let a = numbered_base m h in let b = numbered_dims d a.1 in ((a.0, b.0), b.1)
    numbered_head (head_new_list m q l) h = let a = numbered_base m h in let b = numbered_list l (numbered_pairs q a.1) in ((a.0, b.0), b.1)

    pub numbered_dims : {es : ExprTrees} {k : ℕ} {xs ys : List Terminal} → DerivesDims es k xs ys → AreNumberedTerminals n xs → AreNumberedExprs n es × AreNumberedTerminals n ys
    numbered_dims (dims_one d q) h = let a = numbered_expr d h in ((a.0, tt), numbered_pairs q a.1)
    numbered_dims (dims_more d r) h = let a = numbered_expr d h in let b = numbered_dims r a.1 in ((a.0, b.0), b.1)

    pub numbered_args : {es : ExprTrees} {xs ys : List Terminal} → DerivesArgs es xs ys → AreNumberedTerminals n xs → AreNumberedExprs n es × AreNumberedTerminals n ys
    numbered_args args_none h = (tt, h)
    numbered_args (args_some d) h = numbered_exprs d h

    pub numbered_exprs : {es : ExprTrees} {xs ys : List Terminal} → DerivesExprs es xs ys → AreNumberedTerminals n xs → AreNumberedExprs n es × AreNumberedTerminals n ys
    numbered_exprs (exprs_one d) h = let a = numbered_expr d h in ((a.0, tt), a.1)
    numbered_exprs (exprs_more d r) h = let a = numbered_expr d h in let b = numbered_exprs r a.1 in ((a.0, b.0), b.1)

    pub numbered_init : {i : InitTree} {xs ys : List Terminal} → DerivesInit i xs ys → AreNumberedTerminals n xs → IsNumberedInit n i × AreNumberedTerminals n ys
    numbered_init (init_expr d) h = numbered_expr d h
    numbered_init (init_list d) h = numbered_list d h

    pub numbered_list : {p : ℕ} {is : InitTrees} {xs ys : List Terminal} → DerivesList p is xs ys → AreNumberedTerminals n xs → AreNumberedInits n is × AreNumberedTerminals n ys
    numbered_list (list_none d) h = (tt, numbered_end d h)
    numbered_list (list_some d q) h = let a = numbered_inits d h in (a.0, numbered_end q a.1)

    pub numbered_inits : {is : InitTrees} {xs ys : List Terminal} → DerivesInits is xs ys → AreNumberedTerminals n xs → AreNumberedInits n is × AreNumberedTerminals n ys
    numbered_inits (inits_one d) h = let a = numbered_init d h in ((a.0, tt), a.1)
    numbered_inits (inits_more d r) h = let a = numbered_init d h in let b = numbered_inits r a.1 in ((a.0, b.0), b.1)
