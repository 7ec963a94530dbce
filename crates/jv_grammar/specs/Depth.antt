-- How deep a derivation nests: what the readers count down.
use Rattle.std.specs.Prelude.{List, Option, max, suc, ℕ}
use Rattle.jv_tree.specs.ExprTree.{ExprTree, ExprTrees, InitTree, InitTrees, LinkTrees, OperandTree}
use Rattle.jv_grammar.specs.declared.terminal.Terminal.{Terminal}
use Rattle.jv_grammar.specs.declared.form.Form.{Form}
use Rattle.jv_grammar.specs.ExprGrammar.{DerivesArgs, DerivesBin, DerivesCast, DerivesCond, DerivesDims, DerivesExpr, DerivesExprs, DerivesHead, DerivesInit, DerivesInits, DerivesLink, DerivesLinks, DerivesList, DerivesPlain, DerivesPost, DerivesPrimary, DerivesUnary, args_none, args_some, bin_chain, bin_one, bin_unary, cast_prim, cast_reference, cond_bin, cond_choice, dims_more, dims_one, expr_assign, expr_cond, exprs_more, exprs_one, head_call, head_literal, head_name, head_new, head_new_array, head_new_list, head_paren, head_super_call, head_super_field, head_this, init_expr, init_list, inits_more, inits_one, link_operand, link_type, links_more, links_one, list_none, list_some, plain_cast, plain_post, plain_sign, post_primary, post_step, primary_call, primary_field, primary_head, primary_index, unary_cast, unary_minimum, unary_minimum_long, unary_post, unary_sign, unary_step}
use Rattle.jv_tree.specs.StmtTree.{StmtTree, StmtTrees, VarTree}
use Rattle.jv_grammar.specs.StmtGrammar.{DerivesBlock, DerivesBstmt, DerivesBstmts, DerivesEffects, DerivesFirst, DerivesLocal, DerivesOptional, DerivesStmt, DerivesUpdates, DerivesVar, DerivesVars, block, bstmt_local, bstmt_stmt, bstmts_more, bstmts_none, effects_more, effects_one, first_effects, first_local, first_none, local_final, local_vars, optional_none, optional_some, stmt_block, stmt_break, stmt_continue, stmt_do, stmt_effect, stmt_empty, stmt_for, stmt_if, stmt_if_else, stmt_return, stmt_while, updates_none, updates_some, var_alone, var_init, vars_more, vars_one}
use Rattle.jv_tree.specs.DeclTree.{MemberTree, MemberTrees, TypeDeclTree, UnitTree}
use Rattle.jv_grammar.specs.DeclGrammar.{Derives, DerivesBody, DerivesClass, DerivesConstants, DerivesCtor, DerivesImember, DerivesImembers, DerivesInterface, DerivesMember, DerivesMembers, DerivesType, DerivesTypes, body_block, body_none, class, constants_more, constants_one, ctor_plain, ctor_super, file, imember_field, imember_method, imember_type, imembers_empty, imembers_more, imembers_none, interface, member_ctor, member_field, member_method, member_type, members_empty, members_more, members_none, type_class, type_interface, types_empty, types_more, types_none}

abbrev mutual
  -- how deep an expression nests; the right side of an assignment lies one level deeper
  pub deep_expr : {f : Form} {e : ExprTree} {xs ys : List Terminal} → DerivesExpr f e xs ys → ℕ
  deep_expr (expr_assign d h r) = max (deep_primary d) (suc (deep_expr r))
  deep_expr (expr_cond d) = deep_cond d

  -- how deep a conditional nests; what stands behind `?` and behind `:` lies one level deeper
  pub deep_cond : {f : Form} {e : ExprTree} {xs ys : List Terminal} → DerivesCond f e xs ys → ℕ
  deep_cond (cond_bin d) = deep_bin d
  deep_cond (cond_choice d a b) = max (deep_bin d) (max (suc (deep_expr a)) (suc (deep_cond b)))

  -- how deep operands with operators between them nest: as deep as the deepest of them
  pub deep_bin : {levels : List (List ℕ)} {f : Form} {e : ExprTree} {xs ys : List Terminal} → DerivesBin levels f e xs ys → ℕ
  deep_bin (bin_unary d) = deep_unary d
  deep_bin (bin_one d) = deep_bin d
  deep_bin (bin_chain d l) = max (deep_bin d) (deep_links l)

  -- how deep the operators of a level with what stands behind them nest: as deep as the deepest
  pub deep_links : {level : List ℕ} {tighter : List (List ℕ)} {ls : LinkTrees} {xs ys : List Terminal} → DerivesLinks level tighter ls xs ys → ℕ
  deep_links (links_one d) = deep_link d
  deep_links (links_more d l) = max (deep_link d) (deep_links l)

  -- how deep what stands behind an operator nests; a type behind `instanceof` does not
  pub deep_link : {level : List ℕ} {tighter : List (List ℕ)} {p o : ℕ} {x : OperandTree} {xs ys : List Terminal} → DerivesLink level tighter p o x xs ys → ℕ
  deep_link (link_operand h d) = deep_bin d
  deep_link (link_type h d) = 0

  -- how deep a unary nests; the operand of a sign, `++` or `--` in front lies one level deeper
  pub deep_unary : {f : Form} {e : ExprTree} {xs ys : List Terminal} → DerivesUnary f e xs ys → ℕ
  deep_unary (unary_sign h d) = suc (deep_unary d)
  deep_unary (unary_step h d) = suc (deep_unary d)
  deep_unary unary_minimum = 0
  deep_unary unary_minimum_long = 0
  deep_unary (unary_cast d) = deep_cast d
  deep_unary (unary_post d) = deep_post d

  -- how deep a cast nests: one level more than what it casts
  pub deep_cast : {e : ExprTree} {xs ys : List Terminal} → DerivesCast e xs ys → ℕ
  deep_cast (cast_prim m d) = suc (deep_unary d)
  deep_cast (cast_reference m d) = suc (deep_plain d)

  -- how deep a `plain` nests; the operand of `!` or `~` lies one level deeper
  pub deep_plain : {f : Form} {e : ExprTree} {xs ys : List Terminal} → DerivesPlain f e xs ys → ℕ
  deep_plain (plain_sign h d) = suc (deep_unary d)
  deep_plain (plain_cast d) = deep_cast d
  deep_plain (plain_post d) = deep_post d

  -- how deep a primary with `++` and `--` behind it nests: as deep as the primary
  pub deep_post : {f : Form} {e : ExprTree} {xs ys : List Terminal} → DerivesPost f e xs ys → ℕ
  deep_post (post_primary d) = deep_primary d
  deep_post (post_step d h) = deep_post d

  -- how deep a primary nests: as its head, its arguments, and its indexes, which lie one level deeper
  pub deep_primary : {f : Form} {e : ExprTree} {xs ys : List Terminal} → DerivesPrimary f e xs ys → ℕ
  deep_primary (primary_head d) = deep_head d
  deep_primary (primary_field d h) = deep_primary d
  deep_primary (primary_call d a) = max (deep_primary d) (deep_args a)
  deep_primary (primary_index d x) = max (deep_primary d) (suc (deep_expr x))

  -- how deep a head nests; what stands in parentheses, and the sizes of a new array, lie one level deeper
  pub deep_head : {f : Form} {e : ExprTree} {xs ys : List Terminal} → DerivesHead f e xs ys → ℕ
  deep_head head_literal = 0
  deep_head head_this = 0
  deep_head (head_paren h d) = suc (deep_expr d)
  deep_head (head_name m h) = 0
  deep_head (head_call a) = deep_args a
  deep_head (head_super_field h) = 0
  deep_head (head_super_call a) = deep_args a
  deep_head (head_new m a) = deep_args a
  deep_head (head_new_array m d h) = suc (deep_dims d)
  deep_head (head_new_list {n} m q l) = deep_list l

  -- how deep the sizes of a new array nest: as deep as the deepest
  pub deep_dims : {es : ExprTrees} {n : ℕ} {xs ys : List Terminal} → DerivesDims es n xs ys → ℕ
  deep_dims (dims_one d q) = deep_expr d
  deep_dims (dims_more d r) = max (deep_expr d) (deep_dims r)

  -- how deep arguments nest: one level more than the deepest of them, and 0 for none
  pub deep_args : {es : ExprTrees} {xs ys : List Terminal} → DerivesArgs es xs ys → ℕ
  deep_args args_none = 0
  deep_args (args_some d) = suc (deep_exprs d)

  -- how deep expressions with commas between them nest: as deep as the deepest
  pub deep_exprs : {es : ExprTrees} {xs ys : List Terminal} → DerivesExprs es xs ys → ℕ
  deep_exprs (exprs_one d) = deep_expr d
  deep_exprs (exprs_more d r) = max (deep_expr d) (deep_exprs r)

  -- how deep an initializer nests: as deep as its expression or its list
  pub deep_init : {i : InitTree} {xs ys : List Terminal} → DerivesInit i xs ys → ℕ
  deep_init (init_expr d) = deep_expr d
  deep_init (init_list d) = deep_list d

  -- how deep a list in braces nests: one level more than the deepest of its elements, and 0 for none
  pub deep_list : {p : ℕ} {is : InitTrees} {xs ys : List Terminal} → DerivesList p is xs ys → ℕ
  deep_list (list_none d) = 0
  deep_list (list_some d q) = suc (deep_inits d)

  -- how deep the elements of a list nest: as deep as the deepest
  pub deep_inits : {is : InitTrees} {xs ys : List Terminal} → DerivesInits is xs ys → ℕ
  deep_inits (inits_one d) = deep_init d
  deep_inits (inits_more d r) = max (deep_init d) (deep_inits r)

-- how deep a variable nests: as deep as its initializer, and 0 without one
abbrev pub deep_var : {v : VarTree} {xs ys : List Terminal} → DerivesVar v xs ys → ℕ
deep_var var_alone = 0
deep_var (var_init d) = deep_init d

-- how deep variables nest: as deep as the deepest
abbrev pub deep_vars : {vs : List VarTree} {xs ys : List Terminal} → DerivesVars vs xs ys → ℕ
deep_vars (vars_one d) = deep_var d
deep_vars (vars_more d r) = max (deep_var d) (deep_vars r)

-- how deep local variables nest: as deep as the deepest of them
abbrev pub deep_local : {x : StmtTree} {xs ys : List Terminal} → DerivesLocal x xs ys → ℕ
deep_local (local_vars d r) = deep_vars r
deep_local (local_final d r) = deep_vars r

-- how deep effects with commas between them nest: as deep as the deepest
abbrev pub deep_effects : {es : ExprTrees} {xs ys : List Terminal} → DerivesEffects es xs ys → ℕ
deep_effects (effects_one d) = deep_expr d
deep_effects (effects_more d r) = max (deep_expr d) (deep_effects r)

-- how deep what a `for` begins with nests: as deep as its local variables or effects, and 0 for none
abbrev pub deep_first : {ss : StmtTrees} {xs ys : List Terminal} → DerivesFirst ss xs ys → ℕ
deep_first first_none = 0
deep_first (first_local d) = deep_local d
deep_first (first_effects d) = deep_effects d

-- how deep an expression nests that may not be there: 0 where it is not
abbrev pub deep_optional : {c : Option ExprTree} {xs ys : List Terminal} → DerivesOptional c xs ys → ℕ
deep_optional optional_none = 0
deep_optional (optional_some d) = deep_expr d

-- how deep the effects after each round of a `for` nest, and 0 for none
abbrev pub deep_updates : {es : ExprTrees} {xs ys : List Terminal} → DerivesUpdates es xs ys → ℕ
deep_updates updates_none = 0
deep_updates (updates_some d) = deep_effects d

abbrev mutual
  -- how deep a block nests: one level more than the deepest of its statements
  pub deep_block : {p : ℕ} {ss : StmtTrees} {xs ys : List Terminal} → DerivesBlock p ss xs ys → ℕ
  deep_block (block d) = suc (deep_bstmts d)

  -- how deep the statements of a block nest: as deep as the deepest
  pub deep_bstmts : {ss : StmtTrees} {xs ys : List Terminal} → DerivesBstmts ss xs ys → ℕ
  deep_bstmts bstmts_none = 0
  deep_bstmts (bstmts_more d r) = max (deep_bstmt d) (deep_bstmts r)

  -- how deep a statement of a block nests: as deep as its local variables, or as any other statement
  pub deep_bstmt : {x : StmtTree} {xs ys : List Terminal} → DerivesBstmt x xs ys → ℕ
  deep_bstmt (bstmt_local d) = deep_local d
  deep_bstmt (bstmt_stmt d) = deep_stmt d

  -- how deep a statement nests; what an `if` guards, its `else`, and the body of a loop lie one level deeper
  pub deep_stmt : {x : StmtTree} {xs ys : List Terminal} → DerivesStmt x xs ys → ℕ
  deep_stmt (stmt_block d) = deep_block d
  deep_stmt stmt_empty = 0
  deep_stmt (stmt_effect d) = deep_expr d
  deep_stmt (stmt_if c d h) = max (deep_expr c) (suc (deep_stmt d))
  deep_stmt (stmt_if_else c d r) = max (deep_expr c) (max (suc (deep_stmt d)) (suc (deep_stmt r)))
  deep_stmt (stmt_while c d) = max (deep_expr c) (suc (deep_stmt d))
  deep_stmt (stmt_do d c) = max (suc (deep_stmt d)) (deep_expr c)
  deep_stmt (stmt_for i c u d) = max (max (deep_first i) (max (deep_optional c) (deep_updates u))) (suc (deep_stmt d))
  deep_stmt (stmt_return c) = deep_optional c
  deep_stmt stmt_break = 0
  deep_stmt stmt_continue = 0

-- how deep the body of a method nests: as deep as its block, and 0 without one
abbrev pub deep_body : {b : Option StmtTrees} {xs ys : List Terminal} → DerivesBody b xs ys → ℕ
deep_body (body_block d) = deep_block d
deep_body body_none = 0

-- how deep the braces of a constructor nest: as deep as its call of `super` and its statements
abbrev pub deep_ctor : {c : Option (ℕ × ExprTrees)} {ss : StmtTrees} {xs ys : List Terminal} → DerivesCtor c ss xs ys → ℕ
deep_ctor (ctor_plain d) = deep_bstmts d
deep_ctor (ctor_super a d) = max (deep_args a) (deep_bstmts d)

-- how deep constants nest: as deep as the deepest of their initializers
abbrev pub deep_constants : {vs : List VarTree} {xs ys : List Terminal} → DerivesConstants vs xs ys → ℕ
deep_constants (constants_one d) = deep_init d
deep_constants (constants_more d r) = max (deep_init d) (deep_constants r)

abbrev mutual
  -- how deep a class or an interface nests: as deep as its members
  pub deep_type : {x : TypeDeclTree} {xs ys : List Terminal} → DerivesType x xs ys → ℕ
  deep_type (type_class m d) = deep_class d
  deep_type (type_interface m d) = deep_interface d

  -- how deep a class behind its modifiers nests: as deep as its members
  pub deep_class : {ks : List ℕ} {x : TypeDeclTree} {xs ys : List Terminal} → DerivesClass ks x xs ys → ℕ
  deep_class (class a b d) = deep_members d

  -- how deep an interface behind its modifiers nests: as deep as its members
  pub deep_interface : {ks : List ℕ} {x : TypeDeclTree} {xs ys : List Terminal} → DerivesInterface ks x xs ys → ℕ
  deep_interface (interface a d) = deep_imembers d

  -- how deep the members of a class nest: as deep as the deepest
  pub deep_members : {ms : MemberTrees} {xs ys : List Terminal} → DerivesMembers ms xs ys → ℕ
  deep_members members_none = 0
  deep_members (members_more d r) = max (deep_member d) (deep_members r)
  deep_members (members_empty r) = deep_members r

  -- how deep a member of a class nests; a nested type lies one level deeper
  pub deep_member : {m : MemberTree} {xs ys : List Terminal} → DerivesMember m xs ys → ℕ
  deep_member (member_type d) = suc (deep_type d)
  deep_member (member_field m d v) = deep_vars v
  deep_member (member_method m d q b) = deep_body b
  deep_member (member_ctor m q c) = deep_ctor c

  -- how deep the members of an interface nest: as deep as the deepest
  pub deep_imembers : {ms : MemberTrees} {xs ys : List Terminal} → DerivesImembers ms xs ys → ℕ
  deep_imembers imembers_none = 0
  deep_imembers (imembers_more d r) = max (deep_imember d) (deep_imembers r)
  deep_imembers (imembers_empty r) = deep_imembers r

  -- how deep a member of an interface nests; a nested type lies one level deeper
  pub deep_imember : {m : MemberTree} {xs ys : List Terminal} → DerivesImember m xs ys → ℕ
  deep_imember (imember_type d) = suc (deep_type d)
  deep_imember (imember_field m d v) = deep_constants v
  deep_imember (imember_method m d q b) = deep_body b

-- how deep the classes and interfaces of a file nest: as deep as the deepest
abbrev pub deep_types : {ts : List TypeDeclTree} {xs ys : List Terminal} → DerivesTypes ts xs ys → ℕ
deep_types types_none = 0
deep_types (types_more d r) = max (deep_type d) (deep_types r)
deep_types (types_empty r) = deep_types r

-- how deep a file nests: as deep as its classes and interfaces
abbrev pub deep_file : {xs : List Terminal} {u : UnitTree} → Derives xs u → ℕ
deep_file (file a b d) = deep_types d
