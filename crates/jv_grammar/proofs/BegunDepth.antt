-- How deep what begins nests: what the readers count down.
use Rattle.std.specs.Prelude.{List, max, suc, ℕ}
use Rattle.jv_grammar.specs.declared.terminal.Terminal.{Terminal}
use Rattle.jv_grammar.specs.ExprBegins.{BeginsExpr, begun_expr_none, begun_expr_assign, begun_expr_cond, begun_expr_whole, BeginsCond, begun_cond_none, begun_cond_bin, begun_cond_yes, begun_cond_no, begun_cond_whole, BeginsBin, begun_bin_none, begun_bin_unary, begun_bin_one, begun_bin_chain, begun_bin_whole, BeginsLinks, begun_links_none, begun_links_one, begun_links_more, begun_links_whole, BeginsLink, begun_link_none, begun_link_operand, begun_link_type, begun_link_whole, BeginsUnary, begun_unary_none, begun_unary_sign, begun_unary_step, begun_unary_cast, begun_unary_post, begun_unary_whole, BeginsCast, begun_cast_none, begun_cast_type, begun_cast_prim, begun_cast_reference, begun_cast_whole, BeginsPlain, begun_plain_none, begun_plain_sign, begun_plain_cast, begun_plain_post, begun_plain_whole, BeginsPost, begun_post_none, begun_post_primary, begun_post_whole, BeginsPrimary, begun_primary_none, begun_primary_head, begun_primary_dot, begun_primary_call, begun_primary_index, begun_primary_whole, BeginsHead, begun_head_none, begun_head_paren, begun_head_name, begun_head_call, begun_head_super, begun_head_super_dot, begun_head_super_call, begun_head_new, begun_head_new_args, begun_head_new_dims, begun_head_new_pairs, begun_head_new_list, begun_head_whole, BeginsDims, begun_dims_none, begun_dims_size, begun_dims_more, begun_dims_pairs, begun_dims_whole, BeginsArgs, begun_args_none, begun_args_some, begun_args_whole, BeginsExprs, begun_exprs_none, begun_exprs_one, begun_exprs_more, begun_exprs_whole, BeginsInit, begun_init_none, begun_init_expr, begun_init_list, begun_init_whole, BeginsList, begun_list_none, begun_list_empty, begun_list_some, begun_list_end, begun_list_whole, BeginsInits, begun_inits_none, begun_inits_one, begun_inits_more, begun_inits_whole}
use Rattle.jv_grammar.specs.StmtBegins.{BeginsVar, begun_var_none, begun_var_init, begun_var_whole, BeginsVars, begun_vars_none, begun_vars_one, begun_vars_more, begun_vars_whole, BeginsLocal, begun_local_none, begun_local_ty, begun_local_vars, begun_local_final_ty, begun_local_final_vars, begun_local_whole, BeginsEffects, begun_effects_none, begun_effects_one, begun_effects_more, begun_effects_whole, BeginsFirst, begun_first_none, begun_first_local, begun_first_effects, begun_first_whole, BeginsOptional, begun_optional_none, begun_optional_some, begun_optional_whole, BeginsUpdates, begun_updates_none, begun_updates_some, begun_updates_whole, BeginsBlock, begun_block_none, begun_block_some, begun_block_whole, BeginsBstmts, begun_bstmts_none, begun_bstmts_one, begun_bstmts_more, begun_bstmts_whole, BeginsBstmt, begun_bstmt_none, begun_bstmt_local, begun_bstmt_stmt, begun_bstmt_whole, BeginsStmt, begun_stmt_none, begun_stmt_block, begun_stmt_effect, begun_stmt_if, begun_stmt_if_test, begun_stmt_if_then, begun_stmt_if_else, begun_stmt_while, begun_stmt_while_test, begun_stmt_while_body, begun_stmt_do, begun_stmt_do_while, begun_stmt_do_test, begun_stmt_do_close, begun_stmt_for, begun_stmt_for_first, begun_stmt_for_test, begun_stmt_for_updates, begun_stmt_for_body, begun_stmt_return, begun_stmt_break, begun_stmt_continue, begun_stmt_whole}
use Rattle.jv_grammar.specs.DeclBegins.{BeginsBody, begun_body_none, begun_body_block, begun_body_whole, BeginsCtor, begun_ctor_none, begun_ctor_plain, begun_ctor_args, begun_ctor_super, begun_ctor_whole, BeginsConstants, begun_constants_none, begun_constants_name, begun_constants_one, begun_constants_more, begun_constants_whole, BeginsType, begun_type_none, begun_type_class, begun_type_interface, begun_type_whole, BeginsClass, begun_class_none, begun_class_word, begun_class_parent, begun_class_interfaces, begun_class_members, begun_class_whole, BeginsInterface, begun_interface_none, begun_interface_word, begun_interface_parents, begun_interface_members, begun_interface_whole, BeginsMembers, begun_members_none, begun_members_one, begun_members_more, begun_members_empty, begun_members_whole, BeginsMember, begun_member_none, begun_member_type, begun_member_result, begun_member_vars, begun_member_params, begun_member_body, begun_member_ctor_params, begun_member_ctor, begun_member_whole, BeginsImembers, begun_imembers_none, begun_imembers_one, begun_imembers_more, begun_imembers_empty, begun_imembers_whole, BeginsImember, begun_imember_none, begun_imember_type, begun_imember_result, begun_imember_constants, begun_imember_params, begun_imember_body, begun_imember_whole, BeginsTypes, begun_types_none, begun_types_one, begun_types_more, begun_types_empty, begun_types_whole, Begins, begun_file_none, begun_file_package, begun_file_imports, begun_file_types, begun_file_whole}
use Rattle.jv_grammar.specs.Depth.{deep_expr, deep_cond, deep_bin, deep_links, deep_link, deep_unary, deep_cast, deep_plain, deep_post, deep_primary, deep_head, deep_dims, deep_args, deep_exprs, deep_init, deep_list, deep_inits, deep_var, deep_vars, deep_local, deep_effects, deep_first, deep_optional, deep_updates, deep_block, deep_bstmts, deep_bstmt, deep_stmt, deep_body, deep_ctor, deep_constants, deep_type, deep_class, deep_interface, deep_members, deep_member, deep_imembers, deep_imember, deep_types, deep_file}

abbrev mutual
  pub begun_deep_expr : {xs : List Terminal} → BeginsExpr xs → ℕ
  begun_deep_expr begun_expr_none = 0
  begun_deep_expr (begun_expr_assign d h r) = max (deep_primary d) (suc (begun_deep_expr r))
  begun_deep_expr (begun_expr_cond r) = begun_deep_cond r
  begun_deep_expr (begun_expr_whole d) = deep_expr d

  pub begun_deep_cond : {xs : List Terminal} → BeginsCond xs → ℕ
  begun_deep_cond begun_cond_none = 0
  begun_deep_cond (begun_cond_bin r) = begun_deep_bin r
  begun_deep_cond (begun_cond_yes d r) = max (deep_bin d) (suc (begun_deep_expr r))
  begun_deep_cond (begun_cond_no d a r) = max (deep_bin d) (max (suc (deep_expr a)) (suc (begun_deep_cond r)))
  begun_deep_cond (begun_cond_whole d) = deep_cond d

  pub begun_deep_bin : {rest : List (List ℕ)} {xs : List Terminal} → BeginsBin rest xs → ℕ
  begun_deep_bin begun_bin_none = 0
  begun_deep_bin (begun_bin_unary r) = begun_deep_unary r
  begun_deep_bin (begun_bin_one r) = begun_deep_bin r
  begun_deep_bin (begun_bin_chain d r) = max (deep_bin d) (begun_deep_links r)
  begun_deep_bin (begun_bin_whole d) = deep_bin d

  pub begun_deep_links : {level : List ℕ} {tighter : List (List ℕ)} {xs : List Terminal} → BeginsLinks level tighter xs → ℕ
  begun_deep_links begun_links_none = 0
  begun_deep_links (begun_links_one r) = begun_deep_link r
  begun_deep_links (begun_links_more d r) = max (deep_link d) (begun_deep_links r)
  begun_deep_links (begun_links_whole d) = deep_links d

  pub begun_deep_link : {level : List ℕ} {tighter : List (List ℕ)} {xs : List Terminal} → BeginsLink level tighter xs → ℕ
  begun_deep_link begun_link_none = 0
  begun_deep_link (begun_link_operand h r) = begun_deep_bin r
  begun_deep_link (begun_link_type h r) = 0
  begun_deep_link (begun_link_whole d) = deep_link d

  pub begun_deep_unary : {xs : List Terminal} → BeginsUnary xs → ℕ
  begun_deep_unary begun_unary_none = 0
  begun_deep_unary (begun_unary_sign h r) = suc (begun_deep_unary r)
  begun_deep_unary (begun_unary_step h r) = suc (begun_deep_unary r)
  begun_deep_unary (begun_unary_cast r) = begun_deep_cast r
  begun_deep_unary (begun_unary_post r) = begun_deep_post r
  begun_deep_unary (begun_unary_whole d) = deep_unary d

  pub begun_deep_cast : {xs : List Terminal} → BeginsCast xs → ℕ
  begun_deep_cast begun_cast_none = 0
  begun_deep_cast (begun_cast_type r) = 1
  begun_deep_cast (begun_cast_prim m r) = suc (begun_deep_unary r)
  begun_deep_cast (begun_cast_reference m r) = suc (begun_deep_plain r)
  begun_deep_cast (begun_cast_whole d) = deep_cast d

  pub begun_deep_plain : {xs : List Terminal} → BeginsPlain xs → ℕ
  begun_deep_plain begun_plain_none = 0
  begun_deep_plain (begun_plain_sign h r) = suc (begun_deep_unary r)
  begun_deep_plain (begun_plain_cast r) = begun_deep_cast r
  begun_deep_plain (begun_plain_post r) = begun_deep_post r
  begun_deep_plain (begun_plain_whole d) = deep_plain d

  pub begun_deep_post : {xs : List Terminal} → BeginsPost xs → ℕ
  begun_deep_post begun_post_none = 0
  begun_deep_post (begun_post_primary r) = begun_deep_primary r
  begun_deep_post (begun_post_whole d) = deep_post d

  pub begun_deep_primary : {xs : List Terminal} → BeginsPrimary xs → ℕ
  begun_deep_primary begun_primary_none = 0
  begun_deep_primary (begun_primary_head r) = begun_deep_head r
  begun_deep_primary (begun_primary_dot d) = deep_primary d
  begun_deep_primary (begun_primary_call d r) = max (deep_primary d) (begun_deep_args r)
  begun_deep_primary (begun_primary_index d r) = max (deep_primary d) (suc (begun_deep_expr r))
  begun_deep_primary (begun_primary_whole d) = deep_primary d

  pub begun_deep_head : {xs : List Terminal} → BeginsHead xs → ℕ
  begun_deep_head begun_head_none = 0
  begun_deep_head (begun_head_paren r) = suc (begun_deep_expr r)
  begun_deep_head (begun_head_name r) = 0
  begun_deep_head (begun_head_call r) = begun_deep_args r
  begun_deep_head begun_head_super = 0
  begun_deep_head begun_head_super_dot = 0
  begun_deep_head (begun_head_super_call r) = begun_deep_args r
  begun_deep_head (begun_head_new r) = 0
  begun_deep_head (begun_head_new_args m r) = begun_deep_args r
  begun_deep_head (begun_head_new_dims m r) = begun_deep_dims r
  begun_deep_head (begun_head_new_pairs m r) = 0
  begun_deep_head (begun_head_new_list m q r) = begun_deep_list r
  begun_deep_head (begun_head_whole d) = deep_head d

  pub begun_deep_dims : {xs : List Terminal} → BeginsDims xs → ℕ
  begun_deep_dims begun_dims_none = 0
  begun_deep_dims (begun_dims_size r) = suc (begun_deep_expr r)
  begun_deep_dims (begun_dims_more d r) = max (suc (deep_expr d)) (begun_deep_dims r)
  begun_deep_dims (begun_dims_pairs d r) = suc (deep_expr d)
  begun_deep_dims (begun_dims_whole d) = suc (deep_dims d)

  pub begun_deep_args : {xs : List Terminal} → BeginsArgs xs → ℕ
  begun_deep_args begun_args_none = 0
  begun_deep_args (begun_args_some r) = suc (begun_deep_exprs r)
  begun_deep_args (begun_args_whole d) = deep_args d

  pub begun_deep_exprs : {xs : List Terminal} → BeginsExprs xs → ℕ
  begun_deep_exprs begun_exprs_none = 0
  begun_deep_exprs (begun_exprs_one r) = begun_deep_expr r
  begun_deep_exprs (begun_exprs_more d r) = max (deep_expr d) (begun_deep_exprs r)
  begun_deep_exprs (begun_exprs_whole d) = deep_exprs d

  pub begun_deep_init : {xs : List Terminal} → BeginsInit xs → ℕ
  begun_deep_init begun_init_none = 0
  begun_deep_init (begun_init_expr r) = begun_deep_expr r
  begun_deep_init (begun_init_list r) = begun_deep_list r
  begun_deep_init (begun_init_whole d) = deep_init d

  pub begun_deep_list : {xs : List Terminal} → BeginsList xs → ℕ
  begun_deep_list begun_list_none = 0
  begun_deep_list (begun_list_empty r) = 0
  begun_deep_list (begun_list_some r) = suc (begun_deep_inits r)
  begun_deep_list (begun_list_end d r) = suc (deep_inits d)
  begun_deep_list (begun_list_whole d) = deep_list d

  pub begun_deep_inits : {xs : List Terminal} → BeginsInits xs → ℕ
  begun_deep_inits begun_inits_none = 0
  begun_deep_inits (begun_inits_one r) = begun_deep_init r
  begun_deep_inits (begun_inits_more d r) = max (deep_init d) (begun_deep_inits r)
  begun_deep_inits (begun_inits_whole d) = deep_inits d

abbrev pub begun_deep_var : {xs : List Terminal} → BeginsVar xs → ℕ
begun_deep_var begun_var_none = 0
begun_deep_var (begun_var_init r) = begun_deep_init r
begun_deep_var (begun_var_whole d) = deep_var d

abbrev pub begun_deep_vars : {xs : List Terminal} → BeginsVars xs → ℕ
begun_deep_vars begun_vars_none = 0
begun_deep_vars (begun_vars_one r) = begun_deep_var r
begun_deep_vars (begun_vars_more d r) = max (deep_var d) (begun_deep_vars r)
begun_deep_vars (begun_vars_whole d) = deep_vars d

abbrev pub begun_deep_local : {xs : List Terminal} → BeginsLocal xs → ℕ
begun_deep_local begun_local_none = 0
begun_deep_local (begun_local_ty r) = 0
begun_deep_local (begun_local_vars d r) = begun_deep_vars r
begun_deep_local (begun_local_final_ty r) = 0
begun_deep_local (begun_local_final_vars d r) = begun_deep_vars r
begun_deep_local (begun_local_whole d) = deep_local d

abbrev pub begun_deep_effects : {xs : List Terminal} → BeginsEffects xs → ℕ
begun_deep_effects begun_effects_none = 0
begun_deep_effects (begun_effects_one r) = begun_deep_expr r
begun_deep_effects (begun_effects_more d r) = max (deep_expr d) (begun_deep_effects r)
begun_deep_effects (begun_effects_whole d) = deep_effects d

abbrev pub begun_deep_first : {xs : List Terminal} → BeginsFirst xs → ℕ
begun_deep_first begun_first_none = 0
begun_deep_first (begun_first_local r) = begun_deep_local r
begun_deep_first (begun_first_effects r) = begun_deep_effects r
begun_deep_first (begun_first_whole d) = deep_first d

abbrev pub begun_deep_optional : {xs : List Terminal} → BeginsOptional xs → ℕ
begun_deep_optional begun_optional_none = 0
begun_deep_optional (begun_optional_some r) = begun_deep_expr r
begun_deep_optional (begun_optional_whole d) = deep_optional d

abbrev pub begun_deep_updates : {xs : List Terminal} → BeginsUpdates xs → ℕ
begun_deep_updates begun_updates_none = 0
begun_deep_updates (begun_updates_some r) = begun_deep_effects r
begun_deep_updates (begun_updates_whole d) = deep_updates d

abbrev mutual
  pub begun_deep_block : {xs : List Terminal} → BeginsBlock xs → ℕ
  begun_deep_block begun_block_none = 0
  begun_deep_block (begun_block_some r) = suc (begun_deep_bstmts r)
  begun_deep_block (begun_block_whole d) = deep_block d

  pub begun_deep_bstmts : {xs : List Terminal} → BeginsBstmts xs → ℕ
  begun_deep_bstmts begun_bstmts_none = 0
  begun_deep_bstmts (begun_bstmts_one r) = begun_deep_bstmt r
  begun_deep_bstmts (begun_bstmts_more d r) = max (deep_bstmt d) (begun_deep_bstmts r)
  begun_deep_bstmts (begun_bstmts_whole d) = deep_bstmts d

  pub begun_deep_bstmt : {xs : List Terminal} → BeginsBstmt xs → ℕ
  begun_deep_bstmt begun_bstmt_none = 0
  begun_deep_bstmt (begun_bstmt_local r) = begun_deep_local r
  begun_deep_bstmt (begun_bstmt_stmt r) = begun_deep_stmt r
  begun_deep_bstmt (begun_bstmt_whole d) = deep_bstmt d

  pub begun_deep_stmt : {xs : List Terminal} → BeginsStmt xs → ℕ
  begun_deep_stmt begun_stmt_none = 0
  begun_deep_stmt (begun_stmt_block r) = begun_deep_block r
  begun_deep_stmt (begun_stmt_effect r) = begun_deep_expr r
  begun_deep_stmt begun_stmt_if = 0
  begun_deep_stmt (begun_stmt_if_test r) = begun_deep_expr r
  begun_deep_stmt (begun_stmt_if_then c r) = max (deep_expr c) (suc (begun_deep_stmt r))
  begun_deep_stmt (begun_stmt_if_else c d r) = max (deep_expr c) (max (suc (deep_stmt d)) (suc (begun_deep_stmt r)))
  begun_deep_stmt begun_stmt_while = 0
  begun_deep_stmt (begun_stmt_while_test r) = begun_deep_expr r
  begun_deep_stmt (begun_stmt_while_body c r) = max (deep_expr c) (suc (begun_deep_stmt r))
  begun_deep_stmt (begun_stmt_do r) = suc (begun_deep_stmt r)
  begun_deep_stmt (begun_stmt_do_while d) = suc (deep_stmt d)
  begun_deep_stmt (begun_stmt_do_test d r) = max (suc (deep_stmt d)) (begun_deep_expr r)
  begun_deep_stmt (begun_stmt_do_close d c) = max (suc (deep_stmt d)) (deep_expr c)
  begun_deep_stmt begun_stmt_for = 0
  begun_deep_stmt (begun_stmt_for_first r) = begun_deep_first r
  begun_deep_stmt (begun_stmt_for_test i r) = max (deep_first i) (begun_deep_optional r)
  begun_deep_stmt (begun_stmt_for_updates i c r) = max (deep_first i) (max (deep_optional c) (begun_deep_updates r))
  begun_deep_stmt (begun_stmt_for_body i c u r) = max (max (deep_first i) (max (deep_optional c) (deep_updates u))) (suc (begun_deep_stmt r))
  begun_deep_stmt (begun_stmt_return r) = begun_deep_optional r
  begun_deep_stmt begun_stmt_break = 0
  begun_deep_stmt begun_stmt_continue = 0
  begun_deep_stmt (begun_stmt_whole d) = deep_stmt d

abbrev pub begun_deep_body : {xs : List Terminal} → BeginsBody xs → ℕ
begun_deep_body begun_body_none = 0
begun_deep_body (begun_body_block r) = begun_deep_block r
begun_deep_body (begun_body_whole d) = deep_body d

abbrev pub begun_deep_ctor : {xs : List Terminal} → BeginsCtor xs → ℕ
begun_deep_ctor begun_ctor_none = 0
begun_deep_ctor (begun_ctor_plain r) = begun_deep_bstmts r
begun_deep_ctor (begun_ctor_args r) = begun_deep_args r
begun_deep_ctor (begun_ctor_super a r) = max (deep_args a) (begun_deep_bstmts r)
begun_deep_ctor (begun_ctor_whole d) = deep_ctor d

abbrev pub begun_deep_constants : {xs : List Terminal} → BeginsConstants xs → ℕ
begun_deep_constants begun_constants_none = 0
begun_deep_constants begun_constants_name = 0
begun_deep_constants (begun_constants_one r) = begun_deep_init r
begun_deep_constants (begun_constants_more d r) = max (deep_init d) (begun_deep_constants r)
begun_deep_constants (begun_constants_whole d) = deep_constants d

abbrev mutual
  pub begun_deep_type : {xs : List Terminal} → BeginsType xs → ℕ
  begun_deep_type begun_type_none = 0
  begun_deep_type (begun_type_class m r) = begun_deep_class r
  begun_deep_type (begun_type_interface m r) = begun_deep_interface r
  begun_deep_type (begun_type_whole d) = deep_type d

  pub begun_deep_class : {xs : List Terminal} → BeginsClass xs → ℕ
  begun_deep_class begun_class_none = 0
  begun_deep_class begun_class_word = 0
  begun_deep_class (begun_class_parent r) = 0
  begun_deep_class (begun_class_interfaces d r) = 0
  begun_deep_class (begun_class_members a b r) = begun_deep_members r
  begun_deep_class (begun_class_whole d) = deep_class d

  pub begun_deep_interface : {xs : List Terminal} → BeginsInterface xs → ℕ
  begun_deep_interface begun_interface_none = 0
  begun_deep_interface begun_interface_word = 0
  begun_deep_interface (begun_interface_parents r) = 0
  begun_deep_interface (begun_interface_members a r) = begun_deep_imembers r
  begun_deep_interface (begun_interface_whole d) = deep_interface d

  pub begun_deep_members : {xs : List Terminal} → BeginsMembers xs → ℕ
  begun_deep_members begun_members_none = 0
  begun_deep_members (begun_members_one r) = begun_deep_member r
  begun_deep_members (begun_members_more d r) = max (deep_member d) (begun_deep_members r)
  begun_deep_members (begun_members_empty r) = begun_deep_members r
  begun_deep_members (begun_members_whole d) = deep_members d

  pub begun_deep_member : {xs : List Terminal} → BeginsMember xs → ℕ
  begun_deep_member begun_member_none = 0
  begun_deep_member (begun_member_type r) = suc (begun_deep_type r)
  begun_deep_member (begun_member_result m r) = 0
  begun_deep_member (begun_member_vars m d r) = begun_deep_vars r
  begun_deep_member (begun_member_params m d r) = 0
  begun_deep_member (begun_member_body m d q r) = begun_deep_body r
  begun_deep_member (begun_member_ctor_params m r) = 0
  begun_deep_member (begun_member_ctor m q r) = begun_deep_ctor r
  begun_deep_member (begun_member_whole d) = deep_member d

  pub begun_deep_imembers : {xs : List Terminal} → BeginsImembers xs → ℕ
  begun_deep_imembers begun_imembers_none = 0
  begun_deep_imembers (begun_imembers_one r) = begun_deep_imember r
  begun_deep_imembers (begun_imembers_more d r) = max (deep_imember d) (begun_deep_imembers r)
  begun_deep_imembers (begun_imembers_empty r) = begun_deep_imembers r
  begun_deep_imembers (begun_imembers_whole d) = deep_imembers d

  pub begun_deep_imember : {xs : List Terminal} → BeginsImember xs → ℕ
  begun_deep_imember begun_imember_none = 0
  begun_deep_imember (begun_imember_type r) = suc (begun_deep_type r)
  begun_deep_imember (begun_imember_result m r) = 0
  begun_deep_imember (begun_imember_constants m d r) = begun_deep_constants r
  begun_deep_imember (begun_imember_params m d r) = 0
  begun_deep_imember (begun_imember_body m d q r) = begun_deep_body r
  begun_deep_imember (begun_imember_whole d) = deep_imember d

abbrev pub begun_deep_types : {xs : List Terminal} → BeginsTypes xs → ℕ
begun_deep_types begun_types_none = 0
begun_deep_types (begun_types_one r) = begun_deep_type r
begun_deep_types (begun_types_more d r) = max (deep_type d) (begun_deep_types r)
begun_deep_types (begun_types_empty r) = begun_deep_types r
begun_deep_types (begun_types_whole d) = deep_types d

abbrev pub begun_deep_file : {xs : List Terminal} → Begins xs → ℕ
begun_deep_file begun_file_none = 0
begun_deep_file (begun_file_package r) = 0
begun_deep_file (begun_file_imports d r) = 0
begun_deep_file (begun_file_types a b r) = begun_deep_types r
begun_deep_file (begun_file_whole d) = deep_file d
