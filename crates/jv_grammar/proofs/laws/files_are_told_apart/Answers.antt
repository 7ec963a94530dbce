use Rattle.std.proofs.Common.{◌≡◌, ◌≤◌, List, length, arith, refl, sym, ◌∙◌}
use Rattle.jv_tree.specs.DeclTree.{UnitTree}
use Rattle.jv_grammar.specs.declared.terminal.Terminal.{Terminal}
use Rattle.jv_grammar.specs.DeclGrammar.{Derives}
use Rattle.jv_grammar.specs.TypeReader.{name_of, base_of, pairs_of, ty_of, declares}
use Rattle.jv_grammar.specs.ExprReader.{run_of, exprs_of, args_of, head_of, suffixes_of, primary_of, steps_of, post_of, unary_of, links_of, bin_of, cond_of, expr_of, init_of, below}
use Rattle.jv_grammar.specs.StmtReader.{var_by, vars_up_to, vars_by, effect_by, block_by, effect_stmt_by, word_by, stmt_by, bstmt_by, bstmts_up_to, bstmts_by, below_stmt}
use Rattle.jv_grammar.specs.DeclReader.{mods_of, names_of, parent_of, headed_of, param_of, some_params_of, params_of, constants_of, field_of, method_of, typed_of, plain_of, call_of, inner_of, ctor_of, behind_mods, member_of, members_of, braced_of, class_of, interface_of, decl_of, below_type, type_of, types_of, package_of, path_of, listed_of, import_of, imports_of, file_of}
use Rattle.jv_grammar.specs.FileExample.{IsNoFile}
use Rattle.jv_grammar.proofs.Read.{fails, err_ok}
use Rattle.jv_grammar.proofs.Short.{short_has_few}
use Rattle.jv_grammar.proofs.DeclDepth.{fits_file}
use Rattle.jv_grammar.proofs.DeclComplete.{got_file, reads_file}
use Rattle.jv_grammar.proofs.DeclSound.{derives_file}
use Rattle.jv_grammar.proofs.DeclFew.{few_file}
use Rattle.jv_grammar.proofs.laws.files_are_told_apart.Goals as goal

is : (xs : List Terminal) (u : UnitTree) → file_of 20 xs ≡ got_file u → Derives xs u
is xs u h = (derives_file 20 xs u h).0

-- where the reader fails nothing derives
is_none : (xs zs : List Terminal) → length xs ≤ 20 → file_of 20 xs ≡ fails zs → IsNoFile xs
is_none xs zs l h u d = err_ok (sym h ∙ reads_file 20 d (omega (arith, fits_file d)) (few_file (short_has_few xs (omega arith)) d))

pub returns : goal.returns
unfolding name_of base_of pairs_of ty_of declares run_of exprs_of args_of head_of suffixes_of primary_of steps_of post_of unary_of links_of bin_of cond_of expr_of init_of below var_by vars_up_to vars_by effect_by block_by effect_stmt_by word_by stmt_by bstmt_by bstmts_up_to bstmts_by below_stmt mods_of names_of parent_of headed_of param_of some_params_of params_of constants_of field_of method_of typed_of plain_of call_of inner_of ctor_of behind_mods member_of members_of braced_of class_of interface_of decl_of below_type type_of types_of package_of path_of listed_of import_of imports_of file_of
returns g = λ a b c p q. record {
  empty = is _ _ refl;
  imports = is _ _ refl;
  no_name_behind_star = is_none _ _ (omega arith) refl;
  no_import_behind = is_none _ _ (omega arith) refl;
  static_imports = is _ _ refl;
  no_static_import_of_one_name = is_none _ _ (omega arith) refl;
  no_second_static = is_none _ _ (omega arith) refl;
  header = is _ _ refl;
  two_parents = is _ _ refl;
  one_parent = is_none _ _ (omega arith) refl;
  no_modifiers_alone = is_none _ _ (omega arith) refl;
  fields = is _ _ refl;
  no_open_field = is_none _ _ (omega arith) refl;
  block_behind = is _ _ refl;
  no_block_behind = is _ _ refl;
  calls_super = is _ _ refl;
  calls_method_of_super = is _ _ refl;
  no_late_call = is_none _ _ (omega arith) refl;
  constants = is _ _ refl;
  interface_methods = is _ _ refl;
  no_value_behind = is_none _ _ (omega arith) refl;
  no_default_name = is_none _ _ (omega arith) refl;
  no_plain_constant = is_none _ _ (omega arith) refl;
  no_constructor = is_none _ _ (omega arith) refl;
  no_constructor_with_body = is_none _ _ (omega arith) refl;
  no_brace_behind = is_none _ _ (omega arith) refl;
}
