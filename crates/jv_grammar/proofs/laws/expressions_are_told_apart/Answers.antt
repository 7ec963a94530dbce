use Rattle.std.proofs.Common.{◌≡◌, ◌≤◌, List, [], length, arith, lit<, Ok, refl, sym, ◌∙◌}
use Rattle.jv_tree.specs.ExprTree.{ExprTree, InitTree}
use Rattle.jv_grammar.specs.declared.terminal.Terminal.{Terminal}
use Rattle.jv_grammar.specs.declared.form.Form.{Form}
use Rattle.jv_grammar.specs.ExprGrammar.{DerivesExpr, DerivesInit}
use Rattle.jv_grammar.specs.Reader.{Reads}
use Rattle.jv_grammar.specs.TypeReader.{name_of, base_of, pairs_of, ty_of, reference_of}
use Rattle.jv_grammar.specs.ExprReader.{Parsed, run_of, exprs_of, args_of, inits_of, list_of, sizes_of, new_of, head_of, suffixes_of, primary_of, steps_of, post_of, cast_ahead, cast_of, signed_of, unary_of, links_of, bin_of, cond_of, expr_of, init_of, below}
use Rattle.jv_grammar.specs.ExprExample.{IsNone}
use Rattle.jv_grammar.proofs.Depth.{fits_expr}
use Rattle.jv_grammar.proofs.Read.{fails, gives, err_ok}
use Rattle.jv_grammar.proofs.Complete.{reads_expr}
use Rattle.jv_grammar.proofs.Sound.{derives_expr, derives_init}
use Rattle.jv_grammar.proofs.Few.{few_expr}
use Rattle.jv_grammar.proofs.Short.{short_has_few}
use Rattle.jv_grammar.proofs.laws.expressions_are_told_apart.Goals as goal

is : (f : Form) (e : ExprTree) (xs : List Terminal) → expr_of (below 10) xs ≡ gives ((f, e), []) → DerivesExpr f e xs []
is f e xs h = (derives_expr 10 xs ((f, e), []) h).0

is_init : (i : InitTree) (xs : List Terminal) → init_of (below 10) xs ≡ gives (i, []) → DerivesInit i xs []
is_init i xs h = (derives_init 10 xs (i, []) h).0

-- where a reader fails nothing derives
is_none : (xs zs : List Terminal) → length xs ≤ 10 → expr_of (below 10) xs ≡ fails zs → IsNone xs
is_none xs zs l h f e d = err_ok (sym h ∙ reads_expr 10 d (omega (arith, fits_expr d)) (few_expr (short_has_few xs (omega arith)) d) (lit< tt))

abbrev left_over : Form → ExprTree → List Terminal → Reads Parsed
left_over f e xs = Ok ((f, e), xs)

pub returns : goal.returns
unfolding name_of base_of pairs_of ty_of reference_of run_of exprs_of args_of inits_of list_of sizes_of new_of head_of suffixes_of primary_of steps_of post_of cast_ahead cast_of signed_of unary_of links_of bin_of cond_of expr_of init_of below
returns c = λ a b c' p q r s u v w. record {
  one_level = is _ _ _ refl;
  two_levels = is _ _ _ refl;
  difference = is _ _ _ refl;
  cast_by_name = is _ _ _ refl;
  cast_by_int = is _ _ _ refl;
  no_cast_by_array = is_none _ _ (omega arith) refl;
  minimum = is _ _ _ refl;
  no_minimum = is_none _ _ (omega arith) refl;
  no_minimum_behind_operand = is_none _ _ (omega arith) refl;
  longest_name = is _ _ _ refl;
  called_name = is _ _ _ refl;
  super_field = is _ _ _ refl;
  super_call = is _ _ _ refl;
  from_the_right = is _ _ _ refl;
  no_target = is_none _ _ (omega arith) refl;
  two_sizes = is _ _ _ refl;
  no_size_behind_pair = is_none _ _ (omega arith) refl;
  array_instance = is _ _ _ refl;
  no_bare_instance = is_none _ _ (omega arith) refl;
  comma_behind = is_init _ _ refl;
  comma_alone = is_init _ _ refl;
}
