-- What expressions are behind their first parts.
use Rattle.std.specs.Prelude.{ℕ, Bool, List, []}
use Rattle.sg_reading.specs.Reading.{done, and_then}
use Rattle.jv_diag.specs.Plain.{DiagOf}
use Rattle.jv_instance.specs.declared.ty.Ty.{Ty}
use Rattle.jv_tree.specs.declared.name.Ident.{Ident}
use Rattle.jv_tree.specs.ExprTree.{ExprTree, ExprTrees, InitTrees, LinkTrees, expr_count}
use Rattle.jv_tree.specs.TypeTree.{TypeTree}
use Rattle.jv_names.specs.Written.{start_of}
use Rattle.jv_expr.specs.declared.front.Front.{Front}
use Rattle.jv_expr.specs.declared.local.Local.{Local}
use Rattle.jv_expr.specs.declared.value.Value.{Value}
use Rattle.jv_expr.specs.Calls.{bare_call, front_call, new_meant, super_call}
use Rattle.jv_expr.specs.Checking.{Checking}
use Rattle.jv_expr.specs.Operators.{assign_on, cast_on, choice_on, index_on, value}
use Rattle.jv_expr.specs.Site.{SiteOf}
use Rattle.jv_expr.specs.Typed.{arguments_typed, as_value, element_needed, inits_typed, links_typed, named_at, sizes_typed, start, typed, with_dims, written_at}

module _ (site : SiteOf) (vs : List Local) where
  -- calls with their arguments
  unfoldable pub bare_called : Ident → ExprTrees → List DiagOf → Checking Value
  bare_called i xs ds = and_then (arguments_typed site vs xs [] ds) (λ as'. as_value (bare_call site i as'.0 as'.1))

  -- a call on what stands in front of the dot, with its arguments
  unfoldable pub front_called : Front → Ident → ExprTrees → List DiagOf → Checking Value
  front_called f i xs ds = and_then (arguments_typed site vs xs [] ds) (λ as'. as_value (front_call site f i as'.0 as'.1))

  -- a call through `super` at an offset, with its arguments
  unfoldable pub super_behind : ℕ → Ident → ExprTrees → List DiagOf → Checking Value
  super_behind at i xs ds = and_then (arguments_typed site vs xs [] ds) (λ as'. as_value (super_call site at i as'.0 as'.1))

  -- a class that a name means is instantiated, with its arguments
  unfoldable pub new_called : List Ident → ExprTrees → List DiagOf → Checking Value
  new_called ids xs ds = and_then (named_at site ids ds) (λ r. and_then (arguments_typed site vs xs [] r.1) (λ as'. as_value (new_meant site r.0.meaning (start_of ids) as'.0 as'.1)))

  -- arrays with their sizes, and with a list
  unfoldable pub array_made : TypeTree → ExprTrees → List DiagOf → Checking Value
  array_made t xs ds = and_then (written_at site t ds) (λ w. and_then (sizes_typed site vs xs w.1) (λ ds. done (value (with_dims (expr_count xs) w.0), ds)))

  -- an array of a written type with the list of its elements
  unfoldable pub list_made : TypeTree → InitTrees → List DiagOf → Checking Value
  list_made t xs ds = and_then (written_at site t ds) (λ w. and_then (inits_typed site vs (element_needed w.0) xs w.1) (λ ds. done (value w.0, ds)))

  -- the last operand of an operator
  unfoldable pub index_behind : ℕ → Ty → ExprTree → List DiagOf → Checking Value
  index_behind at t y ds = and_then (typed site vs y ds) (λ w. as_value (done (index_on site at t w.0.ty w.1)))

  -- the operators of a chain behind its first operand, which has this type
  unfoldable pub linked : Ty → LinkTrees → List DiagOf → Checking Value
  linked t xs ds = as_value (links_typed site vs t xs ds)

  -- the operand of a cast to this type
  unfoldable pub cast_behind : ℕ → Ty → ExprTree → List DiagOf → Checking Value
  cast_behind at t x ds = and_then (typed site vs x ds) (λ v. as_value (cast_on site at t v.0.ty v.1))

  -- the second branch of a conditional, whose condition and first branch have these types
  unfoldable pub choice_behind : ℕ → Ty → Ty → ExprTree → List DiagOf → Checking Value
  choice_behind at c s z ds = and_then (typed site vs z ds) (λ w. as_value (choice_on site at c s w.0.ty w.1))

  -- the right side of an assignment, whose left side is this value
  unfoldable pub assign_behind : ℕ → ℕ → ℕ → Bool → Value → ExprTree → List DiagOf → Checking Value
  assign_behind at op place variable v y ds = and_then (typed site vs y ds) (λ w. as_value (assign_on site at op place variable v (start y) w.0.ty w.1))
