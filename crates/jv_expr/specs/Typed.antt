-- The value that each expression is, and its diagnostics (JLS 15).
use Rattle.std.specs.Prelude.{ℕ, ◌+◌, ◌==◌, ◌&&◌, ◌||◌, not, nat_le, nat_lt, Bool, true, false, cond, List, [], ◌∷◌, ◌++◌, Option, None, Some, codes}
use Rattle.sg_reading.specs.Reading.{done, and_then}
use Rattle.jv_diag.specs.declared.codes.TheConstants.{NO_INSTANCE, OTHER_TYPE}
use Rattle.jv_diag.specs.Plain.{DiagOf}
use Rattle.jv_instance.specs.declared.ty.Ty.{Ty}
use Rattle.jv_instance.specs.declared.type_base.TypeBase.TheVariants.{Boolean, Char, Int, Long, Class, Null}
use Rattle.jv_instance.specs.Types.{is_bad}
use Rattle.jv_layout.specs.Readers.{string_scope}
use Rattle.jv_tree.specs.declared.name.Ident.{Ident}
use Rattle.jv_tree.specs.ExprTree.{ExprTree, KindTree, expr, int, long, char, str, bool, null, this, name, field, super_field, call, index, new, new_array, new_list, pre, post, chain, cast, choice, assign, bare, on, super, OperandTree, operand, of_type, InitTree, one, list, ExprTrees, no_exprs, exprs, InitTrees, no_inits, inits, LinkTrees, no_links, links, expr_count}
use Rattle.jv_tree.specs.TypeTree.{TypeTree}
use Rattle.jv_types.specs.Conversion.{element}
use Rattle.jv_types.specs.Operators.{bad_type, plain}
use Rattle.jv_names.specs.declared.reference.Reference.{Reference}
use Rattle.jv_names.specs.Read.{ty_in}
use Rattle.jv_names.specs.Reference.{reference, reference_diags}
use Rattle.jv_names.specs.Replies.{Rule}
use Rattle.jv_names.specs.Written.{start_of}
use Rattle.jv_names.specs.WrittenTypes.{written_type}
use Rattle.jv_expr.specs.declared.argument.Argument.{Argument}
use Rattle.jv_expr.specs.declared.front.Front.{Front}
use Rattle.jv_expr.specs.declared.front.Front.TheVariants.{Value as ValueFront}
use Rattle.jv_expr.specs.declared.local.Local.{Local}
use Rattle.jv_expr.specs.declared.value.Value.{Value}
use Rattle.jv_expr.specs.Calls.{bare_call, front_call, new_meant, super_call, super_field as field_above}
use Rattle.jv_expr.specs.Checking.{Checking}
use Rattle.jv_expr.specs.Fields.{field_on}
use Rattle.jv_expr.specs.Operators.{assign_on, assigned_to, bad_value, binary_on, cast_on, choice_on, index_on, unary_on, value, with_size}
use Rattle.jv_expr.specs.Site.{SiteOf, has_this, type_text, with_fault}
use Rattle.jv_expr.specs.Variables.{name_front, name_value}

-- ---- forms

-- an expression that may be a variable by its form: a name, a field, or an element of an array
abbrev pub is_variable_kind : KindTree → Bool
is_variable_kind (name ids) = true
is_variable_kind (field x i) = true
is_variable_kind (super_field i) = true
is_variable_kind (index x y) = true
is_variable_kind int = false
is_variable_kind long = false
is_variable_kind char = false
is_variable_kind str = false
is_variable_kind (bool b) = false
is_variable_kind null = false
is_variable_kind this = false
is_variable_kind (call t i xs) = false
is_variable_kind (new ids xs) = false
is_variable_kind (new_array t xs) = false
is_variable_kind (new_list t xs) = false
is_variable_kind (pre at op x) = false
is_variable_kind (post at op x) = false
is_variable_kind (chain x xs) = false
is_variable_kind (cast t x) = false
is_variable_kind (choice x y z) = false
is_variable_kind (assign at op x y) = false

-- an expression may be a variable by its form
abbrev pub is_variable : ExprTree → Bool
is_variable (expr at k) = is_variable_kind k

-- where an expression starts
abbrev pub start : ExprTree → ℕ
start (expr at k) = at

-- `this`
abbrev pub is_this_kind : KindTree → Bool
is_this_kind this = true
is_this_kind int = false
is_this_kind long = false
is_this_kind char = false
is_this_kind str = false
is_this_kind (bool b) = false
is_this_kind null = false
is_this_kind (name ids) = false
is_this_kind (field x i) = false
is_this_kind (super_field i) = false
is_this_kind (call t i xs) = false
is_this_kind (index x y) = false
is_this_kind (new ids xs) = false
is_this_kind (new_array t xs) = false
is_this_kind (new_list t xs) = false
is_this_kind (pre at op x) = false
is_this_kind (post at op x) = false
is_this_kind (chain x xs) = false
is_this_kind (cast t x) = false
is_this_kind (choice x y z) = false
is_this_kind (assign at op x y) = false

-- an expression is `this`
abbrev pub is_this : ExprTree → Bool
is_this (expr at k) = is_this_kind k

-- the identifiers of a name at its own offset: one in parentheses starts before its name
abbrev pub plain_name_at : ℕ → KindTree → Option (List Ident)
plain_name_at at (name ids) = cond (at == start_of ids) (Some ids) None
plain_name_at at int = None
plain_name_at at long = None
plain_name_at at char = None
plain_name_at at str = None
plain_name_at at (bool b) = None
plain_name_at at null = None
plain_name_at at this = None
plain_name_at at (field x i) = None
plain_name_at at (super_field i) = None
plain_name_at at (call t i xs) = None
plain_name_at at (index x y) = None
plain_name_at at (new ids xs) = None
plain_name_at at (new_array t xs) = None
plain_name_at at (new_list t xs) = None
plain_name_at at (pre at' op x) = None
plain_name_at at (post at' op x) = None
plain_name_at at (chain x xs) = None
plain_name_at at (cast t x) = None
plain_name_at at (choice x y z) = None
plain_name_at at (assign at' op x y) = None

-- the identifiers of an expression that is a name without parentheses
abbrev pub plain_name : ExprTree → Option (List Ident)
plain_name (expr at k) = plain_name_at at k

-- ---- values without parts

-- a type as a value that is no variable
abbrev pub as_value : Checking Ty → Checking Value
as_value r = and_then r (λ t. done (value t.0, t.1))

-- `this` stands where there is an instance of the innermost body (JLS 15.8.3)
abbrev pub this_value : SiteOf → ℕ → List DiagOf → Value × List DiagOf
this_value site at ds = cond (has_this site) (value (plain (Class site.class)), ds) (bad_value, with_fault site at NO_INSTANCE (codes "this" ∷ []) ds)

-- the class `String`; where the layout has none, a bad type
abbrev pub string_type : SiteOf → Ty
string_type site = ty_in site.layout (plain (Class (string_scope site.layout)))

-- a type that is written at the place
abbrev pub written_at : SiteOf → TypeTree → List DiagOf → Checking Ty
written_at site t ds = and_then (written_type site.layout site.names site.file site.bodies t) (λ w. done (w.ty, ds ++ w.diags))

-- a class by its name at the place
abbrev pub named_at : SiteOf → List Ident → List DiagOf → Checking Reference
named_at site ids ds = and_then (reference site.layout site.file site.bodies ids) (λ r. done (r, ds ++ reference_diags site.layout site.names site.file ids r))

-- with so many pairs of brackets more; no type has more than 255
abbrev pub with_dims : ℕ → Ty → Ty
with_dims n t = cond (nat_le (t.dims + n) 255) (record { base = t.base; dims = t.dims + n }) bad_type

-- ---- arguments, fronts and lists

-- one argument more
abbrev pub with_argument : List Argument → ℕ → Value → List Argument
with_argument as' at v = as' ++ record { at = at; ty = v.ty } ∷ []

-- what stands in front of the dot of a call: a name without parentheses may be that of a type
abbrev pub front_by : SiteOf → List Local → Option (List Ident) → Checking Value → List DiagOf → Checking Front
front_by site vs None r ds = and_then r (λ v. done (ValueFront v.0, v.1))
front_by site vs (Some ids) r ds = name_front site vs ids ds

-- what the elements of a list are assigned to: those of an array type have its element type; else nothing is asked of them
abbrev pub element_needed : Ty → Ty
element_needed t = cond (nat_lt 0 t.dims && not (is_bad t)) (element 1 t) bad_type

-- a list stands where no array is needed
abbrev pub with_list : SiteOf → ℕ → Ty → List DiagOf → List DiagOf
with_list site at t ds = cond (is_bad t || nat_lt 0 t.dims) ds (with_fault site at OTHER_TYPE (codes "list" ∷ type_text site t ∷ []) ds)

abbrev mutual
  -- the value of an expression among the local variables in scope, behind the diagnostics so far
  pub typed : SiteOf → List Local → ExprTree → List DiagOf → Checking Value
  typed site vs (expr at int) ds = done (value (plain Int), ds)
  typed site vs (expr at long) ds = done (value (plain Long), ds)
  typed site vs (expr at char) ds = done (value (plain Char), ds)
  typed site vs (expr at str) ds = done (value (string_type site), ds)
  typed site vs (expr at (bool b)) ds = done (value (plain Boolean), ds)
  typed site vs (expr at null) ds = done (value (plain Null), ds)
  typed site vs (expr at this) ds = done (this_value site at ds)
  typed site vs (expr at (name ids)) ds = name_value site vs ids ds
  typed site vs (expr at (field x i)) ds = and_then (typed site vs x ds) (λ v. field_on site (is_this x) v.0.ty i v.1)
  typed site vs (expr at (super_field i)) ds = field_above site at i ds
  typed site vs (expr at (call bare i xs)) ds = and_then (arguments_typed site vs xs [] ds) (λ as'. as_value (bare_call site i as'.0 as'.1))
  typed site vs (expr at (call (on x) i xs)) ds =
      and_then (front_by site vs (plain_name x) (typed site vs x ds) ds) (λ f. and_then (arguments_typed site vs xs [] f.1) (λ as'. as_value (front_call site f.0 i as'.0 as'.1)))
  typed site vs (expr at (call super i xs)) ds = and_then (arguments_typed site vs xs [] ds) (λ as'. as_value (super_call site at i as'.0 as'.1))
  typed site vs (expr at (index x y)) ds = and_then (typed site vs x ds) (λ v. and_then (typed site vs y v.1) (λ w. as_value (done (index_on site at v.0.ty w.0.ty w.1))))
  typed site vs (expr at (new ids xs)) ds =
      and_then (named_at site ids ds) (λ r. and_then (arguments_typed site vs xs [] r.1) (λ as'. as_value (new_meant site r.0.meaning (start_of ids) as'.0 as'.1)))
  typed site vs (expr at (new_array t xs)) ds = and_then (written_at site t ds) (λ w. and_then (sizes_typed site vs xs w.1) (λ ds. done (value (with_dims (expr_count xs) w.0), ds)))
  typed site vs (expr at (new_list t xs)) ds = and_then (written_at site t ds) (λ w. and_then (inits_typed site vs (element_needed w.0) xs w.1) (λ ds. done (value w.0, ds)))
  typed site vs (expr at (pre place op x)) ds = and_then (typed site vs x ds) (λ v. as_value (done (unary_on site place op (start x) (is_variable x) v.0 v.1)))
  typed site vs (expr at (post place op x)) ds = and_then (typed site vs x ds) (λ v. as_value (done (unary_on site place op (start x) (is_variable x) v.0 v.1)))
  typed site vs (expr at (chain x xs)) ds = and_then (typed site vs x ds) (λ v. as_value (links_typed site vs v.0.ty xs v.1))
  typed site vs (expr at (cast t x)) ds = and_then (written_at site t ds) (λ w. and_then (typed site vs x w.1) (λ v. as_value (cast_on site at w.0 v.0.ty v.1)))
  typed site vs (expr at (choice x y z)) ds =
      and_then (typed site vs x ds) (λ u. and_then (typed site vs y u.1) (λ v. and_then (typed site vs z v.1) (λ w. as_value (choice_on site at u.0.ty v.0.ty w.0.ty w.1))))
  typed site vs (expr at (assign place op x y)) ds =
      and_then (typed site vs x ds) (λ v. and_then (typed site vs y v.1) (λ w. as_value (assign_on site place op (start x) (is_variable x) v.0 (start y) w.0.ty w.1)))

  -- arguments, behind those so far
  pub arguments_typed : SiteOf → List Local → ExprTrees → List Argument → List DiagOf → Checking (List Argument)
  arguments_typed site vs no_exprs as' ds = done (as', ds)
  arguments_typed site vs (exprs x xs) as' ds = and_then (typed site vs x ds) (λ v. arguments_typed site vs xs (with_argument as' (start x) v.0) v.1)

  -- the sizes of an array
  pub sizes_typed : SiteOf → List Local → ExprTrees → List DiagOf → Rule (List DiagOf)
  sizes_typed site vs no_exprs ds = done ds
  sizes_typed site vs (exprs x xs) ds = and_then (typed site vs x ds) (λ v. sizes_typed site vs xs (with_size site (start x) v.0.ty v.1))

  -- the operators of a chain behind an operand of this type
  pub links_typed : SiteOf → List Local → Ty → LinkTrees → List DiagOf → Checking Ty
  links_typed site vs t no_links ds = done (t, ds)
  links_typed site vs t (links at op x xs) ds = and_then (link_typed site vs t at op x ds) (λ u. links_typed site vs u.0 xs u.1)

  -- one operator of a chain, at an offset, with an operand of this type before it and an operand or a type behind it
  pub link_typed : SiteOf → List Local → Ty → ℕ → ℕ → OperandTree → List DiagOf → Checking Ty
  link_typed site vs t at op (operand x) ds = and_then (typed site vs x ds) (λ v. binary_on site at op t v.0.ty v.1)
  link_typed site vs t at op (of_type u) ds = and_then (written_at site u ds) (λ w. binary_on site at op t w.0 w.1)

  -- an initializer of a variable of this type (JLS 10.6, 14.4)
  pub init_typed : SiteOf → List Local → Ty → InitTree → List DiagOf → Rule (List DiagOf)
  init_typed site vs t (one x) ds = and_then (typed site vs x ds) (λ v. assigned_to site (start x) v.0.ty t v.1)
  init_typed site vs t (list at xs) ds = inits_typed site vs (element_needed t) xs (with_list site at t ds)

  -- the initializers of a list, each of a variable of this type
  pub inits_typed : SiteOf → List Local → Ty → InitTrees → List DiagOf → Rule (List DiagOf)
  inits_typed site vs t no_inits ds = done ds
  inits_typed site vs t (inits x xs) ds = and_then (init_typed site vs t x ds) (λ ds. inits_typed site vs t xs ds)
