-- Expressions ask queries of the layout, and have types of it.
use Rattle.std.proofs.Common.{◌≡◌, ◌==◌, ◌+◌, ℕ, Bool, true, false, cond, List, [], ◌++◌, Option, Some, None, IfSome, refl}
use Rattle.std.proofs.lemmas.List.Elements.{All-nil, All-push}
use Rattle.sg_base.specs.declared.scope.Scope.{Scope}
use Rattle.sg_reading.specs.Reading.{done}
use Rattle.jv_diag.specs.Plain.{DiagOf}
use Rattle.jv_instance.specs.declared.ty.Ty.{Ty}
use Rattle.jv_instance.specs.declared.type_base.TypeBase.TheVariants.{Class, Bad}
use Rattle.jv_layout.specs.Fits.{is_type}
use Rattle.jv_layout.specs.Folder.{LayoutOf}
use Rattle.jv_layout.specs.Readers.{string_scope}
use Rattle.jv_layout.specs.Scopes.{place_of}
use Rattle.jv_tree.specs.declared.name.Ident.{Ident}
use Rattle.jv_tree.specs.ExprTree.{ExprTree, KindTree, expr, int, long, char, str, bool, null, this, name, field, super_field, call, index, new, new_array, new_list, pre, post, chain, cast, choice, assign, bare, on, super, OperandTree, operand, of_type, InitTree, one, list, ExprTrees, no_exprs, exprs, InitTrees, no_inits, inits, LinkTrees, no_links, links, expr_count}
use Rattle.jv_tree.specs.TypeTree.{TypeTree}
use Rattle.jv_tree.specs.Numbered.{AreNumberedExprs, AreNumberedInits, AreNumberedLinks, IsNumberedExpr, IsNumberedInit, IsNumberedKind, IsNumberedName, IsNumberedOperand, IsNumberedType}
use Rattle.jv_names.specs.declared.context.Context.TheVariants.{TypeName}
use Rattle.jv_types.specs.Operators.{bad_type}
use Rattle.jv_names.specs.declared.reference.Reference.{Reference}
use Rattle.jv_names.specs.Bounds.{AsksIn, IsBaseIn, IsReferenceIn, IsTyIn, IsWrittenIn}
use Rattle.jv_names.specs.Reference.{reference, reference_diags}
use Rattle.jv_names.specs.Written.{start_of}
use Rattle.jv_names.specs.WrittenTypes.{written_type}
use Rattle.jv_names.proofs.Bounds.{reference_stays, written_types_stay_in}
use Rattle.jv_expr.specs.declared.argument.Argument.{Argument}
use Rattle.jv_expr.specs.declared.front.Front.TheVariants.{Value as ValueFront}
use Rattle.jv_expr.specs.declared.local.Local.{Local}
use Rattle.jv_expr.specs.declared.value.Value.{Value}
use Rattle.jv_expr.specs.Bounds.{IsAnything, IsSiteIn}
use Rattle.jv_expr.specs.Calls.{bare_call, front_call, new_meant, super_call}
use Rattle.jv_expr.specs.Checking.{Checking}
use Rattle.jv_expr.specs.Operators.{assign_on, cast_on, choice_on, index_on, unary_on, value, with_size}
use Rattle.jv_expr.specs.Site.{SiteOf, has_this}
use Rattle.jv_expr.specs.Typed.{arguments_typed, as_value, element_needed, front_by, init_typed, inits_typed, is_this, is_variable, link_typed, links_typed, named_at, plain_name, plain_name_at, sizes_typed, start, string_type, this_value, typed, with_argument, with_dims, with_list, written_at}
use Rattle.jv_expr.proofs.AskedCalls.{AreArgumentsIn, IsArgumentIn, IsFirstTyIn, bare_call_asks, front_call_asks, new_meant_asks, super_call_asks, super_field_asks}
use Rattle.jv_expr.proofs.AskedConversions.{assigned_asks}
use Rattle.jv_expr.proofs.AskedFields.{IsFirstValueIn, field_on_asks}
use Rattle.jv_expr.proofs.AskedOperators.{assign_asks, binary_asks, cast_asks, choice_asks, index_on_in, unary_on_in}
use Rattle.jv_expr.proofs.AskedSteps.{cond_keeps, done_asks, of_names, then_asks}
use Rattle.jv_expr.proofs.AskedVariables.{AreLocalsIn, IsFirstFrontIn, name_front_asks, name_value_asks}

-- ---- parts

-- a class by its name with diagnostics is one of the layout
abbrev pub IsFirstReferenceIn : LayoutOf → Reference × List DiagOf → Type 0
IsFirstReferenceIn l p = IsReferenceIn l TypeName p.0

abbrev pub AreFirstArgumentsIn : LayoutOf → List Argument × List DiagOf → Type 0
AreFirstArgumentsIn l p = AreArgumentsIn l p.0

module _ (count : ℕ) where
  abbrev IsNameIn : Option (List Ident) → Type 0
  IsNameIn o = IfSome o (IsNumberedName count)

  plain_name_in : (at : ℕ) (k : KindTree) → IsNumberedKind count k → IsNameIn (plain_name_at at k)
  plain_name_in at (name ids) n = cond_keeps IsNameIn (at == start_of ids) (Some ids) None n tt
  plain_name_in at int n = tt
  plain_name_in at long n = tt
  plain_name_in at char n = tt
  plain_name_in at str n = tt
  plain_name_in at (bool b) n = tt
  plain_name_in at null n = tt
  plain_name_in at this n = tt
  plain_name_in at (field x i) n = tt
  plain_name_in at (super_field i) n = tt
  plain_name_in at (call t i xs) n = tt
  plain_name_in at (index x y) n = tt
  plain_name_in at (new ids xs) n = tt
  plain_name_in at (new_array t xs) n = tt
  plain_name_in at (new_list t xs) n = tt
  plain_name_in at (pre p op x) n = tt
  plain_name_in at (post p op x) n = tt
  plain_name_in at (chain x xs) n = tt
  plain_name_in at (cast t x) n = tt
  plain_name_in at (choice x y z) n = tt
  plain_name_in at (assign p op x y) n = tt

  named_so : (x : ExprTree) → IsNumberedExpr count x → IsNameIn (plain_name x)
  named_so (expr at k) n = plain_name_in at k n

cleaned : (l : LayoutOf) (b : Bool) (s : Scope) → is_type (place_of l s) ≡ b → IsBaseIn l (cond b (Class s) Bad)
cleaned l true s e = e
cleaned l false s e = tt

module _ (site : SiteOf) (count : ℕ) (is : IsSiteIn count site) where
  abbrev L : LayoutOf
  L = site.layout

  abbrev V : Value × List DiagOf → Type 0
  V = IsFirstValueIn L

  abbrev T : Ty × List DiagOf → Type 0
  T = IsFirstTyIn L

  string_type_in : IsTyIn L (string_type site)
  string_type_in = cleaned L (is_type (place_of L (string_scope L))) (string_scope L) refl

  this_in : (at : ℕ) (ds : List DiagOf) → V (this_value site at ds)
  this_in at ds = cond_keeps V (has_this site) _ _ is.class tt

  as_value_asks : (r : Checking Ty) → AsksIn L count T r → AsksIn L count V (as_value r)
  as_value_asks r h = then_asks L count T V r (λ t. done (value t.0, t.1)) h (λ t e. done_asks L count V (value t.0, t.1) e)

  pub written_at_asks : (t : TypeTree) (ds : List DiagOf) → IsNumberedType count t → AsksIn L count T (written_at site t ds)
  written_at_asks t ds n =
      then_asks L count (IsWrittenIn L) T (written_type L site.names site.file site.bodies t) (λ w. done (w.ty, ds ++ w.diags))
      (of_names L count (IsWrittenIn L) (written_type L site.names site.file site.bodies t) (written_types_stay_in L count site.names site.file site.bodies t is.named is.file is.bodies n))
      (λ w e. done_asks L count T (w.ty, ds ++ w.diags) e)

  named_at_asks : (ids : List Ident) (ds : List DiagOf) → IsNumberedName count ids → AsksIn L count (IsFirstReferenceIn L) (named_at site ids ds)
  named_at_asks ids ds n =
      then_asks L count (IsReferenceIn L TypeName) (IsFirstReferenceIn L) (reference L site.file site.bodies ids) (λ r. done (r, ds ++ reference_diags L site.names site.file ids r))
      (of_names L count (IsReferenceIn L TypeName) (reference L site.file site.bodies ids) (reference_stays L count is.named site.file site.bodies ids is.file is.bodies n))
      (λ r e. done_asks L count (IsFirstReferenceIn L) (r, ds ++ reference_diags L site.names site.file ids r) e)

  module _ (vs : List Local) (locals : AreLocalsIn L vs) where
    front_by_asks : (o : Option (List Ident)) (r : Checking Value) (ds : List DiagOf) → IfSome o (IsNumberedName count) → AsksIn L count V r → AsksIn L count (IsFirstFrontIn L) (front_by site vs o r ds)
    front_by_asks None r ds n h = then_asks L count V (IsFirstFrontIn L) r (λ v. done (ValueFront v.0, v.1)) h (λ v e. done_asks L count (IsFirstFrontIn L) (ValueFront v.0, v.1) e)
    front_by_asks (Some ids) r ds n h = name_front_asks site count is vs ids ds locals n

    mutual
      pub typed_asks : (x : ExprTree) (ds : List DiagOf) → IsNumberedExpr count x → AsksIn L count V (typed site vs x ds)
      typed_asks (expr at int) ds n = done_asks L count V _ tt
      typed_asks (expr at long) ds n = done_asks L count V _ tt
      typed_asks (expr at char) ds n = done_asks L count V _ tt
      typed_asks (expr at str) ds n = done_asks L count V _ string_type_in
      typed_asks (expr at (bool b)) ds n = done_asks L count V _ tt
      typed_asks (expr at null) ds n = done_asks L count V _ tt
      typed_asks (expr at this) ds n = done_asks L count V (this_value site at ds) (this_in at ds)
      typed_asks (expr at (name ids)) ds n = name_value_asks site count is vs ids ds locals n
      typed_asks (expr at (field x i)) ds n =
          then_asks L count V V (typed site vs x ds) _ (typed_asks x ds n.0) (λ v e. field_on_asks site count is (is_this x) v.0.ty i v.1 e n.1)
      typed_asks (expr at (super_field i)) ds n = super_field_asks site count is at i ds n
      typed_asks (expr at (call bare i xs)) ds n =
          then_asks L count (AreFirstArgumentsIn L) V (arguments_typed site vs xs [] ds) _ (arguments_asks xs [] ds (All-nil (IsArgumentIn L)) n.2)
          (λ as' e. as_value_asks (bare_call site i as'.0 as'.1) (bare_call_asks site count is as'.0 e i as'.1 n.1))
      typed_asks (expr at (call (on x) i xs)) ds n =
          then_asks L count (IsFirstFrontIn L) V (front_by site vs (plain_name x) (typed site vs x ds) ds) _ (front_by_asks (plain_name x) (typed site vs x ds) ds (named_so count x n.0) (typed_asks x ds n.0))
          (λ f e. then_asks L count (AreFirstArgumentsIn L) V (arguments_typed site vs xs [] f.1) _ (arguments_asks xs [] f.1 (All-nil (IsArgumentIn L)) n.2)
          (λ as' k. as_value_asks (front_call site f.0 i as'.0 as'.1) (front_call_asks site count is as'.0 k f.0 i as'.1 e n.1)))
      typed_asks (expr at (call super i xs)) ds n =
          then_asks L count (AreFirstArgumentsIn L) V (arguments_typed site vs xs [] ds) _ (arguments_asks xs [] ds (All-nil (IsArgumentIn L)) n.2)
          (λ as' e. as_value_asks (super_call site at i as'.0 as'.1) (super_call_asks site count is as'.0 e at i as'.1 n.1))
      typed_asks (expr at (index x y)) ds n =
          then_asks L count V V (typed site vs x ds) _ (typed_asks x ds n.0) (λ v e. then_asks L count V V (typed site vs y v.1) _ (typed_asks y v.1 n.1)
          (λ w f. as_value_asks (done (index_on site at v.0.ty w.0.ty w.1)) (done_asks L count T (index_on site at v.0.ty w.0.ty w.1) (index_on_in site count at v.0.ty w.0.ty w.1 e))))
      typed_asks (expr at (new ids xs)) ds n =
          then_asks L count (IsFirstReferenceIn L) V (named_at site ids ds) _ (named_at_asks ids ds n.0)
          (λ r e. then_asks L count (AreFirstArgumentsIn L) V (arguments_typed site vs xs [] r.1) _ (arguments_asks xs [] r.1 (All-nil (IsArgumentIn L)) n.1)
          (λ as' k. as_value_asks (new_meant site r.0.meaning (start_of ids) as'.0 as'.1) (new_meant_asks site count is as'.0 k r.0.meaning (start_of ids) as'.1 e.meaning)))
      typed_asks (expr at (new_array t xs)) ds n =
          then_asks L count T V (written_at site t ds) _ (written_at_asks t ds n.0)
          (λ w e. then_asks L count IsAnything V (sizes_typed site vs xs w.1) _ (sizes_asks xs w.1 n.1) (λ ds u. done_asks L count V (value (with_dims (expr_count xs) w.0), ds) (cond_keeps (IsTyIn L) _ (record { base = w.0.base; dims = w.0.dims + expr_count xs }) bad_type e tt)))
      typed_asks (expr at (new_list t xs)) ds n =
          then_asks L count T V (written_at site t ds) _ (written_at_asks t ds n.0)
          (λ w e. then_asks L count IsAnything V (inits_typed site vs (element_needed w.0) xs w.1) _ (inits_asks (element_needed w.0) xs w.1 n.1) (λ ds u. done_asks L count V (value w.0, ds) e))
      typed_asks (expr at (pre place op x)) ds n =
          then_asks L count V V (typed site vs x ds) _ (typed_asks x ds n)
          (λ v e. as_value_asks (done (unary_on site place op (start x) (is_variable x) v.0 v.1)) (done_asks L count T (unary_on site place op (start x) (is_variable x) v.0 v.1) (unary_on_in site count place op (start x) (is_variable x) v.0 v.1 e)))
      typed_asks (expr at (post place op x)) ds n =
          then_asks L count V V (typed site vs x ds) _ (typed_asks x ds n)
          (λ v e. as_value_asks (done (unary_on site place op (start x) (is_variable x) v.0 v.1)) (done_asks L count T (unary_on site place op (start x) (is_variable x) v.0 v.1) (unary_on_in site count place op (start x) (is_variable x) v.0 v.1 e)))
      typed_asks (expr at (chain x xs)) ds n =
          then_asks L count V V (typed site vs x ds) _ (typed_asks x ds n.0) (λ v e. as_value_asks (links_typed site vs v.0.ty xs v.1) (links_asks v.0.ty xs v.1 e n.1))
      typed_asks (expr at (cast t x)) ds n =
          then_asks L count T V (written_at site t ds) _ (written_at_asks t ds n.0) (λ w e. then_asks L count V V (typed site vs x w.1) _ (typed_asks x w.1 n.1)
          (λ v f. as_value_asks (cast_on site at w.0 v.0.ty v.1) (cast_asks site count at w.0 v.0.ty v.1 e f)))
      typed_asks (expr at (choice x y z)) ds n =
          then_asks L count V V (typed site vs x ds) _ (typed_asks x ds n.0) (λ u e. then_asks L count V V (typed site vs y u.1) _ (typed_asks y u.1 n.1)
          (λ v f. then_asks L count V V (typed site vs z v.1) _ (typed_asks z v.1 n.2)
          (λ w g. as_value_asks (choice_on site at u.0.ty v.0.ty w.0.ty w.1) (choice_asks site count at u.0.ty v.0.ty w.0.ty w.1 f g))))
      typed_asks (expr at (assign place op x y)) ds n =
          then_asks L count V V (typed site vs x ds) _ (typed_asks x ds n.0) (λ v e. then_asks L count V V (typed site vs y v.1) _ (typed_asks y v.1 n.1)
          (λ w f. as_value_asks (assign_on site place op (start x) (is_variable x) v.0 (start y) w.0.ty w.1) (assign_asks site count place op (start x) (is_variable x) v.0 (start y) w.0.ty w.1 e f)))

      pub arguments_asks : (xs : ExprTrees) (as' : List Argument) (ds : List DiagOf) → AreArgumentsIn L as' → AreNumberedExprs count xs → AsksIn L count (AreFirstArgumentsIn L) (arguments_typed site vs xs as' ds)
      arguments_asks no_exprs as' ds h n = done_asks L count (AreFirstArgumentsIn L) (as', ds) h
      arguments_asks (exprs x xs) as' ds h n =
          then_asks L count V (AreFirstArgumentsIn L) (typed site vs x ds) _ (typed_asks x ds n.0)
          (λ v e. arguments_asks xs (with_argument as' (start x) v.0) v.1 (All-push (IsArgumentIn L) as' (record { at = start x; ty = v.0.ty }) h e) n.1)

      sizes_asks : (xs : ExprTrees) (ds : List DiagOf) → AreNumberedExprs count xs → AsksIn L count IsAnything (sizes_typed site vs xs ds)
      sizes_asks no_exprs ds n = done_asks L count IsAnything ds tt
      sizes_asks (exprs x xs) ds n =
          then_asks L count V IsAnything (typed site vs x ds) _ (typed_asks x ds n.0) (λ v e. sizes_asks xs (with_size site (start x) v.0.ty v.1) n.1)

      links_asks : (t : Ty) (xs : LinkTrees) (ds : List DiagOf) → IsTyIn L t → AreNumberedLinks count xs → AsksIn L count T (links_typed site vs t xs ds)
      links_asks t no_links ds h n = done_asks L count T (t, ds) h
      links_asks t (links at op x xs) ds h n = then_asks L count T T (link_typed site vs t at op x ds) _ (link_asks t at op x ds h n.0) (λ u e. links_asks u.0 xs u.1 e n.1)

      link_asks : (t : Ty) (at op : ℕ) (x : OperandTree) (ds : List DiagOf) → IsTyIn L t → IsNumberedOperand count x → AsksIn L count T (link_typed site vs t at op x ds)
      link_asks t at op (operand x) ds h n = then_asks L count V T (typed site vs x ds) _ (typed_asks x ds n) (λ v e. binary_asks site count at op t v.0.ty v.1 h e)
      link_asks t at op (of_type u) ds h n = then_asks L count T T (written_at site u ds) _ (written_at_asks u ds n) (λ w e. binary_asks site count at op t w.0 w.1 h e)

      pub init_asks : (t : Ty) (x : InitTree) (ds : List DiagOf) → IsNumberedInit count x → AsksIn L count IsAnything (init_typed site vs t x ds)
      init_asks t (one x) ds n = then_asks L count V IsAnything (typed site vs x ds) _ (typed_asks x ds n) (λ v e. assigned_asks site count (start x) v.0.ty t v.1 e)
      init_asks t (list at xs) ds n = inits_asks (element_needed t) xs (with_list site at t ds) n

      inits_asks : (t : Ty) (xs : InitTrees) (ds : List DiagOf) → AreNumberedInits count xs → AsksIn L count IsAnything (inits_typed site vs t xs ds)
      inits_asks t no_inits ds n = done_asks L count IsAnything ds tt
      inits_asks t (inits x xs) ds n = then_asks L count IsAnything IsAnything (init_typed site vs t x ds) _ (init_asks t x ds n.0) (λ ds e. inits_asks t xs ds n.1)
