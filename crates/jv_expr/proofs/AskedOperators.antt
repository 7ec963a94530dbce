-- Operators ask queries of the layout, and have types of it.
use Rattle.std.proofs.Common.{◌≡◌, ◌==◌, ◌&&◌, ◌||◌, not, ℕ, Bool, true, false, cond, List, Option, Some, None, IfSome, refl, subst}
use Rattle.std.proofs.lemmas.Bool.{and_parts}
use Rattle.sg_base.specs.declared.scope.Scope.{Scope}
use Rattle.sg_base.proofs.Scopes.{scope_same}
use Rattle.sg_reading.specs.Reading.{done}
use Rattle.jv_diag.specs.Plain.{DiagOf}
use Rattle.jv_instance.specs.declared.ty.Ty.{Ty}
use Rattle.jv_instance.specs.declared.type_base.TypeBase.{TypeBase}
use Rattle.jv_instance.specs.declared.type_base.TypeBase.TheVariants.{Boolean, Char, Int, Long, Class, Null, Void, Bad}
use Rattle.jv_instance.specs.Types.{is_bad}
use Rattle.jv_layout.specs.Folder.{LayoutOf}
use Rattle.jv_layout.specs.Readers.{object_scope, string_scope}
use Rattle.jv_types.specs.Conversion.{SideOf, element, is_class, is_null, is_numeric, is_reference, is_subtype, is_type}
use Rattle.jv_types.specs.Operators.{are_boolean, are_comparable, are_joined, are_numeric, bad_type, binary_type, bitwise_type, boolean_type, conditional_type, is_arithmetic, is_bitwise, is_boolean, is_comparison, is_equality, is_logical, is_reference_or_null, is_shift, is_sign, is_step, is_string, is_void, plain, promoted, sum_type, unary_type, where_true, wider}
use Rattle.jv_names.specs.Bounds.{AsksIn, IsBaseIn, IsTyIn, IsTypeScope}
use Rattle.jv_expr.specs.declared.value.Value.{Value}
use Rattle.jv_expr.specs.Bounds.{IsAnything}
use Rattle.jv_expr.specs.Conversions.{Sides, bare_sides, sides}
use Rattle.jv_expr.specs.Operators.{assign_compound, assign_on, assign_plain, assigned_to, bad_for, binary_on, branch_sides, cast_on, casted, choice_by, choice_on, choice_text, choice_type, compares, compound_result, element_type, index_on, is_condition, is_open, may_cast, operand_sides, operated, operator_of, operator_type, or_refused, simply_assigned, unary_on, unless_faulty, with_cast, with_target}
use Rattle.jv_expr.specs.Site.{SiteOf}
use Rattle.jv_expr.proofs.AskedConversions.{AreSidesIn, assigned_asks, sides_asks}
use Rattle.jv_expr.proofs.AskedSteps.{First, cond_asks, cond_keeps, done_asks, then_asks}

-- ---- the types of operators

module _ (l : LayoutOf) where
  abbrev pub IsOptionIn : Option Ty → Type 0
  IsOptionIn o = IfSome o (IsTyIn l)

  promoted_in : (a b : Ty) → IsTyIn l (promoted a b)
  promoted_in a b = cond_keeps (IsTyIn l) _ (plain Long) (plain Int) tt tt

  where_in : (b : Bool) (t : Ty) → IsTyIn l t → IsOptionIn (where_true b t)
  where_in b t h = cond_keeps IsOptionIn b (Some t) None h tt

  pub unary_in : (op : ℕ) (t : Ty) → IsTyIn l t → IsOptionIn (unary_type op t)
  unary_in op t h =
      cond_keeps IsOptionIn (is_bad t) (Some bad_type) (cond (is_sign op) (where_true (is_numeric t) (promoted t t)) (cond (op == 15) (where_true (is_boolean t) boolean_type) (cond (is_step op) (where_true (is_numeric t) t) None))) tt
      (cond_keeps IsOptionIn (is_sign op) (where_true (is_numeric t) (promoted t t)) (cond (op == 15) (where_true (is_boolean t) boolean_type) (cond (is_step op) (where_true (is_numeric t) t) None)) (where_in (is_numeric t) (promoted t t) (promoted_in t t))
      (cond_keeps IsOptionIn (op == 15) (where_true (is_boolean t) boolean_type) (cond (is_step op) (where_true (is_numeric t) t) None) (where_in (is_boolean t) boolean_type tt)
      (cond_keeps IsOptionIn (is_step op) (where_true (is_numeric t) t) None (where_in (is_numeric t) t h) tt)))

  -- where a type is `String`, that is a class of the layout
  class_in : (string : Scope) (b : TypeBase) → IsBaseIn l b → is_class string b ≡ true → IsTypeScope l string
  class_in string (Class s) h e = subst (IsTypeScope l) (scope_same s string e) h
  class_in string Boolean h e = let k : false ≡ true = e in absurd (cc)
  class_in string Char h e = let k : false ≡ true = e in absurd (cc)
  class_in string Int h e = let k : false ≡ true = e in absurd (cc)
  class_in string Long h e = let k : false ≡ true = e in absurd (cc)
  class_in string Null h e = let k : false ≡ true = e in absurd (cc)
  class_in string Void h e = let k : false ≡ true = e in absurd (cc)
  class_in string Bad h e = let k : false ≡ true = e in absurd (cc)

  string_in : (string : Scope) (t : Ty) → IsTyIn l t → is_string string t ≡ true → IsTypeScope l string
  string_in string t h e = class_in string t.base h (and_parts (t.dims == 0) (is_class string t.base) e).1

  joined_by : (string : Scope) (a b : Ty) → IsTyIn l a → IsTyIn l b → (x y : Bool) → is_string string a && not (is_void b) ≡ x → is_string string b && not (is_void a) ≡ y → (x || y) ≡ true → IsTypeScope l string
  joined_by string a b h k true y e f g = string_in string a h (and_parts (is_string string a) (not (is_void b)) e).0
  joined_by string a b h k false true e f g = string_in string b k (and_parts (is_string string b) (not (is_void a)) f).0
  joined_by string a b h k false false e f g = let k : false ≡ true = g in absurd (cc)

  sum_by : (string : Scope) (a b : Ty) → IsTyIn l a → IsTyIn l b → (x : Bool) → are_joined string a b ≡ x → IsOptionIn (cond x (Some (plain (Class string))) (where_true (are_numeric a b) (promoted a b)))
  sum_by string a b h k true e = joined_by string a b h k (is_string string a && not (is_void b)) (is_string string b && not (is_void a)) refl refl e
  sum_by string a b h k false e = where_in (are_numeric a b) (promoted a b) (promoted_in a b)

  sum_in : (string : Scope) (a b : Ty) → IsTyIn l a → IsTyIn l b → IsOptionIn (sum_type string a b)
  sum_in string a b h k = sum_by string a b h k (are_joined string a b) refl

  bitwise_in : (a b : Ty) → IsOptionIn (bitwise_type a b)
  bitwise_in a b = cond_keeps IsOptionIn (are_boolean a b) (Some boolean_type) _ tt (where_in (are_numeric a b) (promoted a b) (promoted_in a b))

  module _ (op : ℕ) (a b : SideOf) (string object : Scope) (h : IsTyIn l a.ty) (k : IsTyIn l b.ty) where
    instances_in : IsOptionIn (cond (op == 153) (where_true (is_reference_or_null a.ty && is_reference b.ty) boolean_type) None)
    instances_in = cond_keeps IsOptionIn (op == 153) (where_true (is_reference_or_null a.ty && is_reference b.ty) boolean_type) None (where_in (is_reference_or_null a.ty && is_reference b.ty) boolean_type tt) tt

    logicals_in : IsOptionIn (cond (is_logical op) (where_true (are_boolean a.ty b.ty) boolean_type) (cond (op == 153) (where_true (is_reference_or_null a.ty && is_reference b.ty) boolean_type) None))
    logicals_in = cond_keeps IsOptionIn (is_logical op) (where_true (are_boolean a.ty b.ty) boolean_type) (cond (op == 153) (where_true (is_reference_or_null a.ty && is_reference b.ty) boolean_type) None) (where_in (are_boolean a.ty b.ty) boolean_type tt) instances_in

    bitwises_in : IsOptionIn (cond (is_bitwise op) (bitwise_type a.ty b.ty) (cond (is_logical op) (where_true (are_boolean a.ty b.ty) boolean_type) (cond (op == 153) (where_true (is_reference_or_null a.ty && is_reference b.ty) boolean_type) None)))
    bitwises_in = cond_keeps IsOptionIn (is_bitwise op) (bitwise_type a.ty b.ty) (cond (is_logical op) (where_true (are_boolean a.ty b.ty) boolean_type) (cond (op == 153) (where_true (is_reference_or_null a.ty && is_reference b.ty) boolean_type) None)) (bitwise_in a.ty b.ty) logicals_in

    equalities_in : IsOptionIn (cond (is_equality op) (where_true (are_comparable object a b) boolean_type) (cond (is_bitwise op) (bitwise_type a.ty b.ty) (cond (is_logical op) (where_true (are_boolean a.ty b.ty) boolean_type) (cond (op == 153) (where_true (is_reference_or_null a.ty && is_reference b.ty) boolean_type) None))))
    equalities_in = cond_keeps IsOptionIn (is_equality op) (where_true (are_comparable object a b) boolean_type) (cond (is_bitwise op) (bitwise_type a.ty b.ty) (cond (is_logical op) (where_true (are_boolean a.ty b.ty) boolean_type) (cond (op == 153) (where_true (is_reference_or_null a.ty && is_reference b.ty) boolean_type) None))) (where_in (are_comparable object a b) boolean_type tt) bitwises_in

    comparisons_in : IsOptionIn (cond (is_comparison op) (where_true (are_numeric a.ty b.ty) boolean_type) (cond (is_equality op) (where_true (are_comparable object a b) boolean_type) (cond (is_bitwise op) (bitwise_type a.ty b.ty) (cond (is_logical op) (where_true (are_boolean a.ty b.ty) boolean_type) (cond (op == 153) (where_true (is_reference_or_null a.ty && is_reference b.ty) boolean_type) None)))))
    comparisons_in = cond_keeps IsOptionIn (is_comparison op) (where_true (are_numeric a.ty b.ty) boolean_type) (cond (is_equality op) (where_true (are_comparable object a b) boolean_type) (cond (is_bitwise op) (bitwise_type a.ty b.ty) (cond (is_logical op) (where_true (are_boolean a.ty b.ty) boolean_type) (cond (op == 153) (where_true (is_reference_or_null a.ty && is_reference b.ty) boolean_type) None)))) (where_in (are_numeric a.ty b.ty) boolean_type tt) equalities_in

    shifts_in : IsOptionIn (cond (is_shift op) (where_true (are_numeric a.ty b.ty) (promoted a.ty a.ty)) (cond (is_comparison op) (where_true (are_numeric a.ty b.ty) boolean_type) (cond (is_equality op) (where_true (are_comparable object a b) boolean_type) (cond (is_bitwise op) (bitwise_type a.ty b.ty) (cond (is_logical op) (where_true (are_boolean a.ty b.ty) boolean_type) (cond (op == 153) (where_true (is_reference_or_null a.ty && is_reference b.ty) boolean_type) None))))))
    shifts_in = cond_keeps IsOptionIn (is_shift op) (where_true (are_numeric a.ty b.ty) (promoted a.ty a.ty)) (cond (is_comparison op) (where_true (are_numeric a.ty b.ty) boolean_type) (cond (is_equality op) (where_true (are_comparable object a b) boolean_type) (cond (is_bitwise op) (bitwise_type a.ty b.ty) (cond (is_logical op) (where_true (are_boolean a.ty b.ty) boolean_type) (cond (op == 153) (where_true (is_reference_or_null a.ty && is_reference b.ty) boolean_type) None))))) (where_in (are_numeric a.ty b.ty) (promoted a.ty a.ty) (promoted_in a.ty a.ty)) comparisons_in

    arithmetic_in : IsOptionIn (cond (is_arithmetic op) (where_true (are_numeric a.ty b.ty) (promoted a.ty b.ty)) (cond (is_shift op) (where_true (are_numeric a.ty b.ty) (promoted a.ty a.ty)) (cond (is_comparison op) (where_true (are_numeric a.ty b.ty) boolean_type) (cond (is_equality op) (where_true (are_comparable object a b) boolean_type) (cond (is_bitwise op) (bitwise_type a.ty b.ty) (cond (is_logical op) (where_true (are_boolean a.ty b.ty) boolean_type) (cond (op == 153) (where_true (is_reference_or_null a.ty && is_reference b.ty) boolean_type) None)))))))
    arithmetic_in = cond_keeps IsOptionIn (is_arithmetic op) (where_true (are_numeric a.ty b.ty) (promoted a.ty b.ty)) (cond (is_shift op) (where_true (are_numeric a.ty b.ty) (promoted a.ty a.ty)) (cond (is_comparison op) (where_true (are_numeric a.ty b.ty) boolean_type) (cond (is_equality op) (where_true (are_comparable object a b) boolean_type) (cond (is_bitwise op) (bitwise_type a.ty b.ty) (cond (is_logical op) (where_true (are_boolean a.ty b.ty) boolean_type) (cond (op == 153) (where_true (is_reference_or_null a.ty && is_reference b.ty) boolean_type) None)))))) (where_in (are_numeric a.ty b.ty) (promoted a.ty b.ty) (promoted_in a.ty b.ty)) shifts_in

    sums_in : IsOptionIn (cond (op == 28) (sum_type string a.ty b.ty) (cond (is_arithmetic op) (where_true (are_numeric a.ty b.ty) (promoted a.ty b.ty)) (cond (is_shift op) (where_true (are_numeric a.ty b.ty) (promoted a.ty a.ty)) (cond (is_comparison op) (where_true (are_numeric a.ty b.ty) boolean_type) (cond (is_equality op) (where_true (are_comparable object a b) boolean_type) (cond (is_bitwise op) (bitwise_type a.ty b.ty) (cond (is_logical op) (where_true (are_boolean a.ty b.ty) boolean_type) (cond (op == 153) (where_true (is_reference_or_null a.ty && is_reference b.ty) boolean_type) None))))))))
    sums_in = cond_keeps IsOptionIn (op == 28) (sum_type string a.ty b.ty) (cond (is_arithmetic op) (where_true (are_numeric a.ty b.ty) (promoted a.ty b.ty)) (cond (is_shift op) (where_true (are_numeric a.ty b.ty) (promoted a.ty a.ty)) (cond (is_comparison op) (where_true (are_numeric a.ty b.ty) boolean_type) (cond (is_equality op) (where_true (are_comparable object a b) boolean_type) (cond (is_bitwise op) (bitwise_type a.ty b.ty) (cond (is_logical op) (where_true (are_boolean a.ty b.ty) boolean_type) (cond (op == 153) (where_true (is_reference_or_null a.ty && is_reference b.ty) boolean_type) None))))))) (sum_in string a.ty b.ty h k) arithmetic_in

  pub binary_in : (op : ℕ) (a b : SideOf) (string object : Scope) → IsTyIn l a.ty → IsTyIn l b.ty → IsOptionIn (binary_type op a b string object)
  binary_in op a b string object h k = cond_keeps IsOptionIn (is_bad a.ty || is_bad b.ty) (Some bad_type) (cond (op == 28) (sum_type string a.ty b.ty) (cond (is_arithmetic op) (where_true (are_numeric a.ty b.ty) (promoted a.ty b.ty)) (cond (is_shift op) (where_true (are_numeric a.ty b.ty) (promoted a.ty a.ty)) (cond (is_comparison op) (where_true (are_numeric a.ty b.ty) boolean_type) (cond (is_equality op) (where_true (are_comparable object a b) boolean_type) (cond (is_bitwise op) (bitwise_type a.ty b.ty) (cond (is_logical op) (where_true (are_boolean a.ty b.ty) boolean_type) (cond (op == 153) (where_true (is_reference_or_null a.ty && is_reference b.ty) boolean_type) None)))))))) tt (sums_in op a b string object h k)

  wider_in : (a b : SideOf) (object : Scope) → IsTyIn l a.ty → IsTyIn l b.ty → IsOptionIn (wider a b object)
  wider_in a b object h k =
      cond_keeps IsOptionIn (is_reference b.ty && (is_null a.ty || is_subtype a.up object a.ty b.ty)) (Some b.ty) (cond (is_reference a.ty && (is_null b.ty || is_subtype b.up object b.ty a.ty)) (Some a.ty) None) k
      (cond_keeps IsOptionIn (is_reference a.ty && (is_null b.ty || is_subtype b.up object b.ty a.ty)) (Some a.ty) None h tt)

  conditional_in : (a b : SideOf) (object : Scope) → IsTyIn l a.ty → IsTyIn l b.ty → IsOptionIn (conditional_type a b object)
  conditional_in a b object h k =
      cond_keeps IsOptionIn (is_bad a.ty || is_bad b.ty) (Some bad_type) _ tt
      (cond_keeps IsOptionIn (is_void a.ty || is_void b.ty) None _ tt
      (cond_keeps IsOptionIn (is_type a.ty b.ty) (Some a.ty) _ h
      (cond_keeps IsOptionIn (are_numeric a.ty b.ty) (Some (promoted a.ty b.ty)) (wider a b object) (promoted_in a.ty b.ty) (wider_in a b object h k))))

-- ---- rules

module _ (site : SiteOf) (count : ℕ) where
  abbrev L : LayoutOf
  L = site.layout

  refused_in : (o : Option Ty) (at op : ℕ) (text : List ℕ) (ds : List DiagOf) → IsOptionIn L o → IsTyIn L (or_refused o site at op text ds).0
  refused_in (Some t) at op text ds h = h
  refused_in None at op text ds h = tt

  pub unless_in : (b : Bool) (t : Ty) → IsTyIn L t → IsTyIn L (unless_faulty b t)
  unless_in b t h = cond_keeps (IsTyIn L) b bad_type t tt h

  pub unary_on_in : (at op place : ℕ) (variable : Bool) (v : Value) (ds : List DiagOf) → IsTyIn L v.ty → First (IsTyIn L) (unary_on site at op place variable v ds)
  unary_on_in at op place variable v ds h =
      cond_keeps (First (IsTyIn L)) _ _ _ (unless_in (not (is_open variable v)) _ (refused_in (unary_type op v.ty) at op _ (with_target site place variable v ds) (unary_in L op v.ty h))) (refused_in (unary_type op v.ty) at op _ ds (unary_in L op v.ty h))

  pub index_on_in : (at : ℕ) (s t : Ty) (ds : List DiagOf) → IsTyIn L s → First (IsTyIn L) (index_on site at s t ds)
  index_on_in at s t ds h =
      refused_in (element_type s t) at 50 _ ds (cond_keeps (IsOptionIn L) (is_bad s || is_bad t) (Some bad_type) _ tt (cond_keeps (IsOptionIn L) _ (Some (element 1 s)) None h tt))

  operand_sides_asks : (op : ℕ) (s t : Ty) → IsTyIn L s → IsTyIn L t → AsksIn L count (AreSidesIn L count) (operand_sides site op s t)
  unfolding operand_sides
  operand_sides_asks op s t h k =
      cond_asks L count (AreSidesIn L count) (compares op) (sides L s t) (done (bare_sides L s t)) (sides_asks L count s t h k) (done_asks L count (AreSidesIn L count) (bare_sides L s t) (h, k))

  operator_in : (op : ℕ) (p : Sides) → AreSidesIn L count p → IsOptionIn L (operator_type site op p)
  operator_in op p e = binary_in L op p.0 p.1 (string_scope L) (object_scope L) e.0 e.1

  pub binary_asks : (at op : ℕ) (s t : Ty) (ds : List DiagOf) → IsTyIn L s → IsTyIn L t → AsksIn L count (First (IsTyIn L)) (binary_on site at op s t ds)
  unfolding binary_on
  binary_asks at op s t ds h k =
      then_asks L count (AreSidesIn L count) (First (IsTyIn L)) (operand_sides site op s t) (λ p. done (operated site at op p ds)) (operand_sides_asks op s t h k)
      (λ p e. done_asks L count (First (IsTyIn L)) (operated site at op p ds) (unless_in _ _ (refused_in (operator_type site op p) at op _ ds (operator_in op p e))))

  pub cast_asks : (at : ℕ) (t s : Ty) (ds : List DiagOf) → IsTyIn L t → IsTyIn L s → AsksIn L count (First (IsTyIn L)) (cast_on site at t s ds)
  unfolding cast_on
  cast_asks at t s ds h k =
      then_asks L count (AreSidesIn L count) (First (IsTyIn L)) (sides L s t) (λ p. done (casted site at p ds)) (sides_asks L count s t k h)
      (λ p e. done_asks L count (First (IsTyIn L)) (casted site at p ds) (unless_in _ _ e.1))

  bad_in : (o : Option Ty) → IsOptionIn L (bad_for o)
  bad_in None = tt
  bad_in (Some t) = tt

  choice_in : (c : Ty) (p : Sides) → AreSidesIn L count p → IsOptionIn L (choice_type site c p)
  choice_in c p e =
      let o : Option Ty = conditional_type p.0 p.1 (object_scope L) in
      let fits : IsOptionIn L o = conditional_in L p.0 p.1 (object_scope L) e.0 e.1 in
      let chosen : IsOptionIn L (cond (is_type c boolean_type) o None) = cond_keeps (IsOptionIn L) (is_type c boolean_type) o None fits tt in
      cond_keeps (IsOptionIn L) (is_bad p.0.ty || is_bad p.1.ty) (Some bad_type) (cond (is_bad c) (bad_for o) (cond (is_type c boolean_type) o None)) tt
      (cond_keeps (IsOptionIn L) (is_bad c) (bad_for o) (cond (is_type c boolean_type) o None) (bad_in o) chosen)

  branch_sides_asks : (c s t : Ty) → IsTyIn L s → IsTyIn L t → AsksIn L count (AreSidesIn L count) (branch_sides site c s t)
  unfolding branch_sides
  branch_sides_asks c s t h k =
      cond_asks L count (AreSidesIn L count) (is_condition c) (sides L s t) (done (bare_sides L s t)) (sides_asks L count s t h k) (done_asks L count (AreSidesIn L count) (bare_sides L s t) (h, k))

  pub choice_asks : (at : ℕ) (c s t : Ty) (ds : List DiagOf) → IsTyIn L s → IsTyIn L t → AsksIn L count (First (IsTyIn L)) (choice_on site at c s t ds)
  unfolding choice_on
  choice_asks at c s t ds h k =
      then_asks L count (AreSidesIn L count) (First (IsTyIn L)) (branch_sides site c s t) (λ p. done (choice_by site at c p ds)) (branch_sides_asks c s t h k)
      (λ p e. done_asks L count (First (IsTyIn L)) (choice_by site at c p ds) (refused_in (choice_type site c p) at 17 (choice_text site c p.0.ty p.1.ty) ds (choice_in c p e)))

  -- ---- assignments

  simply_asks : (at : ℕ) (s t : Ty) (ds : List DiagOf) → IsTyIn L t → AsksIn L count IsAnything (simply_assigned site at s t ds)
  simply_asks at s t ds h = cond_asks L count IsAnything (is_bad s) (done ds) (assigned_to site at t s ds) (done_asks L count IsAnything ds tt) (assigned_asks site count at t s ds h)

  plain_asks : (place : ℕ) (variable : Bool) (v : Value) (at : ℕ) (t : Ty) (ds : List DiagOf) → IsTyIn L v.ty → IsTyIn L t → AsksIn L count (First (IsTyIn L)) (assign_plain site place variable v at t ds)
  plain_asks place variable v at t ds h k =
      then_asks L count IsAnything (First (IsTyIn L)) (simply_assigned site at v.ty t (with_target site place variable v ds)) (λ ds. done (unless_faulty (not (is_open variable v)) v.ty, ds))
      (simply_asks at v.ty t (with_target site place variable v ds) k)
      (λ ds e. done_asks L count (First (IsTyIn L)) (unless_faulty (not (is_open variable v)) v.ty, ds) (unless_in (not (is_open variable v)) v.ty h))

  compound_asks : (at op : ℕ) (v : Value) (t : Ty) (o : Option Ty) (ds : List DiagOf) → IsTyIn L v.ty → IsOptionIn L o → AsksIn L count IsAnything (compound_result site at op v t o ds)
  compound_asks at op v t None ds h k = done_asks L count IsAnything _ tt
  compound_asks at op v t (Some r) ds h k =
      then_asks L count (AreSidesIn L count) IsAnything (sides L r v.ty) (λ p. done (may_cast site p, with_cast (may_cast site p) site at r v.ty ds)) (sides_asks L count r v.ty k h)
      (λ p e. done_asks L count IsAnything (may_cast site p, with_cast (may_cast site p) site at r v.ty ds) tt)

  operated_asks : (at op place : ℕ) (variable : Bool) (v : Value) (t : Ty) (ds : List DiagOf) → IsTyIn L v.ty → IsTyIn L t → AsksIn L count (First (IsTyIn L)) (assign_compound site at op place variable v t ds)
  operated_asks at op place variable v t ds h k =
      then_asks L count (AreSidesIn L count) (First (IsTyIn L)) (operand_sides site (operator_of op) v.ty t) _ (operand_sides_asks (operator_of op) v.ty t h k)
      (λ p e. then_asks L count IsAnything (First (IsTyIn L)) (compound_result site at op v t (operator_type site (operator_of op) p) (with_target site place variable v ds)) _ (compound_asks at op v t (operator_type site (operator_of op) p) (with_target site place variable v ds) h (operator_in (operator_of op) p e))
      (λ r f. done_asks L count (First (IsTyIn L)) (unless_faulty (not (is_open variable v && r.0)) v.ty, r.1) (unless_in (not (is_open variable v && r.0)) v.ty h)))

  pub assign_asks : (at op place : ℕ) (variable : Bool) (v : Value) (right : ℕ) (t : Ty) (ds : List DiagOf) → IsTyIn L v.ty → IsTyIn L t → AsksIn L count (First (IsTyIn L)) (assign_on site at op place variable v right t ds)
  unfolding assign_on
  assign_asks at op place variable v right t ds h k =
      cond_asks L count (First (IsTyIn L)) (op == 12) (assign_plain site place variable v right t ds) (assign_compound site at op place variable v t ds)
      (plain_asks place variable v right t ds h k) (operated_asks at op place variable v t ds h k)
