-- The tests of subtypes, assignment and casts are the relations.
use Rattle.std.proofs.Common.{◌≡◌, ℕ, zero, suc, ◌-◌, ◌<◌, ◌==◌, List, Bool, true, false, ◌&&◌, ◌||◌, not, nat_lt, IsTrue, ◌⊎◌, ◌↔◌, inl, inr, refl, sym, ap, ◌∙◌, subst, arith}
use Rattle.std.proofs.lemmas.Bool.Decides.{nat_tests}
use Rattle.std.proofs.lemmas.Bool.{eqb-true, ltb-true, lt-ltb}
use Rattle.sg_base.proofs.Scopes.{same_scope}
use Rattle.sg_base.specs.declared.scope.Scope.{Scope}
use Rattle.jv_instance.specs.declared.ty.Ty.{Ty}
use Rattle.jv_instance.specs.declared.type_base.TypeBase.{TypeBase}
use Rattle.jv_instance.specs.declared.type_base.TypeBase.TheVariants.{Boolean, Char, Int, Long, Class, Null, Void, Bad}
use Rattle.jv_instance.specs.Types.{is_bad_base, is_bad}
use Rattle.jv_types.proofs.Converting.{and_left, and_right, and_both, or_true, or_left, or_right, type_by, numeric_no_reference, null_no_reference, Below, below_from, below_to, Goes, goes_from, goes_to, widens_both}
use Rattle.jv_types.specs.Conversion.{is_class_base, is_reference, width, is_numeric, is_null_base, is_null, is_base, is_type, is_subtype, widens, is_assignable, SideOf, may_meet, either_way, element_side, are_castable_bare, lesser, are_castable}
use Rattle.jv_types.specs.Operators.{plain}
use Rattle.jv_types.specs.Relations.{array_of, IsNumeric, char_is_numeric, int_is_numeric, long_is_numeric, IsClassOrInterface, by_scope, IsReference, declared_is_reference, array_is_reference, IsSubtype, of_supertype, of_object, of_arrays, Widens, char_to_int, char_to_long, int_to_long, IsAssignable, to_itself, by_widening, to_supertype, of_null, of_bad, to_bad, array_side, IsCastable, to_assignable, from_assignable, of_numbers, to_interface, from_interface, of_interfaces, of_array_elements}

-- ---- kinds of types

-- a type by its parts
abbrev ty_of : TypeBase → ℕ → Ty
ty_of b n = record { base = b; dims = n }

-- a type without brackets
bare_is : (t : Ty) → t.dims ≡ 0 → plain t.base ≡ t
bare_is t e = type_by (plain t.base) t refl (sym e)

declared_base : (b : TypeBase) → IsTrue (is_class_base b) → IsClassOrInterface (plain b)
declared_base (Class c) h = by_scope
declared_base b h = absurd (cc)

declared_from : (t : Ty) → IsTrue (t.dims == 0) → IsTrue (is_class_base t.base) → IsClassOrInterface t
declared_from t d h = subst (λ (x : Ty). IsClassOrInterface x) (bare_is t (eqb-true t.dims 0 d)) (declared_base t.base h)

declared_to : (t : Ty) → IsClassOrInterface t → IsTrue (t.dims == 0) × IsTrue (is_class_base t.base)
declared_to t by_scope = (refl, refl)

reference_to : (t : Ty) → IsReference t → IsTrue (is_reference t)
reference_to t (declared_is_reference d) = or_right (nat_lt 0 t.dims) (is_class_base t.base) ((declared_to t d).1)
reference_to t (array_is_reference {t = s}) = or_left (nat_lt 0 (suc s.dims)) (is_class_base s.base) (lt-ltb 0 (suc s.dims) (omega arith))

reference_from : (b : TypeBase) (n : ℕ) → IsTrue (is_reference (ty_of b n)) → IsReference (ty_of b n)
reference_from b zero h = declared_is_reference (declared_base b h)
reference_from b (suc n) h = array_is_reference {t = ty_of b n}

numeric_to : (t : Ty) → IsNumeric t → IsTrue (is_numeric t)
numeric_to t char_is_numeric = refl
numeric_to t int_is_numeric = refl
numeric_to t long_is_numeric = refl

numeric_base : (b : TypeBase) → IsTrue (nat_lt 0 (width b)) → IsNumeric (plain b)
numeric_base Char h = char_is_numeric
numeric_base Int h = int_is_numeric
numeric_base Long h = long_is_numeric
numeric_base b h = absurd (cc)

numeric_from : (t : Ty) → IsTrue (is_numeric t) → IsNumeric t
numeric_from t h =
    subst (λ (x : Ty). IsNumeric x) (bare_is t (eqb-true t.dims 0 (and_left (t.dims == 0) (nat_lt 0 (width t.base)) h)))
    (numeric_base t.base (and_right (t.dims == 0) (nat_lt 0 (width t.base)) h))

null_base : (b : TypeBase) → IsTrue (is_null_base b) → b ≡ Null
null_base Null h = refl
null_base b h = absurd (cc)

null_from : (t : Ty) → IsTrue (is_null t) → plain Null ≡ t
null_from t h =
    sym (ap plain (null_base t.base (and_right (t.dims == 0) (is_null_base t.base) h)))
    ∙ bare_is t (eqb-true t.dims 0 (and_left (t.dims == 0) (is_null_base t.base) h))

bad_from : (b : TypeBase) → IsTrue (is_bad_base b) → b ≡ Bad
bad_from Bad h = refl
bad_from b h = absurd (cc)

bad_to : (b : TypeBase) → b ≡ Bad → IsTrue (is_bad_base b)
bad_to b e = subst (λ (x : TypeBase). IsTrue (is_bad_base x)) (sym e) refl

base_itself : (b : TypeBase) → IsTrue (is_base b b)
base_itself (Class c) = same_scope c c refl
base_itself Boolean = refl
base_itself Char = refl
base_itself Int = refl
base_itself Long = refl
base_itself Null = refl
base_itself Void = refl
base_itself Bad = refl

type_itself : (t : Ty) → IsTrue (is_type t t)
type_itself t = and_both (is_base t.base t.base) (t.dims == t.dims) (base_itself t.base) (grind (arith, nat_tests))

-- ---- subtypes

-- a subtype and its supertype are reference types
refers : (up : List Scope) (object : Scope) (s t : Ty) → IsSubtype up object s t → IsReference s × IsReference t
refers up object s t (of_supertype h) = (declared_is_reference by_scope, declared_is_reference by_scope)
refers up object s t of_object = (array_is_reference, declared_is_reference by_scope)
refers up object s t (of_arrays a b h) = (array_is_reference, array_is_reference)

below_more : (up : List Scope) (object : Scope) (s t : Ty) → Below up object s t → Below up object (array_of s) (array_of t)
unfolding Below
below_more up object s t (inl k) = inl (omega (arith, k.0), k.1)
below_more up object s t (inr k) = inr (ap suc k.0, k.1, k.2)

below_less : (up : List Scope) (object : Scope) (s t : Ty) → Below up object (array_of s) (array_of t) → Below up object s t
unfolding Below
below_less up object s t (inl k) = inl (omega (arith, k.0), k.1)
below_less up object s t (inr k) = inr (omega (arith, k.0), k.1, k.2)

subtype_below : (up : List Scope) (object : Scope) (s t : Ty) → IsSubtype up object s t → Below up object s t
unfolding Below
subtype_below up object s t (of_supertype {d = d} h) = inr (refl, refl, (d, refl, h))
subtype_below up object s t (of_object {t = x}) = inl (omega arith, refl)
subtype_below up object s t (of_arrays {s = x} {t = y} a b h) = below_more up object x y (subtype_below up object x y h)

-- of types without common brackets
below_bare : (up : List Scope) (object : Scope) (a b : TypeBase) (m : ℕ) → Below up object (ty_of a m) (plain b) → IsSubtype up object (ty_of a m) (plain b)
unfolding Below
below_bare up object a b zero (inl k) = absurd (omega (arith, k.0))
below_bare up object a b (suc m) (inl k) =
    subst (λ (x : TypeBase). IsSubtype up object (ty_of a (suc m)) (plain x)) (sym k.1) (of_object {t = ty_of a m})
below_bare up object (Class c) b zero (inr k) =
    subst (λ (x : TypeBase). IsSubtype up object (plain (Class c)) (plain x)) (sym k.2.1) (of_supertype k.2.2)
below_bare up object a b zero (inr k) = absurd (cc)
below_bare up object a b (suc m) (inr k) = absurd (omega (arith, k.0))

below_subtype : (up : List Scope) (object : Scope) (a b : TypeBase) (m n : ℕ) → Below up object (ty_of a m) (ty_of b n) → IsSubtype up object (ty_of a m) (ty_of b n)
unfolding Below
below_subtype up object a b m zero h = below_bare up object a b m h
below_subtype up object a b zero (suc n) h = absurd (too_few h)
  where
    too_few : Below up object (ty_of a zero) (ty_of b (suc n)) → ⊥
    too_few (inl k) = omega (arith, k.0)
    too_few (inr k) = omega (arith, k.0)
below_subtype up object a b (suc m) (suc n) h =
    let below : IsSubtype up object (ty_of a m) (ty_of b n) = below_subtype up object a b m n (below_less up object (ty_of a m) (ty_of b n) h) in
    of_arrays ((refers up object (ty_of a m) (ty_of b n) below).0) ((refers up object (ty_of a m) (ty_of b n) below).1) below

pub subtype_test : (up : List Scope) (object : Scope) (s t : Ty) → IsTrue (is_subtype up object s t) ↔ IsSubtype up object s t
subtype_test up object s t =
    (λ h. below_subtype up object s.base t.base s.dims t.dims (below_from up object s t h), λ h. below_to up object s t (subtype_below up object s t h))

-- ---- assignment

widens_to : (s t : Ty) → Widens s t → IsTrue (widens s t)
widens_to s t char_to_int = refl
widens_to s t char_to_long = refl
widens_to s t int_to_long = refl

widens_by : (s t : Ty) → IsNumeric s → IsNumeric t → width s.base < width t.base → Widens s t
widens_by s t char_is_numeric int_is_numeric l = char_to_int
widens_by s t char_is_numeric long_is_numeric l = char_to_long
widens_by s t int_is_numeric long_is_numeric l = int_to_long
widens_by s t long_is_numeric long_is_numeric l = absurd (omega (arith, l))
widens_by s t a b l = absurd (omega (arith, l))

widens_from : (s t : Ty) → IsTrue (widens s t) → Widens s t
widens_from s t h =
    let both : IsTrue (is_numeric s) × IsTrue (is_numeric t) × (width s.base < width t.base) = widens_both s t h in
    widens_by s t (numeric_from s both.0) (numeric_from t both.1) both.2

assignable_to : (up : List Scope) (object : Scope) (s t : Ty) → IsAssignable up object s t → IsTrue (is_assignable up object s t)
assignable_to up object s t to_itself = or_right (is_bad s || is_bad s) _ (or_left (is_type s s) _ (type_itself s))
assignable_to up object s t (by_widening w) = goes_to up object s t (inl (widens_to s t w))
assignable_to up object s t (to_supertype h) = goes_to up object s t (inr (inr (subtype_below up object s t h)))
assignable_to up object s t (of_null r) = goes_to up object (plain Null) t (inr (inl (refl, reference_to t r)))
assignable_to up object s t (of_bad e) = or_left (is_bad s || is_bad t) _ (or_left (is_bad s) (is_bad t) (bad_to s.base e))
assignable_to up object s t (to_bad e) = or_left (is_bad s || is_bad t) _ (or_right (is_bad s) (is_bad t) (bad_to t.base e))

goes_by : (up : List Scope) (object : Scope) (s t : Ty) → Goes up object s t → IsAssignable up object s t
unfolding Goes
goes_by up object s t (inl e) = subst (λ (x : Ty). IsAssignable up object s x) e to_itself
goes_by up object s t (inr (inl w)) = by_widening (widens_from s t w)
goes_by up object s t (inr (inr (inl n))) =
    subst (λ (x : Ty). IsAssignable up object x t) (null_from s n.0) (of_null (reference_from t.base t.dims n.1))
goes_by up object s t (inr (inr (inr b))) = to_supertype (below_subtype up object s.base t.base s.dims t.dims b)

assignable_from : (up : List Scope) (object : Scope) (s t : Ty) → IsTrue (is_assignable up object s t) → IsAssignable up object s t
assignable_from up object s t h =
    elim (or_true (is_bad s || is_bad t) _ h) [
      | inl b ↦ elim (or_true (is_bad s) (is_bad t) b) [ inl k ↦ of_bad (bad_from s.base k) | inr k ↦ to_bad (bad_from t.base k) ]
      | inr g ↦ goes_by up object s t (goes_from up object s t g)
    ]

pub assignable_test : (up : List Scope) (object : Scope) (s t : Ty) → IsTrue (is_assignable up object s t) ↔ IsAssignable up object s t
assignable_test up object s t = (assignable_from up object s t, assignable_to up object s t)

-- arrays are assignable as their elements are
array_assignable : (up : List Scope) (object : Scope) (s t : Ty) → IsReference s → IsReference t → IsAssignable up object s t → IsAssignable up object (array_of s) (array_of t)
array_assignable up object s t a b to_itself = to_itself
array_assignable up object s t a b (by_widening w) = absurd (numeric_no_reference s ((widens_both s t (widens_to s t w)).0) (reference_to s a))
array_assignable up object s t a b (to_supertype h) = to_supertype (of_arrays a b h)
array_assignable up object s t a b (of_null r) = absurd (null_no_reference (plain Null) refl (reference_to (plain Null) a))
array_assignable up object s t a b (of_bad e) = of_bad e
array_assignable up object s t a b (to_bad e) = to_bad e

-- ---- casts without common brackets

-- why two classes may meet, by whether each is an interface and final
Meet : (p q f g : Bool) → Type 0
Meet p q f g = (IsTrue p × IsTrue q) ⊎ (((p ≡ false) × (f ≡ false) × IsTrue q) ⊎ (IsTrue p × (q ≡ false) × (g ≡ false)))

meet_from : (p q f g : Bool) → IsTrue ((p || q) && ((p || not f) && (q || not g))) → Meet p q f g
unfolding Meet
meet_from true true f g h = inl (refl, refl)
meet_from false true false g h = inr (inl (refl, refl, refl))
meet_from true false f false h = inr (inr (refl, refl, refl))
meet_from p q f g h = absurd (cc)

meet_to : (p q f g : Bool) → Meet p q f g → IsTrue ((p || q) && ((p || not f) && (q || not g)))
unfolding Meet
meet_to true true f g h = refl
meet_to false true false g h = refl
meet_to true false f false h = refl
meet_to p q f g (inl k) = absurd (cc)
meet_to p q f g (inr (inl k)) = absurd (cc)
meet_to p q f g (inr (inr k)) = absurd (cc)

-- two classes or interfaces
Declared : SideOf → SideOf → Type 0
Declared a b = IsClassOrInterface a.ty × IsClassOrInterface b.ty

meet_by : (object : Scope) (a b : SideOf) → Declared a b → Meet a.interface b.interface a.is_final b.is_final → IsCastable object a b
unfolding Meet Declared
meet_by object a b d (inl k) =
    of_interfaces (record { declared = d.0; interface = k.0 }) (record { declared = d.1; interface = k.1 })
meet_by object a b d (inr (inl k)) =
    to_interface (record { declared = d.0; no_interface = k.0; not_final = k.1 }) (record { declared = d.1; interface = k.2 })
meet_by object a b d (inr (inr k)) =
    from_interface (record { declared = d.0; interface = k.0 }) (record { declared = d.1; no_interface = k.1; not_final = k.2 })

-- the test of two classes
abbrev classes_meet : SideOf → SideOf → Bool
classes_meet a b = ((a.ty.dims == 0) && (b.ty.dims == 0)) && ((is_class_base a.ty.base && is_class_base b.ty.base) && may_meet a b)

abbrev both_numeric : SideOf → SideOf → Bool
both_numeric a b = is_numeric a.ty && is_numeric b.ty

classes_by : (object : Scope) (a b : SideOf) → IsTrue (classes_meet a b) → IsCastable object a b
unfolding Declared
classes_by object a b h =
    let bare : IsTrue ((a.ty.dims == 0) && (b.ty.dims == 0)) = and_left _ _ h in
    let rest : IsTrue ((is_class_base a.ty.base && is_class_base b.ty.base) && may_meet a b) = and_right ((a.ty.dims == 0) && (b.ty.dims == 0)) _ h in
    let classes : IsTrue (is_class_base a.ty.base && is_class_base b.ty.base) = and_left (is_class_base a.ty.base && is_class_base b.ty.base) (may_meet a b) rest in
    let one : IsClassOrInterface a.ty = declared_from a.ty (and_left (a.ty.dims == 0) (b.ty.dims == 0) bare) (and_left (is_class_base a.ty.base) (is_class_base b.ty.base) classes) in
    let other : IsClassOrInterface b.ty = declared_from b.ty (and_right (a.ty.dims == 0) (b.ty.dims == 0) bare) (and_right (is_class_base a.ty.base) (is_class_base b.ty.base) classes) in
    meet_by object a b (one, other) (meet_from a.interface b.interface a.is_final b.is_final (and_right (is_class_base a.ty.base && is_class_base b.ty.base) (may_meet a b) rest))

classes_to : (a b : SideOf) → IsClassOrInterface a.ty → IsClassOrInterface b.ty → Meet a.interface b.interface a.is_final b.is_final → IsTrue (classes_meet a b)
classes_to a b c d m =
    let one : IsTrue (a.ty.dims == 0) × IsTrue (is_class_base a.ty.base) = declared_to a.ty c in
    let other : IsTrue (b.ty.dims == 0) × IsTrue (is_class_base b.ty.base) = declared_to b.ty d in
    and_both ((a.ty.dims == 0) && (b.ty.dims == 0)) _ (and_both (a.ty.dims == 0) (b.ty.dims == 0) one.0 other.0)
    (and_both (is_class_base a.ty.base && is_class_base b.ty.base) (may_meet a b) (and_both (is_class_base a.ty.base) (is_class_base b.ty.base) one.1 other.1)
    (meet_to a.interface b.interface a.is_final b.is_final m))

bare_from : (object : Scope) (a b : SideOf) → IsTrue (are_castable_bare object a b) → IsCastable object a b
bare_from object a b h =
    elim (or_true (either_way object a b) (both_numeric a b || classes_meet a b) h) [
      | inl e ↦ elim (or_true (is_assignable a.up object a.ty b.ty) (is_assignable b.up object b.ty a.ty) e) [
        | inl k ↦ to_assignable (assignable_from a.up object a.ty b.ty k)
        | inr k ↦ from_assignable (assignable_from b.up object b.ty a.ty k)
      ]
      | inr r ↦ elim (or_true (both_numeric a b) (classes_meet a b) r) [
        | inl n ↦ of_numbers (numeric_from a.ty (and_left (is_numeric a.ty) (is_numeric b.ty) n)) (numeric_from b.ty (and_right (is_numeric a.ty) (is_numeric b.ty) n))
        | inr k ↦ classes_by object a b k
      ]
    ]

either_to : (object : Scope) (a b : SideOf) → IsTrue (either_way object a b) → IsTrue (are_castable object a b)
either_to object a b h = or_left (are_castable_bare object a b) _ (or_left (either_way object a b) _ h)

bare_to : (object : Scope) (a b : SideOf) → IsTrue (both_numeric a b || classes_meet a b) → IsTrue (are_castable object a b)
bare_to object a b h = or_left (are_castable_bare object a b) _ (or_right (either_way object a b) _ h)

meeting_to : (object : Scope) (a b : SideOf) → IsClassOrInterface a.ty → IsClassOrInterface b.ty → Meet a.interface b.interface a.is_final b.is_final → IsTrue (are_castable object a b)
meeting_to object a b c d m = bare_to object a b (or_right (both_numeric a b) (classes_meet a b) (classes_to a b c d m))

-- ---- casts of arrays

-- two reference types that may be cast to one another though no more brackets are taken off
abbrev refer_and_cast : Scope → SideOf → SideOf → Bool
refer_and_cast object a b = (is_reference a.ty && is_reference b.ty) && are_castable_bare object a b

-- a side with so many brackets
abbrev with_dims : SideOf → ℕ → SideOf
with_dims a n = record { ty = ty_of a.ty.base n; up = a.up; interface = a.interface; is_final = a.is_final }

-- the second part of the test of casts: without the common brackets
abbrev cast_elements : Scope → SideOf → SideOf → Bool
cast_elements object a b = refer_and_cast object (element_side (lesser a.ty.dims b.ty.dims) a) (element_side (lesser a.ty.dims b.ty.dims) b)

-- by the numbers of brackets
same_cast : (object : Scope) (a b : SideOf) (i j m n : ℕ) → i ≡ j → m ≡ n → refer_and_cast object (with_dims a i) (with_dims b m) ≡ refer_and_cast object (with_dims a j) (with_dims b n)
same_cast object a b i j m n e d =
    ap (λ (x : ℕ). refer_and_cast object (with_dims a x) (with_dims b m)) e ∙ ap (λ (x : ℕ). refer_and_cast object (with_dims a j) (with_dims b x)) d

left_rest : (m n : ℕ) → suc m - lesser (suc m) (suc n) ≡ m - lesser m n
left_rest m n = grind (arith, nat_tests)

right_rest : (m n : ℕ) → suc n - lesser (suc m) (suc n) ≡ n - lesser m n
right_rest m n = grind (arith, nat_tests)

left_none : (m n : ℕ) → (m ≡ 0) ⊎ (n ≡ 0) → m - lesser m n ≡ m
left_none m n h = grind (arith, nat_tests)

right_none : (m n : ℕ) → (m ≡ 0) ⊎ (n ≡ 0) → n - lesser m n ≡ n
right_none m n h = grind (arith, nat_tests)

array_elements : (object : Scope) (a b : SideOf) → cast_elements object (array_side a) (array_side b) ≡ cast_elements object a b
array_elements object a b = same_cast object a b _ _ _ _ (left_rest a.ty.dims b.ty.dims) (right_rest a.ty.dims b.ty.dims)

no_elements : (object : Scope) (a b : SideOf) → (a.ty.dims ≡ 0) ⊎ (b.ty.dims ≡ 0) → cast_elements object a b ≡ refer_and_cast object a b
no_elements object a b h = same_cast object a b _ _ _ _ (left_none a.ty.dims b.ty.dims h) (right_none a.ty.dims b.ty.dims h)

-- the arrays may be cast too
arrays_to : (object : Scope) (a b : SideOf) → IsReference a.ty → IsReference b.ty → IsTrue (are_castable object a b) → IsTrue (are_castable object (array_side a) (array_side b))
arrays_to object a b c d h =
    elim (or_true (are_castable_bare object a b) (cast_elements object a b) h) [
      | inr k ↦ or_right (are_castable_bare object (array_side a) (array_side b)) _ (array_elements object a b ∙ k)
      | inl k ↦ elim (or_true (either_way object a b) (both_numeric a b || classes_meet a b) k) [
        | inl e ↦ either_to object (array_side a) (array_side b) (either e)
        | inr r ↦ elim (or_true (both_numeric a b) (classes_meet a b) r) [
          | inl n ↦ absurd (numeric_no_reference a.ty (and_left (is_numeric a.ty) (is_numeric b.ty) n) (reference_to a.ty c))
          | inr m ↦ or_right (are_castable_bare object (array_side a) (array_side b)) _ (array_elements object a b ∙ (no_elements object a b (inl (bare m)) ∙ here k))
        ]
      ]
    ]
  where
    either : IsTrue (either_way object a b) → IsTrue (either_way object (array_side a) (array_side b))
    either e =
        elim (or_true (is_assignable a.up object a.ty b.ty) (is_assignable b.up object b.ty a.ty) e) [
          | inl k ↦ or_left (is_assignable a.up object (array_of a.ty) (array_of b.ty)) _
              (assignable_to a.up object (array_of a.ty) (array_of b.ty) (array_assignable a.up object a.ty b.ty c d (assignable_from a.up object a.ty b.ty k)))
          | inr k ↦ or_right (is_assignable a.up object (array_of a.ty) (array_of b.ty)) _
              (assignable_to b.up object (array_of b.ty) (array_of a.ty) (array_assignable b.up object b.ty a.ty d c (assignable_from b.up object b.ty a.ty k)))
        ]

    bare : IsTrue (classes_meet a b) → a.ty.dims ≡ 0
    bare m = eqb-true a.ty.dims 0 (and_left (a.ty.dims == 0) (b.ty.dims == 0) (and_left ((a.ty.dims == 0) && (b.ty.dims == 0)) _ m))

    here : IsTrue (are_castable_bare object a b) → IsTrue (refer_and_cast object a b)
    here k = and_both (is_reference a.ty && is_reference b.ty) (are_castable_bare object a b) (and_both (is_reference a.ty) (is_reference b.ty) (reference_to a.ty c) (reference_to b.ty d)) k

castable_to : (object : Scope) (a b : SideOf) → IsCastable object a b → IsTrue (are_castable object a b)
unfolding Meet
castable_to object a b (to_assignable h) = either_to object a b (or_left (is_assignable a.up object a.ty b.ty) _ (assignable_to a.up object a.ty b.ty h))
castable_to object a b (from_assignable h) = either_to object a b (or_right (is_assignable a.up object a.ty b.ty) _ (assignable_to b.up object b.ty a.ty h))
castable_to object a b (of_numbers c d) =
    bare_to object a b (or_left (both_numeric a b) (classes_meet a b) (and_both (is_numeric a.ty) (is_numeric b.ty) (numeric_to a.ty c) (numeric_to b.ty d)))
castable_to object a b (to_interface c d) = meeting_to object a b c.declared d.declared (inr (inl (c.no_interface, c.not_final, d.interface)))
castable_to object a b (from_interface c d) = meeting_to object a b c.declared d.declared (inr (inr (c.interface, d.no_interface, d.not_final)))
castable_to object a b (of_interfaces c d) = meeting_to object a b c.declared d.declared (inl (c.interface, d.interface))
castable_to object a b (of_array_elements {a = x} {b = y} c d h) = arrays_to object x y c d (castable_to object x y h)

-- a type is a reference type where it is one without some brackets
more_refers : (b : TypeBase) (n k : ℕ) → IsTrue (is_reference (ty_of b (n - k))) → IsReference (ty_of b n)
more_refers b n k h =
    reference_from b n (elim (or_true (nat_lt 0 (n - k)) (is_class_base b) h) [
      | inl l ↦ or_left (nat_lt 0 n) (is_class_base b) (some l)
      | inr c ↦ or_right (nat_lt 0 n) (is_class_base b) c
    ])
  where
    some : IsTrue (nat_lt 0 (n - k)) → IsTrue (nat_lt 0 n)
    some l = (let more : 0 < n - k = ltb-true 0 (n - k) l in lt-ltb 0 n (omega arith))

-- where one side has no brackets none are taken off
castable_bare : (object : Scope) (a b : SideOf) → (a.ty.dims ≡ 0) ⊎ (b.ty.dims ≡ 0) → IsTrue (are_castable object a b) → IsCastable object a b
castable_bare object a b none h =
    elim (or_true (are_castable_bare object a b) (cast_elements object a b) h) [
      | inl k ↦ bare_from object a b k
      | inr k ↦ bare_from object a b (and_right (is_reference a.ty && is_reference b.ty) (are_castable_bare object a b) (sym (no_elements object a b none) ∙ k))
    ]

castable_by : (object : Scope) (a b : SideOf) (m n : ℕ) → IsTrue (are_castable object (with_dims a m) (with_dims b n)) → IsCastable object (with_dims a m) (with_dims b n)
castable_by object a b zero n h = castable_bare object (with_dims a zero) (with_dims b n) (inl refl) h
castable_by object a b (suc m) zero h = castable_bare object (with_dims a (suc m)) (with_dims b zero) (inr refl) h
castable_by object a b (suc m) (suc n) h =
    elim (or_true (are_castable_bare object (with_dims a (suc m)) (with_dims b (suc n))) (cast_elements object (with_dims a (suc m)) (with_dims b (suc n))) h) [
      | inl k ↦ bare_from object (with_dims a (suc m)) (with_dims b (suc n)) k
      | inr k ↦ of_array_elements (left (less k)) (right (less k)) (castable_by object a b m n (or_right (are_castable_bare object (with_dims a m) (with_dims b n)) _ (less k)))
    ]
  where
    less : IsTrue (cast_elements object (with_dims a (suc m)) (with_dims b (suc n))) → IsTrue (cast_elements object (with_dims a m) (with_dims b n))
    less k = sym (array_elements object (with_dims a m) (with_dims b n)) ∙ k

    both : IsTrue (cast_elements object (with_dims a m) (with_dims b n)) → IsTrue (is_reference (ty_of a.ty.base (m - lesser m n)) && is_reference (ty_of b.ty.base (n - lesser m n)))
    both k = and_left (is_reference (ty_of a.ty.base (m - lesser m n)) && is_reference (ty_of b.ty.base (n - lesser m n))) _ k

    left : IsTrue (cast_elements object (with_dims a m) (with_dims b n)) → IsReference (ty_of a.ty.base m)
    left k = more_refers a.ty.base m (lesser m n) (and_left (is_reference (ty_of a.ty.base (m - lesser m n))) (is_reference (ty_of b.ty.base (n - lesser m n))) (both k))

    right : IsTrue (cast_elements object (with_dims a m) (with_dims b n)) → IsReference (ty_of b.ty.base n)
    right k = more_refers b.ty.base n (lesser m n) (and_right (is_reference (ty_of a.ty.base (m - lesser m n))) (is_reference (ty_of b.ty.base (n - lesser m n))) (both k))

pub castable_test : (object : Scope) (a b : SideOf) → IsTrue (are_castable object a b) ↔ IsCastable object a b
castable_test object a b = (castable_by object a b a.ty.dims b.ty.dims, castable_to object a b)
