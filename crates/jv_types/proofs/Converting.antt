-- What may be assigned to what may be assigned.
use Rattle.std.proofs.Common.{◌≡◌, ℕ, ◌==◌, ◌<◌, List, [], ◌∷◌, Bool, true, false, ◌&&◌, ◌||◌, nat_lt, IsTrue, cond, ◌⊎◌, inl, inr, refl, sym, ap, ◌∙◌, subst, arith}
use Rattle.std.proofs.lemmas.Bool.Decides.{nat_tests}
use Rattle.std.proofs.lemmas.Bool.{eqb-true, ltb-true, eq-eqb, lt-ltb}
use Rattle.std.proofs.lemmas.Map.Views.{Contains-from_any}
use Rattle.std.specs.List.{Contains, list_any}
use Rattle.sg_base.proofs.Finite.{Contains-cons, nothing_in}
use Rattle.sg_base.proofs.Scopes.{scope_same, same_scope}
use Rattle.sg_base.specs.Scope.{is_scope}
use Rattle.sg_base.specs.declared.scope.Scope.{Scope}
use Rattle.jv_instance.specs.declared.ty.Ty.{Ty}
use Rattle.jv_instance.specs.declared.type_base.TypeBase.{TypeBase}
use Rattle.jv_instance.specs.declared.type_base.TypeBase.TheVariants.{Boolean, Char, Int, Long, Class, Null, Void, Bad}
use Rattle.jv_instance.specs.Types.{is_bad}
use Rattle.jv_types.specs.Conversion.{is_class_base, is_reference, width, is_numeric, is_null_base, is_null, is_base, is_type, is_above, is_class, is_subtype, widens, is_assignable}
use Rattle.jv_types.specs.Law.{HoldsItself, ArePassedOn}

-- ---- tests of two parts

pub and_left : (a b : Bool) → IsTrue (a && b) → IsTrue a
and_left true b h = refl
and_left false b h = h

pub and_right : (a b : Bool) → IsTrue (a && b) → IsTrue b
and_right true b h = h
and_right false b h = absurd (cc)

pub and_both : (a b : Bool) → IsTrue a → IsTrue b → IsTrue (a && b)
and_both true b h k = k
and_both false b h k = h

pub or_true : (a b : Bool) → IsTrue (a || b) → IsTrue a ⊎ IsTrue b
or_true true b h = inl refl
or_true false b h = inr h

pub or_left : (a b : Bool) → IsTrue a → IsTrue (a || b)
or_left true b h = refl
or_left false b h = absurd (cc)

pub or_right : (a b : Bool) → IsTrue b → IsTrue (a || b)
or_right true b h = refl
or_right false b h = h

-- ---- bases

base_same : (a b : TypeBase) → IsTrue (is_base a b) → a ≡ b
base_same (Class a) (Class b) h = ap Class (scope_same a b h)
base_same Boolean Boolean h = refl
base_same Char Char h = refl
base_same Int Int h = refl
base_same Long Long h = refl
base_same Null Null h = refl
base_same Void Void h = refl
base_same Bad Bad h = refl
base_same a b h = absurd (cc)

-- a base that is this class
class_is : (object : Scope) (b : TypeBase) → IsTrue (is_class object b) → b ≡ Class object
class_is object (Class s) h = ap Class (scope_same s object h)
class_is object b h = absurd (cc)

is_the_class : (object : Scope) (b : TypeBase) → b ≡ Class object → IsTrue (is_class object b)
is_the_class object b e = subst (λ (c : TypeBase). IsTrue (is_class object c)) (sym e) (same_scope object object refl)

-- a base among the supertypes
above_is : (up : List Scope) (b : TypeBase) → IsTrue (is_above up b) → (c : Scope) × (b ≡ Class c) × Contains up c
above_is up (Class s) h = (s, refl, Contains-from_any scope_same s up h)
above_is up b h = absurd (cc)

any_has : (c : Scope) (up : List Scope) → Contains up c → IsTrue (list_any (is_scope c) up)
any_has c [] h = absurd (nothing_in c h)
any_has c (x ∷ xs) h =
    elim (Contains-cons x c xs h) [
      | inl e ↦ or_left (is_scope c x) (list_any (is_scope c) xs) (same_scope c x e)
      | inr k ↦ or_right (is_scope c x) (list_any (is_scope c) xs) (any_has c xs k)
    ]

is_above_by : (up : List Scope) (b : TypeBase) (c : Scope) → b ≡ Class c → Contains up c → IsTrue (is_above up b)
is_above_by up b c e h = subst (λ (x : TypeBase). IsTrue (is_above up x)) (sym e) (any_has c up h)

no_width : (b : TypeBase) → IsTrue (is_class_base b) → IsTrue (nat_lt 0 (width b)) → ⊥
no_width (Class s) h k = cc
no_width b h k = cc

null_no_class : (b : TypeBase) → IsTrue (is_class_base b) → IsTrue (is_null_base b) → ⊥
null_no_class (Class s) h k = cc
null_no_class b h k = cc

null_no_width : (b : TypeBase) → IsTrue (is_null_base b) → IsTrue (nat_lt 0 (width b)) → ⊥
null_no_width Null h k = cc
null_no_width b h k = cc

-- ---- types

pub type_by : (a b : Ty) → a.base ≡ b.base → a.dims ≡ b.dims → a ≡ b
type_by a b e d =
    ap (λ (x : TypeBase). let r : Ty = record { base = x; dims = a.dims } in r) e ∙ ap (λ (n : ℕ). let r : Ty = record { base = b.base; dims = n } in r) d

type_same : (a b : Ty) → IsTrue (is_type a b) → a ≡ b
type_same a b h =
    type_by a b (base_same a.base b.base (and_left (is_base a.base b.base) (a.dims == b.dims) h))
    (eqb-true a.dims b.dims (and_right (is_base a.base b.base) (a.dims == b.dims) h))

-- a type is a reference type where its base is a class
class_refers : (t : Ty) → IsTrue (is_class_base t.base) → IsTrue (is_reference t)
class_refers t h = or_right (nat_lt 0 t.dims) (is_class_base t.base) h

-- numeric types and `null` are no reference types
pub numeric_no_reference : (t : Ty) → IsTrue (is_numeric t) → IsTrue (is_reference t) → ⊥
numeric_no_reference t n r =
    let bare : t.dims ≡ 0 = eqb-true t.dims 0 (and_left (t.dims == 0) (nat_lt 0 (width t.base)) n) in
    elim (or_true (nat_lt 0 t.dims) (is_class_base t.base) r) [
      | inl d ↦ (let more : 0 < t.dims = ltb-true 0 t.dims d in omega arith)
      | inr k ↦ no_width t.base k (and_right (t.dims == 0) (nat_lt 0 (width t.base)) n)
    ]

pub null_no_reference : (t : Ty) → IsTrue (is_null t) → IsTrue (is_reference t) → ⊥
null_no_reference t n r =
    let bare : t.dims ≡ 0 = eqb-true t.dims 0 (and_left (t.dims == 0) (is_null_base t.base) n) in
    elim (or_true (nat_lt 0 t.dims) (is_class_base t.base) r) [
      | inl d ↦ (let more : 0 < t.dims = ltb-true 0 t.dims d in omega arith)
      | inr k ↦ null_no_class t.base k (and_right (t.dims == 0) (is_null_base t.base) n)
    ]

null_no_numeric : (t : Ty) → IsTrue (is_null t) → IsTrue (is_numeric t) → ⊥
null_no_numeric t n w =
    null_no_width t.base (and_right (t.dims == 0) (is_null_base t.base) n) (and_right (t.dims == 0) (nat_lt 0 (width t.base)) w)

-- ---- subtypes in words

-- an array with more brackets than `Object`, or a class below another with as many
unfoldable pub Below : List Scope → Scope → Ty → Ty → Type 0
Below up object s t = (t.dims < s.dims × (t.base ≡ Class object)) ⊎ (s.dims ≡ t.dims × IsTrue (is_class_base s.base) × ((c : Scope) × (t.base ≡ Class c) × Contains up c))

cond_cases : (test a b : Bool) → IsTrue (cond test a b) → (IsTrue test × IsTrue a) ⊎ IsTrue b
cond_cases true a b h = inl (refl, h)
cond_cases false a b h = inr h

pub below_from : (up : List Scope) (object : Scope) (s t : Ty) → IsTrue (is_subtype up object s t) → Below up object s t
unfolding Below
below_from up object s t h =
    elim (cond_cases (nat_lt t.dims s.dims) (is_class object t.base) ((s.dims == t.dims) && (is_class_base s.base && is_above up t.base)) h) [
      | inl k ↦ inl (ltb-true t.dims s.dims k.0, class_is object t.base k.1)
      | inr k ↦
          (let parts : IsTrue (is_class_base s.base && is_above up t.base) = and_right (s.dims == t.dims) (is_class_base s.base && is_above up t.base) k in
          inr (
            eqb-true s.dims t.dims (and_left (s.dims == t.dims) (is_class_base s.base && is_above up t.base) k),
            and_left (is_class_base s.base) (is_above up t.base) parts,
            above_is up t.base (and_right (is_class_base s.base) (is_above up t.base) parts),
          ))
    ]

first_case : (test a b : Bool) → IsTrue test → IsTrue a → IsTrue (cond test a b)
first_case true a b h k = k
first_case false a b h k = absurd (cc)

second_case : (test a b : Bool) → test ≡ false → IsTrue b → IsTrue (cond test a b)
second_case true a b h k = absurd (cc)
second_case false a b h k = k

pub below_to : (up : List Scope) (object : Scope) (s t : Ty) → Below up object s t → IsTrue (is_subtype up object s t)
unfolding Below
below_to up object s t (inl k) = first_case (nat_lt t.dims s.dims) (is_class object t.base) _ (lt-ltb t.dims s.dims k.0) (is_the_class object t.base k.1)
below_to up object s t (inr k) =
    let no_more : nat_lt t.dims s.dims ≡ false = not_less t.dims s.dims (sym k.0) in
    second_case (nat_lt t.dims s.dims) (is_class object t.base) ((s.dims == t.dims) && (is_class_base s.base && is_above up t.base)) no_more
    (and_both (s.dims == t.dims) (is_class_base s.base && is_above up t.base) (eq-eqb s.dims t.dims k.0)
    (and_both (is_class_base s.base) (is_above up t.base) k.1 (is_above_by up t.base k.2.0 k.2.1 k.2.2)))
  where
    not_less : (m n : ℕ) → m ≡ n → nat_lt m n ≡ false
    not_less m n e = grind (arith, nat_tests)

-- what is above a subtype is a reference type
below_refers : (up : List Scope) (object : Scope) (s t : Ty) → Below up object s t → IsTrue (is_reference t)
unfolding Below
below_refers up object s t (inl k) = class_refers t (subst (λ (b : TypeBase). IsTrue (is_class_base b)) (sym k.1) refl)
below_refers up object s t (inr k) = class_refers t (subst (λ (b : TypeBase). IsTrue (is_class_base b)) (sym k.2.1) refl)

-- what is below a subtype is a reference type
below_referred : (up : List Scope) (object : Scope) (s t : Ty) → Below up object s t → IsTrue (is_reference s)
unfolding Below
below_referred up object s t (inl k) = or_left (nat_lt 0 s.dims) (is_class_base s.base) (lt-ltb 0 s.dims (omega (arith, k.0)))
below_referred up object s t (inr k) = class_refers s k.1

-- subtypes of subtypes
below_below : (up_s up_t : List Scope) (object : Scope) (s t u : Ty) → ArePassedOn object up_s t up_t → Below up_s object s t → Below up_t object t u → Below up_s object s u
unfolding Below
below_below up_s up_t object s t u p (inl k) (inl m) = inl (omega (arith, k.0, m.0), m.1)
below_below up_s up_t object s t u p (inl k) (inr m) =
    inl (omega (arith, k.0, m.0), m.2.1 ∙ ap Class (p.top k.1 m.2.0 m.2.2))
below_below up_s up_t object s t u p (inr k) (inl m) = inl (omega (arith, k.0, m.0), m.1)
below_below up_s up_t object s t u p (inr k) (inr m) =
    inr (k.0 ∙ m.0, k.1, (m.2.0, m.2.1, p.passed k.2.0 m.2.0 k.2.1 k.2.2 m.2.2))

-- what is above a type by the supertypes of one is above it by those of the other
below_again : (up_s up_t : List Scope) (object : Scope) (s u : Ty) → HoldsItself up_s s → ArePassedOn object up_s s up_t → Below up_t object s u → Below up_s object s u
unfolding Below
below_again up_s up_t object s u own p (inl m) = inl m
below_again up_s up_t object s u own p (inr m) =
    let c : (c : Scope) × (s.base ≡ Class c) = class_of s.base m.1 in
    inr (m.0, m.1, (m.2.0, m.2.1, p.passed c.0 m.2.0 c.1 (own c.0 c.1) m.2.2))
  where
    class_of : (b : TypeBase) → IsTrue (is_class_base b) → (c : Scope) × (b ≡ Class c)
    class_of (Class s) h = (s, refl)
    class_of b h = absurd (cc)

-- ---- assignment in words

-- why one type may be assigned to another where neither is bad
unfoldable pub Goes : List Scope → Scope → Ty → Ty → Type 0
Goes up object s t = (s ≡ t) ⊎ (IsTrue (widens s t) ⊎ ((IsTrue (is_null s) × IsTrue (is_reference t)) ⊎ Below up object s t))

pub goes_from : (up : List Scope) (object : Scope) (s t : Ty) → IsTrue (is_type s t || (widens s t || ((is_null s && is_reference t) || is_subtype up object s t))) → Goes up object s t
unfolding Goes
goes_from up object s t h =
    elim (or_true (is_type s t) (widens s t || ((is_null s && is_reference t) || is_subtype up object s t)) h) [
      | inl e ↦ inl (type_same s t e)
      | inr k ↦ elim (or_true (widens s t) ((is_null s && is_reference t) || is_subtype up object s t) k) [
        | inl w ↦ inr (inl w)
        | inr m ↦ elim (or_true (is_null s && is_reference t) (is_subtype up object s t) m) [
          | inl n ↦ inr (inr (inl (and_left (is_null s) (is_reference t) n, and_right (is_null s) (is_reference t) n)))
          | inr b ↦ inr (inr (inr (below_from up object s t b)))
        ]
      ]
    ]

pub goes_to : (up : List Scope) (object : Scope) (s t : Ty) → IsTrue (widens s t) ⊎ ((IsTrue (is_null s) × IsTrue (is_reference t)) ⊎ Below up object s t) → IsTrue (is_assignable up object s t)
goes_to up object s t g =
    or_right (is_bad s || is_bad t) _ (or_right (is_type s t) _ (reasons g))
  where
    reasons : IsTrue (widens s t) ⊎ ((IsTrue (is_null s) × IsTrue (is_reference t)) ⊎ Below up object s t) → IsTrue (widens s t || ((is_null s && is_reference t) || is_subtype up object s t))
    reasons (inl w) = or_left (widens s t) ((is_null s && is_reference t) || is_subtype up object s t) w
    reasons (inr (inl n)) = or_right (widens s t) ((is_null s && is_reference t) || is_subtype up object s t) (or_left (is_null s && is_reference t) (is_subtype up object s t) (and_both (is_null s) (is_reference t) n.0 n.1))
    reasons (inr (inr b)) = or_right (widens s t) ((is_null s && is_reference t) || is_subtype up object s t) (or_right (is_null s && is_reference t) (is_subtype up object s t) (below_to up object s t b))

-- ---- two steps

pub widens_both : (s t : Ty) → IsTrue (widens s t) → IsTrue (is_numeric s) × IsTrue (is_numeric t) × (width s.base < width t.base)
widens_both s t h =
    let k : IsTrue (is_numeric t && nat_lt (width s.base) (width t.base)) = and_right (is_numeric s) (is_numeric t && nat_lt (width s.base) (width t.base)) h in (
      and_left (is_numeric s) (is_numeric t && nat_lt (width s.base) (width t.base)) h,
      and_left (is_numeric t) (nat_lt (width s.base) (width t.base)) k,
      ltb-true (width s.base) (width t.base) (and_right (is_numeric t) (nat_lt (width s.base) (width t.base)) k),
    )

widens_on : (s t u : Ty) → IsTrue (widens s t) → IsTrue (widens t u) → IsTrue (widens s u)
widens_on s t u h k =
    let a : IsTrue (is_numeric s) × IsTrue (is_numeric t) × (width s.base < width t.base) = widens_both s t h in
    let b : IsTrue (is_numeric t) × IsTrue (is_numeric u) × (width t.base < width u.base) = widens_both t u k in
    and_both (is_numeric s) (is_numeric u && nat_lt (width s.base) (width u.base)) a.0
    (and_both (is_numeric u) (nat_lt (width s.base) (width u.base)) b.1 (lt-ltb (width s.base) (width u.base) (omega (arith, a.2, b.2))))

-- a step that is no equality, and then another
steps : (object : Scope) (up_s up_t : List Scope) (s t u : Ty) → ArePassedOn object up_s t up_t
    → IsTrue (widens s t) ⊎ ((IsTrue (is_null s) × IsTrue (is_reference t)) ⊎ Below up_s object s t)
    → IsTrue (widens t u) ⊎ ((IsTrue (is_null t) × IsTrue (is_reference u)) ⊎ Below up_t object t u)
    → IsTrue (is_assignable up_s object s u)
steps object up_s up_t s t u p (inl w) (inl v) = goes_to up_s object s u (inl (widens_on s t u w v))
steps object up_s up_t s t u p (inl w) (inr (inl n)) = absurd (null_no_numeric t n.0 ((widens_both s t w).1))
steps object up_s up_t s t u p (inl w) (inr (inr b)) = absurd (numeric_no_reference t ((widens_both s t w).1) (below_referred up_t object t u b))
steps object up_s up_t s t u p (inr (inl n)) (inl v) = absurd (numeric_no_reference t ((widens_both t u v).0) n.1)
steps object up_s up_t s t u p (inr (inl n)) (inr (inl m)) = absurd (null_no_reference t m.0 n.1)
steps object up_s up_t s t u p (inr (inl n)) (inr (inr b)) = goes_to up_s object s u (inr (inl (n.0, below_refers up_t object t u b)))
steps object up_s up_t s t u p (inr (inr a)) (inl v) = absurd (numeric_no_reference t ((widens_both t u v).0) (below_refers up_s object s t a))
steps object up_s up_t s t u p (inr (inr a)) (inr (inl m)) = absurd (null_no_reference t m.0 (below_refers up_s object s t a))
steps object up_s up_t s t u p (inr (inr a)) (inr (inr b)) = goes_to up_s object s u (inr (inr (below_below up_s up_t object s t u p a b)))

-- one type, by the supertypes that are known of it on either side
again : (object : Scope) (up_s up_t : List Scope) (s u : Ty) → HoldsItself up_s s → ArePassedOn object up_s s up_t
    → IsTrue (widens s u) ⊎ ((IsTrue (is_null s) × IsTrue (is_reference u)) ⊎ Below up_t object s u)
    → IsTrue (is_assignable up_s object s u)
again object up_s up_t s u own p (inl w) = goes_to up_s object s u (inl w)
again object up_s up_t s u own p (inr (inl n)) = goes_to up_s object s u (inr (inl n))
again object up_s up_t s u own p (inr (inr b)) = goes_to up_s object s u (inr (inr (below_again up_s up_t object s u own p b)))

two_steps : (object : Scope) (up_s up_t : List Scope) (s t u : Ty) → HoldsItself up_s s → ArePassedOn object up_s t up_t
    → IsTrue (is_assignable up_s object s t) → Goes up_s object s t → Goes up_t object t u → IsTrue (is_assignable up_s object s u)
unfolding Goes
two_steps object up_s up_t s t u own p st g (inl e) = subst (λ (x : Ty). IsTrue (is_assignable up_s object s x)) e st
two_steps object up_s up_t s t u own p st (inl e) (inr h) =
    again object up_s up_t s u own (subst (λ (x : Ty). ArePassedOn object up_s x up_t) (sym e) p)
    (subst (λ (x : Ty). IsTrue (widens x u) ⊎ ((IsTrue (is_null x) × IsTrue (is_reference u)) ⊎ Below up_t object x u)) (sym e) h)
two_steps object up_s up_t s t u own p st (inr g) (inr h) = steps object up_s up_t s t u p g h

pub assignable_on : (object : Scope) (up_s up_t : List Scope) (s t u : Ty) → HoldsItself up_s s → ArePassedOn object up_s t up_t → is_bad t ≡ false
    → IsTrue (is_assignable up_s object s t) → IsTrue (is_assignable up_t object t u) → IsTrue (is_assignable up_s object s u)
assignable_on object up_s up_t s t u own p good st tu =
    elim (or_true (is_bad s || is_bad t) _ st) [
      | inl b ↦ or_left (is_bad s || is_bad u) _ (or_left (is_bad s) (is_bad u) (first_bad b))
      | inr g ↦ elim (or_true (is_bad t || is_bad u) _ tu) [
        | inl b ↦ or_left (is_bad s || is_bad u) _ (or_right (is_bad s) (is_bad u) (second_bad b))
        | inr h ↦ two_steps object up_s up_t s t u own p st (goes_from up_s object s t g) (goes_from up_t object t u h)
      ]
    ]
  where
    first_bad : IsTrue (is_bad s || is_bad t) → IsTrue (is_bad s)
    first_bad b = elim (or_true (is_bad s) (is_bad t) b) [ inl k ↦ k | inr k ↦ absurd (cc) ]

    second_bad : IsTrue (is_bad t || is_bad u) → IsTrue (is_bad u)
    second_bad b = elim (or_true (is_bad t) (is_bad u) b) [ inl k ↦ absurd (cc) | inr k ↦ k ]
