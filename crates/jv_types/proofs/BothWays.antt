-- Casts go both ways.
use Rattle.std.proofs.Common.{◌≡◌, ℕ, ◌==◌, Bool, ◌&&◌, ◌||◌, not, ap, ◌∙◌, arith}
use Rattle.std.proofs.Math.Bool.{and_comm, or_comm}
use Rattle.std.proofs.lemmas.Bool.Decides.{nat_tests}
use Rattle.sg_base.specs.declared.scope.Scope.{Scope}
use Rattle.jv_instance.specs.declared.ty.Ty.{Ty}
use Rattle.jv_types.specs.Conversion.{SideOf, is_assignable, is_numeric, is_reference, is_class_base, may_meet, either_way, element, element_side, are_castable_bare, lesser, are_castable}

-- ---- tests of two parts each

both_same : (a b c d : Bool) → a ≡ b → c ≡ d → (a && c) ≡ (b && d)
both_same a b c d e f = ap (λ (x : Bool). x && c) e ∙ ap (λ (x : Bool). b && x) f

one_same : (a b c d : Bool) → a ≡ b → c ≡ d → (a || c) ≡ (b || d)
one_same a b c d e f = ap (λ (x : Bool). x || c) e ∙ ap (λ (x : Bool). b || x) f

-- ---- casts

lesser_comm : (m n : ℕ) → lesser m n ≡ lesser n m
lesser_comm m n = grind (arith, nat_tests)

may_meet_comm : (a b : SideOf) → may_meet a b ≡ may_meet b a
may_meet_comm a b =
    both_same (a.interface || b.interface) (b.interface || a.interface) _ _ (or_comm a.interface b.interface)
    (and_comm (a.interface || not a.is_final) (b.interface || not b.is_final))

either_way_comm : (object : Scope) (a b : SideOf) → either_way object a b ≡ either_way object b a
either_way_comm object a b = or_comm (is_assignable a.up object a.ty b.ty) (is_assignable b.up object b.ty a.ty)

-- two numeric types, two classes
pair_comm : (test : Ty → Bool) (a b : Ty) → (test a && test b) ≡ (test b && test a)
pair_comm test a b = and_comm (test a) (test b)

bare_comm : (object : Scope) (a b : SideOf) → are_castable_bare object a b ≡ are_castable_bare object b a
bare_comm object a b =
    let bare : Ty → Bool = λ t. t.dims == 0 in
    let class : Ty → Bool = λ t. is_class_base t.base in
    let classes : ((class a.ty && class b.ty) && may_meet a b) ≡ ((class b.ty && class a.ty) && may_meet b a) =
    both_same (class a.ty && class b.ty) (class b.ty && class a.ty) (may_meet a b) (may_meet b a) (pair_comm class a.ty b.ty) (may_meet_comm a b) in
    let meeting : ((bare a.ty && bare b.ty) && ((class a.ty && class b.ty) && may_meet a b)) ≡ ((bare b.ty && bare a.ty) && ((class b.ty && class a.ty) && may_meet b a)) =
    both_same (bare a.ty && bare b.ty) (bare b.ty && bare a.ty) _ _ (pair_comm bare a.ty b.ty) classes in
    one_same (either_way object a b) (either_way object b a) _ _ (either_way_comm object a b)
    (one_same (is_numeric a.ty && is_numeric b.ty) (is_numeric b.ty && is_numeric a.ty) _ _ (pair_comm is_numeric a.ty b.ty) meeting)

-- the second part of a cast, by the number of common brackets
castable_elements : Scope → ℕ → SideOf → SideOf → Bool
castable_elements object n a b =
    (is_reference (element n a.ty) && is_reference (element n b.ty)) && are_castable_bare object (element_side n a) (element_side n b)

elements_comm : (object : Scope) (n : ℕ) (a b : SideOf) → castable_elements object n a b ≡ castable_elements object n b a
unfolding castable_elements
elements_comm object n a b =
    both_same (is_reference (element n a.ty) && is_reference (element n b.ty)) (is_reference (element n b.ty) && is_reference (element n a.ty)) _ _
    (pair_comm is_reference (element n a.ty) (element n b.ty)) (bare_comm object (element_side n a) (element_side n b))

pub castable_comm : (object : Scope) (a b : SideOf) → are_castable object a b ≡ are_castable object b a
unfolding castable_elements
castable_comm object a b =
    one_same (are_castable_bare object a b) (are_castable_bare object b a) _ _ (bare_comm object a b)
    (ap (λ (n : ℕ). castable_elements object n a b) (lesser_comm a.ty.dims b.ty.dims) ∙ elements_comm object (lesser b.ty.dims a.ty.dims) a b)
