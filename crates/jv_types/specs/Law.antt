-- Laws of conversions and promotion.
use Rattle.std.specs.Prelude.{◌≡◌, ◌↔◌, List, IsTrue, false}
use Rattle.std.specs.List.{Contains}
use Rattle.sg_base.specs.declared.scope.Scope.{Scope}
use Rattle.jv_instance.specs.declared.ty.Ty.{Ty}
use Rattle.jv_instance.specs.declared.type_base.TypeBase.TheVariants.{Class}
use Rattle.jv_instance.specs.Types.{is_bad}
use Rattle.jv_types.specs.Conversion.{SideOf, is_subtype, is_assignable, are_castable}
use Rattle.jv_types.specs.Operators.{promoted}
use Rattle.jv_types.specs.Relations.{IsSubtype, IsAssignable, IsCastable}

-- each type may be assigned to itself
abbrev pub AssignableIsReflexive : Type 0
AssignableIsReflexive = (up : List Scope) (object : Scope) (t : Ty) → IsTrue (is_assignable up object t t)

-- casts go both ways
abbrev pub CastableIsSymmetric : Type 0
CastableIsSymmetric = (object : Scope) (a b : SideOf) → are_castable object a b ≡ are_castable object b a

-- the order of numeric operands does not matter, nor how they are grouped
abbrev pub PromotionIsCommutative : Type 0
PromotionIsCommutative = (a b : Ty) → promoted a b ≡ promoted b a

-- how numeric operands are grouped does not matter
abbrev pub PromotionIsAssociative : Type 0
PromotionIsAssociative = (a b c : Ty) → promoted (promoted a b) c ≡ promoted a (promoted b c)

-- what is handed in as the supertypes of a class holds the class itself
abbrev pub HoldsItself : List Scope → Ty → Type 0
HoldsItself up t = (c : Scope) → t.base ≡ Class c → Contains up c

-- the supertypes of a type are among those of what is below it, and `Object` has none but itself
pub record ArePassedOn (object : Scope) (up_s : List Scope) (t : Ty) (up_t : List Scope) : Type 0 where
  pub passed : (c d : Scope) → t.base ≡ Class c → Contains up_s c → Contains up_t d → Contains up_s d
  pub top : t.base ≡ Class object → (d : Scope) → Contains up_t d → d ≡ object

-- what may be assigned to a type that is not bad may be assigned to all that this type may be assigned to
abbrev pub AssignableIsTransitive : Type 0
AssignableIsTransitive =
    (object : Scope) (up_s up_t : List Scope) (s t u : Ty) → HoldsItself up_s s → ArePassedOn object up_s t up_t → is_bad t ≡ false
    → IsTrue (is_assignable up_s object s t) → IsTrue (is_assignable up_t object t u) → IsTrue (is_assignable up_s object s u)

-- one type is a subtype of another by the test where it is one by the rules of the language, and only there
abbrev pub SubtypesAreTested : Type 0
SubtypesAreTested = (up : List Scope) (object : Scope) (s t : Ty) → IsTrue (is_subtype up object s t) ↔ IsSubtype up object s t

-- one type is assignable to another by the test where it is by the rules, and only there
abbrev pub AssignmentIsTested : Type 0
AssignmentIsTested = (up : List Scope) (object : Scope) (s t : Ty) → IsTrue (is_assignable up object s t) ↔ IsAssignable up object s t

-- one type may be cast to another by the test where it may by the rules, and only there
abbrev pub CastsAreTested : Type 0
CastsAreTested = (object : Scope) (a b : SideOf) → IsTrue (are_castable object a b) ↔ IsCastable object a b
