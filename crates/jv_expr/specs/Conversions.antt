-- Conversions over replies: the supertypes of classes are read where they decide (JLS 5.1, 5.2, 5.5).
use Rattle.std.specs.Prelude.{◌==◌, ◌&&◌, ◌||◌, not, Bool, false, cond, List, [], ◌∷◌}
use Rattle.sg_base.specs.declared.scope.Scope.{Scope}
use Rattle.sg_reading.specs.Reading.{done, and_then}
use Rattle.jv_instance.specs.declared.ty.Ty.{Ty}
use Rattle.jv_instance.specs.declared.type_base.TypeBase.{TypeBase}
use Rattle.jv_instance.specs.declared.type_base.TypeBase.TheVariants.{Boolean, Char, Int, Long, Class, Null, Void, Bad}
use Rattle.jv_layout.specs.Folder.{LayoutOf}
use Rattle.jv_layout.specs.Readers.{is_final_of, is_interface_of, object_scope}
use Rattle.jv_names.specs.Read.{supers_of}
use Rattle.jv_names.specs.Replies.{Rule}
use Rattle.jv_types.specs.Conversion.{SideOf, is_assignable, is_class, is_class_base, is_type}

-- ---- the supertypes that decide

-- the class of a base is an interface
abbrev pub is_interface_base : LayoutOf → TypeBase → Bool
is_interface_base l (Class c) = is_interface_of l c
is_interface_base l Boolean = false
is_interface_base l Char = false
is_interface_base l Int = false
is_interface_base l Long = false
is_interface_base l Null = false
is_interface_base l Void = false
is_interface_base l Bad = false

-- an interface and `Object`, which is above each interface (JLS 4.10.2)
abbrev pub is_below_object : LayoutOf → TypeBase → TypeBase → Bool
is_below_object l a b = is_interface_base l a && is_class (object_scope l) b

-- two types that are compared without supertypes: equal ones, and `Object` with an interface
abbrev pub are_known : LayoutOf → Ty → Ty → Bool
are_known l s t = is_type s t || (is_below_object l s.base t.base || is_below_object l t.base s.base)

-- two classes under as many brackets, of which the supertypes decide
abbrev pub asks_supers : LayoutOf → Ty → Ty → Bool
asks_supers l s t = (s.dims == t.dims) && (is_class_base s.base && (is_class_base t.base && not (are_known l s t)))

-- the supertypes of a class with itself; other types have none
abbrev pub base_supers : LayoutOf → TypeBase → Rule (List Scope)
base_supers l (Class c) = supers_of l c
base_supers l Boolean = done []
base_supers l Char = done []
base_supers l Int = done []
base_supers l Long = done []
base_supers l Null = done []
base_supers l Void = done []
base_supers l Bad = done []

-- those that are known of a class without a query: `Object` of an interface
abbrev pub known_supers : LayoutOf → TypeBase → List Scope
known_supers l b = cond (is_interface_base l b) (object_scope l ∷ []) []

-- whether a value of the first type may be assigned to a variable of the second
unfoldable pub fits : LayoutOf → Ty → Ty → Rule Bool
fits l s t =
    cond (asks_supers l s t) (and_then (base_supers l s.base) (λ up. done (is_assignable up (object_scope l) s t))) (done (is_assignable (known_supers l s.base) (object_scope l) s t))

-- ---- two types that are compared

-- the class of a base is final
abbrev pub is_final_base : LayoutOf → TypeBase → Bool
is_final_base l (Class c) = is_final_of l c
is_final_base l Boolean = false
is_final_base l Char = false
is_final_base l Int = false
is_final_base l Long = false
is_final_base l Null = false
is_final_base l Void = false
is_final_base l Bad = false

-- a type with these supertypes of its class
abbrev pub side : LayoutOf → List Scope → Ty → SideOf
side l up t = record { ty = t; up = up; interface = is_interface_base l t.base; is_final = is_final_base l t.base }

-- two types, each as one side of the comparison
abbrev pub Sides : Type 0
Sides = SideOf × SideOf

-- both as they are known without supertypes
abbrev pub bare_sides : LayoutOf → Ty → Ty → Sides
bare_sides l s t = (side l [] s, side l [] t)

-- both with the supertypes that are known without a query
abbrev pub known_sides : LayoutOf → Ty → Ty → Sides
known_sides l s t = (side l (known_supers l s.base) s, side l (known_supers l t.base) t)

-- the first with its supertypes; and the second with its own, where the first is not assignable to it
abbrev pub second_side : LayoutOf → Ty → Ty → List Scope → Rule Sides
second_side l s t up =
    cond (is_assignable up (object_scope l) s t) (done (side l up s, side l [] t)) (and_then (base_supers l t.base) (λ more. done (side l up s, side l more t)))

-- two types with what decides whether one may be cast to the other
unfoldable pub sides : LayoutOf → Ty → Ty → Rule Sides
sides l s t = cond (asks_supers l s t) (and_then (base_supers l s.base) (second_side l s t)) (done (known_sides l s t))
