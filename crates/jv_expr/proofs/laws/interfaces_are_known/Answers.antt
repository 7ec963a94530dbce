use Rattle.std.proofs.Common.{◌≡◌, ◌==◌, ◌&&◌, ◌||◌, Bool, true, false, cond, List, [], ◌∷◌, ◌++◌, refl, sym, ap, ◌∙◌}
use Rattle.std.specs.Prelude.{nat_lt}
use Rattle.std.specs.List.{list_any}
use Rattle.std.proofs.lemmas.Bool.{and_parts}
use Rattle.sg_base.specs.declared.scope.Scope.{Scope}
use Rattle.sg_base.specs.Scope.{is_scope}
use Rattle.jv_instance.specs.declared.ty.Ty.{Ty}
use Rattle.jv_instance.specs.declared.type_base.TypeBase.{TypeBase}
use Rattle.jv_instance.specs.declared.type_base.TypeBase.TheVariants.{Boolean, Char, Int, Long, Class, Null, Void, Bad}
use Rattle.jv_instance.specs.Types.{is_bad}
use Rattle.jv_layout.specs.Folder.{LayoutOf}
use Rattle.jv_layout.specs.Readers.{is_interface_of, object_scope}
use Rattle.jv_names.specs.Read.{with_object}
use Rattle.jv_types.specs.Conversion.{is_above, is_class, is_class_base, is_null, is_reference, is_type, widens}
use Rattle.jv_expr.specs.Conversions.{is_below_object, is_interface_base, known_supers}
use Rattle.jv_expr.proofs.laws.interfaces_are_known.Goals as goal

or_true : (a b : Bool) → b ≡ true → (a || b) ≡ true
or_true true b h = refl
or_true false b h = h

-- a test that the last scope passes
any_last : (p : Scope → Bool) (xs : List Scope) (x : Scope) → p x ≡ true → list_any p (xs ++ x ∷ []) ≡ true
any_last p [] x h = ap (λ (b : Bool). b || false) h
any_last p (y ∷ xs) x h = or_true (p y) (list_any p (xs ++ x ∷ [])) (any_last p xs x h)

-- `Object` is above what has it as the last of its supertypes
object_above : (object : Scope) (b : TypeBase) (up : List Scope) → is_class object b ≡ true → is_above (up ++ object ∷ []) b ≡ true
object_above object (Class s) up h = any_last (is_scope s) up object h
object_above object Boolean up h = let k : false ≡ true = h in absurd (cc)
object_above object Char up h = let k : false ≡ true = h in absurd (cc)
object_above object Int up h = let k : false ≡ true = h in absurd (cc)
object_above object Long up h = let k : false ≡ true = h in absurd (cc)
object_above object Null up h = let k : false ≡ true = h in absurd (cc)
object_above object Void up h = let k : false ≡ true = h in absurd (cc)
object_above object Bad up h = let k : false ≡ true = h in absurd (cc)

module _ (l : LayoutOf) (s t : Ty) (c : Scope) (up : List Scope) (class : s.base ≡ Class c) (below : is_below_object l s.base t.base ≡ true) where
  interface : is_interface_base l s.base ≡ true
  interface = (and_parts (is_interface_base l s.base) (is_class (object_scope l) t.base) below).0

  object : is_class (object_scope l) t.base ≡ true
  object = (and_parts (is_interface_base l s.base) (is_class (object_scope l) t.base) below).1

  is_one : is_interface_of l c ≡ true
  is_one = sym (ap (is_interface_base l) class) ∙ interface

  same_above : is_above (with_object l c up) t.base ≡ is_above (known_supers l s.base) t.base
  same_above =
      ap (λ (b : Bool). is_above (cond b (up ++ object_scope l ∷ []) up) t.base) is_one
      ∙ (object_above (object_scope l) t.base up object
      ∙ (sym (object_above (object_scope l) t.base [] object)
      ∙ ap (λ (b : Bool). is_above (cond b (object_scope l ∷ []) []) t.base) (sym interface)))

pub returns : goal.returns
returns c = λ l s t k up class below.
    ap (λ (b : Bool). (is_bad s || is_bad t) || (is_type s t || (widens s t || ((is_null s && is_reference t) || cond (nat_lt t.dims s.dims) (is_class (object_scope l) t.base) ((s.dims == t.dims) && (is_class_base s.base && b))))))
    (same_above l s t k up class below)
