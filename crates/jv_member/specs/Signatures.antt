-- The signatures of members (JLS 8.3, 8.4.2, 8.4.5, 8.8.2, 9.3, 9.4).
use Rattle.std.specs.Prelude.{ℕ, List, [], ◌++◌, map}
use Rattle.std.specs.List.{flat_map}
use Rattle.sg_base.specs.declared.scope.Scope.{Scope}
use Rattle.sg_reading.specs.Reading.{done, and_then, each}
use Rattle.jv_diag.specs.Plain.{DiagOf}
use Rattle.jv_instance.specs.declared.datum.JavaDatum.TheVariants.{Signature as SignatureDatum}
use Rattle.jv_instance.specs.declared.ty.Ty.{Ty}
use Rattle.jv_instance.specs.declared.type_base.TypeBase.TheVariants.{Void}
use Rattle.jv_layout.specs.Folder.{LayoutOf}
use Rattle.jv_layout.specs.Readers.{file_of}
use Rattle.jv_tree.specs.declared.names.NameId.{NameId}
use Rattle.jv_tree.specs.DeclTree.{ParamTree}
use Rattle.jv_names.specs.declared.written_type.WrittenType.{WrittenType}
use Rattle.jv_names.specs.Bodies.{member_bodies}
use Rattle.jv_names.specs.Replies.{Rule}
use Rattle.jv_names.specs.WrittenTypes.{written_type}
use Rattle.jv_member.specs.declared.signature.Signature.{Signature}
use Rattle.jv_member.specs.Own.{OwnMember, own_field, own_method, own_ctor, default_ctor}

-- the result that a constructor has
abbrev pub void_type : Ty
void_type = record { base = Void; dims = 0 }

-- the types of some written types, and all their diagnostics
abbrev pub types_of : List WrittenType → List Ty
types_of ws = map (λ w. w.ty) ws

-- the diagnostics of some written types, one after another
abbrev pub diags_of : List WrittenType → List DiagOf
diags_of ws = flat_map (λ w. w.diags) ws

-- a signature by its types
abbrev pub field_by : NameId → WrittenType → Signature
field_by n w = record { datum = SignatureDatum n w.ty []; diags = w.diags }

-- the signature of a method by its result and the types of its parameters
abbrev pub method_by : NameId → WrittenType → List WrittenType → Signature
method_by n r ps = record { datum = SignatureDatum n r.ty (types_of ps); diags = r.diags ++ diags_of ps }

-- the signature of a constructor by the types of its parameters; its result is void
abbrev pub ctor_by : NameId → List WrittenType → Signature
ctor_by n ps = record { datum = SignatureDatum n void_type (types_of ps); diags = diags_of ps }

-- the types of parameters at a place, one after another
abbrev pub param_types : LayoutOf → List (List ℕ) → ℕ → List Scope → List ParamTree → Rule (List WrittenType)
param_types l names file bodies ps = each (λ p. written_type l names file bodies p.ty) ps

-- the signature of a member of a class or an interface with this name, at a place within these bodies: the type of a field, the result and then the
-- parameters of a method, the parameters of a constructor, which has its class's name; a default constructor has none
abbrev pub signature_at : LayoutOf → List (List ℕ) → ℕ → List Scope → NameId → OwnMember → Rule Signature
signature_at l names file bodies class (own_field ms t v) = and_then (written_type l names file bodies t) (λ w. done (field_by v.name.id w))
signature_at l names file bodies class (own_method m) =
    and_then (written_type l names file bodies m.result) (λ r. and_then (param_types l names file bodies m.params) (λ ps. done (method_by m.name.id r ps)))
signature_at l names file bodies class (own_ctor c) = and_then (param_types l names file bodies c.params) (λ ps. done (ctor_by class ps))
signature_at l names file bodies class (default_ctor name) = done (ctor_by class [])

-- the signature of a member of a type: its types stand in the type's body
abbrev pub signature_rule : LayoutOf → List (List ℕ) → Scope → NameId → OwnMember → Rule Signature
signature_rule l names c class m = signature_at l names (file_of l c) (member_bodies l c) class m
