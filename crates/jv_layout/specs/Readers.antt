-- What a layout says of its scopes (JLS 6.6, 8.1.1, 8.1.3, 8.5, 9.1.1, 9.3, 9.4).
use Rattle.std.specs.Prelude.{ℕ, ◌==◌, Bool, true, false, ◌||◌, ◌&&◌, not, cond, List, [], length, map, Option, None, Some}
use Rattle.std.specs.List.{filter, range_with_len, slice_index_or}
use Rattle.std.specs.Option.{option_map}
use Rattle.sg_base.specs.declared.scope.Scope.{Scope}
use Rattle.jv_instance.specs.declared.access.Access.{Access}
use Rattle.jv_instance.specs.declared.access.Access.TheVariants.{Public, Protected, Package as PackageAccess, Private}
use Rattle.jv_tree.specs.DeclTree.{ImportTree}
use Rattle.jv_layout.specs.declared.place.Place.{Place}
use Rattle.jv_layout.specs.declared.place.Place.TheVariants.{Outside, Root, Unnamed, Package, File, Ty, Member, Signature}
use Rattle.jv_layout.specs.declared.rows.Modifiers.{Modifiers}
use Rattle.jv_layout.specs.declared.rows.TypeRow.{TypeRow}
use Rattle.jv_layout.specs.declared.rows.MemberRow.{MemberRow}
use Rattle.jv_layout.specs.declared.rows.MemberKind.{MemberKind}
use Rattle.jv_layout.specs.declared.rows.MemberKind.TheVariants.{Field, Method, Ctor, DefaultCtor}
use Rattle.jv_layout.specs.Folder.{LayoutOf, no_modifiers}
use Rattle.jv_layout.specs.Scopes.{unnamed_scope, package_scope, type_scope, member_scope, signature_of_member, place_of}

-- a type that stands for none
abbrev pub no_type : TypeRow
no_type = record { file = 0; owner = None; top = 0; name = record { 0 = 0 }; modifiers = no_modifiers; interface = false }

-- a member that stands for none
abbrev pub no_member : MemberRow
no_member = record { owner = 0; kind = Field; name = record { 0 = 0 }; modifiers = no_modifiers }

-- the type with this number
abbrev pub type_at : LayoutOf → ℕ → TypeRow
type_at l t = slice_index_or l.types t no_type

-- the member with this number
abbrev pub member_at : LayoutOf → ℕ → MemberRow
member_at l m = slice_index_or l.members m no_member

-- the type of a member
abbrev pub owner_of : LayoutOf → ℕ → TypeRow
owner_of l m = type_at l (member_at l m).owner

-- the scope of a package, where it has a name
abbrev pub package_or_unnamed : Option ℕ → Scope
package_or_unnamed None = unnamed_scope
package_or_unnamed (Some p) = package_scope p

-- the package of a file
abbrev pub file_package : LayoutOf → ℕ → Scope
file_package l f = package_or_unnamed (slice_index_or l.files f None)

-- whether a type, where there is one, is an interface
abbrev pub is_interface_at : LayoutOf → Option ℕ → Bool
is_interface_at l None = false
is_interface_at l (Some t) = (type_at l t).interface

-- whether a type stands in the body of an interface
abbrev pub lies_in_interface : LayoutOf → TypeRow → Bool
lies_in_interface l r = is_interface_at l r.owner

-- the access that is written: the strongest counts
abbrev pub written_access : Modifiers → Access
written_access ms = cond ms.is_private Private (cond ms.is_protected Protected (cond ms.is_public Public PackageAccess))

-- the access of a type; members of interfaces are public
abbrev pub type_access : LayoutOf → TypeRow → Access
type_access l r = cond (lies_in_interface l r) Public (written_access r.modifiers)

-- the access of a member: public in an interface, and that of its class for a default constructor
abbrev pub member_access_by : LayoutOf → MemberRow → TypeRow → MemberKind → Access
member_access_by l m t DefaultCtor = type_access l t
member_access_by l m t Field = cond t.interface Public (written_access m.modifiers)
member_access_by l m t Method = cond t.interface Public (written_access m.modifiers)
member_access_by l m t Ctor = cond t.interface Public (written_access m.modifiers)

-- the access by what a scope is: that of a type or a member, and package access elsewhere
abbrev pub access_at : LayoutOf → Place → Access
access_at l (Ty t) = type_access l (type_at l t)
access_at l (Member m) = member_access_by l (member_at l m) (owner_of l m) (member_at l m).kind
access_at l Outside = PackageAccess
access_at l Root = PackageAccess
access_at l Unnamed = PackageAccess
access_at l (Package p) = PackageAccess
access_at l (File f) = PackageAccess
access_at l (Signature m) = PackageAccess

-- the access of a type or a member, and package access elsewhere
abbrev pub access_of : LayoutOf → Scope → Access
access_of l s = access_at l (place_of l s)

-- whether a member is a field, and whether it is a method
abbrev pub is_field : MemberKind → Bool
is_field Field = true
is_field Method = false
is_field Ctor = false
is_field DefaultCtor = false

-- whether a member is a method
abbrev pub is_method : MemberKind → Bool
is_method Field = false
is_method Method = true
is_method Ctor = false
is_method DefaultCtor = false

-- whether a type stands in no body
abbrev pub not_nested : Option ℕ → Bool
not_nested None = true
not_nested (Some t) = false

-- a type is static where that is written, where it is an interface, where it is top-level, or where it lies in an interface
abbrev pub is_static_type : LayoutOf → TypeRow → Bool
is_static_type l r = r.modifiers.is_static || (r.interface || (not_nested r.owner || lies_in_interface l r))

-- whether this is a type or a member that is static: fields of interfaces are
abbrev pub is_static_at : LayoutOf → Place → Bool
is_static_at l (Ty t) = is_static_type l (type_at l t)
is_static_at l (Member m) = (member_at l m).modifiers.is_static || (is_field (member_at l m).kind && (owner_of l m).interface)
is_static_at l Outside = false
is_static_at l Root = false
is_static_at l Unnamed = false
is_static_at l (Package p) = false
is_static_at l (File f) = false
is_static_at l (Signature m) = false

-- whether a type or a member is static; fields of interfaces are
abbrev pub is_static_of : LayoutOf → Scope → Bool
is_static_of l s = is_static_at l (place_of l s)

-- whether this is a type or a member that is final: where that is written; fields of interfaces are
abbrev pub is_final_at : LayoutOf → Place → Bool
is_final_at l (Ty t) = (type_at l t).modifiers.is_final
is_final_at l (Member m) = (member_at l m).modifiers.is_final || (is_field (member_at l m).kind && (owner_of l m).interface)
is_final_at l Outside = false
is_final_at l Root = false
is_final_at l Unnamed = false
is_final_at l (Package p) = false
is_final_at l (File f) = false
is_final_at l (Signature m) = false

-- whether a type or a member is final: where that is written; fields of interfaces are
abbrev pub is_final_of : LayoutOf → Scope → Bool
is_final_of l s = is_final_at l (place_of l s)

-- whether this is a method of an interface
abbrev pub is_interface_method_at : LayoutOf → Place → Bool
is_interface_method_at l (Member m) = is_method (member_at l m).kind && (owner_of l m).interface
is_interface_method_at l (Ty t) = false
is_interface_method_at l Outside = false
is_interface_method_at l Root = false
is_interface_method_at l Unnamed = false
is_interface_method_at l (Package p) = false
is_interface_method_at l (File f) = false
is_interface_method_at l (Signature m) = false

-- whether a scope is a method of an interface
abbrev pub is_interface_method_of : LayoutOf → Scope → Bool
is_interface_method_of l s = is_interface_method_at l (place_of l s)

-- whether this is a type or a member that is abstract: where that is written; a method of an interface is where neither `static` nor `default` is written
abbrev pub is_abstract_at : LayoutOf → Place → Bool
is_abstract_at l (Ty t) = (type_at l t).modifiers.is_abstract
is_abstract_at l (Member m) =
    cond (is_method (member_at l m).kind && (owner_of l m).interface)
    (not ((member_at l m).modifiers.is_static || (member_at l m).modifiers.is_default)) (member_at l m).modifiers.is_abstract
is_abstract_at l Outside = false
is_abstract_at l Root = false
is_abstract_at l Unnamed = false
is_abstract_at l (Package p) = false
is_abstract_at l (File f) = false
is_abstract_at l (Signature m) = false

-- whether a type or a member is abstract: where that is written; a method of an interface is where neither `static` nor `default` is written
abbrev pub is_abstract_of : LayoutOf → Scope → Bool
is_abstract_of l s = is_abstract_at l (place_of l s)

-- whether this is a default method: a method of an interface where `default` and not `static` is written
abbrev pub is_default_at : LayoutOf → Place → Bool
is_default_at l (Member m) =
    (is_method (member_at l m).kind && (owner_of l m).interface) && ((member_at l m).modifiers.is_default && not (member_at l m).modifiers.is_static)
is_default_at l (Ty t) = false
is_default_at l Outside = false
is_default_at l Root = false
is_default_at l Unnamed = false
is_default_at l (Package p) = false
is_default_at l (File f) = false
is_default_at l (Signature m) = false

-- whether a scope is a default method
abbrev pub is_default_of : LayoutOf → Scope → Bool
is_default_of l s = is_default_at l (place_of l s)

-- whether this is a type that is an interface
abbrev pub is_interface_place : LayoutOf → Place → Bool
is_interface_place l (Ty t) = (type_at l t).interface
is_interface_place l Outside = false
is_interface_place l Root = false
is_interface_place l Unnamed = false
is_interface_place l (Package p) = false
is_interface_place l (File f) = false
is_interface_place l (Member m) = false
is_interface_place l (Signature m) = false

-- whether a scope is a type that is an interface
abbrev pub is_interface_of : LayoutOf → Scope → Bool
is_interface_of l s = is_interface_place l (place_of l s)

-- the number of the file by what a scope is: that of a file, and of what stands in one; 0 elsewhere
abbrev pub file_at : LayoutOf → Place → ℕ
file_at l (File f) = f
file_at l (Ty t) = (type_at l t).file
file_at l (Member m) = (owner_of l m).file
file_at l (Signature m) = (owner_of l m).file
file_at l Outside = 0
file_at l Root = 0
file_at l Unnamed = 0
file_at l (Package p) = 0

-- the number of the file in which a type, a member or a signature stands; 0 for what stands in none
abbrev pub file_of : LayoutOf → Scope → ℕ
file_of l s = file_at l (place_of l s)

-- the type in whose body a type, a member or a signature stands, by what a scope is; none elsewhere
abbrev pub owner_at : LayoutOf → Place → Option Scope
owner_at l (Ty t) = option_map (type_scope l) (type_at l t).owner
owner_at l (Member m) = Some (type_scope l (member_at l m).owner)
owner_at l (Signature m) = Some (type_scope l (member_at l m).owner)
owner_at l Outside = None
owner_at l Root = None
owner_at l Unnamed = None
owner_at l (Package p) = None
owner_at l (File f) = None

-- the type in whose body a type or a member stands, where it stands in one
abbrev pub owner_scope : LayoutOf → Scope → Option Scope
owner_scope l s = owner_at l (place_of l s)

-- the package by what a scope is: that of a file, a type, a member or a signature; the scope itself elsewhere
abbrev pub package_at : LayoutOf → Scope → Place → Scope
package_at l s (File f) = file_package l f
package_at l s (Ty t) = file_package l (type_at l t).file
package_at l s (Member m) = file_package l (owner_of l m).file
package_at l s (Signature m) = file_package l (owner_of l m).file
package_at l s Outside = s
package_at l s Root = s
package_at l s Unnamed = s
package_at l s (Package p) = s

-- the package of a file, a type, a member or a signature; the scope itself elsewhere
abbrev pub package_of : LayoutOf → Scope → Scope
package_of l s = package_at l s (place_of l s)

-- the outermost type by what a scope is: that of a type, a member or a signature; the scope itself elsewhere
abbrev pub top_at : LayoutOf → Scope → Place → Scope
top_at l s (Ty t) = type_scope l (type_at l t).top
top_at l s (Member m) = type_scope l (owner_of l m).top
top_at l s (Signature m) = type_scope l (owner_of l m).top
top_at l s (File f) = s
top_at l s Outside = s
top_at l s Root = s
top_at l s Unnamed = s
top_at l s (Package p) = s

-- the outermost type in which a type, a member or a signature stands; the scope itself elsewhere
abbrev pub top_of : LayoutOf → Scope → Scope
top_of l s = top_at l s (place_of l s)

-- the members of a type, by their numbers
abbrev pub members_of_type : LayoutOf → ℕ → List ℕ
members_of_type l t = filter (λ m. (member_at l m).owner == t) (range_with_len 0 (length l.members))

-- the members by what a scope is: those of a type, and none elsewhere
abbrev pub members_at : LayoutOf → Place → List Scope
members_at l (Ty t) = map (member_scope l) (members_of_type l t)
members_at l Outside = []
members_at l Root = []
members_at l Unnamed = []
members_at l (Package p) = []
members_at l (File f) = []
members_at l (Member m) = []
members_at l (Signature m) = []

-- the fields, methods and constructors of a type, and none elsewhere
abbrev pub members_of : LayoutOf → Scope → List Scope
members_of l s = members_at l (place_of l s)

-- the scope of the signature by what a scope is: that of a member; the scope itself elsewhere
abbrev pub signature_at : LayoutOf → Scope → Place → Scope
signature_at l s (Member m) = signature_of_member l m
signature_at l s Outside = s
signature_at l s Root = s
signature_at l s Unnamed = s
signature_at l s (Package p) = s
signature_at l s (File f) = s
signature_at l s (Ty t) = s
signature_at l s (Signature m) = s

-- the scope of a member's signature; the scope itself elsewhere
abbrev pub signature_scope : LayoutOf → Scope → Scope
signature_scope l s = signature_at l s (place_of l s)

-- the static imports of the file with this number; none where there is no such file
abbrev pub statics_of : LayoutOf → ℕ → List ImportTree
statics_of l f = slice_index_or l.statics f []

-- all types
abbrev pub types_of : LayoutOf → List Scope
types_of l = map (type_scope l) (range_with_len 0 (length l.types))

-- the prelude's `Object` and `String`: the first two types
abbrev pub object_scope : LayoutOf → Scope
object_scope l = type_scope l 0

-- the scope of the prelude's `String`, which is the second type
abbrev pub string_scope : LayoutOf → Scope
string_scope l = type_scope l 1
