-- Simple names, duplicates, and packages that share their name with something else (JLS 6.2, 7.1, 7.6, 8.3, 8.4, 8.5).
use Rattle.std.specs.Prelude.{◌==◌, ◌&&◌, Bool, false, not, List, length, map, Option, None, Some}
use Rattle.std.specs.List.{list_any}
use Rattle.sg_base.specs.declared.scope.Scope.{Scope}
use Rattle.sg_base.specs.Scope.{is_scope}
use Rattle.jv_tree.specs.declared.names.NameId.{NameId}
use Rattle.jv_layout.specs.declared.place.Place.{Place}
use Rattle.jv_layout.specs.declared.place.Place.TheVariants.{Outside, Root, Unnamed, Package, File, Ty, Member, Signature}
use Rattle.jv_layout.specs.declared.rows.PackageRow.{PackageRow}
use Rattle.jv_layout.specs.Folder.{LayoutOf}
use Rattle.jv_layout.specs.Scopes.{place_of}
use Rattle.jv_layout.specs.Readers.{type_at, member_at}
use Rattle.jv_layout.specs.Skeleton.{below, is_first_type, is_first_member, package_row_at, parent_scope}

-- the simple name by what a scope is: that of a package, a type or a member, and none of any other
abbrev pub name_at : LayoutOf → Place → Option NameId
name_at l (Package p) = Some (package_row_at l p).name
name_at l (Ty t) = Some (type_at l t).name
name_at l (Member m) = Some (member_at l m).name
name_at l Outside = None
name_at l Root = None
name_at l Unnamed = None
name_at l (File f) = None
name_at l (Signature m) = None

-- the simple name of a package, a type or a member, which for a constructor is its class's; other scopes have none
abbrev pub simple_name : LayoutOf → Scope → Option NameId
simple_name l s = name_at l (place_of l s)

-- a simple name is this one
abbrev pub is_this : NameId → Option NameId → Bool
is_this n None = false
is_this n (Some m) = m.0 == n.0

-- a scope has this simple name
abbrev pub is_named : LayoutOf → NameId → Scope → Bool
is_named l n s = is_this n (simple_name l s)

-- whether this is a type with the name of an earlier one of its scope, or a member with that of an earlier one of its kind
abbrev pub is_duplicate_at : LayoutOf → Place → Bool
is_duplicate_at l (Ty t) = not (is_first_type l t)
is_duplicate_at l (Member m) = not (is_first_member l m)
is_duplicate_at l Outside = false
is_duplicate_at l Root = false
is_duplicate_at l Unnamed = false
is_duplicate_at l (Package p) = false
is_duplicate_at l (File f) = false
is_duplicate_at l (Signature m) = false

-- whether a type has the name of an earlier one of its package or type, or a field, a method or a constructor that of an earlier one of its type
abbrev pub is_duplicate : LayoutOf → Scope → Bool
is_duplicate l s = is_duplicate_at l (place_of l s)

-- whether a package stands directly in this scope under this name
abbrev pub is_subpackage : Scope → NameId → PackageRow → Bool
is_subpackage s n r = is_scope (parent_scope r.parent) s && (r.name.0 == n.0)

-- whether some package stands directly in the root or in a package under a name; none does in the unnamed package
abbrev pub has_subpackage : LayoutOf → Scope → NameId → Bool
has_subpackage l s n = list_any (is_subpackage s n) l.packages

-- for each type whether it is a duplicate, and for each member
abbrev pub repeated_types : LayoutOf → List Bool
repeated_types l = map (λ t. not (is_first_type l t)) (below (length l.types))

-- for each member whether it is a duplicate
abbrev pub repeated_members : LayoutOf → List Bool
repeated_members l = map (λ m. not (is_first_member l m)) (below (length l.members))
