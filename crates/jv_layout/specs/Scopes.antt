-- The scopes of a layout: root, unnamed package, packages, files, types, members, signatures, each kind in the order of its rows.
use Rattle.std.specs.Prelude.{ℕ, ◌+◌, ◌-◌, ◌==◌, ◌<◌, nat_lt, cond, length}
use Rattle.sg_base.specs.declared.scope.Scope.{Scope}
use Rattle.sg_state.specs.Opening.{nobody}
use Rattle.jv_layout.specs.declared.place.Place.{Place}
use Rattle.jv_layout.specs.declared.place.Place.TheVariants.{Outside, Root, Unnamed, Package, File, Ty, Member, Signature}
use Rattle.jv_layout.specs.Folder.{LayoutOf}

-- the scope with this number
abbrev pub scope_at : ℕ → Scope
scope_at n = record { unit = nobody; serial = n }

-- the scope of the root
abbrev pub root_scope : Scope
root_scope = scope_at 0

-- the scope of the unnamed package
abbrev pub unnamed_scope : Scope
unnamed_scope = scope_at 1

-- the scope of the package with this number
abbrev pub package_scope : ℕ → Scope
package_scope p = scope_at (2 + p)

-- the number of the first file's scope
abbrev pub first_file : LayoutOf → ℕ
first_file l = 2 + length l.packages

-- the scope of the file with this number
abbrev pub file_scope : LayoutOf → ℕ → Scope
file_scope l f = scope_at (first_file l + f)

-- the number of the first type's scope
abbrev pub first_type : LayoutOf → ℕ
first_type l = first_file l + length l.files

-- the scope of the type with this number
abbrev pub type_scope : LayoutOf → ℕ → Scope
type_scope l t = scope_at (first_type l + t)

-- the number of the first member's scope
abbrev pub first_member : LayoutOf → ℕ
first_member l = first_type l + length l.types

-- the scope of the member with this number
abbrev pub member_scope : LayoutOf → ℕ → Scope
member_scope l m = scope_at (first_member l + m)

-- the number of the first signature's scope
abbrev pub first_signature : LayoutOf → ℕ
first_signature l = first_member l + length l.members

-- the scope of a member's signature
abbrev pub signature_of_member : LayoutOf → ℕ → Scope
signature_of_member l m = scope_at (first_signature l + m)

-- how many scopes there are
abbrev pub scope_count : LayoutOf → ℕ
scope_count l = first_signature l + length l.members

-- what the scope with this number is
abbrev pub place_at : LayoutOf → ℕ → Place
place_at l n =
    cond (nat_lt n 1) Root
    (cond (nat_lt n 2) Unnamed
    (cond (nat_lt n (first_file l)) (Package (n - 2))
    (cond (nat_lt n (first_type l)) (File (n - first_file l))
    (cond (nat_lt n (first_member l)) (Ty (n - first_type l))
    (cond (nat_lt n (first_signature l)) (Member (n - first_member l))
    (cond (nat_lt n (scope_count l)) (Signature (n - first_signature l)) Outside))))))

-- what a scope is in a layout
abbrev pub place_of : LayoutOf → Scope → Place
place_of l s = cond (s.unit == nobody) (place_at l s.serial) Outside

-- the number in a place is that of a row
abbrev pub IsPlace : LayoutOf → Place → Type 0
IsPlace l Outside = Unit {0}
IsPlace l Root = Unit {0}
IsPlace l Unnamed = Unit {0}
IsPlace l (Package p) = p < length l.packages
IsPlace l (File f) = f < length l.files
IsPlace l (Ty t) = t < length l.types
IsPlace l (Member m) = m < length l.members
IsPlace l (Signature m) = m < length l.members
