-- The opening of a layout: its scopes, one definition for each kind of edge, the data, and who holds what.
use Rattle.std.specs.Prelude.{ℕ, ◌+◌, ◌==◌, ◌&&◌, Bool, not, List, [], ◌∷◌, ◌++◌, length, map, take, Option, None, Some}
use Rattle.std.specs.List.{filter, flat_map, list_any, range_with_len, slice_index_or}
use Rattle.sg_base.specs.declared.scope.Scope.{Scope}
use Rattle.sg_base.specs.Graph.{Edge}
use Rattle.sg_base.specs.Scope.{is_scope}
use Rattle.sg_state.specs.Held.{RowHold, DatumHold}
use Rattle.sg_state.specs.Opening.{OpeningOf}
use Rattle.jv_instance.specs.declared.datum.JavaDatum.{JavaDatum}
use Rattle.jv_instance.specs.declared.datum.JavaDatum.TheVariants.{Package, TypeName, Member}
use Rattle.jv_instance.specs.declared.labels.TheConstants.{PKG, TYPE, SELF, SIMP, PKGOF, ODI, EXT, FIELD, METH, CTOR, SIG}
use Rattle.jv_layout.specs.declared.rows.PackageRow.{PackageRow}
use Rattle.jv_layout.specs.declared.rows.TypeRow.{TypeRow}
use Rattle.jv_layout.specs.declared.rows.MemberRow.{MemberRow}
use Rattle.jv_layout.specs.declared.rows.MemberKind.{MemberKind}
use Rattle.jv_layout.specs.declared.rows.MemberKind.TheVariants.{Field, Method, Ctor, DefaultCtor}
use Rattle.jv_layout.specs.Folder.{LayoutOf}
use Rattle.jv_layout.specs.Scopes.{scope_at, root_scope, package_scope, file_scope, type_scope, member_scope, signature_of_member, scope_count}
use Rattle.jv_layout.specs.Readers.{type_at, member_at, file_package, not_nested}

-- the numbers below n
abbrev pub below : ℕ → List ℕ
below n = range_with_len 0 n

-- ---- duplicates, which get no edge

-- the scope that declares a type: the type in whose body it stands, or else the package of its file
abbrev pub home_by : LayoutOf → Option ℕ → ℕ → Scope
home_by l None file = file_package l file
home_by l (Some t) file = type_scope l t

-- the scope that declares the type of a row
abbrev pub home_of : LayoutOf → TypeRow → Scope
home_of l r = home_by l r.owner r.file

-- two types of one package, or of one type, have one name
abbrev pub are_one_type : LayoutOf → TypeRow → TypeRow → Bool
are_one_type l a b = is_scope (home_of l a) (home_of l b) && (a.name.0 == b.name.0)

-- no type before it has its name in its package or type
abbrev pub is_first_type : LayoutOf → ℕ → Bool
is_first_type l t = not (list_any (are_one_type l (type_at l t)) (take t l.types))

-- the label of a member's edge
abbrev pub label_of : MemberKind → ℕ
label_of Field = FIELD
label_of Method = METH
label_of Ctor = CTOR
label_of DefaultCtor = CTOR

-- two members of one type are fields, methods or constructors of one name
abbrev pub are_one_member : MemberRow → MemberRow → Bool
are_one_member a b = (a.owner == b.owner) && ((label_of a.kind == label_of b.kind) && (a.name.0 == b.name.0))

-- no member before it is one of its kind with its name in its type
abbrev pub is_first_member : LayoutOf → ℕ → Bool
is_first_member l m = not (list_any (are_one_member (member_at l m)) (take m l.members))

-- ---- edges

-- an edge: the scope that it leaves, its label, and the scope that it leads to
abbrev pub edge : Scope → ℕ → Scope → Edge
edge s k t = record { from = s; label = k; to = t }

-- a package that stands for none
abbrev pub no_package : PackageRow
no_package = record { parent = None; name = record { 0 = 0 } }

-- the package with this number
abbrev pub package_row_at : LayoutOf → ℕ → PackageRow
package_row_at l p = slice_index_or l.packages p no_package

-- the scope that encloses a package: a package, or the root
abbrev pub parent_scope : Option ℕ → Scope
parent_scope None = root_scope
parent_scope (Some p) = package_scope p

-- PKG: from the root or a package to each package directly in it
abbrev pub package_edge : LayoutOf → ℕ → Edge
package_edge l p = edge (parent_scope (package_row_at l p).parent) PKG (package_scope p)

-- the edges PKG, one for each package
abbrev pub package_edges : LayoutOf → List Edge
package_edges l = map (package_edge l) (below (length l.packages))

-- PKGOF: from each file to its package
abbrev pub file_edge : LayoutOf → ℕ → Edge
file_edge l f = edge (file_scope l f) PKGOF (file_package l f)

-- the edges PKGOF, one for each file
abbrev pub file_edges : LayoutOf → List Edge
file_edges l = map (file_edge l) (below (length l.files))

-- ODI: from each file to `java.lang`, the package of the prelude, which is the first file's
abbrev pub lang_edge : LayoutOf → ℕ → Edge
lang_edge l f = edge (file_scope l f) ODI (file_package l 0)

-- the edges ODI to `java.lang`, one for each file
abbrev pub lang_edges : LayoutOf → List Edge
lang_edges l = map (lang_edge l) (below (length l.files))

-- the types that are no duplicates
abbrev pub first_types : LayoutOf → List ℕ
first_types l = filter (is_first_type l) (below (length l.types))

-- TYPE: from each package or type to the types that it declares, duplicates excepted
abbrev pub type_edge : LayoutOf → ℕ → Edge
type_edge l t = edge (home_of l (type_at l t)) TYPE (type_scope l t)

-- the edges TYPE, one for each type that is no duplicate
abbrev pub type_edges : LayoutOf → List Edge
type_edges l = map (type_edge l) (first_types l)

-- whether a type stands in no body
abbrev pub is_top : LayoutOf → ℕ → Bool
is_top l t = not_nested (type_at l t).owner

-- SELF: from each file to its top-level types, duplicates excepted
abbrev pub self_edge : LayoutOf → ℕ → Edge
self_edge l t = edge (file_scope l (type_at l t).file) SELF (type_scope l t)

-- the edges SELF, one for each top-level type that is no duplicate
abbrev pub self_edges : LayoutOf → List Edge
self_edges l = map (self_edge l) (filter (is_top l) (first_types l))

-- the members that are no duplicates
abbrev pub first_members : LayoutOf → List ℕ
first_members l = filter (is_first_member l) (below (length l.members))

-- FIELD, METH, CTOR: from each type to its members, duplicates excepted
abbrev pub member_edge : LayoutOf → ℕ → Edge
member_edge l m = edge (type_scope l (member_at l m).owner) (label_of (member_at l m).kind) (member_scope l m)

-- the edges FIELD, METH and CTOR, one for each member that is no duplicate
abbrev pub member_edges : LayoutOf → List Edge
member_edges l = map (member_edge l) (first_members l)

-- SIG: from each member to the scope of its signature
abbrev pub signature_edge : LayoutOf → ℕ → Edge
signature_edge l m = edge (member_scope l m) SIG (signature_of_member l m)

-- the edges SIG, one for each member, duplicates among them
abbrev pub signature_edges : LayoutOf → List Edge
signature_edges l = map (signature_edge l) (below (length l.members))

-- ---- data: packages, types and members have their simple names

-- the datum of a package: its name
abbrev pub package_datum : LayoutOf → ℕ → Scope × JavaDatum
package_datum l p = (package_scope p, Package (package_row_at l p).name)

-- the datum of a type: its name
abbrev pub type_datum : LayoutOf → ℕ → Scope × JavaDatum
type_datum l t = (type_scope l t, TypeName (type_at l t).name)

-- the datum of a member: its name
abbrev pub member_datum : LayoutOf → ℕ → Scope × JavaDatum
member_datum l m = (member_scope l m, Member (member_at l m).name)

-- the data of all packages
abbrev pub package_data : LayoutOf → List (Scope × JavaDatum)
package_data l = map (package_datum l) (below (length l.packages))

-- the data of all types
abbrev pub type_data : LayoutOf → List (Scope × JavaDatum)
type_data l = map (type_datum l) (below (length l.types))

-- the data of all members
abbrev pub member_data : LayoutOf → List (Scope × JavaDatum)
member_data l = map (member_datum l) (below (length l.members))

-- ---- holders: first a unit for each file, then one for each type

-- a file's unit holds the rows SIMP and ODI of its file
abbrev pub file_hold : LayoutOf → ℕ → List RowHold
file_hold l f = record { scope = file_scope l f; label = SIMP; unit = f } ∷ record { scope = file_scope l f; label = ODI; unit = f } ∷ []

-- the rows that the units of files hold: SIMP and ODI of each file
abbrev pub file_holds : LayoutOf → List RowHold
file_holds l = flat_map (file_hold l) (below (length l.files))

-- a type's unit holds the row EXT of its type
abbrev pub type_hold : LayoutOf → ℕ → RowHold
type_hold l t = record { scope = type_scope l t; label = EXT; unit = length l.files + t }

-- the rows that the units of types hold: EXT of each type
abbrev pub type_holds : LayoutOf → List RowHold
type_holds l = map (type_hold l) (below (length l.types))

-- and the data of the signatures of its members
abbrev pub signature_hold : LayoutOf → ℕ → DatumHold
signature_hold l m = record { scope = signature_of_member l m; unit = length l.files + (member_at l m).owner }

-- the data that the units of types hold: those of the signatures of all members
abbrev pub signature_holds : LayoutOf → List DatumHold
signature_holds l = map (signature_hold l) (below (length l.members))

-- ---- the whole

-- the opening of a layout: all scopes, edges, data and holds, and one unit for each file and each type
abbrev pub skeleton_of : LayoutOf → OpeningOf JavaDatum
skeleton_of l = record {
  scopes = map scope_at (below (scope_count l));
  edges = package_edges l ++ file_edges l ++ lang_edges l ++ type_edges l ++ self_edges l ++ member_edges l ++ signature_edges l;
  given = package_data l ++ type_data l ++ member_data l;
  row_holds = file_holds l ++ type_holds l;
  datum_holds = signature_holds l;
  units = length l.files + length l.types;
}
