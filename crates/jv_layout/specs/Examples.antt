-- Small layouts, and the graphs with which their runs begin, by hand.
use Rattle.std.specs.Prelude.{◌≡◌, ℕ, false, [], ◌∷◌, Option, None, Some}
use Rattle.sg_base.specs.Graph.{Edge}
use Rattle.sg_state.specs.Held.{RowHold, DatumHold}
use Rattle.jv_instance.specs.declared.datum.JavaDatum.TheVariants.{TypeName, Member}
use Rattle.jv_instance.specs.declared.labels.TheConstants.{PKG, TYPE, SELF, SIMP, PKGOF, ODI, EXT, FIELD, METH, CTOR, SIG}
use Rattle.jv_tree.specs.declared.names.NameId.{NameId}
use Rattle.jv_layout.specs.declared.rows.PackageRow.{PackageRow}
use Rattle.jv_layout.specs.declared.rows.TypeRow.{TypeRow}
use Rattle.jv_layout.specs.declared.rows.MemberRow.{MemberRow}
use Rattle.jv_layout.specs.declared.rows.MemberKind.{MemberKind}
use Rattle.jv_layout.specs.declared.rows.MemberKind.TheVariants.{Field, Method, DefaultCtor}
use Rattle.jv_layout.specs.Folder.{LayoutOf, no_modifiers}
use Rattle.jv_layout.specs.Scopes.{scope_at}
use Rattle.jv_layout.specs.Skeleton.{skeleton_of}

-- a name, a package, a class and a member
abbrev name : ℕ → NameId
name n = record { 0 = n }

abbrev package_within : Option ℕ → ℕ → PackageRow
package_within parent n = record { parent = parent; name = name n }

abbrev class_in : ℕ → Option ℕ → ℕ → ℕ → TypeRow
class_in file owner top n = record { file = file; owner = owner; top = top; name = name n; modifiers = no_modifiers; interface = false }

abbrev member_of : ℕ → MemberKind → ℕ → MemberRow
member_of owner kind n = record { owner = owner; kind = kind; name = name n; modifiers = no_modifiers }

-- an edge and a hold, by the numbers of scopes
abbrev joins : ℕ → ℕ → ℕ → Edge
joins s k t = record { from = scope_at s; label = k; to = scope_at t }

abbrev holds_row : ℕ → ℕ → ℕ → RowHold
holds_row u s k = record { scope = scope_at s; label = k; unit = u }

abbrev holds_datum : ℕ → ℕ → DatumHold
holds_datum u s = record { scope = scope_at s; unit = u }

-- one file in the unnamed package, `class A { int x; }`, where A has the name 7 and x the name 9
abbrev pub one_class : LayoutOf
one_class = record {
  packages = [];
  files = None ∷ [];
  types = class_in 0 None 0 7 ∷ [];
  members = member_of 0 DefaultCtor 7 ∷ member_of 0 Field 9 ∷ [];
  statics = [] ∷ [];
}

-- its scopes are the root, the unnamed package, the file, A, its constructor and x, and the signatures of these two
abbrev pub OneClass : Type 0
OneClass =
    skeleton_of one_class ≡ record {
      scopes = scope_at 0 ∷ scope_at 1 ∷ scope_at 2 ∷ scope_at 3 ∷ scope_at 4 ∷ scope_at 5 ∷ scope_at 6 ∷ scope_at 7 ∷ [];
      edges =
          joins 2 PKGOF 1
          ∷ joins 2 ODI 1
          ∷ joins 1 TYPE 3
          ∷ joins 2 SELF 3
          ∷ joins 3 CTOR 4
          ∷ joins 3 FIELD 5
          ∷ joins 4 SIG 6
          ∷ joins 5 SIG 7
          ∷ [];
      given = (scope_at 3, TypeName (name 7)) ∷ (scope_at 4, Member (name 7)) ∷ (scope_at 5, Member (name 9)) ∷ [];
      row_holds = holds_row 0 2 SIMP ∷ holds_row 0 2 ODI ∷ holds_row 1 3 EXT ∷ [];
      datum_holds = holds_datum 1 6 ∷ holds_datum 1 7 ∷ [];
      units = 2;
    }

-- packages 1 and 1.2; a file in 1.2 with a class 3, in which a class 4 has two methods 6; and a file in the unnamed package with
-- two classes 5; each class but 4 with a default constructor
abbrev pub two_files : LayoutOf
two_files = record {
  packages = package_within None 1 ∷ package_within (Some 0) 2 ∷ [];
  files = Some 1 ∷ None ∷ [];
  types = class_in 0 None 0 3 ∷ class_in 0 (Some 0) 0 4 ∷ class_in 1 None 2 5 ∷ class_in 1 None 3 5 ∷ [];
  members = member_of 0 DefaultCtor 3 ∷ member_of 1 Method 6 ∷ member_of 1 Method 6 ∷ member_of 2 DefaultCtor 5 ∷ member_of 3 DefaultCtor 5 ∷ [];
  statics = [] ∷ [] ∷ [];
}

-- the second class 5 gets no edge from its package and its file, and the second method 6 none from its class
abbrev pub TwoFiles : Type 0
TwoFiles =
    (skeleton_of two_files).edges
    ≡ joins 0 PKG 2
    ∷ joins 2 PKG 3
    ∷ joins 4 PKGOF 3
    ∷ joins 5 PKGOF 1
    ∷ joins 4 ODI 3
    ∷ joins 5 ODI 3
    ∷ joins 3 TYPE 6
    ∷ joins 6 TYPE 7
    ∷ joins 1 TYPE 8
    ∷ joins 4 SELF 6
    ∷ joins 5 SELF 8
    ∷ joins 6 CTOR 10
    ∷ joins 7 METH 11
    ∷ joins 8 CTOR 13
    ∷ joins 9 CTOR 14
    ∷ joins 10 SIG 15
    ∷ joins 11 SIG 16
    ∷ joins 12 SIG 17
    ∷ joins 13 SIG 18
    ∷ joins 14 SIG 19
    ∷ []
