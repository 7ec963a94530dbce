-- What the tables of declarations keep to.
use Rattle.std.specs.Prelude.{◌≡◌, List}
use Rattle.std.specs.List.{list_any}
use Rattle.sg_base.specs.declared.scope.Scope.{Scope}
use Rattle.jv_instance.specs.declared.labels.TheConstants.{PKG}
use Rattle.jv_tree.specs.declared.names.NameId.{NameId}
use Rattle.jv_layout.specs.declared.declarations.Declarations.TheInside.{Inside}
use Rattle.jv_layout.specs.declared.firsts.Key.{Key}
use Rattle.jv_layout.specs.declared.rows.PackageRow.{PackageRow}
use Rattle.jv_layout.specs.Duplicates.{is_subpackage, repeated_types, repeated_members}
use Rattle.jv_layout.specs.Keys.{is_key}

-- the key of a package by its name and the scope directly in which it stands
abbrev pub package_key : Scope → NameId → Key
package_key s n = record { home = s; label = PKG; name = n }

-- keys have that of a package directly in a scope under a name exactly if a package stands there
abbrev pub IsPackages : List PackageRow → List Key → Type 0
IsPackages rows keys = (s : Scope) (n : NameId) → list_any (is_key (package_key s n)) keys ≡ list_any (is_subpackage s n) rows

-- which types and members are duplicates, and which packages there are
pub record IsDeclarations (a : Inside) : Type 0 where
  pub types : a.repeated_types.items ≡ repeated_types a.layout.value
  pub members : a.repeated_members.items ≡ repeated_members a.layout.value
  pub packages : IsPackages a.layout.value.packages a.packages.keys
