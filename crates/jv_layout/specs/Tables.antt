-- What the tables of a layout keep to.
use Rattle.std.specs.Prelude.{◌≡◌, ◌<◌, ◌^◌, List, length, map}
use Rattle.jv_tree.specs.DeclTree.{import_tree}
use Rattle.jv_layout.specs.declared.tables.Layout.TheInside.{Inside}
use Rattle.jv_layout.specs.Folder.{LayoutOf}
use Rattle.sg_base.specs.declared.scope.Scope.{Scope}
use Rattle.jv_layout.specs.Scopes.{scope_count, member_scope}
use Rattle.jv_layout.specs.Linked.{IsLinked}
use Rattle.jv_layout.specs.Readers.{types_of, members_of_type}
use Rattle.jv_layout.specs.Skeleton.{below}

-- what contracts see of the tables
abbrev pub layout_in : Inside → LayoutOf
layout_in a = record {
  packages = a.packages.items;
  files = a.files.items;
  types = a.types.items;
  members = a.members.items;
  statics = map (λ v. map import_tree v.items) a.statics.items;
}

-- the scopes of the members of each type
abbrev pub members_by_type : LayoutOf → List (List Scope)
members_by_type l = map (λ t. map (member_scope l) (members_of_type l t)) (below (length l.types))

-- the rows name one another, there are few scopes, and what is kept beside the rows is as the readers say
pub record IsTables (a : Inside) : Type 0 where
  pub linked : IsLinked (layout_in a)
  pub few : scope_count (layout_in a) < 2 ^ 31
  pub type_scopes : a.type_scopes.items ≡ types_of (layout_in a)
  pub member_scopes : map (λ v. v.items) a.member_scopes.items ≡ members_by_type (layout_in a)
