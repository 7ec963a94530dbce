-- What a folder must keep to so that its scopes can be numbered.
use Rattle.std.specs.Prelude.{ℕ, ◌+◌, ◌<◌, ◌≤◌, ◌^◌, nat_le, List, length}
use Rattle.std.specs.List.{sum_by, count_by}
use Rattle.jv_layout.specs.declared.rows.TypeRow.{TypeRow}
use Rattle.jv_tree.specs.DeclTree.{TypeDeclTree, type_decl, nested, field, method, ctor, MemberTrees, no_members, members, UnitTree}
use Rattle.jv_layout.specs.Folder.{clause_of}

-- how many names a declaration declares: types, fields, methods and constructors
abbrev mutual
  -- how many names a class or an interface declares: its own, and those of its body
  pub decl_names : TypeDeclTree → ℕ
  decl_names (type_decl name ms i es is xs) = 1 + body_names xs

  -- how many names members declare: variables of fields, methods, constructors, and nested types with those of their bodies
  pub body_names : MemberTrees → ℕ
  body_names no_members = 0
  body_names (members (nested d) xs) = decl_names d + body_names xs
  body_names (members (field ms t vs) xs) = length vs + body_names xs
  body_names (members (method m) xs) = 1 + body_names xs
  body_names (members (ctor c) xs) = 1 + body_names xs

-- how many names a file declares, with those in its package clause
abbrev pub unit_names : UnitTree → ℕ
unit_names u = length (clause_of u) + sum_by decl_names u.types

-- how many names the files declare
abbrev pub names_declared : List UnitTree → ℕ
names_declared units = sum_by unit_names units

-- at most 4,098 files that declare fewer than 2^28 names
pub record IsFolder (units : List UnitTree) : Type 0 where
  pub files : length units ≤ 4098
  pub few : names_declared units < 2 ^ 28

-- the most types that a folder may declare beside the prelude's
abbrev pub most_types : ℕ
most_types = 32768

-- how many types stand in files behind the first two, which are the prelude's
abbrev pub own_types : List TypeRow → ℕ
own_types rs = count_by (λ r. nat_le 2 r.file) rs
