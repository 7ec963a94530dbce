-- A layout by its rows.
use Rattle.std.specs.Prelude.{ℕ, ◌+◌, ◌==◌, List, map, Option}
use Rattle.std.specs.List.{filter, range_with_len, slice_index_or}
use Rattle.sg_base.specs.declared.scope.Scope.{Scope}
use Rattle.jv_tree.specs.DeclTree.{ImportTree}
use Rattle.jv_layout.specs.declared.rows.PackageRow.{PackageRow}
use Rattle.jv_layout.specs.declared.rows.TypeRow.{TypeRow}
use Rattle.jv_layout.specs.declared.rows.MemberRow.{MemberRow}
use Rattle.jv_layout.specs.Folder.{LayoutOf}
use Rattle.jv_layout.specs.Readers.{no_member}
use Rattle.jv_layout.specs.Scopes.{scope_at}

-- the layout that has these rows and these static imports of each file
abbrev pub layout_by : List PackageRow → List (Option ℕ) → List TypeRow → List MemberRow → List (List ImportTree) → LayoutOf
layout_by packages files types members statics = record { packages = packages; files = files; types = types; members = members; statics = statics }

-- the scopes of the members of one type among the first n rows; the first of all members has the scope with the first number
abbrev pub owned : List MemberRow → ℕ → ℕ → ℕ → List Scope
owned rows first t n = map (λ m. scope_at (first + m)) (filter (λ m. (slice_index_or rows m no_member).owner == t) (range_with_len 0 n))
