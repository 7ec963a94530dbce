-- What the rule of members looks at in a graph: the answers to its own queries, and nothing else.
use Rattle.std.specs.Prelude.{ℕ, List}
use Rattle.sg_base.specs.declared.scope.Scope.{Scope}
use Rattle.jv_layout.specs.Folder.{LayoutOf}
use Rattle.jv_tree.specs.DeclTree.{TypeDeclTree}
use Rattle.jv_names.specs.Law.{ReadsOnlyItsQueries}
use Rattle.jv_member.specs.Members.{members_rule}

-- the rule of all members of a type looks at a graph by its own queries alone
abbrev pub MembersReadOnlyTheirQueries : Type 0
MembersReadOnlyTheirQueries = (l : LayoutOf) (names : List (List ℕ)) (c : Scope) (d : TypeDeclTree) → ReadsOnlyItsQueries (members_rule l names c d)
