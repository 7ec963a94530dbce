-- What the rules of members look at in a graph: the answers to their own queries, and nothing else.
use Rattle.std.specs.Prelude.{ℕ, List}
use Rattle.sg_base.specs.declared.scope.Scope.{Scope}
use Rattle.jv_layout.specs.Folder.{LayoutOf}
use Rattle.jv_tree.specs.declared.names.NameId.{NameId}
use Rattle.jv_names.specs.Law.{ReadsOnlyItsQueries}
use Rattle.jv_member.specs.Own.{OwnMember}
use Rattle.jv_member.specs.Signatures.{signature_rule}

-- the rule of the signature of a member, from its declaration, looks at a graph by its own queries alone
abbrev pub SignaturesReadOnlyTheirQueries : Type 0
SignaturesReadOnlyTheirQueries = (l : LayoutOf) (names : List (List ℕ)) (c : Scope) (class : NameId) (m : OwnMember) → ReadsOnlyItsQueries (signature_rule l names c class m)
