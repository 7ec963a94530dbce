use Rattle.std.proofs.Common.{◌≡◌, ◌||◌, map, drop}
use Rattle.std.specs.Prelude.{◌==◌}
use Rattle.std.specs.List.{list_any}
use Rattle.jv_tree.specs.declared.names.NameId.{NameId}
use Rattle.jv_tree.specs.DeclTree.{type_decl_tree}
use Rattle.jv_header.specs.Imports.{declares}
use Rattle.jv_header.proofs.clashes.own_names.Given as goal

-- a type has a name exactly if that is put in, or one of the types that are left has it
abbrev pub invariant-loop-decl : goal.invariant-loop-decl
invariant-loop-decl l = (n : NameId) → declares (map type_decl_tree l.types) n ≡ (list_any (λ k. n.0 == k.0) l.own.keys || declares (map type_decl_tree (drop l.decl-index l.types)) n)
