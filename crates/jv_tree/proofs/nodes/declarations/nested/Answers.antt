use Rattle.std.proofs.Common.{ap, map}
use Rattle.jv_tree.specs.TypeTree.{ids_of}
use Rattle.jv_tree.specs.DeclTree.{nested, type_decl}
use Rattle.jv_tree.proofs.Rows.{members_made}
use Rattle.jv_tree.proofs.nodes.declarations.nested.Goals as goal

pub returns : goal.returns
returns c =
    let d = c.args.decl in
    ap (λ t. nested (type_decl d.name d.mods.words.items d.interface (map ids_of d.extends.items) (map ids_of d.implements.items) t)) (members_made d.members)
