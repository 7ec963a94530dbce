use Rattle.std.proofs.Common.{map, sym, ◌∙◌}
use Rattle.jv_tree.specs.DeclTree.{type_decl_tree}
use Rattle.jv_header.proofs.Importing.{on_ok_more, single_given}
use Rattle.jv_header.proofs.imports.add_single.Goals as goal

pub returns-clause-given : goal.returns-clause-given
returns-clause-given c =
    let w = c.args.w.now in
    let name = c.last_name-name.result in
    on_ok_more c.bring_unless.result
    (λ given. single_given c.args.l.now c.args.names.now c.args.file (map type_decl_tree c.args.unit.now.types.items) w c.w.inside.singles.items c.w.inside.on_demand c.w.inside.diags c.args.ids.now c.args.s c.hides_own-hides_own.result c.is_taken-taken.result name
    c.bring_unless.new.singles.items c.add_clashes.new.diags c.w.view_is c.last_name-name.ensures c.hides_own-hides_own.ensures (c.is_taken-taken.ensures ∙ sym (c.requires.before name c.args.s)) given c.in_ok-add_clashes.ensures)
    c.bring_unless.ensures.singles
