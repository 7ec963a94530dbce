use Rattle.std.proofs.Common.{◌≤◌, length, map, sym, ◌∙◌, arith}
use Rattle.std.specs.Prelude.{min}
use Rattle.jv_tree.specs.DeclTree.{type_decl_tree}
use Rattle.jv_header.proofs.Adding.{behind_one}
use Rattle.jv_header.proofs.Importing.{imports_over}
use Rattle.jv_header.proofs.imports.imports_by.Goals as goal

pub returns : goal.returns
returns c =
    let imports = c.args.unit.now.imports.items in
    let found = c.args.found.now in
    let past : min (length imports) (length found) ≤ c.loop-i.i = omega (arith, c.min-i-end.ensures, c.loop-i-test.false) in
    sym (c.loop-i.invariant.given ∙ imports_over c.args.l.now c.args.names.now c.args.file (map type_decl_tree c.args.unit.now.types.items) c.loop-i.w imports found c.loop-i.i (behind_one (length imports) (length found) c.loop-i.i past))
