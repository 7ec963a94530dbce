use Rattle.std.proofs.Common.{subst}
use Rattle.jv_tree.specs.DeclTree.{TypeDeclTree, type_decl_tree}
use Rattle.jv_grammar.specs.Reader.{Reads}
use Rattle.jv_parse_expr.specs.View.{Gives}
use Rattle.jv_parse.proofs.MemberTurns.{type_behind, type_failed}
use Rattle.jv_parse.proofs.declarations.files.top_type.Goals as goal

pub returns-in-Err : goal.returns-in-Err
returns-in-Err c = type_failed c.args.fuel c.args.terminals.now c.in-Err.fault c.in-Err.ensures

pub returns : goal.returns
returns c =
    subst (λ (r : Reads TypeDeclTree). Gives (λ q. (type_decl_tree q.0, q.1.now)) c.type_declaration.result r)
    (type_behind c.args.fuel c.in-Ok.read.0.words.items c.args.terminals.now c.in-Ok.read.1.now c.in-Ok.ensures)
    c.type_declaration.ensures
