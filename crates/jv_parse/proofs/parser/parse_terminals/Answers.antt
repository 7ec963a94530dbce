use Rattle.std.proofs.Common.{◌≡◌, Some, subst}
use Rattle.jv_tree.specs.DeclTree.{tree_of}
use Rattle.jv_grammar.specs.DeclReader.{file_of}
use Rattle.jv_parse_expr.specs.View.{Fails, left}
use Rattle.jv_parse.proofs.Answered.{tree_read, none_read, refused_place}
use Rattle.jv_parse.proofs.parser.parse_terminals.Goals as goal

pub returns-in-Some : goal.returns-in-Some
returns-in-Some c = (c.first_deep.ensures.deep c.in-Some.token).0 c.in-Some.is

pub returns-in-Ok : goal.returns-in-Ok
returns-in-Ok c =
    tree_read c.args.terminals.now 400 (tree_of c.in-Ok.unit) (c.first_deep.ensures.shallow.0 c.in_default.is) c.readers_find_trees.ensures.derive c.shallow_files_derive_once.ensures.once c.in-Ok.ensures

pub returns-in-Err-Refused : goal.returns-in-Err-Refused
returns-in-Err-Refused c =
    let refused : left (file_of 400 c.args.terminals.now) ≡ Some c.in-Err-Refused.left =
    subst (λ e. Fails e (file_of 400 c.args.terminals.now)) c.in-Err-Refused.field-0-is c.in-Err-Refused.ensures in
    let shallow : _ = c.first_deep.ensures.shallow.0 c.in_default.is in (
      none_read c.args.terminals.now c.in-Err-Refused.left shallow c.readers_need_few_levels.ensures.files refused,
      (refused_place c.args.terminals.now c.in-Err-Refused.left shallow c.refused_files_are_refused_there.ensures.there refused).1,
    )
