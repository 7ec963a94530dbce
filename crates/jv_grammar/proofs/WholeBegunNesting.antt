-- How deep what begins from whole terminals nests: at most twice as deep as the highest load says.
use Rattle.std.proofs.Common.{arith}
use Rattle.jv_grammar.proofs.BegunNestingLaw.{BegunExpressionsAreNotDeep, BegunStatementsAreNotDeep, BegunFilesAreNotDeep, ShallowBegunFilesAreNotDeep}
use Rattle.jv_grammar.proofs.WholeNesting.{at_most_200}
use Rattle.jv_grammar.proofs.BegunStretches.{whole_begun, whole_begun_parts}
use Rattle.jv_grammar.proofs.BegunNested.{nests_begun_expr}
use Rattle.jv_grammar.proofs.StmtBegunNested.{nests_begun_stmt}
use Rattle.jv_grammar.proofs.DeclBegunNested.{parts_begun_file}

pub begun_expr_not_deep : BegunExpressionsAreNotDeep
begun_expr_not_deep xs most d h = omega (arith, whole_begun h (nests_begun_expr d))

pub begun_stmt_not_deep : BegunStatementsAreNotDeep
begun_stmt_not_deep xs most d h = omega (arith, whole_begun h (nests_begun_stmt d))

pub begun_file_not_deep : BegunFilesAreNotDeep
begun_file_not_deep xs most d h = omega (arith, whole_begun_parts h (parts_begun_file d))

pub shallow_begun_not_deep : ShallowBegunFilesAreNotDeep
shallow_begun_not_deep xs d s = omega (arith, begun_file_not_deep xs 200 d (at_most_200 xs s))
