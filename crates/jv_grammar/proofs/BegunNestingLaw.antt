-- How deep what begins nests: at most twice as deep as the highest load says, and rows of brackets are short, by the load.
use Rattle.std.specs.Prelude.{ℕ, ◌≤◌, ◌*◌, List}
use Rattle.jv_grammar.specs.declared.terminal.Terminal.{Terminal}
use Rattle.jv_grammar.specs.Load.{IsShallow}
use Rattle.jv_grammar.specs.NestingLaw.{AreLoadsAtMost}
use Rattle.jv_grammar.specs.ExprBegins.{BeginsExpr}
use Rattle.jv_grammar.specs.StmtBegins.{BeginsStmt}
use Rattle.jv_grammar.specs.DeclBegins.{Begins}
use Rattle.jv_grammar.proofs.BegunDepth.{begun_deep_expr, begun_deep_stmt, begun_deep_file}

abbrev pub BegunExpressionsAreNotDeep : Type 0
BegunExpressionsAreNotDeep = (xs : List Terminal) (most : ℕ) (d : BeginsExpr xs) → AreLoadsAtMost most xs → begun_deep_expr d ≤ 2 * most

abbrev pub BegunStatementsAreNotDeep : Type 0
BegunStatementsAreNotDeep = (xs : List Terminal) (most : ℕ) (d : BeginsStmt xs) → AreLoadsAtMost most xs → begun_deep_stmt d ≤ 2 * most

abbrev pub BegunFilesAreNotDeep : Type 0
BegunFilesAreNotDeep = (xs : List Terminal) (most : ℕ) (d : Begins xs) → AreLoadsAtMost most xs → begun_deep_file d ≤ 2 * most

-- so what begins from shallow terminals nests at most 400 deep
abbrev pub ShallowBegunFilesAreNotDeep : Type 0
ShallowBegunFilesAreNotDeep = (xs : List Terminal) (d : Begins xs) → IsShallow xs → begun_deep_file d ≤ 400
