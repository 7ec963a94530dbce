-- How deep shallow terminals nest: what the load bounds in the derivations from them, and so in the readers.
use Rattle.std.specs.Prelude.{◌≡◌, ℕ, ◌≤◌, ◌*◌, List, [], Ok, Some, slice_get}
use Rattle.jv_tree.specs.TypeTree.{TypeTree}
use Rattle.jv_tree.specs.ExprTree.{ExprTree, InitTree}
use Rattle.jv_tree.specs.StmtTree.{StmtTree}
use Rattle.jv_tree.specs.DeclTree.{UnitTree}
use Rattle.jv_grammar.specs.declared.terminal.Terminal.{Terminal}
use Rattle.jv_grammar.specs.declared.form.Form.{Form}
use Rattle.jv_grammar.specs.TypeGrammar.{DerivesTy}
use Rattle.jv_grammar.specs.ExprGrammar.{DerivesExpr, DerivesInit}
use Rattle.jv_grammar.specs.StmtGrammar.{DerivesStmt}
use Rattle.jv_grammar.specs.DeclGrammar.{Derives}
use Rattle.jv_grammar.specs.ExprReader.{expr_of, init_of, below}
use Rattle.jv_grammar.specs.StmtReader.{stmt_of}
use Rattle.jv_grammar.specs.DeclReader.{file_of}
use Rattle.jv_grammar.specs.Depth.{deep_expr, deep_init, deep_stmt, deep_file}
use Rattle.jv_grammar.specs.Width.{wide_ty, wide_expr, wide_init}
use Rattle.jv_grammar.specs.StmtWidth.{wide_stmt}
use Rattle.jv_grammar.specs.Law.{read_expr, read_init}
use Rattle.jv_grammar.specs.Load.{loads_of, IsShallow}

-- no type that derives from shallow terminals, or from a front of them, has more than 200 pairs of brackets
abbrev pub TypesHaveFewPairs : Type 0
TypesHaveFewPairs = (xs ys : List Terminal) (r : TypeTree) (d : DerivesTy r xs ys) → IsShallow xs → wide_ty d ≤ 200

-- no type in an expression that derives from a front of shallow terminals has more than 200 pairs of brackets
abbrev pub ExpressionsHaveFewPairs : Type 0
ExpressionsHaveFewPairs = (xs ys : List Terminal) (f : Form) (e : ExprTree) (d : DerivesExpr f e xs ys) → IsShallow xs → wide_expr d ≤ 200

-- no type in an initializer that derives from a front of shallow terminals has more than 200 pairs of brackets
abbrev pub InitializersHaveFewPairs : Type 0
InitializersHaveFewPairs = (xs ys : List Terminal) (i : InitTree) (d : DerivesInit i xs ys) → IsShallow xs → wide_init d ≤ 200

-- no type in a statement that derives from a front of shallow terminals has more than 200 pairs of brackets
abbrev pub StatementsHaveFewPairs : Type 0
StatementsHaveFewPairs = (xs ys : List Terminal) (x : StmtTree) (d : DerivesStmt x xs ys) → IsShallow xs → wide_stmt d ≤ 200

-- the load after each terminal is at most a number
abbrev pub AreLoadsAtMost : ℕ → List Terminal → Type 0
AreLoadsAtMost most xs = (i load : ℕ) → slice_get (loads_of xs) i ≡ Some load → load ≤ most

-- what derives from terminals, or from a front of them, nests at most twice as deep as their highest load says
abbrev pub ExpressionsAreNotDeep : Type 0
ExpressionsAreNotDeep = (xs ys : List Terminal) (most : ℕ) (f : Form) (e : ExprTree) (d : DerivesExpr f e xs ys) → AreLoadsAtMost most xs → deep_expr d ≤ 2 * most

-- an initializer that derives from a front of terminals nests at most twice as deep as their highest load says
abbrev pub InitializersAreNotDeep : Type 0
InitializersAreNotDeep = (xs ys : List Terminal) (most : ℕ) (i : InitTree) (d : DerivesInit i xs ys) → AreLoadsAtMost most xs → deep_init d ≤ 2 * most

-- a statement that derives from a front of terminals nests at most twice as deep as their highest load says
abbrev pub StatementsAreNotDeep : Type 0
StatementsAreNotDeep = (xs ys : List Terminal) (most : ℕ) (x : StmtTree) (d : DerivesStmt x xs ys) → AreLoadsAtMost most xs → deep_stmt d ≤ 2 * most

-- a file that derives from terminals nests at most twice as deep as their highest load says
abbrev pub FilesAreNotDeep : Type 0
FilesAreNotDeep = (xs : List Terminal) (most : ℕ) (u : UnitTree) (d : Derives xs u) → AreLoadsAtMost most xs → deep_file d ≤ 2 * most

-- what derives from shallow terminals nests at most twice as deep as their highest load says: readers that may nest so deep give it
abbrev pub ExpressionsNestByTheLoad : Type 0
ExpressionsNestByTheLoad = (xs : List Terminal) (most n : ℕ) (f : Form) (e : ExprTree) → IsShallow xs → AreLoadsAtMost most xs → 2 * most ≤ n → DerivesExpr f e xs [] → expr_of (below n) xs ≡ read_expr f e

-- readers that may nest twice as deep as the highest load of shallow terminals give the initializer that derives from them
abbrev pub InitializersNestByTheLoad : Type 0
InitializersNestByTheLoad = (xs : List Terminal) (most n : ℕ) (i : InitTree) → IsShallow xs → AreLoadsAtMost most xs → 2 * most ≤ n → DerivesInit i xs [] → init_of (below n) xs ≡ read_init i

-- readers that may nest twice as deep as the highest load of shallow terminals give the statement that derives from a front of them
abbrev pub StatementsNestByTheLoad : Type 0
StatementsNestByTheLoad = (xs ys : List Terminal) (most n : ℕ) (x : StmtTree) → IsShallow xs → AreLoadsAtMost most xs → 2 * most ≤ n → DerivesStmt x xs ys → stmt_of n xs ≡ Ok (x, ys)

-- readers that may nest twice as deep as the highest load of shallow terminals give the file that derives from them
abbrev pub FilesNestByTheLoad : Type 0
FilesNestByTheLoad = (xs : List Terminal) (most n : ℕ) (u : UnitTree) → IsShallow xs → AreLoadsAtMost most xs → 2 * most ≤ n → Derives xs u → file_of n xs ≡ Ok u

-- so 400 levels are enough for all shallow terminals
abbrev pub FewLevelsReadExpressions : Type 0
FewLevelsReadExpressions = (xs : List Terminal) (n : ℕ) (f : Form) (e : ExprTree) → IsShallow xs → 400 ≤ n → DerivesExpr f e xs [] → expr_of (below n) xs ≡ read_expr f e

-- readers that may nest 400 levels deep give the initializer that derives from shallow terminals
abbrev pub FewLevelsReadInitializers : Type 0
FewLevelsReadInitializers = (xs : List Terminal) (n : ℕ) (i : InitTree) → IsShallow xs → 400 ≤ n → DerivesInit i xs [] → init_of (below n) xs ≡ read_init i

-- readers that may nest 400 levels deep give the statement that derives from a front of shallow terminals
abbrev pub FewLevelsReadStatements : Type 0
FewLevelsReadStatements = (xs ys : List Terminal) (n : ℕ) (x : StmtTree) → IsShallow xs → 400 ≤ n → DerivesStmt x xs ys → stmt_of n xs ≡ Ok (x, ys)

-- readers that may nest 400 levels deep give the file that derives from shallow terminals
abbrev pub FewLevelsReadFiles : Type 0
FewLevelsReadFiles = (xs : List Terminal) (n : ℕ) (u : UnitTree) → IsShallow xs → 400 ≤ n → Derives xs u → file_of n xs ≡ Ok u
