-- What derives from whole terminals: how deep it nests, and that shallow ones have few pairs of brackets.
use Rattle.std.proofs.Common.{ℕ, ◌≤◌, ◌*◌, List, [], arith, lit<, refl}
use Rattle.jv_tree.specs.ExprTree.{ExprTree, InitTree}
use Rattle.jv_tree.specs.StmtTree.{StmtTree}
use Rattle.jv_tree.specs.DeclTree.{UnitTree}
use Rattle.jv_grammar.specs.declared.terminal.Terminal.{Terminal}
use Rattle.jv_grammar.specs.declared.form.Form.{Form}
use Rattle.jv_grammar.specs.ExprGrammar.{DerivesExpr, DerivesInit}
use Rattle.jv_grammar.specs.StmtGrammar.{DerivesStmt}
use Rattle.jv_grammar.specs.DeclGrammar.{Derives}
use Rattle.jv_grammar.specs.Load.{IsShallow}
use Rattle.jv_grammar.specs.NestingLaw.{TypesHaveFewPairs, ExpressionsHaveFewPairs, InitializersHaveFewPairs, StatementsHaveFewPairs, AreLoadsAtMost, ExpressionsNestByTheLoad, InitializersNestByTheLoad, StatementsNestByTheLoad, FilesNestByTheLoad, FewLevelsReadExpressions, FewLevelsReadInitializers, FewLevelsReadStatements, FewLevelsReadFiles}
use Rattle.jv_grammar.proofs.Depth.{deep_expr, deep_init}
use Rattle.jv_grammar.proofs.StmtDepth.{deep_stmt}
use Rattle.jv_grammar.proofs.DeclDepth.{deep_file}
use Rattle.jv_grammar.proofs.Complete.{reads_expr, reads_init}
use Rattle.jv_grammar.proofs.StmtComplete.{reads_stmt}
use Rattle.jv_grammar.proofs.DeclComplete.{reads_file}
use Rattle.jv_grammar.proofs.Shallow.{loads_are_low, shallow_has_few}
use Rattle.jv_grammar.proofs.Few.{few_ty, few_expr, few_init}
use Rattle.jv_grammar.proofs.StmtFew.{few_stmt}
use Rattle.jv_grammar.proofs.DeclFew.{few_file}
use Rattle.jv_grammar.proofs.Stretches.{whole_nests, whole_parts}
use Rattle.jv_grammar.proofs.Nested.{nests_expr, parts_init}
use Rattle.jv_grammar.proofs.StmtNested.{nests_stmt}
use Rattle.jv_grammar.proofs.DeclNested.{parts_file}

pub few_in_type : TypesHaveFewPairs
few_in_type xs ys r d s = few_ty (shallow_has_few xs s) d

pub few_in_expr : ExpressionsHaveFewPairs
few_in_expr xs ys f e d s = few_expr (shallow_has_few xs s) d

pub few_in_init : InitializersHaveFewPairs
few_in_init xs ys i d s = few_init (shallow_has_few xs s) d

pub few_in_stmt : StatementsHaveFewPairs
few_in_stmt xs ys x d s = few_stmt (shallow_has_few xs s) d

-- a derivation nests at most twice as deep as the highest load says
pub deep_in_expr : (xs ys : List Terminal) (most : ℕ) (f : Form) (e : ExprTree) (d : DerivesExpr f e xs ys) → AreLoadsAtMost most xs → deep_expr d ≤ 2 * most
deep_in_expr xs ys most f e d h = omega (arith, whole_nests h (nests_expr refl d))

pub deep_in_init : (xs ys : List Terminal) (most : ℕ) (i : InitTree) (d : DerivesInit i xs ys) → AreLoadsAtMost most xs → deep_init d ≤ 2 * most
deep_in_init xs ys most i d h = omega (arith, whole_parts h (parts_init refl d))

pub deep_in_stmt : (xs ys : List Terminal) (most : ℕ) (x : StmtTree) (d : DerivesStmt x xs ys) → AreLoadsAtMost most xs → deep_stmt d ≤ 2 * most
deep_in_stmt xs ys most x d h = omega (arith, whole_nests h (nests_stmt d))

pub deep_in_file : (xs : List Terminal) (most : ℕ) (u : UnitTree) (d : Derives xs u) → AreLoadsAtMost most xs → deep_file d ≤ 2 * most
deep_in_file xs most u d h = omega (arith, whole_parts h (parts_file d))

-- readers that may nest so deep
pub reads_whole_expr : ExpressionsNestByTheLoad
reads_whole_expr xs most n f e s h l d = reads_expr n d (omega (arith, l, deep_in_expr xs [] most f e d h)) (few_expr (shallow_has_few xs s) d) (lit< tt)

pub reads_whole_init : InitializersNestByTheLoad
reads_whole_init xs most n i s h l d = reads_init n d (omega (arith, l, deep_in_init xs [] most i d h)) (few_init (shallow_has_few xs s) d) (lit< tt)

pub reads_whole_stmt : StatementsNestByTheLoad
reads_whole_stmt xs ys most n x s h l d = reads_stmt n d (omega (arith, l, deep_in_stmt xs ys most x d h)) (few_stmt (shallow_has_few xs s) d)

pub reads_whole_file : FilesNestByTheLoad
reads_whole_file xs most n u s h l d = reads_file n d (omega (arith, l, deep_in_file xs most u d h)) (few_file (shallow_has_few xs s) d)

-- the highest load of shallow terminals
pub at_most_200 : (xs : List Terminal) → IsShallow xs → AreLoadsAtMost 200 xs
at_most_200 xs s i load = loads_are_low xs i load s

pub reads_shallow_expr : FewLevelsReadExpressions
reads_shallow_expr xs n f e s l d = reads_whole_expr xs 200 n f e s (at_most_200 xs s) (omega (arith, l)) d

pub reads_shallow_init : FewLevelsReadInitializers
reads_shallow_init xs n i s l d = reads_whole_init xs 200 n i s (at_most_200 xs s) (omega (arith, l)) d

pub reads_shallow_stmt : FewLevelsReadStatements
reads_shallow_stmt xs ys n x s l d = reads_whole_stmt xs ys 200 n x s (at_most_200 xs s) (omega (arith, l)) d

pub reads_shallow_file : FewLevelsReadFiles
reads_shallow_file xs n u s l d = reads_whole_file xs 200 n u s (at_most_200 xs s) (omega (arith, l)) d
