-- What the grammar of expressions implies: at most one tree derives, and the readers find it.
use Rattle.std.specs.Prelude.{◌≡◌, ℕ, ◌≤◌, List, [], length, Ok}
use Rattle.jv_tree.specs.TypeTree.{TypeTree}
use Rattle.jv_tree.specs.ExprTree.{ExprTree, InitTree}
use Rattle.jv_tree.specs.Shaped.{IsType, IsEffect, IsShapedExpr, IsShapedInit}
use Rattle.jv_grammar.specs.declared.terminal.Terminal.{Terminal}
use Rattle.jv_grammar.specs.declared.form.Form.{Form}
use Rattle.jv_grammar.specs.declared.form.Form.TheVariants.{Effect}
use Rattle.jv_grammar.specs.TypeGrammar.{DerivesTy}
use Rattle.jv_grammar.specs.ExprGrammar.{DerivesExpr, DerivesInit}
use Rattle.jv_grammar.specs.Reader.{Reads}
use Rattle.jv_grammar.specs.TypeReader.{ty_of}
use Rattle.jv_grammar.specs.ExprReader.{Parsed, expr_of, init_of, below}
use Rattle.jv_grammar.specs.Load.{IsShallow}

-- shallow terminals derive at most one expression, of one form
abbrev pub ExpressionsDeriveOnce : Type 0
ExpressionsDeriveOnce = (xs : List Terminal) (f g : Form) (e o : ExprTree) → IsShallow xs → DerivesExpr f e xs [] → DerivesExpr g o xs [] → (f ≡ g) × (e ≡ o)

-- shallow terminals derive at most one initializer, and at most one type
abbrev pub InitializersDeriveOnce : Type 0
InitializersDeriveOnce = (xs : List Terminal) (i j : InitTree) → IsShallow xs → DerivesInit i xs [] → DerivesInit j xs [] → i ≡ j

-- shallow terminals derive at most one type
abbrev pub TypesDeriveOnce : Type 0
TypesDeriveOnce = (xs : List Terminal) (r s : TypeTree) → IsShallow xs → DerivesTy r xs [] → DerivesTy s xs [] → r ≡ s

-- what is read where nothing is left
abbrev pub read_expr : Form → ExprTree → Reads Parsed
read_expr f e = Ok ((f, e), [])

-- an initializer that is read where nothing is left
abbrev pub read_init : InitTree → Reads InitTree
read_init i = Ok (i, [])

-- what shallow terminals derive is what the readers give, where they may nest as deep as there are terminals
abbrev pub ReadersFindExpressions : Type 0
ReadersFindExpressions = (xs : List Terminal) (n : ℕ) (f : Form) (e : ExprTree) → IsShallow xs → length xs ≤ n → DerivesExpr f e xs [] → expr_of (below n) xs ≡ read_expr f e

-- the initializer that shallow terminals derive is what the reader gives, where it may nest as deep as there are terminals
abbrev pub ReadersFindInitializers : Type 0
ReadersFindInitializers = (xs : List Terminal) (n : ℕ) (i : InitTree) → IsShallow xs → length xs ≤ n → DerivesInit i xs [] → init_of (below n) xs ≡ read_init i

-- what the readers give derives from the terminals before those that are left, and has the shape of the grammar
abbrev pub ReadExpressionsDerive : Type 0
ReadExpressionsDerive = (xs : List Terminal) (n : ℕ) (r : Parsed × List Terminal) → expr_of (below n) xs ≡ Ok r → DerivesExpr r.0.0 r.0.1 xs r.1 × IsShapedExpr r.0.1

-- an initializer that the reader gives derives from the terminals before those that are left, and has the shape of the grammar
abbrev pub ReadInitializersDerive : Type 0
ReadInitializersDerive = (xs : List Terminal) (n : ℕ) (r : InitTree × List Terminal) → init_of (below n) xs ≡ Ok r → DerivesInit r.0 xs r.1 × IsShapedInit r.0

-- a type that the reader gives derives from the terminals before those that are left, and has the shape of the grammar
abbrev pub ReadTypesDerive : Type 0
ReadTypesDerive = (xs : List Terminal) (r : TypeTree × List Terminal) → ty_of xs ≡ Ok r → DerivesTy r.0 xs r.1 × IsType r.0

-- what derives from shallow terminals has the shape of the grammar; what may stand as a statement is an effect
abbrev pub DerivedExpressionsAreShaped : Type 0
DerivedExpressionsAreShaped = (xs ys : List Terminal) (f : Form) (e : ExprTree) → IsShallow xs → DerivesExpr f e xs ys → IsShapedExpr e

-- an expression that derives as an effect may stand as a statement
abbrev pub DerivedEffectsAreEffects : Type 0
DerivedEffectsAreEffects = (xs ys : List Terminal) (e : ExprTree) → DerivesExpr Effect e xs ys → IsEffect e
