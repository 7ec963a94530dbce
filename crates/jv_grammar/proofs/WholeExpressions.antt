-- Expressions, initializers and types of all the terminals.
use Rattle.std.proofs.Common.{◌≡◌, [], length, arith, lit<, Ok, Err, refl, sym, ap, ◌∙◌}
use Rattle.jv_tree.specs.TypeTree.{TypeTree}
use Rattle.jv_tree.specs.ExprTree.{ExprTree, InitTree}
use Rattle.jv_grammar.specs.declared.form.Form.{Form}
use Rattle.jv_grammar.specs.Reader.{Reads}
use Rattle.jv_grammar.specs.ExprReader.{Parsed}
use Rattle.jv_grammar.specs.Law.{read_expr, read_init, ExpressionsDeriveOnce, InitializersDeriveOnce, TypesDeriveOnce, ReadersFindExpressions, ReadersFindInitializers, ReadExpressionsDerive, ReadInitializersDerive, ReadTypesDerive, DerivedExpressionsAreShaped}
use Rattle.jv_grammar.proofs.Depth.{fits_expr, fits_init}
use Rattle.jv_grammar.proofs.Types.{type_read, reads_ty, derives_ty}
use Rattle.jv_grammar.proofs.Complete.{reads_expr, reads_init}
use Rattle.jv_grammar.proofs.Sound.{derives_expr, derives_init}
use Rattle.jv_grammar.proofs.Shape.{shape_expr, shape_init, shape_ty}
use Rattle.jv_grammar.proofs.Few.{few_expr, few_init, few_ty}
use Rattle.jv_grammar.proofs.Shallow.{shallow_has_few}

pub find_expr : ReadersFindExpressions
find_expr xs n f e s l d = reads_expr n d (omega (arith, fits_expr d)) (few_expr (shallow_has_few xs s) d) (lit< tt)

pub find_init : ReadersFindInitializers
find_init xs n i s l d = reads_init n d (omega (arith, fits_init d)) (few_init (shallow_has_few xs s) d) (lit< tt)

-- what is read, or else what is given
abbrev form_in : Form → Reads Parsed → Form
form_in d (Ok r) = r.0.0
form_in d (Err e) = d

abbrev tree_in : ExprTree → Reads Parsed → ExprTree
tree_in d (Ok r) = r.0.1
tree_in d (Err e) = d

abbrev init_in : InitTree → Reads InitTree → InitTree
init_in d (Ok r) = r.0
init_in d (Err e) = d

abbrev type_in : TypeTree → Reads TypeTree → TypeTree
type_in d (Ok r) = r.0
type_in d (Err e) = d

pub one_expr : ExpressionsDeriveOnce
one_expr xs f g e o s d c =
    let same : read_expr f e ≡ read_expr g o = sym (find_expr xs (length xs) f e s (omega arith) d) ∙ find_expr xs (length xs) g o s (omega arith) c in
    (ap (form_in f) same, ap (tree_in e) same)

pub one_init : InitializersDeriveOnce
one_init xs i j s d c =
    let same : read_init i ≡ read_init j = sym (find_init xs (length xs) i s (omega arith) d) ∙ find_init xs (length xs) j s (omega arith) c in
    ap (init_in i) same

pub one_type : TypesDeriveOnce
one_type xs r q s d c =
    let few = shallow_has_few xs s in
    let same : type_read r [] ≡ type_read q [] = sym (reads_ty d (few_ty few d) refl refl) ∙ reads_ty c (few_ty few c) refl refl in
    ap (type_in r) same

pub found_expr : ReadExpressionsDerive
found_expr xs n r h = let d = derives_expr n xs r h in (d.0, shape_expr d.0 d.1)

pub found_init : ReadInitializersDerive
found_init xs n r h = let d = derives_init n xs r h in (d.0, shape_init d.0 d.1)

pub found_type : ReadTypesDerive
found_type xs r h = let d = derives_ty xs r h in (d.0, shape_ty d.0 d.1)

pub shaped_expr : DerivedExpressionsAreShaped
shaped_expr xs ys f e s d = shape_expr d (few_expr (shallow_has_few xs s) d)
