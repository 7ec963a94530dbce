-- What declarations begin with.
use Rattle.std.proofs.Common.{◌≡◌, ℕ, ◌&&◌, Bool, true, false, nat_eq, List, [], ◌∷◌, refl, sym, true≢false}
use Rattle.std.specs.List.{list_any}
use Rattle.jv_tree.specs.declared.name.Ident.{Ident as Identifier}
use Rattle.jv_tree.specs.TypeTree.{BaseTree, TypeTree}
use Rattle.jv_tree.specs.ExprTree.{ExprTree}
use Rattle.jv_tree.specs.StmtTree.{VarTree, StmtTree, StmtTrees}
use Rattle.jv_tree.specs.DeclTree.{ParamTree, TypeDeclTree, MemberTree}
use Rattle.jv_grammar.specs.declared.form.Form.{Form}
use Rattle.jv_grammar.specs.declared.terminal.Terminal.{Terminal}
use Rattle.jv_grammar.specs.declared.terminal.Terminal.TheVariants.{Ident, Keyword, Punct}
use Rattle.jv_grammar.specs.Marks.{paren_open, brace_open, dot, word_extends, word_final, word_super, word_class, word_interface, modifiers}
use Rattle.jv_grammar.specs.TypeGrammar.{starts, starts_word, DerivesName, name_one, name_more, prim_boolean, prim_char, prim_int, prim_long, DerivesBase, base_prim, base_name, pairs_none, pairs_more, DerivesTy, ty, DerivesResult, result_ty, result_void}
use Rattle.jv_grammar.specs.ExprGrammar.{DerivesExpr, expr_assign, expr_cond, DerivesCond, cond_bin, cond_choice, DerivesBin, bin_unary, bin_one, bin_chain, DerivesUnary, unary_sign, unary_step, unary_minimum, unary_minimum_long, unary_cast, unary_post, DerivesCast, cast_prim, cast_reference, DerivesPost, post_primary, post_step, DerivesPrimary, primary_head, primary_field, primary_call, primary_index, DerivesHead, head_literal, head_this, head_paren, head_name, head_call, head_super_field, head_super_call, head_new, head_new_array, head_new_list}
use Rattle.jv_grammar.specs.StmtGrammar.{var_alone, var_init, DerivesVars, vars_one, vars_more, local_vars, local_final, DerivesBlock, block, DerivesBstmts, bstmts_none, bstmts_more, bstmt_local, bstmt_stmt, DerivesStmt, stmt_block, stmt_empty, stmt_effect, stmt_if, stmt_if_else, stmt_while, stmt_do, stmt_for, stmt_return, stmt_break, stmt_continue}
use Rattle.jv_grammar.specs.DeclGrammar.{DerivesMods, mods_none, mods_more, DerivesParams, params_none, params_some, DerivesConstants, constants_one, constants_more, DerivesInterfaces, interfaces_none, interfaces_some, DerivesType, type_class, type_interface, DerivesClass, class, DerivesInterface, interface, DerivesMember, member_type, member_field, member_method, member_ctor, DerivesImember, imember_type, imember_field, imember_method}
use Rattle.jv_grammar.specs.Reader.{starts_ident}
use Rattle.jv_grammar.specs.DeclReader.{calls, begins_type, typed_of, plain_of}
use Rattle.jv_grammar.proofs.Read.{Each, among}

-- the first terminal is a modifier
abbrev pub starts_mod : List Terminal → Bool
starts_mod (Keyword p k ∷ xs) = list_any (nat_eq k) modifiers
starts_mod xs = false

-- the first terminal is an identifier or a keyword
abbrev pub begins_word : List Terminal → Bool
begins_word (Ident i ∷ xs) = true
begins_word (Keyword p k ∷ xs) = true
begins_word xs = false

-- where a word stands, no mark does
pub word_no_mark : (n : ℕ) (xs : List Terminal) → begins_word xs ≡ true → starts n xs ≡ false
word_no_mark n [] h = refl
word_no_mark n (Ident i ∷ xs) h = refl
word_no_mark n (Keyword p k ∷ xs) h = refl
word_no_mark n (x ∷ xs) h = absurd (true≢false (sym h))

pub ident_no_mark : (n : ℕ) (xs : List Terminal) → starts_ident xs ≡ true → starts n xs ≡ false
ident_no_mark n [] h = refl
ident_no_mark n (Ident i ∷ xs) h = refl
ident_no_mark n (x ∷ xs) h = absurd (true≢false (sym h))

-- modifiers are words
pub mods_word : {ks : List ℕ} {xs ys : List Terminal} → DerivesMods ks xs ys → begins_word ys ≡ true → begins_word xs ≡ true
mods_word mods_none h = h
mods_word (mods_more m d) h = refl

-- no keyword of another kind begins what modifiers begin
pub mods_no_word : (w : ℕ) → Each (λ k. nat_eq k w ≡ false) modifiers → {ks : List ℕ} {xs ys : List Terminal} → DerivesMods ks xs ys → starts_word w ys ≡ false → starts_word w xs ≡ false
mods_no_word w e mods_none h = h
mods_no_word w e (mods_more {k} m d) h = among (λ o. nat_eq o w ≡ false) modifiers k e m

-- no keyword begins a name
pub name_no_word : (w : ℕ) {ids : List Identifier} {xs ys : List Terminal} → DerivesName ids xs ys → starts_word w xs ≡ false
name_no_word w name_one = refl
name_no_word w (name_more d) = refl

-- what a type begins with
pub base_begins : {p : ℕ} {b : BaseTree} {xs ys : List Terminal} → DerivesBase p b xs ys → (starts_mod xs ≡ false) × (begins_type xs ≡ false) × (begins_word xs ≡ true)
base_begins (base_prim prim_boolean) = (refl, refl, refl)
base_begins (base_prim prim_char) = (refl, refl, refl)
base_begins (base_prim prim_int) = (refl, refl, refl)
base_begins (base_prim prim_long) = (refl, refl, refl)
base_begins (base_name name_one) = (refl, refl, refl)
base_begins (base_name (name_more d)) = (refl, refl, refl)

pub ty_begins : {r : TypeTree} {xs ys : List Terminal} → DerivesTy r xs ys → (starts_mod xs ≡ false) × (begins_type xs ≡ false) × (begins_word xs ≡ true)
ty_begins (ty b q) = base_begins b

pub ty_no_final : {r : TypeTree} {xs ys : List Terminal} → DerivesTy r xs ys → starts_word word_final xs ≡ false
ty_no_final (ty (base_prim prim_boolean) q) = refl
ty_no_final (ty (base_prim prim_char) q) = refl
ty_no_final (ty (base_prim prim_int) q) = refl
ty_no_final (ty (base_prim prim_long) q) = refl
ty_no_final (ty (base_name name_one) q) = refl
ty_no_final (ty (base_name (name_more d)) q) = refl

-- a type is no constructor
pub ty_calls : {r : TypeTree} {xs ys : List Terminal} → DerivesTy r xs ys → starts paren_open ys ≡ false → calls xs ≡ false
ty_calls (ty (base_prim prim_boolean) q) h = refl
ty_calls (ty (base_prim prim_char) q) h = refl
ty_calls (ty (base_prim prim_int) q) h = refl
ty_calls (ty (base_prim prim_long) q) h = refl
ty_calls (ty (base_name name_one) pairs_none) h = h
ty_calls (ty (base_name name_one) (pairs_more q)) h = refl
ty_calls (ty (base_name (name_more d)) q) h = refl

pub ty_plain : (i : Bool) (n : ℕ) (ks : List ℕ) {r : TypeTree} {xs ys : List Terminal} → DerivesTy r xs ys → plain_of i n ks xs ≡ typed_of i n ks xs
unfolding plain_of
ty_plain i n ks (ty (base_prim prim_boolean) q) = refl
ty_plain i n ks (ty (base_prim prim_char) q) = refl
ty_plain i n ks (ty (base_prim prim_int) q) = refl
ty_plain i n ks (ty (base_prim prim_long) q) = refl
ty_plain i n ks (ty (base_name name_one) q) = refl
ty_plain i n ks (ty (base_name (name_more d)) q) = refl

pub result_begins : {r : TypeTree} {xs ys : List Terminal} → DerivesResult r xs ys → (starts_mod xs ≡ false) × (begins_type xs ≡ false) × (begins_word xs ≡ true)
result_begins (result_ty d) = ty_begins d
result_begins result_void = (refl, refl, refl)

pub result_calls : {r : TypeTree} {xs ys : List Terminal} → DerivesResult r xs ys → starts paren_open ys ≡ false → calls xs ≡ false
result_calls (result_ty d) h = ty_calls d h
result_calls result_void h = refl

pub params_open : {bs : List ParamTree} {xs ys : List Terminal} → DerivesParams bs xs ys → starts paren_open xs ≡ true
params_open params_none = refl
params_open (params_some d) = refl

-- variables begin with an identifier, which has no `(` behind it
pub vars_begin : {vs : List VarTree} {xs ys : List Terminal} → DerivesVars vs xs ys → starts paren_open ys ≡ false → (starts_ident xs ≡ true) × (calls xs ≡ false)
vars_begin (vars_one var_alone) h = (refl, h)
vars_begin (vars_one (var_init d)) h = (refl, refl)
vars_begin (vars_more var_alone r) h = (refl, refl)
vars_begin (vars_more (var_init d) r) h = (refl, refl)

pub constants_begin : {vs : List VarTree} {xs ys : List Terminal} → DerivesConstants vs xs ys → (starts_ident xs ≡ true) × (calls xs ≡ false)
constants_begin (constants_one d) = (refl, refl)
constants_begin (constants_more d r) = (refl, refl)

-- between what a class extends and its braces stands no further `extends`, and no dot
pub interfaces_begin : {ns : List (List Identifier)} {p : ℕ} {xs ys : List Terminal} → DerivesInterfaces ns xs (Punct p brace_open ∷ ys) → (starts_word word_extends xs ≡ false) × (starts dot xs ≡ false)
interfaces_begin interfaces_none = (refl, refl)
interfaces_begin (interfaces_some d) = (refl, refl)

-- types and members begin with words
pub class_word : {ks : List ℕ} {x : TypeDeclTree} {xs ys : List Terminal} → DerivesClass ks x xs ys → begins_word xs ≡ true
class_word (class a b d) = refl

pub interface_word : {ks : List ℕ} {x : TypeDeclTree} {xs ys : List Terminal} → DerivesInterface ks x xs ys → begins_word xs ≡ true
interface_word (interface a d) = refl

pub type_word : {x : TypeDeclTree} {xs ys : List Terminal} → DerivesType x xs ys → begins_word xs ≡ true
type_word (type_class m d) = mods_word m (class_word d)
type_word (type_interface m d) = mods_word m (interface_word d)

pub member_word : {m : MemberTree} {xs ys : List Terminal} → DerivesMember m xs ys → begins_word xs ≡ true
member_word (member_type d) = type_word d
member_word (member_field m d v) = mods_word m (ty_begins d).2
member_word (member_method m d q b) = mods_word m (result_begins d).2
member_word (member_ctor m q c) = mods_word m refl

pub imember_word : {m : MemberTree} {xs ys : List Terminal} → DerivesImember m xs ys → begins_word xs ≡ true
imember_word (imember_type d) = type_word d
imember_word (imember_field m d v) = mods_word m (ty_begins d).2
imember_word (imember_method m d q b) = mods_word m (result_begins d).2

-- no keyword of another kind begins a type
class_no_word : (w : ℕ) → (nat_eq word_class w ≡ false) → {ks : List ℕ} {x : TypeDeclTree} {xs ys : List Terminal} → DerivesClass ks x xs ys → starts_word w xs ≡ false
class_no_word w h (class a b d) = h

interface_no_word : (w : ℕ) → (nat_eq word_interface w ≡ false) → {ks : List ℕ} {x : TypeDeclTree} {xs ys : List Terminal} → DerivesInterface ks x xs ys → starts_word w xs ≡ false
interface_no_word w h (interface a d) = h

pub type_no_word : (w : ℕ) → Each (λ k. nat_eq k w ≡ false) modifiers → (nat_eq word_class w ≡ false) → (nat_eq word_interface w ≡ false) → {x : TypeDeclTree} {xs ys : List Terminal} → DerivesType x xs ys → starts_word w xs ≡ false
type_no_word w e h h' (type_class m d) = mods_no_word w e m (class_no_word w h d)
type_no_word w e h h' (type_interface m d) = mods_no_word w e m (interface_no_word w h' d)

-- an expression, and a statement, begins with no call of `super` by itself
abbrev pub calls_super : List Terminal → Bool
calls_super (Keyword p k ∷ xs) = nat_eq k word_super && starts paren_open xs
calls_super xs = false

head_no_super : {f : Form} {e : ExprTree} {xs ys : List Terminal} → DerivesHead f e xs ys → calls_super xs ≡ false
head_no_super head_literal = refl
head_no_super head_this = refl
head_no_super (head_paren h d) = refl
head_no_super (head_name name_one h) = refl
head_no_super (head_name (name_more d) h) = refl
head_no_super (head_call a) = refl
head_no_super (head_super_field h) = refl
head_no_super (head_super_call a) = refl
head_no_super (head_new m a) = refl
head_no_super (head_new_array m d h) = refl
head_no_super (head_new_list m q l) = refl

primary_no_super : {f : Form} {e : ExprTree} {xs ys : List Terminal} → DerivesPrimary f e xs ys → calls_super xs ≡ false
primary_no_super (primary_head d) = head_no_super d
primary_no_super (primary_field d h) = primary_no_super d
primary_no_super (primary_call d a) = primary_no_super d
primary_no_super (primary_index d x) = primary_no_super d

post_no_super : {f : Form} {e : ExprTree} {xs ys : List Terminal} → DerivesPost f e xs ys → calls_super xs ≡ false
post_no_super (post_primary d) = primary_no_super d
post_no_super (post_step d h) = post_no_super d

cast_no_super : {e : ExprTree} {xs ys : List Terminal} → DerivesCast e xs ys → calls_super xs ≡ false
cast_no_super (cast_prim m d) = refl
cast_no_super (cast_reference m d) = refl

unary_no_super : {f : Form} {e : ExprTree} {xs ys : List Terminal} → DerivesUnary f e xs ys → calls_super xs ≡ false
unary_no_super (unary_sign h d) = refl
unary_no_super (unary_step h d) = refl
unary_no_super unary_minimum = refl
unary_no_super unary_minimum_long = refl
unary_no_super (unary_cast d) = cast_no_super d
unary_no_super (unary_post d) = post_no_super d

bin_no_super : {levels : List (List ℕ)} {f : Form} {e : ExprTree} {xs ys : List Terminal} → DerivesBin levels f e xs ys → calls_super xs ≡ false
bin_no_super (bin_unary d) = unary_no_super d
bin_no_super (bin_one d) = bin_no_super d
bin_no_super (bin_chain d l) = bin_no_super d

cond_no_super : {f : Form} {e : ExprTree} {xs ys : List Terminal} → DerivesCond f e xs ys → calls_super xs ≡ false
cond_no_super (cond_bin d) = bin_no_super d
cond_no_super (cond_choice d a b) = bin_no_super d

expr_no_super : {f : Form} {e : ExprTree} {xs ys : List Terminal} → DerivesExpr f e xs ys → calls_super xs ≡ false
expr_no_super (expr_assign d h r) = primary_no_super d
expr_no_super (expr_cond d) = cond_no_super d

ty_no_super : {r : TypeTree} {xs ys : List Terminal} → DerivesTy r xs ys → calls_super xs ≡ false
ty_no_super (ty (base_prim prim_boolean) q) = refl
ty_no_super (ty (base_prim prim_char) q) = refl
ty_no_super (ty (base_prim prim_int) q) = refl
ty_no_super (ty (base_prim prim_long) q) = refl
ty_no_super (ty (base_name name_one) q) = refl
ty_no_super (ty (base_name (name_more d)) q) = refl

block_no_super : {p : ℕ} {ss : StmtTrees} {xs ys : List Terminal} → DerivesBlock p ss xs ys → calls_super xs ≡ false
block_no_super (block d) = refl

stmt_no_super : {x : StmtTree} {xs ys : List Terminal} → DerivesStmt x xs ys → calls_super xs ≡ false
stmt_no_super (stmt_block d) = block_no_super d
stmt_no_super stmt_empty = refl
stmt_no_super (stmt_effect d) = expr_no_super d
stmt_no_super (stmt_if c d h) = refl
stmt_no_super (stmt_if_else c d r) = refl
stmt_no_super (stmt_while c d) = refl
stmt_no_super (stmt_do d c) = refl
stmt_no_super (stmt_for i c u d) = refl
stmt_no_super (stmt_return c) = refl
stmt_no_super stmt_break = refl
stmt_no_super stmt_continue = refl

pub bstmts_no_super : {ss : StmtTrees} {p o : ℕ} {xs ys : List Terminal} → DerivesBstmts ss xs (Punct p o ∷ ys) → calls_super xs ≡ false
bstmts_no_super bstmts_none = refl
bstmts_no_super (bstmts_more (bstmt_local (local_vars d v)) r) = ty_no_super d
bstmts_no_super (bstmts_more (bstmt_local (local_final d v)) r) = refl
bstmts_no_super (bstmts_more (bstmt_stmt d) r) = stmt_no_super d
