-- Where rows of square brackets are short, what derives has few pairs of them, and what begins has few, too.
use Rattle.std.proofs.Common.{ℕ, suc, ◌≤◌, List, [], ◌∷◌, arith}
use Rattle.jv_tree.specs.TypeTree.{TypeTree}
use Rattle.jv_tree.specs.ExprTree.{ExprTree, InitTree, ExprTrees, InitTrees}
use Rattle.jv_grammar.specs.declared.terminal.Terminal.{Terminal}
use Rattle.jv_grammar.specs.declared.form.Form.{Form}
use Rattle.jv_grammar.specs.TypeGrammar.{DerivesPairs, DerivesTy, DerivesReference}
use Rattle.jv_grammar.specs.ExprGrammar.{DerivesExpr, DerivesCond, DerivesUnary, DerivesCast, DerivesPost, DerivesPrimary, DerivesHead, DerivesDims, DerivesArgs, DerivesExprs, DerivesInit, DerivesList, DerivesInits}
use Rattle.jv_grammar.specs.Load.{IsClosed, nothing, terminal, group, BeginsWithPairs, none, pair, HasFewBrackets}
use Rattle.jv_grammar.specs.Width.{wide_ty, wide_reference, wide_expr, wide_cond, wide_unary, wide_cast, wide_post, wide_primary, wide_head, wide_dims, wide_args, wide_exprs, wide_init, wide_list, wide_inits}
use Rattle.jv_grammar.specs.TypeBegins.{BeginsPairs, begun_pairs_none, begun_pairs_open, begun_pairs_more}
use Rattle.jv_grammar.proofs.Rows.{BeginsWithRow, row_none, row_open, row_pair, HasShortRows, begun_count_pairs}
use Rattle.jv_grammar.proofs.ClosedBrackets.{few_pairs}
use Rattle.jv_grammar.proofs.Few.{pairs_begin, few_ty, few_reference, few_expr, few_cond, few_unary, few_cast, few_post, few_primary, few_head, few_dims, few_args, few_exprs, few_init, few_list, few_inits}

-- pairs make a row
pub pairs_row : {n : ℕ} {ts : List Terminal} → BeginsWithPairs n ts → BeginsWithRow n ts
pairs_row none = row_none
pairs_row (pair i r) = row_pair i (pairs_row r)

pub few_rows : (ts : List Terminal) → HasShortRows ts → HasFewBrackets ts
few_rows [] h = tt
few_rows (t ∷ ts) h = (λ n w. h.0 n (pairs_row w), few_rows ts h.1)

-- what stands behind closed brackets has short rows, too
pub rows_behind : {ts us : List Terminal} → IsClosed ts us → HasShortRows ts → HasShortRows us
rows_behind nothing h = h
rows_behind (terminal o c rest) h = rows_behind rest h.1
rows_behind (group o inner c rest) h = rows_behind rest (rows_behind inner h.1).1

pub short_row : {n : ℕ} {ts : List Terminal} → HasShortRows ts → BeginsWithRow n ts → n ≤ 200
short_row h row_none = omega arith
short_row h row_open = h.0 1 row_open
short_row {n = suc n} h (row_pair i r) = h.0 (suc n) (row_pair i r)

pub begun_row : {xs : List Terminal} (d : BeginsPairs xs) → BeginsWithRow (begun_count_pairs d) xs
begun_row begun_pairs_none = row_none
begun_row begun_pairs_open = row_open
begun_row (begun_pairs_more r) = row_pair nothing (begun_row r)

pub short_pairs : {xs : List Terminal} → HasShortRows xs → (d : BeginsPairs xs) → begun_count_pairs d ≤ 200
short_pairs h d = short_row h (begun_row d)

-- no type that derives has more than 200 pairs
pub low_pairs : {n : ℕ} {xs ys : List Terminal} → HasShortRows xs → DerivesPairs n xs ys → n ≤ 200
low_pairs {xs} h d = few_pairs (few_rows xs h) (pairs_begin d)

pub low_ty : {r : TypeTree} {xs ys : List Terminal} → HasShortRows xs → (d : DerivesTy r xs ys) → wide_ty d ≤ 200
low_ty {xs} h d = few_ty (few_rows xs h) d

pub low_reference : {r : TypeTree} {xs ys : List Terminal} → HasShortRows xs → (d : DerivesReference r xs ys) → wide_reference d ≤ 200
low_reference {xs} h d = few_reference (few_rows xs h) d

pub low_expr : {f : Form} {e : ExprTree} {xs ys : List Terminal} → HasShortRows xs → (d : DerivesExpr f e xs ys) → wide_expr d ≤ 200
low_expr {xs} h d = few_expr (few_rows xs h) d

pub low_cond : {f : Form} {e : ExprTree} {xs ys : List Terminal} → HasShortRows xs → (d : DerivesCond f e xs ys) → wide_cond d ≤ 200
low_cond {xs} h d = few_cond (few_rows xs h) d

pub low_unary : {f : Form} {e : ExprTree} {xs ys : List Terminal} → HasShortRows xs → (d : DerivesUnary f e xs ys) → wide_unary d ≤ 200
low_unary {xs} h d = few_unary (few_rows xs h) d

pub low_cast : {e : ExprTree} {xs ys : List Terminal} → HasShortRows xs → (d : DerivesCast e xs ys) → wide_cast d ≤ 200
low_cast {xs} h d = few_cast (few_rows xs h) d

pub low_post : {f : Form} {e : ExprTree} {xs ys : List Terminal} → HasShortRows xs → (d : DerivesPost f e xs ys) → wide_post d ≤ 200
low_post {xs} h d = few_post (few_rows xs h) d

pub low_primary : {f : Form} {e : ExprTree} {xs ys : List Terminal} → HasShortRows xs → (d : DerivesPrimary f e xs ys) → wide_primary d ≤ 200
low_primary {xs} h d = few_primary (few_rows xs h) d

pub low_head : {f : Form} {e : ExprTree} {xs ys : List Terminal} → HasShortRows xs → (d : DerivesHead f e xs ys) → wide_head d ≤ 200
low_head {xs} h d = few_head (few_rows xs h) d

pub low_dims : {es : ExprTrees} {n : ℕ} {xs ys : List Terminal} → HasShortRows xs → (d : DerivesDims es n xs ys) → wide_dims d ≤ 200
low_dims {xs} h d = few_dims (few_rows xs h) d

pub low_args : {es : ExprTrees} {xs ys : List Terminal} → HasShortRows xs → (d : DerivesArgs es xs ys) → wide_args d ≤ 200
low_args {xs} h d = few_args (few_rows xs h) d

pub low_exprs : {es : ExprTrees} {xs ys : List Terminal} → HasShortRows xs → (d : DerivesExprs es xs ys) → wide_exprs d ≤ 200
low_exprs {xs} h d = few_exprs (few_rows xs h) d

pub low_init : {i : InitTree} {xs ys : List Terminal} → HasShortRows xs → (d : DerivesInit i xs ys) → wide_init d ≤ 200
low_init {xs} h d = few_init (few_rows xs h) d

pub low_list : {p : ℕ} {is : InitTrees} {xs ys : List Terminal} → HasShortRows xs → (d : DerivesList p is xs ys) → wide_list d ≤ 200
low_list {xs} h d = few_list (few_rows xs h) d

pub low_inits : {is : InitTrees} {xs ys : List Terminal} → HasShortRows xs → (d : DerivesInits is xs ys) → wide_inits d ≤ 200
low_inits {xs} h d = few_inits (few_rows xs h) d
