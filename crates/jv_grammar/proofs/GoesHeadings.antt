-- What begins names, parameters, constants or the body of a method or a constructor is read to its end.
use Rattle.std.proofs.Common.{◌≡◌, ℕ, zero, suc, ◌≤◌, ◌&&◌, Bool, true, false, nat_eq, List, [], ◌∷◌, length, arith, refl, sym, ap, ◌∙◌, subst, lit<}
use borrow.Author.Tests.{eqb-true}
use Rattle.jv_grammar.specs.declared.terminal.Terminal.{Terminal}
use Rattle.jv_grammar.specs.declared.terminal.Terminal.TheVariants.{Keyword, Punct}
use Rattle.jv_grammar.specs.Marks.{paren_open, paren_close, brace_open, semicolon, word_extends, word_implements, word_super}
use Rattle.jv_grammar.specs.TypeGrammar.{starts}
use Rattle.jv_grammar.specs.StmtGrammar.{block}
use Rattle.jv_grammar.specs.DeclGrammar.{parent_none, parent_some, parents_none, parents_some, interfaces_none, interfaces_some}
use Rattle.jv_grammar.specs.Reader.{rest_of}
use Rattle.jv_grammar.specs.TypeReader.{name_of, ty_of, declares}
use Rattle.jv_grammar.specs.ExprReader.{args_of, head_of, primary_of, post_of, unary_of, bin_of, cond_of, expr_of, init_of, below}
use Rattle.jv_grammar.specs.StmtReader.{effect_by, block_by, effect_stmt_by, word_by, stmt_by, bstmt_by, bstmts_up_to, bstmts_by, block_of, bstmts_of, below_stmt}
use Rattle.jv_grammar.specs.DeclReader.{names_of, parent_of, headed_of, param_of, some_params_of, params_of, constants_of, call_of, inner_of}
use Rattle.jv_grammar.specs.TypeBegins.{begun_names_none, begun_names_one, begun_names_more, begun_names_whole, BeginsTy, begun_ty_none}
use Rattle.jv_grammar.specs.ExprBegins.{begun_expr_cond, begun_cond_bin, begun_bin_unary, begun_bin_one, begun_unary_post, begun_post_primary, begun_primary_head, begun_head_super, BeginsArgs, begun_args_none, begun_args_some, begun_args_whole}
use Rattle.jv_grammar.specs.StmtBegins.{BeginsBlock, begun_block_none, begun_block_some, begun_block_whole, begun_bstmts_none, begun_bstmts_one, begun_bstmt_stmt, begun_stmt_effect}
use Rattle.jv_grammar.specs.DeclBegins.{BeginsParam, begun_param_none, begun_param_ty, begun_param_final, begun_param_whole, BeginsSomeParams, begun_some_params_none, begun_some_params_one, begun_some_params_more, begun_some_params_whole, begun_params_none, begun_params_some, begun_params_whole, begun_body_none, begun_body_block, begun_body_whole, begun_ctor_none, begun_ctor_plain, begun_ctor_args, begun_ctor_super, begun_ctor_whole, begun_constants_none, begun_constants_name, begun_constants_one, begun_constants_more, begun_constants_whole, BeginsParent, begun_parent_none, begun_parent_some, begun_parent_whole, BeginsParents, begun_parents_none, begun_parents_some, begun_parents_whole, BeginsInterfaces, begun_interfaces_none, begun_interfaces_some, begun_interfaces_whole}
use Rattle.jv_grammar.proofs.BegunDepth.{begun_deep_args}
use Rattle.jv_grammar.proofs.Rows.{BeginsWithRow, row_none, HasShortRows}
use Rattle.jv_grammar.proofs.Ending.{left_of, Ends}
use Rattle.jv_grammar.proofs.GoesLaw.{GoesNames, GoesParents, GoesParams, GoesConstants, GoesBody, GoesCtor}
use Rattle.jv_grammar.proofs.Depth.{less_name, less_init}
use Rattle.jv_grammar.proofs.DeclDepth.{less_param}
use Rattle.jv_grammar.proofs.Read.{both, starts_is}
use Rattle.jv_grammar.proofs.Types.{reads_name}
use Rattle.jv_grammar.proofs.Few.{closed_args, closed_init}
use Rattle.jv_grammar.proofs.DeclFew.{closed_param, few_param, few_some_params, few_params, few_body, few_ctor, few_constants}
use Rattle.jv_grammar.proofs.Complete.{comp, reads_init, reads_args}
use Rattle.jv_grammar.proofs.DeclStarts.{calls_super}
use Rattle.jv_grammar.proofs.DeclComplete.{reads_names, reads_param, reads_some_params, reads_params, reads_constants, reads_body, reads_ctor, call_none, args_first}
use Rattle.jv_grammar.proofs.Goes.{ends_bind, goes_name}
use Rattle.jv_grammar.proofs.Cut.{none_left}
use Rattle.jv_grammar.proofs.GoesTypes.{goes_ty}
use Rattle.jv_grammar.proofs.BegunRows.{few_rows, rows_behind, low_init, low_args}
use Rattle.jv_grammar.proofs.GoesLists.{goes_args}
use Rattle.jv_grammar.proofs.GoesExpressions.{both_go, goes_init}
use Rattle.jv_grammar.proofs.GoesStatements.{goes_block, goes_bstmts}
use Rattle.jv_grammar.proofs.BegunDeclStarts.{begun_ty, begun_no_mark, begun_some_params}

pub goes_names : GoesNames
unfolding names_of name_of
goes_names xs begun_names_none zero l = refl
goes_names xs begun_names_none (suc k) l = refl
goes_names xs (begun_names_one r) zero l = none_left xs l
goes_names xs (begun_names_one r) (suc k) l = ends_bind (name_of xs) _ (goes_name r) (λ x. refl)
goes_names xs (begun_names_more d r) zero l = absurd (omega (arith, less_name d))
goes_names xs (begun_names_more {zs} d r) (suc k) l = rw (reads_name d refl) (ends_bind (names_of k zs) _ (goes_names zs r k (omega (arith, less_name d))) (λ x. refl))
goes_names xs (begun_names_whole d) k l = ap left_of (reads_names d k refl refl l)

goes_parent : (xs : List Terminal) → BeginsParent xs → Ends (parent_of xs)
unfolding parent_of
goes_parent vs begun_parent_none = refl
goes_parent vs (begun_parent_some {xs} r) = ends_bind (name_of xs) _ (goes_name r) (λ x. refl)
goes_parent vs (begun_parent_whole parent_none) = refl
goes_parent vs (begun_parent_whole (parent_some d)) = rw (reads_name d refl) refl

pub goes_parents_names : (xs : List Terminal) → BeginsParents xs → Ends (headed_of word_extends xs)
unfolding headed_of
goes_parents_names vs begun_parents_none = refl
goes_parents_names vs (begun_parents_some {xs} r) = goes_names xs r (suc (length xs)) (omega arith)
goes_parents_names vs (begun_parents_whole parents_none) = refl
goes_parents_names vs (begun_parents_whole (parents_some {xs} d)) = goes_names xs (begun_names_whole d) (suc (length xs)) (omega arith)

goes_interfaces : (xs : List Terminal) → BeginsInterfaces xs → Ends (headed_of word_implements xs)
unfolding headed_of
goes_interfaces vs begun_interfaces_none = refl
goes_interfaces vs (begun_interfaces_some {xs} r) = goes_names xs r (suc (length xs)) (omega arith)
goes_interfaces vs (begun_interfaces_whole interfaces_none) = refl
goes_interfaces vs (begun_interfaces_whole (interfaces_some {xs} d)) = goes_names xs (begun_names_whole d) (suc (length xs)) (omega arith)

pub goes_parents : GoesParents
goes_parents = (goes_parent, goes_parents_names, goes_interfaces)

param_plain_ends : (xs : List Terminal) → BeginsTy xs → HasShortRows xs → Ends (param_of xs)
unfolding param_of
param_plain_ends xs r h = rw ((begun_ty r).no_final) (ends_bind (ty_of xs) _ (goes_ty xs r h) (λ x. refl))

goes_param : (xs : List Terminal) → BeginsParam xs → HasShortRows xs → Ends (param_of xs)
unfolding param_of
goes_param vs begun_param_none h = param_plain_ends [] begun_ty_none tt
goes_param vs (begun_param_ty r) h = param_plain_ends vs r h
goes_param vs (begun_param_final {xs} r) h = ends_bind (ty_of xs) _ (goes_ty xs r h.1) (λ x. refl)
goes_param vs (begun_param_whole d) h = ap left_of (reads_param d (few_param (few_rows vs h) d))

some_params_go : (xs : List Terminal) (d : BeginsSomeParams xs) (k : ℕ) → HasShortRows xs → length xs ≤ k → Ends (some_params_of k xs)
unfolding some_params_of
some_params_go xs begun_some_params_none zero h l = refl
some_params_go xs begun_some_params_none (suc k) h l = ends_bind (param_of []) _ (goes_param [] begun_param_none tt) (λ x. refl)
some_params_go xs (begun_some_params_one r) zero h l = none_left xs l
some_params_go xs (begun_some_params_one r) (suc k) h l = ends_bind (param_of xs) _ (goes_param xs r h) (λ x. refl)
some_params_go xs (begun_some_params_more d r) zero h l = absurd (omega (arith, less_param d))
some_params_go xs (begun_some_params_more {zs} d r) (suc k) h l =
    rw (reads_param d (few_param (few_rows xs h) d)) (ends_bind (some_params_of k zs) _ (some_params_go zs r k (rows_behind (closed_param d) h).1 (omega (arith, less_param d))) (λ x. refl))
some_params_go xs (begun_some_params_whole d) k h l = ap left_of (reads_some_params d k (few_some_params (few_rows xs h) d) refl l)

pub goes_params : GoesParams
unfolding params_of
goes_params vs begun_params_none h = refl
goes_params vs (begun_params_some {xs} r) h =
    rw (begun_no_mark paren_close xs (begun_some_params r)) (ends_bind (some_params_of (suc (length xs)) xs) _ (some_params_go xs r (suc (length xs)) h.1 (omega arith)) (λ x. refl))
goes_params vs (begun_params_whole d) h = ap left_of (reads_params d (few_params (few_rows vs h) d))

pub goes_constants : GoesConstants
unfolding constants_of
goes_constants n vs begun_constants_none zero l h m = refl
goes_constants n vs begun_constants_none (suc k) l h m = refl
goes_constants n vs begun_constants_name zero l h m = absurd (omega arith)
goes_constants n vs begun_constants_name (suc k) l h m = refl
goes_constants n vs (begun_constants_one r) zero l h m = absurd (omega arith)
goes_constants n vs (begun_constants_one {xs} r) (suc k) l h m =
    let e = both_go n in
    ends_bind (init_of (below n) xs) _ (goes_init n (below n) (comp n) e.0 e.1 xs r l h.1.1) (λ x. refl)
goes_constants n vs (begun_constants_more d r) zero l h m = absurd (omega arith)
goes_constants n vs (begun_constants_more {zs} d r) (suc k) l h m =
    rw (reads_init n d (omega arith) (low_init h.1.1 d) (lit< tt))
    (ends_bind (constants_of n k zs) _ (goes_constants n zs r k (omega arith) (rows_behind (closed_init d) h.1.1).1 (omega (arith, less_init d))) (λ x. refl))
goes_constants n vs (begun_constants_whole d) k l h m = ap left_of (reads_constants n d k l (few_constants (few_rows vs h) d) (lit< tt) refl m)

block_no_semicolon : {xs : List Terminal} → BeginsBlock xs → starts semicolon xs ≡ false
block_no_semicolon begun_block_none = refl
block_no_semicolon (begun_block_some r) = refl
block_no_semicolon (begun_block_whole (block d)) = refl

pub goes_body : GoesBody
unfolding block_by
goes_body n vs begun_body_none l h = refl
goes_body n vs (begun_body_block r) l h = rw (block_no_semicolon r) (ends_bind (block_of n vs) _ (goes_block n vs r l h) (λ x. refl))
goes_body n vs (begun_body_whole d) l h = ap left_of (reads_body n d l (few_body (few_rows vs h) d))

-- A reader of statements is refused behind a `super` with a `(`, so where it ends none stands.
super_refused : (n r p : ℕ) (zs : List Terminal) → left_of (bstmts_by (below n) (below_stmt n) (Keyword r word_super ∷ Punct p paren_open ∷ zs)) ≡ Punct p paren_open ∷ zs
unfolding bstmts_by bstmts_up_to bstmt_by stmt_by word_by effect_stmt_by effect_by expr_of cond_of bin_of unary_of post_of primary_of head_of declares
super_refused n r p zs = refl

some_none : {x : Terminal} {xs : List Terminal} → x ∷ xs ≡ [] → ⊥
some_none h = cc

no_super : (n : ℕ) (xs : List Terminal) → Ends (bstmts_of n xs) → calls_super xs ≡ false
no_super n [] h = refl
no_super n (Keyword p k ∷ xs) h = by (nat_eq k word_super && starts paren_open xs) refl
  where
    by : (t : Bool) → nat_eq k word_super && starts paren_open xs ≡ t → nat_eq k word_super && starts paren_open xs ≡ false
    by false e = e
    by true e =
        let w = both (nat_eq k word_super) (starts paren_open xs) e in
        let m = starts_is paren_open xs w.1 in
        absurd (some_none (sym (super_refused n p m.0 (rest_of xs))
        ∙ subst (λ z. Ends (bstmts_of n (Keyword p word_super ∷ z))) m.1 (subst (λ z. Ends (bstmts_of n (Keyword p z ∷ xs))) (eqb-true k word_super w.0) h)))
no_super n (x ∷ xs) h = refl

no_row : {m p k : ℕ} → BeginsWithRow m (Keyword p k ∷ []) → m ≤ 200
no_row row_none = omega arith

-- `super` alone begins a statement
super_alone : (n r : ℕ) → Ends (bstmts_of n (Keyword r word_super ∷ []))
super_alone n r =
    goes_bstmts n (Keyword r word_super ∷ []) (begun_bstmts_one (begun_bstmt_stmt (begun_stmt_effect (begun_expr_cond (begun_cond_bin (begun_bin_one (begun_bin_one (begun_bin_one (begun_bin_one (begun_bin_one (begun_bin_one (begun_bin_one (begun_bin_one (begun_bin_one (begun_bin_one (begun_bin_unary (begun_unary_post (begun_post_primary (begun_primary_head begun_head_super))))))))))))))))))) (omega arith) ((λ m w. no_row w), tt)

-- the call of a constructor
call_ends : (n r : ℕ) (xs : List Terminal) (d : BeginsArgs xs) → begun_deep_args d ≤ n → HasShortRows xs → starts paren_open xs ≡ true → Ends (call_of n (Keyword r word_super ∷ xs))
unfolding call_of
call_ends n r xs d l h s =
    let e = both_go n in
    rw s (ends_bind (args_of (below n).expr xs) _ (goes_args n (below n) (comp n) e.0 xs d l h) (λ x. refl))

inner_call : (n r p : ℕ) (xs : List Terminal) → Ends (call_of n (Keyword r word_super ∷ xs)) → Ends (inner_of n (Punct p brace_open ∷ Keyword r word_super ∷ xs))
unfolding inner_of
inner_call n r p xs h = ends_bind (call_of n (Keyword r word_super ∷ xs)) _ h (λ x. ends_bind (bstmts_of n []) _ (goes_bstmts n [] begun_bstmts_none (omega arith) tt) (λ y. refl))

inner_plain : (n p : ℕ) (xs : List Terminal) → Ends (bstmts_of n xs) → Ends (inner_of n (Punct p brace_open ∷ xs))
unfolding inner_of
inner_plain n p xs h = rw (call_none n xs (no_super n xs h)) (ends_bind (bstmts_of n xs) _ h (λ x. refl))

pub goes_ctor : GoesCtor
unfolding inner_of call_of
goes_ctor n vs begun_ctor_none l h = refl
goes_ctor n vs (begun_ctor_plain {p} {xs} r) l h = inner_plain n p xs (goes_bstmts n xs r l h.1)
goes_ctor n vs (begun_ctor_args {p} {r} begun_args_none) l h = inner_plain n p (Keyword r word_super ∷ []) (super_alone n r)
goes_ctor n vs (begun_ctor_args {p} {r} (begun_args_some {p = q} {xs} a)) l h =
    inner_call n r p (Punct q paren_open ∷ xs) (call_ends n r (Punct q paren_open ∷ xs) (begun_args_some {p = q} a) l h.1.1 refl)
goes_ctor n vs (begun_ctor_args {p} {r} {xs} (begun_args_whole a)) l h = inner_call n r p xs (call_ends n r xs (begun_args_whole a) l h.1.1 (args_first a))
goes_ctor n vs (begun_ctor_super {zs} a r) l h =
    rw (args_first a) (rw (reads_args n a (omega arith) (low_args h.1.1 a))
    (ends_bind (bstmts_of n zs) _ (goes_bstmts n zs r (omega arith) (rows_behind (closed_args a) h.1.1).1) (λ x. refl)))
goes_ctor n vs (begun_ctor_whole d) l h = ap left_of (reads_ctor n d l (few_ctor (few_rows vs h) d))
