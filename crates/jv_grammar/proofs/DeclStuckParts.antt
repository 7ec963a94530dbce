-- A reader that asks for one more terminal at the end was given what begins its part: parameters, constants, methods, fields and
-- constructors, the package and the imports of a file.
use Rattle.std.proofs.Common.{◌≡◌, ℕ, zero, suc, ◌&&◌, ◌⊎◌, inl, inr, Bool, true, false, nat_eq, List, [], ◌∷◌, length, sym, ap, ◌∙◌, subst, Ok, Some, Option}
use borrow.Author.Tests.{eqb-true}
use Rattle.jv_tree.specs.declared.name.Ident.{Ident as Identifier}
use Rattle.jv_tree.specs.TypeTree.{void, TypeTree}
use Rattle.jv_tree.specs.ExprTree.{ExprTrees}
use Rattle.jv_tree.specs.StmtTree.{StmtTrees}
use Rattle.jv_tree.specs.DeclTree as t
use Rattle.jv_tree.specs.DeclTree.{ParamTree, ImportTree}
use Rattle.jv_grammar.specs.declared.terminal.Terminal.{Terminal}
use Rattle.jv_grammar.specs.declared.terminal.Terminal.TheVariants.{Ident, Keyword, Punct}
use Rattle.jv_grammar.specs.Marks.{paren_open, paren_close, brace_open, brace_close, semicolon, comma, dot, equals_sign, star, word_extends, word_final, word_implements, word_import, word_package, word_static, word_super, word_void}
use Rattle.jv_grammar.specs.TypeGrammar.{starts, starts_word, DerivesName, name_one, name_more, DerivesTy, DerivesResult, result_ty, result_void}
use Rattle.jv_grammar.specs.ExprGrammar.{DerivesArgs, DerivesInit}
use Rattle.jv_grammar.specs.StmtGrammar.{DerivesVars, DerivesBstmts}
use Rattle.jv_grammar.specs.DeclGrammar.{DerivesMods, DerivesParam, DerivesSomeParams, DerivesParams, DerivesConstants}
use Rattle.jv_grammar.specs.Reader.{rest_of, closed}
use Rattle.jv_grammar.specs.TypeReader.{name_of, ty_of}
use Rattle.jv_grammar.specs.ExprReader.{args_of, init_of, below}
use Rattle.jv_grammar.specs.StmtReader.{vars_of, block_of, bstmts_of, below_stmt}
use Rattle.jv_grammar.specs.DeclReader.{ident_of, calls, names_of, parent_of, headed_of, named_of, param_of, some_params_of, params_of, constants_of, body_of, field_of, method_of, typed_of, plain_of, call_of, inner_of, ctor_of, package_of, path_of, stands_alone, listed_of, import_of, imports_of}
use Rattle.jv_grammar.specs.TypeBegins.{BeginsName, begun_name_none, begun_name_more, begun_name_whole, BeginsNames, begun_names_none, begun_names_one, begun_names_more, BeginsTy, begun_ty_whole, BeginsResult, begun_result_none, begun_result_ty, begun_result_whole}
use Rattle.jv_grammar.specs.ExprBegins.{begun_args_whole}
use Rattle.jv_grammar.specs.StmtBegins.{begun_vars_whole, BeginsBstmts, begun_bstmts_whole}
use Rattle.jv_grammar.specs.DeclBegins.{BeginsParam, begun_param_ty, begun_param_final, BeginsSomeParams, begun_some_params_none, begun_some_params_one, begun_some_params_more, begun_some_params_whole, BeginsParams, begun_params_none, begun_params_some, BeginsBody, begun_body_block, BeginsCtor, begun_ctor_none, begun_ctor_plain, begun_ctor_args, begun_ctor_super, BeginsConstants, begun_constants_none, begun_constants_name, begun_constants_one, begun_constants_more, begun_constants_whole, BeginsParent, begun_parent_some, BeginsParents, begun_parents_some, BeginsInterfaces, begun_interfaces_some, begun_member_result, begun_member_vars, begun_member_params, begun_member_body, begun_member_ctor_params, begun_member_ctor, begun_imember_result, begun_imember_constants, begun_imember_params, begun_imember_body, BeginsPackage, begun_package_some, BeginsImport, begun_import_name, begun_import_star, begun_import_static_name, begun_import_static_star, BeginsImports, begun_imports_none, begun_imports_one, begun_imports_more}
use Rattle.jv_grammar.proofs.Ending.{Stops}
use Rattle.jv_grammar.proofs.StuckLaw.{IsStuck, StuckNames, StuckParents, StuckParam, StuckSomeParams, StuckParams, StuckConstants, BeginsMemberIn, StuckPlain, StuckInner, StuckCtor, StuckPackage, StuckImport, StuckImports}
use Rattle.jv_grammar.proofs.Read.{bind_then, chosen, err_ok, ok_is, both, starts_is, closed_ok}
use Rattle.jv_grammar.proofs.Types.{derives_name, derives_ty}
use Rattle.jv_grammar.proofs.Sound.{sound, two_are, derives_init, derives_args}
use Rattle.jv_grammar.proofs.StmtSound.{sound_stmt, starts_word_is, derives_vars, derives_bstmts}
use Rattle.jv_grammar.proofs.DeclSound.{ident_ok, derives_param, derives_some_params, derives_params, derives_constants, derives_import}
use Rattle.jv_grammar.proofs.Stuck.{err_is, ok_err, more_err, stops_then, stuck_name, stuck_ty}
use Rattle.jv_grammar.proofs.StuckHeads.{closed_stop, stuck_args}
use Rattle.jv_grammar.proofs.StuckReaders.{readers_are_stuck, stuck_init}
use Rattle.jv_grammar.proofs.StmtStuckParts.{stuck_vars}
use Rattle.jv_grammar.proofs.StmtStuck.{stuck_block, stuck_bstmts, statements_are_stuck}

pub ident_stop : (xs : List Terminal) → Stops (ident_of xs) → xs ≡ []
ident_stop [] h = err_is h
ident_stop (Ident i ∷ xs) h = absurd (ok_err h)
ident_stop (x ∷ xs) h = absurd (more_err h)

pub stuck_names : StuckNames
unfolding names_of
stuck_names zero xs h = subst BeginsNames (sym (err_is h)) begun_names_none
stuck_names (suc c) xs h = stops_then (name_of xs) _ h (λ q. begun_names_one (stuck_name xs q)) (λ x e h'. elim (chosen (starts comma x.1) _ _ _ h') [
  | inl w ↦ stops_then (names_of c (rest_of x.1)) _ w.1
      (λ q. begun_names_more (subst (DerivesName x.0 xs) (starts_is comma x.1 w.0).1 (derives_name xs x e)) (stuck_names c (rest_of x.1) q))
      (λ y e' k. absurd (ok_err k))
  | inr w ↦ absurd (ok_err w.1)
])

stuck_parent : IsStuck parent_of BeginsParent
unfolding parent_of
stuck_parent xs h = elim (chosen (starts_word word_extends xs) _ _ _ h) [
  | inl w ↦ subst BeginsParent (sym (starts_word_is word_extends xs w.0).1) (begun_parent_some (stops_then (name_of (rest_of xs)) _ w.1 (stuck_name (rest_of xs)) (λ y e k. absurd (ok_err k))))
  | inr w ↦ absurd (ok_err w.1)
]

stuck_extends : IsStuck (headed_of word_extends) BeginsParents
unfolding headed_of
stuck_extends xs h = elim (chosen (starts_word word_extends xs) _ _ _ h) [
  | inl w ↦ subst BeginsParents (sym (starts_word_is word_extends xs w.0).1) (begun_parents_some (stuck_names (length xs) (rest_of xs) w.1))
  | inr w ↦ absurd (ok_err w.1)
]

stuck_implements : IsStuck (headed_of word_implements) BeginsInterfaces
unfolding headed_of
stuck_implements xs h = elim (chosen (starts_word word_implements xs) _ _ _ h) [
  | inl w ↦ subst BeginsInterfaces (sym (starts_word_is word_implements xs w.0).1) (begun_interfaces_some (stuck_names (length xs) (rest_of xs) w.1))
  | inr w ↦ absurd (ok_err w.1)
]

pub stuck_parents : StuckParents
stuck_parents = (stuck_parent, stuck_extends, stuck_implements)

-- the type of a parameter, up to its identifier
stuck_named : (f : Bool) (xs : List Terminal) → Stops (named_of f xs) → BeginsTy xs
stuck_named f xs h = stops_then (ty_of xs) _ h (stuck_ty xs) (λ x e h'. stops_then (ident_of x.1) _ h'
    (λ q. begun_ty_whole (subst (DerivesTy x.0 xs) (ident_stop x.1 q) (derives_ty xs x e).0)) (λ y e' k. absurd (ok_err k)))

pub stuck_param : StuckParam
unfolding param_of
stuck_param xs h = elim (chosen (starts_word word_final xs) _ _ _ h) [
  | inl w ↦ subst BeginsParam (sym (starts_word_is word_final xs w.0).1) (begun_param_final (stuck_named true (rest_of xs) w.1))
  | inr w ↦ begun_param_ty (stuck_named false xs w.1)
]

pub stuck_some_params : StuckSomeParams
unfolding some_params_of
stuck_some_params zero xs h = subst BeginsSomeParams (sym (err_is h)) begun_some_params_none
stuck_some_params (suc c) xs h = stops_then (param_of xs) _ h (λ q. begun_some_params_one (stuck_param xs q)) (λ x e h'. elim (chosen (starts comma x.1) _ _ _ h') [
  | inl w ↦ stops_then (some_params_of c (rest_of x.1)) _ w.1
      (λ q. begun_some_params_more (subst (DerivesParam x.0 xs) (starts_is comma x.1 w.0).1 (derives_param xs x e).0) (stuck_some_params c (rest_of x.1) q))
      (λ y e' k. absurd (ok_err k))
  | inr w ↦ absurd (ok_err w.1)
])

pub stuck_params : StuckParams
unfolding params_of
stuck_params xs h = elim (chosen (starts paren_open xs) _ _ _ h) [
  | inl w ↦ elim (chosen (starts paren_close (rest_of xs)) _ _ _ w.1) [
    | inl v ↦ absurd (ok_err v.1)
    | inr v ↦ subst BeginsParams (sym (starts_is paren_open xs w.0).1) (begun_params_some (stops_then (some_params_of (length xs) (rest_of xs)) _ v.1
        (stuck_some_params (length xs) (rest_of xs))
        (λ x e h'. begun_some_params_whole (subst (DerivesSomeParams x.0 (rest_of xs)) (closed_stop paren_close x.0 x.1 h') (derives_some_params (length xs) (rest_of xs) x e).0))))
  ]
  | inr w ↦ subst BeginsParams (sym (err_is w.1)) begun_params_none
]

pub stuck_constants : StuckConstants
unfolding constants_of
stuck_constants n zero xs h = subst BeginsConstants (sym (err_is h)) begun_constants_none
stuck_constants n (suc c) xs h = stops_then (ident_of xs) _ h (λ q. subst BeginsConstants (sym (ident_stop xs q)) begun_constants_none) (λ i e h1.
    stops_then (closed equals_sign i.0 i.1) _ h1
    (λ q. subst BeginsConstants (sym (ident_ok xs i e ∙ ap (λ z. Ident i.0 ∷ z) (closed_stop equals_sign i.0 i.1 q))) begun_constants_name)
    (λ j e1 h2.
    let m = closed_ok equals_sign i.0 i.1 j e1 in
    subst BeginsConstants (sym (ident_ok xs i e ∙ ap (λ z. Ident i.0 ∷ z) m.1))
    (stops_then (init_of (below n) j.1) _ h2 (λ q. begun_constants_one (stuck_init (below n) (sound n) (readers_are_stuck n) j.1 q)) (λ x e2 h3.
    elim (chosen (starts comma x.1) _ _ _ h3) [
      | inl w ↦ stops_then (constants_of n c (rest_of x.1)) _ w.1
          (λ q. begun_constants_more (subst (DerivesInit x.0 j.1) (starts_is comma x.1 w.0).1 (derives_init n j.1 x e2).0) (stuck_constants n c (rest_of x.1) q))
          (λ y e3 k. absurd (ok_err k))
      | inr w ↦ absurd (ok_err w.1)
    ]))))

-- behind modifiers: a result, and the parameters and the body of a method, begin a member of a class or of an interface
result_begins : (i : Bool) {ks : List ℕ} {ws xs : List Terminal} → DerivesMods ks ws xs → BeginsResult xs → BeginsMemberIn i ws
result_begins true m r = begun_imember_result m r
result_begins false m r = begun_member_result m r

params_begin : (i : Bool) {ks : List ℕ} {r : TypeTree} {j : Identifier} {ws xs ys : List Terminal} → DerivesMods ks ws xs → DerivesResult r xs (Ident j ∷ ys) → BeginsParams ys → BeginsMemberIn i ws
params_begin true m d p = begun_imember_params m d p
params_begin false m d p = begun_member_params m d p

body_begins : (i : Bool) {ks : List ℕ} {r : TypeTree} {j : Identifier} {bs : List ParamTree} {ws xs ys vs : List Terminal}
    → DerivesMods ks ws xs → DerivesResult r xs (Ident j ∷ ys) → DerivesParams bs ys vs → BeginsBody vs → BeginsMemberIn i ws
body_begins true m d p b = begun_imember_body m d p b
body_begins false m d p b = begun_member_body m d p b

stuck_body : (i : Bool) (n : ℕ) {ks : List ℕ} {r : TypeTree} {j : Identifier} {bs : List ParamTree} {ws xs ys : List Terminal} (vs : List Terminal)
    → DerivesMods ks ws xs → DerivesResult r xs (Ident j ∷ ys) → DerivesParams bs ys vs → Stops (body_of n vs) → BeginsMemberIn i ws
stuck_body i n vs m d p h = elim (chosen (starts semicolon vs) _ _ _ h) [
  | inl w ↦ absurd (ok_err w.1)
  | inr w ↦ body_begins i m d p (begun_body_block (stops_then (block_of n vs) _ w.1 (stuck_block (below_stmt n) (sound_stmt n) (statements_are_stuck n) vs) (λ y e k. absurd (ok_err k))))
]

stuck_method : (i : Bool) (n : ℕ) (ks : List ℕ) (r : TypeTree) {ws xs : List Terminal} (ys : List Terminal) → DerivesMods ks ws xs → DerivesResult r xs ys → Stops (method_of n ks r ys) → BeginsMemberIn i ws
unfolding method_of
stuck_method i n ks r {xs} ys m d h = stops_then (ident_of ys) _ h (λ q. result_begins i m (begun_result_whole (subst (DerivesResult r xs) (ident_stop ys q) d))) (λ j e h1.
    let d' = subst (DerivesResult r xs) (ident_ok ys j e) d in
    stops_then (params_of j.1) _ h1 (λ q. params_begin i m d' (stuck_params j.1 q)) (λ a e1 h2.
    stops_then (body_of n a.1) _ h2 (λ q. stuck_body i n a.1 m d' (derives_params j.1 a e1).0 q) (λ y e2 k. absurd (ok_err k))))

stuck_field : (i : Bool) (n : ℕ) (ks : List ℕ) (r : TypeTree) {ws xs : List Terminal} (ys : List Terminal) → DerivesMods ks ws xs → DerivesTy r xs ys → Stops (field_of i n ks r ys) → BeginsMemberIn i ws
unfolding field_of
stuck_field true n ks r ys m d h = begun_imember_constants m d (stops_then (constants_of n (length ys) ys) _ h (stuck_constants n (length ys) ys) (λ v e k.
    begun_constants_whole (subst (DerivesConstants v.0 ys) (closed_stop semicolon (t.field ks r v.0) v.1 k) (derives_constants n (length ys) ys v e).0)))
stuck_field false n ks r ys m d h = begun_member_vars m d (stops_then (vars_of n ys) _ h ((stuck_vars (below n) (sound n) (readers_are_stuck n)).1 ys) (λ v e k.
    begun_vars_whole (subst (DerivesVars v.0 ys) (closed_stop semicolon (t.field ks r v.0) v.1 k) (derives_vars n ys v e).0)))

stuck_typed : (i : Bool) (n : ℕ) (ks : List ℕ) (ws xs : List Terminal) → DerivesMods ks ws xs → Stops (typed_of i n ks xs) → BeginsMemberIn i ws
unfolding typed_of
stuck_typed i n ks ws xs m h = stops_then (ty_of xs) _ h (λ q. result_begins i m (begun_result_ty (stuck_ty xs q))) (λ x e h'. elim (chosen (calls x.1) _ _ _ h') [
  | inl w ↦ stuck_method i n ks x.0 x.1 m (result_ty (derives_ty xs x e).0) w.1
  | inr w ↦ stuck_field i n ks x.0 x.1 m (derives_ty xs x e).0 w.1
])

pub stuck_plain : StuckPlain
unfolding plain_of
stuck_plain i n ks ws [] m h = stuck_typed i n ks ws [] m h
stuck_plain i n ks ws (Keyword p k ∷ xs) m h = elim (chosen (nat_eq k word_void) _ _ _ h) [
  | inl w ↦ (let d : DerivesResult (record { at = p; base = void; dims = 0 }) (Keyword p k ∷ xs) xs =
      subst (λ z. DerivesResult (record { at = p; base = void; dims = 0 }) (Keyword p z ∷ xs) xs) (sym (eqb-true k word_void w.0)) result_void in
      stuck_method i n ks (record { at = p; base = void; dims = 0 }) xs m d w.1)
  | inr w ↦ stuck_typed i n ks ws (Keyword p k ∷ xs) m w.1
]
stuck_plain i n ks ws (x ∷ xs) m h = stuck_typed i n ks ws (x ∷ xs) m h

-- in the call that a constructor begins with
call_stops : (n p : ℕ) (xs : List Terminal) → Stops (call_of n xs) → BeginsCtor (Punct p brace_open ∷ xs)
unfolding call_of
call_stops n p [] h = absurd (ok_err h)
call_stops n p (Keyword u k ∷ xs) h = elim (chosen (nat_eq k word_super && starts paren_open xs) _ _ _ h) [
  | inl w ↦ subst (λ z. BeginsCtor (Punct p brace_open ∷ Keyword u z ∷ xs)) (sym (eqb-true k word_super (both (nat_eq k word_super) (starts paren_open xs) w.0).0))
      (begun_ctor_args (stops_then (args_of (below n).expr xs) _ w.1 (stuck_args (below n) (sound n) (readers_are_stuck n) xs) (λ x e h'.
      begun_args_whole (subst (DerivesArgs x.0 xs) (closed_stop {A = Option (ℕ × ExprTrees)} semicolon (Some (u, x.0)) x.1 h') (derives_args n xs x e).0))))
  | inr w ↦ absurd (ok_err w.1)
]
call_stops n p (x ∷ xs) h = absurd (ok_err h)

-- behind it, or where there is none
call_begins : (n p : ℕ) (xs : List Terminal) (c : Option (ℕ × ExprTrees) × List Terminal) → call_of n xs ≡ Ok c → BeginsBstmts c.1 → BeginsCtor (Punct p brace_open ∷ xs)
unfolding call_of
call_begins n p [] c h r = begun_ctor_plain (subst (λ (z : Option (ℕ × ExprTrees) × List Terminal). BeginsBstmts z.1) (sym (ok_is h)) r)
call_begins n p (Keyword u k ∷ xs) c h r = elim (chosen (nat_eq k word_super && starts paren_open xs) _ _ _ h) [
  | inl w ↦ subst (λ z. BeginsCtor (Punct p brace_open ∷ Keyword u z ∷ xs)) (sym (eqb-true k word_super (both (nat_eq k word_super) (starts paren_open xs) w.0).0))
      (bind_then (args_of (below n).expr xs) _ _ w.1 (λ x e h'.
      begun_ctor_super (subst (DerivesArgs x.0 xs) (closed_ok {A = Option (ℕ × ExprTrees)} semicolon (Some (u, x.0)) x.1 c h').1 (derives_args n xs x e).0) r))
  | inr w ↦ begun_ctor_plain (subst (λ (z : Option (ℕ × ExprTrees) × List Terminal). BeginsBstmts z.1) (sym (ok_is w.1)) r)
]
call_begins n p (x ∷ xs) c h r = begun_ctor_plain (subst (λ (z : Option (ℕ × ExprTrees) × List Terminal). BeginsBstmts z.1) (sym (ok_is h)) r)

pub stuck_inner : StuckInner
unfolding inner_of
stuck_inner n xs h = elim (chosen (starts brace_open xs) _ _ _ h) [
  | inl w ↦ (let m = starts_is brace_open xs w.0 in
      subst BeginsCtor (sym m.1) (stops_then (call_of n (rest_of xs)) _ w.1 (call_stops n m.0 (rest_of xs)) (λ c e h'.
      call_begins n m.0 (rest_of xs) c e (stops_then (bstmts_of n c.1) _ h'
      ((stuck_bstmts (below n) (sound n) (readers_are_stuck n) (below_stmt n) (sound_stmt n) (statements_are_stuck n)).1 c.1)
      (λ x e' k. begun_bstmts_whole (subst (DerivesBstmts x.0 c.1) (closed_stop {A = Option (ℕ × ExprTrees) × StmtTrees} brace_close (c.0, x.0) x.1 k) (derives_bstmts n c.1 x e').0))))))
  | inr w ↦ subst BeginsCtor (sym (err_is w.1)) begun_ctor_none
]

pub stuck_ctor : StuckCtor
unfolding ctor_of
stuck_ctor n ks ws xs m h = stops_then (ident_of xs) _ h (λ q. begun_member_result (subst (DerivesMods ks ws) (ident_stop xs q) m) begun_result_none) (λ j e h1.
    let m' = subst (DerivesMods ks ws) (ident_ok xs j e) m in
    stops_then (params_of j.1) _ h1 (λ q. begun_member_ctor_params m' (stuck_params j.1 q)) (λ a e1 h2.
    stops_then (inner_of n a.1) _ h2 (λ q. begun_member_ctor m' (derives_params j.1 a e1).0 (stuck_inner n a.1 q)) (λ y e2 k. absurd (ok_err k))))

pub stuck_package : StuckPackage
unfolding package_of
stuck_package xs h = elim (chosen (starts_word word_package xs) _ _ _ h) [
  | inl w ↦ subst BeginsPackage (sym (starts_word_is word_package xs w.0).1) (begun_package_some (stops_then (name_of (rest_of xs)) _ w.1 (stuck_name (rest_of xs)) (λ x e k.
      begun_name_whole (subst (DerivesName x.0 (rest_of xs)) (closed_stop {A = Option (List Identifier)} semicolon (Some x.0) x.1 k) (derives_name (rest_of xs) x e)))))
  | inr w ↦ absurd (ok_err w.1)
]

-- a name, or one with `. *` behind it
abbrev BeginsPath : List Terminal → Type 0
BeginsPath xs = BeginsName xs ⊎ ((ids : List Identifier) × (q : ℕ) × (r : ℕ) × DerivesName ids xs (Punct q dot ∷ Punct r star ∷ []))

longer_path : (i : Identifier) (u : ℕ) (xs : List Terminal) → BeginsPath xs → BeginsPath (Ident i ∷ Punct u dot ∷ xs)
longer_path i u xs (inl r) = inl (begun_name_more r)
longer_path i u xs (inr (ids, q, r, d)) = inr (i ∷ ids, q, r, name_more d)

stuck_path : (s : Bool) (c : ℕ) (xs : List Terminal) → Stops (path_of s c xs) → BeginsPath xs
unfolding path_of
stuck_path s zero xs h = inl (subst BeginsName (sym (err_is h)) begun_name_none)
stuck_path s (suc c) xs h = stops_then (ident_of xs) _ h (λ q. inl (subst BeginsName (sym (ident_stop xs q)) begun_name_none)) (λ i e h'. elim (chosen (starts dot i.1) _ _ _ h') [
  | inl w ↦ elim (chosen (starts star (rest_of i.1)) _ _ _ w.1) [
    | inl v ↦ absurd (ok_err v.1)
    | inr v ↦ (let m = starts_is dot i.1 w.0 in
        subst BeginsPath (sym (ident_ok xs i e ∙ ap (λ z. Ident i.0 ∷ z) m.1)) (longer_path i.0 m.0 (rest_of i.1)
        (stops_then (path_of s c (rest_of i.1)) _ v.1 (stuck_path s c (rest_of i.1)) (λ y e' k. absurd (ok_err k)))))
  ]
  | inr w ↦ absurd (ok_err w.1)
])

-- a path up to the end
path_begins : (s : Bool) (c : ℕ) (xs : List Terminal) (r : ImportTree × List Terminal) → path_of s c xs ≡ Ok r → r.1 ≡ [] → BeginsPath xs
unfolding path_of
path_begins s zero xs r h end = absurd (err_ok h)
path_begins s (suc c) xs r h end = bind_then (ident_of xs) _ _ h (λ i e h'.
    let one : DerivesName (i.0 ∷ []) xs i.1 = subst (λ z. DerivesName (i.0 ∷ []) z i.1) (sym (ident_ok xs i e)) name_one in
    elim (chosen (starts dot i.1) _ _ _ h') [
      | inl w ↦ elim (chosen (starts star (rest_of i.1)) _ _ _ w.1) [
        | inl v ↦ (let m = two_are dot star i.1 w.0 v.0 in
            let all : rest_of (rest_of i.1) ≡ [] = ap (λ (z : ImportTree × List Terminal). z.1) (ok_is v.1) ∙ end in
            inr (i.0 ∷ [], m.0, m.1, subst (DerivesName (i.0 ∷ []) xs) (m.2 ∙ ap (λ z. Punct m.0 dot ∷ Punct m.1 star ∷ z) all) one))
        | inr v ↦ (let m = starts_is dot i.1 w.0 in
            bind_then (path_of s c (rest_of i.1)) _ _ v.1 (λ x e' k.
            subst BeginsPath (sym (ident_ok xs i e ∙ ap (λ z. Ident i.0 ∷ z) m.1))
            (longer_path i.0 m.0 (rest_of i.1) (path_begins s c (rest_of i.1) x e' (ap (λ (z : ImportTree × List Terminal). z.1) (ok_is k) ∙ end)))))
      ]
      | inr w ↦ inl (begun_name_whole (subst (DerivesName (i.0 ∷ []) xs) (ap (λ (z : ImportTree × List Terminal). z.1) (ok_is w.1) ∙ end) one))
    ])

import_begins : (p : ℕ) (xs : List Terminal) → BeginsPath xs → BeginsImport (Keyword p word_import ∷ xs)
import_begins p xs (inl r) = begun_import_name r
import_begins p xs (inr (ids, q, r, d)) = begun_import_star d

static_begins : (p o : ℕ) (xs : List Terminal) → BeginsPath xs → BeginsImport (Keyword p word_import ∷ Keyword o word_static ∷ xs)
static_begins p o xs (inl r) = begun_import_static_name r
static_begins p o xs (inr (ids, q, r, d)) = begun_import_static_star d

-- where a single static import of one identifier is refused at the end, more of its name is asked
stuck_listed : (s : Bool) (xs : List Terminal) → Stops (listed_of s xs) → BeginsPath xs
unfolding listed_of
stuck_listed s xs h = stops_then (path_of s (length xs) xs) _ h (stuck_path s (length xs) xs) (λ x e k. elim (chosen (stands_alone x.0) _ _ _ k) [
  | inl w ↦ path_begins s (length xs) xs x e (err_is w.1)
  | inr w ↦ path_begins s (length xs) xs x e (closed_stop semicolon x.0 x.1 w.1)
])

pub stuck_import : StuckImport
unfolding import_of
stuck_import xs h p = elim (chosen (starts_word word_static xs) _ _ _ h) [
  | inl w ↦ (let m = starts_word_is word_static xs w.0 in
      subst (λ z. BeginsImport (Keyword p word_import ∷ z)) (sym m.1) (static_begins p m.0 (rest_of xs) (stuck_listed true (rest_of xs) w.1)))
  | inr w ↦ import_begins p xs (stuck_listed false xs w.1)
]

pub stuck_imports : StuckImports
unfolding imports_of
stuck_imports zero xs h = subst BeginsImports (sym (err_is h)) begun_imports_none
stuck_imports (suc c) xs h = elim (chosen (starts_word word_import xs) _ _ _ h) [
  | inl w ↦ (let m = starts_word_is word_import xs w.0 in
      subst BeginsImports (sym m.1) (stops_then (import_of (rest_of xs)) _ w.1 (λ q. begun_imports_one (stuck_import (rest_of xs) q m.0)) (λ x e h'.
      stops_then (imports_of c x.1) _ h' (λ q. begun_imports_more (derives_import m.0 (rest_of xs) x e) (stuck_imports c x.1 q)) (λ y e' k. absurd (ok_err k)))))
  | inr w ↦ absurd (ok_err w.1)
]
