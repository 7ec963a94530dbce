-- Reading a front of terminals against reading them all: names behind keywords, parameters, packages and imports.
use Rattle.std.proofs.Common.{ℕ, suc, Bool, true, false, List, [], ◌∷◌, arith, Option, None, Some, Ok, if◌then◌else◌}
use Rattle.jv_tree.specs.declared.name.Ident.{Ident as Identifier}
use Rattle.jv_tree.specs.DeclTree.{ParamTree, ImportTree}
use Rattle.jv_grammar.specs.declared.terminal.Terminal.{Terminal}
use Rattle.jv_grammar.specs.Marks.{paren_open, paren_close, semicolon, comma, dot, star, word_extends, word_final, word_import, word_package, word_static}
use Rattle.jv_grammar.specs.TypeGrammar.{starts, starts_word}
use Rattle.jv_grammar.specs.Reader.{Reads, ◌>>=◌, rest_of, closed}
use Rattle.jv_grammar.specs.TypeReader.{name_of}
use Rattle.jv_grammar.specs.DeclReader.{names_of, parent_of, headed_of, named_of, param_of, some_params_of, params_of, package_of, path_of, stands_alone, listed_of, import_of, imports_of}
use Rattle.jv_grammar.proofs.CutBoth.{CutBoth, cut_then, cut_done, cut_none, cut_map, cut_turn, cut_next, cut_if, cut_case, cut_mark}
use Rattle.jv_grammar.proofs.CutTurns.{all_turns, all_long_turns, turns_of, turns_under}
use Rattle.jv_grammar.proofs.CutTypes.{first_mark, first_word, both_name, both_ty}
use Rattle.jv_grammar.proofs.CutHeads.{lower}
use Rattle.jv_grammar.proofs.CutForms.{both_ident}

pub both_names : (d n m : ℕ) → CutBoth (suc n) (suc m) d (names_of n) (names_of m)
unfolding names_of
both_names d = all_turns names_of names_of (λ xs. omega arith) (λ xs. omega arith) (λ n m more.
    cut_then _ _ (both_name _ _ _) (λ x. cut_if (starts comma) (first_mark _) (cut_turn (cut_map (λ (ns : List (List Identifier)). x ∷ ns) more)) (cut_done (x ∷ []))))

pub both_parent : (n m d : ℕ) → CutBoth n m d parent_of parent_of
unfolding parent_of
both_parent n m d = cut_if (starts_word word_extends) (first_word _) (cut_next (cut_map (λ (ids : List Identifier). ids ∷ []) (both_name n m d))) (cut_done [])

pub both_headed : (w n m d : ℕ) → CutBoth n m d (headed_of w) (headed_of w)
unfolding headed_of
both_headed w n m d = cut_if (starts_word w) (first_word _) (lower (turns_under names_of names_of (both_names d))) (cut_done [])

both_named : (f : Bool) (n m d : ℕ) → CutBoth n m d (named_of f) (named_of f)
both_named f n m d = cut_then _ _ (both_ty n m d) (λ t. cut_map (λ (i : Identifier). record { is_final = f; ty = t; name = i }) (both_ident n m d))

pub both_param : (n m d : ℕ) → CutBoth n m d param_of param_of
unfolding param_of
both_param n m d = cut_if (starts_word word_final) (first_word _) (cut_next (both_named true n m d)) (both_named false n m d)

pub both_some_params : (d n m : ℕ) → CutBoth (suc n) (suc m) d (some_params_of n) (some_params_of m)
unfolding some_params_of
both_some_params d = all_turns some_params_of some_params_of (λ xs. omega arith) (λ xs. omega arith) (λ n m more.
    cut_then _ _ (both_param _ _ _) (λ x. cut_if (starts comma) (first_mark _) (cut_turn (cut_map (λ (ps : List ParamTree). x ∷ ps) more)) (cut_done (x ∷ []))))

-- what stands behind the `(` of parameters
abbrev in_params : ℕ → List Terminal → Reads (List ParamTree)
in_params c xs = if starts paren_close xs then Ok ([], rest_of xs) else (some_params_of c xs >>= λ r. closed paren_close r.0 r.1)

both_in_params : (d n m : ℕ) → CutBoth (suc n) (suc m) d (in_params n) (in_params m)
both_in_params d n m = cut_if (starts paren_close) (first_mark _) (cut_next (cut_done [])) (cut_then _ _ (both_some_params d n m) (λ ps. cut_mark paren_close ps))

pub both_params : (n m d : ℕ) → CutBoth n m d params_of params_of
unfolding params_of
both_params n m d = cut_if (starts paren_open) (first_mark _) (lower (turns_under in_params in_params (both_in_params d))) cut_none

-- a package behind its keyword
abbrev packaged : List Terminal → Reads (Option (List Identifier))
packaged xs = name_of xs >>= λ r. closed semicolon (Some r.0) r.1

pub both_package : (n m d : ℕ) → CutBoth n m d package_of package_of
unfolding package_of
both_package n m d = cut_if (starts_word word_package) (first_word _) (cut_next {p = packaged} {q = packaged} (cut_then _ _ (both_name n m d) (λ ids. cut_mark semicolon (Some ids)))) (cut_done None)

-- what stands behind a dot of an import
abbrev longer : Bool → Identifier → ℕ → List Terminal → Reads ImportTree
longer s i c xs = if starts star xs then Ok (record { name = i ∷ []; all = true; is_static = s }, rest_of xs) else (path_of s c xs >>= λ r. Ok (record { name = i ∷ r.0.name; all = r.0.all; is_static = s }, r.1))

pub both_path : (s : Bool) (d n m : ℕ) → CutBoth (suc n) (suc m) d (path_of s n) (path_of s m)
unfolding path_of
both_path s d = all_turns (path_of s) (path_of s) (λ xs. omega arith) (λ xs. omega arith) (λ n m more.
    cut_then _ _ (both_ident _ _ _) (λ i. cut_if (starts dot) (first_mark _)
    (cut_turn {p = longer s i n} {q = longer s i m} (cut_if (starts star) (first_mark _) (cut_next (cut_done (record { name = i ∷ []; all = true; is_static = s }))) (cut_map (λ (x : ImportTree). record { name = i ∷ x.name; all = x.all; is_static = s }) more)))
    (cut_done (record { name = i ∷ []; all = false; is_static = s }))))

pub both_listed : (s : Bool) (n m d : ℕ) → CutBoth n m d (listed_of s) (listed_of s)
unfolding listed_of
both_listed s n m d = cut_then _ _ (turns_of (path_of s) (path_of s) (both_path s d)) (λ x. cut_case (stands_alone x) cut_none (cut_mark semicolon x))

pub both_import : (n m d : ℕ) → CutBoth n m d import_of import_of
unfolding import_of
both_import n m d = cut_if (starts_word word_static) (first_word _) (cut_next (both_listed true n m d)) (both_listed false n m d)

-- an import behind its keyword, and those behind it
abbrev more_imports : ℕ → List Terminal → Reads (List ImportTree)
more_imports c xs = import_of xs >>= λ r. imports_of c r.1 >>= λ s. Ok (r.0 ∷ s.0, s.1)

pub both_imports : (d n m : ℕ) → CutBoth n m d (imports_of n) (imports_of m)
unfolding imports_of
both_imports d = all_long_turns imports_of imports_of (λ xs. omega arith) (λ xs. omega arith) (λ n m more.
    cut_if (starts_word word_import) (first_word _) (cut_turn {p = more_imports n} {q = more_imports m} (cut_then _ _ (both_import n m d) (λ x. cut_map (λ (is : List ImportTree). x ∷ is) more))) (cut_done []))
