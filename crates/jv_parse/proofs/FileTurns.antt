-- Turns of the loop that reads the types of a file.
use Rattle.std.proofs.Common.{◌≡◌, ℕ, zero, suc, ◌+◌, ◌-◌, ◌<◌, ◌≤◌, true, false, List, [], ◌∷◌, ◌++◌, length, map, ap, sym, ◌∙◌, refl, arith, append_assoc, Result, Ok, Err, if◌then◌else◌}
use Rattle.std.proofs.lemmas.List.{append-nil, map-append}
use Rattle.jv_tree.specs.declared.declaration.TypeDecl.{TypeDecl}
use Rattle.jv_tree.specs.DeclTree.{TypeDeclTree, type_decl_tree}
use Rattle.jv_grammar.specs.declared.terminal.Terminal.{Terminal}
use Rattle.jv_grammar.specs.Marks.{semicolon}
use Rattle.jv_grammar.specs.TypeGrammar.{starts}
use Rattle.jv_grammar.specs.Reader.{◌>>=◌, rest_of}
use Rattle.jv_grammar.specs.DeclReader.{type_of, types_of}
use Rattle.jv_parse_expr.specs.declared.fault.Fault.{Fault}
use Rattle.jv_parse_expr.specs.View.{Fails}
use Rattle.jv_parse_expr.proofs.Faults.{fails_bind}

-- the types of a file, all terminals of which are taken
abbrev pub Types : Type 0
Types = Result (List TypeDeclTree) (List Terminal)

abbrev pub some_types : List TypeDeclTree → Types
some_types ts = Ok ts

abbrev pub no_types : List Terminal → Types
no_types xs = Err xs

-- types that are read already, in front of those that are read behind them
abbrev pub types_onto : List TypeDecl → Types → Types
types_onto front r = r >>= λ s. Ok (map type_decl_tree front ++ s)

types_nil : (r : Types) → types_onto [] r ≡ r
types_nil (Ok s) = refl
types_nil (Err e) = refl

types_push : (items : List TypeDecl) (x : TypeDecl) (r : Types) → types_onto (items ++ x ∷ []) r ≡ types_onto items (r >>= λ s. some_types (type_decl_tree x ∷ s))
types_push items x (Ok s) =
    ap some_types (ap (λ l. l ++ s) (map-append type_decl_tree items (x ∷ [])) ∙ append_assoc (map type_decl_tree items) (type_decl_tree x ∷ []) s)
types_push items x (Err e) = refl

abbrev types_turn : ℕ → ℕ → List Terminal → Types
types_turn n c xs =
    if starts semicolon xs then types_of n c (rest_of xs)
    else (type_of n xs >>= λ r. types_of n c r.1 >>= λ s. some_types (r.0 ∷ s))

types_at : (n c : ℕ) (xs : List Terminal) → 0 < length xs → types_of n (suc c) xs ≡ types_turn n c xs
unfolding types_of
types_at n c [] h = absurd (omega arith)
types_at n c (x ∷ xs) h = refl

types_end : (n c : ℕ) (xs : List Terminal) → length xs ≡ 0 → types_of n c xs ≡ some_types []
unfolding types_of
types_end n zero [] h = refl
types_end n (suc c) [] h = refl
types_end n c (x ∷ xs) h = absurd (omega arith)

types_zero : (n : ℕ) (xs : List Terminal) → 0 < length xs → types_of n zero xs ≡ no_types xs
unfolding types_of
types_zero n [] h = absurd (omega arith)
types_zero n (x ∷ xs) h = refl

pub types_begin : (n c : ℕ) (items : List TypeDecl) (xs : List Terminal) → items ≡ [] → types_onto items (types_of n (c - 0) xs) ≡ types_of n c xs
types_begin n c items xs none = let e : c - 0 ≡ c = omega arith in rw (none, e) (types_nil (types_of n c xs))

pub types_over : (n c i : ℕ) (items : List TypeDecl) (xs : List Terminal) → c ≤ i → 0 < length xs → types_onto items (types_of n (c - i) xs) ≡ no_types xs
types_over n c i items xs h some = let e : c - i ≡ zero = omega arith in rw (e, types_zero n xs some) refl

pub types_done : (n c i : ℕ) (items : List TypeDecl) (xs : List Terminal) → length xs ≡ 0 → types_onto items (types_of n (c - i) xs) ≡ some_types (map type_decl_tree items)
types_done n c i items xs none = rw (types_end n (c - i) xs none) (ap some_types (append-nil (map type_decl_tree items)))

module _ (n c i : ℕ) (items : List TypeDecl) (xs : List Terminal) (h : i < c) (some : 0 < length xs) where
  types_now : types_of n (c - i) xs ≡ types_turn n (c - (i + 1)) xs
  types_now = let e : c - i ≡ suc (c - (i + 1)) = omega arith in ap (λ k. types_of n k xs) e ∙ types_at n (c - (i + 1)) xs some

  pub types_skip : (ys : List Terminal) → starts semicolon xs ≡ true → ys ≡ rest_of xs
      → types_onto items (types_of n (c - (i + 1)) ys) ≡ types_onto items (types_of n (c - i) xs)
  types_skip ys s at = sym (rw (types_now, s, ← at) refl)

  module _ (s : starts semicolon xs ≡ false) where
    pub types_failed : (e : Fault) → Fails e (type_of n xs) → Fails e (types_onto items (types_of n (c - i) xs))
    types_failed e f = rw (types_now, s) (fails_bind e _ _ (fails_bind e (type_of n xs) _ f))

    pub types_next : (x : TypeDecl) (ys : List Terminal) → type_of n xs ≡ Ok (type_decl_tree x, ys)
        → types_onto (items ++ x ∷ []) (types_of n (c - (i + 1)) ys) ≡ types_onto items (types_of n (c - i) xs)
    types_next x ys r = types_push items x (types_of n (c - (i + 1)) ys) ∙ sym (rw (types_now, s, r) refl)
