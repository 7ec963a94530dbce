-- What the names of a stretch of tokens add.
use Rattle.std.proofs.Common.{◌≡◌, ℕ, zero, suc, Bool, true, false, cond, List, [], ◌∷◌, ◌++◌, inl, inr, refl, sym, ap, ◌∙◌, subst, append_assoc, arith}
use Rattle.std.proofs.lemmas.List.{append-nil}
use Rattle.std.proofs.lemmas.List.Elements.{Contains-append_left, Contains-append_right, Contains-append_cases}
use Rattle.std.specs.List.{Contains, list_any}
use Rattle.std.specs.Str.{bytes_eq}
use Rattle.jv_lex.specs.declared.token.Token.{Token}
use Rattle.jv_parse.specs.Naming.{text_of, is_identifier, names_with}
use Rattle.jv_parse.specs.Parse.{AddsNames}
use Rattle.jv_parse.proofs.Numbers.{names_append, names_one, names_after}

nothing_in : (x : List ℕ) → Contains [] x → ⊥
nothing_in x c = absurd (omega (arith, c.1))

single : (x y : List ℕ) → Contains (x ∷ []) y → x ≡ y
single x y (zero, l, e) = e
single x y (suc k, l, e) = absurd (omega arith)

pub adds_nothing : (source : List ℕ) (tokens : List Token) (names : List (List ℕ)) → AddsNames source tokens names names
adds_nothing source tokens names = ([], sym (append-nil names), λ text c. absurd (nothing_in text c))

both : (source : List ℕ) (tokens : List Token) (old now new : List (List ℕ)) → AddsNames source tokens old now → AddsNames source tokens now new → AddsNames source tokens old new
both source tokens old now new a b = (
  a.0 ++ b.0,
  b.1 ∙ ap (λ ns. ns ++ b.0) a.1 ∙ append_assoc old a.0 b.0,
  λ text c. elim (Contains-append_cases a.0 b.0 text c) [ inl k ↦ a.2 text k | inr k ↦ b.2 text k ],
)

one : (source : List ℕ) (tokens : List Token) (names : List (List ℕ)) (x : Token) → Contains tokens x → AddsNames source tokens names (names_after source names x)
one source tokens names x among = added (is_identifier x.kind) (list_any (bytes_eq (text_of source x)) names) refl
  where
    added : (b c : Bool) → is_identifier x.kind ≡ b → AddsNames source tokens names (cond b (cond c names (names ++ text_of source x ∷ [])) names)
    added true true e = adds_nothing source tokens names
    added true false e = (text_of source x ∷ [], refl, λ text c. (x, among, e, single (text_of source x) text c))
    added false c e = adds_nothing source tokens names

first_of : (x : Token) (xs : List Token) → Contains (x ∷ xs) x
first_of x xs = (zero, omega arith, refl)

stretch : (source : List ℕ) (tokens : List Token) (names : List (List ℕ)) (front : List Token) → ((x : Token) → Contains front x → Contains tokens x) → AddsNames source tokens names (names_with source names front)
stretch source tokens names [] among = adds_nothing source tokens names
stretch source tokens names (x ∷ xs) among =
    let after : names_with source names (x ∷ []) ≡ names_after source names x = names_one source names x in
    let split : names_with source names (x ∷ xs) ≡ names_with source (names_after source names x) xs = names_append source names (x ∷ []) xs ∙ ap (λ ns. names_with source ns xs) after in
    subst (AddsNames source tokens names) (sym split)
    (both source tokens names (names_after source names x) (names_with source (names_after source names x) xs)
    (one source tokens names x (among x (first_of x xs)))
    (stretch source tokens (names_after source names x) xs (λ y c. among y (behind x xs y c))))
  where
    behind : (x : Token) (xs : List Token) (y : Token) → Contains xs y → Contains (x ∷ xs) y
    behind x xs y c = Contains-append_right (x ∷ []) xs y c

-- the names of a front of the tokens
pub adds_front : (source : List ℕ) (tokens front back : List Token) (old new : List (List ℕ)) → tokens ≡ front ++ back → new ≡ names_with source old front → AddsNames source tokens old new
adds_front source tokens front back old new split named =
    subst (AddsNames source tokens old) (sym named)
    (stretch source tokens old front (λ x c. subst (λ (ts : List Token). Contains ts x) (sym split) (Contains-append_left front back x c)))
