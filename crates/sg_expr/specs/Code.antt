-- Expressions as lists of numbers, by which `impl Model` knows that their equality is a plain fact. No contract speaks of these definitions.
use Rattle.std.specs.Prelude.{◌≡◌, ℕ, zero, suc, List, [], ◌∷◌, ◌++◌}
use Rattle.std.proofs.Common.{refl, sym, ap, ◌∙◌, append_assoc}
use Rattle.std.proofs.lemmas.List.{append-nil}
use Rattle.std.specs.Coded.{Coded, code_by, coded_list, coded×, coded_ℕ}
use Rattle.sg_expr.specs.Tree.{ExprOf, no_word, empty_word, one_label, in_turn, either_of, repeated}

-- the parts of an expression from the inside out, each by the number of its kind and a label
abbrev pub parts_of : ExprOf → List (ℕ × ℕ)
parts_of no_word = (0, 0) ∷ []
parts_of empty_word = (1, 0) ∷ []
parts_of (one_label l) = (2, l) ∷ []
parts_of (in_turn a b) = parts_of a ++ (parts_of b ++ (3, 0) ∷ [])
parts_of (either_of a b) = parts_of a ++ (parts_of b ++ (4, 0) ∷ [])
parts_of (repeated a) = parts_of a ++ (5, 0) ∷ []

-- the expressions that are made when a part is added to those made before
abbrev pub with_part : ℕ → ℕ → List ExprOf → List ExprOf
with_part zero l made = no_word ∷ made
with_part (suc zero) l made = empty_word ∷ made
with_part (suc (suc zero)) l made = one_label l ∷ made
with_part (suc (suc (suc zero))) l (b ∷ a ∷ made) = in_turn a b ∷ made
with_part (suc (suc (suc (suc zero)))) l (b ∷ a ∷ made) = either_of a b ∷ made
with_part (suc (suc (suc (suc (suc k))))) l (a ∷ made) = repeated a ∷ made
with_part k l made = made

-- the expressions that are made of parts
abbrev pub made_of : List (ℕ × ℕ) → List ExprOf → List ExprOf
made_of [] made = made
made_of (x ∷ xs) made = made_of xs (with_part x.0 x.1 made)

-- the first expression
abbrev pub first_made : List ExprOf → ExprOf
first_made [] = no_word
first_made (e ∷ es) = e

made_on : (e : ExprOf) (xs : List (ℕ × ℕ)) (made : List ExprOf) → made_of (parts_of e ++ xs) made ≡ made_of xs (e ∷ made)
made_on no_word xs made = refl
made_on empty_word xs made = refl
made_on (one_label l) xs made = refl
made_on (in_turn a b) xs made =
    ap (λ (t : List (ℕ × ℕ)). made_of t made) (append_assoc (parts_of a) (parts_of b ++ (3, 0) ∷ []) xs)
    ∙ made_on a ((parts_of b ++ (3, 0) ∷ []) ++ xs) made
    ∙ ap (λ (t : List (ℕ × ℕ)). made_of t (a ∷ made)) (append_assoc (parts_of b) ((3, 0) ∷ []) xs)
    ∙ made_on b ((3, 0) ∷ xs) (a ∷ made)
made_on (either_of a b) xs made =
    ap (λ (t : List (ℕ × ℕ)). made_of t made) (append_assoc (parts_of a) (parts_of b ++ (4, 0) ∷ []) xs)
    ∙ made_on a ((parts_of b ++ (4, 0) ∷ []) ++ xs) made
    ∙ ap (λ (t : List (ℕ × ℕ)). made_of t (a ∷ made)) (append_assoc (parts_of b) ((4, 0) ∷ []) xs)
    ∙ made_on b ((4, 0) ∷ xs) (a ∷ made)
made_on (repeated a) xs made =
    ap (λ (t : List (ℕ × ℕ)). made_of t made) (append_assoc (parts_of a) ((5, 0) ∷ []) xs) ∙ made_on a ((5, 0) ∷ xs) made

-- an expression is made again of its parts
pub made_again : (e : ExprOf) → first_made (made_of (parts_of e) []) ≡ e
made_again e = ap (λ (t : List (ℕ × ℕ)). first_made (made_of t [])) (sym (append-nil (parts_of e))) ∙ ap first_made (made_on e [] [])

-- the code of expressions
abbrev pub coded_expr : Coded ExprOf
coded_expr = code_by (List (ℕ × ℕ)) (coded_list (coded× coded_ℕ coded_ℕ)) parts_of (λ xs. first_made (made_of xs [])) made_again
