-- How loosely a mark or `instanceof` binds, and so what it ends.
use Rattle.std.proofs.Common.{◌≡◌, ℕ, suc, ◌<◌, Bool, true, false, nat_eq, List, [], ◌∷◌, length, arith, refl, ap, slice_index_or, if◌then◌else◌}
use Rattle.std.specs.List.{list_any}
use borrow.Author.Tests.{eqb-true}
use Rattle.jv_tree.specs.Shaped.{IsOneOf, levels, instance_of, postfix_operators, assignment_operators}
use Rattle.jv_grammar.specs.declared.terminal.Terminal.{Terminal}
use Rattle.jv_grammar.specs.declared.terminal.Terminal.TheVariants.{Ident, Keyword, Literal, Minimum, MinimumLong, Punct}
use Rattle.jv_grammar.specs.Marks.{word_instanceof}
use Rattle.jv_grammar.specs.TypeGrammar.{starts}
use Rattle.jv_grammar.proofs.Read.{Each, among}

-- 0 behind an operand (`. [ (` `++ --`), 1 to 10 the levels of operators, 11 `?`, 12 assignments, 13 the rest
abbrev pub ranks : List ℕ
ranks = 0 ∷ 13 ∷ 13 ∷ 13 ∷ 0 ∷ 13 ∷ 13 ∷ 13 ∷ 0 ∷ 13 ∷ 13 ∷ 13 ∷ 12 ∷ 4 ∷ 4 ∷ 13 ∷ 13 ∷ 11 ∷ 13 ∷ 13 ∷ 5 ∷ 4 ∷ 4 ∷ 5 ∷ 9 ∷ 10 ∷ 0 ∷ 0 ∷ 2 ∷ 2 ∷ 1 ∷ 1 ∷ 6 ∷ 8 ∷ 7 ∷ 1 ∷ 3 ∷ 3 ∷ 3 ∷ 12 ∷ 12 ∷ 12 ∷ 12 ∷ 12 ∷ 12 ∷ 12 ∷ 12 ∷ 12 ∷ 12 ∷ 12 ∷ []

abbrev pub rank : ℕ → ℕ
rank o = if nat_eq o instance_of then 4 else slice_index_or ranks o 13

abbrev pub first_rank : List Terminal → ℕ
first_rank [] = 13
first_rank (Punct p o ∷ xs) = rank o
first_rank (Keyword p k ∷ xs) = if nat_eq k word_instanceof then 4 else 13
first_rank (x ∷ xs) = 13

-- a test that passes never
pub apart : {A : Type 0} (f : A → Bool) (o : A) → (f o ≡ true → ⊥) → f o ≡ false
apart f o never = by (f o) refl
  where
    by : (b : Bool) → f o ≡ b → f o ≡ false
    by false e = e
    by true e = absurd (never e)

-- the number has another rank than n has
pub rank_apart : (n o : ℕ) → rank n < rank o → nat_eq o n ≡ false
rank_apart n o h = apart (λ x. nat_eq x n) o (λ e. let same : rank o ≡ rank n = ap rank (eqb-true o n e) in omega arith)

pub starts_apart : (n : ℕ) (xs : List Terminal) → rank n < first_rank xs → starts n xs ≡ false
starts_apart n [] h = refl
starts_apart n (Punct p o ∷ xs) h = rank_apart n o h
starts_apart n (Ident i ∷ xs) h = refl
starts_apart n (Keyword p k ∷ xs) h = refl
starts_apart n (Literal p l ∷ xs) h = refl
starts_apart n (Minimum p ∷ xs) h = refl
starts_apart n (MinimumLong p ∷ xs) h = refl

-- each operator of a level has the rank k
abbrev pub AreRanked : ℕ → List ℕ → Type 0
AreRanked k ns = Each (λ n. rank n ≡ k) ns

-- the levels rank by how many of them are left
abbrev pub IsRanked : List (List ℕ) → Type 0
IsRanked [] = Unit {0}
IsRanked (level ∷ tighter) = AreRanked (suc (length tighter)) level × IsRanked tighter

pub levels_ranked : IsRanked levels
levels_ranked = ((refl, tt), ((refl, tt), ((refl, tt), ((refl, tt), ((refl, tt), ((refl, (refl, tt)), ((refl, (refl, (refl, (refl, (refl, tt))))), ((refl, (refl, (refl, tt))), ((refl, (refl, tt)), ((refl, (refl, (refl, tt))), tt))))))))))

pub assignments_ranked : AreRanked 12 assignment_operators
assignments_ranked = (refl, (refl, (refl, (refl, (refl, (refl, (refl, (refl, (refl, (refl, (refl, (refl, tt))))))))))))

pub steps_ranked : AreRanked 0 postfix_operators
steps_ranked = (refl, (refl, tt))

pub ranked : (k : ℕ) (ns : List ℕ) (o : ℕ) → AreRanked k ns → IsOneOf ns o → rank o ≡ k
ranked k ns o e h = among (λ n. rank n ≡ k) ns o e h

-- an operator of another rank is none of these
pub not_ranked : (k : ℕ) (ns : List ℕ) (o : ℕ) → AreRanked k ns → (rank o ≡ k → ⊥) → list_any (nat_eq o) ns ≡ false
not_ranked k ns o e never = apart (λ x. list_any (nat_eq x) ns) o (λ h. never (ranked k ns o e h))

pub not_step : (o : ℕ) → 0 < rank o → list_any (nat_eq o) postfix_operators ≡ false
not_step o h = not_ranked 0 postfix_operators o steps_ranked (λ e. omega arith)
