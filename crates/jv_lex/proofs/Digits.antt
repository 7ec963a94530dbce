-- What was read of the digits of a number.
use Rattle.std.proofs.Common.{◌≡◌, ℕ, ◌+◌, ◌*◌, ◌<◌, ◌^◌, true, List, [], ◌∷◌, Option, cond, refl, sym, ap, ◌∙◌}
use Rattle.std.proofs.Math.Numerals.{one-add}
use Rattle.std.specs.Option.{SomeIff}
use Rattle.std.specs.List.{fold}
use Rattle.std.specs.Char.{digit_value, is_digit}
use Rattle.std.proofs.lemmas.List.Sums.{take_while-cons}
use Rattle.std.proofs.lemmas.Bool.Decides.{Decides-ltb}
use Rattle.jv_lex.specs.Number.{digits, behind_digits, value}

-- the digits so far are worth some number, from which the rest of the text makes the value of the whole
pub record ReadSoFar (radix : ℕ) (read : Option ℕ) (rest text : List ℕ) : Type 0 where
  pub worth : ℕ
  pub seen : SomeIff read (worth < 2 ^ 64) worth
  pub whole : fold (λ v d. v * radix + digit_value d) worth (digits radix rest) ≡ value radix (digits radix text)

digits-cons : (radix c : ℕ) (cs : List ℕ) → digit_value c < radix → digits radix (c ∷ cs) ≡ c ∷ digits radix cs
digits-cons radix c cs l =
    take_while-cons (λ d. is_digit d radix) c cs ∙ ap (λ b. cond b (c ∷ digits radix cs) []) ((Decides-ltb (digit_value c) radix).1 l)

-- one digit more
pub read_more : (radix c : ℕ) (read next : Option ℕ) (cs text : List ℕ) → digit_value c < radix
    → ((n : ℕ) → SomeIff read (n < 2 ^ 64) n → SomeIff next (n * radix + digit_value c < 2 ^ 64) (n * radix + digit_value c))
    → ReadSoFar radix read (c ∷ cs) text → ReadSoFar radix next cs text
read_more radix c read next cs text l step r = record {
  worth = r.worth * radix + digit_value c;
  seen = step r.worth r.seen;
  whole = sym (ap (fold (λ v d. v * radix + digit_value d) r.worth) (digits-cons radix c cs l)) ∙ r.whole;
}

pub behind_digits-cons : (radix c : ℕ) (cs : List ℕ) → digit_value c < radix → behind_digits radix (c ∷ cs) ≡ behind_digits radix cs
behind_digits-cons radix c cs l = let e : is_digit c radix ≡ true = (Decides-ltb (digit_value c) radix).1 l in rw (e, one-add) refl
