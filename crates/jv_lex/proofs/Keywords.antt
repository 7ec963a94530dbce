-- Where the keywords of each first letter stand, and the kinds of words.
use Rattle.std.proofs.Common.{◌≡◌, ℕ, zero, suc, ◌+◌, ◌-◌, ◌<◌, ◌≤◌, Bool, true, false, ◌&&◌, nat_eq, nat_lt, List, [], ◌∷◌, get_or, position, Option, Some, None, refl, sym, ap, ◌∙◌, arith, true≢false}
use Rattle.std.specs.List.{list_all, position_or_len}
use Rattle.std.specs.Str.{bytes_eq}
use Rattle.std.proofs.lemmas.List.Quantifiers.{position-Some}
use Rattle.std.proofs.lemmas.Slice.Eq.{bytes_eq-Decides}
use Rattle.std.proofs.lemmas.Bool.Decides.{Decides-ltb, Decides-eqb}
use Rattle.jv_lex.specs.Word.{keywords, kind_at, word_kind}
use Rattle.jv_lex.specs.declared.words.TheConstants.{BY_LETTER, LETTER_PLACES}
use Rattle.jv_lex.specs.declared.token.TokenKind.TheVariants.{Ident, Keyword}
use Rattle.jv_lex.proofs.Tables.{and_left, and_right, all_at, all_below}

-- a keyword is the first text of the table that it is
keyword_position : (n : ℕ) → n < 53 → position (bytes_eq (get_or keywords n [])) keywords ≡ Some n
keyword_position n l = rw (place, small_place) refl
  where
    place : position_or_len (bytes_eq (get_or keywords n [])) keywords ≡ n
    place =
        let p = λ (o : ℕ). nat_eq (position_or_len (bytes_eq (get_or keywords o [])) keywords) o in
        (Decides-eqb (position_or_len (bytes_eq (get_or keywords n [])) keywords) n).0 (all_below p 53 n refl l)

    small_place : nat_lt n 53 ≡ true
    small_place = (Decides-ltb n 53).1 l

-- where a number stands in the order of the first letters
abbrev place_by_letter : ℕ → ℕ
place_by_letter o = position_or_len (λ p. nat_eq p o) BY_LETTER

-- a keyword begins with a letter from a to z, and stands among those of its letter
abbrev stands_among : ℕ → List ℕ → Bool
stands_among place [] = false
stands_among place (c ∷ w) = nat_lt 96 c && nat_lt c 123 && nat_lt place (get_or LETTER_PLACES (c - 97 + 1) 0) && nat_lt (get_or LETTER_PLACES (c - 97) 0) (suc place)

record Stands (o c : ℕ) : Type 0 where
  low : 97 ≤ c
  high : c ≤ 122
  place : ℕ
  number : get_or BY_LETTER place 0 ≡ o
  from : get_or LETTER_PLACES (c - 97) 0 ≤ place
  before : place < get_or LETTER_PLACES (c - 97 + 1) 0

stands : (o c : ℕ) (cs : List ℕ) → o < 53 → c ∷ cs ≡ get_or keywords o [] → Stands o c
stands o c cs l e = by (get_or keywords o []) among e
  where
    among : stands_among (place_by_letter o) (get_or keywords o []) ≡ true
    among = all_below (λ (o : ℕ). stands_among (place_by_letter o) (get_or keywords o [])) 53 o refl l

    number : get_or BY_LETTER (place_by_letter o) 0 ≡ o
    number =
        let p = λ (o : ℕ). nat_eq (get_or BY_LETTER (place_by_letter o) 0) o in
        (Decides-eqb (get_or BY_LETTER (place_by_letter o) 0) o).0 (all_below p 53 o refl l)

    made : 96 < c → c < 123 → place_by_letter o < get_or LETTER_PLACES (c - 97 + 1) 0 → get_or LETTER_PLACES (c - 97) 0 < suc (place_by_letter o) → Stands o c
    made a b d f = record { low = omega (arith, a); high = omega (arith, b); place = place_by_letter o; number = number; from = omega (arith, f); before = d }

    tests : (a b d f : Bool) → nat_lt 96 c ≡ a → nat_lt c 123 ≡ b → nat_lt (place_by_letter o) (get_or LETTER_PLACES (c - 97 + 1) 0) ≡ d → nat_lt (get_or LETTER_PLACES (c - 97) 0) (suc (place_by_letter o)) ≡ f
        → a && b && d && f ≡ true → Stands o c
    tests true true true true a b d f h = made ((Decides-ltb 96 c).0 a) ((Decides-ltb c 123).0 b)
        ((Decides-ltb (place_by_letter o) (get_or LETTER_PLACES (c - 97 + 1) 0)).0 d) ((Decides-ltb (get_or LETTER_PLACES (c - 97) 0) (suc (place_by_letter o))).0 f)
    tests false b d f e g i j h = absurd (true≢false (sym h))
    tests true false d f e g i j h = absurd (true≢false (sym h))
    tests true true false f e g i j h = absurd (true≢false (sym h))
    tests true true true false e g i j h = absurd (true≢false (sym h))

    by : (w : List ℕ) → stands_among (place_by_letter o) w ≡ true → c ∷ cs ≡ w → Stands o c
    by [] h e = absurd (true≢false (sym h))
    by (d ∷ w) h e =
        let same : d ≡ c = cc in
        tests (nat_lt 96 c) (nat_lt c 123) (nat_lt (place_by_letter o) (get_or LETTER_PLACES (c - 97 + 1) 0)) (nat_lt (get_or LETTER_PLACES (c - 97) 0) (suc (place_by_letter o))) refl refl refl refl
        (ap (λ x. nat_lt 96 x && nat_lt x 123 && nat_lt (place_by_letter o) (get_or LETTER_PLACES (x - 97 + 1) 0) && nat_lt (get_or LETTER_PLACES (x - 97) 0) (suc (place_by_letter o))) (sym same) ∙ h)

pub small : (i : ℕ) → i < 53 → get_or BY_LETTER i 0 < 53
small i l = (Decides-ltb (get_or BY_LETTER i 0) 53).0 (all_at (λ o. nat_lt o 53) BY_LETTER i 0 refl l)

-- the places of a letter are places of the order
pub within : (i j : ℕ) → i < get_or LETTER_PLACES j 0 → i < 53
within i j l = let h : get_or LETTER_PLACES j 0 < 54 = every LETTER_PLACES j refl in omega (arith, h, l)
  where
    every : (xs : List ℕ) (j : ℕ) → list_all (λ p. nat_lt p 54) xs ≡ true → get_or xs j 0 < 54
    every [] j h = omega arith
    every (x ∷ xs) zero h = (Decides-ltb x 54).0 (and_left (nat_lt x 54) (list_all (λ p. nat_lt p 54) xs) h)
    every (x ∷ xs) (suc j) h = every xs j (and_right (nat_lt x 54) (list_all (λ p. nat_lt p 54) xs) h)

module _ (w : List ℕ) where
  pub keyword_found : (n : ℕ) → n < 53 → bytes_eq w (get_or keywords n []) ≡ true → word_kind w ≡ Keyword n
  keyword_found n l h = ap word_kind ((bytes_eq-Decides w (get_or keywords n [])).0 h) ∙ ap kind_at (keyword_position n l)

  -- a text that is no keyword is an identifier
  no_keyword : ((o : ℕ) → o < 53 → w ≡ get_or keywords o [] → ⊥) → word_kind w ≡ Ident
  no_keyword none = by (position (bytes_eq w) keywords) refl
    where
      by : (r : Option ℕ) → position (bytes_eq w) keywords ≡ r → kind_at r ≡ Ident
      by None e = refl
      by (Some o) e =
          let s : _ = position-Some (bytes_eq w) keywords o [] e in
          absurd (none o s.0 ((bytes_eq-Decides w (get_or keywords o [])).0 s.1))

  pub other_word : (c : ℕ) (cs : List ℕ) → w ≡ c ∷ cs → (97 ≤ c → c ≤ 122 → ⊥) → word_kind w ≡ Ident
  other_word c cs e n = no_keyword (λ o l h. let s = stands o c cs l (sym e ∙ h) in n s.low s.high)

  pub tried_word : (c : ℕ) (cs : List ℕ) → w ≡ c ∷ cs
      → ((k : ℕ) → k < get_or LETTER_PLACES (c - 97 + 1) 0 → get_or LETTER_PLACES (c - 97) 0 ≤ k → bytes_eq w (get_or keywords (get_or BY_LETTER k 0) []) ≡ false) → word_kind w ≡ Ident
  tried_word c cs e none = no_keyword (λ o l h.
      let s = stands o c cs l (sym e ∙ h) in
      true≢false (sym ((bytes_eq-Decides w (get_or keywords o [])).1 h) ∙ ap (λ n. bytes_eq w (get_or keywords n [])) (sym s.number) ∙ none s.place s.before s.from))
