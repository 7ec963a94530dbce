-- A scanner that computes: what it gives are the tokens of a text.
use Rattle.std.proofs.Common.{◌≡◌, ℕ, zero, suc, ◌-◌, ◌<◌, Bool, true, false, ◌⊎◌, inl, inr, ◌≤◌, position, nat_lt, nat_eq, List, [], ◌∷◌, ◌++◌, length, take, drop, get_or, Option, Some, None, option_map, refl, sym, ap, ◌∙◌, subst, arith, true≢false}
use Rattle.std.specs.List.{prefix_len}
use Rattle.std.specs.Char.{is_digit}
use Rattle.std.specs.Str.{bytes_eq}
use Rattle.std.proofs.lemmas.Bool.Decides.{Decides-ltb}
use Rattle.std.proofs.lemmas.List.{take_at, take-append-drop, length-append}
use Rattle.std.proofs.lemmas.List.Quantifiers.{position-Some}
use Rattle.std.proofs.lemmas.Slice.Eq.{bytes_eq-Decides}
use Rattle.jv_lex.specs.Character.{begins_word, continues_word}
use Rattle.jv_lex.specs.Gap.{begins_gap, behind_gap}
use Rattle.jv_lex.specs.Word.{word_kind}
use Rattle.jv_lex.specs.Number.{behind_number, number_kind}
use Rattle.jv_lex.specs.Quoted.{behind_character, behind_string}
use Rattle.jv_lex.specs.Punctuation.{marks, mark_kind, IsLongestMark}
use Rattle.jv_lex.specs.Text.{begins_fraction, HasToken, MayFollow}
use Rattle.jv_lex.specs.Source.{place_of, Follows, nothing, gap, token}
use Rattle.jv_lex.specs.declared.token.Token.{Token}
use Rattle.jv_lex.specs.declared.token.TokenKind.{TokenKind}
use Rattle.jv_lex.specs.declared.token.TokenKind.TheVariants as k
use Rattle.jv_lex.proofs.Tables.{all_at}
use Rattle.jv_lex.proofs.FirstTokens.{word_first, number_first, character_first, string_first, mark_first}

some_none : {X : Type 0} {x : X} → None ≡ Some x → ⊥
some_none h = cc

-- ---- marks

-- a mark of this kind: its number, and that it stands there in the table
record MarkOf (w : List ℕ) (j : TokenKind) : Type 0 where
  number : ℕ
  below : number < 50
  text : w ≡ get_or marks number []
  kind : j ≡ k.Punct number

mark_of : (w : List ℕ) (j : TokenKind) → mark_kind w ≡ Some j → MarkOf w j
mark_of w j h = by (position (bytes_eq w) marks) refl h
  where
    by : (r : Option ℕ) → position (bytes_eq w) marks ≡ r → option_map k.Punct r ≡ Some j → MarkOf w j
    by None e h = absurd (some_none h)
    by (Some o) e h =
        let s : _ = position-Some (bytes_eq w) marks o [] e in
        record { number = o; below = s.0; text = (bytes_eq-Decides w (get_or marks o [])).0 s.1; kind = let same : k.Punct o ≡ j = cc in sym same }

-- no mark has more than four characters
mark_short : (w : List ℕ) (j : TokenKind) → mark_kind w ≡ Some j → length w < 5
mark_short w j h =
    let m : MarkOf w j = mark_of w j h in
    let short : length (get_or marks m.number []) < 5 = (Decides-ltb (length (get_or marks m.number [])) 5).0 (all_at (λ v. nat_lt (length v) 5) marks m.number [] refl m.below) in
    omega (arith, short, ap length m.text)

no_mark : (v : List ℕ) → (length v < 5 → ⊥) → mark_kind v ≡ None
no_mark v long = by (mark_kind v) refl
  where
    by : (r : Option TokenKind) → mark_kind v ≡ r → r ≡ None
    by None e = refl
    by (Some j) e = absurd (long (mark_short v j e))

-- fronts of more than n characters, but not of more than four, are no marks
abbrev Tried : List ℕ → ℕ → Type 0
Tried cs n = (m : ℕ) → n < m → m < 5 → mark_kind (take m cs) ≡ None

apart : (a b : ℕ) → (a < b) ⊎ (b ≤ a)
apart a b = grind arith

take_long : (n i : ℕ) (cs : List ℕ) → i ≤ n → i ≤ length cs → i ≤ length (take n cs)
take_long n zero cs l m = omega arith
take_long zero (suc i) cs l m = absurd (omega (arith, l))
take_long (suc n) (suc i) [] l m = absurd (omega (arith, m))
take_long (suc n) (suc i) (c ∷ cs) l m = omega (arith, take_long n i cs (omega (arith, l)) (omega (arith, m)))

module _ (n : ℕ) (cs : List ℕ) (tried : Tried cs n) where
  no_longer : (i : ℕ) (v more : List ℕ) → length v ≡ i → cs ≡ v ++ more → length (take n cs) < i → mark_kind v ≡ None
  no_longer i v more f e l = elim (apart i 5) [
    | inl few ↦ elim (apart n i) [
      | inl over ↦ ap mark_kind (sym (take_at v more i f) ∙ ap (take i) (sym e)) ∙ tried i over few
      | inr under ↦ absurd (omega (arith, l, take_long n i cs under (omega (arith, f, ap length e, length-append v more))))
    ]
    | inr many ↦ no_mark v (λ short. omega (arith, short, many, f))
  ]

-- ---- one token

-- a kind, and what is left
abbrev Step : Type 0
Step = Option (TokenKind × List ℕ)

-- a kind, and what is left behind its token
abbrev with_rest : TokenKind → List ℕ → TokenKind × List ℕ
with_rest j rest = (j, rest)

-- a number that has these characters behind its first
abbrev number_if : Bool → ℕ → List ℕ → List ℕ → Step
number_if false c u cs = None
number_if true c u cs = option_map (λ j. with_rest j (behind_number cs)) (number_kind (c ∷ u))

abbrev number_step : ℕ → List ℕ → List ℕ → Step
number_step c u cs = number_if (bytes_eq cs (u ++ behind_number cs)) c u cs

-- the longest mark of at most so many characters that a text begins with
abbrev mark_or : Option TokenKind → List ℕ → Step → Step
mark_or (Some j) rest s = Some (with_rest j rest)
mark_or None rest s = s

abbrev mark_step : ℕ → List ℕ → Step
mark_step zero cs = None
mark_step (suc n) cs = mark_or (mark_kind (take (suc n) cs)) (drop (suc n) cs) (mark_step n cs)

-- the first token of a text that begins with c, by what it begins with: a gap, a fraction, a word, a digit or quotes
abbrev by_first : Bool → Bool → Bool → Bool → Bool → Bool → ℕ → List ℕ → Step
by_first true f w d q s c cs = None
by_first false true w d q s c cs = None
by_first false false true d q s c cs = Some (word_kind (c ∷ take (prefix_len continues_word cs) cs), drop (prefix_len continues_word cs) cs)
by_first false false false true q s c cs = number_step c (take (length cs - length (behind_number cs)) cs) cs
by_first false false false false true s c cs = option_map (with_rest k.Char) (behind_character cs)
by_first false false false false false true c cs = option_map (with_rest k.Str) (behind_string cs)
by_first false false false false false false c cs = mark_step 4 (c ∷ cs)

abbrev first_token : List ℕ → Step
first_token [] = None
first_token (c ∷ cs) = by_first (begins_gap (c ∷ cs)) (begins_fraction (c ∷ cs)) (begins_word c) (is_digit c 10) (nat_eq c 39) (nat_eq c 34) c cs

-- what a step that was made tells
abbrev kind_in : Step → TokenKind
kind_in None = k.Ident
kind_in (Some s) = s.0

abbrev rest_in : Step → List ℕ
rest_in None = []
rest_in (Some s) = s.1

module _ (cs : List ℕ) (i : TokenKind) (rest : List ℕ) where
  abbrev Gives : Step → Type 0
  Gives s = s ≡ Some (with_rest i rest)

  moved : (j : TokenKind) (r : List ℕ) → HasToken cs j r → Gives (Some (with_rest j r)) → HasToken cs i rest
  moved j r t h = subst (λ (z : List ℕ). HasToken cs i z) (ap rest_in h) (subst (λ (z : TokenKind). HasToken cs z r) (ap kind_in h) t)

  found : (j : TokenKind) (o : Option (List ℕ)) → ((r : List ℕ) → o ≡ Some r → HasToken cs j r) → Gives (option_map (with_rest j) o) → HasToken cs i rest
  found j None t h = absurd (some_none h)
  found j (Some r) t h = moved j r (t r refl) h

  found_number : (r : List ℕ) (o : Option TokenKind) → ((j : TokenKind) → o ≡ Some j → HasToken cs j r) → Gives (option_map (λ j. with_rest j r) o) → HasToken cs i rest
  found_number r None t h = absurd (some_none h)
  found_number r (Some j) t h = moved j r (t j refl) h

module _ (c : ℕ) (cs : List ℕ) (i : TokenKind) (rest : List ℕ) (no_gap : begins_gap (c ∷ cs) ≡ false) (no_fraction : begins_fraction (c ∷ cs) ≡ false) where
  number_is : (u : List ℕ) (b : Bool) → begins_word c ≡ false → is_digit c 10 ≡ true → bytes_eq cs (u ++ behind_number cs) ≡ b → number_if b c u cs ≡ Some (with_rest i rest) → HasToken (c ∷ cs) i rest
  number_is u false ew ed e h = absurd (some_none h)
  number_is u true ew ed e h =
      found_number (c ∷ cs) i rest (behind_number cs) (number_kind (c ∷ u))
      (λ j n. number_first c cs no_gap no_fraction ew ed u j (ap (λ t. c ∷ t) ((bytes_eq-Decides cs (u ++ behind_number cs)).0 e)) n) h

  module _ (ew : begins_word c ≡ false) (ed : is_digit c 10 ≡ false) (eq : nat_eq c 39 ≡ false) (es : nat_eq c 34 ≡ false) where
    one_mark : (n : ℕ) (j : TokenKind) → Tried (c ∷ cs) n → mark_kind (take n (c ∷ cs)) ≡ Some j → HasToken (c ∷ cs) j (drop n (c ∷ cs))
    one_mark n j tried h =
        let m : MarkOf (take n (c ∷ cs)) j = mark_of (take n (c ∷ cs)) j h in
        let cut : c ∷ cs ≡ get_or marks m.number [] ++ drop n (c ∷ cs) = sym (take-append-drop n (c ∷ cs)) ∙ ap (λ w. w ++ drop n (c ∷ cs)) m.text in
        let longest : IsLongestMark (c ∷ cs) m.number (drop n (c ∷ cs)) = record {
          numbered = m.below;
          cut = cut;
          longest = λ v more e l. no_longer n (c ∷ cs) tried (length v) v more refl e (omega (arith, l, ap length m.text));
        } in
        subst (λ (z : TokenKind). HasToken (c ∷ cs) z (drop n (c ∷ cs))) (sym m.kind)
        (mark_first c cs no_gap no_fraction ew ed eq es m.number (drop n (c ∷ cs)) longest)

    next_tried : (n : ℕ) → Tried (c ∷ cs) (suc n) → mark_kind (take (suc n) (c ∷ cs)) ≡ None → Tried (c ∷ cs) n
    next_tried n tried h m l few = elim (apart (suc n) m) [
      | inl over ↦ tried m over few
      | inr under ↦ let same : m ≡ suc n = omega (arith, l, under) in ap (λ i. mark_kind (take i (c ∷ cs))) same ∙ h
    ]

    mark_is : (n : ℕ) → Tried (c ∷ cs) n → mark_step n (c ∷ cs) ≡ Some (with_rest i rest) → HasToken (c ∷ cs) i rest
    mark_is zero tried h = absurd (some_none h)
    mark_is (suc n) tried h = by (mark_kind (take (suc n) (c ∷ cs))) refl h (λ more next. mark_is n more next)
      where
        by : (r : Option TokenKind) → mark_kind (take (suc n) (c ∷ cs)) ≡ r → mark_or r (drop (suc n) (c ∷ cs)) (mark_step n (c ∷ cs)) ≡ Some (with_rest i rest)
            → (Tried (c ∷ cs) n → mark_step n (c ∷ cs) ≡ Some (with_rest i rest) → HasToken (c ∷ cs) i rest) → HasToken (c ∷ cs) i rest
        by (Some j) e h shorter = moved (c ∷ cs) i rest j (drop (suc n) (c ∷ cs)) (one_mark (suc n) j tried e) h
        by None e h shorter = shorter (next_tried n tried e) h

first_is : (cs : List ℕ) (i : TokenKind) (rest : List ℕ) → first_token cs ≡ Some (with_rest i rest) → HasToken cs i rest
first_is [] i rest h = absurd (some_none h)
first_is (c ∷ cs) i rest h = by (begins_gap (c ∷ cs)) (begins_fraction (c ∷ cs)) (begins_word c) (is_digit c 10) (nat_eq c 39) (nat_eq c 34) refl refl refl refl refl refl h
  where
    by : (g f w d q s : Bool) → begins_gap (c ∷ cs) ≡ g → begins_fraction (c ∷ cs) ≡ f → begins_word c ≡ w → is_digit c 10 ≡ d → nat_eq c 39 ≡ q → nat_eq c 34 ≡ s
        → by_first g f w d q s c cs ≡ Some (with_rest i rest) → HasToken (c ∷ cs) i rest
    by true f w d q s eg ef ew ed eq es h = absurd (some_none h)
    by false true w d q s eg ef ew ed eq es h = absurd (some_none h)
    by false false true d q s eg ef ew ed eq es h =
        moved (c ∷ cs) i rest (word_kind (c ∷ take (prefix_len continues_word cs) cs)) (drop (prefix_len continues_word cs) cs) (word_first c cs eg ef ew) h
    by false false false true q s eg ef ew ed eq es h =
        number_is c cs i rest eg ef (take (length cs - length (behind_number cs)) cs) (bytes_eq cs (take (length cs - length (behind_number cs)) cs ++ behind_number cs)) ew ed refl h
    by false false false false true s eg ef ew ed eq es h = found (c ∷ cs) i rest k.Char (behind_character cs) (λ r n. character_first c cs eg ef ew ed eq r n) h
    by false false false false false true eg ef ew ed eq es h = found (c ∷ cs) i rest k.Str (behind_string cs) (λ r n. string_first c cs eg ef ew ed eq es r n) h
    by false false false false false false eg ef ew ed eq es h = mark_is c cs i rest eg ef ew ed eq es 4 (λ m l few. absurd (omega (arith, l, few))) h

-- ---- all tokens

-- a kind of token that may stand behind any other
abbrev stands : TokenKind → Bool
stands k.Ident = true
stands (k.Keyword n) = true
stands k.Int = true
stands k.Long = true
stands k.Minimum = false
stands k.MinimumLong = false
stands k.Char = true
stands k.Str = true
stands (k.Punct n) = true

follows : (before : Option TokenKind) (j : TokenKind) → stands j ≡ true → MayFollow before j
follows before k.Ident h = tt
follows before (k.Keyword n) h = tt
follows before k.Int h = tt
follows before k.Long h = tt
follows before k.Minimum h = absurd (true≢false (sym h))
follows before k.MinimumLong h = absurd (true≢false (sym h))
follows before k.Char h = tt
follows before k.Str h = tt
follows before (k.Punct n) h = tt

abbrev put : Bool → Token → Option (List Token) → Option (List Token)
put false t r = None
put true t None = None
put true t (Some ts) = Some (t ∷ ts)

abbrev after_token : ℕ → List ℕ → (List ℕ → Option (List Token)) → Step → Option (List Token)
after_token total cs go None = None
after_token total cs go (Some s) = put (stands s.0) (record { kind = s.0; start = place_of total cs; end = place_of total s.1 }) (go s.1)

abbrev after_gap : ℕ → List ℕ → (List ℕ → Option (List Token)) → Option (List ℕ) → Option (List Token)
after_gap total cs go (Some rest) = go rest
after_gap total cs go None = after_token total cs go (first_token cs)

-- the tokens of what is left of a text of so many bytes; it goes at most as many steps as counted
abbrev pub scan : ℕ → ℕ → List ℕ → Option (List Token)
scan zero total cs = None
scan (suc n) total [] = Some []
scan (suc n) total (c ∷ cs) = after_gap total (c ∷ cs) (scan n total) (behind_gap (c ∷ cs))

module _ (total : ℕ) (cs : List ℕ) (go : List ℕ → Option (List Token)) (sound : (before : Option TokenKind) (rest : List ℕ) (ts : List Token) → go rest ≡ Some ts → Follows total before rest ts) where
  put_sound : (before : Option TokenKind) (j : TokenKind) (rest : List ℕ) (b : Bool) (r : Option (List Token)) (ts : List Token) → HasToken cs j rest → stands j ≡ b → go rest ≡ r
      → put b (record { kind = j; start = place_of total cs; end = place_of total rest }) r ≡ Some ts → Follows total before cs ts
  put_sound before j rest false r ts t s e h = absurd (some_none h)
  put_sound before j rest true None ts t s e h = absurd (some_none h)
  put_sound before j rest true (Some us) ts t s e h =
      let x : Token = record { kind = j; start = place_of total cs; end = place_of total rest } in
      let same : x ∷ us ≡ ts = cc in
      subst (Follows total before cs) same (token t.1 (follows before j s) (sound (Some j) rest us e))

  token_sound : (before : Option TokenKind) (s : Step) (ts : List Token) → first_token cs ≡ s → after_token total cs go s ≡ Some ts → Follows total before cs ts
  token_sound before None ts e h = absurd (some_none h)
  token_sound before (Some (j, rest)) ts e h = put_sound before j rest (stands j) (go rest) ts (first_is cs j rest e) refl refl h

  gap_sound : (before : Option TokenKind) (r : Option (List ℕ)) (ts : List Token) → behind_gap cs ≡ r → after_gap total cs go r ≡ Some ts → Follows total before cs ts
  gap_sound before (Some rest) ts e h = gap e (sound before rest ts h)
  gap_sound before None ts e h = token_sound before (first_token cs) ts refl h

pub scan_sound : (n total : ℕ) (before : Option TokenKind) (cs : List ℕ) (ts : List Token) → scan n total cs ≡ Some ts → Follows total before cs ts
scan_sound zero total before cs ts h = absurd (some_none h)
scan_sound (suc n) total before [] ts h = let same : [] ≡ ts = cc in subst (Follows total before []) same nothing
scan_sound (suc n) total before (c ∷ cs) ts h = gap_sound total (c ∷ cs) (scan n total) (λ b r us e. scan_sound n total b r us e) before (behind_gap (c ∷ cs)) ts refl h
