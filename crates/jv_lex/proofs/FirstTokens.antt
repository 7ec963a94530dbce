-- The first token of a text, class by class.
use Rattle.std.proofs.Common.{◌≡◌, ℕ, suc, ◌+◌, ◌<◌, ◌≤◌, Bool, true, false, cond, nat_eq, List, [], ◌∷◌, ◌++◌, length, take, drop, get_or, Option, Some, None, refl, sym, ap, ◌∙◌, subst, arith, true≢false}
use Rattle.std.specs.List.{list_all, prefix_len}
use Rattle.std.specs.Char.{is_digit}
use Rattle.std.proofs.lemmas.List.{take-append-drop, append_cancel_right, append_assoc, length-append}
use Rattle.std.proofs.lemmas.List.Folds.{length-prefix_len}
use Rattle.std.proofs.lemmas.Bool.Decides.{nat_tests, Decides-eqb}
use Rattle.std.proofs.Math.Numerals.{one-add}
use Rattle.jv_lex.specs.Character.{begins_word, continues_word}
use Rattle.jv_lex.specs.Gap.{begins_gap}
use Rattle.jv_lex.specs.Word.{word_kind}
use Rattle.jv_lex.specs.Number.{behind_number, without_point, number_kind}
use Rattle.jv_lex.specs.Quoted.{closes_character, closes_string, behind_character, behind_string}
use Rattle.jv_lex.specs.Punctuation.{marks, mark_kind, HasNoMark, IsLongestMark}
use Rattle.jv_lex.specs.Text.{kind_of, begins_number, begins_fraction, HasToken, HasNoToken}
use Rattle.jv_lex.specs.declared.token.TokenKind.{TokenKind}
use Rattle.jv_lex.specs.declared.token.TokenKind.TheVariants.{Char, Str, Punct}
use Rattle.jv_lex.proofs.Tables.{some_none, and_left, and_right}
use Rattle.jv_lex.proofs.Marks.{mark_kind-mark}
use Rattle.jv_lex.proofs.Literals.{character_closes, character_closed, string_closes, string_closed}

-- a run of characters that pass: all of it does, and no longer front does
list_all-take : (p : ℕ → Bool) (xs : List ℕ) → list_all p (take (prefix_len p xs) xs) ≡ true
list_all-take p [] = refl
list_all-take p (x ∷ xs) = by (p x) refl (list_all-take p xs)
  where
    by : (b : Bool) → p x ≡ b → list_all p (take (prefix_len p xs) xs) ≡ true → list_all p (take (cond b (1 + prefix_len p xs) 0) (x ∷ xs)) ≡ true
    by true e rest = rw (one-add, e, rest) refl
    by false e rest = refl

list_all-le : (p : ℕ → Bool) (v more : List ℕ) → list_all p v ≡ true → length v ≤ prefix_len p (v ++ more)
list_all-le p [] more h = omega arith
list_all-le p (x ∷ v) more h =
    let here : p x ≡ true = and_left (p x) (list_all p v) h in
    let l = list_all-le p v more (and_right (p x) (list_all p v) h) in
    rw here (omega arith)

is_the : (c k : ℕ) → c ≡ k → nat_eq c k ≡ true
is_the c k = (Decides-eqb c k).1

is_not : (c k : ℕ) → (c ≡ k → ⊥) → nat_eq c k ≡ false
is_not c k n = grind (arith, nat_tests)

-- what stands behind a number is an end of the text
pub behind_number-cut : (cs : List ℕ) → (u : List ℕ) × (cs ≡ u ++ behind_number cs)
behind_number-cut cs = by (drop (prefix_len continues_word cs) cs) (sym (take-append-drop (prefix_len continues_word cs) cs))
  where
    point : (c : ℕ) (ds : List ℕ) (t : Bool) → nat_eq c 46 ≡ t → cs ≡ take (prefix_len continues_word cs) cs ++ c ∷ ds → (u : List ℕ) × (cs ≡ u ++ cond t ds (c ∷ ds))
    point c ds true p e = (take (prefix_len continues_word cs) cs ++ c ∷ [], e ∙ sym (append_assoc (take (prefix_len continues_word cs) cs) (c ∷ []) ds))
    point c ds false p e = (take (prefix_len continues_word cs) cs, e)

    by : (ds : List ℕ) → cs ≡ take (prefix_len continues_word cs) cs ++ ds → (u : List ℕ) × (cs ≡ u ++ without_point ds)
    by [] e = (take (prefix_len continues_word cs) cs, e)
    by (c ∷ ds) e = point c ds (nat_eq c 46) refl e

module _ (c : ℕ) (cs : List ℕ) (no_gap : begins_gap (c ∷ cs) ≡ false) (no_fraction : begins_fraction (c ∷ cs) ≡ false) where
  -- a word
  module _ (word : begins_word c ≡ true) where
    no_number : begins_number (c ∷ cs) ≡ true → ⊥
    no_number h = true≢false (sym h ∙ (rw word refl))

    pub word_first : HasToken (c ∷ cs) (word_kind (c ∷ take (prefix_len continues_word cs) cs)) (drop (prefix_len continues_word cs) cs)
    word_first = (
      c ∷ take (prefix_len continues_word cs) cs,
      record {
        cut = ap (λ t. c ∷ t) (sym (take-append-drop (prefix_len continues_word cs) cs));
        kind = rw (word, list_all-take continues_word cs) refl;
        number = λ h. absurd (no_number h);
        longest = λ _. longest;
        no_gap = no_gap;
        no_fraction = no_fraction;
      },
    )
      where
        at_end : (d : ℕ) (v : List ℕ) (b : Bool) → list_all continues_word v ≡ b → begins_word d ≡ true → (b ≡ true → ⊥) → kind_of (d ∷ v) ≡ None
        at_end d v true e w h = absurd (h refl)
        at_end d v false e w h = rw (w, e) refl

        longest : (v more : List ℕ) → c ∷ cs ≡ v ++ more → suc (length (take (prefix_len continues_word cs) cs)) < length v → kind_of v ≡ None
        longest [] more e l = absurd (omega arith)
        longest (d ∷ v) more e l =
            let same : c ≡ d = cc in
            let rest : cs ≡ v ++ more = cc in
            at_end d v (list_all continues_word v) refl (ap begins_word (sym same) ∙ word)
            (λ h. let k = list_all-le continues_word v more h in
            let n : prefix_len continues_word cs ≡ prefix_len continues_word (v ++ more) = ap (prefix_len continues_word) rest in
            let m = length-prefix_len continues_word cs in absurd (omega arith))

  module _ (no_word : begins_word c ≡ false) where
    -- a number, and what begins as one and is none
    module _ (digit : is_digit c 10 ≡ true) where
      number_of : (u : List ℕ) → kind_of (c ∷ u) ≡ number_kind (c ∷ u)
      number_of u = rw (no_word, digit) refl

      is_number : begins_number (c ∷ cs) ≡ true
      is_number = rw (no_word, digit) refl

      pub number_first : (u : List ℕ) (k : TokenKind) → c ∷ cs ≡ c ∷ u ++ behind_number cs → number_kind (c ∷ u) ≡ Some k → HasToken (c ∷ cs) k (behind_number cs)
      number_first u k cut e = (
        c ∷ u,
        record {
          cut = cut;
          kind = number_of u ∙ e;
          number = λ _. refl;
          longest = λ h. absurd (true≢false (sym is_number ∙ h));
          no_gap = no_gap;
          no_fraction = no_fraction;
        },
      )

      pub no_number_first : (u : List ℕ) → c ∷ cs ≡ c ∷ u ++ behind_number cs → number_kind (c ∷ u) ≡ None → HasNoToken (c ∷ cs)
      no_number_first u cut e = λ w rest k t.
          let same : rest ≡ behind_number cs = t.number is_number in
          let whole : w ≡ c ∷ u = append_cancel_right w (c ∷ u) rest (sym t.cut ∙ cut ∙ ap (λ r. (c ∷ u) ++ r) (sym same)) in
          some_none (sym t.kind ∙ ap kind_of whole ∙ number_of u ∙ e)

    module _ (no_digit : is_digit c 10 ≡ false) where
      others : begins_number (c ∷ cs) ≡ false
      others = rw (no_word, no_digit) refl

      -- a mark
      module _ (no_quote : nat_eq c 39 ≡ false) (no_quotes : nat_eq c 34 ≡ false) where
        mark_of : (d : ℕ) (v : List ℕ) → c ≡ d → kind_of (d ∷ v) ≡ mark_kind (d ∷ v)
        mark_of d v same =
            subst (λ x. kind_of (x ∷ v) ≡ mark_kind (x ∷ v)) same (rw (no_word, no_digit, no_quote, no_quotes) refl)

        pub mark_first : (n : ℕ) (rest : List ℕ) → IsLongestMark (c ∷ cs) n rest → HasToken (c ∷ cs) (Punct n) rest
        mark_first n rest m = (
          get_or marks n [],
          record {
            cut = m.cut;
            kind = by (get_or marks n []) refl m.cut;
            number = λ h. absurd (true≢false (sym h ∙ others));
            longest = λ _. longest;
            no_gap = no_gap;
            no_fraction = no_fraction;
          },
        )
          where
            by : (w : List ℕ) → get_or marks n [] ≡ w → c ∷ cs ≡ w ++ rest → kind_of w ≡ Some (Punct n)
            by [] e cut = absurd (some_none (sym (mark_kind-mark n m.numbered) ∙ ap mark_kind e))
            by (d ∷ v) e cut = let same : c ≡ d = cc in mark_of d v same ∙ ap mark_kind (sym e) ∙ mark_kind-mark n m.numbered

            longest : (v more : List ℕ) → c ∷ cs ≡ v ++ more → length (get_or marks n []) < length v → kind_of v ≡ None
            longest [] more e l = refl
            longest (d ∷ v) more e l = let same : c ≡ d = cc in mark_of d v same ∙ m.longest (d ∷ v) more e l

        pub no_mark_first : HasNoMark (c ∷ cs) → HasNoToken (c ∷ cs)
        no_mark_first none = λ w rest k t. by w rest k t.cut t.kind
          where
            by : (w rest : List ℕ) (k : TokenKind) → c ∷ cs ≡ w ++ rest → kind_of w ≡ Some k → ⊥
            by [] rest k e h = some_none (sym h)
            by (d ∷ v) rest k e h = let same : c ≡ d = cc in some_none (sym h ∙ mark_of d v same ∙ none (d ∷ v) rest e)

      -- a literal between quotes: p tells what closes it, and R what stands behind it
      module _ (k : TokenKind) (p : List ℕ → Bool) (R : List ℕ → Option (List ℕ)) (closes : (w rest : List ℕ) → p w ≡ true → R (w ++ rest) ≡ Some rest)
          (closed : (cs rest : List ℕ) → R cs ≡ Some rest → (w : List ℕ) × (p w ≡ true) × (cs ≡ w ++ rest)) (kind_is : (v : List ℕ) → kind_of (c ∷ v) ≡ cond (p v) (Some k) None) where
        kind_at : (d : ℕ) (v : List ℕ) → c ≡ d → kind_of (d ∷ v) ≡ cond (p v) (Some k) None
        kind_at d v same = subst (λ x. kind_of (x ∷ v) ≡ cond (p v) (Some k) None) same (kind_is v)

        pub quoted_first : (rest : List ℕ) → R cs ≡ Some rest → HasToken (c ∷ cs) k rest
        quoted_first rest h = by (closed cs rest h)
          where
            longer : (w v more : List ℕ) (d : ℕ) (t : Bool) → cs ≡ w ++ rest → cs ≡ v ++ more → c ≡ d → length w < length v → p v ≡ t → kind_of (d ∷ v) ≡ None
            longer w v more d false cut e same l f = kind_at d v same ∙ ap (λ t. cond t (Some k) None) f
            longer w v more d true cut e same l f =
                let left : Some more ≡ Some rest = sym (closes v more f) ∙ ap R (sym e) ∙ h in
                let last : more ≡ rest = cc in
                let a : length cs ≡ length w + length rest = ap length cut ∙ length-append w rest in
                let b : length cs ≡ length v + length more = ap length e ∙ length-append v more in
                let n : length more ≡ length rest = ap length last in absurd (omega arith)

            longest : (w v more : List ℕ) → cs ≡ w ++ rest → c ∷ cs ≡ v ++ more → suc (length w) < length v → kind_of v ≡ None
            longest w [] more cut e l = refl
            longest w (d ∷ v) more cut e l = let same : c ≡ d = cc in let behind : cs ≡ v ++ more = cc in longer w v more d (p v) cut behind same (omega arith) refl

            by : (w : List ℕ) × (p w ≡ true) × (cs ≡ w ++ rest) → HasToken (c ∷ cs) k rest
            by (w, f, cut) = (
              c ∷ w,
              record {
                cut = ap (λ t. c ∷ t) cut;
                kind = kind_is w ∙ ap (λ t. cond t (Some k) None) f;
                number = λ h. absurd (true≢false (sym h ∙ others));
                longest = λ _ v more e l. longest w v more cut e l;
                no_gap = no_gap;
                no_fraction = no_fraction;
              },
            )

        pub no_quoted_first : R cs ≡ None → HasNoToken (c ∷ cs)
        no_quoted_first h = λ w rest j t. by w rest j t.cut t.kind
          where
            at : (v rest : List ℕ) (d : ℕ) (j : TokenKind) (t : Bool) → cs ≡ v ++ rest → c ≡ d → p v ≡ t → kind_of (d ∷ v) ≡ Some j → ⊥
            at v rest d j true e same f g = some_none (sym (closes v rest f) ∙ ap R (sym e) ∙ h)
            at v rest d j false e same f g = some_none (sym g ∙ kind_at d v same ∙ ap (λ t. cond t (Some k) None) f)

            by : (w rest : List ℕ) (j : TokenKind) → c ∷ cs ≡ w ++ rest → kind_of w ≡ Some j → ⊥
            by [] rest j e g = some_none (sym g)
            by (d ∷ v) rest j e g = let same : c ≡ d = cc in let behind : cs ≡ v ++ rest = cc in at v rest d j (p v) behind same refl g

      module _ (quote : nat_eq c 39 ≡ true) where
        character_is : (v : List ℕ) → kind_of (c ∷ v) ≡ cond (closes_character v) (Some Char) None
        character_is v = rw (no_word, no_digit, quote) refl

        pub character_first : (rest : List ℕ) → behind_character cs ≡ Some rest → HasToken (c ∷ cs) Char rest
        character_first = quoted_first Char closes_character behind_character character_closes character_closed character_is

        pub no_character_first : behind_character cs ≡ None → HasNoToken (c ∷ cs)
        no_character_first = no_quoted_first Char closes_character behind_character character_closes character_closed character_is

      module _ (no_quote : nat_eq c 39 ≡ false) (quotes : nat_eq c 34 ≡ true) where
        string_is : (v : List ℕ) → kind_of (c ∷ v) ≡ cond (closes_string v) (Some Str) None
        string_is v = rw (no_word, no_digit, no_quote, quotes) refl

        pub string_first : (rest : List ℕ) → behind_string cs ≡ Some rest → HasToken (c ∷ cs) Str rest
        string_first = quoted_first Str closes_string behind_string string_closes string_closed string_is

        pub no_string_first : behind_string cs ≡ None → HasNoToken (c ∷ cs)
        no_string_first = no_quoted_first Str closes_string behind_string string_closes string_closed string_is

-- what begins as a gap or a fraction
pub gap_first : (cs : List ℕ) → begins_gap cs ≡ true → HasNoToken cs
gap_first cs h = λ w rest k t. true≢false (sym h ∙ t.no_gap)

pub fraction_first : (cs : List ℕ) → begins_fraction cs ≡ true → HasNoToken cs
fraction_first cs h = λ w rest k t. true≢false (sym h ∙ t.no_fraction)

-- the same at a text that is known by its first character and what stands behind it
module _ (text cs : List ℕ) (c : ℕ) (whole : text ≡ c ∷ cs) (no_gap : begins_gap text ≡ false) (no_fraction : begins_fraction text ≡ false) where
  no_gap_here : begins_gap (c ∷ cs) ≡ false
  no_gap_here = ap begins_gap (sym whole) ∙ no_gap

  no_fraction_here : begins_fraction (c ∷ cs) ≡ false
  no_fraction_here = ap begins_fraction (sym whole) ∙ no_fraction

  there : {k : TokenKind} {rest : List ℕ} → HasToken (c ∷ cs) k rest → HasToken text k rest
  there {k} {rest} t = subst (λ x. HasToken x k rest) (sym whole) t

  nowhere : HasNoToken (c ∷ cs) → HasNoToken text
  nowhere t = subst HasNoToken (sym whole) t

  pub word_cut : (rest : List ℕ) → rest ≡ drop (prefix_len continues_word cs) cs → text ≡ c ∷ take (prefix_len continues_word cs) cs ++ rest
  word_cut rest left = whole ∙ ap (λ t. c ∷ t) (sym (take-append-drop (prefix_len continues_word cs) cs)) ∙ ap (λ t. c ∷ take (prefix_len continues_word cs) cs ++ t) (sym left)

  pub word_found : (rest front : List ℕ) (k : TokenKind) → begins_word c ≡ true → rest ≡ drop (prefix_len continues_word cs) cs → ((w : List ℕ) → text ≡ w ++ rest → front ≡ w) → k ≡ word_kind front → HasToken text k rest
  word_found rest front k word left fronts kind =
      let w : front ≡ c ∷ take (prefix_len continues_word cs) cs = fronts _ (word_cut rest left) in
      there (subst (λ r. HasToken (c ∷ cs) k r) (sym left) (subst (λ j. HasToken (c ∷ cs) j (drop (prefix_len continues_word cs) cs)) (sym (kind ∙ ap word_kind w)) (word_first c cs no_gap_here no_fraction_here word)))

  pub number_cut : (rest : List ℕ) → rest ≡ behind_number cs → (w : List ℕ) × (text ≡ c ∷ w ++ rest)
  number_cut rest left = let u = behind_number-cut cs in (u.0, whole ∙ ap (λ t. c ∷ t) u.1 ∙ ap (λ t. c ∷ u.0 ++ t) (sym left))

  module _ (rest front : List ℕ) (k : Option TokenKind) (no_word : begins_word c ≡ false) (digit : is_digit c 10 ≡ true) (left : rest ≡ behind_number cs)
      (fronts : (w : List ℕ) → text ≡ w ++ rest → front ≡ w) (kind : k ≡ number_kind front) where
    number_here : (w : List ℕ) → text ≡ c ∷ w ++ rest → c ∷ cs ≡ c ∷ w ++ behind_number cs
    number_here w e = sym whole ∙ e ∙ ap (λ t. c ∷ w ++ t) left

    pub number_found : (j : TokenKind) → k ≡ Some j → HasToken text j rest
    number_found j e =
        let n = number_cut rest left in
        subst (λ r. HasToken text j r) (sym left)
        (there (number_first c cs no_gap_here no_fraction_here no_word digit n.0 j (number_here n.0 n.1) (ap number_kind (sym (fronts (c ∷ n.0) n.1)) ∙ sym kind ∙ e)))

    pub no_number_found : k ≡ None → HasNoToken text
    no_number_found e =
        let n = number_cut rest left in
        nowhere (no_number_first c cs no_gap_here no_fraction_here no_word digit n.0 (number_here n.0 n.1) (ap number_kind (sym (fronts (c ∷ n.0) n.1)) ∙ sym kind ∙ e))

  module _ (no_word : begins_word c ≡ false) (no_digit : is_digit c 10 ≡ false) where
    pub character_found : (rest : List ℕ) → c ≡ 39 → behind_character cs ≡ Some rest → HasToken text Char rest
    character_found rest q h = there (character_first c cs no_gap_here no_fraction_here no_word no_digit (is_the c 39 q) rest h)

    pub no_character_found : c ≡ 39 → behind_character cs ≡ None → HasNoToken text
    no_character_found q h = nowhere (no_character_first c cs no_gap_here no_fraction_here no_word no_digit (is_the c 39 q) h)

    pub string_found : (rest : List ℕ) → (c ≡ 39 → ⊥) → c ≡ 34 → behind_string cs ≡ Some rest → HasToken text Str rest
    string_found rest n q h = there (string_first c cs no_gap_here no_fraction_here no_word no_digit (is_not c 39 n) (is_the c 34 q) rest h)

    pub no_string_found : (c ≡ 39 → ⊥) → c ≡ 34 → behind_string cs ≡ None → HasNoToken text
    no_string_found n q h = nowhere (no_string_first c cs no_gap_here no_fraction_here no_word no_digit (is_not c 39 n) (is_the c 34 q) h)

    pub mark_found : (n : ℕ) (rest : List ℕ) → (c ≡ 39 → ⊥) → (c ≡ 34 → ⊥) → IsLongestMark text n rest → HasToken text (Punct n) rest
    mark_found n rest a b m = there (mark_first c cs no_gap_here no_fraction_here no_word no_digit (is_not c 39 a) (is_not c 34 b) n rest (subst (λ t. IsLongestMark t n rest) whole m))

    pub no_mark_found : (c ≡ 39 → ⊥) → (c ≡ 34 → ⊥) → HasNoMark text → HasNoToken text
    no_mark_found a b none = nowhere (no_mark_first c cs no_gap_here no_fraction_here no_word no_digit (is_not c 39 a) (is_not c 34 b) (subst HasNoMark whole none))
