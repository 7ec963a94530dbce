-- A literal is closed in one way: what closes it is what its reader takes.
use Rattle.std.proofs.Common.{◌≡◌, ℕ, zero, suc, Bool, true, false, not, cond, ◌&&◌, ◌||◌, nat_eq, nat_le, List, [], ◌∷◌, ◌++◌, Some, None, refl, sym, ap, ◌∙◌, subst, true≢false}
use Rattle.std.proofs.lemmas.Bool.Decides.{Decides-eqb}
use Rattle.jv_lex.specs.Character.{is_line_end}
use Rattle.jv_lex.specs.Quoted.{is_plain, is_octal, is_escape_letter, closes_character, closes_string, behind_quote, behind_octals, behind_escape, behind_character, behind_string}
use Rattle.jv_lex.proofs.Tables.{and_left, and_right}

is_code : (c k : ℕ) → nat_eq c k ≡ true → c ≡ k
is_code c k = (Decides-eqb c k).0

none_some : {x : List ℕ} → None ≡ Some x → ⊥
none_some h = cc

same_rest : {x y : List ℕ} → Some x ≡ Some y → x ≡ y
same_rest h = cc

not_true : (b : Bool) → not b ≡ true → b ≡ false
not_true true h = absurd (true≢false (sym h))
not_true false h = refl

or_else : (a b : Bool) → a || b ≡ true → b ≡ false → a ≡ true
or_else true b h e = refl
or_else false b h e = absurd (true≢false (sym h ∙ e))

-- octal digits end at a quote
octals_end : (n : ℕ) (rest : List ℕ) → behind_octals n (39 ∷ rest) ≡ 39 ∷ rest
octals_end zero rest = refl
octals_end (suc n) rest = refl

letter_closes : (c : ℕ) (rest : List ℕ) → is_escape_letter c || is_octal c ≡ true → behind_escape (c ∷ 39 ∷ rest) ≡ Some rest
letter_closes c rest h = by (is_octal c) refl
  where
    by : (b : Bool) → is_octal c ≡ b → behind_escape (c ∷ 39 ∷ rest) ≡ Some rest
    by true e = rw e (ap behind_quote (octals_end (cond (nat_le c 51) 2 1) rest))
    by false e = let l : is_escape_letter c ≡ true = or_else (is_escape_letter c) (is_octal c) h e in rw (e, l) refl

two_close : (c d : ℕ) (rest : List ℕ) → is_octal c ≡ true → is_octal d ≡ true → behind_escape (c ∷ d ∷ 39 ∷ rest) ≡ Some rest
two_close c d rest e f = by (nat_le c 51) refl
  where
    by : (b : Bool) → nat_le c 51 ≡ b → behind_escape (c ∷ d ∷ 39 ∷ rest) ≡ Some rest
    by true g = rw (e, g, f) refl
    by false g = rw (e, g, f) refl

three_close : (c d e : ℕ) (rest : List ℕ) → is_octal c ≡ true → nat_le c 51 ≡ true → is_octal d ≡ true → is_octal e ≡ true → behind_escape (c ∷ d ∷ e ∷ 39 ∷ rest) ≡ Some rest
three_close c d e rest h l f g = rw (h, l, f, g) refl

plain_closes : (c : ℕ) (rest : List ℕ) → is_plain 39 c && nat_le c 0xFFFF ≡ true → behind_character (c ∷ 39 ∷ rest) ≡ Some rest
plain_closes c rest h =
    let plain : is_plain 39 c ≡ true = and_left (is_plain 39 c) (nat_le c 0xFFFF) h in
    let no_escape : nat_eq c 92 ≡ false = not_true (nat_eq c 92) (and_right (not (nat_eq c 39)) (not (nat_eq c 92)) (and_left (not (nat_eq c 39) && not (nat_eq c 92)) (not (is_line_end c)) plain)) in
    ap (λ b. cond (nat_eq c 92) (behind_escape (39 ∷ rest)) (cond b (Some rest) None)) h ∙ ap (λ b. cond b (behind_escape (39 ∷ rest)) (Some rest)) no_escape

pub character_closes : (w rest : List ℕ) → closes_character w ≡ true → behind_character (w ++ rest) ≡ Some rest
character_closes [] rest h = absurd (true≢false (sym h))
character_closes (c ∷ []) rest h = absurd (true≢false (sym h))
character_closes (c ∷ q ∷ []) rest h =
    subst (λ x. behind_character (c ∷ x ∷ rest) ≡ Some rest) (sym (is_code q 39 (and_right (is_plain 39 c && nat_le c 0xFFFF) (nat_eq q 39) h)))
    (plain_closes c rest (and_left (is_plain 39 c && nat_le c 0xFFFF) (nat_eq q 39) h))
character_closes (b ∷ c ∷ q ∷ []) rest h =
    let front = and_left (nat_eq b 92 && (is_escape_letter c || is_octal c)) (nat_eq q 39) h in
    subst (λ x. behind_character (b ∷ c ∷ x ∷ rest) ≡ Some rest) (sym (is_code q 39 (and_right (nat_eq b 92 && (is_escape_letter c || is_octal c)) (nat_eq q 39) h)))
    (subst (λ x. behind_character (x ∷ c ∷ 39 ∷ rest) ≡ Some rest) (sym (is_code b 92 (and_left (nat_eq b 92) (is_escape_letter c || is_octal c) front)))
    (letter_closes c rest (and_right (nat_eq b 92) (is_escape_letter c || is_octal c) front)))
character_closes (b ∷ c ∷ d ∷ q ∷ []) rest h =
    let front = and_left (nat_eq b 92 && is_octal c && is_octal d) (nat_eq q 39) h in
    let escape = and_left (nat_eq b 92 && is_octal c) (is_octal d) front in
    subst (λ x. behind_character (b ∷ c ∷ d ∷ x ∷ rest) ≡ Some rest) (sym (is_code q 39 (and_right (nat_eq b 92 && is_octal c && is_octal d) (nat_eq q 39) h)))
    (subst (λ x. behind_character (x ∷ c ∷ d ∷ 39 ∷ rest) ≡ Some rest) (sym (is_code b 92 (and_left (nat_eq b 92) (is_octal c) escape)))
    (two_close c d rest (and_right (nat_eq b 92) (is_octal c) escape) (and_right (nat_eq b 92 && is_octal c) (is_octal d) front)))
character_closes (b ∷ c ∷ d ∷ e ∷ q ∷ []) rest h =
    let front = and_left (nat_eq b 92 && is_octal c && nat_le c 51 && is_octal d && is_octal e) (nat_eq q 39) h in
    let two = and_left (nat_eq b 92 && is_octal c && nat_le c 51 && is_octal d) (is_octal e) front in
    let one = and_left (nat_eq b 92 && is_octal c && nat_le c 51) (is_octal d) two in
    let escape = and_left (nat_eq b 92 && is_octal c) (nat_le c 51) one in
    subst (λ x. behind_character (b ∷ c ∷ d ∷ e ∷ x ∷ rest) ≡ Some rest) (sym (is_code q 39 (and_right (nat_eq b 92 && is_octal c && nat_le c 51 && is_octal d && is_octal e) (nat_eq q 39) h)))
    (subst (λ x. behind_character (x ∷ c ∷ d ∷ e ∷ 39 ∷ rest) ≡ Some rest) (sym (is_code b 92 (and_left (nat_eq b 92) (is_octal c) escape)))
    (three_close c d e rest (and_right (nat_eq b 92) (is_octal c) escape) (and_right (nat_eq b 92 && is_octal c) (nat_le c 51) one)
    (and_right (nat_eq b 92 && is_octal c && nat_le c 51) (is_octal d) two) (and_right (nat_eq b 92 && is_octal c && nat_le c 51 && is_octal d) (is_octal e) front)))
character_closes (b ∷ c ∷ d ∷ e ∷ f ∷ q ∷ cs) rest h = absurd (true≢false (sym h))

quote_closed : (cs rest : List ℕ) → behind_quote cs ≡ Some rest → cs ≡ 39 ∷ rest
quote_closed [] rest h = absurd (none_some h)
quote_closed (c ∷ cs) rest h = by (nat_eq c 39) refl h
  where
    by : (b : Bool) → nat_eq c 39 ≡ b → cond b (Some cs) None ≡ Some rest → c ∷ cs ≡ 39 ∷ rest
    by true e h = let s : c ≡ 39 = is_code c 39 e in let t : cs ≡ rest = same_rest h in cc
    by false e h = absurd (none_some h)

-- what closes a character, and what it leaves
abbrev Closed : List ℕ → List ℕ → Type 0
Closed cs rest = (w : List ℕ) × (closes_character w ≡ true) × (cs ≡ w ++ rest)

one_octal : (b c : ℕ) → nat_eq b 92 ≡ true → is_octal c ≡ true → closes_character (b ∷ c ∷ 39 ∷ []) ≡ true
one_octal b c slash o = by (is_escape_letter c) refl
  where
    by : (t : Bool) → is_escape_letter c ≡ t → closes_character (b ∷ c ∷ 39 ∷ []) ≡ true
    by true e = rw (slash, e) refl
    by false e = rw (slash, e, o) refl

module _ (b c : ℕ) (slash : nat_eq b 92 ≡ true) (o : is_octal c ≡ true) where
  third : (d e : ℕ) (ds rest : List ℕ) (t : Bool) → is_octal e ≡ t → is_octal d ≡ true → nat_le c 51 ≡ true → behind_quote (cond t ds (e ∷ ds)) ≡ Some rest → Closed (b ∷ c ∷ d ∷ e ∷ ds) rest
  third d e ds rest true oe od l h = (b ∷ c ∷ d ∷ e ∷ 39 ∷ [], rw (slash, o, l, od, oe) refl, ap (λ t. b ∷ c ∷ d ∷ e ∷ t) (quote_closed ds rest h))
  third d e ds rest false oe od l h = (b ∷ c ∷ d ∷ 39 ∷ [], rw (slash, o, od) refl, ap (λ t. b ∷ c ∷ d ∷ t) (quote_closed (e ∷ ds) rest h))

  second_of_two : (d : ℕ) (ds rest : List ℕ) (t : Bool) → is_octal d ≡ t → behind_quote (cond t ds (d ∷ ds)) ≡ Some rest → Closed (b ∷ c ∷ d ∷ ds) rest
  second_of_two d ds rest true od h = (b ∷ c ∷ d ∷ 39 ∷ [], rw (slash, o, od) refl, ap (λ t. b ∷ c ∷ d ∷ t) (quote_closed ds rest h))
  second_of_two d ds rest false od h = (b ∷ c ∷ 39 ∷ [], one_octal b c slash o, ap (λ t. b ∷ c ∷ t) (quote_closed (d ∷ ds) rest h))

  second_of_three : (d : ℕ) (ds rest : List ℕ) (t : Bool) → is_octal d ≡ t → nat_le c 51 ≡ true → behind_quote (cond t (behind_octals 1 ds) (d ∷ ds)) ≡ Some rest → Closed (b ∷ c ∷ d ∷ ds) rest
  second_of_three d [] rest true od l h = absurd (none_some h)
  second_of_three d (e ∷ ds) rest true od l h = third d e ds rest (is_octal e) refl od l h
  second_of_three d ds rest false od l h = (b ∷ c ∷ 39 ∷ [], one_octal b c slash o, ap (λ t. b ∷ c ∷ t) (quote_closed (d ∷ ds) rest h))

  octals_closed : (cs rest : List ℕ) (t : Bool) → nat_le c 51 ≡ t → behind_quote (behind_octals (cond t 2 1) cs) ≡ Some rest → Closed (b ∷ c ∷ cs) rest
  octals_closed [] rest true l h = absurd (none_some h)
  octals_closed [] rest false l h = absurd (none_some h)
  octals_closed (d ∷ ds) rest true l h = second_of_three d ds rest (is_octal d) refl l h
  octals_closed (d ∷ ds) rest false l h = second_of_two d ds rest (is_octal d) refl h

escape_closed : (b c : ℕ) (cs rest : List ℕ) (t : Bool) → nat_eq b 92 ≡ true → is_octal c ≡ t
    → cond t (behind_quote (behind_octals (cond (nat_le c 51) 2 1) cs)) (cond (is_escape_letter c) (behind_quote cs) None) ≡ Some rest → Closed (b ∷ c ∷ cs) rest
escape_closed b c cs rest true slash o h = octals_closed b c slash o cs rest (nat_le c 51) refl h
escape_closed b c cs rest false slash o h = by (is_escape_letter c) refl h
  where
    by : (t : Bool) → is_escape_letter c ≡ t → cond t (behind_quote cs) None ≡ Some rest → Closed (b ∷ c ∷ cs) rest
    by true e h = (b ∷ c ∷ 39 ∷ [], rw (slash, e) refl, ap (λ t. b ∷ c ∷ t) (quote_closed cs rest h))
    by false e h = absurd (none_some h)

pub character_closed : (cs rest : List ℕ) → behind_character cs ≡ Some rest → Closed cs rest
character_closed [] rest h = absurd (none_some h)
character_closed (c ∷ cs) rest h = by (nat_eq c 92) refl h
  where
    escape : (ds : List ℕ) → nat_eq c 92 ≡ true → behind_escape ds ≡ Some rest → Closed (c ∷ ds) rest
    escape [] slash h = absurd (none_some h)
    escape (d ∷ ds) slash h = escape_closed c d ds rest (is_octal d) slash refl h

    plain : (t : Bool) → is_plain 39 c && nat_le c 0xFFFF ≡ t → cond t (behind_quote cs) None ≡ Some rest → Closed (c ∷ cs) rest
    plain true e h = (c ∷ 39 ∷ [], ap (λ t. t && true) e, ap (λ t. c ∷ t) (quote_closed cs rest h))
    plain false e h = absurd (none_some h)

    by : (t : Bool) → nat_eq c 92 ≡ t → cond t (behind_escape cs) (cond (is_plain 39 c && nat_le c 0xFFFF) (behind_quote cs) None) ≡ Some rest → Closed (c ∷ cs) rest
    by true slash h = escape cs slash h
    by false slash h = plain (is_plain 39 c && nat_le c 0xFFFF) refl h

-- a plain character of a string is no quote, no backslash and no line end
module _ (c d : ℕ) (plain : is_plain 34 c ≡ true) where
  no_quote : nat_eq c 34 ≡ false
  no_quote = not_true (nat_eq c 34) (and_left (not (nat_eq c 34)) (not (nat_eq c 92)) (and_left (not (nat_eq c 34) && not (nat_eq c 92)) (not (is_line_end c)) plain))

  no_slash : nat_eq c 92 ≡ false
  no_slash = not_true (nat_eq c 92) (and_right (not (nat_eq c 34)) (not (nat_eq c 92)) (and_left (not (nat_eq c 34) && not (nat_eq c 92)) (not (is_line_end c)) plain))

  no_line_end : is_line_end c ≡ false
  no_line_end = not_true (is_line_end c) (and_right (not (nat_eq c 34) && not (nat_eq c 92)) (not (is_line_end c)) plain)

  passes_plain : (cs : List ℕ) → behind_string (c ∷ d ∷ cs) ≡ behind_string (d ∷ cs)
  passes_plain cs = rw (no_quote, no_slash, no_line_end) refl

passes_escape : (c d : ℕ) (cs : List ℕ) → nat_eq c 92 ≡ true → is_escape_letter d || is_octal d ≡ true → behind_string (c ∷ d ∷ cs) ≡ behind_string cs
passes_escape c d cs e h = subst (λ x. behind_string (x ∷ d ∷ cs) ≡ behind_string cs) (sym (is_code c 92 e)) (ap (λ t. cond t (behind_string cs) None) h)

quote_ends : (q : ℕ) (rest : List ℕ) → nat_eq q 34 ≡ true → behind_string (q ∷ rest) ≡ Some rest
quote_ends q [] h = ap (λ t. cond t (Some []) None) h
quote_ends q (d ∷ rest) h = rw h refl

pub string_closes : (w rest : List ℕ) → closes_string w ≡ true → behind_string (w ++ rest) ≡ Some rest
string_closes [] rest h = absurd (true≢false (sym h))
string_closes (q ∷ []) rest h = quote_ends q rest h
string_closes (c ∷ d ∷ cs) rest h = by (nat_eq c 92) refl h (string_closes cs rest) (string_closes (d ∷ cs) rest)
  where
    by : (t : Bool) → nat_eq c 92 ≡ t → cond t ((is_escape_letter d || is_octal d) && closes_string cs) (is_plain 34 c && closes_string (d ∷ cs)) ≡ true
        → (closes_string cs ≡ true → behind_string (cs ++ rest) ≡ Some rest) → (closes_string (d ∷ cs) ≡ true → behind_string (d ∷ cs ++ rest) ≡ Some rest)
        → behind_string (c ∷ d ∷ cs ++ rest) ≡ Some rest
    by true e h behind next = passes_escape c d (cs ++ rest) e (and_left (is_escape_letter d || is_octal d) (closes_string cs) h) ∙ behind (and_right (is_escape_letter d || is_octal d) (closes_string cs) h)
    by false e h behind next = passes_plain c d (and_left (is_plain 34 c) (closes_string (d ∷ cs)) h) (cs ++ rest) ∙ next (and_right (is_plain 34 c) (closes_string (d ∷ cs)) h)

abbrev ClosedString : List ℕ → List ℕ → Type 0
ClosedString cs rest = (w : List ℕ) × (closes_string w ≡ true) × (cs ≡ w ++ rest)

pub string_closed : (cs rest : List ℕ) → behind_string cs ≡ Some rest → ClosedString cs rest
string_closed [] rest h = absurd (none_some h)
string_closed (q ∷ []) rest h = by (nat_eq q 34) refl h
  where
    by : (t : Bool) → nat_eq q 34 ≡ t → cond t (Some []) None ≡ Some rest → ClosedString (q ∷ []) rest
    by true e h = (q ∷ [], e, ap (λ t. q ∷ t) (same_rest h))
    by false e h = absurd (none_some h)
string_closed (c ∷ d ∷ cs) rest h = by (nat_eq c 34) refl h (string_closed cs rest) (string_closed (d ∷ cs) rest)
  where
    escaped : (t : Bool) → is_escape_letter d || is_octal d ≡ t → nat_eq c 92 ≡ true → cond t (behind_string cs) None ≡ Some rest → (behind_string cs ≡ Some rest → ClosedString cs rest) → ClosedString (c ∷ d ∷ cs) rest
    escaped true f e h behind = let k = behind h in (c ∷ d ∷ k.0, rw (e, f, k.1) refl, ap (λ t. c ∷ d ∷ t) k.2)
    escaped false f e h behind = absurd (none_some h)

    one_more : (w : List ℕ) → closes_string w ≡ true → d ∷ cs ≡ w ++ rest → is_plain 34 c ≡ true → ClosedString (c ∷ d ∷ cs) rest
    one_more [] k e p = absurd (true≢false (sym k))
    one_more (x ∷ w) k e p =
        (c ∷ x ∷ w, ap (λ t. cond t ((is_escape_letter x || is_octal x) && closes_string w) (is_plain 34 c && closes_string (x ∷ w))) (no_slash c d p) ∙ ap (λ t. t && closes_string (x ∷ w)) p ∙ k, ap (λ t. c ∷ t) e)

    plain : (t : Bool) → is_line_end c ≡ t → nat_eq c 34 ≡ false → nat_eq c 92 ≡ false → cond t None (behind_string (d ∷ cs)) ≡ Some rest → (behind_string (d ∷ cs) ≡ Some rest → ClosedString (d ∷ cs) rest) → ClosedString (c ∷ d ∷ cs) rest
    plain true f q e h next = absurd (none_some h)
    plain false f q e h next = let k = next h in one_more k.0 k.1 k.2 (ap (λ t. not t && not (nat_eq c 92) && not (is_line_end c)) q ∙ ap (λ t. not t && not (is_line_end c)) e ∙ ap not f)

    other : (t : Bool) → nat_eq c 92 ≡ t → nat_eq c 34 ≡ false → cond t (cond (is_escape_letter d || is_octal d) (behind_string cs) None) (cond (is_line_end c) None (behind_string (d ∷ cs))) ≡ Some rest
        → (behind_string cs ≡ Some rest → ClosedString cs rest) → (behind_string (d ∷ cs) ≡ Some rest → ClosedString (d ∷ cs) rest) → ClosedString (c ∷ d ∷ cs) rest
    other true e q h behind next = escaped (is_escape_letter d || is_octal d) refl e h behind
    other false e q h behind next = plain (is_line_end c) refl q e h next

    by : (t : Bool) → nat_eq c 34 ≡ t → cond t (Some (d ∷ cs)) (cond (nat_eq c 92) (cond (is_escape_letter d || is_octal d) (behind_string cs) None) (cond (is_line_end c) None (behind_string (d ∷ cs)))) ≡ Some rest
        → (behind_string cs ≡ Some rest → ClosedString cs rest) → (behind_string (d ∷ cs) ≡ Some rest → ClosedString (d ∷ cs) rest) → ClosedString (c ∷ d ∷ cs) rest
    by true e h behind next = (c ∷ [], e, ap (λ t. c ∷ t) (same_rest h))
    by false e h behind next = other (nat_eq c 92) refl e h behind next
