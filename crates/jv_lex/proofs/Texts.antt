-- Each text has tokens or a first bad place.
use Rattle.std.proofs.Common.{◌≡◌, ℕ, zero, suc, ◌+◌, ◌<◌, ◌≤◌, ◌⊎◌, inl, inr, Bool, true, false, nat_eq, List, [], ◌∷◌, ◌++◌, length, take, drop, Option, Some, None, refl, sym, ap, ◌∙◌, subst, arith, true≢false}
use Rattle.std.proofs.lemmas.List.{take-append-drop, take_at, append_cancel_right, length-append}
use Rattle.std.proofs.lemmas.Bool.Decides.{Decides-eqb}
use Rattle.jv_lex.specs.Gap.{begins_gap, behind_gap}
use Rattle.jv_lex.specs.Number.{behind_number}
use Rattle.jv_lex.specs.Text.{kind_of, begins_number, begins_fraction, begins_literal, HasNoToken, IsFirstToken, MayFollow}
use Rattle.jv_lex.specs.Source.{place_of, Follows, nothing, gap, token, HasNoNext, Breaks, here, behind_gaps, behind_token}
use Rattle.jv_lex.specs.declared.token.Token.{Token}
use Rattle.jv_lex.specs.declared.token.TokenKind.{TokenKind}
use Rattle.jv_lex.specs.declared.token.TokenKind.TheVariants.{Ident, Keyword, Int, Long, Minimum, MinimumLong, Char, Str, Punct}
use Rattle.jv_lex.proofs.FirstTokens.{behind_number-cut, gap_first, fraction_first}
use Rattle.jv_lex.proofs.Sources.{first_is_one, gap_shorter, token_shorter}
use Rattle.jv_lex.proofs.Tables.{some_none}

-- the longest front of a text that is a token, if some front is one
record Front (cs : List ℕ) : Type 0 where
  front : List ℕ
  rest : List ℕ
  kind : TokenKind
  cut : cs ≡ front ++ rest
  is : kind_of front ≡ Some kind
  longest : (v more : List ℕ) → cs ≡ v ++ more → length front < length v → kind_of v ≡ None

abbrev NoFront : List ℕ → Type 0
NoFront cs = (v more : List ℕ) → cs ≡ v ++ more → kind_of v ≡ None

length-take : (n : ℕ) (cs : List ℕ) → n ≤ length cs → length (take n cs) ≡ n
length-take zero cs l = refl
length-take (suc n) [] l = absurd (omega arith)
length-take (suc n) (c ∷ cs) l = let e : length (take n cs) ≡ n = length-take n cs (omega arith) in omega (arith, e)

module _ (cs : List ℕ) where
  -- fronts longer than n are none, so that the longest is sought among those up to n
  front_up_to : (n : ℕ) → n ≤ length cs → ((v more : List ℕ) → cs ≡ v ++ more → n < length v → kind_of v ≡ None) → Front cs ⊎ NoFront cs
  front_up_to zero l longer = inr none
    where
      none : (v more : List ℕ) → cs ≡ v ++ more → kind_of v ≡ None
      none [] more e = refl
      none (c ∷ v) more e = longer (c ∷ v) more e (omega arith)
  front_up_to (suc n) l longer = by (kind_of (take (suc n) cs)) refl (front_up_to n (omega arith))
    where
      width : length (take (suc n) cs) ≡ suc n
      width = length-take (suc n) cs l

      at : kind_of (take (suc n) cs) ≡ None → (v more : List ℕ) → cs ≡ v ++ more → (suc n < length v) ⊎ (length v ≡ suc n) → kind_of v ≡ None
      at h v more e (inl m) = longer v more e m
      at h v more e (inr m) = ap kind_of (sym (take_at v more (suc n) m) ∙ ap (take (suc n)) (sym e)) ∙ h

      above : (m : ℕ) → n < m → (suc n < m) ⊎ (m ≡ suc n)
      above m l = grind arith

      by : (k : Option TokenKind) → kind_of (take (suc n) cs) ≡ k → (((v more : List ℕ) → cs ≡ v ++ more → n < length v → kind_of v ≡ None) → Front cs ⊎ NoFront cs) → Front cs ⊎ NoFront cs
      by (Some k) h shorter = inl (record {
        front = take (suc n) cs;
        rest = drop (suc n) cs;
        kind = k;
        cut = sym (take-append-drop (suc n) cs);
        is = h;
        longest = λ v more e m. longer v more e (omega (arith, width, m));
      })
      by None h shorter = shorter (λ v more e m. at h v more e (above (length v) m))

  front_of : Front cs ⊎ NoFront cs
  front_of = front_up_to (length cs) (omega arith) (λ v more e m. let h : length cs ≡ length v + length more = ap length e ∙ length-append v more in absurd (omega arith))

-- the first token of a text, if it begins with one
record Next (cs : List ℕ) : Type 0 where
  word : List ℕ
  rest : List ℕ
  kind : TokenKind
  first : IsFirstToken cs word rest kind

number_or_none : (c : ℕ) (cs : List ℕ) → begins_gap (c ∷ cs) ≡ false → begins_fraction (c ∷ cs) ≡ false → begins_number (c ∷ cs) ≡ true → Next (c ∷ cs) ⊎ HasNoToken (c ∷ cs)
number_or_none c cs no_gap no_fraction number = by (kind_of (c ∷ u.0)) refl
  where
    u : (u : List ℕ) × (cs ≡ u ++ behind_number cs)
    u = behind_number-cut cs

    whole : c ∷ cs ≡ c ∷ u.0 ++ behind_number cs
    whole = ap (λ t. c ∷ t) u.1

    none : kind_of (c ∷ u.0) ≡ None → HasNoToken (c ∷ cs)
    none h w rest k t =
        let left : rest ≡ behind_number cs = t.number number in
        let same : w ≡ c ∷ u.0 = append_cancel_right w (c ∷ u.0) rest (sym t.cut ∙ whole ∙ ap (λ r. c ∷ u.0 ++ r) (sym left)) in
        some_none (sym t.kind ∙ ap kind_of same ∙ h)

    by : (k : Option TokenKind) → kind_of (c ∷ u.0) ≡ k → Next (c ∷ cs) ⊎ HasNoToken (c ∷ cs)
    by (Some k) h = inl (record {
      word = c ∷ u.0;
      rest = behind_number cs;
      kind = k;
      first = record {
        cut = whole;
        kind = h;
        number = λ _. refl;
        longest = λ e. absurd (true≢false (sym number ∙ e));
        no_gap = no_gap;
        no_fraction = no_fraction;
      };
    })
    by None h = inr (none h)

front_or_none : (cs : List ℕ) → begins_gap cs ≡ false → begins_fraction cs ≡ false → begins_number cs ≡ false → Next cs ⊎ HasNoToken cs
front_or_none cs no_gap no_fraction no_number = by (front_of cs)
  where
    by : Front cs ⊎ NoFront cs → Next cs ⊎ HasNoToken cs
    by (inl f) = inl (record {
      word = f.front;
      rest = f.rest;
      kind = f.kind;
      first = record {
        cut = f.cut;
        kind = f.is;
        number = λ e. absurd (true≢false (sym e ∙ no_number));
        longest = λ _. f.longest;
        no_gap = no_gap;
        no_fraction = no_fraction;
      };
    })
    by (inr none) = inr (λ w rest k t. some_none (sym t.kind ∙ none w rest t.cut))

next_or_none : (c : ℕ) (cs : List ℕ) → Next (c ∷ cs) ⊎ HasNoToken (c ∷ cs)
next_or_none c cs = by (begins_gap (c ∷ cs)) refl (begins_fraction (c ∷ cs)) refl (begins_number (c ∷ cs)) refl
  where
    by : (g : Bool) → begins_gap (c ∷ cs) ≡ g → (f : Bool) → begins_fraction (c ∷ cs) ≡ f → (n : Bool) → begins_number (c ∷ cs) ≡ n → Next (c ∷ cs) ⊎ HasNoToken (c ∷ cs)
    by true g f e n h = inr (gap_first (c ∷ cs) g)
    by false g true e n h = inr (fraction_first (c ∷ cs) e)
    by false g false e true h = number_or_none c cs g e h
    by false g false e false h = front_or_none (c ∷ cs) g e h

-- a token may stand behind the one before, or may not
minus_or_none : (before : Option TokenKind) → (before ≡ Some (Punct 29)) ⊎ (before ≡ Some (Punct 29) → ⊥)
minus_or_none None = inr (λ h. cc)
minus_or_none (Some Ident) = inr (λ h. cc)
minus_or_none (Some (Keyword n)) = inr (λ h. cc)
minus_or_none (Some Int) = inr (λ h. cc)
minus_or_none (Some Long) = inr (λ h. cc)
minus_or_none (Some Minimum) = inr (λ h. cc)
minus_or_none (Some MinimumLong) = inr (λ h. cc)
minus_or_none (Some Char) = inr (λ h. cc)
minus_or_none (Some Str) = inr (λ h. cc)
minus_or_none (Some (Punct n)) = by (nat_eq n 29) refl
  where
    by : (t : Bool) → nat_eq n 29 ≡ t → (Some (Punct n) ≡ Some (Punct 29)) ⊎ (Some (Punct n) ≡ Some (Punct 29) → ⊥)
    by true e = inl (ap (λ m. Some (Punct m)) ((Decides-eqb n 29).0 e))
    by false e = inr (λ h. let same : n ≡ 29 = cc in true≢false (sym ((Decides-eqb n 29).1 same) ∙ e))

may_follow : (before : Option TokenKind) (k : TokenKind) → MayFollow before k ⊎ (MayFollow before k → ⊥)
may_follow before Minimum = minus_or_none before
may_follow before MinimumLong = minus_or_none before
may_follow before Ident = inl tt
may_follow before (Keyword n) = inl tt
may_follow before Int = inl tt
may_follow before Long = inl tt
may_follow before Char = inl tt
may_follow before Str = inl tt
may_follow before (Punct n) = inl tt

-- what is left of a text has tokens or a first bad place
abbrev pub Tokens : ℕ → Option TokenKind → List ℕ → Type 0
Tokens total before cs = (ts : List Token) × Follows total before cs ts

abbrev pub Broken : ℕ → Option TokenKind → List ℕ → Type 0
Broken total before cs = (literal : Bool) × (at : ℕ) × Breaks total literal at before cs

-- the same of each text of at most n characters
abbrev Reads : ℕ → ℕ → Type 0
Reads n total = (before : Option TokenKind) (cs : List ℕ) → length cs ≤ n → Tokens total before cs ⊎ Broken total before cs

pub tokens_or_break : (n total : ℕ) (before : Option TokenKind) (cs : List ℕ) → length cs ≤ n → Tokens total before cs ⊎ Broken total before cs
tokens_or_break n total before [] l = inl ([], nothing)
tokens_or_break zero total before (c ∷ cs) l = absurd (omega arith)
tokens_or_break (suc n) total before (c ∷ cs) l = by (λ b rest m. tokens_or_break n total b rest m) (behind_gap (c ∷ cs)) refl
  where
    bad : behind_gap (c ∷ cs) ≡ None → HasNoNext before (c ∷ cs) → Broken total before (c ∷ cs)
    bad g none = (begins_literal (c ∷ cs), place_of total (c ∷ cs), here (record { some = omega arith; no_gap = g; no_token = none }) refl refl)

    behind : (rest : List ℕ) → behind_gap (c ∷ cs) ≡ Some rest → Tokens total before rest ⊎ Broken total before rest → Tokens total before (c ∷ cs) ⊎ Broken total before (c ∷ cs)
    behind rest g (inl t) = inl (t.0, gap g t.1)
    behind rest g (inr b) = inr (b.0, b.1, behind_gaps g b.2)

    further : (x : Next (c ∷ cs)) → MayFollow before x.kind → Tokens total (Some x.kind) x.rest ⊎ Broken total (Some x.kind) x.rest → Tokens total before (c ∷ cs) ⊎ Broken total before (c ∷ cs)
    further x m (inl t) = inl (record { kind = x.kind; start = place_of total (c ∷ cs); end = place_of total x.rest } ∷ t.0, token x.first m t.1)
    further x m (inr b) = inr (b.0, b.1, behind_token x.first m b.2)

    followed : Reads n total → behind_gap (c ∷ cs) ≡ None → (x : Next (c ∷ cs)) → MayFollow before x.kind ⊎ (MayFollow before x.kind → ⊥) → Tokens total before (c ∷ cs) ⊎ Broken total before (c ∷ cs)
    followed left g x (inl m) =
        let shorter = token_shorter (c ∷ cs) x.word x.rest x.kind x.first in
        further x m (left (Some x.kind) x.rest (omega arith))
    followed left g x (inr forbidden) = inr (bad g (λ w rest k t m.
        let s = first_is_one (c ∷ cs) w x.word rest x.rest k x.kind t x.first in
        forbidden (subst (MayFollow before) s.kinds m)))

    found : Reads n total → behind_gap (c ∷ cs) ≡ None → Next (c ∷ cs) ⊎ HasNoToken (c ∷ cs) → Tokens total before (c ∷ cs) ⊎ Broken total before (c ∷ cs)
    found left g (inl x) = followed left g x (may_follow before x.kind)
    found left g (inr none) = inr (bad g (λ w rest k t m. none w rest k t))

    by : Reads n total → (r : Option (List ℕ)) → behind_gap (c ∷ cs) ≡ r → Tokens total before (c ∷ cs) ⊎ Broken total before (c ∷ cs)
    by left (Some rest) g = let shorter = gap_shorter (c ∷ cs) rest g in behind rest g (left before rest (omega arith))
    by left None g = found left g (next_or_none c cs)
