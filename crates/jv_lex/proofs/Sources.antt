-- The tokens of a source, and that there is one list of them.
use Rattle.std.proofs.Common.{◌≡◌, ℕ, suc, ◌+◌, ◌<◌, ◌⊎◌, inl, inr, Bool, true, false, cond, ◌&&◌, ◌||◌, nat_eq, List, [], ◌∷◌, ◌++◌, length, take, drop, Option, Some, None, refl, sym, ap, ◌∙◌, subst, arith, true≢false}
use Rattle.std.specs.List.{position_or_len}
use Rattle.std.proofs.lemmas.List.{append_cancel_left, append_cancel_right, take-append-drop, length-append, take_at}
use Rattle.jv_lex.specs.Character.{is_blank, is_line_end}
use Rattle.jv_lex.specs.Gap.{begins_with, begins_gap, from_line_end, behind_star_slash, behind_comment, behind_gap}
use Rattle.jv_lex.specs.Text.{kind_of, begins_number, IsFirstToken}
use Rattle.jv_lex.specs.Source.{place_of, Follows, nothing, gap, token, Breaks, here, behind_gaps, behind_token}
use Rattle.jv_lex.specs.declared.token.Token.{Token}
use Rattle.jv_lex.specs.declared.token.TokenKind.{TokenKind}
use Rattle.jv_lex.proofs.Tables.{some_none}

-- a text has one first token
pub record Same (w v rest more : List ℕ) (k j : TokenKind) : Type 0 where
  pub fronts : w ≡ v
  pub rests : rest ≡ more
  pub kinds : k ≡ j

pub first_is_one : (cs w v rest more : List ℕ) (k j : TokenKind) → IsFirstToken cs w rest k → IsFirstToken cs v more j → Same w v rest more k j
first_is_one cs w v rest more k j a b = by (begins_number cs) refl
  where
    finish : w ≡ v → rest ≡ more → Same w v rest more k j
    finish f r = record { fronts = f; rests = r; kinds = let s : Some k ≡ Some j = sym a.kind ∙ ap kind_of f ∙ b.kind in cc }

    cut : w ++ rest ≡ v ++ more
    cut = sym a.cut ∙ b.cut

    apart : (m n : ℕ) → (m < n) ⊎ ((m ≡ n) ⊎ (n < m))
    apart m n = grind arith

    by_length : begins_number cs ≡ false → (length w < length v) ⊎ ((length w ≡ length v) ⊎ (length v < length w)) → Same w v rest more k j
    by_length e (inl l) = absurd (some_none (sym b.kind ∙ a.longest e v more b.cut l))
    by_length e (inr (inr l)) = absurd (some_none (sym a.kind ∙ b.longest e w rest a.cut l))
    by_length e (inr (inl l)) =
        let f : w ≡ v = sym (take_at w rest (length v) l) ∙ ap (take (length v)) cut ∙ take_at v more (length v) refl in
        finish f (append_cancel_left w rest more (cut ∙ ap (λ x. x ++ more) (sym f)))

    by : (t : Bool) → begins_number cs ≡ t → Same w v rest more k j
    by true e =
        let r : rest ≡ more = a.number e ∙ sym (b.number e) in
        finish (append_cancel_right w v rest (cut ∙ ap (λ x. v ++ x) (sym r))) r
    by false e = by_length e (apart (length w) (length v))

-- a token takes characters, and a gap does
pub token_shorter : (cs w rest : List ℕ) (k : TokenKind) → IsFirstToken cs w rest k → length rest < length cs
token_shorter cs w rest k t = by w t.kind t.cut
  where
    by : (w : List ℕ) → kind_of w ≡ Some k → cs ≡ w ++ rest → length rest < length cs
    by [] h e = absurd (some_none (sym h))
    by (c ∷ w) h e = let l : length cs ≡ suc (length w + length rest) = ap length e ∙ ap suc (length-append w rest) in omega arith

-- the text is some characters and then what is left
abbrev Cut : List ℕ → List ℕ → Type 0
Cut cs rest = (w : List ℕ) × (cs ≡ w ++ rest)

one_more : (c : ℕ) (cs rest : List ℕ) → Cut cs rest → Cut (c ∷ cs) rest
one_more c cs rest k = (c ∷ k.0, ap (λ t. c ∷ t) k.1)

behind_some : (n : ℕ) (cs rest : List ℕ) → drop n cs ≡ rest → Cut cs rest
behind_some n cs rest e = (take n cs, sym (take-append-drop n cs) ∙ ap (λ t. take n cs ++ t) e)

star_slash_cut : (cs rest : List ℕ) → behind_star_slash cs ≡ Some rest → Cut cs rest
star_slash_cut [] rest h = absurd (some_none (sym h))
star_slash_cut (c ∷ cs) rest h = by (nat_eq c 42 && begins_with 47 cs) h (star_slash_cut cs rest)
  where
    by : (t : Bool) → cond t (Some (drop 1 cs)) (behind_star_slash cs) ≡ Some rest → (behind_star_slash cs ≡ Some rest → Cut cs rest) → Cut (c ∷ cs) rest
    by true h next = one_more c cs rest (behind_some 1 cs rest (let e : drop 1 cs ≡ rest = cc in e))
    by false h next = one_more c cs rest (next h)

comment_cut : (cs rest : List ℕ) → behind_comment cs ≡ Some rest → Cut cs rest
comment_cut [] rest h = absurd (some_none (sym h))
comment_cut (c ∷ cs) rest h = by (nat_eq c 47) (nat_eq c 42) h
  where
    by : (s t : Bool) → cond s (Some (from_line_end cs)) (cond t (behind_star_slash cs) None) ≡ Some rest → Cut (c ∷ cs) rest
    by true t h = one_more c cs rest (behind_some (position_or_len is_line_end cs) cs rest (let e : from_line_end cs ≡ rest = cc in e))
    by false true h = one_more c cs rest (star_slash_cut cs rest h)
    by false false h = absurd (some_none (sym h))

-- a gap takes characters: what is left is the end of the text, and shorter
pub record GapCut (cs rest : List ℕ) : Type 0 where
  pub first : ℕ
  pub others : List ℕ
  pub cut : cs ≡ first ∷ others ++ rest

pub gap_cut : (cs rest : List ℕ) → behind_gap cs ≡ Some rest → GapCut cs rest
gap_cut [] rest h = absurd (some_none (sym h))
gap_cut (c ∷ cs) rest h = by (is_blank c) (nat_eq c 47) h
  where
    found : Cut cs rest → GapCut (c ∷ cs) rest
    found k = record { first = c; others = k.0; cut = ap (λ t. c ∷ t) k.1 }

    by : (s t : Bool) → cond s (Some cs) (cond t (behind_comment cs) None) ≡ Some rest → GapCut (c ∷ cs) rest
    by true t h = found ([], let e : cs ≡ rest = cc in e)
    by false true h = found (comment_cut cs rest h)
    by false false h = absurd (some_none (sym h))

pub gap_shorter : (cs rest : List ℕ) → behind_gap cs ≡ Some rest → length rest < length cs
gap_shorter cs rest h =
    let g = gap_cut cs rest h in
    let l : length cs ≡ suc (length g.others + length rest) = ap length g.cut ∙ ap suc (length-append g.others rest) in omega arith

-- no token begins where a gap does
pub gap_begins : (cs rest : List ℕ) → behind_gap cs ≡ Some rest → begins_gap cs ≡ true
gap_begins [] rest h = absurd (some_none (sym h))
gap_begins (c ∷ cs) rest h = by (is_blank c) refl (nat_eq c 47) refl cs h
  where
    second : (d : ℕ) (ds : List ℕ) (s t : Bool) → nat_eq d 47 ≡ s → nat_eq d 42 ≡ t → cond s (Some (from_line_end ds)) (cond t (behind_star_slash ds) None) ≡ Some rest → s || t ≡ true
    second d ds true t e f h = refl
    second d ds false true e f h = refl
    second d ds false false e f h = absurd (some_none (sym h))

    by : (s : Bool) → is_blank c ≡ s → (t : Bool) → nat_eq c 47 ≡ t → (ds : List ℕ) → cond s (Some ds) (cond t (behind_comment ds) None) ≡ Some rest → s || (t && (begins_with 47 ds || begins_with 42 ds)) ≡ true
    by true e t f ds h = refl
    by false e true f [] h = absurd (some_none (sym h))
    by false e true f (d ∷ ds) h = second d ds (nat_eq d 47) (nat_eq d 42) refl refl h
    by false e false f ds h = absurd (some_none (sym h))

no_gap_token : (cs rest w more : List ℕ) (k : TokenKind) → behind_gap cs ≡ Some rest → IsFirstToken cs w more k → ⊥
no_gap_token cs rest w more k h t = true≢false (sym (gap_begins cs rest h) ∙ t.no_gap)

no_token_nil : (w rest : List ℕ) (k : TokenKind) → IsFirstToken [] w rest k → ⊥
no_token_nil w rest k t = let l = token_shorter [] w rest k t in absurd (omega arith)

-- what is left of a text has one list of tokens
pub follows_once : {total : ℕ} {before : Option TokenKind} {cs : List ℕ} {ts us : List Token} → Follows total before cs ts → Follows total before cs us → ts ≡ us
follows_once nothing nothing = refl
follows_once nothing (gap h d) = absurd (some_none (sym h))
follows_once nothing (token {w} {rest} {k} t m d) = absurd (no_token_nil w rest k t)
follows_once (gap h d) nothing = absurd (some_none (sym h))
follows_once {total} {before} {cs} {ts} {us} (gap {rest} h d) (gap {rest = more} h' d') =
    let e : Some rest ≡ Some more = sym h ∙ h' in
    let same : rest ≡ more = cc in
    follows_once d (subst (λ r. Follows total before r us) (sym same) d')
follows_once (gap {cs} {rest} h d) (token {w} {rest = more} {k} t m d') = absurd (no_gap_token cs rest w more k h t)
follows_once (token {w} {rest} {k} t m d) nothing = absurd (no_token_nil w rest k t)
follows_once (token {cs} {w} {rest = more} {k} t m d) (gap {rest} h d') = absurd (no_gap_token cs rest w more k h t)
follows_once {total} (token {cs} {w} {rest} {k} {ts} t m d) (token {w = v} {rest = more} {k = j} {ts = us} t' m' d') =
    let s = first_is_one cs w v rest more k j t t' in
    let moved : Follows total (Some j) rest us = subst (λ r. Follows total (Some j) r us) (sym s.rests) d' in
    let tail : ts ≡ us = follows_once d (subst (λ x. Follows total (Some x) rest us) (sym s.kinds) moved) in
    λ i. record { kind = s.kinds i; start = place_of total cs; end = place_of total (s.rests i) } ∷ tail i

-- what is left of a text has one first bad place
pub record SamePlace (l m : Bool) (at bt : ℕ) : Type 0 where
  pub literals : l ≡ m
  pub places : at ≡ bt

pub breaks_once : {total : ℕ} {l m : Bool} {at bt : ℕ} {before : Option TokenKind} {cs : List ℕ} → Breaks total l at before cs → Breaks total m bt before cs → SamePlace l m at bt
breaks_once (here b e p) (here b' e' p') = record { literals = sym e ∙ e'; places = sym p ∙ p' }
breaks_once (here b e p) (behind_gaps h d) = absurd (some_none (sym h ∙ b.no_gap))
breaks_once (here b e p) (behind_token {w} {rest} {k} t f d) = absurd (b.no_token w rest k t f)
breaks_once (behind_gaps h d) (here b e p) = absurd (some_none (sym h ∙ b.no_gap))
breaks_once {total} {m = m} {bt = bt} {before} {cs} (behind_gaps {rest} h d) (behind_gaps {rest = more} h' d') =
    let e : Some rest ≡ Some more = sym h ∙ h' in
    let same : rest ≡ more = cc in
    breaks_once d (subst (λ r. Breaks total m bt before r) (sym same) d')
breaks_once (behind_gaps {cs} {rest} h d) (behind_token {w} {rest = more} {k} t f d') = absurd (no_gap_token cs rest w more k h t)
breaks_once (behind_token {w} {rest} {k} t f d) (here b e p) = absurd (b.no_token w rest k t f)
breaks_once (behind_token {cs} {w} {rest = more} {k} t f d) (behind_gaps {rest} h d') = absurd (no_gap_token cs rest w more k h t)
breaks_once {total} {m = m} {bt = bt} (behind_token {cs} {w} {rest} {k} t f d) (behind_token {w = v} {rest = more} {k = j} t' f' d') =
    let s = first_is_one cs w v rest more k j t t' in
    let moved : Breaks total m bt (Some j) rest = subst (λ r. Breaks total m bt (Some j) r) (sym s.rests) d' in
    breaks_once d (subst (λ x. Breaks total m bt (Some x) rest) (sym s.kinds) moved)

-- what has tokens has no bad place
pub follows_unbroken : {total : ℕ} {l : Bool} {at : ℕ} {before : Option TokenKind} {cs : List ℕ} {ts : List Token} → Follows total before cs ts → Breaks total l at before cs → ⊥
follows_unbroken nothing (here b e p) = absurd (let h = b.some in omega arith)
follows_unbroken nothing (behind_gaps h d) = some_none (sym h)
follows_unbroken nothing (behind_token {w} {rest} {k} t f d) = no_token_nil w rest k t
follows_unbroken (gap h d) (here b e p) = some_none (sym h ∙ b.no_gap)
follows_unbroken {total} {l} {at} {before} {cs} {ts} (gap {rest} h d) (behind_gaps {rest = more} h' d') =
    let e : Some rest ≡ Some more = sym h ∙ h' in
    let same : rest ≡ more = cc in
    follows_unbroken d (subst (λ r. Breaks total l at before r) (sym same) d')
follows_unbroken (gap {cs} {rest} h d) (behind_token {w} {rest = more} {k} t f d') = no_gap_token cs rest w more k h t
follows_unbroken (token {w} {rest} {k} t m d) (here b e p) = b.no_token w rest k t m
follows_unbroken (token {cs} {w} {rest = more} {k} t m d) (behind_gaps {rest} h d') = no_gap_token cs rest w more k h t
follows_unbroken {total} {l} {at} (token {cs} {w} {rest} {k} t m d) (behind_token {w = v} {rest = more} {k = j} t' f' d') =
    let s = first_is_one cs w v rest more k j t t' in
    let moved : Breaks total l at (Some j) rest = subst (λ r. Breaks total l at (Some j) r) (sym s.rests) d' in
    follows_unbroken d (subst (λ x. Breaks total l at (Some x) rest) (sym s.kinds) moved)
