-- The tokens of a source rise by place: what is left behind each takes fewer bytes.
use Rattle.std.proofs.Common.{◌≡◌, ℕ, suc, ◌+◌, ◌<◌, ◌≤◌, List, [], ◌∷◌, ◌++◌, length, map, Option, Some, sym, ap, ◌∙◌, arith}
use Rattle.std.specs.List.{All, AllPairs}
use Rattle.std.specs.Str.{chars, encode_utf8_all}
use Rattle.std.proofs.lemmas.List.{length-append}
use Rattle.std.proofs.lemmas.List.Elements.{All-cons}
use Rattle.std.proofs.lemmas.List.Kept.{AllPairs-cons}
use Rattle.std.proofs.lemmas.Str.{encodes-append, encodes-chars, length-le-encodes}
use Rattle.jv_lex.specs.Source.{place_of, Follows, nothing, gap, token, TokensRiseByPlace}
use Rattle.jv_lex.specs.Gap.{behind_gap}
use Rattle.jv_lex.specs.Text.{kind_of, IsFirstToken}
use Rattle.jv_lex.specs.declared.token.Token.{Token}
use Rattle.jv_lex.specs.declared.token.TokenKind.{TokenKind}
use Rattle.jv_lex.proofs.Sources.{gap_cut}
use Rattle.jv_lex.proofs.Tables.{some_none}

-- how many bytes a text takes
abbrev size : List ℕ → ℕ
size cs = length (encode_utf8_all cs)

-- the starts of tokens
abbrev starts : List Token → List ℕ
starts ts = map (λ t. t.start) ts

-- what is left behind some characters takes fewer bytes
fewer : (cs rest : List ℕ) (c : ℕ) (w : List ℕ) → cs ≡ c ∷ w ++ rest → size rest < size cs
fewer cs rest c w e =
    let l : size cs ≡ size (c ∷ w) + size rest = ap size e ∙ ap length (encodes-append (c ∷ w) rest) ∙ length-append (encode_utf8_all (c ∷ w)) (encode_utf8_all rest) in
    omega (arith, length-le-encodes (c ∷ w))

behind_a_gap : (cs rest : List ℕ) → behind_gap cs ≡ Some rest → size rest < size cs
behind_a_gap cs rest h = let g = gap_cut cs rest h in fewer cs rest g.first g.others g.cut

behind_a_token : (cs w rest : List ℕ) (k : TokenKind) → IsFirstToken cs w rest k → size rest < size cs
behind_a_token cs w rest k t = by w t.kind t.cut
  where
    by : (w : List ℕ) → kind_of w ≡ Some k → cs ≡ w ++ rest → size rest < size cs
    by [] h e = absurd (some_none (sym h))
    by (c ∷ w) h e = fewer cs rest c w e

-- no token starts before the place of what is left
none_before : {total : ℕ} {before : Option TokenKind} {cs : List ℕ} {ts : List Token} → Follows total before cs ts → (p : ℕ) → p ≤ place_of total cs → All (λ q. p ≤ q) (starts ts)
none_before nothing p l = λ k d within. absurd (omega arith)
none_before (gap {cs} {rest} h d) p l = let s = behind_a_gap cs rest h in none_before d p (omega arith)
none_before {total} (token {cs} {w} {rest} {k} {ts} t m d) p l =
    let s = behind_a_token cs w rest k t in
    All-cons (λ q. p ≤ q) (place_of total cs) (starts ts) l (none_before d p (omega arith))

rise : {total : ℕ} {before : Option TokenKind} {cs : List ℕ} {ts : List Token} → Follows total before cs ts → size cs ≤ total → AllPairs (λ p q. p < q) (starts ts)
rise nothing l = λ i j d below within. absurd (omega arith)
rise (gap {cs} {rest} h d) l = let s = behind_a_gap cs rest h in rise d (omega arith)
rise {total} (token {cs} {w} {rest} {k} {ts} t m d) l =
    let s = behind_a_token cs w rest k t in
    AllPairs-cons (λ p q. p < q) (place_of total cs) (starts ts) (none_before d (suc (place_of total cs)) (omega arith)) (rise d (omega arith))

pub tokens_rise : TokensRiseByPlace
tokens_rise bytes ts t =
    let whole : size (chars bytes) ≡ length bytes = ap length (encodes-chars bytes t.utf8) in
    let pairs : AllPairs (λ p q. p < q) (starts ts) = rise t.tokens (omega arith) in
    λ k within. pairs k (k + 1) 0 (omega arith) within
