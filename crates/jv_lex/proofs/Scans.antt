-- What a step of the scanner adds, and where its tokens stand.
use Rattle.std.proofs.Common.{◌≡◌, ℕ, zero, suc, ◌+◌, ◌-◌, ◌<◌, ◌≤◌, Bool, true, false, List, [], ◌∷◌, ◌++◌, length, get_or, Option, Some, None, refl, sym, ap, ◌∙◌, subst, arith}
use Rattle.std.specs.Str.{chars, encode_utf8_all, all_scalars, IsUtf8, IsCharBoundary}
use Rattle.std.proofs.lemmas.List.{append_assoc, length-append, nil_from_length}
use Rattle.std.proofs.lemmas.Str.{encodes-append, encodes-chars, scalars-chars, chars-nil, IsCharBoundary-at_seam, length-le-encodes}
use Rattle.jv_lex.specs.Text.{kind_of, IsFirstToken, MayFollow}
use Rattle.jv_lex.specs.Source.{place_of, Follows, nothing, gap, token, Breaks, Tokenizes, fault_at, IsFaultOf, IsPlaced}
use Rattle.jv_lex.specs.declared.token.Token.{Token}
use Rattle.jv_lex.specs.declared.token.TokenKind.{TokenKind}
use Rattle.jv_lex.proofs.Fronts.{scalars-back}
use Rattle.jv_lex.proofs.Sources.{gap_cut}
use Rattle.jv_lex.proofs.Tables.{some_none}

-- the place of what is left, by bytes
pub place_of-chars : (total : ℕ) (rest : List ℕ) → IsUtf8 rest → place_of total (chars rest) ≡ total - length rest
place_of-chars total rest u = ap (λ t. total - length t) (encodes-chars rest u)

pub chars-some : (bs : List ℕ) → IsUtf8 bs → (length bs ≡ 0 → ⊥) → 0 < length (chars bs)
chars-some bs u n = by (chars bs) refl
  where
    by : (cs : List ℕ) → chars bs ≡ cs → 0 < length cs
    by [] e = absurd (n (ap length (sym (encodes-chars bs u) ∙ ap encode_utf8_all e)))
    by (c ∷ cs) e = omega arith

pub chars-none : (bs : List ℕ) → length bs ≡ 0 → chars bs ≡ []
chars-none bs h = ap chars (nil_from_length bs h) ∙ chars-nil

-- one token more
pub add_token : (total : ℕ) (before : Option TokenKind) (k : TokenKind) (all rest behind w : List ℕ) (items next us : List Token) → IsUtf8 rest → IsUtf8 behind
    → IsFirstToken (chars rest) w (chars behind) k → MayFollow before k
    → ((us : List Token) → Follows total before (chars rest) us → Follows total None all (items ++ us))
    → next ≡ items ++ record { kind = k; start = total - length rest; end = total - length behind } ∷ []
    → Follows total (Some k) (chars behind) us → Follows total None all (next ++ us)
add_token total before k all rest behind w items next us u v t m so_far pushed d =
    let placed : Follows total before (chars rest) (record { kind = k; start = total - length rest; end = total - length behind } ∷ us) =
    subst (λ x. Follows total before (chars rest) (x ∷ us)) (λ i. record { kind = k; start = place_of-chars total rest u i; end = place_of-chars total behind v i }) (token t m d) in
    subst (Follows total None all)
    (sym (append_assoc items (record { kind = k; start = total - length rest; end = total - length behind } ∷ []) us) ∙ ap (λ x. x ++ us) (sym pushed))
    (so_far _ placed)

pub fault_found : (source : List ℕ) (at : ℕ) (literal : Bool) → IsUtf8 source → Breaks (length source) literal at None (chars source) → IsFaultOf source (fault_at at literal)
fault_found source at true u b = record { utf8 = u; first = b }
fault_found source at false u b = record { utf8 = u; first = b }

-- each token takes bytes, and stands between characters
module _ (bs : List ℕ) where
  left_utf8 : (cs : List ℕ) → all_scalars cs ≡ true → IsUtf8 (encode_utf8_all cs)
  left_utf8 cs s = (cs, (s, refl))

  seam : (front cs : List ℕ) → bs ≡ front ++ encode_utf8_all cs → place_of (length bs) cs ≡ length front
  seam front cs e = let l : length bs ≡ length front + length (encode_utf8_all cs) = ap length e ∙ length-append front (encode_utf8_all cs) in omega arith

  boundary : (front cs : List ℕ) → all_scalars cs ≡ true → bs ≡ front ++ encode_utf8_all cs → IsCharBoundary bs (place_of (length bs) cs)
  boundary front cs s e = subst (IsCharBoundary bs) (sym (seam front cs e)) (IsCharBoundary-at_seam bs front (encode_utf8_all cs) e (left_utf8 cs s))

  further : (front w rest : List ℕ) (cs : List ℕ) → cs ≡ w ++ rest → bs ≡ front ++ encode_utf8_all cs → bs ≡ (front ++ encode_utf8_all w) ++ encode_utf8_all rest
  further front w rest cs cut e = e ∙ ap (λ t. front ++ encode_utf8_all t) cut ∙ ap (λ t. front ++ t) (encodes-append w rest) ∙ sym (append_assoc front (encode_utf8_all w) (encode_utf8_all rest))

  one_placed : (front cs w rest : List ℕ) (k : TokenKind) → IsFirstToken cs w rest k → all_scalars cs ≡ true → bs ≡ front ++ encode_utf8_all cs
      → IsPlaced bs (record { kind = k; start = place_of (length bs) cs; end = place_of (length bs) rest })
  one_placed front cs w rest k t s e = by w t.kind t.cut
    where
      by : (w : List ℕ) → kind_of w ≡ Some k → cs ≡ w ++ rest → IsPlaced bs (record { kind = k; start = place_of (length bs) cs; end = place_of (length bs) rest })
      by [] h cut = absurd (some_none (sym h))
      by (c ∷ w) h cut =
          let next = further front (c ∷ w) rest cs cut e in
          let a : place_of (length bs) cs ≡ length front = seam front cs e in
          let b : place_of (length bs) rest ≡ length front + length (encode_utf8_all (c ∷ w)) = seam (front ++ encode_utf8_all (c ∷ w)) rest next ∙ length-append front (encode_utf8_all (c ∷ w)) in
          let l : suc (length w) ≤ length (encode_utf8_all (c ∷ w)) = length-le-encodes (c ∷ w) in
          record { some = omega arith; begins = boundary front cs s e; ends = boundary (front ++ encode_utf8_all (c ∷ w)) rest (scalars-back (c ∷ w) rest (sym (ap all_scalars cut) ∙ s)) next }

  pub follows_placed : {before : Option TokenKind} {cs : List ℕ} {ts : List Token} → (front : List ℕ) → Follows (length bs) before cs ts → all_scalars cs ≡ true → bs ≡ front ++ encode_utf8_all cs
      → (i : ℕ) (d : Token) → i < length ts → IsPlaced bs (get_or ts i d)
  follows_placed front nothing s e i d l = absurd (omega arith)
  follows_placed front (gap {cs} {rest} h t) s e i d l =
      let g = gap_cut cs rest h in
      follows_placed (front ++ encode_utf8_all (g.first ∷ g.others)) t (scalars-back (g.first ∷ g.others) rest (sym (ap all_scalars g.cut) ∙ s)) (further front (g.first ∷ g.others) rest cs g.cut e) i d l
  follows_placed front (token {cs} {w} {rest} {k} t m f) s e zero d l = one_placed front cs w rest k t s e
  follows_placed front (token {cs} {w} {rest} {k} t m f) s e (suc i) d l =
      follows_placed (front ++ encode_utf8_all w) f (scalars-back w rest (sym (ap all_scalars t.cut) ∙ s)) (further front w rest cs t.cut e) i d (omega arith)

pub tokens_placed : (bs : List ℕ) (ts : List Token) → Tokenizes bs ts → (i : ℕ) (d : Token) → i < length ts → IsPlaced bs (get_or ts i d)
tokens_placed bs ts t = follows_placed bs [] t.tokens (scalars-chars bs t.utf8) (sym (encodes-chars bs t.utf8))
