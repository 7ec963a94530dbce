-- A text that is cut where some of its characters end.
use Rattle.std.proofs.Common.{◌≡◌, ℕ, ◌+◌, ◌-◌, true, List, [], ◌∷◌, ◌++◌, length, take, slice_range, refl, sym, ap, ◌∙◌, subst, arith}
use Rattle.std.specs.Str.{chars, encode_utf8_all, all_scalars, IsUtf8, IsCharBoundary}
use lib.Utf8.{scalar}
use Rattle.std.proofs.lemmas.Str.{encodes-append, encodes-chars, scalars-chars, chars-encodes, IsCharBoundary-at_seam}
use Rattle.std.proofs.lemmas.List.{take_at, length-append}
use Rattle.jv_lex.proofs.Tables.{and_left, and_right}

pub slice_range-start : (bs : List ℕ) (n : ℕ) → slice_range bs 0 n ≡ take n bs
slice_range-start bs n = grind arith

pub scalars-front : (w rest : List ℕ) → all_scalars (w ++ rest) ≡ true → all_scalars w ≡ true
scalars-front [] rest h = refl
scalars-front (c ∷ w) rest h =
    let here : scalar c ≡ true = and_left (scalar c) (all_scalars (w ++ rest)) h in
    rw (here, scalars-front w rest (and_right (scalar c) (all_scalars (w ++ rest)) h)) refl

pub scalars-back : (w rest : List ℕ) → all_scalars (w ++ rest) ≡ true → all_scalars rest ≡ true
scalars-back [] rest h = h
scalars-back (c ∷ w) rest h = scalars-back w rest (and_right (scalar c) (all_scalars (w ++ rest)) h)

module _ (bs rest w : List ℕ) (text : IsUtf8 bs) (left : IsUtf8 rest) (e : chars bs ≡ w ++ chars rest) where
  pub bytes_cut : bs ≡ encode_utf8_all w ++ rest
  bytes_cut = sym (encodes-chars bs text) ∙ ap encode_utf8_all e ∙ encodes-append w (chars rest) ∙ ap (λ t. encode_utf8_all w ++ t) (encodes-chars rest left)

  pub width : length (encode_utf8_all w) + length rest ≡ length bs
  width = sym (ap length bytes_cut ∙ length-append (encode_utf8_all w) rest)

  pub front_ends : IsCharBoundary bs (length bs - length rest)
  front_ends = subst (IsCharBoundary bs) (let h = width in omega arith) (IsCharBoundary-at_seam bs (encode_utf8_all w) rest bytes_cut left)

  pub chars-front : chars (take (length bs - length rest) bs) ≡ w
  chars-front =
      let n : length (encode_utf8_all w) ≡ length bs - length rest = let h = width in omega arith in
      let s : all_scalars w ≡ true = scalars-front w (chars rest) (sym (ap all_scalars e) ∙ scalars-chars bs text) in
      ap chars (ap (take (length bs - length rest)) bytes_cut ∙ take_at (encode_utf8_all w) rest (length bs - length rest) n) ∙ chars-encodes w s
