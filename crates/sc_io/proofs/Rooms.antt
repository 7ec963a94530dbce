-- What fits into a room, and what of a piece is written where it does not fit.
use Rattle.std.proofs.Common.{◌≡◌, ℕ, ◌-◌, ◌<◌, List, [], ◌++◌, length, take, Option, Some, None, ap, sym, ◌∙◌, arith, length-append, append-nil}
use Rattle.std.proofs.lemmas.List.{length-take, take-append-drop}
use Rattle.std.proofs.Math.Seq.{take-append-add}
use Rattle.std.proofs.Math.ListN.{drop}
use Rattle.sc_io.specs.MemSink.{Fits, front_within, piece_within}

-- where not all of a piece was taken, it does not fit
pub Fits-not : (room : Option ℕ) (written piece front : List ℕ) (len : ℕ) → len ≡ length written → front ≡ piece_within room len piece → length front < length piece → Fits room (written ++ piece) → ⊥
Fits-not None written piece front len behind taken short fits = omega (arith, ap length taken)
Fits-not (Some room) written piece front len behind taken short fits =
    omega (arith, ap length taken, length-append written piece, length-take (room - len) piece)

-- what is written then is as much as there is room for
pub front_within-append : (room : Option ℕ) (written piece front : List ℕ) (len : ℕ) → len ≡ length written → front ≡ piece_within room len piece → Fits room written → written ++ front ≡ front_within room (written ++ piece)
front_within-append None written piece front len behind taken fits = ap (λ (f : List ℕ). written ++ f) taken
front_within-append (Some room) written piece front len behind taken fits =
    ap (λ (f : List ℕ). written ++ f) (taken ∙ ap (λ (n : ℕ). take (room - n) piece) behind)
    ∙ sym (take-append-add written piece (room - length written)) ∙ ap (λ (n : ℕ). take n (written ++ piece)) (omega arith)

-- what is taken of a piece is a front of it
pub piece_within-front : (room : Option ℕ) (len : ℕ) (piece front : List ℕ) → front ≡ piece_within room len piece → (rest : List ℕ) × (piece ≡ front ++ rest)
piece_within-front None len piece front taken = ([], sym taken ∙ sym (append-nil front))
piece_within-front (Some room) len piece front taken =
    (drop (room - len) piece, sym (take-append-drop (room - len) piece) ∙ ap (λ (f : List ℕ). f ++ drop (room - len) piece) (sym taken))
