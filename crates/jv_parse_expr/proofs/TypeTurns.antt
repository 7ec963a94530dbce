-- Turns of the loop that counts pairs of brackets.
use Rattle.std.proofs.Common.{◌≡◌, ℕ, zero, suc, ◌+◌, ◌-◌, ◌<◌, ◌≤◌, true, false, cond, List, ap, sym, ◌∙◌, refl, arith, Ok, Err}
use Rattle.jv_grammar.specs.declared.terminal.Terminal.{Terminal}
use Rattle.jv_grammar.specs.Marks.{bracket_open, bracket_close}
use Rattle.jv_grammar.specs.TypeGrammar.{starts}
use Rattle.jv_grammar.specs.Reader.{Reads, ◌>>=◌, rest_of}
use Rattle.jv_grammar.specs.TypeReader.{pairs_of}

abbrev err_pairs : List Terminal → Reads ℕ
err_pairs xs = Err xs

abbrev pub some_pairs : List Terminal → ℕ → Reads ℕ
some_pairs ys n = Ok (n, ys)

-- the pairs that are counted already, and those behind them
abbrev pub pairs_onto : ℕ → Reads ℕ → Reads ℕ
pairs_onto k r = r >>= λ s. Ok (k + s.0, s.1)

onto_zero : (r : Reads ℕ) → pairs_onto 0 r ≡ r
onto_zero (Ok s) = let e : 0 + s.0 ≡ s.0 = omega arith in ap (some_pairs s.1) e
onto_zero (Err e) = refl

onto_suc : (k : ℕ) (r : Reads ℕ) → pairs_onto (k + 1) r ≡ pairs_onto k (r >>= λ s. Ok (suc s.0, s.1))
onto_suc k (Ok s) = let e : k + 1 + s.0 ≡ k + suc s.0 = omega arith in ap (some_pairs s.1) e
onto_suc k (Err e) = refl

pub pairs_begin : (room : ℕ) (xs : List Terminal) → pairs_onto 0 (pairs_of (room - 0) xs) ≡ pairs_of room xs
pairs_begin room xs = let e : room - 0 ≡ room = omega arith in rw e (onto_zero (pairs_of room xs))

module _ (room i : ℕ) (xs : List Terminal) (h : i < room) where
  abbrev turn_of : ℕ → Reads ℕ
  turn_of c = cond (starts bracket_open xs)
      (cond (starts bracket_close (rest_of xs)) (pairs_of c (rest_of (rest_of xs)) >>= λ r. Ok (suc r.0, r.1)) (Err (rest_of xs)))
      (Ok (zero, xs))

  turn_at : (c : ℕ) → pairs_of (suc c) xs ≡ turn_of c
  unfolding pairs_of
  turn_at c = refl

  turn : pairs_of (room - i) xs ≡ turn_of (room - (i + 1))
  turn = let e : room - i ≡ suc (room - (i + 1)) = omega arith in ap (λ k. pairs_of k xs) e ∙ turn_at (room - (i + 1))

  pub pairs_done : starts bracket_open xs ≡ false → pairs_onto i (pairs_of (room - i) xs) ≡ some_pairs xs i
  pairs_done s = let e : i + 0 ≡ i = omega arith in rw (turn, s) (ap (some_pairs xs) e)

  pub pairs_refused : (ts : List Terminal) → starts bracket_open xs ≡ true → ts ≡ rest_of xs → starts bracket_close ts ≡ false → pairs_onto i (pairs_of (room - i) xs) ≡ Err ts
  pairs_refused ts s at none = rw (turn, s, ← at, none) refl

  pub pairs_next : (ts ys : List Terminal) → starts bracket_open xs ≡ true → ts ≡ rest_of xs → starts bracket_close ts ≡ true → ys ≡ rest_of ts
      → pairs_onto (i + 1) (pairs_of (room - (i + 1)) ys) ≡ pairs_onto i (pairs_of (room - i) xs)
  pairs_next ts ys s at close is = onto_suc i (pairs_of (room - (i + 1)) ys) ∙ sym (rw (turn, s, ← at, close, ← is) refl)

module _ (room i : ℕ) (xs : List Terminal) (h : room ≤ i) where
  no_room : room - i ≡ 0
  no_room = omega arith

  last_at : pairs_of 0 xs ≡ cond (starts bracket_open xs) (err_pairs xs) (some_pairs xs zero)
  unfolding pairs_of
  last_at = refl

  pub pairs_full : starts bracket_open xs ≡ true → pairs_onto i (pairs_of (room - i) xs) ≡ Err xs
  pairs_full s = rw (no_room, last_at, s) refl

  pub pairs_last : starts bracket_open xs ≡ false → i ≤ room → pairs_onto i (pairs_of (room - i) xs) ≡ some_pairs xs room
  pairs_last s l = let e : i + 0 ≡ room = omega arith in rw (no_room, last_at, s) (ap (some_pairs xs) e)
