-- Readers that count their turns cut a front and the whole alike, and so does what is cut alike at each depth.
use Rattle.std.proofs.Common.{ℕ, zero, suc, List, ◌++◌, length, arith}
use Rattle.jv_grammar.specs.declared.terminal.Terminal.{Terminal}
use Rattle.jv_grammar.specs.Reader.{Reads, rest_of}
use Rattle.jv_grammar.proofs.Ending.{IsShort, IsCut, ends, gives, refuses, IsCutting}
use Rattle.jv_grammar.proofs.CutBoth.{IsCutUnless, both_end, both_give, both_refuse, too_deep, CutBoth, looser, from_first, rest_short}

-- as many turns as terminals are enough
module _ {A I : Type 0} {d : ℕ} (p q : I → ℕ → List Terminal → Reads A) (s : (i : I) → IsShort (p i 0)) (t : (i : I) → IsShort (q i 0)) where
  module _ (step : (c e : ℕ) → ((i : I) → CutBoth (suc c) (suc e) d (p i c) (q i e)) → (i : I) → CutBoth (suc (suc c)) (suc (suc e)) d (p i (suc c)) (q i (suc e))) where
    same : (c : ℕ) (i : I) → CutBoth (suc c) (suc c) d (p i c) (q i c)
    same zero i = from_first _ _ (s i) (t i) (λ z zs ws l l'. absurd (omega arith))
    same (suc c) i = step c c (same c) i

    pub each_turn : (c e : ℕ) (i : I) → CutBoth (suc c) (suc e) d (p i c) (q i e)
    each_turn zero e i = from_first _ _ (s i) (same e i).whole (λ z zs ws l l'. absurd (omega arith))
    each_turn (suc c) zero i = from_first _ _ (same (suc c) i).front (t i) (λ z zs ws l l'. absurd (omega arith))
    each_turn (suc c) (suc e) i = step c e (each_turn c e) i

  -- one turn more than terminals is enough
  module _ (step : (c e : ℕ) → ((i : I) → CutBoth c e d (p i c) (q i e)) → (i : I) → CutBoth (suc c) (suc e) d (p i (suc c)) (q i (suc e))) where
    same_long : (c : ℕ) (i : I) → CutBoth c c d (p i c) (q i c)
    same_long zero i = from_first _ _ (s i) (t i) (λ z zs ws l l'. absurd (omega arith))
    same_long (suc c) i = step c c (same_long c) i

    pub each_long_turn : (c e : ℕ) (i : I) → CutBoth c e d (p i c) (q i e)
    each_long_turn zero e i = from_first _ _ (s i) (same_long e i).whole (λ z zs ws l l'. absurd (omega arith))
    each_long_turn (suc c) zero i = from_first _ _ (same_long (suc c) i).front (t i) (λ z zs ws l l'. absurd (omega arith))
    each_long_turn (suc c) (suc e) i = step c e (each_long_turn c e) i

module _ {A : Type 0} (p q : ℕ → List Terminal → Reads A) where
  abbrev one : (ℕ → List Terminal → Reads A) → Unit {0} → ℕ → List Terminal → Reads A
  one r i = r

  pub all_turns : {d : ℕ} → IsShort (p 0) → IsShort (q 0) → ((c e : ℕ) → CutBoth (suc c) (suc e) d (p c) (q e) → CutBoth (suc (suc c)) (suc (suc e)) d (p (suc c)) (q (suc e)))
      → (c e : ℕ) → CutBoth (suc c) (suc e) d (p c) (q e)
  all_turns s t step c e = each_turn (one p) (one q) (λ i. s) (λ i. t) (λ c e k i. step c e (k tt)) c e tt

  pub all_long_turns : {d : ℕ} → IsShort (p 0) → IsShort (q 0) → ((c e : ℕ) → CutBoth c e d (p c) (q e) → CutBoth (suc c) (suc e) d (p (suc c)) (q (suc e)))
      → (c e : ℕ) → CutBoth c e d (p c) (q e)
  all_long_turns s t step c e = each_long_turn (one p) (one q) (λ i. s) (λ i. t) (λ c e k i. step c e (k tt)) c e tt

  -- a reader that counts its turns by the terminals, and behind the first of them
  pub turns_of : {n m d : ℕ} → ((c e : ℕ) → CutBoth (suc c) (suc e) d (p c) (q e)) → CutBoth n m d (λ xs. p (length xs) xs) (λ xs. q (length xs) xs)
  turns_of k = record {
    front = λ xs. (k (length xs) 0).front xs;
    whole = λ xs. (k 0 (length xs)).whole xs;
    cut = λ zs ws l l'. (k (length zs) (length (zs ++ ws))).cut zs ws (omega arith) (omega arith);
  }

  pub long_turns_of : {n m d : ℕ} → ((c e : ℕ) → CutBoth c e d (p c) (q e)) → CutBoth n m d (λ xs. p (suc (length xs)) xs) (λ xs. q (suc (length xs)) xs)
  long_turns_of k = record {
    front = λ xs. (k (suc (length xs)) 0).front xs;
    whole = λ xs. (k 0 (suc (length xs))).whole xs;
    cut = λ zs ws l l'. (k (suc (length zs)) (suc (length (zs ++ ws)))).cut zs ws (omega arith) (omega arith);
  }

  pub turns_under : {n m d : ℕ} → ((c e : ℕ) → CutBoth (suc c) (suc e) d (p c) (q e)) → CutBoth n m (suc d) (λ xs. p (length xs) (rest_of xs)) (λ xs. q (length xs) (rest_of xs))
  turns_under k = from_first _ _ (λ xs. rest_short (p (length xs)) (k (length xs) 0).front xs) (λ xs. rest_short (q (length xs)) (k 0 (length xs)).whole xs)
      (λ z zs ws l l'. looser (λ h. omega arith) ((k (suc (length zs)) (suc (length (zs ++ ws)))).cut zs ws (omega arith) (omega arith)))

-- what is cut alike
pub unless_cut : {A D : Type 0} {ws : List Terminal} {q r : Reads A} → IsCut ws q r → IsCutUnless D ws q r
unless_cut (ends e l) = both_end e l
unless_cut gives = both_give
unless_cut refuses = both_refuse

pub cut_unless : {A D : Type 0} {ws : List Terminal} {q r : Reads A} → (D → ⊥) → IsCutUnless D ws q r → IsCut ws q r
cut_unless f (both_end e l) = ends e l
cut_unless f both_give = gives
cut_unless f both_refuse = refuses
cut_unless f (too_deep h l) = absurd (f h)

pub both_of : {A : Type 0} {n m d : ℕ} {p : List Terminal → Reads A} → IsCutting p → CutBoth n m d p p
both_of c = record { front = c.short; whole = c.short; cut = λ zs ws l l'. unless_cut (c.cut zs ws) }
