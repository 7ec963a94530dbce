-- Lists of entries, where new ones come behind them.
use Rattle.std.proofs.Common.{◌≡◌, ◌≢◌, ℕ, ◌==◌, ◌<◌, true, false, List, [], ◌∷◌, ◌++◌, length, refl, sym, ap, ◌∙◌, ◌⊎◌, inl, inr, arith, length-append, append_assoc, eq-eqb, ne_eqb}
use Rattle.std.specs.Prelude.{All}
use Rattle.std.proofs.lemmas.List.Elements.{filter-append, All-head, All-tail}
use Rattle.std.proofs.lemmas.List.{append-nil}
use Rattle.sg_turn.specs.Entries.{Begins, told_by}

module _ {E : Type 0} where
  pub begins_more : (seen log rest : List E) → Begins seen log → Begins seen (log ++ rest)
  begins_more seen log rest b = (b.0 ++ rest, ap (λ l. l ++ rest) b.1 ∙ append_assoc seen b.0 rest)

  all_told : (teller : E → ℕ) (n : ℕ) (more : List E) → All (λ e. teller e ≡ n) more → told_by teller n more ≡ more
  all_told teller n [] all = refl
  all_told teller n (e ∷ more) all = let t : (teller e == n) ≡ true = eq-eqb (teller e) n (All-head (λ e. teller e ≡ n) e more all) in rw t (ap (λ l. e ∷ l) (all_told teller n more (All-tail (λ e. teller e ≡ n) e more all)))

  none_told : (teller : E → ℕ) (m n : ℕ) (more : List E) → All (λ e. teller e ≡ m) more → n ≢ m → told_by teller n more ≡ []
  none_told teller m n [] all not = refl
  none_told teller m n (e ∷ more) all not = let t : (teller e == n) ≡ false = ne_eqb (teller e) n (λ z. not (sym z ∙ All-head (λ e. teller e ≡ m) e more all)) in rw t (none_told teller m n more (All-tail (λ e. teller e ≡ m) e more all) not)

  -- new entries that all name the seat n are behind its own
  pub told_same : (teller : E → ℕ) (n : ℕ) (log more : List E) → All (λ e. teller e ≡ n) more → told_by teller n (log ++ more) ≡ told_by teller n log ++ more
  told_same teller n log more all = filter-append (λ x. teller x == n) log more ∙ ap (λ l. told_by teller n log ++ l) (all_told teller n more all)

  -- and no other's
  pub told_other : (teller : E → ℕ) (m n : ℕ) (log more : List E) → All (λ e. teller e ≡ m) more → n ≢ m → told_by teller n (log ++ more) ≡ told_by teller n log
  told_other teller m n log more all not = filter-append (λ x. teller x == n) log more ∙ (ap (λ l. told_by teller n log ++ l) (none_told teller m n more all not) ∙ append-nil (told_by teller n log))

  pub none_or_some : (more : List E) → (more ≡ []) ⊎ (0 < length more)
  none_or_some [] = inl refl
  none_or_some (e ∷ more) = inr (omega arith)

  pub not_longer : (l more : List E) → l ≡ l ++ more → 0 < length more → ⊥
  not_longer l more h some = let a = length-append l more in let b = ap length h in omega arith

  -- what stands behind a list is what stands behind it
  pub same_behind : (l a b : List E) → l ++ a ≡ l ++ b → a ≡ b
  same_behind [] a b e = e
  same_behind (x ∷ l) a b e = let f : l ++ a ≡ l ++ b = cc in same_behind l a b f
