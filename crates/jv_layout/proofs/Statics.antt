-- The static imports of files, as they are kept.
use Rattle.std.proofs.Common.{◌≡◌, ℕ, zero, suc, ◌<◌, ◌≤◌, List, [], ◌∷◌, length, map, get_or, refl, sym, ap, ◌∙◌, arith}
use Rattle.std.proofs.lemmas.List.{get_or-map}

module _ {V X Y : Type 0} (items : V → List X) (f : X → Y) where
  -- those of a file that is there
  pub kept_at : (lists : List V) (i : ℕ) (v : V) → i < length lists → v ≡ get_or lists i v → map f (items v) ≡ get_or (map (λ v. map f (items v)) lists) i []
  kept_at lists i v below e = ap (λ (v : V). map f (items v)) e ∙ sym (get_or-map (λ (v : V). map f (items v)) lists i v [] below)

  -- and of one that is not
  pub kept_past : (lists : List V) (i : ℕ) → length lists ≤ i → [] ≡ get_or (map (λ v. map f (items v)) lists) i []
  kept_past [] i past = refl
  kept_past (v ∷ vs) zero past = absurd (omega arith)
  kept_past (v ∷ vs) (suc i) past = kept_past vs i (omega arith)
