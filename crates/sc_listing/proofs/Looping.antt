-- One more push in a loop.
use Rattle.std.proofs.Common.{◌≡◌, ℕ, ◌+◌, List, [], ◌∷◌, ◌++◌, map, refl, sym, ◌∙◌}
use Rattle.std.specs.List.{range_with_len}
use Rattle.std.proofs.lemmas.List.FromFn.{map-range_with_len_more}

-- a scope more of those with numbers from this one on
pub scope_more : {X : Type 0} (f : ℕ → X) (first i : ℕ) (old new : List X) (x : X) → new ≡ old ++ x ∷ [] → x ≡ f (first + i) → old ≡ map f (range_with_len first i) → new ≡ map f (range_with_len first (i + 1))
scope_more f first i old new x e here h = e ∙ (λ j. h j ++ here j ∷ []) ∙ sym (map-range_with_len_more f first i (first + i) refl)
