-- The order of dotted names that begin with the same names.
use Rattle.std.proofs.Common.{◌≡◌, ℕ, suc, ◌≤◌, Bool, true, false, List, [], ◌∷◌, ◌++◌, length, take, drop, refl, sym, ap, ◌∙◌, arith}
use Rattle.std.proofs.lemmas.Bool.{lt-ltb}
use Rattle.std.proofs.lemmas.List.{take-append-drop, take-take}
use Rattle.std.specs.Prelude.{nat_lt}
use Rattle.std.specs.Cmp.{IsTotalOrder, nat_cmp_total}
use Rattle.std.specs.Cmp.Lexicographic.{slice_cmp, lists_total}
use Rattle.std.specs.Ordering.{nat_cmp, ordering_then, ordering_reverse}
use Rattle.std.specs.declared.cmp.Ordering.{Ordering}
use Rattle.std.specs.declared.cmp.Ordering.TheVariants.{Less, Equal, Greater}
use Rattle.jv_layout.specs.Folder.{path_cmp, parts_of, text_of, with_dot}

turned_same : (o : Ordering) → o ≡ ordering_reverse o → o ≡ Equal
turned_same Less e = absurd (cc)
turned_same Equal e = refl
turned_same Greater e = absurd (cc)

module _ {X : Type 0} {R : X → X → Ordering} (t : IsTotalOrder R) where
  pub itself : (x : X) → R x x ≡ Equal
  itself x = turned_same (R x x) (t.antisymm x x)

  longer : (xs : List X) (y : X) → slice_cmp R (xs ++ []) (xs ++ y ∷ []) ≡ Less
  longer [] y = refl
  longer (x ∷ xs) y = ap (λ (o : Ordering). ordering_then o (slice_cmp R (xs ++ []) (xs ++ y ∷ []))) (itself x) ∙ longer xs y

  shorter : (xs : List X) (y : X) → slice_cmp R (xs ++ y ∷ []) (xs ++ []) ≡ Greater
  shorter [] y = refl
  shorter (x ∷ xs) y = ap (λ (o : Ordering). ordering_then o (slice_cmp R (xs ++ y ∷ []) (xs ++ []))) (itself x) ∙ shorter xs y

module _ (names : List (List ℕ)) where
  abbrev rest : List ℕ → List ℕ → Ordering
  rest ys zs = slice_cmp (slice_cmp nat_cmp) (parts_of names ys) (parts_of names zs)

  abbrev first : ℕ → Bool → Bool → Ordering
  first n a b = slice_cmp nat_cmp (with_dot (text_of names n) a) (with_dot (text_of names n) b)

  first_same : (n : ℕ) (dot : Bool) → first n dot dot ≡ Equal
  first_same n dot = itself (lists_total nat_cmp_total) (with_dot (text_of names n) dot)

  dotted : (n : ℕ) → nat_lt 0 (suc n) ≡ true
  dotted n = lt-ltb 0 (suc n) (omega arith)

  -- the same names in front do not count
  behind_same : (xs ys zs : List ℕ) → path_cmp names (xs ++ ys) (xs ++ zs) ≡ path_cmp names ys zs
  behind_same [] ys zs = refl
  behind_same (x ∷ []) [] [] = ap (λ (o : Ordering). ordering_then o Equal) (first_same x false)
  behind_same (x ∷ []) [] (z ∷ zs) =
      ap (λ (b : Bool). ordering_then (first x false b) Less) (dotted (length zs)) ∙ ap (λ (o : Ordering). ordering_then o Less) (longer nat_cmp_total (text_of names x) 46)
  behind_same (x ∷ []) (y ∷ ys) [] =
      ap (λ (b : Bool). ordering_then (first x b false) Greater) (dotted (length ys)) ∙ ap (λ (o : Ordering). ordering_then o Greater) (shorter nat_cmp_total (text_of names x) 46)
  behind_same (x ∷ []) (y ∷ ys) (z ∷ zs) =
      ap (λ (b : Bool). ordering_then (first x b (nat_lt 0 (suc (length zs)))) (rest (y ∷ ys) (z ∷ zs))) (dotted (length ys))
      ∙ (ap (λ (b : Bool). ordering_then (first x true b) (rest (y ∷ ys) (z ∷ zs))) (dotted (length zs)) ∙ ap (λ (o : Ordering). ordering_then o (rest (y ∷ ys) (z ∷ zs))) (first_same x true))
  behind_same (x ∷ w ∷ ws) ys zs =
      ap (λ (b : Bool). ordering_then (first x b (nat_lt 0 (suc (length (ws ++ zs))))) (rest (w ∷ ws ++ ys) (w ∷ ws ++ zs))) (dotted (length (ws ++ ys)))
      ∙ (ap (λ (b : Bool). ordering_then (first x true b) (rest (w ∷ ws ++ ys) (w ∷ ws ++ zs))) (dotted (length (ws ++ zs)))
      ∙ (ap (λ (o : Ordering). ordering_then o (rest (w ∷ ws ++ ys) (w ∷ ws ++ zs))) (first_same x true) ∙ behind_same (w ∷ ws) ys zs))

  -- nor where both are cut
  pub cut_same : (c d : List ℕ) (m n k : ℕ) → k ≤ m → k ≤ n → take k c ≡ take k d → path_cmp names (drop k (take m c)) (drop k (take n d)) ≡ path_cmp names (take m c) (take n d)
  cut_same c d m n k a b e =
      let left : take m c ≡ take k d ++ drop k (take m c) = sym (take-append-drop k (take m c)) ∙ ap (λ (z : List ℕ). z ++ drop k (take m c)) (take-take k m c a ∙ e) in
      let right : take n d ≡ take k d ++ drop k (take n d) = sym (take-append-drop k (take n d)) ∙ ap (λ (z : List ℕ). z ++ drop k (take n d)) (take-take k n d b) in
      sym (ap (λ (z : List ℕ). path_cmp names z (take n d)) left ∙ (ap (λ (z : List ℕ). path_cmp names (take k d ++ drop k (take m c)) z) right
      ∙ behind_same (take k d) (drop k (take m c)) (drop k (take n d))))
