-- Lines that are sorted, each once.
use Rattle.std.proofs.Common.{◌≡◌, ℕ, Bool, true, false, cond, bytes_eq, List, [], ◌∷◌, map, String, Global, string_bytes, refl, sym, subst}
use Rattle.std.specs.Cmp.Lexicographic.{nat_list_eq_equiv, on_texts, texts_ties, same_text, slice_cmp}
use Rattle.std.specs.List.{AllByRecursion, Contains, dedup, dedup_from}
use Rattle.std.specs.List.Sorted.{IsPermutation, IsSorted}
use Rattle.std.specs.Ordering.{nat_cmp, on}
use Rattle.std.specs.declared.cmp.Ordering.{Ordering}
use Rattle.std.specs.declared.cmp.Ordering.TheVariants.{Less}
use Rattle.std.proofs.lemmas.List.Kept.{Contains-dedup, Contains-from_dedup, IsStrictlySortedBy-dedup}
use Rattle.std.proofs.lemmas.List.Sorted.{Contains-permutation, IsPermutation-map, IsPermutation-sym}
use Rattle.sg_base.specs.List.{IsRising}
use Rattle.sg_base.proofs.Rising.{rising_from_sorted}
use Rattle.sg_unit.specs.Trace.{handed, told}
use Rattle.sc_listing.specs.Answers.{JavaEntry, AreAnswerLines}
use Rattle.sc_listing.specs.Heard.{AreTold}
use Rattle.sc_listing.specs.Titles.{ListedOf}

abbrev Text : Type 0
Text = String Global

abbrev pub same_string : Text → Text → Bool
same_string a b = bytes_eq (string_bytes a) (string_bytes b)

texts-cond : (b : Bool) (us vs : List Text) → map string_bytes (cond b us vs) ≡ cond b (map string_bytes us) (map string_bytes vs)
texts-cond true us vs = refl
texts-cond false us vs = refl

texts-dedup_from : (xs : List Text) (k : Text) → map string_bytes (dedup_from same_string k xs) ≡ dedup_from bytes_eq (string_bytes k) (map string_bytes xs)
texts-dedup_from [] k = refl
texts-dedup_from (x ∷ xs) k = rw (texts-cond, texts-dedup_from xs k, texts-dedup_from xs x)

texts-dedup : (xs : List Text) → map string_bytes (dedup same_string xs) ≡ dedup bytes_eq (map string_bytes xs)
texts-dedup [] = refl
texts-dedup (x ∷ xs) = texts-dedup_from xs x

module _ {X Y : Type 0} (R : Y → Y → Ordering) (f : X → Y) where
  above_of : (y : Y) (xs : List X) → AllByRecursion (λ x. R y (f x) ≡ Less) xs → AllByRecursion (λ z. R y z ≡ Less) (map f xs)
  above_of y [] h = tt
  above_of y (x ∷ xs) h = (h.0, above_of y xs h.1)

  rising_of : (xs : List X) → IsRising (on f R) xs → IsRising R (map f xs)
  rising_of [] h = tt
  rising_of (x ∷ xs) h = (above_of (f x) xs h.0, rising_of xs h.1)

-- lines of all that was told, sorted and each once
pub sorted_lines : (w : ListedOf) (mine : List JavaEntry) (lines sorted : List Text) → IsPermutation lines sorted → IsSorted (on string_bytes (slice_cmp nat_cmp)) sorted
    → AreTold w (handed (told mine)) (map string_bytes lines) → AreAnswerLines w mine (map string_bytes (dedup same_string sorted))
sorted_lines w mine lines sorted moved rises all = record {
  rising = rising_of (slice_cmp nat_cmp) string_bytes (dedup same_string sorted) (rising_from_sorted (on string_bytes (slice_cmp nat_cmp)) (dedup same_string sorted) (IsStrictlySortedBy-dedup (on_texts (λ (s : Text). string_bytes s)) (λ x y. texts_ties (string_bytes x) (string_bytes y)) sorted rises));
  same = λ p. (
    (λ c. (all.exact p).0 (Contains-permutation (map string_bytes sorted) (map string_bytes lines) p (IsPermutation-sym (map string_bytes lines) (map string_bytes sorted) (IsPermutation-map string_bytes lines sorted moved))
        (Contains-from_dedup bytes_eq (map string_bytes sorted) p (subst (λ (l : List (List ℕ)). Contains l p) (texts-dedup sorted) c)))),
    (λ h. subst (λ (l : List (List ℕ)). Contains l p) (sym (texts-dedup sorted))
        (Contains-dedup nat_list_eq_equiv (λ x y e. same_text x y (sym e)) (map string_bytes sorted) p (Contains-permutation (map string_bytes lines) (map string_bytes sorted) p (IsPermutation-map string_bytes lines sorted moved) ((all.exact p).1 h)))),
  );
}
