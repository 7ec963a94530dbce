-- The classes of a project have paths of their own and short texts.
use Rattle.std.proofs.Common.{◌≡◌, ◌<◌, ◌≤◌, ◌+◌, ◌^◌, ℕ, zero, suc, false, List, [], ◌∷◌, ◌++◌, codes, decimal, length, get_or, refl, sym, ap, ◌∙◌, subst, inl, inr, String, Vec, Global, string_bytes, arith, length-append}
use Rattle.std.specs.Cmp.{IsTotalOrder}
use Rattle.std.specs.Cmp.Lexicographic.{on_texts, slice_cmp, texts_ties, same_text}
use Rattle.std.specs.List.{All, IsDistinct}
use Rattle.std.specs.List.Sorted.{IsPermutation, IsSorted}
use Rattle.std.specs.Ordering.{eq_by_cmp, is_eq, is_lt, nat_cmp, on, ordering_reverse}
use Rattle.std.specs.declared.cmp.Ordering.{Ordering}
use Rattle.std.specs.declared.cmp.Ordering.TheVariants.{Less, Equal, Greater}
use Rattle.std.proofs.lemmas.Bool.{cases_Bool}
use Rattle.std.proofs.lemmas.Fmt.{decimal_injective, length-decimal-le}
use Rattle.std.proofs.lemmas.List.{append_cancel_left, append_cancel_right, get_or-map, length-map, map-append}
use Rattle.std.proofs.lemmas.List.FromFn.{get_or-map-range_with_len, length-map-range_with_len, map-range_with_len_more}
use Rattle.std.proofs.lemmas.List.Sorted.{Contains-permutation, All-permutation, length_permutation, IsPermutation-map, IsPermutation-sym}
use Rattle.std.proofs.lemmas.Map.Keys.{IsDistinct-from_apart, IsDistinct-IsPermutation}
use Rattle.sc_io.specs.SourceFile.{source_of, sources_of}
use Rattle.sc_io.specs.SourceTree.{FileOf}
use Rattle.sc_io.specs.declared.source_file.SourceFile.{SourceFile}
use Rattle.sc_gen.specs.Project.{class_file, class_text, extends_text, half, path_of, project_files, IsProject}
use Rattle.sc_gen.proofs.Rising.{strictly}

abbrev pub by_path : FileOf → FileOf → Ordering
by_path = on (λ f. f.path) (slice_cmp nat_cmp)

pub path_total : IsTotalOrder by_path
path_total = on_texts (λ (f : FileOf). f.path)

-- ---- paths

pub path_injective : (i j : ℕ) → i < 2 ^ 64 → j < 2 ^ 64 → path_of i ≡ path_of j → i ≡ j
path_injective i j a b e =
    decimal_injective i j a b (append_cancel_right (decimal i) (decimal j) (codes ".java") (append_cancel_left (codes "g/C") (decimal i ++ codes ".java") (decimal j ++ codes ".java") e))

apart : (i j : ℕ) → i < j → j < 2 ^ 64 → eq_by_cmp by_path (class_file i) (class_file j) ≡ false
apart i j below small =
    elim (cases_Bool (eq_by_cmp by_path (class_file i) (class_file j))) [
      | inl e ↦
          let same : path_of i ≡ path_of j = same_text (path_of i) (path_of j) (sym (texts_ties (path_of i) (path_of j) ∙ e)) in
          let equal : i ≡ j = path_injective i j (omega (arith, below, small)) small same in
          absurd (omega (arith, below, equal))
      | inr e ↦ e
    ]

distinct : (n : ℕ) → n < 2 ^ 64 → IsDistinct (eq_by_cmp by_path) (project_files n)
distinct n small =
    IsDistinct-from_apart (eq_by_cmp by_path) (project_files n) (λ i j d below inside.
    let long : length (project_files n) ≡ n = length-map-range_with_len class_file 0 n in
    let first : get_or (project_files n) i d ≡ class_file i = get_or-map-range_with_len class_file 0 n i i d (omega (arith, below, inside, long)) (omega arith) in
    let second : get_or (project_files n) j d ≡ class_file j = get_or-map-range_with_len class_file 0 n j j d (omega (arith, inside, long)) (omega arith) in
    (λ k. eq_by_cmp by_path (first k) (second k)) ∙ apart i j below (omega (arith, inside, long, small)))

turned_eq : (r : Ordering) → is_eq (ordering_reverse r) ≡ is_eq r
turned_eq Less = refl
turned_eq Equal = refl
turned_eq Greater = refl

flips : (x y : FileOf) → eq_by_cmp by_path x y ≡ eq_by_cmp by_path y x
flips x y = ap is_eq (path_total.antisymm x y) ∙ turned_eq (by_path y x)

-- ---- sizes

extends_short : (i : ℕ) → i < 1000 → length (extends_text i) ≤ 13
extends_short zero l = omega arith
extends_short (suc k) l =
    let number : length (decimal (half (suc k))) ≤ 3 = length-decimal-le 3 (half (suc k)) (omega arith) (omega arith) (omega arith) in
    omega (arith, number, length-append (codes "extends C") (decimal (half (suc k)) ++ codes " "), length-append (decimal (half (suc k))) (codes " "))

class_short : (i : ℕ) → i < 1000 → length (class_text i) ≤ 100
class_short i l =
    let number : length (decimal i) ≤ 3 = length-decimal-le 3 i (omega arith) (omega arith) (omega arith) in
    let read : length (decimal (half i)) ≤ 3 = length-decimal-le 3 (half i) (omega arith) (omega arith) (omega arith) in
    let words : length (extends_text i) ≤ 13 = extends_short i l in
    simp length-append (omega (arith, number, read, words))

all_short : (n : ℕ) → n ≤ 1000 → All (λ f. length f.bytes ≤ 100) (project_files n)
all_short n few i d inside =
    let long : length (project_files n) ≡ n = length-map-range_with_len class_file 0 n in
    let here : get_or (project_files n) i d ≡ class_file i = get_or-map-range_with_len class_file 0 n i i d (omega (arith, inside, long)) (omega arith) in
    subst (λ (f : FileOf). length f.bytes ≤ 100) (sym here) (class_short i (omega (arith, inside, long, few)))

-- ---- one class more

pub one_more : (old new : List SourceFile) (i : ℕ) (p : String Global) (v : Vec ℕ Global) → new ≡ old ++ record { path = p; bytes = v } ∷ [] → string_bytes p ≡ path_of i → v.items ≡ class_text i → sources_of old ≡ project_files i → sources_of new ≡ project_files (i + 1)
one_more old new i p v e path text all =
    let here : FileOf = record { path = string_bytes p; bytes = v.items } in
    let same : here ≡ class_file i = λ j. record { path = path j; bytes = text j } in
    ap sources_of e ∙ map-append source_of old (record { path = p; bytes = v } ∷ []) ∙ (λ j. all j ++ same j ∷ []) ∙ sym (map-range_with_len_more class_file 0 i i (omega arith))

-- ---- the whole

-- sorted sources as sorted files
sorted_files : (ss : List SourceFile) → IsSorted (on source_of by_path) ss → IsSorted by_path (sources_of ss)
sorted_files [] rises k d low high = absurd (omega (arith, high))
sorted_files (z ∷ zs) rises k d low high =
    let long : length (sources_of (z ∷ zs)) ≡ length (z ∷ zs) = length-map (z ∷ zs) source_of in
    let first : get_or (sources_of (z ∷ zs)) k d ≡ source_of (get_or (z ∷ zs) k z) = get_or-map source_of (z ∷ zs) k z d (omega (arith, high, long)) in
    let second : get_or (sources_of (z ∷ zs)) (k + 1) d ≡ source_of (get_or (z ∷ zs) (k + 1) z) = get_or-map source_of (z ∷ zs) (k + 1) z d (omega (arith, high, long)) in
    (λ i. is_lt (by_path (second i) (first i))) ∙ rises k z low (omega (arith, high, long))

module _ (n : ℕ) (few : n ≤ 1000) (made sorted : List SourceFile) (all : sources_of made ≡ project_files n) (moved : IsPermutation made sorted) where
  moved_files : IsPermutation (project_files n) (sources_of sorted)
  moved_files = subst (λ (fs : List FileOf). IsPermutation fs (sources_of sorted)) all (IsPermutation-map source_of made sorted moved)

  pub short_files : All (λ f. length f.bytes ≤ 100) (sources_of sorted)
  short_files = All-permutation (λ f. length f.bytes ≤ 100) (project_files n) (sources_of sorted) moved_files (all_short n few)

  pub is_project : IsSorted (on source_of by_path) sorted → IsProject n (sources_of sorted)
  is_project rises = record {
    rising = strictly by_path path_total (sources_of sorted) (sorted_files sorted rises) (IsDistinct-IsPermutation (eq_by_cmp by_path) flips (project_files n) (sources_of sorted) moved_files (distinct n (omega (arith, few))));
    same = λ f. (
      Contains-permutation (sources_of sorted) (project_files n) f (IsPermutation-sym (project_files n) (sources_of sorted) moved_files),
      Contains-permutation (project_files n) (sources_of sorted) f moved_files,
    );
  }

  pub as_many : length sorted ≡ n
  as_many = sym (length-map sorted source_of) ∙ length_permutation (project_files n) (sources_of sorted) moved_files ∙ length-map-range_with_len class_file 0 n
