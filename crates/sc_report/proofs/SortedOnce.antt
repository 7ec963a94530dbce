-- Diagnostics that were sorted, without what stands twice.
use Rattle.std.proofs.Common.{◌≡◌, List, [], ◌∷◌, true, sym, ◌∙◌, subst, map}
use Rattle.std.proofs.lemmas.List.Kept.{Any-dedup, Contains-from_dedup, IsStrictlySortedBy-dedup}
use Rattle.std.proofs.lemmas.List.Sorted.{Contains-permutation, IsPermutation-sym}
use Rattle.std.specs.Cmp.{IsEquivalence}
use Rattle.std.specs.List.{Any, Contains, dedup}
use Rattle.std.specs.List.Sorted.{IsPermutation, IsSorted, IsStrictlySortedBy}
use Rattle.std.specs.declared.cmp.Ordering.TheVariants.{Less}
use Rattle.sg_base.proofs.Finite.{Contains-map, each_at, map-Contains}
use Rattle.jv_diag.specs.Plain.{DiagOf, diag_of}
use Rattle.jv_diag.specs.declared.diagnostic.Diag.{Diag}
use Rattle.jv_diag.specs.contracts.diagnostic.DiagEq.TheImpl.Laws as test_laws
use Rattle.sc_report.specs.Report.{AreSorted, IsRising, diag_cmp}
use Rattle.sc_report.proofs.Order.{code_cmp, code_cmp_is, code_ties, code_total, is_same, same_diag}

rising_from_sorted : (ds : List Diag) → IsStrictlySortedBy code_cmp ds → IsRising (map diag_of ds)
unfolding IsStrictlySortedBy
rising_from_sorted [] h = tt
rising_from_sorted (d ∷ ds) h = (
  (λ e c.
      let k : (x : Diag) × Contains ds x × (e ≡ diag_of x) = Contains-map diag_of ds e c in
      subst (λ (t : DiagOf). diag_cmp (diag_of d) t ≡ Less) (sym k.2) (sym (code_cmp_is d k.0) ∙ each_at (λ x. code_cmp d x ≡ Less) ds h.0 k.0 k.1)),
  rising_from_sorted ds h.1,
)

tests_alike : IsEquivalence is_same
tests_alike = test_laws.laws-law

kept : (ds : List Diag) (d : Diag) → Contains ds d → Contains (map diag_of (dedup is_same ds)) (diag_of d)
kept ds d c =
    let k : Any (λ (x : Diag). is_same d x ≡ true) (dedup is_same ds) = Any-dedup tests_alike ds d c in
    subst (λ (t : DiagOf). Contains (map diag_of (dedup is_same ds)) t) (sym (same_diag d k.1 k.4)) (map-Contains diag_of (dedup is_same ds) k.1 (k.0, k.2, k.3))

module _ (ds sorted : List Diag) (moved : IsPermutation ds sorted) (in_order : IsSorted code_cmp sorted) where
  pub sorted_once : AreSorted (map diag_of ds) (map diag_of (dedup is_same sorted))
  sorted_once = record {
    rising = rising_from_sorted (dedup is_same sorted) (IsStrictlySortedBy-dedup code_total code_ties sorted in_order);
    same = λ d. (
      (λ c.
          let k : (x : Diag) × Contains (dedup is_same sorted) x × (d ≡ diag_of x) = Contains-map diag_of (dedup is_same sorted) d c in
          let from : Contains ds k.0 = Contains-permutation sorted ds k.0 (IsPermutation-sym ds sorted moved) (Contains-from_dedup is_same sorted k.0 k.1) in
          subst (λ (t : DiagOf). Contains (map diag_of ds) t) (sym k.2) (map-Contains diag_of ds k.0 from)),
      (λ c.
          let k : (x : Diag) × Contains ds x × (d ≡ diag_of x) = Contains-map diag_of ds d c in
          subst (λ (t : DiagOf). Contains (map diag_of (dedup is_same sorted)) t) (sym k.2) (kept sorted k.0 (Contains-permutation ds sorted k.0 moved k.1))),
    );
  }
