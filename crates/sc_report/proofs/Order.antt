-- The order of diagnostics is total, tells any two apart, and is that of the code.
use Rattle.std.proofs.Common.{◌≡◌, ℕ, List, Bool, true, refl, sym, ap, ◌∙◌}
use Rattle.std.specs.Cmp.{IsTotalOrder, nat_cmp_total, on_total, then_total}
use Rattle.std.specs.Cmp.Lexicographic.{slice_cmp, nat_list_cmp_total}
use Rattle.std.specs.FinMap.{nat_cmp-IsAntisymmetric, slice_cmp-IsAntisymmetric}
use Rattle.std.specs.Ordering.{nat_cmp, ordering_then, ordering_reverse, is_eq, eq_by_cmp}
use Rattle.std.specs.declared.cmp.Ordering.{Ordering}
use Rattle.std.specs.declared.cmp.Ordering.TheVariants.{Less, Equal, Greater}
use Rattle.jv_diag.specs.Plain.{DiagOf, diag_of}
use Rattle.jv_diag.specs.contracts.diagnostic.DiagOrd.TheImpl as derived_order
use Rattle.jv_diag.specs.contracts.diagnostic.DiagOrd.TheImpl.Laws as order_laws
use Rattle.jv_diag.specs.contracts.diagnostic.DiagPartialEq.TheImpl as derived_test
use Rattle.jv_diag.specs.declared.diagnostic.Diag.{Diag}
use Rattle.sc_report.specs.Report.{diag_cmp}

-- ---- plain diagnostics

pub diag_total : IsTotalOrder diag_cmp
diag_total =
    then_total (on_total (λ (d : DiagOf). d.file) nat_cmp_total)
    (then_total (on_total (λ (d : DiagOf). d.at) nat_cmp_total) (then_total (on_total (λ (d : DiagOf). d.code) nat_cmp_total) (on_total (λ (d : DiagOf). d.text) nat_list_cmp_total)))

then_equal : (a b : Ordering) → ordering_then a b ≡ Equal → (a ≡ Equal) × (b ≡ Equal)
then_equal Less b h = absurd (cc)
then_equal Equal b h = (refl, h)
then_equal Greater b h = absurd (cc)

diag_by : (a b : DiagOf) → a.file ≡ b.file → a.at ≡ b.at → a.code ≡ b.code → a.text ≡ b.text → a ≡ b
diag_by a b f p c t =
    ap (λ (x : ℕ). let d : DiagOf = record { file = x; at = a.at; code = a.code; text = a.text } in d) f
    ∙ (ap (λ (x : ℕ). let d : DiagOf = record { file = b.file; at = x; code = a.code; text = a.text } in d) p
    ∙ (ap (λ (x : ℕ). let d : DiagOf = record { file = b.file; at = b.at; code = x; text = a.text } in d) c
    ∙ ap (λ (x : List ℕ). let d : DiagOf = record { file = b.file; at = b.at; code = b.code; text = x } in d) t))

pub equal_diag : (a b : DiagOf) → diag_cmp a b ≡ Equal → a ≡ b
equal_diag a b h =
    let file = then_equal (nat_cmp a.file b.file) (ordering_then (nat_cmp a.at b.at) (ordering_then (nat_cmp a.code b.code) (slice_cmp nat_cmp a.text b.text))) h in
    let at = then_equal (nat_cmp a.at b.at) (ordering_then (nat_cmp a.code b.code) (slice_cmp nat_cmp a.text b.text)) file.1 in
    let code = then_equal (nat_cmp a.code b.code) (slice_cmp nat_cmp a.text b.text) at.1 in
    diag_by a b (nat_cmp-IsAntisymmetric a.file b.file file.0) (nat_cmp-IsAntisymmetric a.at b.at at.0) (nat_cmp-IsAntisymmetric a.code b.code code.0)
    (slice_cmp-IsAntisymmetric nat_cmp-IsAntisymmetric a.text b.text code.1)

pub not_below_each_other : (a b : DiagOf) → diag_cmp a b ≡ Less → diag_cmp b a ≡ Less → ⊥
not_below_each_other a b l m =
    let back : diag_cmp a b ≡ Greater = diag_total.antisymm a b ∙ ap ordering_reverse m in
    absurd (cc)

-- ---- the diagnostics of the code

abbrev pub code_cmp : Diag → Diag → Ordering
code_cmp = (derived_order.ghosts).cmp

abbrev pub is_same : Diag → Diag → Bool
is_same = (derived_test.ghosts).eq

pub code_total : IsTotalOrder code_cmp
code_total = order_laws.total-law

pub code_ties : (a b : Diag) → is_same a b ≡ eq_by_cmp code_cmp a b
code_ties = order_laws.matches_eq-law

pub code_cmp_is : (a b : Diag) → code_cmp a b ≡ diag_cmp (diag_of a) (diag_of b)
code_cmp_is a b = refl

equal_of : (o : Ordering) → is_eq o ≡ true → o ≡ Equal
equal_of Less h = absurd (cc)
equal_of Equal h = refl
equal_of Greater h = absurd (cc)

-- diagnostics that the code does not tell apart are the same plain data
pub same_diag : (a b : Diag) → is_same a b ≡ true → diag_of a ≡ diag_of b
same_diag a b h = equal_diag (diag_of a) (diag_of b) (sym (code_cmp_is a b) ∙ equal_of (code_cmp a b) (sym (code_ties a b) ∙ h))
