-- There is one rising list of given members, and so one report.
use Rattle.std.proofs.Common.{◌≡◌, ℕ, List, [], ◌∷◌, ◌↔◌, inl, inr, refl, sym, ap, ◌∙◌, subst}
use Rattle.std.specs.List.{Contains}
use Rattle.std.specs.declared.cmp.Ordering.TheVariants.{Less}
use Rattle.sg_base.proofs.Finite.{Contains-cons, Contains-head, Contains-tail, nothing_in}
use Rattle.jv_diag.specs.Plain.{DiagOf}
use Rattle.sc_io.specs.SourceTree.{FileOf}
use Rattle.sc_report.specs.Report.{IsReportOf, IsRising, diag_cmp, report_text}
use Rattle.sc_report.proofs.Order.{not_below_each_other}

-- what stands behind the first of a rising list is not the first
not_first : (d e : DiagOf) (ds : List DiagOf) → IsRising (d ∷ ds) → Contains ds e → e ≡ d → ⊥
not_first d e ds r c h =
    let less : diag_cmp d d ≡ Less = subst (λ (t : DiagOf). diag_cmp d t ≡ Less) h (r.0 e c) in
    not_below_each_other d d less less

pub rising_are_one : (ds es : List DiagOf) → IsRising ds → IsRising es → ((x : DiagOf) → (Contains ds x) ↔ (Contains es x)) → ds ≡ es
rising_are_one [] [] r s same = refl
rising_are_one [] (e ∷ es) r s same = absurd (nothing_in e ((same e).1 (Contains-head e es)))
rising_are_one (d ∷ ds) [] r s same = absurd (nothing_in d ((same d).0 (Contains-head d ds)))
rising_are_one (d ∷ ds) (e ∷ es) r s same =
    let first : d ≡ e =
    elim (Contains-cons e d es ((same d).0 (Contains-head d ds))) [
      | inl h ↦ h
      | inr k ↦ elim (Contains-cons d e ds ((same e).1 (Contains-head e es))) [
        | inl h ↦ sym h
        | inr m ↦ absurd (not_below_each_other d e (r.0 e m) (s.0 d k))
      ]
    ] in
    let lower : (x : DiagOf) → Contains ds x → Contains es x =
    λ x k. elim (Contains-cons e x es ((same x).0 (Contains-tail d x ds k))) [
      | inl h ↦ absurd (not_first d x ds r k (h ∙ sym first))
      | inr m ↦ m
    ] in
    let upper : (x : DiagOf) → Contains es x → Contains ds x =
    λ x k. elim (Contains-cons d x ds ((same x).1 (Contains-tail e x es k))) [
      | inl h ↦ absurd (not_first e x es s k (h ∙ first))
      | inr m ↦ m
    ] in
    let rest : ds ≡ es = rising_are_one ds es r.1 s.1 (λ x. (lower x, upper x)) in
    cc

pub one_report : (fs : List FileOf) (ds es : List DiagOf) (types : ℕ) (bytes others : List ℕ) → ((d : DiagOf) → (Contains ds d) ↔ (Contains es d)) → IsReportOf fs ds types bytes → IsReportOf fs es types others → bytes ≡ others
one_report fs ds es types bytes others same (xs, sorted, is) (ys, ordered, told) =
    let one : xs ≡ ys =
    rising_are_one xs ys sorted.rising ordered.rising (λ d. (
      (λ c. (ordered.same d).1 ((same d).0 ((sorted.same d).0 c))),
      (λ c. (sorted.same d).1 ((same d).1 ((ordered.same d).0 c))),
    )) in
    is ∙ (ap (λ (zs : List DiagOf). report_text fs zs types) one ∙ sym told)
