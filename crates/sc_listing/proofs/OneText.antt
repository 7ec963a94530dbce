-- What each unit was told gives one text.
use Rattle.std.proofs.Common.{◌≡◌, ℕ, List, [], ◌∷◌, ◌++◌, codes, sym, ◌∙◌, subst}
use Rattle.std.specs.Cmp.Lexicographic.{nat_list_cmp_total, slice_cmp}
use Rattle.std.specs.Ordering.{nat_cmp}
use Rattle.sg_base.specs.declared.scope.Scope.{Scope}
use Rattle.sg_base.proofs.Rising.{rising_one}
use Rattle.sg_unit.specs.Own.{own}
use Rattle.sg_unit.specs.Trace.{handed, told}
use Rattle.sc_listing.specs.Answers.{AnswersAreOne, AreAnswerLines, AreUnitTexts, IsToldLine, JavaEntry, JavaPast, unit_of, unit_text}
use Rattle.sc_listing.specs.Titles.{ListedOf, listed_files, listed_types, title}

one_lines : (w : ListedOf) (mine other : List JavaEntry) (lines others : List (List ℕ)) → handed (told mine) ≡ handed (told other) → AreAnswerLines w mine lines → AreAnswerLines w other others → lines ≡ others
one_lines w mine other lines others same a b =
    rising_one (slice_cmp nat_cmp) nat_list_cmp_total lines others a.rising b.rising (λ line. (
      (λ c. (b.same line).1 (subst (λ (past : JavaPast). IsToldLine w past line) same ((a.same line).0 c))),
      (λ c. (a.same line).1 (subst (λ (past : JavaPast). IsToldLine w past line) (sym same) ((b.same line).0 c))),
    ))

one_units : (w : ListedOf) (mine other : ℕ → List JavaEntry) → ((u : ℕ) → handed (told (mine u)) ≡ handed (told (other u))) → (ss : List Scope) (text others : List ℕ) → AreUnitTexts w mine ss text → AreUnitTexts w other ss others → text ≡ others
one_units w mine other same [] text others a b = a ∙ sym b
one_units w mine other same (s ∷ ss) text others a b =
    let lines : a.0 ≡ b.0 = one_lines w (mine (unit_of w.layout s)) (other (unit_of w.layout s)) a.0 b.0 (same (unit_of w.layout s)) a.2 b.2 in
    let rest : a.1 ≡ b.1 = one_units w mine other same ss a.1 b.1 a.3 b.3 in
    a.4 ∙ (λ i. unit_text (title w s) (lines i) ++ rest i) ∙ sym b.4

pub one_text : AnswersAreOne
one_text w log other text others same a b =
    let files : a.0 ≡ b.0 = one_units w (λ u. own u log) (λ u. own u other) same (listed_files w) a.0 b.0 a.2 b.2 in
    let types : a.1 ≡ b.1 = one_units w (λ u. own u log) (λ u. own u other) same (listed_types w) a.1 b.1 a.3 b.3 in
    a.4 ∙ (λ i. (files i ++ types i) ++ codes "end\n") ∙ sym b.4
