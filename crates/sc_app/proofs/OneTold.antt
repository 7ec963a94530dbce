-- What is told is one.
use Rattle.std.proofs.Common.{◌≡◌, ℕ, suc, ◌<◌, ◌≤◌, ◌⊎◌, List, [], ◌∷◌, length, map, None, Some, ◌↔◌, inl, inr, refl, sym, ap, subst, ◌∙◌, arith}
use Rattle.std.specs.Cmp.{IsTotalOrder}
use Rattle.std.specs.List.{Contains}
use Rattle.std.specs.declared.cmp.Ordering.TheVariants.{Less}
use Rattle.std.proofs.lemmas.Cmp.{nat_cmp_total, nat_list_cmp_total, on_total, then_total}
use Rattle.sg_base.specs.Graph.{GraphOf}
use Rattle.sg_base.specs.List.{IsRising}
use Rattle.sg_base.proofs.Finite.{each_from}
use Rattle.sg_base.proofs.Rising.{rising_one}
use Rattle.jv_diag.specs.Plain.{DiagOf}
use Rattle.jv_instance.specs.declared.datum.JavaDatum.{JavaDatum}
use Rattle.jv_layout.proofs.Linking.{few_scopes, rows_linked}
use Rattle.jv_tree.specs.DeclTree.{UnitTree}
use Rattle.sc_io.specs.SourceTree.{FileOf}
use Rattle.sc_listing.specs.Graph.{graph_text}
use Rattle.sc_report.specs.Report.{AreSorted, diag_cmp, report_text, IsRising as DiagsRise}
use Rattle.sc_sources.specs.Law.{SourcesAreReadOnce}
use Rattle.sc_sources.specs.Read.{most_files}
use Rattle.sc_sources.specs.Sources.{Outcome, ReadsFolder, faults_from, tree}
use Rattle.sc_app.specs.declared.command.Command.{Command}
use Rattle.sc_app.specs.declared.command.Command.TheVariants.{Answers}
use Rattle.sc_app.specs.declared.status.Status.{Status}
use Rattle.sc_app.specs.declared.status.Status.TheVariants.{Limit}
use Rattle.sc_app.specs.declared.status.Which.{Which}
use Rattle.sc_app.specs.declared.status.Which.TheVariants.{Files}
use Rattle.sc_app.specs.Checked.{IsChecked}
use Rattle.sc_app.specs.Command.{Asks}
use Rattle.sc_app.specs.Diagnoses.{DeclareTooMany, Diagnoses, HaveTrees, IsReport, checked, faulty, laid_out, types_declared}
use Rattle.sc_app.specs.FolderGraph.{IsWhole}
use Rattle.sc_app.specs.FolderReport.{FoldersHaveOneReport, IsLaidOut, Reports}
use Rattle.sc_app.specs.Laws.{ToldIsOne}
use Rattle.sc_app.specs.Listing.{IsFinished, Lists, listed_in, lists_answers, lists_graph}
use Rattle.sc_app.specs.Sourced.{AreSources, passed_from}
use Rattle.sc_app.specs.Statuses.{status_of}
use Rattle.sc_app.specs.Told.{Checks, Tells, command, files_for, limit_line, listed, many_bytes, many_files, many_types, no_command, reported, tells}
use Rattle.sc_app.proofs.CommandLemmas.{asked_once}
use Rattle.sc_app.proofs.OneReport.{whole_is_one}
use Rattle.sc_app.proofs.Sourcing.{sources_are_one}

-- ---- sorted diagnostics

diags_total : IsTotalOrder diag_cmp
diags_total = then_total (on_total (λ d. d.file) nat_cmp_total) (then_total (on_total (λ d. d.at) nat_cmp_total) (then_total (on_total (λ d. d.code) nat_cmp_total) (on_total (λ d. d.text) nat_list_cmp_total)))

diags_rise : (ds : List DiagOf) → DiagsRise ds → IsRising diag_cmp ds
diags_rise [] h = tt
diags_rise (d ∷ ds) h = (each_from (λ e. diag_cmp d e ≡ Less) ds h.0, diags_rise ds h.1)

sorted_one : (ds es xs ys : List DiagOf) → ((d : DiagOf) → (Contains ds d) ↔ (Contains es d)) → AreSorted ds xs → AreSorted es ys → xs ≡ ys
sorted_one ds es xs ys same s t =
    rising_one diag_cmp diags_total xs ys (diags_rise xs s.rising) (diags_rise ys t.rising) (λ d. ((λ c. (t.same d).1 ((same d).0 ((s.same d).0 c))), (λ c. (s.same d).1 ((same d).1 ((t.same d).0 c)))))

-- ---- trees and faults

trees_have_no_fault : (file : ℕ) (us : List UnitTree) → faults_from file (map tree us) ≡ []
trees_have_no_fault file [] = refl
trees_have_no_fault file (u ∷ us) = trees_have_no_fault (suc file) us

tree_one : (u v : UnitTree) → tree u ≡ tree v → u ≡ v
tree_one u v e = cc

trees_one : (us vs : List UnitTree) → map tree us ≡ map tree vs → us ≡ vs
trees_one [] [] e = refl
trees_one [] (v ∷ vs) e = absurd (cc)
trees_one (u ∷ us) [] e = absurd (cc)
trees_one (u ∷ us) (v ∷ vs) e =
    let heads : tree u ≡ tree v = cc in
    let tails : map tree us ≡ map tree vs = cc in
    ap (λ (t : UnitTree). t ∷ us) (tree_one u v heads) ∙ ap (λ (ts : List UnitTree). v ∷ ts) (trees_one us vs tails)

-- one status, and one list of bytes unless answers are asked for
abbrev IsOne : Command → List ℕ → List ℕ → Status → Status → Type 0
IsOne c a b s t = (s ≡ t) × ((c ≡ Answers → ⊥) → a ≡ b)

module _ (once : SourcesAreReadOnce) (reports : FoldersHaveOneReport) where
  module _ (fs : List FileOf) where
    reads_one : (names others : List (List ℕ)) (xs ys : List Outcome) → ReadsFolder (map (λ f. f.bytes) fs) names xs → ReadsFolder (map (λ f. f.bytes) fs) others ys → (names ≡ others) × (xs ≡ ys)
    reads_one names others xs ys r q = once _ [] names others xs ys r q

    -- files with trees have no fault
    no_fault : (names others : List (List ℕ)) (us : List UnitTree) (xs : List Outcome) → HaveTrees fs names us → ReadsFolder (map (λ f. f.bytes) fs) others xs → faults_from 0 xs ≡ []
    no_fault names others us xs have r =
        ap (faults_from 0) ((reads_one others names xs have.outcomes r have.read).1 ∙ have.trees) ∙ trees_have_no_fault 0 us

    pub none_faulty : (names others : List (List ℕ)) (us : List UnitTree) (xs : List Outcome) → HaveTrees fs names us → ReadsFolder (map (λ f. f.bytes) fs) others xs → 0 < length (faults_from 0 xs) → ⊥
    none_faulty names others us xs have r some =
        let none : length (faults_from 0 xs) ≡ 0 = ap (λ (ds : List DiagOf). length ds) (no_fault names others us xs have r) in
        omega (arith, none, some)

    pub trees_are_one : (names others : List (List ℕ)) (us vs : List UnitTree) → HaveTrees fs names us → HaveTrees fs others vs → (names ≡ others) × (us ≡ vs)
    trees_are_one names others us vs h k =
        let same = reads_one names others h.outcomes k.outcomes h.read k.read in
        (same.0, trees_one us vs (sym h.trees ∙ same.1 ∙ k.trees))

    pub laid : (names : List (List ℕ)) (us : List UnitTree) → HaveTrees fs names us → IsLaidOut (laid_out names us)
    laid names us have = record { layout = refl; linked = rows_linked names us have.folder; few = few_scopes names us have.folder; numbered = have.numbered }

    pub declared_one : (names others : List (List ℕ)) (us vs : List UnitTree) → (names ≡ others) × (us ≡ vs) → types_declared names us ≡ types_declared others vs
    declared_one names others us vs e =
        ap (λ (n : List (List ℕ)). types_declared n us) e.0 ∙ ap (types_declared others) e.1

    reports_moved : (names others : List (List ℕ)) (us vs : List UnitTree) (ds : List DiagOf) → (names ≡ others) × (us ≡ vs) → Reports (laid_out others vs) ds → Reports (laid_out names us) ds
    reports_moved names others us vs ds e r =
        subst (λ (n : List (List ℕ)). Reports (laid_out n us) ds) (sym e.0) (subst (λ (ts : List UnitTree). Reports (laid_out others ts) ds) (sym e.1) r)

    -- files have one list of diagnostics, up to its order, and declare one number of types
    one_diagnosis : (ds es : List DiagOf) (m n : ℕ) → Diagnoses fs ds m → Diagnoses fs es n → (m ≡ n) × ((d : DiagOf) → (Contains ds d) ↔ (Contains es d))
    one_diagnosis ds es m n (faulty names xs r some is) (faulty others ys q more also) =
        let same : ds ≡ es = is ∙ ap (faults_from 0) (reads_one names others xs ys r q).1 ∙ sym also in
        (refl, λ d. (subst (λ (l : List DiagOf). Contains l d) same, subst (λ (l : List DiagOf). Contains l d) (sym same)))
    one_diagnosis ds es m n (faulty names xs r some is) (checked others vs have few said) = absurd (none_faulty others names vs xs have r some)
    one_diagnosis ds es m n (checked names us have few said) (faulty others ys q more also) = absurd (none_faulty names others us ys have q more)
    one_diagnosis ds es m n (checked names us have few said) (checked others vs had less told) =
        let same = trees_are_one names others us vs have had in
        (declared_one names others us vs same, reports (laid_out names us) ds es (laid names us have) said (reports_moved names others us vs es same told))

    one_report : (a b : List ℕ) (s t : Status) → IsReport fs a s → IsReport fs b t → (a ≡ b) × (s ≡ t)
    one_report a b s t (ds, m, d, (xs, sorted, written, is)) (es, n, e, (ys, ordered, wrote, also)) =
        let one = one_diagnosis ds es m n d e in
        let same : xs ≡ ys = sorted_one ds es xs ys one.1 sorted ordered in (
          written ∙ ap (λ (l : List DiagOf). report_text fs l m) same ∙ ap (report_text fs ys) one.0 ∙ sym wrote,
          is ∙ ap (λ (l : List DiagOf). status_of (length l)) same ∙ sym also,
        )

    -- a report is on files that declare no more types than there may be
    not_too_many : (ds : List DiagOf) (n : ℕ) → Diagnoses fs ds n → DeclareTooMany fs → ⊥
    not_too_many ds n (faulty names xs r some is) (others, vs, had, many) = none_faulty others names vs xs had r some
    not_too_many ds n (checked names us have few said) (others, vs, had, many) =
        let same = declared_one names others us vs (trees_are_one names others us vs have had) in
        omega (arith, few, many, same)

    -- ---- what is listed

    -- it is the text of a finished graph, or it was asked for by `answers`
    abbrev IsGraphText : List ℕ → Type 0
    IsGraphText text = (names : List (List ℕ)) × (us : List UnitTree) × (g : GraphOf JavaDatum) × IsFinished fs names us g × (text ≡ graph_text (listed_in fs names us) g)

    what_is_listed : (c : Command) (text : List ℕ) → Lists fs c text → IsGraphText text ⊎ (c ≡ Answers)
    what_is_listed c text (lists_graph names us g is) = inl (names, us, g, is, refl)
    what_is_listed c text (lists_answers names us g others is are) = inr refl

    one_graph_text : (a b : List ℕ) → IsGraphText a → IsGraphText b → a ≡ b
    one_graph_text a b (names, us, g, is, e) (others, vs, h, are, k) =
        let same = trees_are_one names others us vs is.have are.have in
        let moved : IsWhole (laid_out names us) h = subst (λ (n : List (List ℕ)). IsWhole (laid_out n us) h) (sym same.0) (subst (λ (ts : List UnitTree). IsWhole (laid_out others ts) h) (sym same.1) are.whole) in
        let one : g ≡ h = whole_is_one (laid_out names us) (laid names us is.have) g h is.whole moved in
        e
        ∙ ap (λ (x : GraphOf JavaDatum). graph_text (listed_in fs names us) x) one
        ∙ ap (λ (n : List (List ℕ)). graph_text (listed_in fs n us) h) same.0
        ∙ ap (λ (ts : List UnitTree). graph_text (listed_in fs others ts) h) same.1
        ∙ sym k

    one_listing : (c : Command) (a b : List ℕ) → Lists fs c a → Lists fs c b → (c ≡ Answers → ⊥) → a ≡ b
    one_listing c a b l m plain =
        elim (what_is_listed c a l) [
          | inl g ↦ elim (what_is_listed c b m) [ inl h ↦ one_graph_text a b g h | inr e ↦ absurd (plain e) ]
          | inr e ↦ absurd (plain e)
        ]

    -- ---- what is told

    one_tale : (c : Command) (a b : List ℕ) (s t : Status) → Tells c fs a s → Tells c fs b t → IsOne c a b s t
    one_tale c a b s t (reported none r) (reported nothing q) = let one = one_report a b s t r q in (one.1, λ plain. one.0)
    one_tale c a b s t (reported none r) (listed report l q) = absurd (none b l)
    one_tale c a b s t (listed report l r) (reported none q) = absurd (none a l)
    one_tale c a b s t (listed report l r) (listed other m q) = ((one_report report other s t r q).1, one_listing c a b l m)

    -- who tells of sources has a report on them
    told_report : (c : Command) (a : List ℕ) (s : Status) → Tells c fs a s → (report : List ℕ) × IsReport fs report s
    told_report c a s (reported none r) = (a, r)
    told_report c a s (listed report l r) = (report, r)

    one_checked : (c : Command) (a b : List ℕ) (s t : Status) → IsChecked c fs a s → IsChecked c fs b t → IsOne c a b s t
    one_checked c a b s t (inl r) (inl q) = one_tale c a b s t r q
    one_checked c a b s t (inl r) (inr q) = let k = (told_report c a s r).1 in absurd (not_too_many k.0 k.1 k.2 q.0)
    one_checked c a b s t (inr r) (inl q) = let k = (told_report c b t q).1 in absurd (not_too_many k.0 k.1 k.2 r.0)
    one_checked c a b s t (inr r) (inr q) = (r.2 ∙ sym q.2, λ plain. r.1 ∙ sym q.1)

  -- what is told of sources
  abbrev Says : Command → List FileOf → List ℕ → Status → Type 0
  Says c ss bytes status =
      ((most_files < length ss) × (bytes ≡ limit_line Files) × (status ≡ Limit Files))
      ⊎ ((length ss ≤ most_files) × (((which : Which) × (passed_from 0 ss ≡ Some which) × (bytes ≡ limit_line which) × (status ≡ Limit which)) ⊎ ((passed_from 0 ss ≡ None) × IsChecked c ss bytes status)))

  says : (c : Command) (fs : List FileOf) (bytes : List ℕ) (status : Status) → Checks c fs bytes status → (ss : List FileOf) × AreSources fs ss × Says c ss bytes status
  says c fs bytes status (many_files ss are many) = (ss, are, inl (many, refl, refl))
  says c fs bytes status (many_bytes ss which are few passed) = (ss, are, inr (few, inl (which, passed, refl, refl)))
  says c fs bytes status (many_types ss are few none many) = (ss, are, inr (few, inr (none, inr (many, refl, refl))))
  says c fs bytes status (tells ss text end are few none told) = (ss, are, inr (few, inr (none, inl told)))

  one_said : (c : Command) (ss : List FileOf) (a b : List ℕ) (s t : Status) → Says c ss a s → Says c ss b t → IsOne c a b s t
  one_said c ss a b s t (inl (many, w, is)) (inl (also, v, it)) = (is ∙ sym it, λ plain. w ∙ sym v)
  one_said c ss a b s t (inl (many, w, is)) (inr (few, rest)) = absurd (omega (arith, many, few))
  one_said c ss a b s t (inr (few, rest)) (inl (many, w, is)) = absurd (omega (arith, many, few))
  one_said c ss a b s t (inr (few, inl (which, p, w, is))) (inr (less, inl (other, q, v, it))) =
      let some : Some which ≡ Some other = sym p ∙ q in
      let same : which ≡ other = cc in
      (is ∙ ap (λ (k : Which). Limit k) same ∙ sym it, λ plain. w ∙ ap limit_line same ∙ sym v)
  one_said c ss a b s t (inr (few, inl (which, p, w, is))) (inr (less, inr (none, r))) = let both : Some which ≡ None = sym p ∙ none in absurd (cc)
  one_said c ss a b s t (inr (few, inr (none, r))) (inr (less, inl (which, p, w, is))) = let both : Some which ≡ None = sym p ∙ none in absurd (cc)
  one_said c ss a b s t (inr (few, inr (none, r))) (inr (less, inr (nothing, q))) = one_checked ss c a b s t r q

  one_check : (c : Command) (fs : List FileOf) (a b : List ℕ) (s t : Status) → Checks c fs a s → Checks c fs b t → IsOne c a b s t
  one_check c fs a b s t h k =
      let first = says c fs a s h in
      let second = says c fs b t k in
      one_said c first.0 a b s t first.2 (subst (λ (ss : List FileOf). Says c ss b t) (sources_are_one fs second.0 first.0 second.1 first.1) second.2)

  pub told_is_one : ToldIsOne
  told_is_one words fs a b s t (no_command none) (no_command also) = (refl, λ plain. refl)
  told_is_one words fs a b s t (no_command none) (command c workers bytes status asks checks) = absurd (none (c, workers, asks))
  told_is_one words fs a b s t (command c workers bytes status asks checks) (no_command none) = absurd (none (c, workers, asks))
  told_is_one words fs a b s t (command c workers bytes status asks checks) (command d more others other also found) =
      let same : d ≡ c = asked_once words d c more workers also asks in
      let here : Checks c (files_for c fs) others other = subst (λ (k : Command). Checks k (files_for k fs) others other) same found in
      let one = one_check c (files_for c fs) bytes others status other checks here in
      (one.0, λ plain. one.1 (λ e. plain (workers, subst (λ (k : Command). Asks words k workers) e asks)))
