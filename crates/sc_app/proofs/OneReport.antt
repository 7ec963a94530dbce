-- What is said of a type that waits is one diagnostic, and a folder has one report.
use Rattle.std.proofs.Common.{◌≡◌, ℕ, zero, suc, ◌<◌, List, [], ◌∷◌, ◌++◌, ◌↔◌, map, take, get_or, length, Bool, true, false, not, inl, inr, refl, sym, ap, ◌∙◌, subst, arith}
use Rattle.std.specs.Cmp.{on_total}
use Rattle.std.specs.List.{Contains, AllByRecursion, filter}
use Rattle.std.specs.Ordering.{on}
use Rattle.std.specs.declared.cmp.Ordering.{Ordering}
use Rattle.std.specs.declared.cmp.Ordering.TheVariants.{Less, Equal, Greater}
use Rattle.std.proofs.lemmas.Bool.{cases_lt}
use Rattle.sg_base.specs.declared.scope.Scope.{Scope}
use Rattle.sg_base.specs.Graph.{GraphOf, edge_cmp, edge_total}
use Rattle.sg_base.specs.List.{IsRising}
use Rattle.sg_base.specs.Scope.{scope_cmp, scope_total}
use Rattle.sg_base.specs.State.{State}
use Rattle.sg_base.proofs.Rising.{rising_one, turned}
use Rattle.sg_base.proofs.Scopes.{equal_scope}
use Rattle.sg_query.specs.declared.answer.Answer.{Answer}
use Rattle.sg_query.specs.declared.query.Query.{Query}
use Rattle.sg_reading.specs.Reading.{Reading, done, Gives, IsFunctional, and_then, each}
use Rattle.sg_reading.proofs.Readings.{Gives-no_need, Needs-same}
use Rattle.sg_reading.proofs.Sequences.{gives_in_turn}
use Rattle.sg_state.proofs.SoundOpenings.{scope_in}
use Rattle.sg_strata.specs.Program.{Program, AnswersSettled, IsNeeded, graph_with, state_with}
use Rattle.sg_strata.specs.Strata.{IsGreatest}
use Rattle.sg_strata.proofs.Greatest.{greatest_is_one, state_with-agree}
use Rattle.sg_strata.proofs.Ranks.{one_settled}
use Rattle.jv_diag.specs.Plain.{DiagOf, diagnostic}
use Rattle.jv_instance.specs.declared.datum.JavaDatum.{JavaDatum}
use Rattle.jv_instance.specs.declared.pred.JavaPred.{JavaPred}
use Rattle.jv_layout.specs.Folder.{LayoutOf}
use Rattle.jv_layout.specs.Readers.{file_of, types_of}
use Rattle.jv_layout.specs.Skeleton.{skeleton_of}
use Rattle.jv_layout.specs.Titles.{title_of}
use Rattle.jv_layout.proofs.SoundSkeletons.{skeletons_are_sound}
use Rattle.jv_names.specs.Written.{start_of}
use Rattle.jv_header.specs.Circular.{IsOpenReference, IsLeast}
use Rattle.jv_header.specs.Header.{header_reference}
use Rattle.jv_header.specs.Law.{IsOver}
use Rattle.jv_header.proofs.Programs.{are_programs}
use Rattle.jv_tree.specs.declared.name.Ident.{Ident}
use Rattle.jv_unit.specs.Folder.{FolderOf}
use Rattle.jv_unit.specs.Trees.{extends_of, implements_of}
use Rattle.sc_app.specs.FolderGraph.{IsSkeleton, AddsSignatures, IsWhole, decl_of, every_type, headers_of}
use Rattle.sc_app.specs.FolderReport.{Rules, SaysCircular, IsCircularLine, checked, circular, IsLaidOut, FoldersHaveOneReport, CircularLinesAreOne}

-- ---- the first open reference

module _ {Q A X U : Type 0} (R : Q → A → Type 0) (f : X → Reading Q A U) where
  -- where the rules for the first things of a list have values, so has each of them
  pub one_of_first : (xs : List X) (j i : ℕ) (x : X) → i < j → i < length xs → (vs : List U) (qs : List Q) → Gives R (each f (take j xs)) vs qs → (v : U) × (ps : List Q) × Gives R (f (get_or xs i x)) v ps
  one_of_first [] j i x h l vs qs g = absurd (omega (arith, l))
  one_of_first (y ∷ xs) zero i x h l vs qs g = absurd (omega (arith, h))
  one_of_first (y ∷ xs) (suc j) zero x h l vs qs g =
      let first = (gives_in_turn R (f y) (λ v. and_then (each f (take j xs)) (λ ws. done (v ∷ ws))) vs qs).0 g in
      (first.0, first.1, first.3)
  one_of_first (y ∷ xs) (suc j) (suc i) x h l vs qs g =
      let first = (gives_in_turn R (f y) (λ v. and_then (each f (take j xs)) (λ ws. done (v ∷ ws))) vs qs).0 g in
      let more = (gives_in_turn R (each f (take j xs)) (λ ws. done (first.0 ∷ ws)) vs first.2).0 first.4 in
      one_of_first xs j i x (omega (arith, h)) (omega (arith, l)) more.0 more.1 more.3

module _ (R : Query JavaPred → Answer JavaDatum → Type 0) (one : IsFunctional R) (l : LayoutOf) (c : Scope) (names : List (List Ident)) where
  -- all references before an open one are read
  none_before : (i j : ℕ) → i < j → IsOpenReference R l c names i → IsOpenReference R l c names j → ⊥
  none_before i j h a b =
      let r = one_of_first R (header_reference l c) names j i [] h a.within b.found b.queries b.before in
      Gives-no_need R one (header_reference l c (get_or names i [])) r.0 r.1 a.query r.2 a.needs

  pub open_is_one : (i j : ℕ) → IsOpenReference R l c names i → IsOpenReference R l c names j → i ≡ j
  open_is_one i j a b =
      elim (cases_lt i j) [
        | inl h ↦ absurd (none_before i j h a b)
        | inr h ↦ elim (cases_lt j i) [ inl k ↦ absurd (none_before j i k b a) | inr k ↦ omega (arith, h, k) ]
      ]

-- ---- the least type

least_at : (a b : Scope) (o : Ordering) → scope_cmp a b ≡ o → (scope_cmp a b ≡ Less → ⊥) → (scope_cmp b a ≡ Less → ⊥) → a ≡ b
least_at a b Less e m n = absurd (m e)
least_at a b Equal e m n = equal_scope a b e
least_at a b Greater e m n = absurd (n (turned scope_cmp scope_total b a e))

-- two lists of the same scopes have one least scope
least_is_one : (ss ts : List Scope) (a b : Scope) → ((s : Scope) → (Contains ss s) ↔ (Contains ts s)) → IsLeast ss a → IsLeast ts b → a ≡ b
least_is_one ss ts a b same x y = least_at a b (scope_cmp a b) refl (y.least a ((same a).0 x.there)) (x.least b ((same b).1 y.there))

-- ---- what is said of a type that waits

pub circular_lines_are_one : CircularLinesAreOne
circular_lines_are_one w g h s d e x y =
    let p : Program (Query JavaPred) JavaDatum = headers_of w g in
    let R : Query JavaPred → Answer JavaDatum → Type 0 = AnswersSettled p h in
    let query : x.query ≡ y.query = Needs-same R (one_settled p h) (p.header s) x.query y.query ((x.first).0, λ a k. (x.first).1 k.0) ((y.first).0, λ a k. (y.first).1 k.0) in
    let refs : List (List Ident) = extends_of (decl_of w s) ++ implements_of (decl_of w s) in
    let place : (x.says).place ≡ (y.says).place = open_is_one R (one_settled p h) w.layout s refs (x.says).place (y.says).place (x.says).open_reference (y.says).open_reference in
    let needed : (t : Scope) → (Contains x.needed t) ↔ (Contains y.needed t) =
    λ t. (
      (λ c. (y.needs t).1 (subst (λ (q : Query JavaPred). IsNeeded p h q t) query ((x.needs t).0 c))),
      (λ c. (x.needs t).1 (subst (λ (q : Query JavaPred). IsNeeded p h q t) (sym query) ((y.needs t).0 c))),
    ) in
    let other : (x.says).other ≡ (y.says).other = least_is_one x.needed y.needed (x.says).other (y.says).other needed (x.says).least (y.says).least in
    (x.says).line
    ∙ (ap (λ (i : ℕ). diagnostic (file_of w.layout s) (start_of (get_or refs i [])) 30 (title_of w.layout w.names s ∷ title_of w.layout w.names (x.says).other ∷ [])) place
    ∙ (ap (λ (t : Scope). diagnostic (file_of w.layout s) (start_of (get_or refs (y.says).place [])) 30 (title_of w.layout w.names s ∷ title_of w.layout w.names t ∷ [])) other ∙ sym (y.says).line))

-- ---- graphs

-- lists of pairs rise by their first parts as these do
rises_by : {K V : Type 0} (R : K → K → Ordering) (xs : List (K × V)) → IsRising R (map (λ p. p.0) xs) → IsRising (on (λ (p : K × V). p.0) R) xs
rises_by R [] h = tt
rises_by {K} {V} R (x ∷ xs) h = (all_by xs h.0, rises_by R xs h.1)
  where
    all_by : (ys : List (K × V)) → AllByRecursion (λ k. R x.0 k ≡ Less) (map (λ p. p.0) ys) → AllByRecursion (λ (y : K × V). R x.0 y.0 ≡ Less) ys
    all_by [] a = tt
    all_by (y ∷ ys) a = (a.0, all_by ys a.1)

module _ (w : FolderOf) where
  skeleton_is_one : (g h : GraphOf JavaDatum) → IsSkeleton w g → IsSkeleton w h → g ≡ h
  skeleton_is_one g h a b =
      let scopes : g.scopes ≡ h.scopes = a.scopes ∙ sym b.scopes in
      let given : g.given ≡ h.given = a.given ∙ sym b.given in
      let edges : g.edges ≡ h.edges =
      rising_one edge_cmp edge_total g.edges h.edges (a.graph).edges_rise (b.graph).edges_rise (λ e. ((λ c. (b.edges e).1 ((a.edges e).0 c)), (λ c. (a.edges e).1 ((b.edges e).0 c)))) in
      λ j. record { scopes = scopes j; edges = edges j; given = given j }

  signatures_are_one : (h g k : GraphOf JavaDatum) → AddsSignatures w h g → AddsSignatures w h k → g ≡ k
  signatures_are_one h g k a b =
      let scopes : g.scopes ≡ k.scopes = a.scopes ∙ sym b.scopes in
      let edges : g.edges ≡ k.edges = a.edges ∙ sym b.edges in
      let given : g.given ≡ k.given =
      rising_one (on (λ (p : Scope × JavaDatum). p.0) scope_cmp) (on_total (λ (p : Scope × JavaDatum). p.0) scope_total) g.given k.given (rises_by scope_cmp g.given (a.graph).data_rise) (rises_by scope_cmp k.given (b.graph).data_rise)
      (λ p. ((λ c. (b.given p.0 p.1).1 ((a.given p.0 p.1).0 c)), (λ c. (a.given p.0 p.1).1 ((b.given p.0 p.1).0 c)))) in
      λ j. record { scopes = scopes j; edges = edges j; given = given j }

  module _ (ok : IsLaidOut w) where
    pub is_over : (g : GraphOf JavaDatum) → IsSkeleton w g → IsOver w.layout g
    is_over g k = record {
      linked = ok.linked;
      graph = k.graph;
      scopes = λ s. subst (λ (xs : List Scope). (Contains xs s) ↔ (Contains (skeleton_of w.layout).scopes s)) (sym k.scopes) (scope_in (skeleton_of w.layout) (skeletons_are_sound w.layout ok.linked ok.few) s);
    }

    module _ (g : GraphOf JavaDatum) (k : IsSkeleton w g) (in_set in_set' : Scope → Bool) (row row' : Scope → List Scope) (a : IsGreatest (headers_of w g) in_set row) (b : IsGreatest (headers_of w g) in_set' row') where
      greatest_one : ((c : Scope) → Contains (types_of w.layout) c → in_set c ≡ in_set' c) × (graph_with (headers_of w g) in_set row ≡ graph_with (headers_of w g) in_set' row')
      greatest_one =
          greatest_is_one (Query JavaPred) JavaDatum (headers_of w g) in_set in_set' row row'
          (are_programs w.layout w.names (λ c. extends_of (decl_of w c)) (λ c. implements_of (decl_of w c)) g (is_over g k)) a b

      one_set : (c : Scope) → Contains (types_of w.layout) c → in_set c ≡ in_set' c
      one_set = greatest_one.0

      one_graph : graph_with (headers_of w g) in_set row ≡ graph_with (headers_of w g) in_set' row'
      one_graph = greatest_one.1

      one_state : state_with (headers_of w g) in_set row ≡ state_with (headers_of w g) in_set' row'
      one_state =
          let p : Program (Query JavaPred) JavaDatum = headers_of w g in
          let agree : state_with p in_set row ≡ state_with p in_set' row = state_with-agree p in_set in_set' row one_set in
          agree
          ∙ ap (λ (k : GraphOf JavaDatum). record { graph = k; open_rows = map (λ c. (c, p.super_label)) (filter (λ c. not (in_set' c)) p.types); unset = p.signatures }) (sym (ap (λ (s : State JavaDatum). s.graph) agree) ∙ one_graph)

    pub whole_is_one : (g h : GraphOf JavaDatum) → IsWhole w g → IsWhole w h → g ≡ h
    whole_is_one g h a b =
        let skeleton : b.skeleton ≡ a.skeleton = skeleton_is_one b.skeleton a.skeleton b.is_skeleton a.is_skeleton in
        let greatest : IsGreatest (headers_of w a.skeleton) every_type b.row = subst (λ (k : GraphOf JavaDatum). IsGreatest (headers_of w k) every_type b.row) skeleton b.greatest in
        let there : AddsSignatures w (graph_with (headers_of w a.skeleton) every_type b.row) h = subst (λ (k : GraphOf JavaDatum). AddsSignatures w (graph_with (headers_of w k) every_type b.row) h) skeleton b.signatures in
        let one : graph_with (headers_of w a.skeleton) every_type b.row ≡ graph_with (headers_of w a.skeleton) every_type a.row = sym (one_graph a.skeleton a.is_skeleton every_type every_type a.row b.row a.greatest greatest) in
        signatures_are_one (graph_with (headers_of w a.skeleton) every_type a.row) g h a.signatures (subst (λ (k : GraphOf JavaDatum). AddsSignatures w k h) one there)

    -- not all types are outside of none
    pub never_both : (g h : GraphOf JavaDatum) → IsWhole w g → (in_set : Scope → Bool) (row : Scope → List Scope) → IsSkeleton w h → IsGreatest (headers_of w h) in_set row → (c : Scope) → Contains (types_of w.layout) c → in_set c ≡ false → ⊥
    never_both g h a in_set row k b c i out =
        let skeleton : h ≡ a.skeleton = skeleton_is_one h a.skeleton k a.is_skeleton in
        let greatest : IsGreatest (headers_of w a.skeleton) in_set row = subst (λ (k : GraphOf JavaDatum). IsGreatest (headers_of w k) in_set row) skeleton b in
        let e : true ≡ false = one_set a.skeleton a.is_skeleton every_type in_set a.row row a.greatest greatest c i ∙ out in
        cc

    -- what is said in one greatest set is said in the other
    line_moves : (g h : GraphOf JavaDatum) (in_set in_set' : Scope → Bool) (row row' : Scope → List Scope) → IsSkeleton w g → IsSkeleton w h → IsGreatest (headers_of w g) in_set row → IsGreatest (headers_of w h) in_set' row'
        → (d : DiagOf) → IsCircularLine w g in_set row d → IsCircularLine w h in_set' row' d
    line_moves g h in_set in_set' row row' k m a b d (c, i, out, says) =
        let skeleton : h ≡ g = skeleton_is_one h g m k in
        let there : IsGreatest (headers_of w g) in_set' row' = subst (λ (k : GraphOf JavaDatum). IsGreatest (headers_of w k) in_set' row') skeleton b in
        let here : SaysCircular w g (state_with (headers_of w g) in_set' row') c d = subst (λ (s : State JavaDatum). SaysCircular w g s c d) (one_state g k in_set in_set' row row' a there) says in
        (c, i, sym (one_set g k in_set in_set' row row' a there c i) ∙ out, subst (λ (k : GraphOf JavaDatum). SaysCircular w k (state_with (headers_of w k) in_set' row') c d) (sym skeleton) here)

-- ---- the report

pub one_report : FoldersHaveOneReport
one_report w ds es ok (checked g a x) (checked h b y) d =
    let same : g ≡ h = whole_is_one w ok g h a b in (
      (λ c. (y d).1 (subst (λ (k : GraphOf JavaDatum). Rules w k d) same ((x d).0 c))),
      (λ c. (x d).1 (subst (λ (k : GraphOf JavaDatum). Rules w k d) (sym same) ((y d).0 c))),
    )
one_report w ds es ok (checked g a x) (circular h in_set row k b c i out y) d = absurd (never_both w ok g h a in_set row k b c i out)
one_report w ds es ok (circular h in_set row k b c i out y) (checked g a x) d = absurd (never_both w ok g h a in_set row k b c i out)
one_report w ds es ok (circular g in_set row k a c i out x) (circular h in_set' row' m b c' i' out' y) d = (
  (λ z. (y d).1 (line_moves w ok g h in_set in_set' row row' k m a b d ((x d).0 z))),
  (λ z. (x d).1 (line_moves w ok h g in_set' in_set row' row m k b a d ((y d).0 z))),
)
