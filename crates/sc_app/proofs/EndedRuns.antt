-- A run that has ended came to the diagnostics of the rules in the whole graph.
use Rattle.std.proofs.Common.{◌≡◌, ℕ, ◌+◌, ◌<◌, ◌⊎◌, ◌↔◌, ◌&&◌, nat_lt, Bool, true, true≢false, not, IsTrue, List, [], length, inl, inr, sym, ap, ◌∙◌, subst, arith}
use Rattle.std.specs.List.{Contains, filter}
use Rattle.std.proofs.lemmas.Bool.{cases_Bool}
use Rattle.sg_base.specs.declared.scope.Scope.{Scope}
use Rattle.sg_base.specs.Graph.{Edge, GraphOf, IsGraph, HasDatum}
use Rattle.sg_base.specs.State.{State}
use Rattle.sg_base.proofs.Edges.{one_datum}
use Rattle.sg_base.proofs.Finite.{nothing_in, Contains-filter, Contains-map}
use Rattle.sg_core.specs.declared.phase.Phase.TheVariants.{Ended}
use Rattle.sg_core.specs.Core.{EndedWith, IsPhase, run, setting}
use Rattle.sg_headers.specs.Outcome.{Leaves}
use Rattle.sg_query.specs.declared.answer.Answer.{Answer}
use Rattle.sg_query.specs.declared.query.Query.{Query}
use Rattle.sg_query.specs.State.{IsSettled}
use Rattle.sg_query.proofs.Alike.{answer_over, done_with}
use Rattle.sg_query.proofs.Answering.{answers_are_one}
use Rattle.sg_reading.specs.Reading.{Gives, IsFunctional}
use Rattle.sg_reading.proofs.Readings.{Gives-ends, values_are_one}
use Rattle.sg_state.specs.Held.{HeldOf}
use Rattle.sg_strata.specs.Program.{Program, AnswersSettled, IsHeaderRow, IsPlain, IsQuiet, graph_with, state_with}
use Rattle.sg_strata.specs.Run.{IsMoment}
use Rattle.sg_strata.specs.Strata.{IsGreatest, lower}
use Rattle.sg_strata.proofs.Greatest.{state_with-agree}
use Rattle.sg_strata.proofs.Moments.{looks_alike}
use Rattle.sg_trace.specs.Entries.{HasEntry}
use Rattle.sg_trace.proofs.Fronts.{front_follows}
use Rattle.sg_unit.specs.declared.op.Op.TheVariants.{End}
use Rattle.sg_unit.specs.Run.{Setting, opened}
use Rattle.sg_unit.specs.Waiting.{IsStuck}
use Rattle.sg_unit.proofs.Steps.{opened_sound, run_sound}
use Rattle.sg_unit.proofs.Waiters.{contained_or, scope_or}
use Rattle.jv_diag.specs.Plain.{DiagOf}
use Rattle.jv_instance.specs.declared.datum.JavaDatum.{JavaDatum}
use Rattle.jv_instance.specs.declared.labels.TheConstants.{SIG}
use Rattle.jv_instance.specs.declared.pred.JavaPred.{JavaPred}
use Rattle.jv_instance.specs.Data.{is_wanted}
use Rattle.jv_layout.specs.Readers.{member_at, types_of}
use Rattle.jv_layout.specs.Scopes.{signature_of_member}
use Rattle.jv_layout.proofs.SoundLists.{from_image}
use Rattle.jv_names.specs.Bounds.{IsNameQuery}
use Rattle.jv_names.specs.Kinds.{asked_by, kind_at}
use Rattle.jv_names.specs.Law.{InGraph}
use Rattle.jv_names.specs.Replies.{Rule}
use Rattle.jv_header.specs.Law.{signatures_of}
use Rattle.jv_header.proofs.Programs.{plain_words, starts_at_none, words_have}
use Rattle.jv_unit.specs.Folder.{FolderOf, IsFolderOf}
use Rattle.jv_unit.specs.Plans.{signature_datum, unit_ending}
use Rattle.sc_app.specs.FolderGraph.{AddsSignatures, GivesSignature, IsSkeleton, IsWhole, every_type, headers_of}
use Rattle.sc_app.specs.FolderLaw.{EndedRunsReport, FolderRunsAreStuckByHeaders, FolderRunsLeaveGreatest, closed_in, roles_of}
use Rattle.sc_app.specs.FolderReport.{Rules}
use Rattle.sc_app.specs.FolderRun.{JavaCore, IsFolderRun, ruled, same_datum}
use Rattle.sc_app.proofs.EndedRules.{unit_ending_same}
use Rattle.sc_app.proofs.EndedSignatures.{came_to, has_signature, units_are}
use Rattle.sc_app.proofs.EndedSkeleton.{headers_look_away}
use Rattle.sc_app.proofs.EndedUnits.{dead_has_ended, end_entry, ended_with, entry_below}

-- ---- a greatest set depends on its types alone

module _ {Q D : Type 0} (p : Program Q D) (closed closed' : Scope → Bool) (row : Scope → List Scope) (agree : (s : Scope) → Contains p.types s → closed s ≡ closed' s) where
  pub greatest_agrees : IsGreatest p closed row → IsGreatest p closed' row
  greatest_agrees k = record {
    stratified = record {
      rank = k.stratified.rank;
      stands = λ s i m.
          subst (λ (h : State D). IsHeaderRow p h s (row s))
          (state_with-agree p (lower closed k.stratified.rank s) (lower closed' k.stratified.rank s) row (λ d j. ap (λ (b : Bool). b && nat_lt (k.stratified.rank d) (k.stratified.rank s)) (agree d j)))
          (k.stratified.stands s i (agree s i ∙ m));
    };
    greatest = λ other others st s i m. sym (agree s i) ∙ k.greatest other others st s i m;
  }

  graph_agrees : graph_with p closed row ≡ graph_with p closed' row
  graph_agrees = ap (λ (h : State D). h.graph) (state_with-agree p closed closed' row agree)

-- ---- a graph of a program with all types, and with signatures

answered_once : (g : GraphOf JavaDatum) → IsFunctional (InGraph g)
answered_once g q a b h k = answers_are_one JavaDatum g (asked_by q) a b h k

-- nothing blocks a query where nothing is open
done_settles : (g : GraphOf JavaDatum) (q : Query JavaPred) → IsSettled (done_with g) (asked_by q)
done_settles g q = inl ((λ s l b. nothing_in (s, l) b.4), (λ s b. nothing_in s b.4))

module _ (w : FolderOf) (folder : IsFolderOf w) (skeleton : GraphOf JavaDatum) (is_skeleton : IsSkeleton (ruled w) skeleton) (row : Scope → List Scope) (greatest : IsGreatest (headers_of (ruled w) skeleton) every_type row) where
  abbrev p : Program (Query JavaPred) JavaDatum
  p = headers_of (ruled w) skeleton

  -- the graph of the headers
  abbrev h : GraphOf JavaDatum
  h = graph_with p every_type row

  quiet : IsQuiet p
  quiet = headers_look_away w folder skeleton is_skeleton

  clear : (c : Scope) → Contains p.types c → IsTrue (every_type c) → (t : Scope) → Contains (row c) t → Contains p.signatures t → ⊥
  clear c i m =
      let stands = greatest.stratified.stands c i m in
      Gives-ends (λ ts. (t : Scope) → Contains ts t → Contains p.signatures t → ⊥) (AnswersSettled p (state_with p (lower every_type greatest.stratified.rank c) row)) (p.header c) (row c) stands.0 (quiet.gives c i) stands.1

  plain : (q : Query JavaPred) → IsNameQuery w.layout (length w.names) q → IsPlain p q
  plain q k = record {
    words = λ v i c. absurd (true≢false (sym (words_have (kind_at q.kind).words SIG v i c) ∙ plain_words q.kind k.kind k.plain));
    start = starts_at_none w.layout q.start k.start;
  }

  no_row_open : (s : Scope) (l : ℕ) → Contains (state_with p every_type row).open_rows (s, l) → ⊥
  no_row_open s l o =
      let at = Contains-map (λ (c : Scope). (c, p.super_label)) (filter (λ c. not (every_type c)) p.types) (s, l) o in
      let kept = Contains-filter (λ (c : Scope). not (every_type c)) p.types at.0 at.1 in
      true≢false (sym kept.1)

  -- a graph with the same edges, and the same data but for signatures
  module _ (g : GraphOf JavaDatum) (edges : g.edges ≡ h.edges) (given : (s : Scope) (d : JavaDatum) → (Contains p.signatures s → ⊥) → (HasDatum g s d) ↔ (HasDatum skeleton s d)) where
    moment : IsMoment p every_type row (done_with g)
    moment = record {
      edges = λ s l t n o. (
        subst (λ (es : List Edge). Contains es (record { from = s; label = l; to = t })) edges,
        subst (λ (es : List Edge). Contains es (record { from = s; label = l; to = t })) (sym edges),
      );
      open_there = λ s l o. absurd (no_row_open s l o);
      given = given;
      unset = λ s u. absurd (nothing_in s u);
    }

    -- answers queries of names as the graph of the headers
    pub answers_as_headers : (q : Query JavaPred) (a : Answer JavaDatum) → IsNameQuery w.layout (length w.names) q → InGraph g q a → InGraph h q a
    answers_as_headers q a k x =
        (answer_over (done_with g) (state_with p every_type row) (asked_by q) (looks_alike p quiet every_type row clear (done_with g) moment q (plain q k)) (done_settles g q) a).1 x

-- ---- the run

module _ (w : FolderOf) (c : JavaCore) (folder : IsFolderOf w) (ran : IsFolderRun w c) (ended : IsPhase (run is_wanted same_datum c) Ended) where
  abbrev z : Setting JavaDatum JavaPred
  z = setting is_wanted same_datum c

  -- the graph at its end
  abbrev g : GraphOf JavaDatum
  g = (run is_wanted same_datum c).held.graph

  is_graph : IsGraph g
  is_graph = (run_sound z (opened z) (opened_sound z ran.core.opens) c.log ran.core.runs).held.graph

  -- ---- its diagnostics

  rule_same : (u : ℕ) (x : List DiagOf) (qs : List (Query JavaPred)) → Gives (InGraph g) (unit_ending w u) x qs → Gives (InGraph g) (unit_ending (ruled w) u) x qs
  rule_same u x qs k = subst (λ (r : Rule (List DiagOf)). Gives (InGraph g) r x qs) (unit_ending_same w u) k

  -- some unit came to the diagnostic
  abbrev Came : DiagOf → Type 0
  Came d = (u : ℕ) × (x : List DiagOf) × EndedWith c.log u x × Contains x d

  came_from_rules : (d : DiagOf) → Came d → Rules (ruled w) g d
  came_from_rules d e =
      let u = e.0 in
      let x = e.1 in
      let entry : HasEntry u c.log (End x) = end_entry z ran.core.opens c.log ran.core.runs u x e.2 in
      let within : u < length w.layout.files + length w.layout.types = (let b = entry_below z ran.core.opens c.log ran.core.runs u (End x) entry in omega (arith, b, units_are w c folder ran)) in
      let k = came_to w c folder ran u within x entry in
      (u, within, (x, k.0, rule_same u x k.0 k.1, e.3))

  rules_came : (d : DiagOf) → Rules (ruled w) g d → Came d
  rules_came d r =
      let u = r.0 in
      let of = r.2 in
      let e = dead_has_ended z ran.core.opens c.log ran.core.runs u (let b = r.1 in omega (arith, b, units_are w c folder ran)) (ended u) in
      let k = came_to w c folder ran u r.1 e.0 e.1 in
      let same : of.0 ≡ e.0 = (values_are_one (InGraph g) (answered_once g) (unit_ending (ruled w) u) of.0 e.0 of.1 k.0 of.2 (rule_same u e.0 k.0 k.1)).0 in
      (u, e.0, ended_with z ran.core.opens c.log ran.core.runs u e.0 e.1, subst (λ (x : List DiagOf). Contains x d) same of.3)

  -- ---- its graph

  module _ (skeleton : GraphOf JavaDatum) (is_skeleton : IsSkeleton (ruled w) skeleton) (row : Scope → List Scope) (left : Leaves (headers_of (ruled w) skeleton) z (roles_of w.layout) (run is_wanted same_datum c) (closed_in c) row) (closed : (s : Scope) → Contains (types_of w.layout) s → closed_in c s ≡ true) where
    abbrev headers : Program (Query JavaPred) JavaDatum
    headers = headers_of (ruled w) skeleton

    abbrev header_graph : GraphOf JavaDatum
    header_graph = graph_with headers every_type row

    greatest : IsGreatest headers every_type row
    greatest = greatest_agrees headers (closed_in c) every_type row closed left.greatest

    edges : g.edges ≡ header_graph.edges
    edges = left.edges ∙ ap (λ (x : GraphOf JavaDatum). x.edges) (graph_agrees headers (closed_in c) every_type row closed)

    abbrev signature : ℕ → Scope
    signature m = signature_of_member w.layout m

    -- each member has its signature
    signed : (m : ℕ) → m < length w.layout.members → (d : JavaDatum) × HasDatum g (signature m) d × GivesSignature (ruled w) header_graph m d
    signed m within = has_signature w c folder ran ended header_graph (answers_as_headers w folder skeleton is_skeleton row greatest g edges left.given) m within

    -- a datum is the skeleton's, or a signature
    abbrev IsAdded : Scope → JavaDatum → Type 0
    IsAdded s d = (m : ℕ) × (m < length w.layout.members) × (s ≡ signature m) × GivesSignature (ruled w) header_graph m d

    datum_from : (s : Scope) (d : JavaDatum) → HasDatum g s d → HasDatum header_graph s d ⊎ IsAdded s d
    datum_from s d k =
        elim (contained_or scope_or (signatures_of w.layout) s) [
          | inl i ↦
              let at = from_image signature (length w.layout.members) s i in
              let has = signed at.0 at.1 in
              let same : has.0 ≡ d = one_datum g.given is_graph.data_rise (signature at.0) has.0 d has.1 (subst (λ (x : Scope). HasDatum g x d) at.2 k) in
              inr (at.0, at.1, at.2, subst (λ (x : JavaDatum). GivesSignature (ruled w) header_graph at.0 x) same has.2)
          | inr out ↦ inl ((left.given s d out).0 k)
        ]

    datum_to : (s : Scope) (d : JavaDatum) → HasDatum header_graph s d ⊎ IsAdded s d → HasDatum g s d
    datum_to s d (inl k) =
        let there : HasDatum z.opening.graph s d = subst (λ (l : List (Scope × JavaDatum)). Contains l (s, d)) (is_skeleton.given ∙ sym (ap (λ (o : HeldOf JavaDatum). o.graph.given) ran.opening)) k in
        (front_follows z ran.core.opens [] c.log ran.core.runs).extends.given s d there
    datum_to s d (inr k) =
        let has = signed k.0 k.1 in
        let mine = k.3 in
        let theirs = has.2 in
        let same : has.0 ≡ d = (values_are_one (InGraph header_graph) (answered_once header_graph) (signature_datum (ruled w) (member_at w.layout k.0).owner k.0) has.0 d theirs.0 mine.0 theirs.1 mine.1).0 in
        subst (λ (x : Scope). HasDatum g x d) (sym k.2) (subst (λ (x : JavaDatum). HasDatum g (signature k.0) x) same has.1)

    adds : AddsSignatures (ruled w) header_graph g
    adds = record { graph = is_graph; scopes = left.scopes; edges = edges; given = λ s d. (datum_from s d, datum_to s d) }

    pub whole : IsWhole (ruled w) g
    whole = record { skeleton = skeleton; is_skeleton = is_skeleton; row = row; greatest = greatest; signatures = adds }

-- where runs leave the greatest set, and are stuck by headers alone, each run that has ended came to the diagnostics of the rules
pub ended_runs_report : FolderRunsLeaveGreatest → FolderRunsAreStuckByHeaders → EndedRunsReport
ended_runs_report leave stuck w c folder ran ended =
    let left = leave w c folder ran in
    let closed : (s : Scope) → Contains (types_of w.layout) s → closed_in c s ≡ true =
    λ s i. elim (cases_Bool (closed_in c s)) [
      | inl b ↦ b
      | inr b ↦ let is : IsStuck (run is_wanted same_datum c) = (stuck w c folder ran).1 (s, i, b) in absurd (ended (is.0).0 (is.0).1)
    ] in (
      whole w c folder ran ended left.0 (left.2).0 left.1 (left.2).1 closed,
      λ d. (came_from_rules w c folder ran ended d, rules_came w c folder ran ended d),
    )
