-- A run of orderly units that is over leaves the greatest stratified set of headers.
use Rattle.std.proofs.Common.{◌≡◌, ℕ, ◌<◌, ◌≤◌, ◌+◌, List, [], ◌∷◌, ◌++◌, ◌↔◌, Option, Some, None, Bool, true, false, not, nat_lt, ◌&&◌, IsTrue, inl, inr, refl, sym, ap, ◌∙◌, subst, arith, append_assoc, length, take, drop, length-append, take-append-drop}
use Rattle.std.proofs.lemmas.Bool.{cases_Bool}
use Rattle.std.proofs.lemmas.Bool.Decides.{nat_tests}
use Rattle.std.proofs.lemmas.List.{append-nil}
use Rattle.std.specs.List.{Contains, filter, flat_map}
use Rattle.sg_base.specs.declared.scope.Scope.{Scope}
use Rattle.sg_base.specs.Graph.{IsGraph, HasScope, HasEdge, HasDatum, edge_cmp, edge_total}
use Rattle.sg_base.specs.State.{State, IsOpen}
use Rattle.sg_base.specs.Scope.{scope_cmp, scope_total}
use Rattle.sg_base.proofs.Rising.{rising_one}
use Rattle.sg_base.proofs.Finite.{Contains-map, Contains-filter}
use Rattle.sg_query.specs.declared.answer.Answer.{Answer}
use Rattle.sg_query.specs.declared.query.Query.{Query}
use Rattle.sg_query.specs.Query.{Asked}
use Rattle.sg_query.specs.State.{IsSettled}
use Rattle.sg_query.proofs.Answering.{answers_are_one}
use Rattle.sg_query.proofs.Settling.{settled_stay_settled}
use Rattle.sg_reading.specs.Reading.{Gives, Asks}
use Rattle.sg_reading.proofs.Readings.{Gives-more, Gives-ends, Gives-no_need, Asks-more, Asks-kind}
use Rattle.sg_state.specs.declared.need.Need.{Need}
use Rattle.sg_state.specs.declared.need.Need.TheVariants.{Row, Datum}
use Rattle.sg_state.specs.Held.{HoldsRow, state_of}
use Rattle.sg_state.proofs.Extending.{open_from, open_to, unset_from}
use Rattle.sg_unit.specs.declared.entry.Entry.{Entry}
use Rattle.sg_unit.specs.declared.op.Op.{Op}
use Rattle.sg_unit.specs.declared.op.Op.TheVariants.{AddEdge, CloseRow, Ask}
use Rattle.sg_unit.specs.declared.reply.Reply.{Reply}
use Rattle.sg_unit.specs.Run.{Setting, Asking, open_ask, asked_by, opened, run_of, IsFor}
use Rattle.sg_unit.specs.Step.{May, IsRun}
use Rattle.sg_unit.specs.Trace.{Past, with_last, handed}
use Rattle.sg_unit.specs.Waiting.{Blocks, WaitsOn}
use Rattle.sg_unit.proofs.Waiters.{IsWaitedRun, run_waited, opened_waited}
use Rattle.sg_strata.specs.Program.{Program, IsPlain, row_edges, state_with, graph_with, IsNeeded}
use Rattle.sg_strata.specs.Run.{IsMoment, AnsweredBy, closed_before, WaitsFor, IsHeaderRun}
use Rattle.sg_strata.proofs.Growing.{edge_cases, edge_old, edge_new, is_open}
use Rattle.sg_strata.proofs.Moments.{closed_are_greatest, waiting_are_open, end_clear}
use Rattle.sg_strata.proofs.Ranks.{and_left, and_right}
use Rattle.sg_strata.proofs.Sets.{set_rises, equal_edge}
use Rattle.sg_headers.specs.Law.{ClosedHeadersAreGreatest}
use Rattle.sg_unit.specs.Orderly.{GaveAfter}
use Rattle.sg_headers.specs.Orderly.{AnswersTold, HasWholeRow, MayReadHeader, MayGiveImports}
use Rattle.sg_headers.specs.Run.{IsOver}
use Rattle.sg_headers.specs.Outcome.{is_closed, Leaves}
use Rattle.sg_headers.specs.Setting.{Roles}
use Rattle.sg_trace.proofs.Fronts.{state_at, asked_run, front_follows, at_front, take_less, take_whole}
use Rattle.sg_trace.specs.Entries.{IsGiven, HasEntry, WasGivenUp}
use Rattle.sg_trace.specs.Tells.{trace_of, TellsAsk, WasSettled}
use Rattle.sg_trace.proofs.Holding.{held_before, datum_held_before, scope_before, edge_origin, added_edge, given_up, closed_stays}
use Rattle.sg_headers.proofs.Rows.{holder_of, no_holder}
use Rattle.sg_headers.proofs.Readers.{IsKnownRun, known, Closing, step_at, run_at, reader_may, importer_may, none_makes, told, answered_by, last_answer, one_row, row_at, moment_at, closed_by}
use Rattle.sg_trace.proofs.Traces.{trace_tells, did_entry}

-- ---- open rows of a program's state

module _ {Q D : Type 0} (p : Program Q D) (closed : Scope → Bool) (row : Scope → List Scope) where
  -- an open row of a program's state is that of a type
  pub open_type : (s : Scope) (l : ℕ) → IsOpen (state_with p closed row) s l → Contains p.types s × (l ≡ p.super_label) × (closed s ≡ false)
  open_type s l o =
      let at = Contains-map (λ (c : Scope). (c, p.super_label)) (filter (λ c. not (closed c)) p.types) (s, l) o in
      let kept = Contains-filter (λ c. not (closed c)) p.types at.0 at.1 in
      let here : at.0 ≡ s = ap (λ (x : Scope × ℕ). x.0) (sym at.2) in (
        subst (λ (c : Scope). Contains p.types c) here kept.0,
        ap (λ (x : Scope × ℕ). x.1) at.2,
        subst (λ (c : Scope). closed c ≡ false) here (is_false (closed at.0) kept.1),
      )
    where
      is_false : (b : Bool) → not b ≡ true → b ≡ false
      is_false true e = absurd (cc)
      is_false false e = refl

  pub type_open : (s : Scope) (l : ℕ) → Contains p.types s → l ≡ p.super_label → closed s ≡ false → IsOpen (state_with p closed row) s l
  type_open s l i e f = subst (λ (n : ℕ). IsOpen (state_with p closed row) s n) (sym e) (is_open p closed row s i f)

-- what a unit with an open ask gave last
asking : {I R D P : Type 0} (a : Asking P) (past : Past I R D P) (last : Option (Op I R D P)) (y : Option (Reply I D P)) (q : Query P) (m : ℕ) → TellsAsk a last y → a ≡ open_ask q m → (let o : Op I R D P = Ask q in last ≡ Some o) × (with_last past last y ≡ past)
asking a past None y q m t e = absurd (let f = sym t ∙ e in cc)
asking a past (Some op) (Some w) q m t e = absurd (let f = sym t ∙ e in cc)
asking {I} {R} {D} {P} a past (Some op) None q m t e =
    let here : q ≡ t.0 = subst (λ (b : Asking P). IsFor b t.0) e t.2 in
    (ap (λ (o : Op I R D P). Some o) (t.1 ∙ ap (λ (x : Query P). let o : Op I R D P = Ask x in o) (sym here)), refl)

same_ask : {P : Type 0} (a : Asking P) (q x : Query P) (m n : ℕ) → a ≡ open_ask q m → a ≡ open_ask x n → q ≡ x
same_ask a q x m n e f = let g : open_ask q m ≡ open_ask x n = sym e ∙ f in cc

module _ {I R Q D P : Type 0} (p : Program Q D) (z : Setting D P) (k : Roles Q P) (log : List (Entry I R D P)) (h : IsKnownRun p z k log) where
  abbrev pub K : Scope → Bool
  K c = is_closed (run_of z log).held p.super_label c

  abbrev pub row : Scope → List Scope
  row = row_at p z k log h

  abbrev moment : Scope → ℕ
  moment = moment_at p z k log h

  abbrev pub at : ℕ → State D
  at n = state_at z log n

  abbrev pub by : ℕ → Scope → Bool
  by n = closed_before K moment n

  split : (n : ℕ) → log ≡ take n log ++ drop n log
  split n = sym (take-append-drop n log)

  pub whole : log ≡ log ++ []
  whole = sym (append-nil log)

  pub last_is : at (length log) ≡ state_of (run_of z log).held
  last_is = ap (λ (l : List (Entry I R D P)). state_of (run_of z l).held) (take_whole log)

  -- who holds a row held it from the start
  held_first : (front rest : List (Entry I R D P)) → log ≡ front ++ rest → (u : ℕ) (s : Scope) (l : ℕ) → HoldsRow (run_of z front).held u s l → HoldsRow z.opening u s l
  held_first front rest same u s l c = held_before z h.setting.opening log h.run (none_makes p z k log h) [] front rest same u s l c

  -- ---- rows of types

  still_open : (n : ℕ) (c : Scope) → Contains p.types c → by n c ≡ false → IsOpen (at n) c p.super_label
  still_open n c i e =
      elim (cases_Bool (K c)) [
        | inl m ↦
            let x = closed_by p z k log h c i m in
            let late : n ≤ length (x.0).before = (let b = not_before (K c) (moment c) n m e in let same = x.2 in omega (arith, b, same)) in
            let more = take_less n (length (x.0).before) log late in
            let at_then : (x.0).before ≡ take n log ++ more.0 = sym (at_front z h.setting.opening log (x.0).before ((x.0).entry ∷ (x.0).behind) (x.0).split) ∙ more.1 in
            let all : log ≡ take n log ++ (more.0 ++ (x.0).entry ∷ (x.0).behind) =
            (x.0).split ∙ (ap (λ (l : List (Entry I R D P)). l ++ (x.0).entry ∷ (x.0).behind) at_then ∙ append_assoc (take n log) more.0 ((x.0).entry ∷ (x.0).behind)) in
            open_to (run_of z (take n log)).held (k.reader c) c p.super_label
            (held_before z h.setting.opening log h.run (none_makes p z k log h) (take n log) more.0 ((x.0).entry ∷ (x.0).behind) all (k.reader c) c p.super_label
            (subst (λ (l : List (Entry I R D P)). HoldsRow (run_of z l).held (k.reader c) c p.super_label) at_then (x.0).held_then))
        | inr f ↦
            let u = holder_of (run_of z log).held p.super_label c f in
            let all : log ≡ take n log ++ (drop n log ++ []) = split n ∙ ap (λ (l : List (Entry I R D P)). take n log ++ l) (sym (append-nil (drop n log))) in
            open_to (run_of z (take n log)).held u.0 c p.super_label
            (held_before z h.setting.opening log h.run (none_makes p z k log h) (take n log) (drop n log) [] all u.0 c p.super_label
            (subst (λ (l : List (Entry I R D P)). HoldsRow (run_of z l).held u.0 c p.super_label) (split n) u.1))
      ]
    where
      not_before : (b : Bool) (m n : ℕ) → b ≡ true → (b && nat_lt m n) ≡ false → n ≤ m
      not_before b m n t e = least m n (sym (ap (λ (x : Bool). x && nat_lt m n) t) ∙ e)
        where
          least : (m n : ℕ) → nat_lt m n ≡ false → n ≤ m
          least m n e = grind (arith, nat_tests)

  closed_then : (n : ℕ) (c : Scope) → Contains p.types c → (IsOpen (at n) c p.super_label → ⊥) → IsTrue (by n c)
  closed_then n c i never = elim (cases_Bool (by n c)) [ inl b ↦ b | inr f ↦ absurd (never (still_open n c i f)) ]

  -- ---- edges

  module _ (front rest : List (Entry I R D P)) (same : log ≡ front ++ rest) (closed : Scope → Bool) (shut : (c : Scope) → IsTrue (closed c) → IsTrue (K c)) where
    abbrev g0 : List (Entry I R D P)
    g0 = front

    -- an edge of a row that is the skeleton's, or that of a closed type
    edge_forth : (s : Scope) (l : ℕ) (t : Scope) → (Contains p.types s → l ≡ p.super_label → HasEntry (k.reader s) front (AddEdge s l t) → IsTrue (closed s)) → HasEdge (run_of z front).held.graph s l t → HasEdge (graph_with p closed row) s l t
    edge_forth s l t is_shut e =
        elim (edge_origin z h.setting.opening log h.run front rest same s l t e) [
          | inl old ↦ edge_old p closed row s l t (h.setting.edges s l t old)
          | inr added ↦
              let o : Op I R D P = AddEdge s l t in
              let a : HasEntry added.0 front o = added.1 in
              let all : log ≡ a.before ++ a.entry ∷ (a.behind ++ rest) = same ∙ (ap (λ (x : List (Entry I R D P)). x ++ rest) a.split ∙ append_assoc a.before (a.entry ∷ a.behind) rest) in
              let may : May z (run_of z a.before) a.entry.unit o = subst (λ (x : Op I R D P). May z (run_of z a.before) a.entry.unit x) a.given ((step_at p z k log h a.before a.entry (a.behind ++ rest) all).1).may in
              let first : HoldsRow z.opening a.entry.unit s l = held_first a.before (a.entry ∷ (a.behind ++ rest)) all a.entry.unit s l (may.1).1 in
              let given : IsGiven a.entry.op = subst (λ (x : Op I R D P). IsGiven x) (sym a.given) tt in
              elim (h.setting.rows a.entry.unit s l first) [
                | inl r ↦
                    let m : IsTrue (closed s) = is_shut r.0 r.1 (record { before = a.before; entry = a.entry; behind = a.behind; split = a.split; own = r.2; given = a.given }) in
                    let x = closed_by p z k log h s r.0 (shut s m) in
                    let was : MayReadHeader k.query (p.header s) s p.super_label (handed (trace_of (k.reader s) a.before)) o =
                    subst (λ (x : Op I R D P). MayReadHeader k.query (p.header s) s p.super_label (handed (trace_of (k.reader s) a.before)) x) a.given
                    (reader_may p z k log h s r.0 a.before a.entry (a.behind ++ rest) all r.2 given) in
                    let w = was refl r.1 in
                    let one : w.0 ≡ (x.0).row =
                    one_row p z k log h s (k.reader s) a.before (a.entry ∷ (a.behind ++ rest)) (x.0).before ((x.0).entry ∷ (x.0).behind) all (x.0).split w.0 (x.0).row (w.1).0 (x.0).queries (w.1).1 (x.0).gives in
                    edge_new p closed row s l t (record { type = r.0; has_row = m; label = r.1; above = subst (λ (ts : List Scope). Contains ts t) (one ∙ sym x.1) w.2 })
                | inr i ↦
                    edge_old p closed row s l t
                    (subst (λ (x : Op I R D P). MayGiveImports p z a.entry.unit (handed (trace_of a.entry.unit a.before)) x) a.given
                    (importer_may p z k log h a.entry.unit i a.before a.entry (a.behind ++ rest) all refl given))
              ]
        ]

    later_edge : (start more : List (Entry I R D P)) → front ≡ start ++ more → (s : Scope) (l : ℕ) (t : Scope) → HasEdge (run_of z start).held.graph s l t → HasEdge (run_of z front).held.graph s l t
    later_edge start more e s l t c =
        subst (λ (x : List (Entry I R D P)). HasEdge (run_of z x).held.graph s l t) (sym e)
        ((front_follows z h.setting.opening start more (subst (λ (x : List (Entry I R D P)). IsRun z x) e (run_at p z k log h front rest same))).extends.edges s l t c)

    imported_edge : (u : ℕ) → IsTrue (k.imports u) → (s : Scope) (l : ℕ) (t : Scope) → HasEdge p.skeleton s l t → HoldsRow z.opening u s l → WasGivenUp z u front s l → HasEdge (run_of z front).held.graph s l t
    imported_edge u i s l t e holds g =
        let all : log ≡ g.before ++ g.entry ∷ (g.behind ++ rest) = same ∙ (ap (λ (x : List (Entry I R D P)). x ++ rest) g.split ∙ append_assoc g.before (g.entry ∷ g.behind) rest) in
        let complete : HasWholeRow p z (handed (trace_of u g.before)) s l = elim g.gives_up [
          | inl closes ↦
              subst (λ (x : Op I R D P). MayGiveImports p z u (handed (trace_of u g.before)) x) closes
              (importer_may p z k log h u i g.before g.entry (g.behind ++ rest) all g.own (subst (λ (x : Op I R D P). IsGiven x) (sym closes) tt)) holds
          | inr ends ↦
              subst (λ (x : Op I R D P). MayGiveImports p z u (handed (trace_of u g.before)) x) ends.1
              (importer_may p z k log h u i g.before g.entry (g.behind ++ rest) all g.own (subst (λ (x : Op I R D P). IsGiven x) (sym ends.1) tt)) s l holds
        ] in
        elim (complete t e) [
          | inl old ↦ later_edge [] front refl s l t old
          | inr did ↦
              let entry : HasEntry u g.before (AddEdge s l t) = did_entry z h.setting.opening log h.run u g.before (g.entry ∷ (g.behind ++ rest)) all (AddEdge s l t) did.0 tt did.1 in
              later_edge g.before (g.entry ∷ g.behind) g.split s l t
              (added_edge z h.setting.opening log h.run u g.before (g.entry ∷ (g.behind ++ rest)) all s l t entry)
        ]

    edge_back : (s : Scope) (l : ℕ) (t : Scope) → ((u : ℕ) → IsTrue (k.imports u) → HoldsRow (run_of z front).held u s l → ⊥) → ((x : Closing p z k log h s) → IsTrue (closed s) → moment s ≡ length x.before → (more : List (Entry I R D P)) × (front ≡ x.before ++ more)) → HasEdge (graph_with p closed row) s l t → HasEdge (run_of z front).held.graph s l t
    edge_back s l t none early e =
        elim (edge_cases p closed row s l t e) [
          | inl old ↦ elim (h.setting.imported s l t old) [
            | inl first ↦ later_edge [] front refl s l t first
            | inr r ↦ elim (given_up z h.setting.opening log h.run front rest same r.0 s l r.2) [
              | inl held ↦ absurd (none r.0 r.1 held)
              | inr g ↦ imported_edge r.0 r.1 s l t old r.2 g
            ]
          ]
          | inr new ↦
              let x = closed_by p z k log h s new.type (shut s new.has_row) in
              let did = (x.0).all t (subst (λ (ts : List Scope). Contains ts t) x.1 new.above) in
              let entry : HasEntry (k.reader s) (x.0).before (AddEdge s p.super_label t) =
              did_entry z h.setting.opening log h.run (k.reader s) (x.0).before ((x.0).entry ∷ (x.0).behind) (x.0).split (AddEdge s p.super_label t) did.0 tt did.1 in
              let then_there : HasEdge (run_of z (x.0).before).held.graph s p.super_label t =
              added_edge z h.setting.opening log h.run (k.reader s) (x.0).before ((x.0).entry ∷ (x.0).behind) (x.0).split s p.super_label t entry in
              let more = early x.0 new.has_row x.2 in
              subst (λ (n : ℕ). HasEdge (run_of z front).held.graph s n t) (sym new.label) (later_edge (x.0).before more.0 more.1 s p.super_label t then_there)
        ]

  -- ---- moments

  pub at_moment : (n : ℕ) → IsMoment p (by n) row (at n)
  at_moment n = record {
    edges = λ s l t plain never. (
      edge_forth (take n log) (drop n log) (split n) (by n) (λ c m. and_left (K c) (nat_lt (moment c) n) m) s l t
          (λ i e a. closed_then n s i (λ o. never (subst (λ (m : ℕ). IsOpen (at n) s m) (sym e) o))),
      edge_back (take n log) (drop n log) (split n) (by n) (λ c m. and_left (K c) (nat_lt (moment c) n) m) s l t
          (λ u i held. never (open_to (run_of z (take n log)).held u s l held))
          (λ x m e. early n x.before (x.entry ∷ x.behind) x.split (and_right (K s) (nat_lt (moment s) n) m) e),
    );
    open_there = λ s l o.
        let t = open_type p (by n) row s l o in
        subst (λ (m : ℕ). IsOpen (at n) s m) (sym t.1) (still_open n s t.0 t.2);
    given = λ s d out. (
      (λ g. elim ((front_follows z h.setting.opening [] (take n log) (run_at p z k log h (take n log) (drop n log) (split n))).extends.further_given s d g) [
        | inl old ↦ subst (λ (x : List (Scope × D)). Contains x (s, d)) h.setting.given old
        | inr new ↦ elim new [
          | inl free ↦ let u = unset_from z.opening s free in absurd (out (h.setting.unset u.0 s u.1))
          | inr none ↦
              let there : HasScope (run_of z (take n log)).held.graph s = (((asked_run z h.setting.opening (take n log) (run_at p z k log h (take n log) (drop n log) (split n))).sound).held).graph.placed s d g in
              absurd (none (scope_before z h.setting.opening log h.run (none_makes p z k log h) [] (take n log) (drop n log) (split n) s there))
        ]
      ]),
      (λ g. (front_follows z h.setting.opening [] (take n log) (run_at p z k log h (take n log) (drop n log) (split n))).extends.given s d (subst (λ (x : List (Scope × D)). Contains x (s, d)) (sym h.setting.given) g)),
    );
    unset = λ s free.
        let u = unset_from (run_of z (take n log)).held s free in
        h.setting.unset u.0 s (datum_held_before z h.setting.opening log h.run (none_makes p z k log h) [] (take n log) (drop n log) (split n) u.0 s u.1);
  }
    where
      early : (n : ℕ) (before rest : List (Entry I R D P)) → log ≡ before ++ rest → {m : ℕ} → IsTrue (nat_lt m n) → m ≡ length before → (more : List (Entry I R D P)) × (take n log ≡ before ++ more)
      early n before rest same {m} lt e =
          let less : length before ≤ n = (let b = below m n lt in omega (arith, b, e)) in
          let k = take_less (length before) n log less in
          (k.0, k.1 ∙ ap (λ (x : List (Entry I R D P)). x ++ k.0) (at_front z h.setting.opening log before rest same))
        where
          below : (m n : ℕ) → IsTrue (nat_lt m n) → m < n
          below m n e = grind (arith, nat_tests)

  read_at : (c : Scope) → Contains p.types c → IsTrue (K c) → (qs : List Q) × Gives (AnsweredBy p at (moment c)) (p.header c) (row c) qs
  read_at c i m =
      let x = closed_by p z k log h c i m in
      let then_read : Gives (AnsweredBy p at (length (x.0).before)) (p.header c) (x.0).row (x.0).queries =
      Gives-more (AnswersTold k.query (handed (trace_of (k.reader c) (x.0).before))) (AnsweredBy p at (length (x.0).before)) (p.header c) (x.0).row (x.0).queries
      (λ q a j t. answered_by p z k log h (x.0).before ((x.0).entry ∷ (x.0).behind) (x.0).split (length (x.0).before) (omega arith) q a (told p z k log h (k.reader c) (x.0).before ((x.0).entry ∷ (x.0).behind) (x.0).split q a t))
      (x.0).gives in
      ((x.0).queries, subst (λ (n : ℕ). Gives (AnsweredBy p at n) (p.header c) (row c) (x.0).queries) (sym x.2) (subst (λ (ts : List Scope). Gives (AnsweredBy p at (length (x.0).before)) (p.header c) ts (x.0).queries) (sym x.1) then_read))

  -- ---- the end

  module _ (over : IsOver (run_of z log)) where
    pub waited : IsWaitedRun z (run_of z log)
    waited = run_waited z (opened z) (opened_waited z h.setting.opening) log h.run

    -- who still holds a row waits
    holder_waits : (u : ℕ) (s : Scope) (l : ℕ) → HoldsRow (run_of z log).held u s l → IsTrue ((run_of z log).waits u)
    holder_waits u s l c = elim over [ inl none ↦ absurd (none u (waited.row_live u s l c)) | inr stuck ↦ stuck.1 u (waited.row_live u s l c) ]

    -- what a unit asks that waits
    pub last_ask : (u : ℕ) (q : Query P) (m : ℕ) → (run_of z log).asks u ≡ open_ask q m → GaveAfter (trace_of u log).past (trace_of u log).last (handed (trace_of u log)) (Ask q)
    last_ask u q m e =
        let a = asking ((run_of z log).asks u) (trace_of u log).past (trace_of u log).last (trace_of u log).reply q m (trace_tells z u log h.run) e in
        inl (sym a.1, a.0)

    -- a unit of imports that still holds a row does not wait
    importers_go_on : (u : ℕ) → IsTrue (k.imports u) → (s : Scope) (l : ℕ) → HoldsRow (run_of z log).held u s l → ⊥
    importers_go_on u i s l holds =
        let o = waited.waiting u (holder_waits u s l holds) in
        elim (h.orderly.imports u i (handed (trace_of u log)) (Ask o.query) (last_ask u o.query o.count o.asks) s l (held_first log [] whole u s l holds)) [
          | inl did ↦
              let entry : HasEntry u log (CloseRow s l) = did_entry z h.setting.opening log h.run u log [] whole (CloseRow s l) did.0 tt did.1 in
              closed_stays z h.setting.opening log h.run (none_makes p z k log h) u log [] whole s l entry holds
          | inr first ↦
              let there : HasScope (run_of z log).held.graph o.query.start = waited.asked.starts u o.query (subst (λ (a : Asking P). IsFor a o.query) (sym o.asks) refl) in
              let start : HasScope z.opening.graph o.query.start = scope_before z h.setting.opening log h.run (none_makes p z k log h) [] log [] whole o.query.start there in
              o.unsettled (settled_stay_settled D (state_of z.opening) (state_of (run_of z log).held) (asked_by z o.query) ((h.setting.opening).held).graph start (front_follows z h.setting.opening [] log h.run) first).0
        ]

    -- a row that is open at the end is that of a type, held by its reader
    pub open_last : (u : ℕ) (s : Scope) (l : ℕ) → HoldsRow (run_of z log).held u s l → Contains p.types s × (l ≡ p.super_label) × (u ≡ k.reader s) × (K s ≡ false)
    open_last u s l c =
        elim (h.setting.rows u s l (held_first log [] whole u s l c)) [
          | inl r ↦ (
            r.0,
            r.1,
            r.2,
            elim (cases_Bool (K s)) [
              | inl m ↦ absurd (no_holder (run_of z log).held p.super_label s m u (subst (λ (n : ℕ). HoldsRow (run_of z log).held u s n) r.1 c))
              | inr f ↦ f
            ],
          )
          | inr i ↦ absurd (importers_go_on u i s l c)
        ]

    -- the reader of a type whose row is open waits in its header
    pub record Waiting (c : Scope) : Type 0 where
      pub waits : IsTrue ((run_of z log).waits (k.reader c))
      pub query : Q
      pub count : ℕ
      pub asks : (run_of z log).asks (k.reader c) ≡ open_ask (k.query query) count
      pub comes : Asks (AnswersTold k.query (handed (trace_of (k.reader c) log))) (p.header c) query
      pub unsettled : IsSettled (state_of (run_of z log).held) (asked_by z (k.query query)) → ⊥

    pub waiting : (c : Scope) → Contains p.types c → K c ≡ false → Waiting c
    waiting c i f =
        let u = holder_of (run_of z log).held p.super_label c f in
        let own : u.0 ≡ k.reader c = (open_last u.0 c p.super_label u.1).2 in
        let holds : HoldsRow (run_of z log).held (k.reader c) c p.super_label = subst (λ (n : ℕ). HoldsRow (run_of z log).held n c p.super_label) own u.1 in
        let w : IsTrue ((run_of z log).waits (k.reader c)) = holder_waits (k.reader c) c p.super_label holds in
        let o = waited.waiting (k.reader c) w in
        let may : MayReadHeader k.query (p.header c) c p.super_label (handed (trace_of (k.reader c) log)) (Ask o.query) =
        h.orderly.types c i (handed (trace_of (k.reader c) log)) (Ask o.query) (last_ask (k.reader c) o.query o.count o.asks) in
        let x = may (λ did. closed_stays z h.setting.opening log h.run (none_makes p z k log h) (k.reader c) log [] whole c p.super_label (did_entry z h.setting.opening log h.run (k.reader c) log [] whole (CloseRow c p.super_label) did.0 tt did.1) holds) in
        record {
          waits = w;
          query = x.0;
          count = o.count;
          asks = o.asks ∙ ap (λ (q : Query P). open_ask q o.count) (sym x.1);
          comes = (x.2).0;
          unsettled = λ s. o.unsettled (subst (λ (q : Query P). IsSettled (state_of (run_of z log).held) (asked_by z q)) x.1 s);
        }

    waits_for : (c : Scope) (w : Waiting c) → WaitsFor p at (length log) c w.query
    waits_for c w = (
      Asks-more (AnswersTold k.query (handed (trace_of (k.reader c) log))) (AnsweredBy p at (length log)) (p.header c) w.query
          (λ q a t. answered_by p z k log h log [] whole (length log) (omega arith) q a (told p z k log h (k.reader c) log [] whole q a t)) w.comes,
      λ s. w.unsettled (subst (λ (x : Asked D). IsSettled (state_of (run_of z log).held) x) (h.setting.asked w.query) (subst (λ (y : State D). IsSettled y (p.asked w.query)) last_is s)),
    )

    header_run : IsHeaderRun p K row
    header_run = record {
      at = at;
      last = length log;
      moment = moment;
      ended = λ c i m.
          let x = closed_by p z k log h c i m in
          let long : length log ≡ length (x.0).before + length ((x.0).entry ∷ (x.0).behind) = ap (λ (l : List (Entry I R D P)). length l) (x.0).split ∙ length-append (x.0).before ((x.0).entry ∷ (x.0).behind) in
          let same = x.2 in
          omega (arith, long, same);
      moments = λ n b. at_moment n;
      read = read_at;
      waits = λ c i f. let w = waiting c i f in (w.query, waits_for c w);
      shut = λ s l plain o.
          let u = open_from (run_of z log).held s l (subst (λ (y : State D). IsOpen y s l) last_is o) in
          let t = open_last u.0 s l u.1 in
          type_open p K row s l t.0 t.1 t.3;
    }

    -- ---- the graph at the end

    -- what a reader was told settled by the end
    abbrev Answered : Q → Answer D → Type 0
    Answered q a = WasSettled z log (k.query q) a

    one_answer : (q : Q) (a b : Answer D) → Answered q a → Answered q b → a ≡ b
    one_answer q a b x y = answers_are_one D (run_of z log).held.graph (asked_by z (k.query q)) a b (last_answer p z k log h log [] whole (k.query q) a x) (last_answer p z k log h log [] whole (k.query q) b y)

    settled_last : (q : Query P) (a : Answer D) → WasSettled z log q a → IsSettled (state_of (run_of z log).held) (asked_by z q)
    settled_last q a w =
        let follows = front_follows z h.setting.opening w.before w.behind (subst (λ (l : List (Entry I R D P)). IsRun z l) w.split h.run) in
        let ran : IsRun z w.before = run_at p z k log h w.before w.behind w.split in
        subst (λ (l : List (Entry I R D P)). IsSettled (state_of (run_of z l).held) (asked_by z q)) (sym w.split)
        (settled_stay_settled D (state_of (run_of z w.before).held) (state_of (run_of z (w.before ++ w.behind)).held) (asked_by z q) (((asked_run z h.setting.opening w.before ran).sound).held).graph w.start follows w.settled).0

    -- a reader that waits in its header has added nothing
    waiting_is_bare : (c : Scope) → Contains p.types c → K c ≡ false → (l : ℕ) (t : Scope) → l ≡ p.super_label → HasEntry (k.reader c) log (AddEdge c l t) → ⊥
    waiting_is_bare c i f l t e a =
        let w = waiting c i f in
        let was : MayReadHeader k.query (p.header c) c p.super_label (handed (trace_of (k.reader c) a.before)) (AddEdge c l t) =
        subst (λ (x : Op I R D P). MayReadHeader k.query (p.header c) c p.super_label (handed (trace_of (k.reader c) a.before)) x) a.given
        (reader_may p z k log h c i a.before a.entry a.behind a.split a.own (subst (λ (x : Op I R D P). IsGiven x) (sym a.given) tt)) in
        let g = was refl e in
        let later : (q : Q) (b : Answer D) → WasSettled z a.before (k.query q) b → Answered q b = λ q b x. record {
          before = x.before;
          behind = x.behind ++ a.entry ∷ a.behind;
          split = a.split ∙ (ap (λ (y : List (Entry I R D P)). y ++ a.entry ∷ a.behind) x.split ∙ append_assoc x.before x.behind (a.entry ∷ a.behind));
          start = x.start;
          settled = x.settled;
          answer = x.answer;
        } in
        let gives : Gives Answered (p.header c) g.0 (g.1).0 =
        Gives-more (AnswersTold k.query (handed (trace_of (k.reader c) a.before))) Answered (p.header c) g.0 (g.1).0 (λ q b j x. later q b (told p z k log h (k.reader c) a.before (a.entry ∷ a.behind) a.split q b x)) (g.1).1 in
        let comes : Asks Answered (p.header c) w.query =
        Asks-more (AnswersTold k.query (handed (trace_of (k.reader c) log))) Answered (p.header c) w.query (λ q b x. told p z k log h (k.reader c) log [] whole q b x) w.comes in
        Gives-no_need Answered one_answer (p.header c) g.0 (g.1).0 w.query gives (comes, λ b x. w.unsettled (settled_last (k.query w.query) b x))

    edges_last : (s : Scope) (l : ℕ) (t : Scope) → (HasEdge (run_of z log).held.graph s l t) ↔ (HasEdge (graph_with p K row) s l t)
    edges_last s l t = (
      edge_forth log [] whole K (λ c m. m) s l t
          (λ i e a. elim (cases_Bool (K s)) [ inl m ↦ m | inr f ↦ absurd (waiting_is_bare s i f l t e a) ]),
      edge_back log [] whole K (λ c m. m) s l t
          (λ u i held. importers_go_on u i s l held)
          (λ x m e. (x.entry ∷ x.behind, x.split)),
    )

    -- ---- needs

    pub clear : (c : Scope) → Contains p.types c → IsTrue (by (length log) c) → (t : Scope) → Contains (row c) t → Contains p.signatures t → ⊥
    clear c i m =
        let r = read_at c i (and_left (K c) (nat_lt (moment c) (length log)) m) in
        Gives-ends (λ ts. (t : Scope) → Contains ts t → Contains p.signatures t → ⊥) (AnsweredBy p at (moment c)) (p.header c) (row c) r.0 (h.quiet.gives c i) r.1

    needs_forth : (q : Q) → IsPlain p q → (n : Need) → Blocks (at (length log)) (p.asked q) n → (t : Scope) × (n ≡ Row t p.super_label) × IsNeeded p (at (length log)) q t
    needs_forth q plain (Row s l) b =
        let u = open_from (run_of z log).held s l (subst (λ (y : State D). IsOpen y s l) last_is b.4) in
        let t = open_last u.0 s l u.1 in
        (s, ap (λ (m : ℕ). Row s m) t.1, (t.0, subst (λ (m : ℕ). Blocks (at (length log)) (p.asked q) (Row s m)) t.1 b))
    needs_forth q plain (Datum s) b =
        absurd (end_clear p h.quiet (by (length log)) row clear (at (length log)) (at_moment (length log)) q plain b.0 b.1 b.3
        (subst (λ (x : Scope). Contains p.signatures x) (sym b.2) ((at_moment (length log)).unset s b.4)))

    needs_last : (c : Scope) → Contains p.types c → K c ≡ false → (w : Waiting c) → (n : Need) → (WaitsOn z (run_of z log) (k.reader c) n) ↔ ((t : Scope) × (n ≡ Row t p.super_label) × IsNeeded p (state_with p K row) w.query t)
    unfolding header_run
    needs_last c i f w n =
        let comes = waits_for c w in
        let plain : IsPlain p w.query = Asks-kind (IsPlain p) (AnsweredBy p at (length log)) (p.header c) w.query (h.quiet.asks c i) comes.0 in
        let same = (waiting_are_open Q D p K row h.program h.quiet header_run c w.query i comes).1 in (
          (λ need.
              let b = need.1 in
              let query : b.0 ≡ k.query w.query = same_ask ((run_of z log).asks (k.reader c)) b.0 (k.query w.query) b.1 w.count b.2 w.asks in
              let asked : asked_by z b.0 ≡ p.asked w.query = ap (λ (q : Query P). asked_by z q) query ∙ sym (h.setting.asked w.query) in
              let there : Blocks (at (length log)) (p.asked w.query) n =
              subst (λ (y : State D). Blocks y (p.asked w.query) n) (sym last_is) (subst (λ (x : Asked D). Blocks (state_of (run_of z log).held) x n) asked b.3) in
              let t = needs_forth w.query plain n there in
              (t.0, t.1, (same t.0).0 t.2)),
          (λ t.
              let there = ((same t.0).1 t.2).1 in
              let here : Blocks (state_of (run_of z log).held) (asked_by z (k.query w.query)) (Row t.0 p.super_label) =
              subst (λ (x : Asked D). Blocks (state_of (run_of z log).held) x (Row t.0 p.super_label)) (h.setting.asked w.query) (subst (λ (y : State D). Blocks y (p.asked w.query) (Row t.0 p.super_label)) last_is there) in
              (w.waits, (k.query w.query, w.count, w.asks, subst (λ (m : Need). Blocks (state_of (run_of z log).held) (asked_by z (k.query w.query)) m) (sym t.1) here))),
        )

    graph_last : IsGraph (run_of z log).held.graph
    graph_last = ((waited.asked).sound.held).graph

    leaves : Leaves p z k (run_of z log) K row
    unfolding header_run
    leaves = record {
      run = header_run;
      greatest = closed_are_greatest Q D p K row h.program h.quiet header_run;
      scopes = rising_one scope_cmp scope_total (run_of z log).held.graph.scopes p.skeleton.scopes graph_last.scopes_rise h.program.graph.scopes_rise (λ s. (
        (λ c. subst (λ (x : List Scope). Contains x s) h.setting.scopes (scope_before z h.setting.opening log h.run (none_makes p z k log h) [] log [] whole s c)),
        (λ c. (front_follows z h.setting.opening [] log h.run).extends.scopes s (subst (λ (x : List Scope). Contains x s) (sym h.setting.scopes) c)),
      ));
      edges = rising_one edge_cmp edge_total (run_of z log).held.graph.edges (graph_with p K row).edges graph_last.edges_rise
          (set_rises edge_cmp edge_total equal_edge (p.skeleton.edges ++ flat_map (row_edges p row) (filter K p.types))) (λ e. edges_last e.from e.label e.to);
      given = λ s d out. subst (λ (y : State D). (HasDatum y.graph s d) ↔ (HasDatum p.skeleton s d)) last_is ((at_moment (length log)).given s d out);
      waits = λ c i f.
          let w = waiting c i f in
          record {
            query = w.query;
            count = w.count;
            asks = w.asks;
            first = (waiting_are_open Q D p K row h.program h.quiet header_run c w.query i (waits_for c w)).0;
            needs = needs_last c i f w;
          };
    }

pub closed_headers_are_greatest : (I R Q D P : Type 0) → ClosedHeadersAreGreatest I R Q D P
closed_headers_are_greatest I R Q D P p z k log o =
    let h : IsKnownRun p z k log = known o in
    (row_at p z k log h, leaves p z k log h o.over)
