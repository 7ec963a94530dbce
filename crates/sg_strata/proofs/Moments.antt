-- What a header reads at a moment of a run, it reads in the state that has just the rows closed by then.
use Rattle.std.proofs.Common.{◌≡◌, ◌≢◌, ℕ, ◌<◌, ◌≤◌, List, [], ◌∷◌, ◌++◌, Bool, true, false, ◌&&◌, nat_lt, IsTrue, ◌↔◌, inl, inr, refl, sym, ap, ◌∙◌, subst, arith, ltb-true, lt-ltb}
use Rattle.std.specs.List.{Contains}
use Rattle.std.proofs.lemmas.List.Elements.{Contains-append_left, Contains-push}
use Rattle.sg_base.specs.declared.scope.Scope.{Scope}
use Rattle.sg_base.specs.declared.step.Step.{Step}
use Rattle.sg_base.specs.Graph.{HasScope, HasEdge, IsWalk}
use Rattle.sg_base.specs.Label.{Word}
use Rattle.sg_base.specs.Path.{end_of, word_of}
use Rattle.sg_base.specs.State.{State, IsOpen, PassesClosed, IsClosedPath}
use Rattle.sg_base.proofs.Finite.{Contains-head, Contains-tail}
use Rattle.sg_expr.specs.Word.{In, IsViable}
use Rattle.sg_query.specs.declared.answer.Answer.{Answer}
use Rattle.sg_query.specs.Answer.{IsAnswer}
use Rattle.sg_query.specs.State.{IsSettled}
use Rattle.sg_query.specs.Growth.{LooksAlike}
use Rattle.sg_query.proofs.Alike.{viable_from_in, viable_before, closed_over, settled_over, answer_over}
use Rattle.sg_reading.specs.Reading.{AllAsked}
use Rattle.sg_reading.proofs.Readings.{Gives-within, Gives-ends, Asks-within, Asks-kind, AllAsked-both}
use Rattle.sg_strata.specs.Law.{HeaderRunsAreGreatest, WaitingHeadersAreOpen}
use Rattle.sg_strata.specs.Program.{Program, IsProgram, IsPlain, IsQuiet, state_with, graph_with, AnswersSettled, IsFirstOpen, IsNeeded}
use Rattle.sg_strata.specs.Run.{IsMoment, AnsweredBy, closed_before, WaitsFor, IsHeaderRun}
use Rattle.sg_strata.specs.Strata.{lower, IsStratified, IsGreatest}
use Rattle.sg_strata.proofs.Greatest.{stuck_is_greatest, state_with-agree}
use Rattle.sg_strata.proofs.Growing.{Inside, edge_cases, settled_moves}
use Rattle.sg_strata.proofs.Ranks.{and_left, and_right, and_both}

module _ {Q D : Type 0} (p : Program Q D) where
  -- no word that a plain query follows has a step to a signature
  labels : (q : Q) → IsPlain p q → (w : Word) → IsViable (p.asked q).expr w → (l : ℕ) → Contains w l → l ≢ p.signature_label
  labels q plain w v l c e = plain.words (w ++ v.0) v.1 (subst (λ (n : ℕ). Contains (w ++ v.0) n) e (Contains-append_left w v.0 l c))

  pub last_label : (q : Q) → IsPlain p q → (w : Word) (l : ℕ) → IsViable (p.asked q).expr (w ++ l ∷ []) → l ≢ p.signature_label
  last_label q plain w l v = labels q plain (w ++ l ∷ []) v l (Contains-push w l)

  module _ (quiet : IsQuiet p) (closed : Scope → Bool) (row : Scope → List Scope) (clear : (c : Scope) → Contains p.types c → IsTrue (closed c) → (t : Scope) → Contains (row c) t → Contains p.signatures t → ⊥) where
    target : (s : Scope) (l : ℕ) (t : Scope) → l ≢ p.signature_label → HasEdge (graph_with p closed row) s l t → Contains p.signatures t → ⊥
    target s l t n e i =
        elim (edge_cases p closed row s l t e) [ inl old ↦ n (quiet.reached s l t old i) | inr new ↦ clear s new.type new.has_row t new.above i ]

    module _ (h : State D) (m : IsMoment p closed row h) where
      -- a closed path without a step to a signature ends in none
      no_end : (s : Scope) (ps : List Step) → (Contains p.signatures s → ⊥) → ((l : ℕ) → Contains (word_of ps) l → l ≢ p.signature_label) → IsWalk h.graph s ps → PassesClosed h s ps → Contains p.signatures (end_of s ps) → ⊥
      no_end s [] out n w c = out
      no_end s (x ∷ ps) out n w c =
          let plain : x.label ≢ p.signature_label = n x.label (Contains-head x.label (word_of ps)) in
          no_end x.to ps (λ i. target s x.label x.to plain ((m.edges s x.label x.to plain c.0).0 w.0) i) (λ l i. n l (Contains-tail x.label l (word_of ps) i)) w.1 c.1

      module _ (q : Q) (plain : IsPlain p q) where
        pub end_clear : (ps : List Step) → IsClosedPath h (p.asked q).start ps → In (p.asked q).expr (word_of ps) → Contains p.signatures (end_of (p.asked q).start ps) → ⊥
        end_clear ps c i = no_end (p.asked q).start ps plain.start (labels q plain (word_of ps) (viable_from_in (p.asked q).expr (word_of ps) i)) (c.0).0 c.1

        pub looks_alike : LooksAlike h (state_with p closed row) (p.asked q)
        looks_alike = record {
          edges = λ ps l t c v o. m.edges (end_of (p.asked q).start ps) l t (last_label q plain (word_of ps) l v) o;
          rows = λ ps l c v o. m.open_there (end_of (p.asked q).start ps) l o;
          given = λ ps d c i u. m.given (end_of (p.asked q).start ps) d (end_clear ps c i);
          unset = λ ps c i u. absurd (end_clear ps c i u);
        }

module _ {Q D : Type 0} (p : Program Q D) (ok : IsProgram p) (quiet : IsQuiet p) (in_set : Scope → Bool) (row : Scope → List Scope) (run : IsHeaderRun p in_set row) where
  -- what is known of each query of a header
  abbrev Fits : Q → Type 0
  Fits q = HasScope p.skeleton (p.asked q).start × IsPlain p q

  asks : (c : Scope) → Contains p.types c → AllAsked Fits (p.header c)
  asks c i = AllAsked-both (λ q. HasScope p.skeleton (p.asked q).start) (IsPlain p) (p.header c) (ok.asks c i) (quiet.asks c i)

  rows_inside : Inside p in_set row
  rows_inside c i m =
      Gives-ends (λ ts. (t : Scope) → Contains ts t → HasScope p.skeleton t) (AnsweredBy p run.at (run.moment c)) (p.header c) (row c) (run.read c i m).0 (ok.gives c i) (run.read c i m).1

  rows_clear : (c : Scope) → Contains p.types c → IsTrue (in_set c) → (t : Scope) → Contains (row c) t → Contains p.signatures t → ⊥
  rows_clear c i m =
      Gives-ends (λ ts. (t : Scope) → Contains ts t → Contains p.signatures t → ⊥) (AnsweredBy p run.at (run.moment c)) (p.header c) (row c) (run.read c i m).0 (quiet.gives c i) (run.read c i m).1

  -- what is settled at a moment, the rows closed before it settle
  at_moment : (n : ℕ) → n ≤ run.last → (q : Q) → IsPlain p q → (a : Answer D) → IsSettled (run.at n) (p.asked q) → IsAnswer (run.at n).graph (p.asked q) a → AnswersSettled p (state_with p (closed_before in_set run.moment n) row) q a
  at_moment n below q plain a s k =
      let alike : LooksAlike (run.at n) (state_with p (closed_before in_set run.moment n) row) (p.asked q) =
      looks_alike p quiet (closed_before in_set run.moment n) row (λ c i m. rows_clear c i (and_left (in_set c) (nat_lt (run.moment c) n) m)) (run.at n) (run.moments n below) q plain in (
        settled_over (run.at n) (state_with p (closed_before in_set run.moment n) row) (p.asked q) alike s,
        (answer_over (run.at n) (state_with p (closed_before in_set run.moment n) row) (p.asked q) alike s a).1 k,
      )

  stratified : IsStratified p in_set row
  stratified = record {
    rank = run.moment;
    stands = λ c i m. (
      (run.read c i m).0,
      Gives-within Fits (AnsweredBy p run.at (run.moment c)) (AnswersSettled p (state_with p (lower in_set run.moment c) row)) (p.header c) (row c) (run.read c i m).0 (asks c i)
          (λ q a fits by.
          let late : run.moment c < run.last = run.ended c i m in
          settled_moves p ok (closed_before in_set run.moment by.time) row (lower in_set run.moment c) row
          (record {
            within = λ d j l. and_both (in_set d) (nat_lt (run.moment d) (run.moment c)) (and_left (in_set d) (nat_lt (run.moment d) by.time) l)
                (let early : run.moment d < by.time = ltb-true (run.moment d) by.time (and_right (in_set d) (nat_lt (run.moment d) by.time) l) in
                lt-ltb (run.moment d) (run.moment c) (omega (arith, early, by.before)));
            same = λ d j l. refl;
          })
          (λ d j l. rows_inside d j (and_left (in_set d) (nat_lt (run.moment d) by.time) l))
          q a fits.0 (at_moment by.time (omega (arith, late, by.before)) q fits.1 a by.settled by.answer))
          (run.read c i m).1,
    );
  }

  -- ---- the end of the run

  all_closed : (c : Scope) → Contains p.types c → (b : Bool) → in_set c ≡ b → closed_before in_set run.moment run.last c ≡ in_set c
  all_closed c i true e = ap (λ (b : Bool). b && nat_lt (run.moment c) run.last) e ∙ (lt-ltb (run.moment c) run.last (run.ended c i e) ∙ sym e)
  all_closed c i false e = ap (λ (b : Bool). b && nat_lt (run.moment c) run.last) e ∙ sym e

  last_is : state_with p (closed_before in_set run.moment run.last) row ≡ state_with p in_set row
  last_is = state_with-agree p (closed_before in_set run.moment run.last) in_set row (λ c i. all_closed c i (in_set c) refl)

  itself : IsMoment p in_set row (state_with p in_set row)
  itself = record {
    edges = λ s l t n o. ((λ e. e), (λ e. e));
    open_there = λ s l o. o;
    given = λ s d n. ((λ e. e), (λ e. e));
    unset = λ s u. u;
  }

  at_last : IsMoment p in_set row (run.at run.last)
  at_last =
      let m : IsMoment p (closed_before in_set run.moment run.last) row (run.at run.last) = run.moments run.last (omega arith) in
      record {
        edges = λ s l t n o. subst (λ (h : State D). (HasEdge (run.at run.last).graph s l t) ↔ (HasEdge h.graph s l t)) last_is (m.edges s l t n o);
        open_there = λ s l o. m.open_there s l (subst (λ (h : State D). IsOpen h s l) (sym last_is) o);
        given = m.given;
        unset = m.unset;
      }

  -- what a plain query alike at the end, it alike by the set alone, and the other way round
  forth : (q : Q) → IsPlain p q → LooksAlike (run.at run.last) (state_with p in_set row) (p.asked q)
  forth q plain = looks_alike p quiet in_set row rows_clear (run.at run.last) at_last q plain

  back : (q : Q) → IsPlain p q → LooksAlike (state_with p in_set row) (run.at run.last) (p.asked q)
  back q plain = record {
    edges = λ ps l t c v o.
        let n : l ≢ p.signature_label = last_label p q plain (word_of ps) l v in
        let same = at_last.edges (end_of (p.asked q).start ps) l t n (λ o'. o (run.shut (end_of (p.asked q).start ps) l n o')) in
        (same.1, same.0);
    rows = λ ps l c v o. run.shut (end_of (p.asked q).start ps) l (last_label p q plain (word_of ps) l v) o;
    given = λ ps d c i u.
        let same = at_last.given (end_of (p.asked q).start ps) d (end_clear p quiet in_set row rows_clear (state_with p in_set row) itself q plain ps c i) in
        (same.1, same.0);
    unset = λ ps c i u. at_last.unset (end_of (p.asked q).start ps) u;
  }

  waiting_open : (c : Scope) (q : Q) → Contains p.types c → WaitsFor p run.at run.last c q → IsFirstOpen p (state_with p in_set row) c q
  waiting_open c q i w = (
    Asks-within Fits (AnsweredBy p run.at run.last) (AnswersSettled p (state_with p in_set row)) (p.header c) q (asks c i)
        (λ q a fits by.
        settled_moves p ok (closed_before in_set run.moment by.time) row in_set row
        (record { within = λ d j l. and_left (in_set d) (nat_lt (run.moment d) by.time) l; same = λ d j l. refl })
        (λ d j l. rows_inside d j (and_left (in_set d) (nat_lt (run.moment d) by.time) l))
        q a fits.0 (at_moment by.time by.before q fits.1 a by.settled by.answer))
        w.0,
    λ s. w.1 (settled_over (state_with p in_set row) (run.at run.last) (p.asked q) (back q (Asks-kind (IsPlain p) (AnsweredBy p run.at run.last) (p.header c) q (quiet.asks c i) w.0)) s),
  )

  -- what blocks a plain query stays where two states look alike
  blocks : (h h' : State D) (q : Q) → LooksAlike h h' (p.asked q) → ((s : Scope) (l : ℕ) → l ≢ p.signature_label → IsOpen h s l → IsOpen h' s l) → IsPlain p q → (t : Scope) → IsNeeded p h q t → IsNeeded p h' q t
  blocks h h' q alike opens plain t n =
      let b = n.1 in (
        n.0,
        (
          b.0,
          closed_over h h' (p.asked q) alike b.0 b.1 (viable_before (p.asked q).expr (word_of b.0) p.super_label b.3),
          b.2,
          b.3,
          opens t p.super_label (last_label p q plain (word_of b.0) p.super_label b.3) b.4,
        ),
      )

  needs_same : (c : Scope) (q : Q) → Contains p.types c → WaitsFor p run.at run.last c q → (t : Scope) → (IsNeeded p (run.at run.last) q t) ↔ (IsNeeded p (state_with p in_set row) q t)
  needs_same c q i w t =
      let plain : IsPlain p q = Asks-kind (IsPlain p) (AnsweredBy p run.at run.last) (p.header c) q (quiet.asks c i) w.0 in (
        blocks (run.at run.last) (state_with p in_set row) q (forth q plain) run.shut plain t,
        blocks (state_with p in_set row) (run.at run.last) q (back q plain) (λ s l n o. at_last.open_there s l o) plain t,
      )

  pub run_is_greatest : IsGreatest p in_set row
  run_is_greatest = stuck_is_greatest Q D p in_set row ok stratified (λ c i out. let w = run.waits c i out in (w.0, waiting_open c w.0 i w.1))

  pub waiting_is_open : (c : Scope) (q : Q) → Contains p.types c → WaitsFor p run.at run.last c q → IsFirstOpen p (state_with p in_set row) c q × ((t : Scope) → (IsNeeded p (run.at run.last) q t) ↔ (IsNeeded p (state_with p in_set row) q t))
  waiting_is_open c q i w = (waiting_open c q i w, needs_same c q i w)

pub closed_are_greatest : (Q D : Type 0) → HeaderRunsAreGreatest Q D
closed_are_greatest Q D p in_set row ok quiet run = run_is_greatest p ok quiet in_set row run

pub waiting_are_open : (Q D : Type 0) → WaitingHeadersAreOpen Q D
waiting_are_open Q D p in_set row ok quiet run c q i w = waiting_is_open p ok quiet in_set row run c q i w
