-- What the readers of headers did in a run.
use Rattle.std.proofs.Common.{◌≡◌, ℕ, ◌<◌, ◌≤◌, ◌+◌, List, [], ◌∷◌, ◌++◌, ◌⊎◌, IsTrue, inl, inr, refl, sym, ap, ◌∙◌, subst, arith, append_assoc, length, length-append}
use Rattle.std.proofs.lemmas.Bool.{cases_Bool}
use Rattle.std.proofs.lemmas.List.{append-nil}
use Rattle.std.specs.List.{Contains}
use Rattle.sg_base.specs.declared.scope.Scope.{Scope}
use Rattle.sg_base.specs.State.{State}
use Rattle.sg_query.specs.declared.answer.Answer.{Answer}
use Rattle.sg_query.specs.declared.query.Query.{Query}
use Rattle.sg_query.specs.Answer.{IsAnswer}
use Rattle.sg_query.specs.Query.{Asked}
use Rattle.sg_query.specs.State.{IsSettled}
use Rattle.sg_query.proofs.Answering.{answers_are_one}
use Rattle.sg_reading.specs.Reading.{Reading, Gives}
use Rattle.sg_reading.proofs.Readings.{Gives-more, Gives-same}
use Rattle.sg_state.specs.Held.{HoldsRow, state_of}
use Rattle.sg_unit.specs.declared.entry.Entry.{Entry}
use Rattle.sg_unit.specs.declared.op.Op.{Op}
use Rattle.sg_unit.specs.declared.op.Op.TheVariants.{Fresh, AddEdge, SetDatum, CloseRow, Ask, Advance, Take, End}
use Rattle.sg_unit.specs.Run.{Setting, units_of, asked_by, opened, run_of}
use Rattle.sg_unit.specs.Step.{IsStep, IsRun}
use Rattle.sg_unit.specs.Trace.{Past, handed}
use Rattle.sg_unit.proofs.Pasts.{split_at}
use Rattle.sg_unit.proofs.Steps.{front_run}
use Rattle.sg_unit.proofs.Waiters.{contained_or, scope_or}
use Rattle.sg_strata.specs.Program.{Program, IsProgram, IsQuiet}
use Rattle.sg_strata.specs.Run.{AnsweredBy}
use Rattle.sg_unit.specs.Orderly.{Did}
use Rattle.sg_headers.specs.Orderly.{AnswersTold, MayReadHeader, MayGiveImports}
use Rattle.sg_headers.specs.Outcome.{is_closed}
use Rattle.sg_headers.specs.Run.{IsOrderlyRun}
use Rattle.sg_headers.specs.Setting.{Roles, IsProgramSetting, AreOrderly}
use Rattle.sg_trace.proofs.Fronts.{state_at, asked_run, front_is_run, at_front}
use Rattle.sg_trace.specs.Entries.{IsGiven, MakesScope, MakeNoScope, HasEntry, WasGivenUp}
use Rattle.sg_trace.specs.Tells.{trace_of, WasSettled}
use Rattle.sg_trace.proofs.Holding.{given_up, closed_stays}
use Rattle.sg_trace.proofs.Telling.{settled_stands}
use Rattle.sg_trace.proofs.Traces.{gave_here, told_settled, did_entry}
use Rattle.sg_headers.proofs.Rows.{no_holder}

-- what is known of a run of orderly units
pub record IsKnownRun {I R Q D P : Type 0} (p : Program Q D) (z : Setting D P) (k : Roles Q P) (log : List (Entry I R D P)) : Type 0 where
  pub program : IsProgram p
  pub quiet : IsQuiet p
  pub setting : IsProgramSetting p z k
  pub run : IsRun z log
  pub orderly : AreOrderly p z k log

-- what is known of a run that is over
pub known : {I R Q D P : Type 0} {p : Program Q D} {z : Setting D P} {k : Roles Q P} {log : List (Entry I R D P)} → IsOrderlyRun p z k log → IsKnownRun p z k log
known o = record { program = o.program; quiet = o.quiet; setting = o.setting; run = o.run; orderly = o.orderly }

module _ {I R D P : Type 0} where
  given_if_made : (op : Op I R D P) → MakesScope op → IsGiven op
  given_if_made (Fresh labels datum) m = tt
  given_if_made (AddEdge from label to) m = absurd m
  given_if_made (SetDatum s d) m = absurd m
  given_if_made (CloseRow s l) m = absurd m
  given_if_made (Ask q) m = absurd m
  given_if_made Advance m = absurd m
  given_if_made Take m = absurd m
  given_if_made (End x) m = absurd m

  reader_makes_none : {Q : Type 0} (query : Q → Query P) (header : Reading Q (Answer D) (List Scope)) (c : Scope) (l : ℕ) (past : Past I R D P) (op : Op I R D P) → MayReadHeader query header c l past op → MakesScope op → ⊥
  reader_makes_none query header c l past (Fresh labels datum) may m = absurd may
  reader_makes_none query header c l past (AddEdge from label to) may m = absurd m
  reader_makes_none query header c l past (SetDatum s d) may m = absurd m
  reader_makes_none query header c l past (CloseRow s n) may m = absurd m
  reader_makes_none query header c l past (Ask q) may m = absurd m
  reader_makes_none query header c l past Advance may m = absurd m
  reader_makes_none query header c l past Take may m = absurd m
  reader_makes_none query header c l past (End x) may m = absurd m

  importer_makes_none : {Q : Type 0} (p : Program Q D) (z : Setting D P) (u : ℕ) (past : Past I R D P) (op : Op I R D P) → MayGiveImports p z u past op → MakesScope op → ⊥
  importer_makes_none p z u past (Fresh labels datum) may m = absurd may
  importer_makes_none p z u past (AddEdge from label to) may m = absurd m
  importer_makes_none p z u past (SetDatum s d) may m = absurd m
  importer_makes_none p z u past (CloseRow s n) may m = absurd m
  importer_makes_none p z u past (Ask q) may m = absurd m
  importer_makes_none p z u past Advance may m = absurd m
  importer_makes_none p z u past Take may m = absurd m
  importer_makes_none p z u past (End x) may m = absurd m

module _ {I R Q D P : Type 0} (p : Program Q D) (z : Setting D P) (k : Roles Q P) (log : List (Entry I R D P)) (h : IsKnownRun p z k log) where
  -- ---- entries

  pub step_at : (front : List (Entry I R D P)) (e : Entry I R D P) (rest : List (Entry I R D P)) → log ≡ front ++ e ∷ rest → IsRun z front × IsStep z (run_of z front) e
  step_at front e rest same =
      let parts = front_run z (opened z) front (e ∷ rest) (subst (λ (l : List (Entry I R D P)). IsRun z l) same h.run) in
      (parts.0, (parts.1).0)

  pub run_at : (front rest : List (Entry I R D P)) → log ≡ front ++ rest → IsRun z front
  run_at front rest same = front_is_run z h.setting.opening front rest (subst (λ (l : List (Entry I R D P)). IsRun z l) same h.run)

  -- what an entry of a type's reader may be
  pub reader_may : (c : Scope) → Contains p.types c → (front : List (Entry I R D P)) (e : Entry I R D P) (rest : List (Entry I R D P)) → log ≡ front ++ e ∷ rest → e.unit ≡ k.reader c → IsGiven e.op → MayReadHeader k.query (p.header c) c p.super_label (handed (trace_of (k.reader c) front)) e.op
  reader_may c i front e rest same own given =
      h.orderly.types c i (handed (trace_of (k.reader c) front)) e.op (gave_here z h.setting.opening log h.run (k.reader c) front e rest same own given)

  pub importer_may : (u : ℕ) → IsTrue (k.imports u) → (front : List (Entry I R D P)) (e : Entry I R D P) (rest : List (Entry I R D P)) → log ≡ front ++ e ∷ rest → e.unit ≡ u → IsGiven e.op → MayGiveImports p z u (handed (trace_of u front)) e.op
  importer_may u i front e rest same own given =
      h.orderly.imports u i (handed (trace_of u front)) e.op (gave_here z h.setting.opening log h.run u front e rest same own given)

  pub none_made : (front : List (Entry I R D P)) (e : Entry I R D P) (rest : List (Entry I R D P)) → log ≡ front ++ e ∷ rest → MakesScope e.op → ⊥
  none_made front e rest same m =
      let s = step_at front e rest same in
      let below : e.unit < units_of z = ((asked_run z h.setting.opening front s.0).sound).below e.unit ((s.1).may).0 in
      elim (h.setting.units e.unit below) [
        | inl r ↦ reader_makes_none k.query (p.header r.0) r.0 p.super_label (handed (trace_of (k.reader r.0) front)) e.op (reader_may r.0 r.1 front e rest same (sym r.2) (given_if_made e.op m)) m
        | inr i ↦ importer_makes_none p z e.unit (handed (trace_of e.unit front)) e.op (importer_may e.unit i front e rest same refl (given_if_made e.op m)) m
      ]

  pub none_makes : MakeNoScope log
  none_makes e c m = let at = split_at log e c in none_made at.0 e at.1 at.2 m

  -- ---- answers

  pub told : (u : ℕ) (front rest : List (Entry I R D P)) → log ≡ front ++ rest → (q : Q) (a : Answer D) → AnswersTold k.query (handed (trace_of u front)) q a → WasSettled z front (k.query q) a
  told u front rest same q a c = told_settled z h.setting.opening log h.run u front rest same (k.query q) a c

  -- what was answered by a front was answered by its moment
  pub answered_by : (front rest : List (Entry I R D P)) → log ≡ front ++ rest → (n : ℕ) → length front ≤ n → (q : Q) (a : Answer D) → WasSettled z front (k.query q) a → AnsweredBy p (state_at z log) n q a
  answered_by front rest same n b q a w =
      let all : log ≡ w.before ++ (w.behind ++ rest) = same ∙ (ap (λ (l : List (Entry I R D P)). l ++ rest) w.split ∙ append_assoc w.before w.behind rest) in
      let at : state_of (run_of z w.before).held ≡ state_at z log (length w.before) = ap (λ (l : List (Entry I R D P)). state_of (run_of z l).held) (sym (at_front z h.setting.opening log w.before (w.behind ++ rest) all)) in
      let long : length front ≡ length w.before + length w.behind = ap (λ (l : List (Entry I R D P)). length l) w.split ∙ length-append w.before w.behind in
      let query : asked_by z (k.query q) ≡ p.asked q = sym (h.setting.asked q) in
      record {
        time = length w.before;
        before = omega (arith, b, long);
        settled = subst (λ (s : State D). IsSettled s (p.asked q)) at (subst (λ (x : Asked D). IsSettled (state_of (run_of z w.before).held) x) query w.settled);
        answer = subst (λ (s : State D). IsAnswer s.graph (p.asked q) a) at (subst (λ (x : Asked D). IsAnswer (run_of z w.before).held.graph x a) query w.answer);
      }

  -- what was answered is the answer at the end
  pub last_answer : (front rest : List (Entry I R D P)) → log ≡ front ++ rest → (q : Query P) (a : Answer D) → WasSettled z front q a → IsAnswer (run_of z log).held.graph (asked_by z q) a
  last_answer front rest same q a w =
      subst (λ (l : List (Entry I R D P)). IsAnswer (run_of z l).held.graph (asked_by z q) a) (sym same)
      (settled_stands z h.setting.opening front rest (subst (λ (l : List (Entry I R D P)). IsRun z l) same h.run) q a w)

  -- the header gives one list by what the reader was told, whenever
  pub one_row : (c : Scope) (u : ℕ) (front rest front' rest' : List (Entry I R D P)) → log ≡ front ++ rest → log ≡ front' ++ rest' → (ts ts' : List Scope) (qs qs' : List Q) → Gives (AnswersTold k.query (handed (trace_of u front))) (p.header c) ts qs → Gives (AnswersTold k.query (handed (trace_of u front'))) (p.header c) ts' qs' → ts ≡ ts'
  one_row c u front rest front' rest' same same' ts ts' qs qs' g g' =
      let End : Q → Answer D → Type 0 = λ q a. IsAnswer (run_of z log).held.graph (asked_by z (k.query q)) a in
      (Gives-same End (λ q a b x y. answers_are_one D (run_of z log).held.graph (asked_by z (k.query q)) a b x y) (p.header c) ts ts' qs qs'
      (Gives-more (AnswersTold k.query (handed (trace_of u front))) End (p.header c) ts qs (λ q a i c. last_answer front rest same (k.query q) a (told u front rest same q a c)) g)
      (Gives-more (AnswersTold k.query (handed (trace_of u front'))) End (p.header c) ts' qs' (λ q a i c. last_answer front' rest' same' (k.query q) a (told u front' rest' same' q a c)) g')).0

  -- ---- rows that were closed

  -- how the reader of a type closed its row
  pub record Closing (c : Scope) : Type 0 where
    pub before : List (Entry I R D P)
    pub entry : Entry I R D P
    pub behind : List (Entry I R D P)
    pub split : log ≡ before ++ entry ∷ behind
    pub held_then : HoldsRow (run_of z before).held (k.reader c) c p.super_label
    pub row : List Scope
    pub queries : List Q
    pub gives : Gives (AnswersTold k.query (handed (trace_of (k.reader c) before))) (p.header c) row queries
    pub all : (t : Scope) → Contains row t → Did (handed (trace_of (k.reader c) before)) (AddEdge c p.super_label t)

  closed_at : (c : Scope) → Contains p.types c → WasGivenUp z (k.reader c) log c p.super_label → Closing c
  closed_at c i g =
      elim g.gives_up [
        | inl closes ↦
            let o : Op I R D P = CloseRow c p.super_label in
            let may : MayReadHeader k.query (p.header c) c p.super_label (handed (trace_of (k.reader c) g.before)) g.entry.op =
            reader_may c i g.before g.entry g.behind g.split g.own (subst (λ (x : Op I R D P). IsGiven x) (sym closes) tt) in
            let now : MayReadHeader k.query (p.header c) c p.super_label (handed (trace_of (k.reader c) g.before)) o =
            subst (λ (x : Op I R D P). MayReadHeader k.query (p.header c) c p.super_label (handed (trace_of (k.reader c) g.before)) x) closes may in
            let w = now refl refl in
            record { before = g.before; entry = g.entry; behind = g.behind; split = g.split; held_then = g.held_then; row = w.0; queries = (w.1).0; gives = (w.1).1; all = w.2 }
        | inr ends ↦
            let o : Op I R D P = End ends.0 in
            let may : MayReadHeader k.query (p.header c) c p.super_label (handed (trace_of (k.reader c) g.before)) g.entry.op =
            reader_may c i g.before g.entry g.behind g.split g.own (subst (λ (x : Op I R D P). IsGiven x) (sym ends.1) tt) in
            let did : Did (handed (trace_of (k.reader c) g.before)) (CloseRow c p.super_label) =
            subst (λ (x : Op I R D P). MayReadHeader k.query (p.header c) c p.super_label (handed (trace_of (k.reader c) g.before)) x) ends.1 may in
            let entry : HasEntry (k.reader c) g.before (CloseRow c p.super_label) = did_entry z h.setting.opening log h.run (k.reader c) g.before (g.entry ∷ g.behind) g.split (CloseRow c p.super_label) did.0 tt did.1 in
            absurd (closed_stays z h.setting.opening log h.run none_makes (k.reader c) g.before (g.entry ∷ g.behind) g.split c p.super_label entry g.held_then)
      ]

  abbrev pub Shut : Scope → Type 0
  Shut c = IsTrue (is_closed (run_of z log).held p.super_label c)

  closing : (c : Scope) → Contains p.types c → Shut c → Closing c
  closing c i m =
      elim (given_up z h.setting.opening log h.run log [] (sym (append-nil log)) (k.reader c) c p.super_label (h.setting.types c i)) [
        | inl held ↦ absurd (no_holder (run_of z log).held p.super_label c m (k.reader c) held)
        | inr g ↦ closed_at c i g
      ]

  abbrev Chosen : Scope → Type 0
  Chosen c = Closing c ⊎ (Contains p.types c → Shut c → ⊥)

  chosen : (c : Scope) → Chosen c
  chosen c =
      elim (contained_or scope_or p.types c) [
        | inl i ↦ elim (cases_Bool (is_closed (run_of z log).held p.super_label c)) [ inl m ↦ inl (closing c i m) | inr n ↦ inr (λ j m. let e = sym m ∙ n in cc) ]
        | inr n ↦ inr (λ j m. n j)
      ]

  abbrev row_by : (c : Scope) → Chosen c → List Scope
  row_by c (inl x) = x.row
  row_by c (inr n) = []

  abbrev moment_by : (c : Scope) → Chosen c → ℕ
  moment_by c (inl x) = length x.before
  moment_by c (inr n) = 0

  -- the supertypes that the run gave, and when their row was closed
  pub row_at : Scope → List Scope
  row_at c = row_by c (chosen c)

  pub moment_at : Scope → ℕ
  moment_at c = moment_by c (chosen c)

  by_choice : (c : Scope) (d : Chosen c) → Contains p.types c → Shut c → (x : Closing c) × (row_by c d ≡ x.row) × (moment_by c d ≡ length x.before)
  by_choice c (inl x) i m = (x, refl, refl)
  by_choice c (inr n) i m = absurd (n i m)

  pub closed_by : (c : Scope) → Contains p.types c → Shut c → (x : Closing c) × (row_at c ≡ x.row) × (moment_at c ≡ length x.before)
  unfolding row_at moment_at
  closed_by c i m = by_choice c (chosen c) i m
