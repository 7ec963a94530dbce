-- What a unit's trace says of the entries of a run.
use Rattle.std.proofs.Common.{◌≡◌, ℕ, List, [], ◌∷◌, ◌++◌, ◌⊎◌, Option, Some, None, Bool, true, false, eqb, cond, inl, inr, refl, sym, ap, ◌∙◌, subst, append_assoc}
use Rattle.std.proofs.lemmas.Bool.{cases_Bool}
use Rattle.std.proofs.lemmas.List.{append-nil}
use Rattle.std.proofs.lemmas.List.Elements.{Contains-append_cases, filter-append}
use Rattle.std.specs.List.{Contains}
use Rattle.sg_base.specs.Graph.{HasScope}
use Rattle.sg_base.proofs.Finite.{nothing_in, single}
use Rattle.sg_query.specs.declared.answer.Answer.{Answer}
use Rattle.sg_query.specs.declared.query.Query.{Query}
use Rattle.sg_query.specs.Answer.{IsAnswer}
use Rattle.sg_query.specs.State.{IsSettled}
use Rattle.sg_state.specs.Held.{state_of}
use Rattle.sg_state.specs.Opening.{IsOpening}
use Rattle.sg_unit.specs.declared.entry.Entry.{Entry}
use Rattle.sg_unit.specs.declared.op.Op.{Op}
use Rattle.sg_unit.specs.declared.op.Op.TheVariants.{Fresh, AddEdge, SetDatum, CloseRow, Ask, Advance, Take, End}
use Rattle.sg_unit.specs.declared.reply.Reply.{Reply}
use Rattle.sg_unit.specs.declared.reply.Reply.TheVariants.{Answer as Answered}
use Rattle.sg_unit.specs.Own.{own}
use Rattle.sg_unit.specs.Run.{Setting, RunOf, Asking, no_ask, ready_ask, asked_by, advanced, ask_after, run_of, IsOpenAsk, IsReadyAsk, IsFor}
use Rattle.sg_unit.specs.Step.{Meets, IsStep, IsRun}
use Rattle.sg_unit.specs.Trace.{Past, Trace, with_last, handed, told_after, told_from, untold, told}
use Rattle.sg_unit.proofs.Asks.{IsAskedRun, ready_for}
use Rattle.sg_unit.proofs.Telling.{own_in, own_out}
use Rattle.sg_unit.proofs.Tracing.{no_ask_for, advanced_for}
use Rattle.sg_unit.proofs.Writes.{is_num, num_is}
use Rattle.sg_unit.specs.Orderly.{GaveAfter}
use Rattle.sg_trace.specs.Entries.{IsGiven, IsWritten, HasEntry}
use Rattle.sg_trace.specs.Tells.{trace_of, TellsAsk, WasSettled}
use Rattle.sg_trace.proofs.Fronts.{along, next_front, one_after, asked_run}

told_more : {I R D P : Type 0} (t : Trace I R D P) (es more : List (Entry I R D P)) → told_from t (es ++ more) ≡ told_from (told_from t es) more
told_more t [] more = refl
told_more t (e ∷ es) more = told_more (told_after t e.op e.reply) es more

module _ {I R D P : Type 0} (u : ℕ) where
  pub trace_in : (front : List (Entry I R D P)) (e : Entry I R D P) → eqb e.unit u ≡ true → trace_of u (front ++ e ∷ []) ≡ told_after (trace_of u front) e.op e.reply
  trace_in front e b =
      ap (λ (l : List (Entry I R D P)). told l) (filter-append (λ (x : Entry I R D P). eqb x.unit u) front (e ∷ []) ∙ ap (λ (l : List (Entry I R D P)). own u front ++ l) (own_in u e [] b))
      ∙ told_more untold (own u front) (e ∷ [])

  pub trace_out : (front : List (Entry I R D P)) (e : Entry I R D P) → eqb e.unit u ≡ false → trace_of u (front ++ e ∷ []) ≡ trace_of u front
  trace_out front e b =
      ap (λ (l : List (Entry I R D P)). told l) (filter-append (λ (x : Entry I R D P). eqb x.unit u) front (e ∷ []) ∙ (ap (λ (l : List (Entry I R D P)). own u front ++ l) (own_out u e [] b) ∙ append-nil (own u front)))

module _ {I R D P : Type 0} where
  advance_tells : (a : Asking P) (last : Option (Op I R D P)) (given : Option (Reply I D P)) (y : Reply I D P) → TellsAsk a last given → IsOpenAsk a → TellsAsk (advanced a y) last given
  advance_tells a None given y t o = absurd (let e = sym t ∙ o.2 in cc)
  advance_tells a (Some op) (Some w) y t o = absurd (let e = sym t ∙ o.2 in cc)
  advance_tells a (Some op) None y t o = (t.0, t.1, advanced_for a y t.0 t.2)

  take_tells : (last : Option (Op I R D P)) (y : Reply I D P) → (let none : Asking P = no_ask in TellsAsk none last (Some y))
  take_tells None y = refl
  take_tells (Some op) y = refl

  tells_step : (z : Setting D P) (r : RunOf D P) (u : ℕ) (t : Trace I R D P) (op : Op I R D P) (y : Reply I D P) → TellsAsk (r.asks u) t.last t.reply → Meets z (HasScope r.held.graph) r u op → TellsAsk (ask_after (r.asks u) op y) (told_after t op y).last (told_after t op y).reply
  tells_step z r u t (Fresh labels datum) y k m = m.0
  tells_step z r u t (AddEdge from label to) y k m = m.0
  tells_step z r u t (SetDatum s d) y k m = m.0
  tells_step z r u t (CloseRow s l) y k m = m.0
  tells_step z r u t (Ask q) y k m = (q, refl, refl)
  tells_step z r u t Advance y k m = advance_tells (r.asks u) t.last t.reply y k m
  tells_step z r u t Take y k m = take_tells t.last y
  tells_step z r u t (End x) y k m = m

  -- the unit's trace tells what it asks
  pub trace_tells : (z : Setting D P) (u : ℕ) (front : List (Entry I R D P)) → IsRun z front → TellsAsk ((run_of z front).asks u) (trace_of u front).last (trace_of u front).reply
  trace_tells z u front run =
      along z front (λ (l : List (Entry I R D P)). TellsAsk ((run_of z l).asks u) (trace_of u l).last (trace_of u l).reply) run
      (λ before e behind split was s k.
      subst (λ (r : RunOf D P). TellsAsk (r.asks u) (trace_of u (before ++ e ∷ [])).last (trace_of u (before ++ e ∷ [])).reply) (sym (one_after z before e))
      (elim (cases_Bool (eqb e.unit u)) [
        | inl b ↦
            let met : Meets z (HasScope (run_of z before).held.graph) (run_of z before) u e.op = subst (λ (n : ℕ). Meets z (HasScope (run_of z before).held.graph) (run_of z before) n e.op) (is_num e.unit u b) (s.may).1 in
            let now : TellsAsk (ask_after ((run_of z before).asks u) e.op e.reply) (told_after (trace_of u before) e.op e.reply).last (told_after (trace_of u before) e.op e.reply).reply = tells_step z (run_of z before) u (trace_of u before) e.op e.reply k met in
            let there : TellsAsk (ask_after ((run_of z before).asks u) e.op e.reply) (trace_of u (before ++ e ∷ [])).last (trace_of u (before ++ e ∷ [])).reply =
            subst (λ (t : Trace I R D P). TellsAsk (ask_after ((run_of z before).asks u) e.op e.reply) t.last t.reply) (sym (trace_in u before e b)) now in
            subst (λ (c : Bool). TellsAsk (cond c (ask_after ((run_of z before).asks u) e.op e.reply) ((run_of z before).asks u)) (trace_of u (before ++ e ∷ [])).last (trace_of u (before ++ e ∷ [])).reply) (sym b) there
        | inr b ↦
            let there : TellsAsk ((run_of z before).asks u) (trace_of u (before ++ e ∷ [])).last (trace_of u (before ++ e ∷ [])).reply =
            subst (λ (t : Trace I R D P). TellsAsk ((run_of z before).asks u) t.last t.reply) (sym (trace_out u before e b)) k in
            subst (λ (c : Bool). TellsAsk (cond c (ask_after ((run_of z before).asks u) e.op e.reply) ((run_of z before).asks u)) (trace_of u (before ++ e ∷ [])).last (trace_of u (before ++ e ∷ [])).reply) (sym b) there
      ]))
      [] front [] (sym (append-nil front)) refl

-- ---- what an entry adds to a trace

module _ {I R D P : Type 0} where
  -- what a unit with this ask is handed with its next operation
  abbrev pub Adds : Asking P → Op I R D P → Reply I D P → Op I R D P × Reply I D P → Type 0
  Adds a op y x = ((x ≡ (op, y)) × IsWritten op) ⊎ ((op ≡ Take) × ((q : Query P) × (x ≡ (Ask q, y)) × IsFor a q))

  added : (past : Past I R D P) (op : Op I R D P) (y : Reply I D P) (x : Op I R D P × Reply I D P) → Contains (past ++ (op, y) ∷ []) x → Contains past x ⊎ (x ≡ (op, y))
  added past op y x c = elim (Contains-append_cases past ((op, y) ∷ []) x c) [ inl k ↦ inl k | inr k ↦ inr (single (op, y) x k) ]

  take_adds : (a : Asking P) (past : Past I R D P) (last : Option (Op I R D P)) (given : Option (Reply I D P)) (y : Reply I D P) (x : Op I R D P × Reply I D P) → TellsAsk a last given → IsReadyAsk a → Contains (with_last past last (Some y)) x → Contains (with_last past last given) x ⊎ ((q : Query P) × (x ≡ (Ask q, y)) × IsFor a q)
  take_adds a past None given y x t r c = absurd (let e = sym t ∙ r.1 in cc)
  take_adds a past (Some op) (Some w) y x t r c = absurd (let e = sym t ∙ r.1 in cc)
  take_adds a past (Some op) None y x t r c =
      elim (added past op y x c) [ inl k ↦ inl k | inr e ↦ inr (t.0, e ∙ ap (λ (o : Op I R D P). let p : Op I R D P × Reply I D P = (o, y) in p) t.1, t.2) ]

  pub handed_adds : (z : Setting D P) (r : RunOf D P) (u : ℕ) (t : Trace I R D P) (op : Op I R D P) (y : Reply I D P) (x : Op I R D P × Reply I D P) → TellsAsk (r.asks u) t.last t.reply → Meets z (HasScope r.held.graph) r u op → Contains (handed (told_after t op y)) x → Contains (handed t) x ⊎ Adds (r.asks u) op y x
  handed_adds z r u t (Fresh labels datum) y x a m c = elim (added (handed t) (Fresh labels datum) y x c) [ inl k ↦ inl k | inr e ↦ inr (inl (e, tt)) ]
  handed_adds z r u t (AddEdge from label to) y x a m c = elim (added (handed t) (AddEdge from label to) y x c) [ inl k ↦ inl k | inr e ↦ inr (inl (e, tt)) ]
  handed_adds z r u t (SetDatum s d) y x a m c = elim (added (handed t) (SetDatum s d) y x c) [ inl k ↦ inl k | inr e ↦ inr (inl (e, tt)) ]
  handed_adds z r u t (CloseRow s l) y x a m c = elim (added (handed t) (CloseRow s l) y x c) [ inl k ↦ inl k | inr e ↦ inr (inl (e, tt)) ]
  handed_adds z r u t (Ask q) y x a m c = inl c
  handed_adds z r u t Advance y x a m c = inl c
  handed_adds z r u t Take y x a m c = elim (take_adds (r.asks u) t.past t.last t.reply y x a m c) [ inl k ↦ inl k | inr k ↦ inr (inr (refl, k)) ]
  handed_adds z r u t (End o) y x a m c = elim (added (handed t) (End o) y x c) [ inl k ↦ inl k | inr e ↦ inr (inl (e, tt)) ]

  -- what was given stays given
  gave_write : (a : Asking P) (past : Past I R D P) (last : Option (Op I R D P)) (y : Option (Reply I D P)) (before : Past I R D P) (op next : Op I R D P) → TellsAsk a last y → a ≡ no_ask → GaveAfter past last before op → GaveAfter (with_last past last y) (Some next) before op
  gave_write a past None y before op next t n (inl g) = absurd (let e = g.1 in cc)
  gave_write a past None y before op next t n (inr g) = inr g
  gave_write a past (Some o) (Some w) before op next t n (inl g) =
      let same : o ≡ op = (let e = g.1 in cc) in
      inr (w, [], ap (λ (l : Past I R D P). l ++ (o, w) ∷ []) g.0 ∙ ap (λ (i : Op I R D P). before ++ (i, w) ∷ []) same)
  gave_write a past (Some o) (Some w) before op next t n (inr g) =
      inr (g.0, g.1 ++ (o, w) ∷ [], ap (λ (l : Past I R D P). l ++ (o, w) ∷ []) g.2 ∙ append_assoc before ((op, g.0) ∷ g.1) ((o, w) ∷ []))
  gave_write a past (Some o) None before op next t n g = absurd (no_ask_for a t.0 n t.2)

  gave_step : (z : Setting D P) (r : RunOf D P) (u : ℕ) (t : Trace I R D P) (next : Op I R D P) (y : Reply I D P) (before : Past I R D P) (op : Op I R D P) → TellsAsk (r.asks u) t.last t.reply → Meets z (HasScope r.held.graph) r u next → GaveAfter t.past t.last before op → GaveAfter (told_after t next y).past (told_after t next y).last before op
  gave_step z r u t (Fresh labels datum) y before op a m g = gave_write (r.asks u) t.past t.last t.reply before op (Fresh labels datum) a m.0 g
  gave_step z r u t (AddEdge from label to) y before op a m g = gave_write (r.asks u) t.past t.last t.reply before op (AddEdge from label to) a m.0 g
  gave_step z r u t (SetDatum s d) y before op a m g = gave_write (r.asks u) t.past t.last t.reply before op (SetDatum s d) a m.0 g
  gave_step z r u t (CloseRow s l) y before op a m g = gave_write (r.asks u) t.past t.last t.reply before op (CloseRow s l) a m.0 g
  gave_step z r u t (Ask q) y before op a m g = gave_write (r.asks u) t.past t.last t.reply before op (Ask q) a m.0 g
  gave_step z r u t Advance y before op a m g = g
  gave_step z r u t Take y before op a m g = g
  gave_step z r u t (End x) y before op a m g = gave_write (r.asks u) t.past t.last t.reply before op (End x) a m g

  given_now : (t : Trace I R D P) (op : Op I R D P) (y : Reply I D P) → IsGiven op → GaveAfter (told_after t op y).past (told_after t op y).last (handed t) op
  given_now t (Fresh labels datum) y i = inl (refl, refl)
  given_now t (AddEdge from label to) y i = inl (refl, refl)
  given_now t (SetDatum s d) y i = inl (refl, refl)
  given_now t (CloseRow s l) y i = inl (refl, refl)
  given_now t (Ask q) y i = inl (refl, refl)
  given_now t Advance y i = absurd i
  given_now t Take y i = absurd i
  given_now t (End x) y i = inl (refl, refl)

-- ---- along a run

module _ {I R D P : Type 0} (z : Setting D P) where
  settled_before : (q : Query P) (a : Answer D) (front : List (Entry I R D P)) (e : Entry I R D P) → WasSettled z front q a → WasSettled z (front ++ e ∷ []) q a
  settled_before q a front e w = record {
    before = w.before;
    behind = w.behind ++ e ∷ [];
    split = ap (λ (l : List (Entry I R D P)). l ++ e ∷ []) w.split ∙ append_assoc w.before w.behind (e ∷ []);
    start = w.start;
    settled = w.settled;
    answer = w.answer;
  }

  -- a query whose answer is taken is settled then
  took : (r : RunOf D P) → IsAskedRun z r → (u : ℕ) (y : Reply I D P) → IsStep {R = R} z r (record { unit = u; op = Take; reply = y }) → (x q : Query P) (a : Answer D) → (let p : Op I R D P × Reply I D P = (Ask q, Answered a) in p ≡ (Ask x, y)) → IsFor (r.asks u) x → HasScope r.held.graph q.start × IsSettled (state_of r.held) (asked_by z q) × IsAnswer r.held.graph (asked_by z q) a
  took r ok u y s x q a same f =
      let ready = (s.may).1 in
      let given = s.replies in
      let asked : Op I R D P = Ask q in
      let ask_same : asked ≡ Ask x = ap (λ (p : Op I R D P × Reply I D P). p.0) same in
      let one : q ≡ x = (let e = ask_same in cc) in
      let here : ready.0 ≡ x = subst (λ (b : Asking P). IsFor b x) ready.1 f in
      let query : ready.0 ≡ q = here ∙ sym one in
      let at : r.asks u ≡ ready_ask q = ready.1 ∙ ap (λ (i : Query P). ready_ask i) query in
      let reply : Answered a ≡ y = ap (λ (p : Op I R D P × Reply I D P). p.1) same in
      let answer : given.0 ≡ a = (let e : Answered given.0 ≡ Answered a = sym (reply ∙ given.1) in cc) in
      (ok.starts u q (ready_for (r.asks u) q at), ok.settled u q at, subst (λ (b : Answer D). IsAnswer r.held.graph (asked_by z q) b) answer (given.2 q at))

pub entry_before : {I R D P : Type 0} (u : ℕ) (op : Op I R D P) (front : List (Entry I R D P)) (e : Entry I R D P) → HasEntry u front op → HasEntry u (front ++ e ∷ []) op
entry_before {I} {R} {D} {P} u op front e w = record {
  before = w.before;
  entry = w.entry;
  behind = w.behind ++ e ∷ [];
  split = ap (λ (l : List (Entry I R D P)). l ++ e ∷ []) w.split ∙ append_assoc w.before (w.entry ∷ w.behind) (e ∷ []);
  own = w.own;
  given = w.given;
}

module _ {I R D P : Type 0} (z : Setting D P) (ok : IsOpening z.opening) (log : List (Entry I R D P)) (run : IsRun z log) (u : ℕ) where
  meets_own : (front : List (Entry I R D P)) (e : Entry I R D P) → IsStep z (run_of z front) e → eqb e.unit u ≡ true → Meets z (HasScope (run_of z front).held.graph) (run_of z front) u e.op
  meets_own front e s b = subst (λ (n : ℕ). Meets z (HasScope (run_of z front).held.graph) (run_of z front) n e.op) (is_num e.unit u b) (s.may).1

  -- an operation that the unit gave once, it has given at each later time
  pub gave_later : (start more rest : List (Entry I R D P)) → log ≡ start ++ (more ++ rest) → (before : Past I R D P) (op : Op I R D P) → GaveAfter (trace_of u start).past (trace_of u start).last before op → GaveAfter (trace_of u (start ++ more)).past (trace_of u (start ++ more)).last before op
  gave_later start more rest same before op g =
      along z log (λ (l : List (Entry I R D P)). GaveAfter (trace_of u l).past (trace_of u l).last before op) run
      (λ front e behind split was s k. elim (cases_Bool (eqb e.unit u)) [
        | inl b ↦ subst (λ (t : Trace I R D P). GaveAfter t.past t.last before op) (sym (trace_in u front e b))
            (gave_step z (run_of z front) u (trace_of u front) e.op e.reply before op (trace_tells z u front was) (meets_own front e s b) k)
        | inr b ↦ subst (λ (t : Trace I R D P). GaveAfter t.past t.last before op) (sym (trace_out u front e b)) k
      ])
      start more rest same g

  -- an entry's operation came right after what the unit was handed by then
  pub gave_here : (front : List (Entry I R D P)) (e : Entry I R D P) (rest : List (Entry I R D P)) → log ≡ front ++ e ∷ rest → e.unit ≡ u → IsGiven e.op → GaveAfter (trace_of u log).past (trace_of u log).last (handed (trace_of u front)) e.op
  gave_here front e rest same mine given =
      let b : eqb e.unit u ≡ true = subst (λ (n : ℕ). eqb e.unit n ≡ true) mine (num_is e.unit) in
      let now : GaveAfter (trace_of u (front ++ e ∷ [])).past (trace_of u (front ++ e ∷ [])).last (handed (trace_of u front)) e.op =
      subst (λ (t : Trace I R D P). GaveAfter t.past t.last (handed (trace_of u front)) e.op) (sym (trace_in u front e b)) (given_now (trace_of u front) e.op e.reply given) in
      let all : (front ++ e ∷ []) ++ rest ≡ log = sym (same ∙ next_front front e rest) in
      subst (λ (l : List (Entry I R D P)). GaveAfter (trace_of u l).past (trace_of u l).last (handed (trace_of u front)) e.op) all
      (gave_later (front ++ e ∷ []) rest [] (sym all ∙ ap (λ (l : List (Entry I R D P)). (front ++ e ∷ []) ++ l) (sym (append-nil rest))) (handed (trace_of u front)) e.op now)

  answer_case : (q : Query P) (a : Answer D) (front : List (Entry I R D P)) (e : Entry I R D P) → IsRun z front → IsStep z (run_of z front) e → eqb e.unit u ≡ true → (Contains (handed (trace_of u front)) (Ask q, Answered a) → WasSettled z front q a) → Contains (handed (told_after (trace_of u front) e.op e.reply)) (Ask q, Answered a) → WasSettled z (front ++ e ∷ []) q a
  answer_case q a front e was s b k c =
      elim (handed_adds z (run_of z front) u (trace_of u front) e.op e.reply (Ask q, Answered a) (trace_tells z u front was) (meets_own front e s b) c) [
        | inl old ↦ settled_before z q a front e (k old)
        | inr new ↦ elim new [
          | inl w ↦ absurd (subst (λ (o : Op I R D P). IsWritten o) (sym (ap (λ (p : Op I R D P × Reply I D P). p.0) w.0)) w.1)
          | inr t ↦
              let step : IsStep z (run_of z front) (record { unit = u; op = e.op; reply = e.reply }) = subst (λ (n : ℕ). IsStep z (run_of z front) (record { unit = n; op = e.op; reply = e.reply })) (is_num e.unit u b) s in
              let take : IsStep z (run_of z front) (record { unit = u; op = Take; reply = e.reply }) = subst (λ (o : Op I R D P). IsStep z (run_of z front) (record { unit = u; op = o; reply = e.reply })) t.0 step in
              let k = took z (run_of z front) (asked_run z ok front was) u e.reply take (t.1).0 q a (t.1).1 (t.1).2 in
              record { before = front; behind = e ∷ []; split = refl; start = k.0; settled = k.1; answer = k.2 }
        ]
      ]

  -- what the unit was told was settled by then
  pub told_settled : (front rest : List (Entry I R D P)) → log ≡ front ++ rest → (q : Query P) (a : Answer D) → Contains (handed (trace_of u front)) (Ask q, Answered a) → WasSettled z front q a
  told_settled front rest same q a c =
      along z log (λ (l : List (Entry I R D P)). Contains (handed (trace_of u l)) (Ask q, Answered a) → WasSettled z l q a) run
      (λ front e behind split was s k c. elim (cases_Bool (eqb e.unit u)) [
        | inl b ↦ answer_case q a front e was s b k (subst (λ (t : Trace I R D P). Contains (handed t) (Ask q, Answered a)) (trace_in u front e b) c)
        | inr b ↦ settled_before z q a front e (k (subst (λ (t : Trace I R D P). Contains (handed t) (Ask q, Answered a)) (trace_out u front e b) c))
      ])
      [] front rest same (λ c. absurd (nothing_in (Ask q, Answered a) c)) c

  entry_case : (op : Op I R D P) (y : Reply I D P) (front : List (Entry I R D P)) (e : Entry I R D P) → IsWritten op → IsRun z front → IsStep z (run_of z front) e → eqb e.unit u ≡ true → (Contains (handed (trace_of u front)) (op, y) → HasEntry u front op) → Contains (handed (told_after (trace_of u front) e.op e.reply)) (op, y) → HasEntry u (front ++ e ∷ []) op
  entry_case op y front e written was s b k c =
      elim (handed_adds z (run_of z front) u (trace_of u front) e.op e.reply (op, y) (trace_tells z u front was) (meets_own front e s b) c) [
        | inl old ↦ entry_before u op front e (k old)
        | inr new ↦ elim new [
          | inl w ↦ record { before = front; entry = e; behind = []; split = refl; own = is_num e.unit u b; given = sym (ap (λ (p : Op I R D P × Reply I D P). p.0) w.0) }
          | inr t ↦ absurd (subst (λ (o : Op I R D P). IsWritten o) (ap (λ (p : Op I R D P × Reply I D P). p.0) (t.1).1) written)
        ]
      ]

  -- what the unit did is an entry
  pub did_entry : (front rest : List (Entry I R D P)) → log ≡ front ++ rest → (op : Op I R D P) (y : Reply I D P) → IsWritten op → Contains (handed (trace_of u front)) (op, y) → HasEntry u front op
  did_entry front rest same op y written c =
      along z log (λ (l : List (Entry I R D P)). Contains (handed (trace_of u l)) (op, y) → HasEntry u l op) run
      (λ front e behind split was s k c. elim (cases_Bool (eqb e.unit u)) [
        | inl b ↦ entry_case op y front e written was s b k (subst (λ (t : Trace I R D P). Contains (handed t) (op, y)) (trace_in u front e b) c)
        | inr b ↦ entry_before u op front e (k (subst (λ (t : Trace I R D P). Contains (handed t) (op, y)) (trace_out u front e b) c))
      ])
      [] front rest same (λ c. absurd (nothing_in (op, y) c)) c
