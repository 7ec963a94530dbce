-- Open and ready asks in a run.
use Rattle.std.proofs.Common.{◌≡◌, ℕ, ◌<◌, List, [], ◌∷◌, ◌⊎◌, Bool, eqb, cond, inl, inr, refl, sym, ap, subst, length}
use Rattle.std.proofs.lemmas.Bool.{cases_Bool}
use Rattle.sg_base.specs.Graph.{HasScope}
use Rattle.sg_query.specs.declared.answer.Answer.{Answer}
use Rattle.sg_query.specs.declared.query.Query.{Query}
use Rattle.sg_query.specs.Answer.{IsAnswer}
use Rattle.sg_query.specs.State.{IsSettled}
use Rattle.sg_query.proofs.Settling.{settled_stay_settled}
use Rattle.sg_query.proofs.Settling.{settled_stable}
use Rattle.sg_state.specs.Held.{state_of}
use Rattle.sg_state.specs.Opening.{IsOpening}
use Rattle.sg_unit.specs.declared.entry.Entry.{Entry}
use Rattle.sg_unit.specs.declared.op.Op.{Op}
use Rattle.sg_unit.specs.declared.op.Op.TheVariants.{Fresh, AddEdge, SetDatum, CloseRow, Ask, Advance, Take, End}
use Rattle.sg_unit.specs.declared.reply.Reply.{Reply}
use Rattle.sg_unit.specs.declared.reply.Reply.TheVariants.{Made, Done, Moved, Ready, Suspended, Answer as Answered, Stuck}
use Rattle.sg_unit.specs.Law.{AnswersLast}
use Rattle.sg_unit.specs.Run.{Setting, RunOf, Asking, no_ask, open_ask, ready_ask, asked_by, opened, held_after, ask_after, after, run_from, run_of, IsFor}
use Rattle.sg_unit.specs.Step.{May, IsStep, IsRunFrom, taken}
use Rattle.sg_unit.proofs.Steps.{IsSoundRun, op_follows, step_sound, opened_sound, front_run, run_append, run_follows}
use Rattle.sg_unit.proofs.Writes.{is_num}

module _ {I R D P : Type 0} where
  -- how an ask becomes ready
  pub made_ready : (a : Asking P) (op : Op I R D P) (y : Reply I D P) (q : Query P) → ask_after a op y ≡ ready_ask q → (a ≡ ready_ask q) ⊎ ((op ≡ Advance) × (y ≡ Ready) × ((m : ℕ) × (a ≡ open_ask q m)))
  made_ready a (Fresh labels datum) y q e = inl e
  made_ready a (AddEdge from label to) y q e = inl e
  made_ready a (SetDatum s d) y q e = inl e
  made_ready a (CloseRow s l) y q e = inl e
  made_ready a (Ask x) y q e = absurd (cc)
  made_ready no_ask Advance y q e = absurd (cc)
  made_ready (ready_ask x) Advance y q e = inl e
  made_ready (open_ask x m) Advance Ready q e = let same : x ≡ q = cc in inr (refl, refl, (m, ap (λ (t : Query P). open_ask t m) same))
  made_ready (open_ask x m) Advance Moved q e = absurd (cc)
  made_ready (open_ask x m) Advance Suspended q e = absurd (cc)
  made_ready (open_ask x m) Advance Stuck q e = absurd (cc)
  made_ready (open_ask x m) Advance (Made s) q e = absurd (cc)
  made_ready (open_ask x m) Advance (Done ws) q e = absurd (cc)
  made_ready (open_ask x m) Advance (Answered b) q e = absurd (cc)
  made_ready a Take y q e = absurd (cc)
  made_ready a (End x) y q e = inl e

  -- where the query of an ask is from
  pub made_for : (a : Asking P) (op : Op I R D P) (y : Reply I D P) (q : Query P) → IsFor (ask_after a op y) q → IsFor a q ⊎ (op ≡ Ask q)
  made_for a (Fresh labels datum) y q e = inl e
  made_for a (AddEdge from label to) y q e = inl e
  made_for a (SetDatum s d) y q e = inl e
  made_for a (CloseRow s l) y q e = inl e
  made_for a (Ask x) y q e = inr (ap (λ (t : Query P). let o : Op I R D P = Ask t in o) e)
  made_for no_ask Advance y q e = absurd e
  made_for (ready_ask x) Advance y q e = inl e
  made_for (open_ask x m) Advance Ready q e = inl e
  made_for (open_ask x m) Advance Moved q e = inl e
  made_for (open_ask x m) Advance Suspended q e = inl e
  made_for (open_ask x m) Advance Stuck q e = inl e
  made_for (open_ask x m) Advance (Made s) q e = inl e
  made_for (open_ask x m) Advance (Done ws) q e = inl e
  made_for (open_ask x m) Advance (Answered b) q e = inl e
  made_for a Take y q e = absurd e
  made_for a (End x) y q e = inl e

-- the starts of asks are there, their kinds are in the table, and what is ready is settled
pub record IsAskedRun {D P : Type 0} (z : Setting D P) (r : RunOf D P) : Type 0 where
  pub sound : IsSoundRun z r
  pub starts : (u : ℕ) (q : Query P) → IsFor (r.asks u) q → HasScope r.held.graph q.start
  pub kinds : (u : ℕ) (q : Query P) → IsFor (r.asks u) q → q.kind < length z.kinds
  pub settled : (u : ℕ) (q : Query P) → r.asks u ≡ ready_ask q → IsSettled (state_of r.held) (asked_by z q)

pub ready_for : {P : Type 0} (a : Asking P) (q : Query P) → a ≡ ready_ask q → IsFor a q
ready_for {P} a q e = subst (λ (x : Asking P). IsFor x q) (sym e) refl

module _ {I R D P : Type 0} (z : Setting D P) where
  own_ask : (r : RunOf D P) → IsAskedRun z r → (u : ℕ) (op : Op I R D P) (y : Reply I D P) → IsStep z r (record { unit = u; op = op; reply = y }) → (q : Query P) → IsFor (ask_after (r.asks u) op y) q → HasScope (held_after r.held u op).graph q.start
  own_ask r ok u op y s q f =
      elim (made_for (r.asks u) op y q f) [
        | inl k ↦ (op_follows z r ok.sound u op s.may).extends.scopes q.start (ok.starts u q k)
        | inr e ↦ let o : Op I R D P = Ask q in let m : May z r u o = subst (λ (x : Op I R D P). May z r u x) e s.may in
            (op_follows z r ok.sound u op s.may).extends.scopes q.start (m.1).2
      ]

  own_kind : (r : RunOf D P) → IsAskedRun z r → (u : ℕ) (op : Op I R D P) (y : Reply I D P) → IsStep z r (record { unit = u; op = op; reply = y }) → (q : Query P) → IsFor (ask_after (r.asks u) op y) q → q.kind < length z.kinds
  own_kind r ok u op y s q f =
      elim (made_for (r.asks u) op y q f) [
        | inl k ↦ ok.kinds u q k
        | inr e ↦ let o : Op I R D P = Ask q in let m : May z r u o = subst (λ (x : Op I R D P). May z r u x) e s.may in (m.1).1
      ]

  still_settled : (r : RunOf D P) → IsAskedRun z r → (u : ℕ) (op : Op I R D P) → May z r u op → (v : ℕ) (q : Query P) → IsFor (r.asks v) q → IsSettled (state_of r.held) (asked_by z q) → IsSettled (state_of (held_after r.held u op)) (asked_by z q)
  still_settled r ok u op m v q f s =
      (settled_stay_settled D (state_of r.held) (state_of (held_after r.held u op)) (asked_by z q) (ok.sound.held).graph (ok.starts v q f) (op_follows z r ok.sound u op m) s).0

  own_settled : (r : RunOf D P) → IsAskedRun z r → (u : ℕ) (op : Op I R D P) (y : Reply I D P) → IsStep z r (record { unit = u; op = op; reply = y }) → (q : Query P) → ask_after (r.asks u) op y ≡ ready_ask q → IsSettled (state_of (held_after r.held u op)) (asked_by z q)
  own_settled r ok u op y s q f =
      elim (made_ready (r.asks u) op y q f) [
        | inl k ↦ still_settled r ok u op s.may u q (ready_for (r.asks u) q k) (ok.settled u q k)
        | inr k ↦
            let step : IsStep z r (record { unit = u; op = Advance; reply = Ready }) =
            subst (λ (x : Op I R D P). IsStep z r (record { unit = u; op = x; reply = Ready })) k.0
            (subst (λ (x : Reply I D P). IsStep z r (record { unit = u; op = op; reply = x })) k.1 s) in
            subst (λ (x : Op I R D P). IsSettled (state_of (held_after r.held u x)) (asked_by z q)) (sym k.0) (step.replies q (k.2).0 (k.2).1)
      ]

  pub step_asked : (r : RunOf D P) → IsAskedRun z r → (e : Entry I R D P) → IsStep z r e → IsAskedRun z (after r e)
  step_asked r ok e s =
      record {
        sound = step_sound z r ok.sound e s;
        starts = λ u q f.
            elim (cases_Bool (eqb e.unit u)) [
              | inl b ↦
                  let own : IsFor (ask_after (r.asks u) e.op e.reply) q = subst (λ (c : Bool). IsFor (cond c (ask_after (r.asks u) e.op e.reply) (r.asks u)) q) b f in
                  own_ask r ok e.unit e.op e.reply s q (subst (λ (n : ℕ). IsFor (ask_after (r.asks n) e.op e.reply) q) (sym (is_num e.unit u b)) own)
              | inr b ↦
                  let other : IsFor (r.asks u) q = subst (λ (c : Bool). IsFor (cond c (ask_after (r.asks u) e.op e.reply) (r.asks u)) q) b f in
                  (op_follows z r ok.sound e.unit e.op s.may).extends.scopes q.start (ok.starts u q other)
            ];
        kinds = λ u q f.
            elim (cases_Bool (eqb e.unit u)) [
              | inl b ↦
                  let own : IsFor (ask_after (r.asks u) e.op e.reply) q = subst (λ (c : Bool). IsFor (cond c (ask_after (r.asks u) e.op e.reply) (r.asks u)) q) b f in
                  own_kind r ok e.unit e.op e.reply s q (subst (λ (n : ℕ). IsFor (ask_after (r.asks n) e.op e.reply) q) (sym (is_num e.unit u b)) own)
              | inr b ↦ ok.kinds u q (subst (λ (c : Bool). IsFor (cond c (ask_after (r.asks u) e.op e.reply) (r.asks u)) q) b f)
            ];
        settled = λ u q f.
            elim (cases_Bool (eqb e.unit u)) [
              | inl b ↦
                  let own : ask_after (r.asks u) e.op e.reply ≡ ready_ask q = subst (λ (c : Bool). cond c (ask_after (r.asks u) e.op e.reply) (r.asks u) ≡ ready_ask q) b f in
                  own_settled r ok e.unit e.op e.reply s q (subst (λ (n : ℕ). ask_after (r.asks n) e.op e.reply ≡ ready_ask q) (sym (is_num e.unit u b)) own)
              | inr b ↦
                  let other : r.asks u ≡ ready_ask q = subst (λ (c : Bool). cond c (ask_after (r.asks u) e.op e.reply) (r.asks u) ≡ ready_ask q) b f in
                  still_settled r ok e.unit e.op s.may u q (ready_for (r.asks u) q other) (ok.settled u q other)
            ];
      }

  pub run_asked : (r : RunOf D P) → IsAskedRun z r → (es : List (Entry I R D P)) → IsRunFrom z r es → IsAskedRun z (run_from r es)
  run_asked r ok [] s = ok
  run_asked r ok (e ∷ es) s = run_asked (after r e) (step_asked r ok e s.0) es s.1

pub opened_asked : {D P : Type 0} (z : Setting D P) → IsOpening z.opening → IsAskedRun z (opened z)
opened_asked z ok = record { sound = opened_sound z ok; starts = λ u q f. absurd f; kinds = λ u q f. absurd f; settled = λ u q f. absurd (cc) }

pub answers_last : (I R D P : Type 0) → AnswersLast I R D P
answers_last I R D P z log more u a q ok run is_ready =
    let parts = front_run z (opened z) log (taken u a ∷ more) run in
    let now : IsAskedRun z (run_of z log) = run_asked z (opened z) (opened_asked z ok) log parts.0 in
    let step : IsStep z (run_of z log) (taken u a) = (parts.1).0 in
    let here : IsAnswer (run_of z log).held.graph (asked_by z q) a =
    let given = step.replies in
    let same : a ≡ given.0 = (let e = given.1 in cc) in
    subst (λ (b : Answer D). IsAnswer (run_of z log).held.graph (asked_by z q) b) (sym same) (given.2 q is_ready) in
    let follows = run_follows z (run_of z log) now.sound (taken u a ∷ more) parts.1 in
    let last : IsAnswer (run_from (run_of z log) (taken u a ∷ more)).held.graph (asked_by z q) a =
    (settled_stable D (state_of (run_of z log).held) (run_from (run_of z log) (taken u a ∷ more)).held.graph (asked_by z q) a (now.sound.held).graph (now.starts u q (ready_for ((run_of z log).asks u) q is_ready)) (now.settled u q is_ready) follows.extends).1 here in
    subst (λ (x : RunOf D P). IsAnswer x.held.graph (asked_by z q) a) (sym (run_append (opened z) log (taken u a ∷ more))) last
