-- Whether a run is over.
use Rattle.std.proofs.Common.{◌≡◌, ℕ, List, [], ◌∷◌, ◌&&◌, Bool, true, false, IsTrue, eqb, cond, inl, inr, refl, sym, ap, ◌∙◌, subst}
use Rattle.std.specs.List.{Contains}
use Rattle.sg_base.proofs.Finite.{nothing_in, Contains-cons}
use Rattle.sg_unit.specs.declared.entry.Entry.{Entry}
use Rattle.sg_unit.specs.declared.op.Op.{Op}
use Rattle.sg_unit.specs.declared.op.Op.TheVariants.{Fresh, AddEdge, SetDatum, CloseRow, Ask, Advance, Take, End}
use Rattle.sg_unit.specs.declared.reply.Reply.{Reply}
use Rattle.sg_unit.specs.declared.reply.Reply.TheVariants.{Made, Done, Moved, Ready, Suspended, Answer as Answered, Stuck}
use Rattle.sg_unit.specs.Law.{StuckRunsStayStuck, StuckIsTold, OwnEntriesEnd, EndIsTold}
use Rattle.sg_unit.specs.Run.{Setting, RunOf, opened, after, run_from, run_of}
use Rattle.sg_unit.specs.Step.{May, Replies, IsStep, IsRunFrom}
use Rattle.sg_unit.specs.Waiting.{IsStuck}
use Rattle.sg_unit.proofs.Steps.{front_run, run_append, was_live, opened_sound, run_sound}
use Rattle.sg_unit.proofs.Telling.{own_within, within_self}
use Rattle.sg_unit.proofs.Waiters.{IsWaitedRun, step_waited, run_waited, opened_waited}

-- who is told to wait keeps a stuck run stuck
still_stuck : (I R : Type 0) {D P : Type 0} (z : Setting D P) (r : RunOf D P) (u : ℕ) → IsStuck r → (let e : Entry I R D P = record { unit = u; op = Advance; reply = Suspended } in IsStuck (after r e))
still_stuck I R {D} {P} z r u s =
    let e : Entry I R D P = record { unit = u; op = Advance; reply = Suspended } in (
      ((s.0).0, lives (eqb u (s.0).0) (r.live (s.0).0) (s.0).1),
      λ v l. waits (eqb u v) (r.waits v) (s.1 v (was_live z r e v l)),
    )
  where
    lives : (b c : Bool) → IsTrue c → IsTrue (cond b (c && true) c)
    lives true true t = refl
    lives true false t = t
    lives false c t = t

    waits : (b c : Bool) → IsTrue c → IsTrue (cond b true (c && true))
    waits true c t = refl
    waits false true t = refl
    waits false false t = t

module _ {I R D P : Type 0} (z : Setting D P) where
  -- an entry of a unit that waits in a stuck run
  stuck_op : (r : RunOf D P) → IsWaitedRun z r → IsStuck r → (u : ℕ) (op : Op I R D P) (y : Reply I D P) → (w : IsTrue (r.waits u)) → May z r u op
      → (let e : Entry I R D P = record { unit = u; op = op; reply = y } in Replies z r (after r e) u op y → (op ≡ Advance) × (y ≡ Stuck) × IsStuck (after r e))
  stuck_op r ok halted u (Fresh labels datum) y w m s = absurd (let a = (ok.waiting u w).asks in let b = (m.1).0 in let e = sym b ∙ a in cc)
  stuck_op r ok halted u (AddEdge from label to) y w m s = absurd (let a = (ok.waiting u w).asks in let b = (m.1).0 in let e = sym b ∙ a in cc)
  stuck_op r ok halted u (SetDatum t d) y w m s = absurd (let a = (ok.waiting u w).asks in let b = (m.1).0 in let e = sym b ∙ a in cc)
  stuck_op r ok halted u (CloseRow t l) y w m s = absurd (let a = (ok.waiting u w).asks in let b = (m.1).0 in let e = sym b ∙ a in cc)
  stuck_op r ok halted u (Ask q) y w m s = absurd (let a = (ok.waiting u w).asks in let b = (m.1).0 in let e = sym b ∙ a in cc)
  stuck_op r ok halted u Advance Stuck w m s = let k = ok.waiting u w in (refl, refl, (s k.query k.count k.asks).1)
  stuck_op r ok halted u Advance Suspended w m s = let k = ok.waiting u w in absurd ((s k.query k.count k.asks).1 (still_stuck I R z r u halted))
  stuck_op r ok halted u Advance Moved w m s = let k = ok.waiting u w in absurd (let e = (s k.query k.count k.asks).0 in let f = sym e ∙ w in cc)
  stuck_op r ok halted u Advance Ready w m s = let k = ok.waiting u w in absurd (k.unsettled (s k.query k.count k.asks))
  stuck_op r ok halted u Advance (Made x) w m s = let k = ok.waiting u w in absurd (s k.query k.count k.asks)
  stuck_op r ok halted u Advance (Done ws) w m s = let k = ok.waiting u w in absurd (s k.query k.count k.asks)
  stuck_op r ok halted u Advance (Answered a) w m s = let k = ok.waiting u w in absurd (s k.query k.count k.asks)
  stuck_op r ok halted u Take y w m s = absurd (let a = (ok.waiting u w).asks in let b = (m.1).1 in let e = sym b ∙ a in cc)
  stuck_op r ok halted u (End x) y w m s = absurd (let a = (ok.waiting u w).asks in let b = m.1 in let e = sym b ∙ a in cc)

  stuck_step : (r : RunOf D P) → IsWaitedRun z r → IsStuck r → (e : Entry I R D P) → IsStep z r e → (e.op ≡ Advance) × (e.reply ≡ Stuck) × IsStuck (after r e)
  stuck_step r ok halted e s = stuck_op r ok halted e.unit e.op e.reply (halted.1 e.unit (s.may).0) s.may s.replies

  stuck_from : (r : RunOf D P) → IsWaitedRun z r → IsStuck r → (es : List (Entry I R D P)) → IsRunFrom z r es → IsStuck (run_from r es) × ((e : Entry I R D P) → Contains es e → (e.op ≡ Advance) × (e.reply ≡ Stuck))
  stuck_from r ok halted [] run = (halted, λ e c. absurd (nothing_in e c))
  stuck_from r ok halted (x ∷ es) run =
      let s = stuck_step r ok halted x run.0 in
      let more = stuck_from (after r x) (step_waited z r ok x run.0) s.2 es run.1 in (
        more.0,
        λ e c. elim (Contains-cons x e es c) [
          | inl same ↦ (ap (λ (i : Entry I R D P). i.op) same ∙ s.0, ap (λ (i : Entry I R D P). i.reply) same ∙ s.1)
          | inr k ↦ more.1 e k
        ],
      )

  -- who is told that every live unit waits
  told_op : (r next : RunOf D P) (u : ℕ) (op : Op I R D P) (y : Reply I D P) → y ≡ Stuck → May z r u op → Replies z r next u op y → IsStuck next
  told_op r next u (Fresh labels datum) y is m s = absurd (let e = sym is ∙ s in cc)
  told_op r next u (AddEdge from label to) y is m s = absurd (let e = sym is ∙ s in cc)
  told_op r next u (SetDatum t d) Stuck is m s = absurd s
  told_op r next u (SetDatum t d) (Made x) is m s = absurd (cc)
  told_op r next u (SetDatum t d) (Done ws) is m s = absurd (cc)
  told_op r next u (SetDatum t d) Moved is m s = absurd (cc)
  told_op r next u (SetDatum t d) Ready is m s = absurd (cc)
  told_op r next u (SetDatum t d) Suspended is m s = absurd (cc)
  told_op r next u (SetDatum t d) (Answered a) is m s = absurd (cc)
  told_op r next u (CloseRow t l) Stuck is m s = absurd s
  told_op r next u (CloseRow t l) (Made x) is m s = absurd (cc)
  told_op r next u (CloseRow t l) (Done ws) is m s = absurd (cc)
  told_op r next u (CloseRow t l) Moved is m s = absurd (cc)
  told_op r next u (CloseRow t l) Ready is m s = absurd (cc)
  told_op r next u (CloseRow t l) Suspended is m s = absurd (cc)
  told_op r next u (CloseRow t l) (Answered a) is m s = absurd (cc)
  told_op r next u (Ask q) y is m s = absurd (let e = sym is ∙ s in cc)
  told_op r next u Advance Stuck is m s = let a = m.1 in (s a.0 a.1 a.2).1
  told_op r next u Advance (Made x) is m s = absurd (cc)
  told_op r next u Advance (Done ws) is m s = absurd (cc)
  told_op r next u Advance Moved is m s = absurd (cc)
  told_op r next u Advance Ready is m s = absurd (cc)
  told_op r next u Advance Suspended is m s = absurd (cc)
  told_op r next u Advance (Answered a) is m s = absurd (cc)
  told_op r next u Take y is m s = absurd (let e = sym is ∙ s.1 in cc)
  told_op r next u (End x) Stuck is m s = s.1
  told_op r next u (End x) (Made v) is m s = absurd (cc)
  told_op r next u (End x) (Done ws) is m s = absurd (cc)
  told_op r next u (End x) Moved is m s = absurd (cc)
  told_op r next u (End x) Ready is m s = absurd (cc)
  told_op r next u (End x) Suspended is m s = absurd (cc)
  told_op r next u (End x) (Answered a) is m s = absurd (cc)

  stuck_told : (r : RunOf D P) → IsWaitedRun z r → (es : List (Entry I R D P)) → IsRunFrom z r es → (e : Entry I R D P) → Contains es e → e.reply ≡ Stuck → IsStuck (run_from r es)
  stuck_told r ok [] run e c y = absurd (nothing_in e c)
  stuck_told r ok (x ∷ es) run e c y =
      let next : IsWaitedRun z (after r x) = step_waited z r ok x run.0 in
      elim (Contains-cons x e es c) [
        | inl same ↦ (stuck_from (after r x) next (told_op r (after r x) x.unit x.op x.reply (ap (λ (i : Entry I R D P). i.reply) (sym same) ∙ y) (run.0).may (run.0).replies) es run.1).0
        | inr k ↦ stuck_told (after r x) next es run.1 e k y
      ]

pub stuck_runs_stay_stuck : (I R D P : Type 0) → StuckRunsStayStuck I R D P
stuck_runs_stay_stuck I R D P z log more ok run halted =
    let parts = front_run z (opened z) log more run in
    let there = stuck_from z (run_of z log) (run_waited z (opened z) (opened_waited z ok) log parts.0) halted more parts.1 in
    (subst (λ (r : RunOf D P). IsStuck r) (sym (run_append (opened z) log more)) there.0, there.1)

pub stuck_is_told : (I R D P : Type 0) → StuckIsTold I R D P
stuck_is_told I R D P z log e ok run c y = stuck_told z (opened z) (opened_waited z ok) log run e c y

pub own_entries_end : (I R D P : Type 0) → OwnEntriesEnd I R D P
own_entries_end I R D P z log u = ((own_within u (opened z) (opened z) (within_self u (opened z)) log).alike).live

pub end_is_told : (I R D P : Type 0) → EndIsTold I R D P
end_is_told I R D P z log ok run ended u live =
    let below = (run_sound z (opened z) (opened_sound z ok) log run).below u live in
    absurd (let e = sym (ended u below) ∙ sym (own_entries_end I R D P z log u) ∙ live in cc)
