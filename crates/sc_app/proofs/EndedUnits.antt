-- What units did in a run, by their entries: who is not live has ended, by what it was told, and what it set is there.
use Rattle.std.proofs.Common.{◌≡◌, ℕ, ◌<◌, List, [], ◌∷◌, ◌++◌, ◌⊎◌, ◌&&◌, Option, Some, None, Bool, true, false, true≢false, cond, eqb, IsTrue, inl, inr, refl, sym, ◌∙◌, subst, lt-ltb}
use Rattle.std.specs.Cmp.{on_total}
use Rattle.std.specs.List.{Contains}
use Rattle.std.specs.Ordering.{on}
use Rattle.std.specs.declared.cmp.Ordering.TheVariants.{Equal}
use Rattle.std.proofs.lemmas.List.Elements.{Contains-append_left, Contains-append_right}
use Rattle.sg_base.specs.declared.scope.Scope.{Scope}
use Rattle.sg_base.specs.Graph.{HasScope, HasDatum}
use Rattle.sg_base.specs.Scope.{scope_cmp, scope_total}
use Rattle.sg_base.proofs.Finite.{Contains-head}
use Rattle.sg_base.proofs.Scopes.{equal_scope}
use Rattle.sg_core.specs.Core.{EndedWith}
use Rattle.sg_query.specs.declared.answer.Answer.{Answer}
use Rattle.sg_query.specs.declared.query.Query.{Query}
use Rattle.sg_query.specs.Answer.{IsAnswer}
use Rattle.sg_state.specs.Held.{HeldOf, HoldsDatum, IsHeld, with_datum}
use Rattle.sg_state.specs.Opening.{IsOpening}
use Rattle.sg_state.proofs.RisingLists.{Contains-put}
use Rattle.sg_trace.specs.Entries.{IsGiven, IsWritten, HasEntry}
use Rattle.sg_trace.specs.Tells.{trace_of}
use Rattle.sg_trace.proofs.Fronts.{along, front_follows, next_front, one_after}
use Rattle.sg_trace.proofs.Telling.{told_answers_stand, whole}
use Rattle.sg_trace.proofs.Traces.{did_entry, entry_before, gave_here}
use Rattle.sg_unit.specs.declared.entry.Entry.{Entry}
use Rattle.sg_unit.specs.declared.op.Op.{Op}
use Rattle.sg_unit.specs.declared.op.Op.TheVariants.{Fresh, AddEdge, SetDatum, CloseRow, Ask, Advance, Take, End}
use Rattle.sg_unit.specs.declared.reply.Reply.{Reply}
use Rattle.sg_unit.specs.declared.reply.Reply.TheVariants.{Answer as Answered}
use Rattle.sg_unit.specs.Operation.{goes_on}
use Rattle.sg_unit.specs.Orderly.{GaveAfter, WasTold}
use Rattle.sg_unit.specs.Run.{Setting, RunOf, units_of, asked_by, opened, held_after, after, run_of}
use Rattle.sg_unit.specs.Step.{IsStep, IsRun, Meets}
use Rattle.sg_unit.specs.Trace.{Past, handed, with_last}
use Rattle.sg_unit.proofs.Pasts.{before_in, split_at}
use Rattle.sg_unit.proofs.Steps.{IsSoundRun, front_run, opened_sound, run_sound}
use Rattle.sg_unit.proofs.Writes.{is_num}

module _ {I R D P : Type 0} where
  -- what a unit was handed it is handed still
  pub past_handed : (past : Past I R D P) (last : Option (Op I R D P)) (y : Option (Reply I D P)) (x : Op I R D P × Reply I D P) → Contains past x → Contains (with_last past last y) x
  past_handed past None y x c = c
  past_handed past (Some op) None x c = c
  past_handed past (Some op) (Some y) x c = Contains-append_left past ((op, y) ∷ []) x c

  -- an operation after which a unit does not go on is its end
  an_end : (op : Op I R D P) → goes_on op ≡ false → (x : R) × (op ≡ End x)
  an_end (Fresh labels datum) e = absurd (true≢false e)
  an_end (AddEdge from label to) e = absurd (true≢false e)
  an_end (SetDatum s d) e = absurd (true≢false e)
  an_end (CloseRow s l) e = absurd (true≢false e)
  an_end (Ask q) e = absurd (true≢false e)
  an_end Advance e = absurd (true≢false e)
  an_end Take e = absurd (true≢false e)
  an_end (End x) e = (x, refl)

stays_live : (c l g : Bool) → l ≡ true → (c ≡ true → g ≡ true) → cond c (l && g) l ≡ true
stays_live true true g l k = k refl
stays_live true false g l k = l
stays_live false b g l k = l

-- a datum that is set is there
datum_there : {D : Type 0} (h : HeldOf D) → IsHeld h → (u : ℕ) (s : Scope) (d : D) → HoldsDatum h u s → HasDatum (with_datum h u s d).graph s d
datum_there {D} h ok u s d k =
    (Contains-put (on (λ (p : Scope × D). p.0) scope_cmp) (on_total (λ (p : Scope × D). p.0) scope_total) h.graph.given (s, d) (λ y c e. absurd (given_before y c e)) (s, d)).1 (inr refl)
  where
    given_before : (y : Scope × D) → Contains h.graph.given y → scope_cmp s y.0 ≡ Equal → ⊥
    given_before y c e = ok.unset u s y.1 k (subst (λ (x : Scope). HasDatum h.graph x y.1) (sym (equal_scope s y.0 e)) c)

module _ {I R D P : Type 0} (z : Setting D P) (ok : IsOpening z.opening) (log : List (Entry I R D P)) (run : IsRun z log) where
  -- a unit is live, or one of the entries is its end
  live_or_ended : (front rest : List (Entry I R D P)) → log ≡ front ++ rest → (u : ℕ) → u < units_of z → IsTrue ((run_of z front).live u) ⊎ ((x : R) × HasEntry u front (End x))
  live_or_ended front rest same u within =
      along z log (λ (l : List (Entry I R D P)). IsTrue ((run_of z l).live u) ⊎ ((x : R) × HasEntry u l (End x))) run
      (λ before e behind split was st k. elim k [
        | inl live ↦ goes before e live (goes_on e.op) refl (eqb e.unit u) refl
        | inr done ↦ inr (done.0, entry_before u (End done.0) before e done.1)
      ])
      [] front rest same (inl (lt-ltb u (units_of z) within))
    where
      still : (before : List (Entry I R D P)) (e : Entry I R D P) → IsTrue ((run_of z before).live u) → (eqb e.unit u ≡ true → goes_on e.op ≡ true) → IsTrue ((run_of z (before ++ e ∷ [])).live u)
      still before e live k =
          subst (λ (r : RunOf D P). IsTrue (r.live u)) (sym (one_after z before e)) (stays_live (eqb e.unit u) ((run_of z before).live u) (goes_on e.op) live k)

      goes : (before : List (Entry I R D P)) (e : Entry I R D P) → IsTrue ((run_of z before).live u) → (g : Bool) → goes_on e.op ≡ g → (b : Bool) → eqb e.unit u ≡ b → IsTrue ((run_of z (before ++ e ∷ [])).live u) ⊎ ((x : R) × HasEntry u (before ++ e ∷ []) (End x))
      goes before e live true g b is = inl (still before e live (λ c. g))
      goes before e live false g false is = inl (still before e live (λ c. absurd (true≢false (sym c ∙ is))))
      goes before e live false g true is =
          let x = an_end e.op g in
          inr (x.0, record { before = before; entry = e; behind = []; split = refl; own = is_num e.unit u is; given = x.1 })

  -- who is not live has ended
  pub dead_has_ended : (u : ℕ) → u < units_of z → (IsTrue ((run_of z log).live u) → ⊥) → (x : R) × HasEntry u log (End x)
  dead_has_ended u within dead = elim (live_or_ended log [] (whole log) u within) [ inl live ↦ absurd (dead live) | inr ended ↦ ended ]

  pub ended_with : (u : ℕ) (x : R) → HasEntry u log (End x) → EndedWith log u x
  ended_with u x k =
      let there : Contains log k.entry = subst (λ (l : List (Entry I R D P)). Contains l k.entry) (sym k.split) (Contains-append_right k.before (k.entry ∷ k.behind) k.entry (Contains-head k.entry k.behind)) in
      let ends : Contains log (record { unit = k.entry.unit; op = End x; reply = k.entry.reply }) = subst (λ (o : Op I R D P). Contains log (record { unit = k.entry.unit; op = o; reply = k.entry.reply })) k.given there in
      (k.entry.reply, subst (λ (n : ℕ). Contains log (record { unit = n; op = End x; reply = k.entry.reply })) k.own ends)

  pub end_entry : (u : ℕ) (x : R) → EndedWith log u x → HasEntry u log (End x)
  end_entry u x c =
      let e : Entry I R D P = record { unit = u; op = End x; reply = c.0 } in
      let k = split_at log e c.1 in
      record { before = k.0; entry = e; behind = k.1; split = k.2; own = refl; given = refl }

  module _ (u : ℕ) (op : Op I R D P) (k : HasEntry u log op) where
    split_run : IsRun z (k.before ++ k.entry ∷ k.behind)
    split_run = subst (λ (l : List (Entry I R D P)). IsRun z l) k.split run

    sound_then : IsSoundRun z (run_of z k.before)
    sound_then = run_sound z (opened z) (opened_sound z ok) k.before (front_run z (opened z) k.before (k.entry ∷ k.behind) split_run).0

    step_then : IsStep z (run_of z k.before) k.entry
    step_then = ((front_run z (opened z) k.before (k.entry ∷ k.behind) split_run).1).0

    -- who has an entry is a unit
    pub entry_below : u < units_of z
    entry_below = subst (λ (n : ℕ). n < units_of z) k.own (sound_then.below k.entry.unit (step_then.may).0)

    -- the unit gave an entry's operation after what it was handed by then
    pub entry_after : IsGiven op → GaveAfter (trace_of u log).past (trace_of u log).last (handed (trace_of u k.before)) op
    entry_after given =
        subst (λ (o : Op I R D P). GaveAfter (trace_of u log).past (trace_of u log).last (handed (trace_of u k.before)) o) k.given
        (gave_here z ok log run u k.before k.entry k.behind k.split k.own (subst (λ (o : Op I R D P). IsGiven o) (sym k.given) given))

  module _ (u : ℕ) (before : Past I R D P) (op : Op I R D P) (came : GaveAfter (trace_of u log).past (trace_of u log).last before op) where
    pub in_handed : (x : Op I R D P × Reply I D P) → Contains before x → Contains (handed (trace_of u log)) x
    in_handed x c = past_handed (trace_of u log).past (trace_of u log).last (trace_of u log).reply x (before_in (trace_of u log).past (trace_of u log).last before op x came c)

    -- what a unit was told before is the answer at the end
    pub told_before : (q : Query P) (a : Answer D) → WasTold before q a → IsAnswer (run_of z log).held.graph (asked_by z q) a
    told_before q a t =
        subst (λ (l : List (Entry I R D P)). IsAnswer (run_of z l).held.graph (asked_by z q) a) (sym (whole log))
        (told_answers_stand I R D P z log [] u q a ok (subst (λ (l : List (Entry I R D P)). IsRun z l) (whole log) run) (in_handed (Ask q, Answered a) t)).1

    -- what it wrote before is an entry
    pub did_before : (x : Op I R D P) (y : Reply I D P) → IsWritten x → Contains before (x, y) → HasEntry u log x
    did_before x y written c = did_entry z ok log run u log [] (whole log) x y written (in_handed (x, y) c)

  -- a datum that was set is there at the end
  pub set_is_there : (u : ℕ) (s : Scope) (d : D) → HasEntry u log (SetDatum s d) → HasDatum (run_of z log).held.graph s d
  set_is_there u s d k =
      let op : Op I R D P = SetDatum s d in
      let r : RunOf D P = run_of z k.before in
      let meets : Meets z (HasScope r.held.graph) r k.entry.unit op = subst (λ (o : Op I R D P). Meets z (HasScope r.held.graph) r k.entry.unit o) k.given ((step_then u op k).may).1 in
      let now : HasDatum (held_after r.held k.entry.unit op).graph s d = datum_there r.held (sound_then u op k).held k.entry.unit s d meets.1 in
      let here : HasDatum (after r k.entry).held.graph s d = subst (λ (o : Op I R D P). HasDatum (held_after r.held k.entry.unit o).graph s d) (sym k.given) now in
      let there : HasDatum (run_of z (k.before ++ k.entry ∷ [])).held.graph s d = subst (λ (x : RunOf D P). HasDatum x.held.graph s d) (sym (one_after z k.before k.entry)) here in
      let all : log ≡ (k.before ++ k.entry ∷ []) ++ k.behind = k.split ∙ next_front k.before k.entry k.behind in
      subst (λ (l : List (Entry I R D P)). HasDatum (run_of z l).held.graph s d) (sym all)
      ((front_follows z ok (k.before ++ k.entry ∷ []) k.behind (subst (λ (l : List (Entry I R D P)). IsRun z l) all run)).extends.given s d there)
