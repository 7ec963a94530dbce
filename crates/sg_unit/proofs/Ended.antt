-- Units that have ended.
use Rattle.std.proofs.Common.{◌≡◌, ℕ, List, [], ◌∷◌, ◌++◌, ◌&&◌, Bool, true, false, IsTrue, eqb, cond, inl, inr, refl, sym, ap, ◌∙◌, subst}
use Rattle.std.proofs.lemmas.Bool.{cases_Bool}
use Rattle.sg_base.specs.Graph.{HasScope}
use Rattle.sg_query.specs.declared.answer.Answer.{Answer}
use Rattle.sg_query.specs.declared.query.Query.{Query}
use Rattle.sg_unit.specs.declared.entry.Entry.{Entry}
use Rattle.sg_unit.specs.declared.op.Op.{Op}
use Rattle.sg_unit.specs.declared.op.Op.TheVariants.{Fresh, AddEdge, SetDatum, CloseRow, Ask, Advance, Take, End}
use Rattle.sg_unit.specs.declared.reply.Reply.{Reply}
use Rattle.sg_unit.specs.Law.{EndedUnitsAskNothing, EndedUnitsTook}
use Rattle.sg_unit.specs.Operation.{goes_on}
use Rattle.sg_unit.specs.Run.{Setting, RunOf, Asking, no_ask, ready_ask, opened, advanced, ask_after, after, run_from, run_of, NoAsk, IsFor}
use Rattle.sg_unit.specs.Step.{Meets, IsStep, IsRunFrom, asks, taken}
use Rattle.sg_unit.proofs.Steps.{front_run, run_append}
use Rattle.sg_unit.proofs.Tracing.{no_ask_for, advanced_for}
use Rattle.sg_unit.proofs.Writes.{is_num, num_is}

live_not : (b : Bool) → IsTrue b → b ≡ false → ⊥
live_not true t e = cc
live_not false t e = cc

for_same : {P : Type 0} (a : Asking P) (q x : Query P) → IsFor a q → a ≡ ready_ask x → x ≡ q
for_same {P} a q x f e = subst (λ (b : Asking P). IsFor b q) e f

-- who has ended asks nothing
abbrev EndedAskNothing : {D P : Type 0} → RunOf D P → Type 0
EndedAskNothing r = (u : ℕ) → r.live u ≡ false → NoAsk r u

module _ {I R D P : Type 0} (z : Setting D P) where
  own_end : (r : RunOf D P) (u : ℕ) (op : Op I R D P) (y : Reply I D P) → IsTrue (r.live u) → Meets z (HasScope r.held.graph) r u op → (r.live u && goes_on op) ≡ false → ask_after (r.asks u) op y ≡ no_ask
  own_end r u (Fresh labels datum) y live m e = m.0
  own_end r u (AddEdge from label to) y live m e = m.0
  own_end r u (SetDatum s d) y live m e = m.0
  own_end r u (CloseRow s l) y live m e = m.0
  own_end r u (Ask q) y live m e = absurd (goes (r.live u) live e)
    where
      goes : (b : Bool) → IsTrue b → (b && true) ≡ false → ⊥
      goes true t e = cc
      goes false t e = cc
  own_end r u Advance y live m e = absurd (goes (r.live u) live e)
    where
      goes : (b : Bool) → IsTrue b → (b && true) ≡ false → ⊥
      goes true t e = cc
      goes false t e = cc
  own_end r u Take y live m e = refl
  own_end r u (End x) y live m e = m

  step_ended : (r : RunOf D P) → EndedAskNothing r → (e : Entry I R D P) → IsStep z r e → EndedAskNothing (after r e)
  step_ended r ok e s u ended =
      elim (cases_Bool (eqb e.unit u)) [
        | inl b ↦
            let same : e.unit ≡ u = is_num e.unit u b in
            let over : (r.live u && goes_on e.op) ≡ false = subst (λ (c : Bool). cond c (r.live u && goes_on e.op) (r.live u) ≡ false) b ended in
            let live : IsTrue (r.live u) = subst (λ (n : ℕ). IsTrue (r.live n)) same (s.may).0 in
            let meets : Meets z (HasScope r.held.graph) r u e.op = subst (λ (n : ℕ). Meets z (HasScope r.held.graph) r n e.op) same (s.may).1 in
            subst (λ (c : Bool). cond c (ask_after (r.asks u) e.op e.reply) (r.asks u) ≡ no_ask) (sym b) (own_end r u e.op e.reply live meets over)
        | inr b ↦
            let over : r.live u ≡ false = subst (λ (c : Bool). cond c (r.live u && goes_on e.op) (r.live u) ≡ false) b ended in
            subst (λ (c : Bool). cond c (ask_after (r.asks u) e.op e.reply) (r.asks u) ≡ no_ask) (sym b) (ok u over)
      ]

  run_ended : (r : RunOf D P) → EndedAskNothing r → (es : List (Entry I R D P)) → IsRunFrom z r es → EndedAskNothing (run_from r es)
  run_ended r ok [] s = ok
  run_ended r ok (e ∷ es) s = run_ended (after r e) (step_ended r ok e s.0) es s.1

  -- ---- its take

  -- the run goes on to the take of the query
  abbrev Takes : RunOf D P → List (Entry I R D P) → ℕ → Query P → Type 0
  Takes r es u q = (between : List (Entry I R D P)) × (rest : List (Entry I R D P)) × (a : Answer D) × (es ≡ between ++ taken u a ∷ rest) × ((run_from r between).asks u ≡ ready_ask q)

  later : (r : RunOf D P) (e : Entry I R D P) (es : List (Entry I R D P)) (u : ℕ) (q : Query P) → Takes (after r e) es u q → Takes r (e ∷ es) u q
  later r e es u q t = (e ∷ t.0, t.1, t.2, ap (λ (i : List (Entry I R D P)). e ∷ i) t.3, t.4)

  takes_own : (r : RunOf D P) (u : ℕ) (q : Query P) (op : Op I R D P) (y : Reply I D P) (es : List (Entry I R D P)) → IsFor (r.asks u) q → IsStep z r (record { unit = u; op = op; reply = y }) → (IsFor ((after r (record { unit = u; op = op; reply = y })).asks u) q → Takes (after r (record { unit = u; op = op; reply = y })) es u q) → Takes r (record { unit = u; op = op; reply = y } ∷ es) u q
  takes_own r u q (Fresh labels datum) y es f s more = absurd (no_ask_for (r.asks u) q (s.may).1.0 f)
  takes_own r u q (AddEdge from label to) y es f s more = absurd (no_ask_for (r.asks u) q (s.may).1.0 f)
  takes_own r u q (SetDatum x d) y es f s more = absurd (no_ask_for (r.asks u) q (s.may).1.0 f)
  takes_own r u q (CloseRow x l) y es f s more = absurd (no_ask_for (r.asks u) q (s.may).1.0 f)
  takes_own r u q (Ask x) y es f s more = absurd (no_ask_for (r.asks u) q (s.may).1.0 f)
  takes_own r u q (End x) y es f s more = absurd (no_ask_for (r.asks u) q (s.may).1 f)
  takes_own r u q Advance y es f s more =
      let still : IsFor (cond (eqb u u) (advanced (r.asks u) y) (r.asks u)) q = subst (λ (c : Bool). IsFor (cond c (advanced (r.asks u) y) (r.asks u)) q) (sym (num_is u)) (advanced_for (r.asks u) y q f) in
      later r (record { unit = u; op = Advance; reply = y }) es u q (more still)
  takes_own r u q Take y es f s more =
      let given = s.replies in
      let at = (s.may).1 in
      ([], es, given.0, ap (λ (i : Reply I D P). let e : Entry I R D P = record { unit = u; op = Take; reply = i } in e ∷ es) given.1, at.1 ∙ ap (λ (i : Query P). ready_ask i) (for_same (r.asks u) q at.0 f at.1))

  takes : (r : RunOf D P) (u : ℕ) (q : Query P) (es : List (Entry I R D P)) → IsFor (r.asks u) q → IsRunFrom z r es → NoAsk (run_from r es) u → Takes r es u q
  takes r u q [] f run none = absurd (no_ask_for (r.asks u) q none f)
  takes r u q (e ∷ es) f run none =
      elim (cases_Bool (eqb e.unit u)) [
        | inl b ↦
            let same : e.unit ≡ u = is_num e.unit u b in
            let own : IsStep z r (record { unit = e.unit; op = e.op; reply = e.reply }) → (IsFor ((after r e).asks e.unit) q → Takes (after r e) es e.unit q) → Takes r (e ∷ es) e.unit q =
            takes_own r e.unit q e.op e.reply es (subst (λ (n : ℕ). IsFor (r.asks n) q) (sym same) f) in
            subst (λ (n : ℕ). Takes r (e ∷ es) n q) same (own run.0 (λ g. takes (after r e) e.unit q es g run.1 (subst (λ (n : ℕ). NoAsk (run_from (after r e) es) n) (sym same) none)))
        | inr b ↦
            let still : IsFor ((after r e).asks u) q = subst (λ (c : Bool). IsFor (cond c (ask_after (r.asks u) e.op e.reply) (r.asks u)) q) (sym b) f in
            later r e es u q (takes (after r e) u q es still run.1 none)
      ]

pub ended_ask_nothing : (I R D P : Type 0) → EndedUnitsAskNothing I R D P
ended_ask_nothing I R D P z log u run over = run_ended z (opened z) (λ v e. refl) log run u over

pub ended_took : (I R D P : Type 0) → EndedUnitsTook I R D P
ended_took I R D P z before behind u q y run over =
    let e : Entry I R D P = asks u q y in
    let parts = front_run z (opened z) before (e ∷ behind) run in
    let r : RunOf D P = run_of z before in
    let none : NoAsk (run_of z (before ++ e ∷ behind)) u = ended_ask_nothing I R D P z (before ++ e ∷ behind) u run over in
    let last : NoAsk (run_from (after r e) behind) u = subst (λ (x : RunOf D P). NoAsk x u) (run_append (opened z) before (e ∷ behind)) none in
    let own : IsFor ((after r e).asks u) q = subst (λ (c : Bool). IsFor (cond c (ask_after (r.asks u) e.op y) (r.asks u)) q) (sym (num_is u)) refl in
    let t = takes z (after r e) u q behind own (parts.1).1 last in
    (t.0, t.1, t.2, t.3, subst (λ (x : RunOf D P). x.asks u ≡ ready_ask q) (sym (run_append (opened z) before (e ∷ t.0))) t.4)
