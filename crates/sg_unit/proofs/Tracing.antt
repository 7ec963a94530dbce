-- The entries that a trace stands for leave a unit where its own entries left it.
use Rattle.std.proofs.Common.{◌≡◌, ℕ, List, [], ◌∷◌, ◌++◌, ◌⊎◌, ◌↔◌, ◌&&◌, Bool, true, false, IsTrue, Option, Some, None, eqb, cond, inl, inr, refl, sym, ap, ◌∙◌, subst, append_assoc, length, slice_index}
use Rattle.std.proofs.lemmas.List.{append-nil}
use Rattle.std.proofs.lemmas.List.Elements.{Contains-append_left, Contains-append_cases}
use Rattle.std.specs.List.{Contains}
use Rattle.sg_base.specs.declared.scope.Scope.{Scope}
use Rattle.sg_base.specs.Graph.{HasScope}
use Rattle.sg_base.proofs.Finite.{nothing_in, single, Contains-head, Contains-tail, Contains-cons}
use Rattle.sg_query.specs.declared.answer.Answer.{Answer}
use Rattle.sg_query.specs.declared.query.Query.{Query}
use Rattle.sg_state.specs.Held.{HeldOf, HoldsRow, HoldsDatum}
use Rattle.sg_unit.specs.declared.entry.Entry.{Entry}
use Rattle.sg_unit.specs.declared.op.Op.{Op}
use Rattle.sg_unit.specs.declared.op.Op.TheVariants.{Fresh, AddEdge, SetDatum, CloseRow, Ask, Advance, Take, End}
use Rattle.sg_unit.specs.declared.reply.Reply.{Reply}
use Rattle.sg_unit.specs.declared.reply.Reply.TheVariants.{Made, Done, Moved, Ready, Suspended, Answer as Answered, Stuck}
use Rattle.sg_unit.specs.Law.{TracesAllow, TracesHand, TracesTell}
use Rattle.sg_unit.specs.Own.{own, KnowsScope, CanReply, IsOwnRunFrom, IsOwnRun}
use Rattle.sg_unit.specs.Run.{Setting, RunOf, Asking, no_ask, open_ask, ready_ask, opened, advanced, ask_after, after, run_from, run_of, NoAsk, IsOpenAsk, IsReadyAsk, IsFor}
use Rattle.sg_unit.specs.Step.{Meets}
use Rattle.sg_unit.specs.Trace.{Past, Trace, with_last, handed, told_after, told_from, untold, told, entries_for, entries_of, CanHand, IsHanded}
use Rattle.sg_unit.proofs.Steps.{run_append}
use Rattle.sg_unit.proofs.Telling.{IsWithin, own_step, own_within, meets_alike, within_self, alike_back, own_allow, own_entries_run}
use Rattle.sg_unit.proofs.Writes.{num_is}

pub no_ask_for : {P : Type 0} (a : Asking P) (q : Query P) → a ≡ no_ask → IsFor a q → ⊥
no_ask_for {P} a q e f = subst (λ (x : Asking P). IsFor x q) e f

live_same : (b l : Bool) → cond b (l && true) l ≡ l
live_same true true = refl
live_same true false = refl
live_same false l = refl

not_live : (b l : Bool) → b ≡ true → IsTrue (cond b (l && false) l) → ⊥
not_live true true e k = absurd (cc)
not_live true false e k = absurd (cc)
not_live false l e k = absurd (cc)

-- a run with the same for the unit can take a run's place
swapped : {D P : Type 0} (u : ℕ) (a b x : RunOf D P) → a.held ≡ b.held → a.live u ≡ b.live u → a.asks u ≡ b.asks u → IsWithin u a x → IsWithin u b x
swapped {D} u a b x held live asks w = record {
  alike = record {
    rows = λ s l. subst (λ (h : HeldOf D). (HoldsRow h u s l) ↔ (HoldsRow x.held u s l)) held ((w.alike).rows s l);
    data_at = λ s. subst (λ (h : HeldOf D). (HoldsDatum h u s) ↔ (HoldsDatum x.held u s)) held ((w.alike).data_at s);
    made = subst (λ (h : HeldOf D). slice_index h.made u ≡ slice_index x.held.made u) held (w.alike).made;
    long = subst (λ (h : HeldOf D). length h.made ≡ length x.held.made) held (w.alike).long;
    live = sym live ∙ (w.alike).live;
    asks = sym asks ∙ (w.alike).asks;
  };
  scopes = λ s c. subst (λ (h : HeldOf D). HasScope h.graph s) held (w.scopes s c);
}

pub advanced_for : {I D P : Type 0} (a : Asking P) (y : Reply I D P) (q : Query P) → IsFor a q → IsFor (advanced a y) q
advanced_for no_ask y q f = absurd f
advanced_for (ready_ask x) y q f = f
advanced_for (open_ask x m) (Made s) q f = f
advanced_for (open_ask x m) (Done ws) q f = f
advanced_for (open_ask x m) Moved q f = f
advanced_for (open_ask x m) Ready q f = f
advanced_for (open_ask x m) Suspended q f = f
advanced_for (open_ask x m) (Answered a) q f = f
advanced_for (open_ask x m) Stuck q f = f

module _ {I R D P : Type 0} where
  entries_append : (u : ℕ) (xs ys : Past I R D P) → entries_of u (xs ++ ys) ≡ entries_of u xs ++ entries_of u ys
  entries_append u [] ys = refl
  entries_append u (x ∷ xs) ys = ap (λ (t : List (Entry I R D P)). entries_for u x.0 x.1 ++ t) (entries_append u xs ys) ∙ sym (append_assoc (entries_for u x.0 x.1) (entries_of u xs) (entries_of u ys))

  abbrev entry : ℕ → Op I R D P → Reply I D P → Entry I R D P
  entry u op y = record { unit = u; op = op; reply = y }

  own_asks : (r : RunOf D P) (u : ℕ) (op : Op I R D P) (y : Reply I D P) → (after r (entry u op y)).asks u ≡ ask_after (r.asks u) op y
  own_asks r u op y = subst (λ (c : Bool). cond c (ask_after (r.asks u) op y) (r.asks u) ≡ ask_after (r.asks u) op y) (sym (num_is u)) refl

-- ---- the entries that a trace stands for leave a unit where its own entries left it

module _ {I R D P : Type 0} (z : Setting D P) (u : ℕ) where
  -- the run of the entries that a trace stands for
  abbrev short : Past I R D P → RunOf D P
  short past = run_of z (entries_of u past)

  -- the run of a unit's own entries is where its trace says
  abbrev Fits : RunOf D P → Past I R D P → Option (Op I R D P) → Option (Reply I D P) → Type 0
  Fits r past None None = IsWithin u r (short past) × NoAsk r u × (past ≡ [])
  Fits r past None (Some y) = ⊥
  Fits r past (Some op) (Some y) = IsWithin u r (short (past ++ (op, y) ∷ [])) × NoAsk r u × (IsTrue (r.live u) → CanHand z u past op y)
  Fits r past (Some op) None = (q : Query P) × (op ≡ Ask q) × IsFor (r.asks u) q × ((t : RunOf D P) × IsWithin u t (short past) × NoAsk t u × (r.held ≡ t.held) × (r.live u ≡ t.live u))

  fits_handed : (r : RunOf D P) (past : Past I R D P) (last : Option (Op I R D P)) (y : Option (Reply I D P)) → Fits r past last y → NoAsk r u → IsWithin u r (short (with_last past last y))
  fits_handed r past None None f n = f.0
  fits_handed r past None (Some y) f n = absurd f
  fits_handed r past (Some op) (Some y) f n = f.0
  fits_handed r past (Some op) None f n = absurd (no_ask_for (r.asks u) f.0 n f.2)

  fits_hand : (r : RunOf D P) (past : Past I R D P) (last : Option (Op I R D P)) (y : Option (Reply I D P)) → Fits r past last y → NoAsk r u → IsTrue (r.live u) → IsHanded z u past last y
  fits_hand r past None None f n live = (f.2, refl)
  fits_hand r past None (Some y) f n live = absurd f
  fits_hand r past (Some op) (Some y) f n live = f.2 live
  fits_hand r past (Some op) None f n live = absurd (no_ask_for (r.asks u) f.0 n f.2)

  -- a write or an end of the unit
  wrote : (r : RunOf D P) (past : Past I R D P) (e : Entry I R D P) → e.unit ≡ u → IsWithin u r (short past) → entries_for u e.op e.reply ≡ e ∷ [] → NoAsk (after r e) u → (IsTrue ((after r e).live u) → CanHand z u past e.op e.reply) → Fits (after r e) past (Some e.op) (Some e.reply)
  wrote r past e same w list n hand =
      let step = own_step u r (short past) w e same in
      let longer : entries_of u (past ++ (e.op, e.reply) ∷ []) ≡ entries_of u past ++ e ∷ [] =
      entries_append u past ((e.op, e.reply) ∷ []) ∙ ap (λ (t : List (Entry I R D P)). entries_of u past ++ t) (append-nil (entries_for u e.op e.reply) ∙ list) in
      (subst (λ (t : RunOf D P). IsWithin u (after r e) t) (sym (ap (λ (t : List (Entry I R D P)). run_of z t) longer ∙ run_append (opened z) (entries_of u past) (e ∷ []))) step, n, hand)

  fits_advance : (r : RunOf D P) (past : Past I R D P) (last : Option (Op I R D P)) (given : Option (Reply I D P)) (y : Reply I D P) → Fits r past last given → IsOpenAsk (r.asks u) → Fits (after r (entry {R = R} u Advance y)) past last given
  fits_advance r past None None y f o = absurd (let e = sym f.1 ∙ o.2 in cc)
  fits_advance r past None (Some x) y f o = absurd f
  fits_advance r past (Some op) (Some x) y f o = absurd (let e = sym f.1 ∙ o.2 in cc)
  fits_advance r past (Some op) None y f o =
      let b = f.3 in
      let a : Op I R D P = Advance in
      (f.0, f.1, subst (λ (x : Asking P). IsFor x f.0) (sym (own_asks r u a y)) (advanced_for (r.asks u) y f.0 f.2), (b.0, b.1, b.2, b.3, live_same (eqb u u) (r.live u) ∙ b.4))

  fits_take : (r : RunOf D P) (past : Past I R D P) (last : Option (Op I R D P)) (given : Option (Reply I D P)) (y : Reply I D P) → Fits r past last given → IsReadyAsk (r.asks u) → ((a : Answer D) × (y ≡ Answered a)) → Fits (after r (entry {R = R} u Take y)) past last (Some y)
  fits_take r past None None y f o g = absurd (let e = sym f.1 ∙ o.1 in cc)
  fits_take r past None (Some x) y f o g = absurd f
  fits_take r past (Some op) (Some x) y f o g = absurd (let e = sym f.1 ∙ o.1 in cc)
  fits_take r past (Some op) None y f o g =
      let b = f.3 in
      let t : RunOf D P = b.0 in
      let x : RunOf D P = short past in
      let e1 : Entry I R D P = entry u (Ask f.0) Moved in
      let e2 : Entry I R D P = entry u Advance Ready in
      let e3 : Entry I R D P = entry u Take y in
      let take : Op I R D P = Take in
      let w1 = own_step u t x b.1 e1 refl in
      let w2 = own_step u (after t e1) (after x e1) w1 e2 refl in
      let w3 = own_step u (after (after t e1) e2) (after (after x e1) e2) w2 e3 refl in
      let t3 : RunOf D P = after (after (after t e1) e2) e3 in
      let live3 : t3.live u ≡ t.live u = live_same (eqb u u) ((after (after t e1) e2).live u) ∙ (live_same (eqb u u) ((after t e1).live u) ∙ live_same (eqb u u) (t.live u)) in
      let live : t3.live u ≡ (after r e3).live u = live3 ∙ (sym b.4 ∙ sym (live_same (eqb u u) (r.live u))) in
      let asks : t3.asks u ≡ (after r e3).asks u = own_asks (after (after t e1) e2) u take y ∙ sym (own_asks r u take y) in
      let longer : entries_of u (past ++ (op, y) ∷ []) ≡ entries_of u past ++ (e1 ∷ e2 ∷ e3 ∷ []) =
      ap (λ (i : Op I R D P). entries_of u (past ++ (i, y) ∷ [])) f.1 ∙ entries_append u past ((Ask f.0, y) ∷ []) in (
        subst (λ (i : RunOf D P). IsWithin u (after r e3) i) (sym (ap (λ (i : List (Entry I R D P)). run_of z i) longer ∙ run_append (opened z) (entries_of u past) (e1 ∷ e2 ∷ e3 ∷ [])))
            (swapped u t3 (after r e3) (after (after (after x e1) e2) e3) (sym b.3) live asks w3),
        own_asks r u take y,
        (λ k. subst (λ (i : Op I R D P). CanHand z u past i y) (sym f.1) g),
      )

  fits_step : (r : RunOf D P) (t : Trace I R D P) (op : Op I R D P) (y : Reply I D P) → Fits r t.past t.last t.reply → Meets z (λ s. Unit {0}) r u op → CanReply r u op y → Fits (after r (entry u op y)) (told_after t op y).past (told_after t op y).last (told_after t op y).reply
  fits_step r t (Fresh labels datum) y f m g =
      let w = fits_handed r t.past t.last t.reply f m.0 in
      wrote r (handed t) (entry u (Fresh labels datum) y) refl w refl (own_asks {R = R} r u (Fresh labels datum) y ∙ m.0) (λ k. g ∙ ap (λ (n : ℕ). let x : Reply I D P = Made (record { unit = u; serial = n }) in x) (w.alike).made)
  fits_step r t (AddEdge from label to) y f m g =
      wrote r (handed t) (entry u (AddEdge from label to) y) refl (fits_handed r t.past t.last t.reply f m.0) refl (own_asks {R = R} r u (AddEdge from label to) y ∙ m.0) (λ k. g)
  fits_step r t (SetDatum c d) y f m g =
      wrote r (handed t) (entry u (SetDatum c d) y) refl (fits_handed r t.past t.last t.reply f m.0) refl (own_asks {R = R} r u (SetDatum c d) y ∙ m.0) (λ k. g)
  fits_step r t (CloseRow c l) y f m g =
      wrote r (handed t) (entry u (CloseRow c l) y) refl (fits_handed r t.past t.last t.reply f m.0) refl (own_asks {R = R} r u (CloseRow c l) y ∙ m.0) (λ k. g)
  fits_step r t (End x) y f m g =
      wrote r (handed t) (entry u (End x) y) refl (fits_handed r t.past t.last t.reply f m) refl (own_asks {R = R} r u (End x) y ∙ m) (λ k. absurd (not_live (eqb u u) (r.live u) (num_is u) k))
  fits_step r t (Ask q) y f m g =
      (q, refl, subst (λ (a : Asking P). IsFor a q) (sym (own_asks {R = R} r u (Ask q) y)) refl, (r, fits_handed r t.past t.last t.reply f m.0, m.0, refl, live_same (eqb u u) (r.live u)))
  fits_step r t Advance y f m g = fits_advance r t.past t.last t.reply y f m
  fits_step r t Take y f m g = fits_take r t.past t.last t.reply y f m g

  fits_from : (r : RunOf D P) (t : Trace I R D P) (es : List (Entry I R D P)) → IsOwnRunFrom z u r es → Fits r t.past t.last t.reply → Fits (run_from r es) (told_from t es).past (told_from t es).last (told_from t es).reply
  fits_from r t [] run f = f
  fits_from r t (e ∷ es) run f =
      let step : Fits (after r (entry u e.op e.reply)) (told_after t e.op e.reply).past (told_after t e.op e.reply).last (told_after t e.op e.reply).reply = fits_step r t e.op e.reply f (run.0).meets (run.0).replies in
      let here : Fits (after r e) (told_after t e.op e.reply).past (told_after t e.op e.reply).last (told_after t e.op e.reply).reply =
      subst (λ (n : ℕ). Fits (after r (entry n e.op e.reply)) (told_after t e.op e.reply).past (told_after t e.op e.reply).last (told_after t e.op e.reply).reply) (sym (run.0).unit) step in
      fits_from (after r e) (told_after t e.op e.reply) es run.1 here

  pub told_fits : (mine : List (Entry I R D P)) → IsOwnRun z u mine → Fits (run_of z mine) (told mine).past (told mine).last (told mine).reply
  told_fits mine run = fits_from (opened z) untold mine run (within_self u (opened z), refl, refl)

-- ---- what a trace has of answers, the entries have

module _ {I R D P : Type 0} where
  taken_in : (past : Past I R D P) (last : Option (Op I R D P)) (given : Option (Reply I D P)) (y : Reply I D P) (x : Op I R D P × Reply I D P) → Contains (with_last past last (Some y)) x → Contains (with_last past last given) x ⊎ (x.1 ≡ y)
  taken_in past None given y x c = inl c
  taken_in past (Some op) None y x c = elim (Contains-append_cases past ((op, y) ∷ []) x c) [ inl k ↦ inl k | inr k ↦ inr (ap (λ (p : Op I R D P × Reply I D P). p.1) (single (op, y) x k)) ]
  taken_in past (Some op) (Some w) y x c =
      elim (Contains-append_cases past ((op, y) ∷ []) x c) [
        | inl k ↦ inl (Contains-append_left past ((op, w) ∷ []) x k)
        | inr k ↦ inr (ap (λ (p : Op I R D P × Reply I D P). p.1) (single (op, y) x k))
      ]

  given_in : (past : Past I R D P) (op : Op I R D P) (y : Reply I D P) (x : Op I R D P × Reply I D P) → Contains (past ++ (op, y) ∷ []) x → Contains past x ⊎ (x.1 ≡ y)
  given_in past op y x c = elim (Contains-append_cases past ((op, y) ∷ []) x c) [ inl k ↦ inl k | inr k ↦ inr (ap (λ (p : Op I R D P × Reply I D P). p.1) (single (op, y) x k)) ]

  handed_in : (t : Trace I R D P) (op : Op I R D P) (y : Reply I D P) (x : Op I R D P × Reply I D P) → Contains (handed (told_after t op y)) x → Contains (handed t) x ⊎ (x.1 ≡ y)
  handed_in t (Fresh labels datum) y x c = given_in (handed t) (Fresh labels datum) y x c
  handed_in t (AddEdge from label to) y x c = given_in (handed t) (AddEdge from label to) y x c
  handed_in t (SetDatum s d) y x c = given_in (handed t) (SetDatum s d) y x c
  handed_in t (CloseRow s l) y x c = given_in (handed t) (CloseRow s l) y x c
  handed_in t (Ask q) y x c = inl c
  handed_in t Advance y x c = inl c
  handed_in t Take y x c = taken_in t.past t.last t.reply y x c
  handed_in t (End o) y x c = given_in (handed t) (End o) y x c

  told_in : (t : Trace I R D P) (es : List (Entry I R D P)) (x : Op I R D P × Reply I D P) → Contains (handed (told_from t es)) x → Contains (handed t) x ⊎ ((e : Entry I R D P) × Contains es e × (e.reply ≡ x.1))
  told_in t [] x c = inl c
  told_in t (e ∷ es) x c =
      elim (told_in (told_after t e.op e.reply) es x c) [
        | inl k ↦ elim (handed_in t e.op e.reply x k) [ inl m ↦ inl m | inr s ↦ inr (e, Contains-head e es, sym s) ]
        | inr k ↦ inr (k.0, Contains-tail e k.0 es k.1, k.2)
      ]

  answer_for : (u : ℕ) (op : Op I R D P) (y : Reply I D P) (e : Entry I R D P) (a : Answer D) → Contains (entries_for u op y) e → e.reply ≡ Answered a → y ≡ Answered a
  answer_for u (Fresh labels datum) y e a c s = sym (ap (λ (i : Entry I R D P). i.reply) (single (entry u (Fresh labels datum) y) e c)) ∙ s
  answer_for u (AddEdge from label to) y e a c s = sym (ap (λ (i : Entry I R D P). i.reply) (single (entry u (AddEdge from label to) y) e c)) ∙ s
  answer_for u (SetDatum x d) y e a c s = sym (ap (λ (i : Entry I R D P). i.reply) (single (entry u (SetDatum x d) y) e c)) ∙ s
  answer_for u (CloseRow x l) y e a c s = sym (ap (λ (i : Entry I R D P). i.reply) (single (entry u (CloseRow x l) y) e c)) ∙ s
  answer_for u (End x) y e a c s = sym (ap (λ (i : Entry I R D P). i.reply) (single (entry u (End x) y) e c)) ∙ s
  answer_for u Advance y e a c s = absurd (nothing_in e c)
  answer_for u Take y e a c s = absurd (nothing_in e c)
  answer_for u (Ask q) y e a c s =
      let e1 : Entry I R D P = entry u (Ask q) Moved in
      let e2 : Entry I R D P = entry u Advance Ready in
      let e3 : Entry I R D P = entry u Take y in
      elim (Contains-cons e1 e (e2 ∷ e3 ∷ []) c) [
        | inl k ↦ absurd (let m : e.reply ≡ Moved = ap (λ (i : Entry I R D P). i.reply) k in let b = sym m ∙ s in cc)
        | inr k ↦ elim (Contains-cons e2 e (e3 ∷ []) k) [
          | inl m ↦ absurd (let g : e.reply ≡ Ready = ap (λ (i : Entry I R D P). i.reply) m in let b = sym g ∙ s in cc)
          | inr m ↦ sym (ap (λ (i : Entry I R D P). i.reply) (single e3 e m)) ∙ s
        ]
      ]

  answer_of : (u : ℕ) (past : Past I R D P) (e : Entry I R D P) (a : Answer D) → Contains (entries_of u past) e → e.reply ≡ Answered a → (op : Op I R D P) × Contains past (op, Answered a)
  answer_of u [] e a c s = absurd (nothing_in e c)
  answer_of u (x ∷ xs) e a c s =
      elim (Contains-append_cases (entries_for u x.0 x.1) (entries_of u xs) e c) [
        | inl k ↦ (x.0, subst (λ (y : Reply I D P). Contains (x ∷ xs) (x.0, y)) (answer_for u x.0 x.1 e a k s) (Contains-head x xs))
        | inr k ↦ let m = answer_of u xs e a k s in (m.0, Contains-tail x (m.0, Answered a) xs m.1)
      ]

-- ---- the laws

pub traces_allow : (I R D P : Type 0) → TracesAllow I R D P
traces_allow I R D P z mine u op run n may =
    let t : Trace I R D P = told mine in
    let w : IsWithin u (run_of z mine) (run_of z (entries_of u (handed t))) = fits_handed z u (run_of z mine) t.past t.last t.reply (told_fits z u mine run) n in
    let known : (s : Scope) → KnowsScope z (entries_of u (handed t)) s → KnowsScope z mine s = λ s k. elim k [
      | inl i ↦ inl (w.scopes s i)
      | inr i ↦
          let past = answer_of u (handed t) i.0 (i.2).0 i.1 (i.2).1 in
          elim (told_in untold mine (past.0, Answered (i.2).0) past.1) [
            | inl none ↦ absurd (nothing_in (past.0, Answered (i.2).0) none)
            | inr e ↦ inr (e.0, e.1, ((i.2).0, e.2, (i.2).2))
          ]
    ] in (
      subst (λ (b : Bool). IsTrue b) (sym (w.alike).live) may.0,
      meets_alike u z (run_of z (entries_of u (handed t))) (run_of z mine) (alike_back u (run_of z mine) (run_of z (entries_of u (handed t))) w.alike) (KnowsScope z (entries_of u (handed t))) (KnowsScope z mine) op (λ s i k. known s k) may.1,
    )

pub traces_hand : (I R D P : Type 0) → TracesHand I R D P
traces_hand I R D P z mine u run n live = fits_hand z u (run_of z mine) (told mine).past (told mine).last (told mine).reply (told_fits z u mine run) n live

pub traces_tell : (I R D P : Type 0) → TracesTell I R D P
traces_tell I R D P z log u op ok run n may =
    let mine : List (Entry I R D P) = own u log in
    let w : IsWithin u (run_of z log) (run_of z mine) = own_within u (opened z) (opened z) (within_self u (opened z)) log in
    own_allow I R D P z log u op ok run (traces_allow I R D P z mine u op (own_entries_run I R D P z log u run) (sym (w.alike).asks ∙ n) may)
