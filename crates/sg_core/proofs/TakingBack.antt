-- Events that were kept beside the turn are taken back from the log: what a core keeps is what it kept before them.
use Rattle.std.proofs.Common.{◌≡◌, ℕ, zero, suc, ◌<◌, List, [], ◌∷◌, ◌++◌, ◌⊎◌, inl, inr, Bool, true, false, ◌&&◌, IsTrue, ◌↔◌, cond, eqb, not, length, slice_set, slice_get, Option, Some, None, refl, sym, ◌∙◌, ap, subst, arith, length-append}
use Rattle.std.proofs.lemmas.Bool.{cases_Bool}
use Rattle.std.specs.List.{list_any}
use Rattle.sg_query.specs.Query.{KindOf}
use Rattle.sg_state.specs.declared.need.Need.{Need}
use Rattle.sg_state.specs.Held.{HeldOf, state_of}
use Rattle.sg_unit.specs.declared.entry.Entry.{Entry}
use Rattle.sg_unit.specs.declared.op.Op.{Op}
use Rattle.sg_unit.specs.declared.op.Op.TheVariants.{Ask as AskOf, Advance, Take, End as EndOf}
use Rattle.sg_unit.specs.declared.reply.Reply.{Reply}
use Rattle.sg_unit.specs.declared.reply.Reply.TheVariants.{Moved, Ready as ReadyNow, Answer as Answered}
use Rattle.sg_unit.specs.Operation.{goes_on, woken_by, waits_by}
use Rattle.sg_unit.specs.Run.{Setting, RunOf, Asking, no_ask, asked_by, opened, held_after, ask_after, after, run_from, run_of, IsFreeUnit}
use Rattle.sg_unit.specs.Step.{IsRun}
use Rattle.sg_unit.specs.Unit.{setting_of}
use Rattle.sg_unit.specs.Waiting.{Blocks, WaitsOn}
use Rattle.sg_unit.proofs.Steps.{front_run, run_append}
use Rattle.sg_unit.proofs.Waiters.{IsWaitedRun, opened_waited, run_waited}
use Rattle.sg_unit.proofs.Writes.{is_num}
use Rattle.sg_waits.specs.declared.shown.Shown.{Shown}
use Rattle.sg_waits.specs.Waits.{WaitsOf}
use Rattle.sg_core.specs.declared.ask.Ask.{Ask}
use Rattle.sg_core.specs.declared.ask.Ask.TheVariants as ask
use Rattle.sg_core.specs.declared.found_ask.FoundAsk.{FoundAsk}
use Rattle.sg_core.specs.declared.found_ask.FoundAsk.TheVariants.{Nothing}
use Rattle.sg_core.specs.Beside.{KeepsOne, KeepsAll, with_events}
use Rattle.sg_core.specs.Core.{CoreOf, entry, setting, run}
use Rattle.sg_core.specs.Kept.{IsKeptAsk, ask_at, AreWaits, AreAsks, AreEnds, IsShowing, IsKept}
use Rattle.sg_core.proofs.Keeping.{set_length, index_set_here, index_set_other, apart_from}
use Rattle.sg_core.proofs.Beside.{run_keeps}
use Rattle.sg_core.proofs.Moving.{ask_within, not_stuck, none_shown, core_with, kept_log, kept_asks}

-- ---- lists

-- two lists that are cut at the same place into equal lists
cut_front : {X : Type 0} (xs ys vs ws : List X) → length xs ≡ length vs → xs ++ ys ≡ vs ++ ws → (xs ≡ vs) × (ys ≡ ws)
cut_front [] ys [] ws l e = (refl, e)
cut_front [] ys (v ∷ vs) ws l e = absurd (omega (arith, l))
cut_front (x ∷ xs) ys [] ws l e = absurd (omega (arith, l))
cut_front {X} (x ∷ xs) ys (v ∷ vs) ws l e =
    let rest : xs ++ ys ≡ vs ++ ws = cc in
    let head : x ≡ v = cc in
    let c = cut_front xs ys vs ws (omega (arith, l)) rest in
    ((λ i. head i ∷ c.0 i), c.1)

-- what stands in two lists one after the other stands in one of them
get_either : {X : Type 0} (xs ys : List X) (i : ℕ) (x : X) → slice_get (xs ++ ys) i ≡ Some x → (slice_get xs i ≡ Some x) ⊎ ((j : ℕ) × (slice_get ys j ≡ Some x))
get_either [] ys i x e = inr (i, e)
get_either (y ∷ xs) ys zero x e = inl e
get_either (y ∷ xs) ys (suc i) x e = get_either xs ys i x e

-- ---- runs that differ in what one unit asks

-- the second run holds what the first one holds, and units live, wait and ask there as here, but for what this one asks
record DiffersInAsk {D P : Type 0} (u : ℕ) (r s : RunOf D P) : Type 0 where
  pub held : s.held ≡ r.held
  pub live : (v : ℕ) → s.live v ≡ r.live v
  pub waits : (v : ℕ) → s.waits v ≡ r.waits v
  pub asks : (v : ℕ) → eqb u v ≡ false → s.asks v ≡ r.asks v

if_here : {X : Type 0} (F : Bool → X) (x : X) → F true ≡ x → F false ≡ x → (b : Bool) → F b ≡ x
if_here F x t f true = t
if_here F x t f false = f

stays : (b : Bool) → (b && true) ≡ b
stays true = refl
stays false = refl

module _ {I R D P : Type 0} (u : ℕ) where
  -- an entry of the unit that goes on, holds what was held and wakes nobody
  one_differs : (r : RunOf D P) → r.waits u ≡ false → (op : Op I R D P) (y : Reply I D P) → goes_on op ≡ true → held_after r.held u op ≡ r.held → woken_by y ≡ [] → waits_by false y ≡ false → DiffersInAsk u r (after r (entry u op y))
  one_differs r idle op y goes holds none quiet = record {
    held = holds;
    live = λ v. if_here (λ (b : Bool). cond b (r.live v && goes_on op) (r.live v)) (r.live v) (subst (λ (b : Bool). (r.live v && b) ≡ r.live v) (sym goes) (stays (r.live v))) refl (eqb u v);
    waits = λ v. elim (cases_Bool (eqb u v)) [
      | inl b ↦
          subst (λ (c : Bool). cond c (goes_on op && waits_by (r.waits v) y) (r.waits v && not (list_any (λ w. eqb w v) (woken_by y))) ≡ r.waits v) (sym b)
          (subst (λ (n : ℕ). (goes_on op && waits_by (r.waits n) y) ≡ r.waits n) (is_num u v b)
          (subst (λ (c : Bool). (goes_on op && waits_by c y) ≡ c) (sym idle) (subst (λ (c : Bool). (c && waits_by false y) ≡ false) (sym goes) quiet)))
      | inr b ↦
          subst (λ (c : Bool). cond c (goes_on op && waits_by (r.waits v) y) (r.waits v && not (list_any (λ w. eqb w v) (woken_by y))) ≡ r.waits v) (sym b)
          (subst (λ (vs : List ℕ). (r.waits v && not (list_any (λ w. eqb w v) vs)) ≡ r.waits v) (sym none) (stays (r.waits v)))
    ];
    asks = λ v b. subst (λ (c : Bool). cond c (ask_after (r.asks v) op y) (r.asks v) ≡ r.asks v) (sym b) refl;
  }

  module _ (wants : P → D → Bool) (same : D → D → Bool) (kinds : List KindOf) (h : HeldOf D) where
    kept_differs : (r : RunOf D P) → r.waits u ≡ false → (a b : FoundAsk D) (e : Entry I R D P) → KeepsOne wants same kinds h u a e b → DiffersInAsk u r (after r e)
    kept_differs r idle a b e (inl k) = subst (λ (x : Entry I R D P). DiffersInAsk u r (after r x)) (sym k.3) (one_differs r idle (AskOf k.0) Moved refl refl refl refl)
    kept_differs r idle a b e (inr (inl k)) = subst (λ (x : Entry I R D P). DiffersInAsk u r (after r x)) (sym k.2) (one_differs r idle Advance ReadyNow refl refl refl refl)
    kept_differs r idle a b e (inr (inr k)) = subst (λ (x : Entry I R D P). DiffersInAsk u r (after r x)) (sym k.2) (one_differs r idle Take (Answered k.0) refl refl refl refl)

    -- so do all events that were kept
    all_differ : (es : List (Entry I R D P)) (r : RunOf D P) → r.waits u ≡ false → (a b : FoundAsk D) → KeepsAll wants same kinds h u a es b → DiffersInAsk u r (run_from r es)
    all_differ [] r idle a b k = record { held = refl; live = λ v. refl; waits = λ v. refl; asks = λ v o. refl }
    all_differ (e ∷ es) r idle a b k =
        let one = kept_differs r idle a k.0 e k.1 in
        let rest = all_differ es (after r e) (one.waits u ∙ idle) k.0 b k.2 in
        record {
          held = rest.held ∙ one.held;
          live = λ v. rest.live v ∙ one.live v;
          waits = λ v. rest.waits v ∙ one.waits v;
          asks = λ v o. rest.asks v o ∙ one.asks v o;
        }

    -- none of them is an end
    no_end : (es : List (Entry I R D P)) (a b : FoundAsk D) → KeepsAll wants same kinds h u a es b → (j v : ℕ) (x : R) (y : Reply I D P) → slice_get es j ≡ Some (entry v (EndOf x) y) → ⊥
    no_end [] a b k j v x y s = absurd (cc)
    no_end (e ∷ es) a b k (suc j) v x y s = no_end es k.0 b k.2 j v x y s
    no_end (e ∷ es) a b k zero v x y s = not_one k.1
      where
        is : e ≡ entry v (EndOf x) y
        is = cc

        not_one : KeepsOne wants same kinds h u a e k.0 → ⊥
        not_one (inl m) = absurd (let f : ◌≡◌ {A = Op I R D P} (AskOf m.0) (EndOf x) = ap (λ (t : Entry I R D P). t.op) (sym m.3 ∙ is) in cc)
        not_one (inr (inl m)) = absurd (let f : ◌≡◌ {A = Op I R D P} Advance (EndOf x) = ap (λ (t : Entry I R D P). t.op) (sym m.2 ∙ is) in cc)
        not_one (inr (inr m)) = absurd (let f : ◌≡◌ {A = Op I R D P} Take (EndOf x) = ap (λ (t : Entry I R D P). t.op) (sym m.2 ∙ is) in cc)

-- ---- what a core keeps

module _ {D P : Type 0} (z : Setting D P) (u : ℕ) (r s : RunOf D P) (d : DiffersInAsk u r s) (idle : r.waits u ≡ false) where
  -- a unit that waits is another one
  other_waits : (v : ℕ) → IsTrue (r.waits v) → eqb u v ≡ false
  other_waits v t = elim (cases_Bool (eqb u v)) [
    | inl b ↦ absurd (let f : r.waits u ≡ true = subst (λ (n : ℕ). r.waits n ≡ true) (sym (is_num u v b)) t in let g = sym idle ∙ f in cc)
    | inr b ↦ b
  ]

  needs_there : (v : ℕ) (n : Need) → (WaitsOn z s v n) ↔ (WaitsOn z r v n)
  needs_there v n = (
    (λ k.
        let t : IsTrue (r.waits v) = sym (d.waits v) ∙ k.0 in (
          t,
          ((k.1).0, (k.1).1, sym (d.asks v (other_waits v t)) ∙ (k.1).2, subst (λ (h : HeldOf D). Blocks (state_of h) (asked_by z (k.1).0) n) d.held (k.1).3),
        )),
    (λ k. (
      d.waits v ∙ k.0,
      ((k.1).0, (k.1).1, d.asks v (other_waits v k.0) ∙ (k.1).2, subst (λ (h : HeldOf D). Blocks (state_of h) (asked_by z (k.1).0) n) (sym d.held) (k.1).3),
    )),
  )

  waits_back : (ws : WaitsOf) → AreWaits z s ws → AreWaits z r ws
  waits_back ws w = record {
    units = w.units ∙ ap (λ (h : HeldOf D). length h.made) d.held;
    live = λ v. w.live v ∙ d.live v;
    waiting = λ v. w.waiting v ∙ d.waits v;
    needs = λ v n. ((λ c. (needs_there v n).0 ((w.needs v n).0 c)), (λ c. (w.needs v n).1 ((needs_there v n).1 c)));
  }

  asks_back : {I : Type 0} (aa : List (Ask I D P)) → AreAsks z s aa → u < length aa → r.asks u ≡ no_ask → AreAsks z r (slice_set aa u ask.Nothing)
  asks_back {I} aa a within none = record {
    units = set_length aa u ask.Nothing ∙ a.units ∙ ap (λ (h : HeldOf D). length h.made) d.held;
    each = λ v. elim (cases_Bool (eqb u v)) [
      | inl b ↦
          subst (λ (n : ℕ). IsKeptAsk z r.held (r.asks n) (ask_at (slice_set aa u ask.Nothing) n)) (is_num u v b)
          (subst (λ (x : Ask I D P). IsKeptAsk z r.held (r.asks u) x) (sym (index_set_here aa u ask.Nothing ask.Nothing within)) none)
      | inr b ↦
          subst (λ (x : Ask I D P). IsKeptAsk z r.held (r.asks v) x) (sym (index_set_other aa u ask.Nothing ask.Nothing v (apart_from u v b)))
          (subst (λ (h : HeldOf D). IsKeptAsk z h (r.asks v) (ask_at aa v)) d.held
          (subst (λ (x : Asking P). IsKeptAsk z s.held x (ask_at aa v)) (d.asks v b) (a.each v)))
    ];
  }

  ends_back : {I R : Type 0} (log es : List (Entry I R D P)) (ends : List (Option ℕ)) → ((j v : ℕ) (x : R) (y : Reply I D P) → slice_get es j ≡ Some (entry v (EndOf x) y) → ⊥) → AreEnds s (log ++ es) ends → AreEnds r log ends
  ends_back log es ends none e = record {
    units = e.units ∙ ap (λ (h : HeldOf D). length h.made) d.held;
    live = λ v l o. sym (d.live v) ∙ e.live v l o;
    ended = λ v i o.
        let k = e.ended v i o in
        elim (get_either log es i (entry v (EndOf k.0) k.1) k.2) [ inl a ↦ (k.0, k.1, a) | inr b ↦ absurd (none b.0 v k.0 k.1 b.1) ];
  }

-- without these events, which are the last in the log, a core keeps that the unit asks nothing
taken_back : {I R D P : Type 0} (z : Setting D P) (h : HeldOf D) (ws : WaitsOf) (aa : List (Ask I D P)) (ends : List (Option ℕ)) (sh : Option Shown) (u : ℕ) (log es : List (Entry I R D P)) (b : FoundAsk D) → IsKept z h ws aa ends sh (log ++ es) → IsFreeUnit (run_of z log) u → KeepsAll z.wants z.same z.kinds (run_of z log).held u Nothing es b
    → IsKept z h ws (slice_set aa u ask.Nothing) ends sh log
taken_back {I} {R} {D} {P} z h ws aa ends sh u log es b k free keeps =
    let runs : IsRun z log = (front_run z (opened z) log es k.runs).0 in
    let idle : (run_of z log).waits u ≡ false = idle_there (run_of z log) (run_waited z (opened z) (opened_waited z k.opens) log runs) free in
    let is : run_of z (log ++ es) ≡ run_from (run_of z log) es = run_append (opened z) log es in
    let d : DiffersInAsk u (run_of z log) (run_of z (log ++ es)) = subst (λ (s : RunOf D P). DiffersInAsk u (run_of z log) s) (sym is) (all_differ u z.wants z.same z.kinds (run_of z log).held es (run_of z log) idle Nothing b keeps) in
    let live : IsTrue ((run_of z (log ++ es)).live u) = d.live u ∙ free.1 in
    let nothing : sh ≡ None = none_shown z (run_of z (log ++ es)) sh k.shown (not_stuck z (run_of z (log ++ es)) u live (d.waits u ∙ idle)) in
    record {
      opens = k.opens;
      runs = runs;
      few = omega (arith, k.few, length-append log es);
      held = k.held ∙ d.held;
      waits = waits_back z u (run_of z log) (run_of z (log ++ es)) d idle ws k.waits;
      asks = asks_back z u (run_of z log) (run_of z (log ++ es)) d idle aa k.asks (ask_within z h ws aa ends sh (log ++ es) k u live) free.0;
      ends = ends_back z u (run_of z log) (run_of z (log ++ es)) d idle log es ends (no_end u z.wants z.same z.kinds (run_of z log).held es Nothing b keeps) k.ends;
      shown = subst (λ (o : Option Shown). IsShowing z (run_of z log) o) (sym nothing) (not_stuck z (run_of z log) u free.1 idle);
    }
  where
    idle_there : (r : RunOf D P) → IsWaitedRun z r → IsFreeUnit r u → r.waits u ≡ false
    idle_there r ok f = elim (cases_Bool (r.waits u)) [ inl t ↦ absurd (let a = (ok.waiting u t).asks in let e = sym f.0 ∙ a in cc) | inr f ↦ f ]

-- ---- a core whose last events are these

module _ {I R D P : Type 0} (wants : P → D → Bool) (same : D → D → Bool) (core : CoreOf I R D P) (u : ℕ) (es : List (Entry I R D P)) (b : FoundAsk D) (free : IsFreeUnit (run wants same core) u) (keeps : KeepsAll wants same core.kinds (run wants same core).held u Nothing es b)
    (opening : HeldOf D) (kinds : List KindOf) (h : HeldOf D) (ws : WaitsOf) (aa : List (Ask I D P)) (ends : List (Option ℕ)) (sh : Option Shown) (log : List (Entry I R D P)) (k : IsKept (setting_of wants same opening kinds) h ws aa ends sh log)
    -- it is seen as what it was after the events were handed in
    (handed now : CoreOf I R D P) (view : core_with opening kinds log ≡ now) (stays_so : now ≡ handed) (hands : handed ≡ with_events core es) where
  is : core_with opening kinds log ≡ with_events core es
  is = view ∙ stays_so ∙ hands

  abbrev z : Setting D P
  z = setting_of wants same opening kinds

  log_is : log ≡ core.log ++ es
  log_is = ap (λ (c : CoreOf I R D P). c.log) is

  setting_is : setting wants same core ≡ z
  setting_is = λ i. setting_of wants same (sym (ap (λ (c : CoreOf I R D P). c.opening) is) i) (sym (ap (λ (c : CoreOf I R D P). c.kinds) is) i)

  kept_there : IsKept z h ws aa ends sh (core.log ++ es)
  kept_there = subst (λ (l : List (Entry I R D P)). IsKept z h ws aa ends sh l) log_is k

  free_there : IsFreeUnit (run_of z core.log) u
  free_there = subst (λ (y : Setting D P). IsFreeUnit (run_of y core.log) u) setting_is free

  keeps_there : KeepsAll wants same kinds (run_of z core.log).held u Nothing es b
  keeps_there = subst (λ (y : Setting D P). KeepsAll y.wants y.same y.kinds (run_of y core.log).held u Nothing es b) setting_is keeps

  -- the unit's ask is one of those that are kept
  pub within : u < length aa
  within =
      let live = (run_keeps z u es (run_of z core.log) free_there.1 Nothing free_there.0 b keeps_there).2 in
      ask_within z h ws aa ends sh (core.log ++ es) kept_there u (subst (λ (r : RunOf D P). IsTrue (r.live u)) (sym (run_append (opened z) core.log es)) live)

  -- and what is cut off behind what was there before is what was kept
  pub back : (bb : List (Ask I D P)) (new left : List (Entry I R D P)) → bb ≡ slice_set aa u ask.Nothing → length new ≡ length core.log → new ++ left ≡ log → IsKept z h ws bb ends sh new × (core_with opening kinds new ≡ core) × (left ≡ es)
  back bb new left none long cut =
      let c = cut_front new left core.log es long (cut ∙ log_is) in (
        kept_asks z h ws bb (slice_set aa u ask.Nothing) ends sh new none
            (kept_log z h ws (slice_set aa u ask.Nothing) ends sh new core.log c.0 (taken_back z h ws aa ends sh u core.log es b kept_there free_there keeps_there)),
        (λ i. record { opening = ap (λ (c : CoreOf I R D P). c.opening) is i; kinds = ap (λ (c : CoreOf I R D P). c.kinds) is i; log = c.0 i }),
        c.1,
      )
