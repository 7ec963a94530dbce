-- Events that were kept beside the turn: they are a legal run, also behind a later state, and what a core keeps after them.
use Rattle.std.proofs.Common.{◌≡◌, ℕ, zero, suc, ◌+◌, ◌<◌, ◌≤◌, ◌^◌, List, [], ◌∷◌, ◌++◌, ◌⊎◌, inl, inr, Bool, true, false, ◌&&◌, IsTrue, cond, eqb, length, slice_set, slice_index_or, All, Option, refl, sym, ◌∙◌, ap, subst, arith, append_assoc, append-nil, length-append, ◌==◌}
use Rattle.std.proofs.lemmas.Bool.Decides.{nat_tests}
use Rattle.std.proofs.lemmas.Bool.{cases_Bool}
use Rattle.std.proofs.lemmas.List.Elements.{All-nil, All-cons}
use Rattle.sg_base.specs.Graph.{IsGraph, HasScope}
use Rattle.sg_base.specs.State.{Follows}
use Rattle.sg_base.proofs.Scopes.{number_itself}
use Rattle.sg_query.specs.declared.query.Query.{Query}
use Rattle.sg_query.specs.Answer.{IsAnswer}
use Rattle.sg_query.specs.Query.{KindOf, asked}
use Rattle.sg_query.specs.State.{IsSettled}
use Rattle.sg_query.proofs.Settling.{settled_stay_settled}
use Rattle.sg_state.specs.Held.{HeldOf, state_of}
use Rattle.sg_unit.specs.declared.entry.Entry.{Entry}
use Rattle.sg_unit.specs.declared.op.Op.TheVariants.{Ask as AskOf, Advance, Take}
use Rattle.sg_unit.specs.declared.reply.Reply.{Reply}
use Rattle.sg_unit.specs.declared.reply.Reply.TheVariants.{Moved, Ready as ReadyNow, Answer as Answered}
use Rattle.sg_unit.specs.Own.{own}
use Rattle.sg_unit.specs.Run.{Setting, RunOf, Asking, no_ask, open_ask, ready_ask, asked_by, advanced, after, run_from, run_of, IsFreeUnit}
use Rattle.sg_unit.specs.Step.{IsStep, IsRunFrom}
use Rattle.sg_unit.proofs.Growing.{runs_hold}
use Rattle.sg_unit.proofs.Telling.{own_in, own_out}
use Rattle.sg_waits.specs.declared.shown.Shown.{Shown}
use Rattle.sg_waits.specs.Waits.{WaitsOf}
use Rattle.sg_core.specs.declared.ahead.Ahead.TheVariants as ahead
use Rattle.sg_core.specs.declared.ask.Ask.{Ask}
use Rattle.sg_core.specs.declared.ask.Ask.TheVariants as ask
use Rattle.sg_core.specs.declared.found_ask.FoundAsk.{FoundAsk}
use Rattle.sg_core.specs.declared.found_ask.FoundAsk.TheVariants.{Nothing, Found, Ready}
use Rattle.sg_core.specs.Beside.{ask_found, KeepsOne, KeepsAll, HandsIn, with_events}
use Rattle.sg_core.specs.Core.{CoreOf, entry}
use Rattle.sg_core.specs.Kept.{IsKeptAsk, ask_at, IsKept}
use Rattle.sg_core.proofs.Answering.{set_again}
use Rattle.sg_core.proofs.Keeping.{kept_run, index_set_here}
use Rattle.sg_core.proofs.Moving.{ask_within, ahead_kept, found_kept, take_kept, kept_log, kept_asks}

set_own : {X : Type 0} (xs : List X) (u : ℕ) (d : X) → slice_set xs u (slice_index_or xs u d) ≡ xs
set_own [] u d = refl
set_own (x ∷ xs) zero d = refl
set_own {X} (x ∷ xs) (suc u) d = ap (λ (ys : List X). x ∷ ys) (set_own xs u d)

still_true : (b : Bool) → IsTrue b → IsTrue (b && true)
still_true true t = refl
still_true false t = t

not_true : (b : Bool) → (IsTrue b → ⊥) → b ≡ false
not_true true n = absurd (n refl)
not_true false n = refl

pub own_append : {I R D P : Type 0} (u : ℕ) (xs ys : List (Entry I R D P)) → own u (xs ++ ys) ≡ own u xs ++ own u ys
own_append u [] ys = refl
own_append {I} {R} {D} {P} u (x ∷ xs) ys =
    elim (cases_Bool (eqb x.unit u)) [
      | inl b ↦ own_in u x (xs ++ ys) b ∙ ap (λ (l : List (Entry I R D P)). x ∷ l) (own_append u xs ys) ∙ ap (λ (l : List (Entry I R D P)). l ++ own u ys) (sym (own_in u x xs b))
      | inr b ↦ own_out u x (xs ++ ys) b ∙ own_append u xs ys ∙ ap (λ (l : List (Entry I R D P)). l ++ own u ys) (sym (own_out u x xs b))
    ]

pub own_each : {I R D P : Type 0} (u : ℕ) (e : Entry I R D P) (es : List (Entry I R D P)) → e.unit ≡ u → own u es ≡ es → own u (e ∷ es) ≡ e ∷ es
own_each {I} {R} {D} {P} u e es is rest =
    own_in u e es (subst (λ (n : ℕ). eqb n u ≡ true) (sym is) (number_itself u)) ∙ ap (λ (l : List (Entry I R D P)). e ∷ l) rest

module _ {I R D P : Type 0} (wants : P → D → Bool) (same : D → D → Bool) (kinds : List KindOf) (u : ℕ) where
  module _ (h : HeldOf D) where
    -- one event more
    pub keeps_more : (a c b : FoundAsk D) (es : List (Entry I R D P)) (e : Entry I R D P) → KeepsAll wants same kinds h u a es c → KeepsOne wants same kinds h u c e b → KeepsAll wants same kinds h u a (es ++ e ∷ []) b
    keeps_more a c b [] e k o = (b, subst (λ (x : FoundAsk D). KeepsOne wants same kinds h u x e b) (sym k) o, refl)
    keeps_more a c b (x ∷ es) e k o = (k.0, k.1, keeps_more k.0 c b es e k.2 o)

    -- each is the unit's
    pub one_unit : (a b : FoundAsk D) (e : Entry I R D P) → KeepsOne wants same kinds h u a e b → e.unit ≡ u
    one_unit a b e (inl k) = ap (λ (x : Entry I R D P). x.unit) k.3
    one_unit a b e (inr (inl k)) = ap (λ (x : Entry I R D P). x.unit) k.2
    one_unit a b e (inr (inr k)) = ap (λ (x : Entry I R D P). x.unit) k.2

    pub all_units : (a b : FoundAsk D) (es : List (Entry I R D P)) → KeepsAll wants same kinds h u a es b → All (λ e. e.unit ≡ u) es
    all_units a b [] k = All-nil (λ (e : Entry I R D P). e.unit ≡ u)
    all_units a b (e ∷ es) k = All-cons (λ (e : Entry I R D P). e.unit ≡ u) e es (one_unit a k.0 e k.1) (all_units k.0 b es k.2)

    pub all_own : (a b : FoundAsk D) (es : List (Entry I R D P)) → KeepsAll wants same kinds h u a es b → own u es ≡ es
    all_own a b [] k = refl
    all_own a b (e ∷ es) k = own_each u e es (one_unit a k.0 e k.1) (all_own k.0 b es k.2)

  module _ (h h' : HeldOf D) (ok : IsGraph h.graph) (later : Follows (state_of h) (state_of h')) where
    one_later : (a b : FoundAsk D) (e : Entry I R D P) → KeepsOne wants same kinds h u a e b → KeepsOne wants same kinds h' u a e b
    one_later a b e (inl k) =
        let stays = settled_stay_settled D (state_of h) (state_of h') (asked wants same kinds k.0) ok k.6 later k.7 in
        inl (k.0, k.1, k.2, k.3, k.4, k.5, later.extends.scopes (k.0).start k.6, stays.0, (stays.1 k.1).1 k.8)
    one_later a b e (inr k) = inr k

    -- they are such in each later state too
    pub all_later : (a b : FoundAsk D) (es : List (Entry I R D P)) → KeepsAll wants same kinds h u a es b → KeepsAll wants same kinds h' u a es b
    all_later a b [] k = k
    all_later a b (e ∷ es) k = (k.0, one_later a k.0 e k.1, all_later k.0 b es k.2)

-- ---- none of them

-- whether a list is empty, by its length in memory
pub is_none : {X : Type 0} (xs : List X) (b : Bool) (n : ℕ) → n ≡ length xs → b ≡ (n == 0) → b ≡ true → xs ≡ []
is_none [] b n len e t = refl
is_none (x ∷ xs) b n len e t = absurd (let f : true ≡ (n == 0) = sym t ∙ e in grind (arith, nat_tests))

pub is_some : {X : Type 0} (xs : List X) (b : Bool) (n : ℕ) → n ≡ length xs → b ≡ (n == 0) → b ≡ false → xs ≡ [] → ⊥
is_some xs b n len e f none = absurd (let g : false ≡ (n == 0) = sym f ∙ e in let h = ap length none in grind (arith, nat_tests))

pub second : {A B : Type 0} → A ⊎ B → (A → ⊥) → B
second (inl a) n = absurd (n a)
second (inr b) n = b

pub hands_nothing : {I R D P : Type 0} (wants : P → D → Bool) (same : D → D → Bool) (kinds : List KindOf) (h : HeldOf D) (u : ℕ) (c : CoreOf I R D P) (kept : List (Entry I R D P)) (ask : FoundAsk D) → kept ≡ [] → KeepsAll wants same kinds h u Nothing kept ask → HandsIn c c kept kept ask
hands_nothing {I} {R} {D} {P} wants same kinds h u c kept ask none k = (
  (λ i. record { opening = c.opening; kinds = c.kinds; log = sym (append-nil c.log) i }) ∙ ap (λ (es : List (Entry I R D P)). with_events c es) (sym none),
  none,
  sym (subst (λ (es : List (Entry I R D P)). KeepsAll wants same kinds h u Nothing es ask) none k),
)

-- ---- runs

-- the unit asks what was kept
abbrev AsksSo : (I : Type 0) {D P : Type 0} → Setting D P → ℕ → RunOf D P → FoundAsk D → Type 0
AsksSo I z u r a = IsKeptAsk {I = I} z r.held (r.asks u) (ask_found a)

module _ {I R D P : Type 0} (z : Setting D P) (u : ℕ) where
  -- what an event of the unit leaves
  abbrev Leaves : RunOf D P → Entry I R D P → FoundAsk D → Type 0
  Leaves r e b = IsStep z r e × ((after r e).held ≡ r.held) × IsTrue ((after r e).live u) × AsksSo I z u (after r e) b

  one_step : (r : RunOf D P) → IsTrue (r.live u) → (a : FoundAsk D) → AsksSo I z u r a → (e : Entry I R D P) (b : FoundAsk D) → KeepsOne z.wants z.same z.kinds r.held u a e b → Leaves r e b
  one_step r live a kept e b (inl k) =
      let q = k.0 in
      let e0 : Entry I R D P = entry u (AskOf q) Moved in
      let none : r.asks u ≡ no_ask = subst (λ (x : FoundAsk D). AsksSo I z u r x) k.2 kept in
      subst (λ (x : Entry I R D P). Leaves r x b) (sym k.3)
      (subst (λ (x : FoundAsk D). Leaves r e0 x) (sym k.4) (
        record { may = (live, (none, k.5, k.6)); replies = refl },
        refl,
        subst (λ (c : Bool). IsTrue (cond c (r.live u && true) (r.live u))) (sym (number_itself u)) (still_true (r.live u) live),
        subst (λ (c : Bool). IsKeptAsk {I = I} z r.held (cond c (open_ask q 0) (r.asks u)) (ask_found (Found k.1))) (sym (number_itself u)) (q, refl, k.7, k.8),
      ))
  one_step r live a kept e b (inr (inl k)) =
      let e0 : Entry I R D P = entry u Advance ReadyNow in
      let f = subst (λ (x : FoundAsk D). AsksSo I z u r x) k.1 kept in
      subst (λ (x : Entry I R D P). Leaves r x b) (sym k.2)
      (subst (λ (x : FoundAsk D). Leaves r e0 x) (sym k.3) (
        record {
          may = (live, (f.0, 0, f.1));
          replies = λ q n e.
              let g : open_ask f.0 0 ≡ open_ask q n = sym f.1 ∙ e in
              let one : f.0 ≡ q = cc in
              subst (λ (x : Query P). IsSettled (state_of r.held) (asked_by z x)) one f.2;
        },
        refl,
        subst (λ (c : Bool). IsTrue (cond c (r.live u && true) (r.live u))) (sym (number_itself u)) (still_true (r.live u) live),
        subst (λ (c : Bool). IsKeptAsk {I = I} z r.held (cond c (advanced (r.asks u) (let y : Reply I D P = ReadyNow in y)) (r.asks u)) (ask_found (Ready k.0))) (sym (number_itself u))
            (subst (λ (x : Asking P). IsKeptAsk {I = I} z r.held (advanced x (let y : Reply I D P = ReadyNow in y)) (ask_found (Ready k.0))) (sym f.1) (f.0, refl, f.3)),
      ))
  one_step r live a kept e b (inr (inr k)) =
      let e0 : Entry I R D P = entry u Take (Answered k.0) in
      let f = subst (λ (x : FoundAsk D). AsksSo I z u r x) k.1 kept in
      subst (λ (x : Entry I R D P). Leaves r x b) (sym k.2)
      (subst (λ (x : FoundAsk D). Leaves r e0 x) (sym k.3) (
        record {
          may = (live, (f.0, f.1));
          replies = (
            k.0,
            refl,
            λ q e.
                let g : ready_ask f.0 ≡ ready_ask q = sym f.1 ∙ e in
                let one : f.0 ≡ q = cc in
                subst (λ (x : Query P). IsAnswer r.held.graph (asked_by z x) k.0) one f.2,
          );
        },
        refl,
        subst (λ (c : Bool). IsTrue (cond c (r.live u && true) (r.live u))) (sym (number_itself u)) (still_true (r.live u) live),
        subst (λ (c : Bool). IsKeptAsk {I = I} z r.held (cond c no_ask (r.asks u)) (ask_found Nothing)) (sym (number_itself u)) refl,
      ))

  -- events of a live unit are a legal run behind what is held, in which nothing but its ask changes
  pub run_keeps : (es : List (Entry I R D P)) (r : RunOf D P) → IsTrue (r.live u) → (a : FoundAsk D) → AsksSo I z u r a → (b : FoundAsk D) → KeepsAll z.wants z.same z.kinds r.held u a es b
      → IsRunFrom z r es × ((run_from r es).held ≡ r.held) × IsTrue ((run_from r es).live u) × AsksSo I z u (run_from r es) b
  run_keeps [] r live a kept b k = (tt, refl, live, subst (λ (x : FoundAsk D). AsksSo I z u r x) k kept)
  run_keeps (e ∷ es) r live a kept b k =
      let s = one_step r live a kept e k.0 k.1 in
      let n = run_keeps es (after r e) s.2 k.0 s.3 b (subst (λ (h : HeldOf D). KeepsAll z.wants z.same z.kinds h u k.0 es b) (sym s.1) k.2) in
      ((s.0, n.0), n.1 ∙ s.1, n.2, n.3)

-- ---- what a core keeps

kept_nothing : {I D P : Type 0} (z : Setting D P) (g : HeldOf D) (a : Asking P) (x : Ask I D P) → IsKeptAsk z g a x → a ≡ no_ask → x ≡ ask.Nothing
kept_nothing z g a ask.Nothing k e = refl
kept_nothing z g a (ask.Open s) k e = absurd (let f = sym k.1 ∙ e in cc)
kept_nothing z g a (ask.Found y) k e = absurd (let f = sym k.1 ∙ e in cc)
kept_nothing z g a (ask.Ready y) k e = absurd (let f = sym k.1 ∙ e in cc)

module _ {I R D P : Type 0} (z : Setting D P) (h : HeldOf D) (ws : WaitsOf) (ends : List (Option ℕ)) (sh : Option Shown) (u : ℕ) where
  module _ (log : List (Entry I R D P)) (aa : List (Ask I D P)) (k : IsKept z h ws aa ends sh log) (live : IsTrue ((run_of z log).live u)) (few : length log + 1 < 2 ^ 63) where
    -- what is asked in the run, by what is kept
    asked_so : (a : FoundAsk D) → ask_at aa u ≡ ask_found a → IsKeptAsk {I = I} z (run_of z log).held ((run_of z log).asks u) (ask_found a)
    asked_so a at = subst (λ (x : Ask I D P). IsKeptAsk z (run_of z log).held ((run_of z log).asks u) x) at (k.asks.each u)

    here : (F : HeldOf D → Type 0) → F h → F (run_of z log).held
    here F x = subst F k.held x

    one_kept : (a b : FoundAsk D) (e : Entry I R D P) → ask_at aa u ≡ ask_found a → KeepsOne z.wants z.same z.kinds h u a e b → IsKept z h ws (slice_set aa u (ask_found b)) ends sh (log ++ e ∷ [])
    one_kept a b e at (inl x) =
        let q = x.0 in
        let none : (run_of z log).asks u ≡ no_ask = subst (λ (y : FoundAsk D). IsKeptAsk {I = I} z (run_of z log).held ((run_of z log).asks u) (ask_found y)) x.2 (asked_so a at) in
        subst (λ (y : Entry I R D P). IsKept z h ws (slice_set aa u (ask_found b)) ends sh (log ++ y ∷ [])) (sym x.3)
        (subst (λ (y : FoundAsk D). IsKept {R = R} z h ws (slice_set aa u (ask_found y)) ends sh (log ++ entry u (AskOf q) Moved ∷ [])) (sym x.4)
        (ahead_kept z h ws aa ends sh log k u q (live, (none, x.5, here (λ g. HasScope g.graph q.start) x.6)) few (ahead.Found x.1)
        (here (λ g. IsSettled (state_of g) (asked_by z q)) x.7, here (λ g. IsAnswer g.graph (asked_by z q) x.1) x.8)))
    one_kept a b e at (inr (inl x)) =
        let f = subst (λ (y : FoundAsk D). IsKeptAsk {I = I} z (run_of z log).held ((run_of z log).asks u) (ask_found y)) x.1 (asked_so a at) in
        let there : ask_at aa u ≡ ask.Found x.0 = at ∙ ap (λ (y : FoundAsk D). ask_found {I = I} {P = P} y) x.1 in
        let idle : (run_of z log).waits u ≡ false = not_true ((run_of z log).waits u) (λ w.
        let o = (kept_run z h ws aa ends sh log k).waiting u w in
        let g : open_ask f.0 0 ≡ open_ask o.query o.count = sym f.1 ∙ o.asks in
        let one : f.0 ≡ o.query = cc in
        o.unsettled (subst (λ (y : Query P). IsSettled (state_of (run_of z log).held) (asked_by z y)) one f.2)) in
        subst (λ (y : Entry I R D P). IsKept z h ws (slice_set aa u (ask_found b)) ends sh (log ++ y ∷ [])) (sym x.2)
        (subst (λ (y : FoundAsk D). IsKept {R = R} z h ws (slice_set aa u (ask_found y)) ends sh (log ++ entry u Advance ReadyNow ∷ [])) (sym x.3)
        (found_kept z h ws aa ends sh log k u (live, (f.0, 0, f.1)) idle few x.0 there))
    one_kept a b e at (inr (inr x)) =
        let f = subst (λ (y : FoundAsk D). IsKeptAsk {I = I} z (run_of z log).held ((run_of z log).asks u) (ask_found y)) x.1 (asked_so a at) in
        let there : ask_at aa u ≡ ask.Ready x.0 = at ∙ ap (λ (y : FoundAsk D). ask_found {I = I} {P = P} y) x.1 in
        subst (λ (y : Entry I R D P). IsKept z h ws (slice_set aa u (ask_found b)) ends sh (log ++ y ∷ [])) (sym x.2)
        (subst (λ (y : FoundAsk D). IsKept {R = R} z h ws (slice_set aa u (ask_found y)) ends sh (log ++ entry u Take (Answered x.0) ∷ [])) (sym x.3)
        (take_kept z h ws aa ends sh log k u (live, (f.0, f.1)) few x.0 there))

    -- the unit lives on
    lives_on : (a b : FoundAsk D) (e : Entry I R D P) → ask_at aa u ≡ ask_found a → KeepsOne z.wants z.same z.kinds h u a e b → IsTrue ((run_of z (log ++ e ∷ [])).live u)
    lives_on a b e at x =
        let s = one_step z u (run_of z log) live a (asked_so a at) e b (here (λ g. KeepsOne z.wants z.same z.kinds g u a e b) x) in
        subst (λ (r : RunOf D P). IsTrue (r.live u)) (sym (runs_hold I R D P z log e)) s.2

  -- all these events behind the log of a core
  pub all_kept : (es log : List (Entry I R D P)) (aa : List (Ask I D P)) → IsKept z h ws aa ends sh log → IsTrue ((run_of z log).live u) → (a b : FoundAsk D) → ask_at aa u ≡ ask_found a → KeepsAll z.wants z.same z.kinds h u a es b → length log + length es < 2 ^ 63
      → IsKept z h ws (slice_set aa u (ask_found b)) ends sh (log ++ es)
  all_kept [] log aa k live a b at x few =
      let same_asks : slice_set aa u (ask_found b) ≡ aa = ap (λ (y : Ask I D P). slice_set aa u y) (sym (at ∙ ap (λ (y : FoundAsk D). ask_found {I = I} {P = P} y) x)) ∙ set_own aa u ask.Nothing in
      kept_log z h ws (slice_set aa u (ask_found b)) ends sh (log ++ []) log (append-nil log) (kept_asks z h ws (slice_set aa u (ask_found b)) aa ends sh log same_asks k)
  all_kept (e ∷ es) log aa k live a b at x few =
      let one = one_kept log aa k live (omega (arith, few)) a x.0 e at x.1 in
      let lives = lives_on log aa k live (omega (arith, few)) a x.0 e at x.1 in
      let within = ask_within z h ws aa ends sh log k u live in
      let bb = slice_set aa u (ask_found x.0) in
      let more : length (log ++ e ∷ []) ≡ length log + 1 = length-append log (e ∷ []) in
      let rest = all_kept es (log ++ e ∷ []) bb one lives x.0 b (index_set_here aa u (ask_found x.0) ask.Nothing within) x.2 (omega (arith, few, more)) in
      kept_log z h ws (slice_set aa u (ask_found b)) ends sh (log ++ e ∷ es) ((log ++ e ∷ []) ++ es) (sym (append_assoc log (e ∷ []) es))
      (kept_asks z h ws (slice_set aa u (ask_found b)) (slice_set bb u (ask_found b)) ends sh ((log ++ e ∷ []) ++ es) (sym (set_again aa u (ask_found x.0) (ask_found b))) rest)

  -- the same, of a live unit that asks nothing
  pub handed_in : (es log : List (Entry I R D P)) (aa : List (Ask I D P)) → IsKept z h ws aa ends sh log → IsFreeUnit (run_of z log) u → (b : FoundAsk D) → KeepsAll z.wants z.same z.kinds (run_of z log).held u Nothing es b → length log + length es < 2 ^ 63
      → IsKept z h ws (slice_set aa u (ask_found b)) ends sh (log ++ es)
  handed_in es log aa k free b x few =
      all_kept es log aa k free.1 Nothing b (kept_nothing z (run_of z log).held ((run_of z log).asks u) (ask_at aa u) (k.asks.each u) free.0)
      (subst (λ (g : HeldOf D). KeepsAll z.wants z.same z.kinds g u Nothing es b) (sym k.held) x) few

-- a list in memory is shorter than 2^63
pub few_more : {X : Type 0} (old more new : List X) (len cap : ℕ) → new ≡ old ++ more → (len ≡ length new) × (len ≤ cap) → cap < 2 ^ 63 → length old + length more < 2 ^ 63
few_more old more new len cap is ok small =
    let n : length new ≡ length old + length more = ap length is ∙ length-append old more in
    omega (arith, n, ok.0, ok.1, small)
