-- What is kept beside the log stays tied to it by one more entry.
use Rattle.std.proofs.Common.{◌≡◌, ℕ, zero, suc, eqb, cond, not, ◌&&◌, ◌||◌, inl, inr, slice_index_or, slice_get, length-append, ◌+◌, ◌<◌, ◌^◌, List, [], ◌∷◌, ◌++◌, Bool, true, false, IsTrue, ◌↔◌, ◌⊎◌, length, slice_set, fold, Option, Some, None, refl, sym, ◌∙◌, ap, subst, arith}
use Rattle.std.proofs.lemmas.Bool.{cases_Bool}
use Rattle.std.specs.List.{Contains, list_any}
use Rattle.std.specs.Ordering.{nat_cmp}
use Rattle.sg_base.specs.declared.scope.Scope.{Scope}
use Rattle.sg_base.specs.List.{IsRising}
use Rattle.sg_engine.specs.Need.{AreNeeds, NeedBlocks}
use Rattle.sg_engine.proofs.Standing.{stands_later}
use Rattle.sg_query.proofs.Settling.{settled_stable, settled_stay_settled}
use Rattle.sg_query.specs.declared.query.Query.{Query}
use Rattle.sg_query.specs.Growth.{StillBlocked}
use Rattle.sg_query.specs.Query.{Asked}
use Rattle.sg_base.specs.State.{State, IsOpen}
use Rattle.sg_base.proofs.Finite.{nothing_in, Contains-head, Contains-tail, Contains-cons, Contains-filter, filter-Contains}
use Rattle.sg_state.specs.declared.need.Need.{Need}
use Rattle.sg_state.specs.declared.need.Need.TheVariants.{Row, Datum}
use Rattle.sg_state.proofs.Extending.{open_from, open_to, unset_from, unset_to}
use Rattle.sg_state.proofs.Writing.{is_the_row_hold, the_row_hold_is, is_the_datum_hold, the_datum_hold_is}
use Rattle.sg_state.specs.Held.{HeldOf, IsHeld, RowHold, DatumHold, is_row_hold, is_datum_hold, HoldsRow, HoldsDatum, state_of, with_datum, without_row, without_unit}
use Rattle.sg_state.specs.Need.{HoldsAlone}
use Rattle.sg_unit.specs.declared.entry.Entry.{Entry}
use Rattle.sg_unit.specs.declared.op.Op.{Op}
use Rattle.sg_unit.specs.declared.op.Op.TheVariants.{Fresh, AddEdge, SetDatum, CloseRow, Ask as AskOf, Advance, Take, End as EndOf}
use Rattle.sg_unit.specs.declared.reply.Reply.{Reply}
use Rattle.sg_unit.specs.declared.reply.Reply.TheVariants.{Made, Done, Moved, Ready as ReadyOf, Suspended, Answer as Answered, Stuck}
use Rattle.sg_unit.specs.Operation.{goes_on, woken_by, waits_by}
use Rattle.sg_unit.specs.Run.{Setting, RunOf, Asking, open_ask, asked_by, opened, held_after, advanced, ask_after, after, run_of, IsFor}
use Rattle.sg_unit.specs.Step.{May, Replies, IsStep}
use Rattle.sg_unit.specs.Waiting.{Blocks, IsStillOpen, WaitsOn, IsWoken}
use Rattle.sg_unit.proofs.Asks.{IsAskedRun, ready_for}
use Rattle.sg_unit.proofs.Growing.{runs_grow, runs_hold}
use Rattle.sg_unit.proofs.Steps.{op_follows, op_held, in_run}
use Rattle.sg_unit.proofs.Waiters.{IsWaitedRun, opened_waited, run_waited, kept_open}
use Rattle.sg_unit.proofs.Writes.{is_num, num_is}
use Rattle.sg_waits.specs.declared.status.Status.TheVariants.{Ended, Runs, Waits}
use Rattle.sg_waits.specs.declared.status.Status.{Status}
use Rattle.sg_waits.specs.declared.shown.Shown.{Shown}
use Rattle.sg_waits.specs.Waits.{WaitsOf, status_at, is_live, waits, needs_of, WaitsForOne, set_running}
use Rattle.sg_waits.proofs.Tables.{all_length, all_run, others_stand}
use Rattle.sg_core.specs.declared.ask.Ask.{Ask}
use Rattle.sg_core.specs.declared.ask.Ask.TheVariants.{Nothing, Open, Found, Ready}
use Rattle.sg_core.specs.Core.{entry, IsRunnable}
use Rattle.sg_core.proofs.Blocking.{blocks_on, blocks_back}
use Rattle.sg_core.specs.Kept.{IsKeptAsk, ask_at, AreWaits, AreAsks, AreEnds, IsShowing, IsKept}

-- ---- lists

pub set_length : {X : Type 0} (xs : List X) (i : ℕ) (x : X) → length (slice_set xs i x) ≡ length xs
set_length [] i x = refl
set_length (y ∷ xs) zero x = refl
set_length (y ∷ xs) (suc i) x = ap suc (set_length xs i x)

pub index_set_here : {X : Type 0} (xs : List X) (i : ℕ) (x d : X) → i < length xs → slice_index_or (slice_set xs i x) i d ≡ x
index_set_here [] i x d l = absurd (omega arith)
index_set_here (y ∷ xs) zero x d l = refl
index_set_here (y ∷ xs) (suc i) x d l = index_set_here xs i x d (omega arith)

pub index_set_other : {X : Type 0} (xs : List X) (i : ℕ) (x d : X) (j : ℕ) → (j ≡ i → ⊥) → slice_index_or (slice_set xs i x) j d ≡ slice_index_or xs j d
index_set_other [] i x d j n = refl
index_set_other (y ∷ xs) zero x d zero n = absurd (n refl)
index_set_other (y ∷ xs) zero x d (suc j) n = refl
index_set_other (y ∷ xs) (suc i) x d zero n = refl
index_set_other (y ∷ xs) (suc i) x d (suc j) n = index_set_other xs i x d j (λ e. n (ap suc e))

get_front : {X : Type 0} (xs ys : List X) (i : ℕ) (x : X) → slice_get xs i ≡ Some x → slice_get (xs ++ ys) i ≡ Some x
get_front [] ys i x e = absurd (cc)
get_front (y ∷ xs) ys zero x e = e
get_front (y ∷ xs) ys (suc i) x e = get_front xs ys i x e

get_last : {X : Type 0} (xs : List X) (x : X) → slice_get (xs ++ x ∷ []) (length xs) ≡ Some x
get_last [] x = refl
get_last (y ∷ xs) x = get_last xs x

only : {X : Type 0} (x y : X) → Contains (y ∷ []) x → x ≡ y
only x y c = elim (Contains-cons y x [] c) [ inl e ↦ e | inr k ↦ absurd (nothing_in x k) ]

-- what is known of the run of a log
pub kept_run : {I R D P : Type 0} (z : Setting D P) (h : HeldOf D) (ws : WaitsOf) (aa : List (Ask I D P)) (es : List (Option ℕ)) (sh : Option Shown) (log : List (Entry I R D P)) → IsKept z h ws aa es sh log → IsWaitedRun z (run_of z log)
kept_run z h ws aa es sh log k = run_waited z (opened z) (opened_waited z k.opens) log k.runs

-- all parts together
pub kept_step : {I R D P : Type 0} (z : Setting D P) (h : HeldOf D) (ws : WaitsOf) (aa : List (Ask I D P)) (es : List (Option ℕ)) (sh : Option Shown) (log : List (Entry I R D P)) → IsKept z h ws aa es sh log → (e : Entry I R D P) → IsStep z (run_of z log) e → length log + 1 < 2 ^ 63
    → (h' : HeldOf D) → h' ≡ held_after h e.unit e.op → (ws' : WaitsOf) → AreWaits z (after (run_of z log) e) ws' → (aa' : List (Ask I D P)) → AreAsks z (after (run_of z log) e) aa' → (es' : List (Option ℕ)) → AreEnds (after (run_of z log) e) (log ++ e ∷ []) es' → (sh' : Option Shown) → IsShowing z (after (run_of z log) e) sh' → IsKept z h' ws' aa' es' sh' (log ++ e ∷ [])
kept_step {I} {R} {D} {P} z h ws aa es sh log k e s few h' hs ws' w aa' a es' n sh' o =
    let is : run_of z (log ++ e ∷ []) ≡ after (run_of z log) e = runs_hold I R D P z log e in
    record {
      opens = k.opens;
      runs = runs_grow I R D P z log e k.runs s;
      few = subst (λ (x : ℕ). x < 2 ^ 63) (sym (length-append log (e ∷ []))) few;
      held = subst (λ (x : RunOf D P). h' ≡ x.held) (sym is) (hs ∙ ap (λ (y : HeldOf D). held_after y e.unit e.op) k.held);
      waits = subst (λ (x : RunOf D P). AreWaits z x ws') (sym is) w;
      asks = subst (λ (x : RunOf D P). AreAsks z x aa') (sym is) a;
      ends = subst (λ (x : RunOf D P). AreEnds x (log ++ e ∷ []) es') (sym is) n;
      shown = subst (λ (x : RunOf D P). IsShowing z x sh') (sym is) o;
    }

-- ---- truth values

still_true : (b : Bool) → IsTrue b → IsTrue (b && true)
still_true true h = refl
still_true false h = h

first_true : (b c : Bool) → IsTrue (b && c) → IsTrue b
first_true true c h = refl
first_true false c h = h

never : (b : Bool) → (b && false) ≡ false
never true = refl
never false = refl

stays : (b : Bool) → (b && true) ≡ b
stays true = refl
stays false = refl

and_true : (b : Bool) → (b && true) ≡ b
and_true = stays

and_false : (b : Bool) → (b && false) ≡ false
and_false = never

still_live : (b l g : Bool) → g ≡ true → IsTrue l → IsTrue (cond b (l && g) l)
still_live true true g e h = e
still_live true false g e h = h
still_live false l g e h = h

any_in : (vs : List ℕ) (u : ℕ) → list_any (λ v. eqb v u) vs ≡ true → Contains vs u
any_in [] u e = absurd (cc)
any_in (v ∷ vs) u e =
    elim (cases_Bool (eqb v u)) [
      | inl b ↦ subst (λ (x : ℕ). Contains (v ∷ vs) x) (is_num v u b) (Contains-head v vs)
      | inr b ↦ Contains-tail v u vs (any_in vs u (subst (λ (c : Bool). (c || list_any (λ w. eqb w u) vs) ≡ true) b e))
    ]

in_any : (vs : List ℕ) (u : ℕ) → Contains vs u → list_any (λ v. eqb v u) vs ≡ true
in_any [] u c = absurd (nothing_in u c)
in_any (v ∷ vs) u c =
    elim (Contains-cons v u vs c) [
      | inl e ↦ subst (λ (b : Bool). (b || list_any (λ w. eqb w u) vs) ≡ true) (sym (ap (λ (x : ℕ). eqb v x) e ∙ num_is v)) refl
      | inr k ↦ or_true (eqb v u) (list_any (λ w. eqb w u) vs) (in_any vs u k)
    ]
  where
    or_true : (a b : Bool) → b ≡ true → (a || b) ≡ true
    or_true true b e = refl
    or_true false b e = e

pub apart_from : (a b : ℕ) → eqb a b ≡ false → b ≡ a → ⊥
apart_from a b e i = absurd (let t = subst (λ (n : ℕ). eqb a n ≡ false) i e in let f = num_is a in let g = sym f ∙ t in cc)

waiting_within : (ws : WaitsOf) (u : ℕ) → waits (status_at ws u) ≡ true → u < length ws
waiting_within [] u h = absurd (cc)
waiting_within (w ∷ ws) zero h = omega arith
waiting_within (w ∷ ws) (suc u) h = let k = waiting_within ws u h in omega (arith, k)

-- ---- what blocks a query

need_blocks : {D : Type 0} (h : State D) (q : Asked D) (n : Need) → NeedBlocks h q n → Blocks h q n
need_blocks h q (Row t l) b = b
need_blocks h q (Datum t) b = b

blocks_need : {D : Type 0} (h : State D) (q : Asked D) (n : Need) → Blocks h q n → NeedBlocks h q n
blocks_need h q (Row t l) b = b
blocks_need h q (Datum t) b = b

is_open : {D : Type 0} (h : State D) (q : Asked D) (n : Need) → Blocks h q n → IsStillOpen h n
is_open h q (Row t l) b = b.4
is_open h q (Datum t) b = b.4

-- a unit stands so in a run
record IsUnitAt {D P : Type 0} (z : Setting D P) (r : RunOf D P) (u : ℕ) (st : Status) : Type 0 where
  pub live : is_live st ≡ r.live u
  pub waiting : waits st ≡ r.waits u
  pub needs : (n : Need) → (Contains (needs_of st) n) ↔ (WaitsOn z r u n)

module _ {I R D P : Type 0} (z : Setting D P) (r : RunOf D P) (e : Entry I R D P) (s : IsStep z r e) where
  -- ---- asks

  -- what is kept of a unit's ask holds after anybody's step that leaves the ask as it is
  pub later_ask : IsAskedRun z r → (v : ℕ) (k : Ask I D P) → IsKeptAsk z r.held (r.asks v) k → IsKeptAsk z (after r e).held (r.asks v) k
  later_ask ok v Nothing h = h
  later_ask ok v (Open f) h =
      let later = op_follows z r ok.sound e.unit e.op s.may in
      let start = ok.starts v f.query (subst (λ (a : Asking P). IsFor a f.query) (sym h.1) refl) in
      (h.0, h.1, h.2, h.3, stands_later D (state_of r.held) (state_of (after r e).held) (asked_by z f.query) f.front (ok.sound.held).graph start later h.4)
  later_ask ok v (Found y) h =
      let later = op_follows z r ok.sound e.unit e.op s.may in
      let start = ok.starts v h.0 (subst (λ (a : Asking P). IsFor a h.0) (sym h.1) refl) in
      let stays = settled_stay_settled D (state_of r.held) (state_of (after r e).held) (asked_by z h.0) (ok.sound.held).graph start later h.2 in
      (h.0, h.1, stays.0, (stays.1 y).1 h.3)
  later_ask ok v (Ready y) h =
      let later = op_follows z r ok.sound e.unit e.op s.may in
      let start = ok.starts v h.0 (ready_for (r.asks v) h.0 h.1) in
      (h.0, h.1, (settled_stable D (state_of r.held) (after r e).held.graph (asked_by z h.0) y (ok.sound.held).graph start (ok.settled v h.0 h.1) later.extends).1 h.2)

  pub asks_kept : IsAskedRun z r → (aa : List (Ask I D P)) → AreAsks z r aa → ask_after (r.asks e.unit) e.op e.reply ≡ r.asks e.unit → AreAsks z (after r e) aa
  asks_kept ok aa a same = record {
    units = a.units ∙ sym ((op_held z r ok.sound e.unit e.op s.may).1);
    each = λ u.
        let same_ask : r.asks u ≡ (after r e).asks u =
        elim (cases_Bool (eqb e.unit u)) [
          | inl b ↦ subst (λ (c : Bool). r.asks u ≡ cond c (ask_after (r.asks u) e.op e.reply) (r.asks u)) (sym b) (subst (λ (n : ℕ). r.asks n ≡ ask_after (r.asks n) e.op e.reply) (is_num e.unit u b) (sym same))
          | inr b ↦ subst (λ (c : Bool). r.asks u ≡ cond c (ask_after (r.asks u) e.op e.reply) (r.asks u)) (sym b) refl
        ] in
        subst (λ (x : Asking P). IsKeptAsk z (after r e).held x (ask_at aa u)) same_ask (later_ask ok u (ask_at aa u) (a.each u));
  }

  -- the unit's own ask is another
  pub asks_set : IsAskedRun z r → (aa : List (Ask I D P)) → AreAsks z r aa → (k : Ask I D P) → IsKeptAsk z (after r e).held (ask_after (r.asks e.unit) e.op e.reply) k → AreAsks z (after r e) (slice_set aa e.unit k)
  asks_set ok aa a k h = record {
    units = set_length aa e.unit k ∙ a.units ∙ sym ((op_held z r ok.sound e.unit e.op s.may).1);
    each = λ u.
        elim (cases_Bool (eqb e.unit u)) [
          | inl b ↦
              let l : e.unit < length aa = subst (λ (n : ℕ). e.unit < n) (sym a.units) (in_run z r ok.sound e.unit s.may.0) in
              let here : IsKeptAsk z (after r e).held (ask_after (r.asks e.unit) e.op e.reply) (ask_at (slice_set aa e.unit k) e.unit) =
              subst (λ (x : Ask I D P). IsKeptAsk z (after r e).held (ask_after (r.asks e.unit) e.op e.reply) x) (sym (index_set_here aa e.unit k Nothing l)) h in
              subst (λ (c : Bool). IsKeptAsk z (after r e).held (cond c (ask_after (r.asks u) e.op e.reply) (r.asks u)) (ask_at (slice_set aa e.unit k) u)) (sym b)
              (subst (λ (n : ℕ). IsKeptAsk z (after r e).held (ask_after (r.asks n) e.op e.reply) (ask_at (slice_set aa e.unit k) n)) (is_num e.unit u b) here)
          | inr b ↦
              let out : u ≡ e.unit → ⊥ = λ i. absurd (let t = subst (λ (n : ℕ). eqb e.unit n ≡ false) i b in let f = num_is e.unit in let g = sym f ∙ t in cc) in
              subst (λ (c : Bool). IsKeptAsk z (after r e).held (cond c (ask_after (r.asks u) e.op e.reply) (r.asks u)) (ask_at (slice_set aa e.unit k) u)) (sym b)
              (subst (λ (x : Ask I D P). IsKeptAsk z (after r e).held (r.asks u) x) (sym (index_set_other aa e.unit k Nothing u out)) (later_ask ok u (ask_at aa u) (a.each u)))
        ];
  }

  -- ---- who waits

  -- who is woken waited
  woken_waited : (next : RunOf D P) (op : Op I R D P) (y : Reply I D P) → May z r e.unit op → Replies z r next e.unit op y → (v : ℕ) → Contains (woken_by y) v → IsTrue (r.waits v)
  woken_waited next (Fresh labels datum) y m k v c = absurd (nothing_in v (subst (λ (x : Reply I D P). Contains (woken_by x) v) k c))
  woken_waited next (AddEdge from label to) y m k v c = absurd (nothing_in v (subst (λ (x : Reply I D P). Contains (woken_by x) v) k c))
  woken_waited next (SetDatum t d) (Done vs) m k v c = (((k.1 v).0 c).1).0
  woken_waited next (SetDatum t d) (Made t') m k v c = absurd k
  woken_waited next (SetDatum t d) Moved m k v c = absurd k
  woken_waited next (SetDatum t d) ReadyOf m k v c = absurd k
  woken_waited next (SetDatum t d) Suspended m k v c = absurd k
  woken_waited next (SetDatum t d) (Answered a) m k v c = absurd k
  woken_waited next (SetDatum t d) Stuck m k v c = absurd k
  woken_waited next (CloseRow t l) (Done vs) m k v c = (((k.1 v).0 c).1).0
  woken_waited next (CloseRow t l) (Made t') m k v c = absurd k
  woken_waited next (CloseRow t l) Moved m k v c = absurd k
  woken_waited next (CloseRow t l) ReadyOf m k v c = absurd k
  woken_waited next (CloseRow t l) Suspended m k v c = absurd k
  woken_waited next (CloseRow t l) (Answered a) m k v c = absurd k
  woken_waited next (CloseRow t l) Stuck m k v c = absurd k
  woken_waited next (AskOf q) y m k v c = absurd (nothing_in v (subst (λ (x : Reply I D P). Contains (woken_by x) v) k c))
  woken_waited next Advance (Done vs) m k v c = absurd (k (m.1).0 ((m.1).1) ((m.1).2))
  woken_waited next Advance (Made t') m k v c = absurd (nothing_in v c)
  woken_waited next Advance Moved m k v c = absurd (nothing_in v c)
  woken_waited next Advance ReadyOf m k v c = absurd (nothing_in v c)
  woken_waited next Advance Suspended m k v c = absurd (nothing_in v c)
  woken_waited next Advance (Answered a) m k v c = absurd (nothing_in v c)
  woken_waited next Advance Stuck m k v c = absurd (nothing_in v c)
  woken_waited next Take y m k v c = absurd (nothing_in v (subst (λ (x : Reply I D P). Contains (woken_by x) v) k.1 c))
  woken_waited next (EndOf x) (Done vs) m k v c = ((((k.0).1 v).0 c).1).0
  woken_waited next (EndOf x) (Made t') m k v c = absurd k
  woken_waited next (EndOf x) Moved m k v c = absurd k
  woken_waited next (EndOf x) ReadyOf m k v c = absurd k
  woken_waited next (EndOf x) Suspended m k v c = absurd k
  woken_waited next (EndOf x) (Answered a) m k v c = absurd k
  woken_waited next (EndOf x) Stuck m k v c = absurd (nothing_in v c)

  -- what another unit needs stays what it needs, where it is not woken
  needs_stay : IsWaitedRun z r → (u : ℕ) → eqb e.unit u ≡ false → list_any (λ v. eqb v u) (woken_by e.reply) ≡ false → (n : Need) → (WaitsOn z r u n) ↔ (WaitsOn z (after r e) u n)
  needs_stay ok u b out n = (
    (λ k.
        let q = (k.1).0 in
        let m = ((k.1).1) in
        let asks : r.asks u ≡ open_ask q m = (k.1).2 in
        let start = ok.asked.starts u q (subst (λ (a : Asking P). IsFor a q) (sym asks) refl) in
        let waits : IsTrue ((after r e).waits u) = subst (λ (c : Bool). IsTrue (cond c (goes_on e.op && waits_by (r.waits u) e.reply) (r.waits u && not (list_any (λ v. eqb v u) (woken_by e.reply))))) (sym b)
        (subst (λ (c : Bool). IsTrue (r.waits u && not c)) (sym out) (still_true (r.waits u) k.0)) in
        let open' = kept_open z r (after r e) e.unit e.op e.reply refl s.replies u quiet n k (is_open (state_of r.held) (asked_by z q) n (k.1).3) in (
          waits,
          (
            q,
            m,
            subst (λ (c : Bool). cond c (ask_after (r.asks u) e.op e.reply) (r.asks u) ≡ open_ask q m) (sym b) asks,
            blocks_on (state_of r.held) (state_of (after r e).held) (asked_by z q) (ok.asked.sound.held).graph start (op_follows z r ok.asked.sound e.unit e.op s.may) n (k.1).3 open',
          ),
        )),
    (λ k.
        let q = (k.1).0 in
        let m = ((k.1).1) in
        let asks : r.asks u ≡ open_ask q m = subst (λ (c : Bool). cond c (ask_after (r.asks u) e.op e.reply) (r.asks u) ≡ open_ask q m) b (k.1).2 in
        let start = ok.asked.starts u q (subst (λ (a : Asking P). IsFor a q) (sym asks) refl) in
        let waits : IsTrue (r.waits u) = first_true (r.waits u) (not (list_any (λ v. eqb v u) (woken_by e.reply)))
        (subst (λ (c : Bool). IsTrue (cond c (goes_on e.op && waits_by (r.waits u) e.reply) (r.waits u && not (list_any (λ v. eqb v u) (woken_by e.reply))))) b k.0) in
        let still : StillBlocked (state_of r.held) (state_of (after r e).held) (asked_by z q) =
        record {
          rows = λ t l x. kept_open z r (after r e) e.unit e.op e.reply refl s.replies u quiet (Row t l) (waits, (q, m, asks, x)) x.4;
          data_at = λ t x. kept_open z r (after r e) e.unit e.op e.reply refl s.replies u quiet (Datum t) (waits, (q, m, asks, x)) x.4;
        } in
        let later = op_follows z r ok.asked.sound e.unit e.op s.may in
        (waits, (q, m, asks, blocks_back (state_of r.held) (state_of (after r e).held) (asked_by z q) (ok.asked.sound.held).graph start later.extends still n (k.1).3 later))),
  )
    where
      quiet : IsTrue (not (list_any (λ v. eqb v u) (woken_by e.reply)))
      quiet = subst (λ (c : Bool). IsTrue (not c)) (sym out) refl

  -- another unit, once those are woken that the reply names
  other_unit : IsWaitedRun z r → (ws : WaitsOf) → AreWaits z r ws → (u : ℕ) → eqb e.unit u ≡ false → (vs : List ℕ) → woken_by e.reply ≡ vs → IsUnitAt z (after r e) u (status_at (fold set_running ws vs) u)
  other_unit ok ws w u b vs same =
      elim (cases_Bool (list_any (λ v. eqb v u) vs)) [
        | inl t ↦
            let c : Contains vs u = any_in vs u t in
            let waited : IsTrue (r.waits u) = woken_waited (after r e) e.op e.reply s.may s.replies u (subst (λ (x : List ℕ). Contains x u) (sym same) c) in
            let there : u < length ws = waiting_within ws u (w.waiting u ∙ waited) in
            let runs : status_at (fold set_running ws vs) u ≡ Runs = all_run ws vs u there c in
            let quiet : (after r e).waits u ≡ false = subst (λ (x : Bool). cond x (goes_on e.op && waits_by (r.waits u) e.reply) (r.waits u && not (list_any (λ v. eqb v u) (woken_by e.reply))) ≡ false) (sym b)
            (subst (λ (x : List ℕ). (r.waits u && not (list_any (λ v. eqb v u) x)) ≡ false) (sym same) (subst (λ (x : Bool). (r.waits u && not x) ≡ false) (sym t) (never (r.waits u)))) in
            subst (λ (x : Status). IsUnitAt z (after r e) u x) (sym runs) (record {
              live = sym (subst (λ (x : Bool). cond x (r.live u && goes_on e.op) (r.live u) ≡ true) (sym b) ((ok.waiting u waited).live));
              waiting = sym quiet;
              needs = λ n. ((λ k. absurd (nothing_in n k)), (λ k. absurd (let t = k.0 in let f = sym quiet ∙ t in cc)));
            })
        | inr f ↦
            let out : Contains vs u → ⊥ = λ c. absurd (let t = in_any vs u c in let g = sym f ∙ t in cc) in
            let quiet : list_any (λ v. eqb v u) (woken_by e.reply) ≡ false = subst (λ (x : List ℕ). list_any (λ v. eqb v u) x ≡ false) (sym same) f in
            subst (λ (x : Status). IsUnitAt z (after r e) u x) (sym (others_stand ws vs u out)) (record {
              live = w.live u ∙ sym (subst (λ (x : Bool). cond x (r.live u && goes_on e.op) (r.live u) ≡ r.live u) (sym b) refl);
              waiting = w.waiting u ∙ sym (subst (λ (x : Bool). cond x (goes_on e.op && waits_by (r.waits u) e.reply) (r.waits u && not (list_any (λ v. eqb v u) (woken_by e.reply))) ≡ r.waits u) (sym b)
                  (subst (λ (x : Bool). (r.waits u && not x) ≡ r.waits u) (sym quiet) (stays (r.waits u))));
              needs = λ n. (
                (λ k. (needs_stay ok u b quiet n).0 ((w.needs u n).0 k)),
                (λ k. (w.needs u n).1 ((needs_stay ok u b quiet n).1 k)),
              );
            })
      ]

  -- all units, by the entry's own and the others
  all_units : IsWaitedRun z r → (ws : WaitsOf) → AreWaits z r ws → (vs : List ℕ) → woken_by e.reply ≡ vs → (new : WaitsOf) → length new ≡ length ws → ((u : ℕ) → (u ≡ e.unit → ⊥) → status_at new u ≡ status_at (fold set_running ws vs) u) → IsUnitAt z (after r e) e.unit (status_at new e.unit) → AreWaits z (after r e) new
  all_units ok ws w vs same new len others own = record {
    units = len ∙ w.units ∙ sym ((op_held z r ok.asked.sound e.unit e.op s.may).1);
    live = λ u. (each u).live;
    waiting = λ u. (each u).waiting;
    needs = λ u. (each u).needs;
  }
    where
      each : (u : ℕ) → IsUnitAt z (after r e) u (status_at new u)
      each u =
          elim (cases_Bool (eqb e.unit u)) [
            | inl b ↦ subst (λ (n : ℕ). IsUnitAt z (after r e) n (status_at new n)) (is_num e.unit u b) own
            | inr b ↦ subst (λ (x : Status). IsUnitAt z (after r e) u x) (sym (others u (λ i. apart_from e.unit u b i))) (other_unit ok ws w u b vs same)
          ]

  -- the entry's own unit after it
  own_live : (after r e).live e.unit ≡ r.live e.unit && goes_on e.op
  own_live = subst (λ (x : Bool). cond x (r.live e.unit && goes_on e.op) (r.live e.unit) ≡ r.live e.unit && goes_on e.op) (sym (num_is e.unit)) refl

  own_waits : (after r e).waits e.unit ≡ goes_on e.op && waits_by (r.waits e.unit) e.reply
  own_waits = subst (λ (x : Bool). cond x (goes_on e.op && waits_by (r.waits e.unit) e.reply) (r.waits e.unit && not (list_any (λ v. eqb v e.unit) (woken_by e.reply))) ≡ goes_on e.op && waits_by (r.waits e.unit) e.reply) (sym (num_is e.unit)) refl

  own_asks : (after r e).asks e.unit ≡ ask_after (r.asks e.unit) e.op e.reply
  own_asks = subst (λ (x : Bool). cond x (ask_after (r.asks e.unit) e.op e.reply) (r.asks e.unit) ≡ ask_after (r.asks e.unit) e.op e.reply) (sym (num_is e.unit)) refl

  -- the entry's unit goes on and does not wait, and these units are woken
  pub waits_wake : IsWaitedRun z r → (ws : WaitsOf) → AreWaits z r ws → goes_on e.op ≡ true → waits_by (r.waits e.unit) e.reply ≡ false → r.waits e.unit ≡ false → (vs : List ℕ) → woken_by e.reply ≡ vs → AreWaits z (after r e) (fold set_running ws vs)
  waits_wake ok ws w goes none idle vs same =
      all_units ok ws w vs same (fold set_running ws vs) (all_length ws vs) (λ u n. refl) (elim (cases_Bool (list_any (λ v. eqb v e.unit) vs)) [
        | inl t ↦ absurd (
            let waited : IsTrue (r.waits e.unit) = woken_waited (after r e) e.op e.reply s.may s.replies e.unit (subst (λ (x : List ℕ). Contains x e.unit) (sym same) (any_in vs e.unit t)) in
            let f = sym idle ∙ waited in cc)
        | inr f ↦
            let out : Contains vs e.unit → ⊥ = λ c. absurd (let t = in_any vs e.unit c in let g = sym f ∙ t in cc) in
            subst (λ (x : Status). IsUnitAt z (after r e) e.unit x) (sym (others_stand ws vs e.unit out)) (record {
              live = w.live e.unit ∙ sym (own_live ∙ ap (λ (b : Bool). r.live e.unit && b) goes ∙ and_true (r.live e.unit));
              waiting = w.waiting e.unit ∙ idle ∙ sym quiet;
              needs = λ n. (
                (λ k. absurd (let t = ((w.needs e.unit n).0 k).0 in let f = sym idle ∙ t in cc)),
                (λ k. absurd (let t = k.0 in let f = sym quiet ∙ t in cc)),
              );
            })
      ])
    where
      quiet : (after r e).waits e.unit ≡ false
      quiet = own_waits ∙ ap (λ (b : Bool). b && waits_by (r.waits e.unit) e.reply) goes ∙ none

  -- the unit waits, for what blocks its query
  pub waits_note : IsWaitedRun z r → (ws : WaitsOf) → AreWaits z r ws → e.op ≡ Advance → ((e.reply ≡ Suspended) ⊎ (e.reply ≡ Stuck)) → (q : Query P) (m : ℕ) → r.asks e.unit ≡ open_ask q m → (ns : List Need) → AreNeeds (state_of r.held) (asked_by z q) ns → AreWaits z (after r e) (slice_set ws e.unit (Waits ns))
  waits_note ok ws w op y q m asks ns needs =
      all_units ok ws w [] silent (slice_set ws e.unit (Waits ns)) (set_length ws e.unit (Waits ns)) (λ u n. index_set_other ws e.unit (Waits ns) Ended u n)
      (subst (λ (x : Status). IsUnitAt z (after r e) e.unit x) (sym (index_set_here ws e.unit (Waits ns) Ended there)) (record {
        live = sym (own_live ∙ ap (λ (o : Op I R D P). r.live e.unit && goes_on o) op ∙ and_true (r.live e.unit) ∙ s.may.0);
        waiting = sym now;
        needs = λ n. (
          (λ c. (now, (q, m, asks_now, subst (λ (h : HeldOf D). Blocks (state_of h) (asked_by z q) n) (sym held_now) (need_blocks (state_of r.held) (asked_by z q) n ((needs.exact n).0 c))))),
          (λ k.
              let a : open_ask q m ≡ open_ask (k.1).0 (k.1).1 = sym asks_now ∙ (k.1).2 in
              let t : q ≡ (k.1).0 = cc in
              (needs.exact n).1 (blocks_need (state_of r.held) (asked_by z q) n (subst (λ (x : Query P). Blocks (state_of r.held) (asked_by z x) n) (sym t) (subst (λ (h : HeldOf D). Blocks (state_of h) (asked_by z (k.1).0) n) held_now (k.1).3)))),
        );
      }))
    where
      silent : woken_by e.reply ≡ []
      silent = elim y [ inl a ↦ ap woken_by a | inr a ↦ ap woken_by a ]

      held_now : (after r e).held ≡ r.held
      held_now = ap (λ (o : Op I R D P). held_after r.held e.unit o) op

      there : e.unit < length ws
      there = subst (λ (n : ℕ). e.unit < n) (sym w.units) (in_run z r ok.asked.sound e.unit s.may.0)

      now : (after r e).waits e.unit ≡ true
      now = own_waits ∙ ap (λ (o : Op I R D P). goes_on o && waits_by (r.waits e.unit) e.reply) op ∙ elim y [ inl a ↦ ap (λ (x : Reply I D P). waits_by (r.waits e.unit) x) a | inr a ↦ ap (λ (x : Reply I D P). waits_by (r.waits e.unit) x) a ]

      asks_now : (after r e).asks e.unit ≡ open_ask q m
      asks_now = own_asks ∙ ap (λ (o : Op I R D P). ask_after (r.asks e.unit) o e.reply) op ∙ ap (λ (a : Asking P). advanced a e.reply) asks ∙ elim y [ inl a ↦ ap (λ (x : Reply I D P). advanced (open_ask q m) x) a | inr a ↦ ap (λ (x : Reply I D P). advanced (open_ask q m) x) a ]

  -- a unit that waits waits on
  pub waits_again : IsWaitedRun z r → (ws : WaitsOf) → AreWaits z r ws → e.op ≡ Advance → ((e.reply ≡ Suspended) ⊎ (e.reply ≡ Stuck)) → IsTrue (r.waits e.unit) → AreWaits z (after r e) ws
  waits_again ok ws w op y waits =
      all_units ok ws w [] silent ws refl (λ u n. refl) (record {
        live = w.live e.unit ∙ sym (own_live ∙ ap (λ (o : Op I R D P). r.live e.unit && goes_on o) op ∙ and_true (r.live e.unit));
        waiting = w.waiting e.unit ∙ waits ∙ sym now;
        needs = λ n. (
          (λ c. let k = (w.needs e.unit n).0 c in (now, ((k.1).0, (k.1).1, asks_now (k.1).0 (k.1).1 (k.1).2, subst (λ (h : HeldOf D). Blocks (state_of h) (asked_by z (k.1).0) n) (sym held_now) (k.1).3))),
          (λ k. (w.needs e.unit n).1 (waits, ((k.1).0, (k.1).1, asks_before (k.1).0 (k.1).1 (k.1).2, subst (λ (h : HeldOf D). Blocks (state_of h) (asked_by z (k.1).0) n) held_now (k.1).3))),
        );
      })
    where
      silent : woken_by e.reply ≡ []
      silent = elim y [ inl a ↦ ap woken_by a | inr a ↦ ap woken_by a ]

      now : (after r e).waits e.unit ≡ true
      now = own_waits ∙ ap (λ (o : Op I R D P). goes_on o && waits_by (r.waits e.unit) e.reply) op ∙ elim y [ inl a ↦ ap (λ (x : Reply I D P). waits_by (r.waits e.unit) x) a | inr a ↦ ap (λ (x : Reply I D P). waits_by (r.waits e.unit) x) a ]

      held_now : (after r e).held ≡ r.held
      held_now = ap (λ (o : Op I R D P). held_after r.held e.unit o) op

      same_asks : (after r e).asks e.unit ≡ advanced (r.asks e.unit) e.reply
      same_asks = own_asks ∙ ap (λ (o : Op I R D P). ask_after (r.asks e.unit) o e.reply) op

      asks_now : (q : Query P) (m : ℕ) → r.asks e.unit ≡ open_ask q m → (after r e).asks e.unit ≡ open_ask q m
      asks_now q m a = same_asks ∙ ap (λ (x : Asking P). advanced x e.reply) a ∙ elim y [ inl b ↦ ap (λ (x : Reply I D P). advanced (open_ask q m) x) b | inr b ↦ ap (λ (x : Reply I D P). advanced (open_ask q m) x) b ]

      asks_before : (q : Query P) (m : ℕ) → (after r e).asks e.unit ≡ open_ask q m → r.asks e.unit ≡ open_ask q m
      asks_before q m a =
          let k = ok.waiting e.unit waits in
          k.asks ∙ sym (asks_now k.query k.count k.asks) ∙ a

  -- the unit ends, and these units are woken
  pub waits_end : IsWaitedRun z r → (ws : WaitsOf) → AreWaits z r ws → goes_on e.op ≡ false → (vs : List ℕ) → woken_by e.reply ≡ vs → AreWaits z (after r e) (slice_set (fold set_running ws vs) e.unit Ended)
  waits_end ok ws w ends vs same =
      all_units ok ws w vs same (slice_set (fold set_running ws vs) e.unit Ended) (set_length (fold set_running ws vs) e.unit Ended ∙ all_length ws vs)
      (λ u n. index_set_other (fold set_running ws vs) e.unit Ended Ended u n)
      (subst (λ (x : Status). IsUnitAt z (after r e) e.unit x) (sym (index_set_here (fold set_running ws vs) e.unit Ended Ended there)) (record {
        live = sym (own_live ∙ ap (λ (b : Bool). r.live e.unit && b) ends ∙ and_false (r.live e.unit));
        waiting = sym quiet;
        needs = λ n. ((λ k. absurd (nothing_in n k)), (λ k. absurd (let t = k.0 in let f = sym quiet ∙ t in cc)));
      }))
    where
      there : e.unit < length (fold set_running ws vs)
      there = subst (λ (n : ℕ). e.unit < n) (sym (all_length ws vs ∙ w.units)) (in_run z r ok.asked.sound e.unit s.may.0)

      quiet : (after r e).waits e.unit ≡ false
      quiet = own_waits ∙ ap (λ (b : Bool). b && waits_by (r.waits e.unit) e.reply) ends

  -- ---- who has ended, and what is shown

  pub ends_kept : (log : List (Entry I R D P)) (es : List (Option ℕ)) → AreEnds r log es → goes_on e.op ≡ true → IsWaitedRun z r → AreEnds (after r e) (log ++ e ∷ []) es
  ends_kept log es a goes ok = record {
    units = a.units ∙ sym ((op_held z r ok.asked.sound e.unit e.op s.may).1);
    live = λ u l none. still_live (eqb e.unit u) (r.live u) (goes_on e.op) goes (a.live u l none);
    ended = λ u i at. let k = a.ended u i at in (k.0, k.1, get_front log (e ∷ []) i (entry u (EndOf k.0) k.1) k.2);
  }

  pub ends_set : (log : List (Entry I R D P)) (es : List (Option ℕ)) → AreEnds r log es → (x : R) → e.op ≡ EndOf x → IsWaitedRun z r → AreEnds (after r e) (log ++ e ∷ []) (slice_set es e.unit (Some (length log)))
  ends_set log es a x op ok = record {
    units = set_length es e.unit (Some (length log)) ∙ a.units ∙ sym ((op_held z r ok.asked.sound e.unit e.op s.may).1);
    live = λ u l none.
        elim (cases_Bool (eqb e.unit u)) [
          | inl b ↦ absurd (let k = subst (λ (n : ℕ). slice_index_or (slice_set es e.unit (Some (length log))) n None ≡ None) (sym (is_num e.unit u b)) none in let h = here in let f = sym h ∙ k in cc)
          | inr b ↦
              let out : u ≡ e.unit → ⊥ = λ i. apart_from e.unit u b i in
              let was : slice_index_or es u None ≡ None = sym (index_set_other es e.unit (Some (length log)) None u out) ∙ none in
              subst (λ (c : Bool). IsTrue (cond c (r.live u && goes_on e.op) (r.live u))) (sym b) (a.live u (subst (λ (n : ℕ). u < n) (set_length es e.unit (Some (length log))) l) was)
        ];
    ended = λ u i at.
        elim (cases_Bool (eqb e.unit u)) [
          | inl b ↦
              let same : e.unit ≡ u = is_num e.unit u b in
              let at_own : slice_index_or (slice_set es e.unit (Some (length log))) e.unit None ≡ Some i = subst (λ (n : ℕ). slice_index_or (slice_set es e.unit (Some (length log))) n None ≡ Some i) (sym same) at in
              let last : length log ≡ i = (let h = here in let f = sym h ∙ at_own in cc) in
              let get : slice_get (log ++ e ∷ []) (length log) ≡ Some (entry e.unit (EndOf x) e.reply) = get_last log e ∙ ap (λ (o : Op I R D P). Some (entry e.unit o e.reply)) op in
              (x, e.reply, subst (λ (n : ℕ). slice_get (log ++ e ∷ []) i ≡ Some (entry n (EndOf x) e.reply)) same (subst (λ (n : ℕ). slice_get (log ++ e ∷ []) n ≡ Some (entry e.unit (EndOf x) e.reply)) last get))
          | inr b ↦
              let out : u ≡ e.unit → ⊥ = λ j. apart_from e.unit u b j in
              let k = a.ended u i (sym (index_set_other es e.unit (Some (length log)) None u out) ∙ at) in
              (k.0, k.1, get_front log (e ∷ []) i (entry u (EndOf k.0) k.1) k.2)
        ];
  }
    where
      here : slice_index_or (slice_set es e.unit (Some (length log))) e.unit None ≡ Some (length log)
      here = index_set_here es e.unit (Some (length log)) None (subst (λ (n : ℕ). e.unit < n) (sym a.units) (in_run z r ok.asked.sound e.unit s.may.0))

  -- the entry's unit goes on and does not wait: nothing is shown
  pub runs_on : IsTrue (r.live e.unit) → goes_on e.op ≡ true → waits_by (r.waits e.unit) e.reply ≡ false → IsRunnable (after r e) e.unit × IsShowing z (after r e) None
  runs_on live goes none =
      ((now_live, now_quiet), (λ st. absurd (let t = st.1 e.unit now_live in let f = sym now_quiet ∙ t in cc)))
    where
      now_live : (after r e).live e.unit ≡ true
      now_live = own_live ∙ ap (λ (b : Bool). r.live e.unit && b) goes ∙ and_true (r.live e.unit) ∙ live

      now_quiet : (after r e).waits e.unit ≡ false
      now_quiet = own_waits ∙ ap (λ (b : Bool). b && waits_by (r.waits e.unit) e.reply) goes ∙ none

-- ---- whom a write wakes

-- these needs are open, and the write closes them
abbrev pub AreGone : {D : Type 0} → HeldOf D → HeldOf D → List Need → Type 0
AreGone h h' gone = (n : Need) → (Contains gone n) ↔ (IsStillOpen (state_of h) n × (IsStillOpen (state_of h') n → ⊥))

pub woken_are : {D P : Type 0} (z : Setting D P) (r : RunOf D P) → IsWaitedRun z r → (ws : WaitsOf) → AreWaits z r ws → (h' : HeldOf D) (gone : List Need) → AreGone r.held h' gone → (vs : List ℕ) → IsRising nat_cmp vs → ((u : ℕ) → (Contains vs u) ↔ (WaitsForOne ws u gone)) → IsWoken z r h' vs
woken_are z r ok ws w h' gone g vs up exact = (
  up,
  λ u. (
    (λ c.
        let k = (exact u).0 c in
        (k.0, (w.needs u k.0).0 k.2, ((g k.0).0 k.1).1)),
    (λ k. (exact u).1 (k.0, (g k.0).1 (is_open (state_of r.held) (asked_by z ((k.1).1).0) k.0 ((k.1).1).3, k.2), (w.needs u k.0).1 k.1)),
  ),
)

-- setting a datum takes its need away
pub datum_gone : {D : Type 0} (h : HeldOf D) → IsHeld h → (u : ℕ) (s : Scope) (d : D) → HoldsDatum h u s → AreGone h (with_datum h u s d) (Datum s ∷ [])
datum_gone h ok u s d holds n = ((λ c. goes n (only n (Datum s) c)), back n)
  where
    goes : (n : Need) → n ≡ Datum s → IsStillOpen (state_of h) n × (IsStillOpen (state_of (with_datum h u s d)) n → ⊥)
    goes n e = subst (λ (m : Need). IsStillOpen (state_of h) m × (IsStillOpen (state_of (with_datum h u s d)) m → ⊥)) (sym e) (
      unset_to h u s holds,
      (λ o.
          let x = unset_from (with_datum h u s d) s o in
          let k = Contains-filter (λ (y : DatumHold). not (is_datum_hold u s y)) h.datum_holds (record { scope = s; unit = x.0 }) x.1 in
          let same : x.0 ≡ u = ok.alone x.0 u s k.0 holds in
          absurd (let t = the_datum_hold_is u s (record { scope = s; unit = x.0 }) same refl in let f = k.1 in let g = sym f ∙ ap not t in cc)),
    )

    back : (n : Need) → IsStillOpen (state_of h) n × (IsStillOpen (state_of (with_datum h u s d)) n → ⊥) → Contains (Datum s ∷ []) n
    back (Row t l) k = absurd (k.1 k.0)
    back (Datum t) k =
        let x = unset_from h t k.0 in
        elim (cases_Bool (is_datum_hold u s (record { scope = t; unit = x.0 }))) [
          | inl b ↦
              let same : t ≡ s = (is_the_datum_hold u s (record { scope = t; unit = x.0 }) b).1 in
              subst (λ (y : Scope). Contains (Datum s ∷ []) (Datum y)) (sym same) (Contains-head (Datum s) [])
          | inr b ↦ absurd (k.1 (unset_to (with_datum h u s d) x.0 t (filter-Contains (λ (y : DatumHold). not (is_datum_hold u s y)) h.datum_holds (record { scope = t; unit = x.0 }) x.1 (ap not b))))
        ]

-- giving up a row takes its need away, where the unit is its only holder, and else none
pub row_gone : {D : Type 0} (h : HeldOf D) (u : ℕ) (s : Scope) (l : ℕ) → HoldsAlone h u (Row s l) → AreGone h (without_row h u s l) (Row s l ∷ [])
row_gone h u s l alone n = ((λ c. goes n (only n (Row s l) c)), back n)
  where
    goes : (n : Need) → n ≡ Row s l → IsStillOpen (state_of h) n × (IsStillOpen (state_of (without_row h u s l)) n → ⊥)
    goes n e = subst (λ (m : Need). IsStillOpen (state_of h) m × (IsStillOpen (state_of (without_row h u s l)) m → ⊥)) (sym e) (
      open_to h u s l alone.0,
      (λ o.
          let x = open_from (without_row h u s l) s l o in
          let k = Contains-filter (λ (y : RowHold). not (is_row_hold u s l y)) h.row_holds (record { scope = s; label = l; unit = x.0 }) x.1 in
          let same : x.0 ≡ u = alone.1 x.0 k.0 in
          absurd (let t = the_row_hold_is u s l (record { scope = s; label = l; unit = x.0 }) same refl refl in let f = k.1 in let g = sym f ∙ ap not t in cc)),
    )

    back : (n : Need) → IsStillOpen (state_of h) n × (IsStillOpen (state_of (without_row h u s l)) n → ⊥) → Contains (Row s l ∷ []) n
    back (Datum t) k = absurd (k.1 k.0)
    back (Row t m) k =
        let x = open_from h t m k.0 in
        elim (cases_Bool (is_row_hold u s l (record { scope = t; label = m; unit = x.0 }))) [
          | inl b ↦
              let same = is_the_row_hold u s l (record { scope = t; label = m; unit = x.0 }) b in
              subst (λ (y : Scope). Contains (Row s l ∷ []) (Row y m)) (sym (same.1).0) (subst (λ (y : ℕ). Contains (Row s l ∷ []) (Row s y)) (sym (same.1).1) (Contains-head (Row s l) []))
          | inr b ↦ absurd (k.1 (open_to (without_row h u s l) x.0 t m (filter-Contains (λ (y : RowHold). not (is_row_hold u s l y)) h.row_holds (record { scope = t; label = m; unit = x.0 }) x.1 (ap not b))))
        ]

pub row_stays : {D : Type 0} (h : HeldOf D) (u v : ℕ) (s : Scope) (l : ℕ) → HoldsRow h v s l → (u ≡ v → ⊥) → AreGone h (without_row h u s l) []
row_stays h u v s l holds other n = ((λ c. absurd (nothing_in n c)), (λ k. absurd (back n k)))
  where
    kept : HoldsRow (without_row h u s l) v s l
    kept =
        let f : is_row_hold u s l (record { scope = s; label = l; unit = v }) ≡ false =
        elim (cases_Bool (is_row_hold u s l (record { scope = s; label = l; unit = v }))) [
          | inl b ↦ absurd (other (sym ((is_the_row_hold u s l (record { scope = s; label = l; unit = v }) b).0)))
          | inr b ↦ b
        ] in
        filter-Contains (λ (y : RowHold). not (is_row_hold u s l y)) h.row_holds (record { scope = s; label = l; unit = v }) holds (ap not f)

    back : (n : Need) → IsStillOpen (state_of h) n × (IsStillOpen (state_of (without_row h u s l)) n → ⊥) → ⊥
    back (Datum t) k = k.1 k.0
    back (Row t m) k =
        let x = open_from h t m k.0 in
        elim (cases_Bool (is_row_hold u s l (record { scope = t; label = m; unit = x.0 }))) [
          | inl b ↦
              let same = is_the_row_hold u s l (record { scope = t; label = m; unit = x.0 }) b in
              k.1 (subst (λ (y : Scope). IsOpen (state_of (without_row h u s l)) y m) (sym (same.1).0) (subst (λ (y : ℕ). IsOpen (state_of (without_row h u s l)) s y) (sym (same.1).1) (open_to (without_row h u s l) v s l kept)))
          | inr b ↦ k.1 (open_to (without_row h u s l) x.0 t m (filter-Contains (λ (y : RowHold). not (is_row_hold u s l y)) h.row_holds (record { scope = t; label = m; unit = x.0 }) x.1 (ap not b)))
        ]

-- an end takes away what the unit alone holds
pub end_gone : {D : Type 0} (h : HeldOf D) → IsHeld h → (u : ℕ) (gone : List Need) → ((n : Need) → (Contains gone n) ↔ (HoldsAlone h u n)) → AreGone h (without_unit h u) gone
end_gone {D} h ok u gone exact n = ((λ c. goes n ((exact n).0 c)), (λ k. (exact n).1 (back n k)))
  where
    goes : (n : Need) → HoldsAlone h u n → IsStillOpen (state_of h) n × (IsStillOpen (state_of (without_unit h u)) n → ⊥)
    goes (Row s l) alone = (
      open_to h u s l alone.0,
      (λ o.
          let x = open_from (without_unit h u) s l o in
          let k = Contains-filter (λ (y : RowHold). not (eqb y.unit u)) h.row_holds (record { scope = s; label = l; unit = x.0 }) x.1 in
          absurd (let t = subst (λ (y : ℕ). eqb y u ≡ true) (sym (alone.1 x.0 k.0)) (num_is u) in let f = k.1 in let g = sym f ∙ ap not t in cc)),
    )
    goes (Datum s) alone = (
      unset_to h u s alone.0,
      (λ o.
          let x = unset_from (without_unit h u) s o in
          let k = Contains-filter (λ (y : DatumHold). not (eqb y.unit u)) h.datum_holds (record { scope = s; unit = x.0 }) x.1 in
          absurd (let t = subst (λ (y : ℕ). eqb y u ≡ true) (sym (alone.1 x.0 k.0)) (num_is u) in let f = k.1 in let g = sym f ∙ ap not t in cc)),
    )

    back : (n : Need) → IsStillOpen (state_of h) n × (IsStillOpen (state_of (without_unit h u)) n → ⊥) → HoldsAlone h u n
    back (Row s l) k =
        let each : (v : ℕ) → HoldsRow h v s l → v ≡ u =
        λ v c. elim (cases_Bool (eqb v u)) [
          | inl b ↦ is_num v u b
          | inr b ↦ absurd (k.1 (open_to (without_unit h u) v s l (filter-Contains (λ (y : RowHold). not (eqb y.unit u)) h.row_holds (record { scope = s; label = l; unit = v }) c (ap not b))))
        ] in
        let x = open_from h s l k.0 in
        (subst (λ (v : ℕ). HoldsRow h v s l) (each x.0 x.1) x.1, each)
    back (Datum s) k =
        let each : (v : ℕ) → HoldsDatum h v s → v ≡ u =
        λ v c. elim (cases_Bool (eqb v u)) [
          | inl b ↦ is_num v u b
          | inr b ↦ absurd (k.1 (unset_to (without_unit h u) v s (filter-Contains (λ (y : DatumHold). not (eqb y.unit u)) h.datum_holds (record { scope = s; unit = v }) c (ap not b))))
        ] in
        let x = unset_from h s k.0 in
        (subst (λ (v : ℕ). HoldsDatum h v s) (each x.0 x.1) x.1, each)
