-- Who waits in a run is held up by live units.
use Rattle.std.proofs.Common.{◌≡◌, ℕ, List, [], ◌∷◌, ◌⊎◌, Bool, true, false, IsTrue, not, ◌&&◌, ◌||◌, eqb, cond, inl, inr, refl, sym, ap, ◌∙◌, subst, arith, lt-ltb}
use Rattle.std.proofs.lemmas.Bool.{cases_Bool}
use Rattle.std.proofs.lemmas.Bool.Decides.{nat_tests}
use Rattle.std.specs.List.{Contains, list_any}
use Rattle.sg_base.specs.declared.scope.Scope.{Scope}
use Rattle.sg_base.specs.Graph.{HasScope}
use Rattle.sg_base.specs.State.{State}
use Rattle.sg_base.proofs.Finite.{nothing_in, Contains-head, Contains-tail, Contains-cons, Contains-filter}
use Rattle.sg_query.specs.declared.query.Query.{Query}
use Rattle.sg_query.specs.State.{IsSettled}
use Rattle.sg_query.specs.Growth.{StillBlocked}
use Rattle.sg_query.proofs.Settling.{waiting_stay_open}
use Rattle.sg_state.specs.declared.need.Need.{Need}
use Rattle.sg_state.specs.declared.need.Need.TheVariants.{Row, Datum}
use Rattle.sg_state.specs.Held.{HeldOf, RowHold, DatumHold, HoldsRow, HoldsDatum, state_of, with_fresh}
use Rattle.sg_state.specs.Opening.{IsOpening}
use Rattle.sg_state.proofs.Extending.{open_from, open_to, unset_from, unset_to}
use Rattle.sg_unit.specs.declared.entry.Entry.{Entry}
use Rattle.sg_unit.specs.declared.op.Op.{Op}
use Rattle.sg_unit.specs.declared.op.Op.TheVariants.{Fresh, AddEdge, SetDatum, CloseRow, Ask, Advance, Take, End}
use Rattle.sg_unit.specs.declared.reply.Reply.{Reply}
use Rattle.sg_unit.specs.declared.reply.Reply.TheVariants.{Made, Done, Moved, Ready, Suspended, Answer as Answered, Stuck}
use Rattle.sg_unit.specs.Law.{WaitersAreHeldUp, StuckUnitsAreHeldUp, ShownHoldersWait}
use Rattle.sg_unit.specs.Operation.{goes_on, waits_by, woken_by}
use Rattle.sg_unit.specs.Run.{Setting, RunOf, Asking, open_ask, units_of, asked_by, opened, held_after, advanced, ask_after, after, run_from, run_of, IsFor}
use Rattle.sg_unit.specs.Step.{May, Replies, IsStep, IsRunFrom}
use Rattle.sg_state.specs.Need.{Holds}
use Rattle.sg_unit.specs.Waiting.{Blocks, IsStillOpen, WaitsOn, IsWoken, IsHeldUp}
use Rattle.sg_unit.proofs.Asks.{IsAskedRun, step_asked, opened_asked}
use Rattle.sg_unit.proofs.Steps.{op_follows}
use Rattle.sg_unit.proofs.Writes.{is_num, fresh_rows, fresh_data}

-- ---- whether something is still open can be told

-- whether a list has a thing
pub contained_or : {X : Type 0} → ((x y : X) → (x ≡ y) ⊎ (x ≡ y → ⊥)) → (xs : List X) (x : X) → Contains xs x ⊎ (Contains xs x → ⊥)
contained_or test [] x = inr (λ c. nothing_in x c)
contained_or {X} test (y ∷ xs) x =
    elim (test x y) [
      | inl e ↦ inl (subst (λ (t : X). Contains (y ∷ xs) t) (sym e) (Contains-head y xs))
      | inr n ↦ elim (contained_or test xs x) [
        | inl c ↦ inl (Contains-tail y x xs c)
        | inr m ↦ inr (λ c. elim (Contains-cons y x xs c) [ inl e ↦ n e | inr k ↦ m k ])
      ]
    ]

number_or : (a b : ℕ) → (a ≡ b) ⊎ (a ≡ b → ⊥)
number_or a b = elim (cases_Bool (eqb a b)) [ inl e ↦ inl (is_num a b e) | inr e ↦ inr (λ h. differ a b e h) ]
  where
    differ : (a b : ℕ) → eqb a b ≡ false → a ≡ b → ⊥
    differ a b e h = grind (arith, nat_tests)

-- whether two scopes are the same
pub scope_or : (a b : Scope) → (a ≡ b) ⊎ (a ≡ b → ⊥)
scope_or a b =
    elim (number_or a.unit b.unit) [
      | inl e ↦ elim (number_or a.serial b.serial) [
        | inl f ↦ inl (ap (λ (n : ℕ). let s : Scope = record { unit = n; serial = a.serial } in s) e ∙ ap (λ (n : ℕ). let s : Scope = record { unit = b.unit; serial = n } in s) f)
        | inr n ↦ inr (λ h. n (ap (λ (s : Scope). s.serial) h))
      ]
      | inr n ↦ inr (λ h. n (ap (λ (s : Scope). s.unit) h))
    ]

place_or : (a b : Scope × ℕ) → (a ≡ b) ⊎ (a ≡ b → ⊥)
place_or a b =
    elim (scope_or a.0 b.0) [
      | inl e ↦ elim (number_or a.1 b.1) [
        | inl f ↦ inl (ap (λ (s : Scope). let p : Scope × ℕ = (s, a.1) in p) e ∙ ap (λ (n : ℕ). let p : Scope × ℕ = (b.0, n) in p) f)
        | inr n ↦ inr (λ h. n (ap (λ (p : Scope × ℕ). p.1) h))
      ]
      | inr n ↦ inr (λ h. n (ap (λ (p : Scope × ℕ). p.0) h))
    ]

pub open_or : {D : Type 0} (h : State D) (n : Need) → IsStillOpen h n ⊎ (IsStillOpen h n → ⊥)
open_or h (Row s l) = contained_or place_or h.open_rows (s, l)
open_or h (Datum s) = contained_or scope_or h.unset s

woken_test : (ws : List ℕ) (u : ℕ) → Contains ws u → list_any (λ w. eqb w u) ws ≡ true
woken_test [] u c = absurd (nothing_in u c)
woken_test (w ∷ ws) u c =
    elim (Contains-cons w u ws c) [
      | inl e ↦ first w u (list_any (λ w. eqb w u) ws) e
      | inr k ↦ later (eqb w u) (list_any (λ w. eqb w u) ws) (woken_test ws u k)
    ]
  where
    first : (w u : ℕ) (b : Bool) → u ≡ w → (eqb w u || b) ≡ true
    first w u b e = grind (arith, nat_tests)

    later : (a b : Bool) → b ≡ true → (a || b) ≡ true
    later true b e = refl
    later false b e = e

both_parts : (a b : Bool) → IsTrue (a && b) → IsTrue a × IsTrue b
both_parts true b h = (refl, h)
both_parts false b h = absurd (cc)

is_other : (b : Bool) → IsTrue (not b) → b ≡ true → ⊥
is_other true h e = cc
is_other false h e = cc

-- ---- needs that no write takes away

unwoken : {D P : Type 0} (z : Setting D P) (r : RunOf D P) (h : HeldOf D) (ws : List ℕ) → IsWoken z r h ws → (u : ℕ) → IsTrue (not (list_any (λ v. eqb v u) ws)) → (n : Need) → WaitsOn z r u n → IsStillOpen (state_of h) n
unwoken z r h ws k u out n need =
    elim (open_or (state_of h) n) [
      | inl o ↦ o
      | inr m ↦ absurd (is_other (list_any (λ v. eqb v u) ws) out (woken_test ws u ((k.1 u).1 (n, need, m))))
    ]

module _ {I R D P : Type 0} (z : Setting D P) where
  -- what a unit needs is still open after a step that does not wake it
  pub kept_open : (r next : RunOf D P) (w : ℕ) (op : Op I R D P) (y : Reply I D P) → next.held ≡ held_after r.held w op → Replies z r next w op y → (u : ℕ) → IsTrue (not (list_any (λ v. eqb v u) (woken_by y))) → (n : Need) → WaitsOn z r u n → IsStillOpen (state_of r.held) n → IsStillOpen (state_of (held_after r.held w op)) n
  kept_open r next w (Fresh labels datum) y same s u out (Row t l) need o =
      let k = open_from r.held t l o in
      open_to (with_fresh r.held w labels datum) k.0 t l ((fresh_rows r.held w labels datum k.0 t l).1 (inl k.1))
  kept_open r next w (Fresh labels datum) y same s u out (Datum t) need o =
      let k = unset_from r.held t o in
      unset_to (with_fresh r.held w labels datum) k.0 t ((fresh_data r.held w labels datum k.0 t).1 (inl k.1))
  kept_open r next w (AddEdge from label to) y same s u out (Row t l) need o = o
  kept_open r next w (AddEdge from label to) y same s u out (Datum t) need o = o
  kept_open r next w (SetDatum t d) (Done ws) same s u out n need o = subst (λ (h : HeldOf D). IsStillOpen (state_of h) n) same (unwoken z r next.held ws s u out n need)
  kept_open r next w (SetDatum t d) (Made x) same s u out n need o = absurd s
  kept_open r next w (SetDatum t d) Moved same s u out n need o = absurd s
  kept_open r next w (SetDatum t d) Ready same s u out n need o = absurd s
  kept_open r next w (SetDatum t d) Suspended same s u out n need o = absurd s
  kept_open r next w (SetDatum t d) (Answered a) same s u out n need o = absurd s
  kept_open r next w (SetDatum t d) Stuck same s u out n need o = absurd s
  kept_open r next w (CloseRow t m) (Done ws) same s u out n need o = subst (λ (h : HeldOf D). IsStillOpen (state_of h) n) same (unwoken z r next.held ws s u out n need)
  kept_open r next w (CloseRow t m) (Made x) same s u out n need o = absurd s
  kept_open r next w (CloseRow t m) Moved same s u out n need o = absurd s
  kept_open r next w (CloseRow t m) Ready same s u out n need o = absurd s
  kept_open r next w (CloseRow t m) Suspended same s u out n need o = absurd s
  kept_open r next w (CloseRow t m) (Answered a) same s u out n need o = absurd s
  kept_open r next w (CloseRow t m) Stuck same s u out n need o = absurd s
  kept_open r next w (Ask q) y same s u out n need o = o
  kept_open r next w Advance y same s u out n need o = o
  kept_open r next w Take y same s u out n need o = o
  kept_open r next w (End x) (Done ws) same s u out n need o = subst (λ (h : HeldOf D). IsStillOpen (state_of h) n) same (unwoken z r next.held ws s.0 u out n need)
  kept_open r next w (End x) Stuck same s u out n need o = subst (λ (h : HeldOf D). IsStillOpen (state_of h) n) same (unwoken z r next.held [] s.0 u out n need)
  kept_open r next w (End x) (Made t) same s u out n need o = absurd s
  kept_open r next w (End x) Moved same s u out n need o = absurd s
  kept_open r next w (End x) Ready same s u out n need o = absurd s
  kept_open r next w (End x) Suspended same s u out n need o = absurd s
  kept_open r next w (End x) (Answered a) same s u out n need o = absurd s

-- ---- holders are live, and who waits has an open ask that is not settled

pub record IsOpenWait {D P : Type 0} (z : Setting D P) (r : RunOf D P) (u : ℕ) : Type 0 where
  pub query : Query P
  pub count : ℕ
  pub asks : r.asks u ≡ open_ask query count
  pub live : IsTrue (r.live u)
  pub unsettled : IsSettled (state_of r.held) (asked_by z query) → ⊥

pub record IsWaitedRun {D P : Type 0} (z : Setting D P) (r : RunOf D P) : Type 0 where
  pub asked : IsAskedRun z r
  pub row_live : (u : ℕ) (s : Scope) (l : ℕ) → HoldsRow r.held u s l → IsTrue (r.live u)
  pub datum_live : (u : ℕ) (s : Scope) → HoldsDatum r.held u s → IsTrue (r.live u)
  pub waiting : (u : ℕ) → IsTrue (r.waits u) → IsOpenWait z r u

live_on : (b l g : Bool) → IsTrue l → (g ≡ true) ⊎ (b ≡ false) → IsTrue (cond b (l && g) l)
live_on true true g h (inl e) = e
live_on true true g h (inr e) = absurd (cc)
live_on true false g h e = h
live_on false l g h e = h

module _ {I R D P : Type 0} (z : Setting D P) where
  -- a holder after an operation held before or is the operation's unit, and has not ended by it
  row_holder : (h : HeldOf D) (w : ℕ) (op : Op I R D P) (u : ℕ) (s : Scope) (l : ℕ) → HoldsRow (held_after h w op) u s l → (HoldsRow h u s l ⊎ (u ≡ w)) × ((goes_on op ≡ true) ⊎ (eqb w u ≡ false))
  row_holder h w (Fresh labels datum) u s l c = ((elim ((fresh_rows h w labels datum u s l).0 c) [ inl k ↦ inl k | inr k ↦ inr k.0 ]), inl refl)
  row_holder h w (AddEdge from label to) u s l c = (inl c, inl refl)
  row_holder h w (SetDatum t d) u s l c = (inl c, inl refl)
  row_holder h w (CloseRow t m) u s l c = (inl ((Contains-filter _ h.row_holds (record { scope = s; label = l; unit = u }) c).0), inl refl)
  row_holder h w (Ask q) u s l c = (inl c, inl refl)
  row_holder h w Advance u s l c = (inl c, inl refl)
  row_holder h w Take u s l c = (inl c, inl refl)
  row_holder h w (End x) u s l c =
      let k = Contains-filter (λ (y : RowHold). not (eqb y.unit w)) h.row_holds (record { scope = s; label = l; unit = u }) c in
      (inl k.0, inr (away u w k.1))
    where
      away : (a b : ℕ) → not (eqb a b) ≡ true → eqb b a ≡ false
      away a b e = grind (arith, nat_tests)

  datum_holder : (h : HeldOf D) (w : ℕ) (op : Op I R D P) (u : ℕ) (s : Scope) → HoldsDatum (held_after h w op) u s → (HoldsDatum h u s ⊎ (u ≡ w)) × ((goes_on op ≡ true) ⊎ (eqb w u ≡ false))
  datum_holder h w (Fresh labels datum) u s c = ((elim ((fresh_data h w labels datum u s).0 c) [ inl k ↦ inl k | inr k ↦ inr k.0 ]), inl refl)
  datum_holder h w (AddEdge from label to) u s c = (inl c, inl refl)
  datum_holder h w (SetDatum t d) u s c = (inl ((Contains-filter _ h.datum_holds (record { scope = s; unit = u }) c).0), inl refl)
  datum_holder h w (CloseRow t m) u s c = (inl c, inl refl)
  datum_holder h w (Ask q) u s c = (inl c, inl refl)
  datum_holder h w Advance u s c = (inl c, inl refl)
  datum_holder h w Take u s c = (inl c, inl refl)
  datum_holder h w (End x) u s c =
      let k = Contains-filter (λ (y : DatumHold). not (eqb y.unit w)) h.datum_holds (record { scope = s; unit = u }) c in
      (inl k.0, inr (away u w k.1))
    where
      away : (a b : ℕ) → not (eqb a b) ≡ true → eqb b a ≡ false
      away a b e = grind (arith, nat_tests)

  -- a unit that waits after its own step
  own_wait : (r next : RunOf D P) → IsWaitedRun z r → (u : ℕ) (op : Op I R D P) (y : Reply I D P) → May z r u op → Replies z r next u op y → IsTrue (goes_on op && waits_by (r.waits u) y) → (q : Query P) × (m : ℕ) × (ask_after (r.asks u) op y ≡ open_ask q m) × (op ≡ Advance) × (IsSettled (state_of r.held) (asked_by z q) → ⊥)
  own_wait r next ok u (Fresh labels datum) y m s w =
      let was : IsTrue (r.waits u) = subst (λ (x : Reply I D P). IsTrue (waits_by (r.waits u) x)) s w in
      absurd (let a = (ok.waiting u was).asks in let b = (m.1).0 in let e = sym b ∙ a in cc)
  own_wait r next ok u (AddEdge from label to) y m s w =
      let was : IsTrue (r.waits u) = subst (λ (x : Reply I D P). IsTrue (waits_by (r.waits u) x)) s w in
      absurd (let a = (ok.waiting u was).asks in let b = (m.1).0 in let e = sym b ∙ a in cc)
  own_wait r next ok u (SetDatum t d) (Done ws) m s w = absurd (let a = (ok.waiting u w).asks in let b = (m.1).0 in let e = sym b ∙ a in cc)
  own_wait r next ok u (SetDatum t d) (Made x) m s w = absurd s
  own_wait r next ok u (SetDatum t d) Moved m s w = absurd s
  own_wait r next ok u (SetDatum t d) Ready m s w = absurd s
  own_wait r next ok u (SetDatum t d) Suspended m s w = absurd s
  own_wait r next ok u (SetDatum t d) (Answered a) m s w = absurd s
  own_wait r next ok u (SetDatum t d) Stuck m s w = absurd s
  own_wait r next ok u (CloseRow t l) (Done ws) m s w = absurd (let a = (ok.waiting u w).asks in let b = (m.1).0 in let e = sym b ∙ a in cc)
  own_wait r next ok u (CloseRow t l) (Made x) m s w = absurd s
  own_wait r next ok u (CloseRow t l) Moved m s w = absurd s
  own_wait r next ok u (CloseRow t l) Ready m s w = absurd s
  own_wait r next ok u (CloseRow t l) Suspended m s w = absurd s
  own_wait r next ok u (CloseRow t l) (Answered a) m s w = absurd s
  own_wait r next ok u (CloseRow t l) Stuck m s w = absurd s
  own_wait r next ok u (Ask q) y m s w =
      let was : IsTrue (r.waits u) = subst (λ (x : Reply I D P). IsTrue (waits_by (r.waits u) x)) s w in
      absurd (let a = (ok.waiting u was).asks in let b = (m.1).0 in let e = sym b ∙ a in cc)
  own_wait r next ok u Advance Suspended m s w =
      let k = m.1 in
      (k.0, k.1, ap (λ (a : Asking P). let y : Reply I D P = Suspended in advanced a y) k.2, refl, (s k.0 k.1 k.2).0)
  own_wait r next ok u Advance Stuck m s w =
      let k = m.1 in
      (k.0, k.1, ap (λ (a : Asking P). let y : Reply I D P = Stuck in advanced a y) k.2, refl, (s k.0 k.1 k.2).0)
  own_wait r next ok u Advance Moved m s w = let k = m.1 in absurd (let e = (s k.0 k.1 k.2).0 in let f = sym e ∙ w in cc)
  own_wait r next ok u Advance Ready m s w = absurd (cc)
  own_wait r next ok u Advance (Made x) m s w = let k = m.1 in absurd (s k.0 k.1 k.2)
  own_wait r next ok u Advance (Done ws) m s w = let k = m.1 in absurd (s k.0 k.1 k.2)
  own_wait r next ok u Advance (Answered a) m s w = let k = m.1 in absurd (s k.0 k.1 k.2)
  own_wait r next ok u Take y m s w =
      let was : IsTrue (r.waits u) = subst (λ (x : Reply I D P). IsTrue (waits_by (r.waits u) x)) s.1 w in
      absurd (let a = (ok.waiting u was).asks in let b = (m.1).1 in let e = sym b ∙ a in cc)
  own_wait r next ok u (End x) y m s w = absurd (cc)

  pub step_waited : (r : RunOf D P) → IsWaitedRun z r → (e : Entry I R D P) → IsStep z r e → IsWaitedRun z (after r e)
  step_waited r ok e s =
      record {
        asked = step_asked z r ok.asked e s;
        row_live = λ u t l c.
            let k = row_holder r.held e.unit e.op u t l c in
            let was : IsTrue (r.live u) = elim k.0 [ inl h ↦ ok.row_live u t l h | inr i ↦ subst (λ (n : ℕ). IsTrue (r.live n)) (sym i) s.may.0 ] in
            live_on (eqb e.unit u) (r.live u) (goes_on e.op) was k.1;
        datum_live = λ u t c.
            let k = datum_holder r.held e.unit e.op u t c in
            let was : IsTrue (r.live u) = elim k.0 [ inl h ↦ ok.datum_live u t h | inr i ↦ subst (λ (n : ℕ). IsTrue (r.live n)) (sym i) s.may.0 ] in
            live_on (eqb e.unit u) (r.live u) (goes_on e.op) was k.1;
        waiting = λ u w.
            elim (cases_Bool (eqb e.unit u)) [
              | inl b ↦
                  let same : e.unit ≡ u = is_num e.unit u b in
                  let now : IsTrue (goes_on e.op && waits_by (r.waits u) e.reply) =
                  subst (λ (c : Bool). IsTrue (cond c (goes_on e.op && waits_by (r.waits u) e.reply) (r.waits u && not (list_any (λ v. eqb v u) (woken_by e.reply))))) b w in
                  let here = subst (λ (n : ℕ). IsTrue (goes_on e.op && waits_by (r.waits n) e.reply)) (sym same) now in
                  let k = own_wait r (after r e) ok e.unit e.op e.reply s.may s.replies here in
                  record {
                    query = k.0;
                    count = k.1;
                    asks = subst (λ (c : Bool). cond c (ask_after (r.asks u) e.op e.reply) (r.asks u) ≡ open_ask k.0 k.1) (sym b) (subst (λ (n : ℕ). ask_after (r.asks n) e.op e.reply ≡ open_ask k.0 k.1) same k.2);
                    live = live_on (eqb e.unit u) (r.live u) (goes_on e.op) (subst (λ (n : ℕ). IsTrue (r.live n)) same s.may.0) (inl ((both_parts (goes_on e.op) (waits_by (r.waits u) e.reply) now).0));
                    unsettled = subst (λ (o : Op I R D P). IsSettled (state_of (held_after r.held e.unit o)) (asked_by z k.0) → ⊥) (sym k.3) k.4;
                  }
              | inr b ↦
                  let now : IsTrue (r.waits u && not (list_any (λ v. eqb v u) (woken_by e.reply))) =
                  subst (λ (c : Bool). IsTrue (cond c (goes_on e.op && waits_by (r.waits u) e.reply) (r.waits u && not (list_any (λ v. eqb v u) (woken_by e.reply))))) b w in
                  let parts = both_parts (r.waits u) (not (list_any (λ v. eqb v u) (woken_by e.reply))) now in
                  let k : IsOpenWait z r u = ok.waiting u parts.0 in
                  let still : StillBlocked (state_of r.held) (state_of (after r e).held) (asked_by z k.query) =
                  record {
                    rows = λ t l x. kept_open z r (after r e) e.unit e.op e.reply refl s.replies u parts.1 (Row t l) (parts.0, (k.query, k.count, k.asks, x)) x.4;
                    data_at = λ t x. kept_open z r (after r e) e.unit e.op e.reply refl s.replies u parts.1 (Datum t) (parts.0, (k.query, k.count, k.asks, x)) x.4;
                  } in
                  let start : HasScope r.held.graph k.query.start = ok.asked.starts u k.query (subst (λ (a : Asking P). IsFor a k.query) (sym k.asks) refl) in
                  record {
                    query = k.query;
                    count = k.count;
                    asks = subst (λ (c : Bool). cond c (ask_after (r.asks u) e.op e.reply) (r.asks u) ≡ open_ask k.query k.count) (sym b) k.asks;
                    live = live_on (eqb e.unit u) (r.live u) (goes_on e.op) k.live (inr b);
                    unsettled = waiting_stay_open D (state_of r.held) (state_of (after r e).held) (asked_by z k.query) (ok.asked.sound.held).graph start
                        (op_follows z r ok.asked.sound e.unit e.op s.may).extends still k.unsettled;
                  }
            ];
      }

  pub run_waited : (r : RunOf D P) → IsWaitedRun z r → (es : List (Entry I R D P)) → IsRunFrom z r es → IsWaitedRun z (run_from r es)
  run_waited r ok [] s = ok
  run_waited r ok (e ∷ es) s = run_waited (after r e) (step_waited r ok e s.0) es s.1

pub opened_waited : {D P : Type 0} (z : Setting D P) → IsOpening z.opening → IsWaitedRun z (opened z)
opened_waited z ok =
    record {
      asked = opened_asked z ok;
      row_live = λ u s l c. lt-ltb u (units_of z) ((ok.held).row_holder u s l c);
      datum_live = λ u s c. lt-ltb u (units_of z) ((ok.held).datum_holder u s c);
      waiting = λ u w. absurd (cc);
    }

held_up : {D P : Type 0} (z : Setting D P) (r : RunOf D P) → IsWaitedRun z r → (u : ℕ) → IsTrue (r.waits u) → IsHeldUp z r u
held_up {D} {P} z r ok u w =
    let k = ok.waiting u w in
    record {
      query = k.query;
      count = k.count;
      asks = k.asks;
      live = k.live;
      unsettled = k.unsettled;
      holders = λ n b. holder n k.query b;
      some_need = λ ns exact empty.
          k.unsettled (inl ((λ s l b. none ns empty (Row s l) ((exact (Row s l)).1 b)), (λ s b. none ns empty (Datum s) ((exact (Datum s)).1 b))));
    }
  where
    holder : (n : Need) (q : Query P) → Blocks (state_of r.held) (asked_by z q) n → (v : ℕ) × Holds r.held v n × IsTrue (r.live v)
    holder (Row s l) q b = let x = open_from r.held s l b.4 in (x.0, x.1, ok.row_live x.0 s l x.1)
    holder (Datum s) q b = let x = unset_from r.held s b.4 in (x.0, x.1, ok.datum_live x.0 s x.1)

    none : (ns : List Need) → ns ≡ [] → (n : Need) → Contains ns n → ⊥
    none ns empty n c = nothing_in n (subst (λ (x : List Need). Contains x n) empty c)

pub waiters_are_held_up : (I R D P : Type 0) → WaitersAreHeldUp I R D P
waiters_are_held_up I R D P z log u ok run w = held_up z (run_of z log) (run_waited z (opened z) (opened_waited z ok) log run) u w

pub stuck_are_held_up : (I R D P : Type 0) → StuckUnitsAreHeldUp I R D P
stuck_are_held_up I R D P z log u ok run no_more live = waiters_are_held_up I R D P z log u ok run (no_more.1 u live)

pub shown_holders_wait : (I R D P : Type 0) → ShownHoldersWait I R D P
shown_holders_wait I R D P z log u n holder ok run no_more shown =
    let w : IsWaitedRun z (run_of z log) = run_waited z (opened z) (opened_waited z ok) log run in
    let live : IsTrue ((run_of z log).live holder) = lives w n holder shown.holds in
    ((w.waiting u (shown.needs).0).live, live, no_more.1 holder live)
  where
    lives : {r : RunOf D P} → IsWaitedRun z r → (n : Need) (v : ℕ) → Holds r.held v n → IsTrue (r.live v)
    lives w (Row s l) v h = w.row_live v s l h
    lives w (Datum s) v h = w.datum_live v s h
