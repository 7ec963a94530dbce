-- One turn of a seat: what is taken, what is given back, and what the seat is then.
use Rattle.std.proofs.Common.{◌≡◌, ℕ, ◌<◌, ◌^◌, List, [], ◌∷◌, ◌++◌, ◌⊎◌, Bool, true, false, inl, inr, refl, sym, ap, ◌∙◌, subst, Option, Some, None, Result, Ok, Err, is_err, length, All, append_assoc, append-nil, length-append, arith}
use Rattle.std.specs.Prelude.{IfOk, OnErr}
use Rattle.std.proofs.lemmas.List.Elements.{All-head, All-tail}
use Rattle.sg_query.specs.Query.{KindOf}
use Rattle.sg_state.specs.Held.{HeldOf}
use Rattle.sg_unit.specs.declared.entry.Entry.{Entry}
use Rattle.sg_unit.specs.declared.op.Op.{Op}
use Rattle.sg_unit.specs.declared.reply.Reply.{Reply}
use Rattle.sg_unit.specs.Own.{own, MayBy, CanReply}
use Rattle.sg_unit.specs.Run.{Setting, run_of, IsFreeUnit}
use Rattle.sg_unit.specs.Step.{IsRun}
use Rattle.sg_unit.specs.Unit.{setting_of}
use Rattle.sg_unit.proofs.Telling.{own_allow, own_entries_reply}
use Rattle.sg_core.specs.declared.ahead.Ahead.{Ahead}
use Rattle.sg_core.specs.declared.found_ask.FoundAsk.{FoundAsk}
use Rattle.sg_core.specs.declared.found_ask.FoundAsk.TheVariants.{Nothing}
use Rattle.sg_core.specs.Ahead.{IsAheadOf}
use Rattle.sg_core.specs.Beside.{KeepsAll, with_events}
use Rattle.sg_core.specs.Core.{CoreOf, IsCore, MayDo, entry, setting, run}
use Rattle.sg_core.specs.Sight.{SightOf, IsSightOf}
use Rattle.sg_core.proofs.Beside.{own_append, own_each}
use Rattle.sg_turn.specs.Entries.{Begins}
use Rattle.sg_turn.specs.Turn.{Lock}
use Rattle.sg_turn.specs.TurnSeat.{Known}
use Rattle.sg_broker.specs.Aside.{IsBeside, IsAside, HoldsAhead, FirstOf, Gains, told_by}
use Rattle.sg_broker.specs.Broker.{SeatOf, IsAtLock, Adds, Spends, begun, root_of, IsTold, is_nothing, given_back}
use Rattle.sg_broker.proofs.Behind.{seen_more, free_behind, keeps_behind, own_behind, legal_behind, ahead_behind}

-- what contracts see of a unit's seat, by the lock's seat and the events that are kept
abbrev pub seat_view : {I R D P : Type 0} → Known (Entry I R D P) (CoreOf I R D P) → ℕ → List (Entry I R D P) → Bool → SeatOf I R D P
seat_view t n kept spent = record { turn = t.turn; number = n; opening = (root_of t.root).opening; kinds = (root_of t.root).kinds; seen = t.seen; kept = kept; mine = t.mine ++ kept; spent = spent }

-- what the seat's run is about
abbrev pub seat_setting : {I R D P : Type 0} → (P → D → Bool) → (D → D → Bool) → Known (Entry I R D P) (CoreOf I R D P) → Setting D P
seat_setting wants same t = setting_of wants same (root_of t.root).opening (root_of t.root).kinds

pub same_setting : {D P : Type 0} (wants : P → D → Bool) (same : D → D → Bool) (o p : HeldOf D) (k l : List KindOf) → o ≡ p → k ≡ l → setting_of wants same o k ≡ setting_of wants same p l
same_setting wants same o p k l a b = λ i. setting_of wants same (a i) (b i)

not_true : (b c : Bool) → (b ≡ true → c ≡ true) → c ≡ false → b ≡ false
not_true true c f n = absurd (let e = sym (f refl) ∙ n in cc)
not_true false c f n = refl

all_of_units : {I R D P : Type 0} (n : ℕ) (es : List (Entry I R D P)) → All (λ e. e.unit ≡ n) es → own n es ≡ es
all_of_units n [] a = refl
all_of_units n (e ∷ es) a =
    own_each n e es (All-head (λ e. e.unit ≡ n) e es a) (all_of_units n es (All-tail (λ e. e.unit ≡ n) e es a))

nothing_more : {X : Type 0} (xs ys : List X) → xs ++ ys ≡ ys → xs ≡ []
nothing_more [] ys e = refl
nothing_more (x ∷ xs) ys e = absurd (omega (arith, ap length e, length-append xs ys))

-- the lock's seat of a seat is one of the lock
pub of_lock : {I R D P : Type 0} (l : Lock (CoreOf I R D P)) (s : SeatOf I R D P) (t : Known (Entry I R D P) (CoreOf I R D P)) (n : ℕ) (kept : List (Entry I R D P)) (spent : Bool) → seat_view t n kept spent ≡ s → IsTold t.root → IsAtLock l s → l.root ≡ begun l.root.opening l.root.kinds → (t.turn ≡ l.turn) × (t.root ≡ Some l.root)
of_lock {I} {R} {D} {P} l s t n kept spent view told at root =
    let opening : (root_of t.root).opening ≡ l.root.opening = ap (λ (x : SeatOf I R D P). x.opening) view ∙ at.1 in
    let kinds : (root_of t.root).kinds ≡ l.root.kinds = ap (λ (x : SeatOf I R D P). x.kinds) view ∙ at.2 in
    (ap (λ (x : SeatOf I R D P). x.turn) view ∙ at.0, told ∙ ap (λ (c : CoreOf I R D P). Some c) ((λ i. begun {I = I} {R = R} {P = P} (opening i) (kinds i)) ∙ sym root))

-- what is known of a core that was taken is known of what it is found to be
pub taken_as : {I R D P : Type 0} (wants : P → D → Bool) (same : D → D → Bool) (l : Lock (CoreOf I R D P)) (t lt : Known (Entry I R D P) (CoreOf I R D P)) (core looked found : CoreOf I R D P) → looked ≡ core → found ≡ core
    → begun {I = I} {R = R} {P = P} core.opening core.kinds ≡ l.root → Begins t.seen core.log → own t.number core.log ≡ t.mine → IsCore wants same looked → lt ≡ record t { seen = core.log; inside = true }
    → (begun {I = I} {R = R} {P = P} found.opening found.kinds ≡ l.root) × Begins t.seen found.log × (own t.number found.log ≡ t.mine) × IsCore wants same found × (lt ≡ record t { seen = found.log; inside = true })
taken_as {I} {R} {D} {P} wants same l t lt core looked found a b rooted begins told ok locked =
    subst (λ (c : CoreOf I R D P). (begun {I = I} {R = R} {P = P} c.opening c.kinds ≡ l.root) × Begins t.seen c.log × (own t.number c.log ≡ t.mine) × IsCore wants same c × (lt ≡ record t { seen = c.log; inside = true })) (sym b)
    (rooted, begins, told, subst (λ (c : CoreOf I R D P). IsCore wants same c) a ok, locked)

module _ {I R D P : Type 0} (wants : P → D → Bool) (same : D → D → Bool) (l : Lock (CoreOf I R D P)) (s : SeatOf I R D P) (t : Known (Entry I R D P) (CoreOf I R D P)) (n : ℕ)
    -- what the seat has beside its turns
    (o : Option (SightOf D)) (count : ℕ) (kept : List (Entry I R D P)) (ask : FoundAsk D) (spent : Bool)
    (view : seat_view t n kept spent ≡ s) (kept_right : (t.number ≡ n) × (t.inside ≡ false) × (t.kept ≡ []) × IsTold t.root × (t.spent ≡ true → spent ≡ true) × IsAside (seat_setting wants same t) t.seen t.mine n o count kept ask) (at : IsAtLock l s)
    -- the core that was taken
    (core : CoreOf I R D P) (rooted : begun {I = I} {R = R} {P = P} core.opening core.kinds ≡ l.root) (begins : Begins t.seen core.log) (told : own t.number core.log ≡ t.mine) (ok : IsCore wants same core) where
  opening_is : (root_of t.root).opening ≡ core.opening
  opening_is = ap (λ (x : SeatOf I R D P). x.opening) view ∙ at.1 ∙ sym (ap (λ (c : CoreOf I R D P). c.opening) rooted)

  kinds_is : (root_of t.root).kinds ≡ core.kinds
  kinds_is = ap (λ (x : SeatOf I R D P). x.kinds) view ∙ at.2 ∙ sym (ap (λ (c : CoreOf I R D P). c.kinds) rooted)

  setting_is : seat_setting wants same t ≡ setting wants same core
  setting_is = same_setting wants same (root_of t.root).opening core.opening (root_of t.root).kinds core.kinds opening_is kinds_is

  own_is : own n core.log ≡ t.mine
  own_is = subst (λ (m : ℕ). own m core.log ≡ t.mine) kept_right.0 told

  aside_there : IsAside (setting wants same core) t.seen t.mine n o count kept ask
  aside_there = subst (λ (z : Setting D P). IsAside z t.seen t.mine n o count kept ask) setting_is kept_right.5

  abbrev pub behind : CoreOf I R D P
  behind = with_events core kept

  -- ---- what is done with the core

  free_by : (o : Option (SightOf D)) → IsAside (setting wants same core) t.seen t.mine n o count kept ask → (kept ≡ []) ⊎ IsFreeUnit (run wants same core) n
  free_by None a = inl a.0
  free_by (Some v) a = free_behind (setting wants same core) t.seen t.mine n v count kept ask a core.log ok.runs begins own_is

  pub free : (kept ≡ []) ⊎ IsFreeUnit (run wants same core) n
  free = free_by o aside_there

  keeps_by : (o : Option (SightOf D)) → IsAside (setting wants same core) t.seen t.mine n o count kept ask → KeepsAll wants same core.kinds (run wants same core).held n Nothing kept ask
  keeps_by None a =
      subst (λ (x : List (Entry I R D P)). KeepsAll wants same core.kinds (run wants same core).held n Nothing x ask) (sym a.0) (sym a.1)
  keeps_by (Some v) a =
      subst (λ (ks : List KindOf). KeepsAll wants same ks (run wants same core).held n Nothing kept ask) a.sight.4
      (keeps_behind (setting wants same core) t.seen t.mine n v count kept ask a core.log ok.runs begins own_is)

  pub keeps : KeepsAll wants same core.kinds (run wants same core).held n Nothing kept ask
  keeps = keeps_by o aside_there

  legal_by : (o : Option (SightOf D)) → IsAside (setting wants same core) t.seen t.mine n o count kept ask → IsRun (setting wants same core) (core.log ++ kept)
  legal_by None a = subst (λ (x : List (Entry I R D P)). IsRun (setting wants same core) x) (sym (ap (λ (x : List (Entry I R D P)). core.log ++ x) a.0 ∙ append-nil core.log)) ok.runs
  legal_by (Some v) a = legal_behind (setting wants same core) t.seen t.mine n v count kept ask a core.log ok.runs begins own_is

  legal : IsRun (setting wants same core) (core.log ++ kept)
  legal = legal_by o aside_there

  own_by : (o : Option (SightOf D)) → IsAside (setting wants same core) t.seen t.mine n o count kept ask → own n (core.log ++ kept) ≡ t.mine ++ kept
  own_by None a =
      ap (λ (x : List (Entry I R D P)). own n (core.log ++ x)) a.0 ∙ ap (λ (x : List (Entry I R D P)). own n x) (append-nil core.log) ∙ own_is ∙ sym (append-nil t.mine) ∙ ap (λ (x : List (Entry I R D P)). t.mine ++ x) (sym a.0)
  own_by (Some v) a = own_behind (setting wants same core) t.seen t.mine n v count kept ask a core.log ok.runs begins own_is

  own_kept : own n (core.log ++ kept) ≡ t.mine ++ kept
  own_kept = own_by o aside_there

  -- the setting of the seat, and its events
  seen_setting : setting_of wants same s.opening s.kinds ≡ setting wants same core
  seen_setting = same_setting wants same s.opening core.opening s.kinds core.kinds (sym (ap (λ (x : SeatOf I R D P). x.opening) view) ∙ opening_is) (sym (ap (λ (x : SeatOf I R D P). x.kinds) view) ∙ kinds_is)

  number_is : s.number ≡ n
  number_is = sym (ap (λ (x : SeatOf I R D P). x.number) view)

  mine_is : s.mine ≡ own n (core.log ++ kept)
  mine_is = sym (ap (λ (x : SeatOf I R D P). x.mine) view) ∙ sym own_kept

  module _ (op : Op I R D P) where
    -- what the seat's own events allow, the core allows
    pub may_there : MayBy (setting_of wants same s.opening s.kinds) s.mine s.number op → MayDo wants same behind n op
    may_there may =
        own_allow I R D P (setting wants same core) (core.log ++ kept) n op ok.opens legal
        (subst (λ (u : ℕ). MayBy (setting wants same core) (own n (core.log ++ kept)) u op) number_is
        (subst (λ (es : List (Entry I R D P)). MayBy (setting wants same core) es s.number op) mine_is
        (subst (λ (z : Setting D P). MayBy z s.mine s.number op) seen_setting may)))

    pub ahead_there : (a : Option (Ahead I D P)) → HoldsAhead (setting_of wants same s.opening s.kinds) s.seen op a → IsAheadOf wants same core.kinds (run wants same behind).held op a
    ahead_there a h =
        ahead_behind (setting wants same core) ok.opens t.seen (core.log ++ kept) legal
        (begins.0 ++ kept, ap (λ (x : List (Entry I R D P)). x ++ kept) begins.1 ∙ append_assoc t.seen begins.0 kept) op a
        (subst (λ (es : List (Entry I R D P)). HoldsAhead (setting wants same core) es op a) (sym (ap (λ (x : SeatOf I R D P). x.seen) view))
        (subst (λ (z : Setting D P). HoldsAhead z s.seen op a) seen_setting h))

  -- ---- what is given back

  module _ (new : CoreOf I R D P) (told_now left : List (Entry I R D P)) (then : FoundAsk D) (gains : Gains core new n kept ask told_now left then) (new_ok : IsCore wants same new)
      (lt : Known (Entry I R D P) (CoreOf I R D P)) (locked : lt ≡ record t { seen = core.log; inside = true }) where
    pub own_lock : (lt.turn ≡ l.turn) × (lt.root ≡ Some l.root)
    own_lock =
        subst (λ (x : Known (Entry I R D P) (CoreOf I R D P)). (x.turn ≡ l.turn) × (x.root ≡ Some l.root)) (sym locked)
        (ap (λ (x : SeatOf I R D P). x.turn) view ∙ at.0, kept_right.3 ∙ ap (λ (c : CoreOf I R D P). Some c) ((λ i. begun {I = I} {R = R} {P = P} (opening_is i) (kinds_is i)) ∙ rooted))

    pub inside_lock : spent ≡ false → (lt.inside ≡ true) × (lt.spent ≡ false)
    inside_lock f =
        subst (λ (x : Known (Entry I R D P) (CoreOf I R D P)). (x.inside ≡ true) × (x.spent ≡ false)) (sym locked)
        (refl, not_true t.spent spent kept_right.4 f)

    pub root_stays : begun {I = I} {R = R} {P = P} new.opening new.kinds ≡ l.root
    root_stays = ap (λ (c : CoreOf I R D P). begun {I = I} {R = R} {P = P} c.opening c.kinds) gains.logged ∙ rooted

    pub before_is : (m : ℕ) → m ≡ length core.log → m ≡ length lt.seen
    before_is m e = e ∙ sym (ap (λ (x : Known (Entry I R D P) (CoreOf I R D P)). length x.seen) locked)

    log_is : new.log ≡ core.log ++ gains.more
    log_is = ap (λ (c : CoreOf I R D P). c.log) gains.logged

    log_seen : new.log ≡ lt.seen ++ gains.more
    log_seen = log_is ∙ ap (λ (x : Known (Entry I R D P) (CoreOf I R D P)). x.seen ++ gains.more) (sym locked)

    pub more_there : (more : List (Entry I R D P)) × (new.log ≡ lt.seen ++ more) × All (λ e. e.unit ≡ lt.number) more
    more_there = (
      gains.more,
      log_seen,
      subst (λ (m : ℕ). All (λ (e : Entry I R D P). e.unit ≡ m) gains.more) (sym (ap (λ (x : Known (Entry I R D P) (CoreOf I R D P)). x.number) locked ∙ kept_right.0)) gains.units,
    )

    module _ (w : Known (Entry I R D P) (CoreOf I R D P)) (given : (more : List (Entry I R D P)) → new.log ≡ lt.seen ++ more → w ≡ given_back lt more) where
      -- the lock's seat then
      abbrev pub after_turn : Known (Entry I R D P) (CoreOf I R D P)
      after_turn = record t { seen = core.log ++ gains.more; mine = t.mine ++ gains.more; inside = false; spent = is_nothing gains.more }

      after_is : w ≡ after_turn
      after_is =
          given gains.more log_seen ∙ ap (λ (x : Known (Entry I R D P) (CoreOf I R D P)). given_back x gains.more) locked

      new_setting : setting wants same new ≡ setting wants same core
      new_setting = ap (λ (c : CoreOf I R D P). setting wants same c) gains.logged

      runs_then : IsRun (setting wants same core) (core.log ++ gains.more)
      runs_then =
          subst (λ (x : List (Entry I R D P)). IsRun (setting wants same core) x) log_is
          (subst (λ (z : Setting D P). IsRun z new.log) new_setting new_ok.runs)

      own_then : own n (core.log ++ gains.more) ≡ t.mine ++ gains.more
      own_then = own_append n core.log gains.more ∙ (λ i. own_is i ++ all_of_units n gains.more gains.units i)

      begins_then : Begins t.seen (core.log ++ gains.more)
      begins_then = (begins.0 ++ gains.more, ap (λ (x : List (Entry I R D P)). x ++ gains.more) begins.1 ∙ append_assoc t.seen begins.0 gains.more)

      -- the unit's own events, in the log and kept
      mine_then : (t.mine ++ gains.more) ++ left ≡ (t.mine ++ kept) ++ told_now
      mine_then = append_assoc t.mine gains.more left ∙ ap (λ (x : List (Entry I R D P)). t.mine ++ x) gains.adds ∙ sym (append_assoc t.mine kept told_now)

      module _ (count' : ℕ) (counted : count' ≡ length new.log) (o' : Option (SightOf D)) where
        beside_by : (v : SightOf D) → IsBeside (setting wants same core) t.seen t.mine n v count kept ask → IsBeside (setting wants same core) (core.log ++ gains.more) (t.mine ++ gains.more) n v count' left then
        beside_by v k = record {
          opens = k.opens;
          runs = runs_then;
          counted = sym (ap length log_is) ∙ sym counted;
          own = own_then;
          sight = seen_more (setting wants same core) t.seen (core.log ++ gains.more) v begins_then k.sight;
          keeps = elim gains.empty [
            | inl e ↦ subst (λ (x : List (Entry I R D P)). KeepsAll wants same v.kinds v.held n Nothing x then) (sym e.0) (sym e.1)
            | inr e ↦ subst (λ (x : List (Entry I R D P)). KeepsAll wants same v.kinds v.held n Nothing x then) (sym e.1)
                (subst (λ (x : FoundAsk D). KeepsAll wants same v.kinds v.held n Nothing kept x) (sym e.2) k.keeps)
          ];
          free = elim gains.empty [
            | inl e ↦ inl e.0
            | inr e ↦ (elim k.free [
              | inl f ↦ inl (e.1 ∙ f)
              | inr f ↦ inr (subst (λ (x : List (Entry I R D P)). IsFreeUnit (run_of (setting wants same core) x) n) (sym (ap (λ (x : List (Entry I R D P)). t.mine ++ x) e.0 ∙ append-nil t.mine)) f)
            ])
          ];
        }

        empty_by : kept ≡ [] → ask ≡ Nothing → (left ≡ []) × (then ≡ Nothing)
        empty_by a b = elim gains.empty [ inl e ↦ e | inr e ↦ (e.1 ∙ a, e.2 ∙ b) ]

        beside_new : (v : SightOf D) → IsSightOf wants same new v → (left ≡ []) × (then ≡ Nothing) → IsBeside (setting wants same core) (core.log ++ gains.more) (t.mine ++ gains.more) n v count' left then
        beside_new v x e = record {
          opens = ok.opens;
          runs = runs_then;
          counted = sym (ap length log_is) ∙ sym counted;
          own = own_then;
          sight = (core.log ++ gains.more, [], sym (append-nil (core.log ++ gains.more)), x.0 ∙ ap (λ (c : CoreOf I R D P). (run wants same c).held) gains.logged, x.1 ∙ ap (λ (c : CoreOf I R D P). c.kinds) gains.logged);
          keeps = subst (λ (x : List (Entry I R D P)). KeepsAll wants same v.kinds v.held n Nothing x then) (sym e.0) (sym e.1);
          free = inl e.0;
        }

        aside_by : (o o' : Option (SightOf D)) → IsAside (setting wants same core) t.seen t.mine n o count kept ask → FirstOf wants same new o o' → IsAside (setting wants same core) (core.log ++ gains.more) (t.mine ++ gains.more) n o' count' left then
        aside_by (Some v) o' k f =
            subst (λ (x : Option (SightOf D)). IsAside (setting wants same core) (core.log ++ gains.more) (t.mine ++ gains.more) n x count' left then) (sym f) (beside_by v k)
        aside_by None None k f = empty_by k.0 k.1
        aside_by None (Some v) k f = beside_new v f (empty_by k.0 k.1)

        pub seat_again : FirstOf wants same new o o' → (spent' : Bool) → (is_nothing gains.more ≡ true → spent' ≡ true) → (w.number ≡ n) × (w.inside ≡ false) × (w.kept ≡ []) × IsTold w.root × (w.spent ≡ true → spent' ≡ true) × IsAside (seat_setting wants same w) w.seen w.mine n o' count' left then
        seat_again f spent' spends =
            subst (λ (x : Known (Entry I R D P) (CoreOf I R D P)). (x.number ≡ n) × (x.inside ≡ false) × (x.kept ≡ []) × IsTold x.root × (x.spent ≡ true → spent' ≡ true) × IsAside (seat_setting wants same x) x.seen x.mine n o' count' left then) (sym after_is) (
              kept_right.0,
              refl,
              kept_right.2,
              kept_right.3,
              spends,
              subst (λ (z : Setting D P). IsAside z (core.log ++ gains.more) (t.mine ++ gains.more) n o' count' left then) (sym setting_is) (aside_by o o' aside_there f),
            )

      pub at_again : (spent' : Bool) → IsAtLock l (seat_view w n left spent')
      at_again spent' =
          subst (λ (x : Known (Entry I R D P) (CoreOf I R D P)). IsAtLock l (seat_view x n left spent')) (sym after_is)
          (ap (λ (x : SeatOf I R D P). x.turn) view ∙ at.0, ap (λ (x : SeatOf I R D P). x.opening) view ∙ at.1, ap (λ (x : SeatOf I R D P). x.kinds) view ∙ at.2)

      -- the events of the unit then
      pub mine_again : w.mine ++ left ≡ s.mine ++ told_now
      mine_again =
          ap (λ (x : Known (Entry I R D P) (CoreOf I R D P)). x.mine ++ left) after_is ∙ mine_then ∙ ap (λ (x : SeatOf I R D P). x.mine ++ told_now) view

      -- ---- an event

      module _ (op : Op I R D P) (y : Reply I D P) (is : told_now ≡ entry n op y ∷ []) (none : left ≡ []) where
        abbrev pub e : Entry I R D P
        e = entry n op y

        more_is : gains.more ≡ kept ++ e ∷ []
        more_is = sym (append-nil gains.more) ∙ ap (λ (x : List (Entry I R D P)). gains.more ++ x) (sym none) ∙ gains.adds ∙ ap (λ (x : List (Entry I R D P)). kept ++ x) is

        pub some_more : is_nothing gains.more ≡ true → ⊥
        some_more b = not_both kept (ap (λ (x : List (Entry I R D P)). is_nothing x) (sym more_is) ∙ b)
          where
            not_both : (ks : List (Entry I R D P)) → is_nothing (ks ++ e ∷ []) ≡ true → ⊥
            not_both [] b = absurd (cc)
            not_both (k ∷ ks) b = absurd (cc)

        legal_then : IsRun (setting wants same core) ((core.log ++ kept) ++ e ∷ [])
        legal_then =
            subst (λ (x : List (Entry I R D P)). IsRun (setting wants same core) x) (ap (λ (x : List (Entry I R D P)). core.log ++ x) more_is ∙ sym (append_assoc core.log kept (e ∷ []))) runs_then

        pub replied : CanReply (run_of (setting_of wants same s.opening s.kinds) s.mine) s.number op y
        replied =
            let there = own_entries_reply I R D P (setting wants same core) (core.log ++ kept) [] e legal_then in
            subst (λ (z : Setting D P). CanReply (run_of z s.mine) s.number op y) (sym seen_setting)
            (subst (λ (u : ℕ). CanReply (run_of (setting wants same core) s.mine) u op y) (sym number_is)
            (subst (λ (es : List (Entry I R D P)). CanReply (run_of (setting wants same core) es) n op y) (sym mine_is) there))

        seen_then : core.log ++ gains.more ≡ ((t.seen ++ begins.0) ++ kept) ++ e ∷ []
        seen_then =
            ap (λ (x : List (Entry I R D P)). core.log ++ x) more_is ∙ sym (append_assoc core.log kept (e ∷ [])) ∙ ap (λ (x : List (Entry I R D P)). (x ++ kept) ++ e ∷ []) begins.1

        all_mine : (t.mine ++ gains.more) ++ left ≡ (t.mine ++ kept) ++ e ∷ []
        all_mine = mine_then ∙ ap (λ (x : List (Entry I R D P)). (t.mine ++ kept) ++ x) is

        -- the seat then, where it is not spent
        pub grown : spent ≡ false → seat_view after_turn n left false ≡ record (seat_view t n kept spent) { seen = ((t.seen ++ begins.0) ++ kept) ++ e ∷ []; kept = []; mine = (t.mine ++ kept) ++ e ∷ [] }
        grown f = λ i. record { turn = t.turn; number = n; opening = (root_of t.root).opening; kinds = (root_of t.root).kinds; seen = seen_then i; kept = none i; mine = all_mine i; spent = sym f i }

        adds_view : spent ≡ false → Adds (setting wants same core) (seat_view t n kept spent) e (seat_view after_turn n left false)
        adds_view f = record {
          added = inl (begins.0, grown f);
          legal = subst (λ (x : List (Entry I R D P)). IsRun (setting wants same core) ((core.log ++ gains.more) ++ x)) (sym none) (subst (λ (x : List (Entry I R D P)). IsRun (setting wants same core) x) (sym (append-nil (core.log ++ gains.more))) runs_then);
          short = subst (λ (x : List (Entry I R D P)). length ((core.log ++ gains.more) ++ x) < 2 ^ 63) (sym none) (subst (λ (x : List (Entry I R D P)). length x < 2 ^ 63) (log_is ∙ sym (append-nil (core.log ++ gains.more))) new_ok.few);
          own = subst (λ (x : List (Entry I R D P)). own n ((core.log ++ gains.more) ++ x) ≡ (t.mine ++ gains.more) ++ x) (sym none) (ap (λ (x : List (Entry I R D P)). own n x) (append-nil (core.log ++ gains.more)) ∙ own_then ∙ sym (append-nil (t.mine ++ gains.more)));
        }

        pub adds : spent ≡ false → (spent' : Bool) → spent' ≡ false → Adds (setting_of wants same s.opening s.kinds) s (entry s.number op y) (seat_view w n left spent')
        adds f spent' g =
            subst (λ (z : Setting D P). Adds z s (entry s.number op y) (seat_view w n left spent')) (sym seen_setting)
            (subst (λ (b : Bool). Adds (setting wants same core) s (entry s.number op y) (seat_view w n left b)) (sym g)
            (subst (λ (x : Known (Entry I R D P) (CoreOf I R D P)). Adds (setting wants same core) s (entry s.number op y) (seat_view x n left false)) (sym after_is)
            (subst (λ (u : ℕ). Adds (setting wants same core) s (entry u op y) (seat_view after_turn n left false)) (sym number_is)
            (subst (λ (x : SeatOf I R D P). Adds (setting wants same core) x e (seat_view after_turn n left false)) view (adds_view f)))))

      -- ---- by the result

      module _ {E : Type 0} (op : Op I R D P) (unspent : spent ≡ false) (spent' : Bool) where
        pub spends_by : (r : Result (Reply I D P) E) → told_now ≡ told_by n op r → IfOk r (λ _. left ≡ []) → spent' ≡ is_err r → is_nothing gains.more ≡ true → spent' ≡ true
        spends_by (Ok y) is none e b = absurd (some_more op y is none b)
        spends_by (Err x) is none e b = e

        pub adds_by : (r : Result (Reply I D P) E) → told_now ≡ told_by n op r → IfOk r (λ _. left ≡ []) → spent' ≡ is_err r → IfOk r (λ y. Adds (setting_of wants same s.opening s.kinds) s (entry s.number op y) (seat_view w n left spent'))
        adds_by (Ok y) is none e = adds op y is none unspent spent' e
        adds_by (Err x) is none e = tt

        pub replies_by : (r : Result (Reply I D P) E) → told_now ≡ told_by n op r → IfOk r (λ _. left ≡ []) → IfOk r (CanReply (run_of (setting_of wants same s.opening s.kinds) s.mine) s.number op)
        replies_by (Ok y) is none = replied op y is none
        replies_by (Err x) is none = tt

        pub errs_by : (r : Result (Reply I D P) E) → told_now ≡ told_by n op r → OnErr r (left ≡ kept) → spent' ≡ is_err r → OnErr r (Spends s (seat_view w n left spent'))
        errs_by (Ok y) is stays e = tt
        errs_by (Err x) is stays e =
            let none : gains.more ≡ [] = nothing_more gains.more kept (ap (λ (es : List (Entry I R D P)). gains.more ++ es) (sym stays) ∙ gains.adds ∙ ap (λ (es : List (Entry I R D P)). kept ++ es) is ∙ append-nil kept) in
            let seen : core.log ++ gains.more ≡ t.seen ++ begins.0 = ap (λ (es : List (Entry I R D P)). core.log ++ es) none ∙ append-nil core.log ∙ begins.1 in
            let mine : (t.mine ++ gains.more) ++ left ≡ t.mine ++ kept = (λ i. (t.mine ++ none i) ++ stays i) ∙ ap (λ (es : List (Entry I R D P)). es ++ kept) (append-nil t.mine) in
            subst (λ (v : SeatOf I R D P). Spends v (seat_view w n left spent')) view
            (subst (λ (x : Known (Entry I R D P) (CoreOf I R D P)). Spends (seat_view t n kept spent) (seat_view x n left spent')) (sym after_is)
            (begins.0, λ i. record { turn = t.turn; number = n; opening = (root_of t.root).opening; kinds = (root_of t.root).kinds; seen = seen i; kept = stays i; mine = mine i; spent = e i }))

      -- what was kept is handed in, or the seat is spent
      pub hands_by : {X E : Type 0} (r : Result X E) → IfOk r (λ _. left ≡ []) → told_now ≡ [] → (kept ≡ [] → ⊥) → (spent' : Bool) → spent' ≡ is_err r → is_nothing gains.more ≡ true → spent' ≡ true
      hands_by (Ok y) none is some spent' e b =
          absurd (some (sym (append-nil kept) ∙ ap (λ (es : List (Entry I R D P)). kept ++ es) (sym is) ∙ sym gains.adds ∙ ap (λ (es : List (Entry I R D P)). gains.more ++ es) none ∙ append-nil gains.more ∙ nothing_is gains.more b))
        where
          nothing_is : (es : List (Entry I R D P)) → is_nothing es ≡ true → es ≡ []
          nothing_is [] b = refl
          nothing_is (e ∷ es) b = absurd (cc)
      hands_by (Err x) none is some spent' e b = e
