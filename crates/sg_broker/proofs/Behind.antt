-- Events that a seat keeps: they are a legal run behind all that it has seen, and behind each later log.
use Rattle.std.proofs.Common.{◌≡◌, ℕ, ◌+◌, ◌<◌, ◌^◌, List, [], ◌∷◌, ◌++◌, ◌⊎◌, inl, inr, Bool, IsTrue, refl, sym, ap, ◌∙◌, subst, Option, Some, None, length, length-append, append_assoc, append-nil, arith}
use Rattle.std.specs.Prelude.{IfSome}
use Rattle.sg_base.specs.Graph.{IsGraph, HasScope}
use Rattle.sg_base.specs.State.{Follows}
use Rattle.sg_query.specs.Query.{KindOf}
use Rattle.sg_state.specs.Held.{HeldOf, state_of}
use Rattle.sg_state.specs.Opening.{IsOpening}
use Rattle.sg_unit.specs.declared.entry.Entry.{Entry}
use Rattle.sg_unit.specs.declared.op.Op.{Op}
use Rattle.sg_unit.specs.declared.op.Op.TheVariants.{Ask as AskOf, Advance, Take}
use Rattle.sg_unit.specs.declared.reply.Reply.{Reply}
use Rattle.sg_unit.specs.declared.reply.Reply.TheVariants.{Moved, Ready as ReadyNow, Answer as Answered}
use Rattle.sg_unit.specs.Own.{own, MayBy, CanReply}
use Rattle.sg_unit.specs.Run.{Setting, RunOf, run_of, run_from, opened, after, IsFreeUnit}
use Rattle.sg_unit.specs.Step.{May, IsRun, IsRunFrom}
use Rattle.sg_unit.proofs.Steps.{states_follow, front_run, opened_sound, run_sound}
use Rattle.sg_unit.proofs.Telling.{own_within, within_self, own_allow}
use Rattle.sg_core.specs.declared.ahead.Ahead.{Ahead}
use Rattle.sg_core.specs.declared.found_ask.FoundAsk.{FoundAsk}
use Rattle.sg_core.specs.declared.found_ask.FoundAsk.TheVariants.{Nothing}
use Rattle.sg_core.specs.Ahead.{IsAhead, IsAheadOf}
use Rattle.sg_core.specs.Beside.{KeepsOne, KeepsAll}
use Rattle.sg_core.specs.Core.{entry}
use Rattle.sg_core.specs.Sight.{SightOf}
use Rattle.sg_core.proofs.Beside.{own_append, all_own, all_later, run_keeps, keeps_more}
use Rattle.sg_core.proofs.Later.{ahead_later}
use Rattle.sg_turn.specs.Entries.{Begins}
use Rattle.sg_broker.specs.Aside.{IsSeen, IsBeside, IsAside, HasKindOf, AreAhead, HoldsAhead}

-- two legal parts are a legal run
run_join : {I R D P : Type 0} (z : Setting D P) (r : RunOf D P) (log more : List (Entry I R D P)) → IsRunFrom z r log → IsRunFrom z (run_from r log) more → IsRunFrom z r (log ++ more)
run_join z r [] more a b = b
run_join z r (e ∷ log) more a b = (a.0, run_join z (after r e) log more a.1 b)

pub begins_self : {X : Type 0} (xs : List X) → Begins xs xs
begins_self xs = ([], sym (append-nil xs))

module _ {I R D P : Type 0} where
  -- what has been seen is seen by who has seen more
  pub seen_more : (z : Setting D P) (seen more : List (Entry I R D P)) (v : SightOf D) → Begins seen more → IsSeen z seen v → IsSeen z more v
  seen_more z seen more v b x =
      (x.0, x.1 ++ b.0, b.1 ∙ ap (λ (l : List (Entry I R D P)). l ++ b.0) x.2 ∙ append_assoc x.0 x.1 b.0, x.3, x.4)

  module _ (z : Setting D P) (opens : IsOpening z.opening) (v : SightOf D) (seen : List (Entry I R D P)) (x : IsSeen z seen v) (log : List (Entry I R D P)) (runs : IsRun z log) (b : Begins seen log) where
    log_is : log ≡ x.0 ++ (x.1 ++ b.0)
    log_is = b.1 ∙ ap (λ (l : List (Entry I R D P)). l ++ b.0) x.2 ∙ append_assoc x.0 x.1 b.0

    split : IsRun z (x.0 ++ (x.1 ++ b.0))
    split = subst (λ (l : List (Entry I R D P)). IsRun z l) log_is runs

    -- what was seen is a graph, and what the run holds follows it
    pub seen_graph : IsGraph v.held.graph
    seen_graph =
        let front = front_run z (opened z) x.0 (x.1 ++ b.0) split in
        subst (λ (h : HeldOf D). IsGraph h.graph) (sym x.3) (run_sound z (opened z) (opened_sound z opens) x.0 front.0).held.graph

    pub seen_follows : Follows (state_of v.held) (state_of (run_of z log).held)
    seen_follows =
        subst (λ (h : HeldOf D). Follows (state_of h) (state_of (run_of z log).held)) (sym x.3)
        (subst (λ (l : List (Entry I R D P)). Follows (state_of (run_of z x.0).held) (state_of (run_of z l).held)) (sym log_is)
        (states_follow I R D P z x.0 (x.1 ++ b.0) opens split))

  -- ---- behind a later log

  module _ (z : Setting D P) (log mine : List (Entry I R D P)) (n : ℕ) (own_is : own n log ≡ mine) where
    -- what a unit asks by its own events it asks in the run
    pub free_there : IsFreeUnit (run_of z mine) n → IsFreeUnit (run_of z log) n
    free_there f =
        let w = (own_within n (opened z) (opened z) (within_self n (opened z)) log).alike in
        let g : IsFreeUnit (run_of z (own n log)) n = subst (λ (l : List (Entry I R D P)). IsFreeUnit (run_of z l) n) (sym own_is) f in
        (w.asks ∙ g.0, subst (λ (b : Bool). IsTrue b) (sym w.live) g.1)

  module _ (z : Setting D P) (seen mine : List (Entry I R D P)) (n : ℕ) (v : SightOf D) (count : ℕ) (kept : List (Entry I R D P)) (ask : FoundAsk D) (k : IsBeside z seen mine n v count kept ask)
      (log : List (Entry I R D P)) (runs : IsRun z log) (b : Begins seen log) (own_is : own n log ≡ mine) where
    pub free_behind : (kept ≡ []) ⊎ IsFreeUnit (run_of z log) n
    free_behind = elim k.free [ inl e ↦ inl e | inr f ↦ inr (free_there z log mine n own_is f) ]

    pub keeps_behind : KeepsAll z.wants z.same v.kinds (run_of z log).held n Nothing kept ask
    keeps_behind =
        all_later z.wants z.same v.kinds n v.held (run_of z log).held (seen_graph z k.opens v seen k.sight log runs b) (seen_follows z k.opens v seen k.sight log runs b) Nothing ask kept k.keeps

    pub own_behind : own n (log ++ kept) ≡ mine ++ kept
    own_behind =
        own_append n log kept ∙ (λ i. own_is i ++ all_own z.wants z.same v.kinds n v.held Nothing ask kept k.keeps i)

    pub legal_behind : IsRun z (log ++ kept)
    legal_behind = elim free_behind [
      | inl e ↦ subst (λ (l : List (Entry I R D P)). IsRun z l) (sym (ap (λ (l : List (Entry I R D P)). log ++ l) e ∙ append-nil log)) runs
      | inr f ↦ run_join z (opened z) log kept runs
          (run_keeps z n kept (run_of z log) f.1 Nothing f.0 ask (subst (λ (ks : List KindOf). KeepsAll z.wants z.same ks (run_of z log).held n Nothing kept ask) k.sight.4 keeps_behind)).0
    ]

    -- what the unit's own events allow, the run allows behind what was kept
    pub may_behind : (op : Op I R D P) → MayBy z (mine ++ kept) n op → May z (run_of z (log ++ kept)) n op
    may_behind op may =
        own_allow I R D P z (log ++ kept) n op k.opens legal_behind
        (subst (λ (l : List (Entry I R D P)). MayBy z l n op) (sym own_behind) may)

  -- what was searched in what a seat has seen holds behind what it kept
  pub ahead_behind : (z : Setting D P) → IsOpening z.opening → (seen log : List (Entry I R D P)) → IsRun z log → Begins seen log → (op : Op I R D P) (o : Option (Ahead I D P)) → HoldsAhead z seen op o → IsAheadOf z.wants z.same z.kinds (run_of z log).held op o
  ahead_behind z opens seen log runs b op o there q e = here o (there q e)
    where
      here : (o : Option (Ahead I D P)) → IfSome o (λ t. (v : SightOf D) × IsSeen z seen v × IsGraph v.held.graph × HasScope v.held.graph q.start × IsAhead z.wants z.same v.kinds v.held q t) → IfSome o (IsAhead z.wants z.same z.kinds (run_of z log).held q)
      here None y = tt
      here (Some t) y =
          ahead_later z.wants z.same z.kinds (y.0).held (run_of z log).held q t y.2 y.3 (seen_follows z opens y.0 seen y.1 log runs b)
          (subst (λ (ks : List KindOf). IsAhead z.wants z.same ks (y.0).held q t) (y.1).4 y.4)

  -- ---- at the seat

  -- the kind of a query that a unit may ask is one of what was seen
  pub kind_there : (z : Setting D P) (seen mine all : List (Entry I R D P)) (n : ℕ) (o : Option (SightOf D)) (count : ℕ) (kept : List (Entry I R D P)) (ask : FoundAsk D) (op : Op I R D P) → IsAside z seen mine n o count kept ask → MayBy z all n op → HasKindOf o op
  kind_there z seen mine all n None count kept ask op x may = tt
  kind_there z seen mine all n (Some v) count kept ask op x may = λ q e.
      let m : MayBy z all n (let o : Op I R D P = AskOf q in o) = subst (λ (o : Op I R D P). MayBy z all n o) e may in
      subst (λ (k : List KindOf). q.kind < length k) (sym x.sight.4) m.1.1

  -- what was searched there is what its search came to in what the seat has seen
  pub ahead_seen : (z : Setting D P) (seen mine : List (Entry I R D P)) (n : ℕ) (o : Option (SightOf D)) (count : ℕ) (kept : List (Entry I R D P)) (ask : FoundAsk D) (op : Op I R D P) (a : Option (Ahead I D P)) → IsAside z seen mine n o count kept ask → AreAhead z.wants z.same o op a → HoldsAhead z seen op a
  ahead_seen z seen mine n None count kept ask op a x none q e = subst (λ (y : Option (Ahead I D P)). IfSome y (λ b. (v : SightOf D) × IsSeen z seen v × IsGraph v.held.graph × HasScope v.held.graph q.start × IsAhead z.wants z.same v.kinds v.held q b)) (sym none) tt
  ahead_seen z seen mine n (Some v) count kept ask op None x there q e = tt
  ahead_seen z seen mine n (Some v) count kept ask op (Some t) x there q e = let y = there q e in (v, x.sight, y.0, y.1, y.2)

  module _ (z : Setting D P) (seen mine : List (Entry I R D P)) (n : ℕ) (v : SightOf D) (count : ℕ) (kept : List (Entry I R D P)) (ask : FoundAsk D) (k : IsBeside z seen mine n v count kept ask)
      (op : Op I R D P) (y : Reply I D P) (then : FoundAsk D) (o : KeepsOne z.wants z.same v.kinds v.held n ask (entry n op y) then) (may : MayBy z (mine ++ kept) n op) where
    -- the reply is one that the operation can have
    pub reply_here : (r : RunOf D P) → CanReply r n op y
    reply_here r = elim o [
      | inl a ↦ reply_by op y (AskOf a.0) Moved (ap (λ (e : Entry I R D P). e.op) a.3) (ap (λ (e : Entry I R D P). e.reply) a.3) refl
      | inr b ↦ elim b [
        | inl a ↦ reply_by op y Advance ReadyNow (ap (λ (e : Entry I R D P). e.op) a.2) (ap (λ (e : Entry I R D P). e.reply) a.2) tt
        | inr a ↦ reply_by op y Take (Answered a.0) (ap (λ (e : Entry I R D P). e.op) a.2) (ap (λ (e : Entry I R D P). e.reply) a.2) (a.0, refl)
      ]
    ]
      where
        reply_by : (op : Op I R D P) (y : Reply I D P) (p : Op I R D P) (w : Reply I D P) → op ≡ p → y ≡ w → CanReply r n p w → CanReply r n op y
        reply_by op y p w a b c = subst (λ (p : Op I R D P). CanReply r n p y) (sym a) (subst (λ (w : Reply I D P). CanReply r n p w) (sym b) c)

    -- the unit is live and asks nothing, by its own events in the log
    free_here : IsFreeUnit (run_of z mine) n
    free_here = elim k.free [
      | inl e ↦ free_first e
      | inr f ↦ f
    ]
      where
        none_yet : kept ≡ [] → Nothing ≡ ask
        none_yet e = subst (λ (l : List (Entry I R D P)). KeepsAll z.wants z.same v.kinds v.held n Nothing l ask) e k.keeps

        free_first : kept ≡ [] → IsFreeUnit (run_of z mine) n
        free_first e = elim o [
          | inl a ↦ (
              let m : MayBy z (mine ++ kept) n (let p : Op I R D P = AskOf a.0 in p) = subst (λ (p : Op I R D P). MayBy z (mine ++ kept) n p) (ap (λ (e : Entry I R D P). e.op) a.3) may in
              subst (λ (l : List (Entry I R D P)). IsFreeUnit (run_of z l) n) (ap (λ (l : List (Entry I R D P)). mine ++ l) e ∙ append-nil mine) (m.1.0, m.0))
          | inr b ↦ elim b [
            | inl a ↦ absurd (let f = none_yet e ∙ a.1 in cc)
            | inr a ↦ absurd (let f = none_yet e ∙ a.1 in cc)
          ]
        ]

    pub keeps_here : IsBeside z seen mine n v count (kept ++ entry n op y ∷ []) then
    keeps_here = record {
      opens = k.opens;
      runs = k.runs;
      counted = k.counted;
      own = k.own;
      sight = k.sight;
      keeps = keeps_more z.wants z.same v.kinds n v.held Nothing ask then kept (entry n op y) k.keeps o;
      free = inr free_here;
    }

    pub legal_here : IsRun z (seen ++ (kept ++ entry n op y ∷ []))
    legal_here = legal_behind z seen mine n v count (kept ++ entry n op y ∷ []) then keeps_here seen k.runs (begins_self seen) k.own

    pub own_here : own n (seen ++ (kept ++ entry n op y ∷ [])) ≡ mine ++ (kept ++ entry n op y ∷ [])
    own_here = own_behind z seen mine n v count (kept ++ entry n op y ∷ []) then keeps_here seen k.runs (begins_self seen) k.own

    pub short_here : count + length kept + 1 < 2 ^ 63 → length (seen ++ (kept ++ entry n op y ∷ [])) < 2 ^ 63
    short_here room =
        let a = length-append seen (kept ++ entry n op y ∷ []) in
        let b = length-append kept (entry n op y ∷ []) in
        omega (arith, a, b, k.counted, room)
