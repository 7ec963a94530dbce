-- What a step of a unit does to what is known of it.
use Rattle.std.proofs.Common.{◌≡◌, ℕ, suc, ◌+◌, List, [], ◌∷◌, ◌++◌, Bool, true, false, ◌&&◌, cond, IsTrue, Option, Some, refl, sym, ap, ◌∙◌, subst, length, length-append}
use Rattle.std.proofs.lemmas.List.Elements.{Contains-push, Contains-append_left}
use Rattle.std.specs.List.{Contains}
use Rattle.sg_base.specs.declared.scope.Scope.{Scope}
use Rattle.sg_base.specs.Graph.{GraphOf}
use Rattle.sg_base.proofs.Scopes.{number_itself}
use Rattle.sg_query.specs.Query.{KindOf}
use Rattle.sg_query.specs.declared.query.Query.{Query}
use Rattle.sg_state.specs.Held.{HeldOf}
use Rattle.sg_unit.specs.declared.entry.Entry.{Entry}
use Rattle.sg_unit.specs.declared.op.Op.{Op}
use Rattle.sg_unit.specs.declared.op.Op.TheVariants.{Fresh, AddEdge, SetDatum, CloseRow, Ask, Advance, Take, End}
use Rattle.sg_unit.specs.declared.reply.Reply.{Reply}
use Rattle.sg_unit.specs.declared.reply.Reply.TheVariants.{Made, Done, Moved, Ready, Suspended, Answer as Answered, Stuck}
use Rattle.sg_unit.specs.Operation.{goes_on}
use Rattle.sg_unit.specs.Own.{MayBy, CanReply, IsOwnRun}
use Rattle.sg_unit.specs.Run.{Setting, RunOf, Asking, open_ask, advanced, ask_after, after, run_of}
use Rattle.sg_unit.specs.Served.{IsServed, SomeStands, waits_next}
use Rattle.sg_unit.specs.Step.{Meets}
use Rattle.sg_unit.specs.Trace.{Past}
use Rattle.sg_unit.specs.Unit.{setting_of, CanBeHanded, GoesOn, GivesOwed}
use Rattle.sg_unit.proofs.Driving.{in_setting, served_hands, desk_may, desk_own, desk_served, served_advance, served_take}
use Rattle.sg_unit.proofs.Growing.{own_runs_grow, runs_hold}
use Rattle.sg_pool.specs.declared.doing.Doing.{Doing}
use Rattle.sg_pool.specs.declared.doing.Doing.TheVariants.{Gives, Advances, Takes, HasEnded}
use Rattle.sg_pool.specs.declared.after.After.TheVariants.{IsStuck}
use Rattle.sg_pool.specs.Driving.{IsDoing, IsDriven, MetStuck, doing_after, doing_advanced, after_of}

abbrev advance_op : (I R D P : Type 0) → Op I R D P
advance_op I R D P = Advance

abbrev take_op : (I R D P : Type 0) → Op I R D P
take_op I R D P = Take

and_false : (b : Bool) → (b && false) ≡ false
and_false true = refl
and_false false = refl

module _ {I R D P : Type 0} (r : RunOf D P) (u : ℕ) (op : Op I R D P) (y : Reply I D P) where
  abbrev next_run : RunOf D P
  next_run = after r (record { unit = u; op = op; reply = y })

  live_then : next_run.live u ≡ (r.live u && goes_on op)
  live_then = ap (λ (b : Bool). cond b (r.live u && goes_on op) (r.live u)) (number_itself u)

  asks_then : next_run.asks u ≡ ask_after (r.asks u) op y
  asks_then = ap (λ (b : Bool). cond b (ask_after (r.asks u) op y) (r.asks u)) (number_itself u)

  stays_live : goes_on op ≡ true → IsTrue (r.live u) → IsTrue (next_run.live u)
  stays_live g l = live_then ∙ ap (λ (b : Bool). b && goes_on op) l ∙ g

  ends_then : goes_on op ≡ false → next_run.live u ≡ false
  ends_then g = live_then ∙ ap (λ (b : Bool). r.live u && b) g ∙ and_false (r.live u)

-- what comes after an operation that a unit gave
doing_gives : {I R D P : Type 0} (z : Setting D P) (There : Scope → Type 0) (r : RunOf D P) (u : ℕ) (op : Op I R D P) (y : Reply I D P) → IsDoing r u Gives → Meets z There r u op → IsDoing (after r (record { unit = u; op = op; reply = y })) u (doing_after op)
doing_gives {I} {R} {D} {P} z There r u (Fresh labels datum) y d m = (stays_live {I = I} {R = R} r u (Fresh labels datum) y refl d.0, asks_then {I = I} {R = R} r u (Fresh labels datum) y ∙ d.1)
doing_gives {I} {R} {D} {P} z There r u (AddEdge from label to) y d m = (stays_live {I = I} {R = R} r u (AddEdge from label to) y refl d.0, asks_then {I = I} {R = R} r u (AddEdge from label to) y ∙ d.1)
doing_gives {I} {R} {D} {P} z There r u (SetDatum s x) y d m = (stays_live {I = I} {R = R} r u (SetDatum s x) y refl d.0, asks_then {I = I} {R = R} r u (SetDatum s x) y ∙ d.1)
doing_gives {I} {R} {D} {P} z There r u (CloseRow s l) y d m = (stays_live {I = I} {R = R} r u (CloseRow s l) y refl d.0, asks_then {I = I} {R = R} r u (CloseRow s l) y ∙ d.1)
doing_gives {I} {R} {D} {P} z There r u (Ask q) y d m = (stays_live {I = I} {R = R} r u (Ask q) y refl d.0, (q, 0, asks_then {I = I} {R = R} r u (Ask q) y))
doing_gives {I} {R} {D} {P} z There r u Advance y d m = absurd (let e = sym d.1 ∙ m.2 in cc)
doing_gives {I} {R} {D} {P} z There r u Take y d m = absurd (let e = sym d.1 ∙ m.1 in cc)
doing_gives {I} {R} {D} {P} z There r u (End x) y d m = ends_then {I = I} {R = R} r u (End x) y refl

-- what comes after an advance
doing_moves : {I D P : Type 0} (R : Type 0) (r : RunOf D P) (u : ℕ) (y : Reply I D P) → IsDoing r u Advances → IsDoing (after r (record { unit = u; op = advance_op I R D P; reply = y })) u (doing_advanced y)
doing_moves {I} {D} {P} R r u y d = go y
  where
    live : (y : Reply I D P) → IsTrue ((after r (record { unit = u; op = advance_op I R D P; reply = y })).live u)
    live y = stays_live r u (advance_op I R D P) y refl d.0

    asks : (y : Reply I D P) → (after r (record { unit = u; op = advance_op I R D P; reply = y })).asks u ≡ advanced (open_ask d.1.0 d.1.1) y
    asks y = asks_then r u (advance_op I R D P) y ∙ ap (λ (a : Asking P). advanced a y) d.1.2

    go : (y : Reply I D P) → IsDoing (after r (record { unit = u; op = advance_op I R D P; reply = y })) u (doing_advanced y)
    go Ready = (live Ready, (d.1.0, asks Ready))
    go Moved = (live Moved, (d.1.0, suc d.1.1, asks Moved))
    go Suspended = (live Suspended, (d.1.0, d.1.1, asks Suspended))
    go Stuck = (live Stuck, (d.1.0, d.1.1, asks Stuck))
    go (Made s) = (live (Made s), (d.1.0, d.1.1, asks (Made s)))
    go (Done w) = (live (Done w), (d.1.0, d.1.1, asks (Done w)))
    go (Answered a) = (live (Answered a), (d.1.0, d.1.1, asks (Answered a)))

-- a reply after which every live unit waits
was_stuck : {I D P : Type 0} (y : Reply I D P) → after_of y ≡ IsStuck → y ≡ Stuck
was_stuck Suspended e = absurd (cc)
was_stuck Stuck e = refl
was_stuck Ready e = absurd (cc)
was_stuck Moved e = absurd (cc)
was_stuck (Made s) e = absurd (cc)
was_stuck (Done w) e = absurd (cc)
was_stuck (Answered a) e = absurd (cc)

module _ {I R D P : Type 0} (mine new : List (Entry I R D P)) (e : Entry I R D P) (added : new ≡ mine ++ e ∷ []) where
  pub met_stuck : after_of e.reply ≡ IsStuck → MetStuck new
  met_stuck s = (e, subst (λ (es : List (Entry I R D P)). Contains es e) (sym added) (Contains-push mine e), was_stuck e.reply s)

  pub still_met : MetStuck mine → MetStuck new
  still_met m = (m.0, subst (λ (es : List (Entry I R D P)). Contains es m.0) (sym added) (Contains-append_left mine (e ∷ []) m.0 m.1), m.2)

  pub one_longer : length new ≡ length mine + 1
  one_longer = ap length added ∙ length-append mine (e ∷ [])

module _ {I R D P V F : Type 0} (wants : P → D → Bool) (same : D → D → Bool) (opening : F → HeldOf D) (kinds : F → List KindOf) (edges : F → GraphOf D → Scope → ℕ → Scope → Type 0) (data_at : F → GraphOf D → Scope → D → Type 0) (asks : F → GraphOf D → Query P → Type 0) (result : F → GraphOf D → R → Type 0)
    (number : V → ℕ) (fixed : V → F) (stands : V → Past I R D P → Option (Op I R D P) → Type 0) where
  abbrev Drives : HeldOf D → List KindOf → List (Entry I R D P) → ℕ → V → Option (Reply I D P) → Doing → Type 0
  Drives begins table mine u v y d = IsDriven wants same opening kinds edges data_at asks result number fixed stands begins table mine u v y d

  abbrev setting_at : F → Setting D P
  setting_at f = setting_of wants same (opening f) (kinds f)

  -- at an equal place
  pub driven_there : (begins begins' : HeldOf D) (table table' : List KindOf) (mine mine' : List (Entry I R D P)) (u u' : ℕ) (v : V) (y : Option (Reply I D P)) (d : Doing) → begins' ≡ begins → table' ≡ table → mine' ≡ mine → u' ≡ u → Drives begins table mine u v y d → Drives begins' table' mine' u' v y d
  driven_there begins begins' table table' mine mine' u u' v y d b t m n k =
      subst (λ (x : HeldOf D). Drives x table' mine' u' v y d) (sym b)
      (subst (λ (x : List KindOf). Drives begins x mine' u' v y d) (sym t)
      (subst (λ (x : List (Entry I R D P)). Drives begins table x u' v y d) (sym m)
      (subst (λ (x : ℕ). Drives begins table mine x v y d) (sym n) k)))

  module _ (begins : HeldOf D) (table : List KindOf) (mine : List (Entry I R D P)) (u : ℕ) (v : V) (y : Option (Reply I D P)) where
    -- what holds at the desk holds in the unit's setting, and the other way round
    to_unit : (begins ≡ opening (fixed v)) × (table ≡ kinds (fixed v)) → (C : Setting D P → Type 0) → C (setting_of wants same begins table) → C (setting_at (fixed v))
    to_unit run C c = in_setting wants same C begins (opening (fixed v)) table (kinds (fixed v)) run.0 run.1 c

    to_desk : (begins ≡ opening (fixed v)) × (table ≡ kinds (fixed v)) → (C : Setting D P → Type 0) → C (setting_at (fixed v)) → C (setting_of wants same begins table)
    to_desk run C c = in_setting wants same C (opening (fixed v)) begins (kinds (fixed v)) table (sym run.0) (sym run.1) c

    then_run : (op : Op I R D P) (reply : Reply I D P) (d : Doing) → IsDoing (after (run_of (setting_at (fixed v)) mine) (record { unit = u; op = op; reply = reply })) u d → IsDoing (run_of (setting_at (fixed v)) (mine ++ (record { unit = u; op = op; reply = reply }) ∷ [])) u d
    then_run op reply d k = subst (λ (r : RunOf D P). IsDoing r u d) (sym (runs_hold I R D P (setting_at (fixed v)) mine (record { unit = u; op = op; reply = reply }))) k

    -- ---- an advance

    module _ (k : Drives begins table mine u v y Advances) where
      may_move : MayBy (setting_at (fixed v)) mine u Advance
      may_move = (k.doing.0, k.doing.1)

      pub may_advance : MayBy (setting_of wants same begins table) mine u Advance
      may_advance = to_desk k.run (λ z. MayBy z mine u Advance) may_move

      pub driven_advance : (reply : Reply I D P) → CanReply (run_of (setting_of wants same begins table) mine) u (advance_op I R D P) reply → Drives begins table (mine ++ (record { unit = u; op = Advance; reply = reply }) ∷ []) u v y (doing_advanced reply)
      driven_advance reply can = record {
        run = k.run;
        own = own_runs_grow I R D P (setting_at (fixed v)) mine u Advance reply k.own may_move (to_unit k.run (λ z. CanReply (run_of z mine) u (advance_op I R D P) reply) can);
        doing = then_run Advance reply (doing_advanced reply) (doing_moves R (run_of (setting_at (fixed v)) mine) u reply k.doing);
        served = served_advance wants same opening kinds edges data_at asks result number fixed stands mine u (fixed v) v y reply k.served;
      }

    -- ---- a take

    module _ (k : Drives begins table mine u v y Takes) where
      may_end : MayBy (setting_at (fixed v)) mine u Take
      may_end = (k.doing.0, k.doing.1)

      pub may_take : MayBy (setting_of wants same begins table) mine u Take
      may_take = to_desk k.run (λ z. MayBy z mine u Take) may_end

      pub driven_take : (reply : Reply I D P) → CanReply (run_of (setting_of wants same begins table) mine) u (take_op I R D P) reply → Drives begins table (mine ++ (record { unit = u; op = Take; reply = reply }) ∷ []) u v (Some reply) Gives
      driven_take reply can = record {
        run = k.run;
        own = own_runs_grow I R D P (setting_at (fixed v)) mine u Take reply k.own may_end (to_unit k.run (λ z. CanReply (run_of z mine) u (take_op I R D P) reply) can);
        doing = then_run Take reply Gives (stays_live (run_of (setting_at (fixed v)) mine) u (take_op I R D P) reply refl k.doing.0, asks_then (run_of (setting_at (fixed v)) mine) u (take_op I R D P) reply);
        served = served_take wants same opening kinds edges data_at asks result number fixed stands mine u (fixed v) v y reply k.served;
      }

    -- ---- an operation that the unit gives

    module _ (k : Drives begins table mine u v y Gives) where
      pub can_hand : CanBeHanded (setting_at (fixed v)) (number v) (stands v) y
      can_hand = served_hands wants same opening kinds edges data_at asks result number fixed stands mine u (fixed v) v y k.served k.own k.doing.1 k.doing.0

      module _ (v' : V) (op : Op I R D P) (goes : GoesOn (setting_at (fixed v)) (number v) (stands v) (stands v') y op) where
        pub may_give : MayBy (setting_of wants same begins table) mine u op
        may_give = desk_may wants same opening kinds edges data_at asks result number fixed stands mine u (fixed v) v y k.served k.own k.doing.1 k.doing.0 v' op goes begins table k.run.0 k.run.1

        module _ (owed : GivesOwed (setting_at (fixed v)) (number v) (edges (fixed v)) (data_at (fixed v)) (asks (fixed v)) (result (fixed v)) (stands v) y op) (stays : (fixed v' ≡ fixed v) × (number v' ≡ number v)) (reply : Reply I D P) (can : CanReply (run_of (setting_of wants same begins table) mine) u op reply) where
          abbrev longer : List (Entry I R D P)
          longer = mine ++ (record { unit = u; op = op; reply = reply }) ∷ []

          meets : MayBy (setting_at (fixed v)) mine u op
          meets = to_unit k.run (λ z. MayBy z mine u op) may_give

          pub driven_give : Drives begins table longer u v' (waits_next op reply) (doing_after op)
          driven_give = record {
            run = (k.run.0 ∙ ap opening (sym stays.0), k.run.1 ∙ ap kinds (sym stays.0));
            own = subst (λ (f : F). IsOwnRun (setting_at f) u longer) (sym stays.0) (desk_own wants same opening kinds edges data_at asks result number fixed stands mine u (fixed v) v y k.served k.own k.doing.1 k.doing.0 v' op goes owed stays reply begins table k.run.0 k.run.1 longer refl can);
            doing = subst (λ (f : F). IsDoing (run_of (setting_at f) longer) u (doing_after op)) (sym stays.0) (then_run op reply (doing_after op) (doing_gives (setting_at (fixed v)) _ (run_of (setting_at (fixed v)) mine) u op reply k.doing meets.1));
            served = subst (λ (f : F). IsServed wants same opening kinds edges data_at asks result number fixed stands longer u f v' (waits_next op reply)) (sym stays.0) (desk_served wants same opening kinds edges data_at asks result number fixed stands mine u (fixed v) v y k.served k.own k.doing.1 k.doing.0 v' op goes owed stays reply longer refl);
          }

    -- ---- at the end

    pub has_ended : Drives begins table mine u v y HasEnded → (run_of (setting_of wants same begins table) mine).live u ≡ false
    has_ended k = to_desk k.run (λ z. (run_of z mine).live u ≡ false) k.doing

    pub still_live : (d : Doing) → (d ≡ HasEnded → ⊥) → Drives begins table mine u v y d → (run_of (setting_of wants same begins table) mine).live u ≡ true
    still_live Gives n k = to_desk k.run (λ z. (run_of z mine).live u ≡ true) k.doing.0
    still_live Advances n k = to_desk k.run (λ z. (run_of z mine).live u ≡ true) k.doing.0
    still_live Takes n k = to_desk k.run (λ z. (run_of z mine).live u ≡ true) k.doing.0
    still_live HasEnded n k = absurd (n refl)

    pub some_stands : (d : Doing) → Drives begins table mine u v y d → SomeStands number fixed stands mine u (fixed v)
    some_stands d k = (v, k.served.numbered, refl, k.served.stood)
