-- A driver's step: a unit that asks nothing is handed its reply, and what it gives is applied; its asks are moved on and taken.
use Rattle.std.proofs.Common.{◌≡◌, ℕ, List, [], ◌∷◌, ◌++◌, Bool, IsTrue, Option, Some, None, refl, sym, ap, ◌∙◌, subst}
use Rattle.sg_base.specs.declared.scope.Scope.{Scope}
use Rattle.sg_base.specs.Graph.{GraphOf}
use Rattle.sg_query.specs.declared.query.Query.{Query}
use Rattle.sg_query.specs.Query.{KindOf}
use Rattle.sg_state.specs.Held.{HeldOf}
use Rattle.sg_unit.specs.declared.entry.Entry.{Entry}
use Rattle.sg_unit.specs.declared.op.Op.{Op}
use Rattle.sg_unit.specs.declared.op.Op.TheVariants.{Fresh, AddEdge, SetDatum, CloseRow, Ask, Advance, Take, End}
use Rattle.sg_unit.specs.declared.reply.Reply.{Reply}
use Rattle.sg_unit.specs.Honest.{AnswersAsTold, GivesResults, IsHonest}
use Rattle.sg_unit.specs.Own.{MayBy, CanReply, IsOwnRun}
use Rattle.sg_unit.specs.Run.{Setting, run_of, NoAsk}
use Rattle.sg_unit.specs.Served.{IsNew, IsServed, waits_next}
use Rattle.sg_unit.specs.Trace.{Past, Trace, gave, handed, told, told_after, with_last, MayGive, IsHanded}
use Rattle.sg_unit.specs.Unit.{setting_of, CanBeHanded, GoesOn, GivesOwed}
use Rattle.sg_unit.proofs.Growing.{own_runs_grow, traces_grow}
use Rattle.sg_unit.proofs.Honesty.{new_units_are_honest, calls_keep_honest}
use Rattle.sg_unit.proofs.Tracing.{traces_allow, traces_hand}

-- what holds in one setting holds in an equal one
pub in_setting : {D P : Type 0} (wants : P → D → Bool) (same : D → D → Bool) (C : Setting D P → Type 0) (o p : HeldOf D) (k l : List KindOf) → o ≡ p → k ≡ l → C (setting_of wants same o k) → C (setting_of wants same p l)
in_setting {D} wants same C o p k l opening kinds c =
    subst (λ (x : HeldOf D). C (setting_of wants same x l)) opening (subst (λ (x : List KindOf). C (setting_of wants same o x)) kinds c)

-- what an operation that a unit gives tells it
gives_tell : {I R D P : Type 0} (z : Setting D P) (mine : List (Entry I R D P)) (u : ℕ) (op : Op I R D P) (y : Reply I D P) (t : Trace I R D P) → NoAsk (run_of z mine) u → MayBy z mine u op → told_after t op y ≡ gave t op (waits_next op y)
gives_tell z mine u (Fresh labels datum) y t n m = refl
gives_tell z mine u (AddEdge from label to) y t n m = refl
gives_tell z mine u (SetDatum s d) y t n m = refl
gives_tell z mine u (CloseRow s l) y t n m = refl
gives_tell z mine u (Ask q) y t n m = refl
gives_tell z mine u Advance y t n m = absurd (let a = (m.1).2 in let e = sym n ∙ a in cc)
gives_tell z mine u Take y t n m = absurd (let a = (m.1).1 in let e = sym n ∙ a in cc)
gives_tell z mine u (End x) y t n m = refl

module _ {I R D P V F : Type 0} (wants : P → D → Bool) (same : D → D → Bool) (opening : F → HeldOf D) (kinds : F → List KindOf) (edges : F → GraphOf D → Scope → ℕ → Scope → Type 0) (data_at : F → GraphOf D → Scope → D → Type 0) (asks : F → GraphOf D → Query P → Type 0) (result : F → GraphOf D → R → Type 0)
    (number : V → ℕ) (fixed : V → F) (stands : V → Past I R D P → Option (Op I R D P) → Type 0) where
  abbrev setting_at : F → Setting D P
  setting_at f = setting_of wants same (opening f) (kinds f)

  abbrev Serves : List (Entry I R D P) → ℕ → F → V → Option (Reply I D P) → Type 0
  Serves mine u f v y = IsServed wants same opening kinds edges data_at asks result number fixed stands mine u f v y

  -- a new unit is served
  pub served_new : (begins : HeldOf D) (table : List KindOf) (u : ℕ) (v : V) → IsNew number fixed opening kinds stands begins table u v → Serves [] u (fixed v) v None
  served_new begins table u v new = record {
    numbered = new.0;
    fixed_part = refl;
    stood = new.3;
    waiting = refl;
    honest = new_units_are_honest I (edges (fixed v)) (data_at (fixed v)) (asks (fixed v)) (result (fixed v)) (setting_at (fixed v)) u;
  }

  -- it is served after one more entry of its own
  more_told : (mine : List (Entry I R D P)) (e : Entry I R D P) (t : Trace I R D P) (u : ℕ) (f : F) (v : V) → told_after (told mine) e.op e.reply ≡ t → number v ≡ u → fixed v ≡ f → stands v t.past t.last → IsHonest (setting_at f) u (edges f) (data_at f) (asks f) (result f) t.past t.last → Serves (mine ++ e ∷ []) u f v t.reply
  more_told mine e t u f v is n x s h =
      let more : told (mine ++ e ∷ []) ≡ t = traces_grow I R D P mine e ∙ is in
      record {
        numbered = n;
        fixed_part = x;
        stood = subst (λ (t : Trace I R D P). stands v t.past t.last) (sym more) s;
        waiting = ap (λ (t : Trace I R D P). t.reply) (sym more);
        honest = subst (λ (t : Trace I R D P). IsHonest (setting_at f) u (edges f) (data_at f) (asks f) (result f) t.past t.last) (sym more) h;
      }

  -- an advance of its ask tells it nothing
  pub served_advance : (mine : List (Entry I R D P)) (u : ℕ) (f : F) (v : V) (y : Option (Reply I D P)) (reply : Reply I D P) → Serves mine u f v y → Serves (mine ++ (record { unit = u; op = Advance; reply = reply }) ∷ []) u f v y
  served_advance mine u f v y reply s =
      subst (λ (x : Option (Reply I D P)). Serves (mine ++ (record { unit = u; op = Advance; reply = reply }) ∷ []) u f v x) (sym s.waiting)
      (more_told mine (record { unit = u; op = Advance; reply = reply }) (told mine) u f v refl s.numbered s.fixed_part s.stood s.honest)

  -- the answer that was taken waits to be handed to it
  pub served_take : (mine : List (Entry I R D P)) (u : ℕ) (f : F) (v : V) (y : Option (Reply I D P)) (reply : Reply I D P) → Serves mine u f v y → Serves (mine ++ (record { unit = u; op = Take; reply = reply }) ∷ []) u f v (Some reply)
  served_take mine u f v y reply s =
      more_told mine (record { unit = u; op = Take; reply = reply }) (record { past = (told mine).past; last = (told mine).last; reply = Some reply }) u f v refl s.numbered s.fixed_part s.stood s.honest

  -- ---- a unit that asks nothing is handed its reply

  module _ (mine : List (Entry I R D P)) (u : ℕ) (f : F) (v : V) (y : Option (Reply I D P)) (s : Serves mine u f v y) (run : IsOwnRun (setting_at f) u mine) (free : NoAsk (run_of (setting_at f) mine) u) where
    -- what holds for the unit holds for its number and its fixed part
    at_number : (C : F → ℕ → Type 0) → C (fixed v) (number v) → C f u
    at_number C c = subst (λ (x : F). C x u) s.fixed_part (subst (λ (n : ℕ). C (fixed v) n) s.numbered c)

    at_unit : (C : F → ℕ → Type 0) → C f u → C (fixed v) (number v)
    at_unit C c = subst (λ (x : F). C x (number v)) (sym s.fixed_part) (subst (λ (n : ℕ). C f n) (sym s.numbered) c)

    module _ (live : IsTrue ((run_of (setting_at f) mine).live u)) where
      hand : IsHanded (setting_at f) u (told mine).past (told mine).last y
      hand = subst (λ (x : Option (Reply I D P)). IsHanded (setting_at f) u (told mine).past (told mine).last x) (sym s.waiting) (traces_hand I R D P (setting_at f) mine u run free live)

      hand_there : IsHanded (setting_at (fixed v)) (number v) (told mine).past (told mine).last y
      hand_there = at_unit (λ x n. IsHanded (setting_at x) n (told mine).past (told mine).last y) hand

      -- it can be handed the reply that waits
      pub served_hands : CanBeHanded (setting_at (fixed v)) (number v) (stands v) y
      served_hands = ((told mine).past, (told mine).last, s.stood, hand_there)

      module _ (v' : V) (op : Op I R D P) (goes : GoesOn (setting_at (fixed v)) (number v) (stands v) (stands v') y op) where
        gives : MayGive (setting_at f) u (with_last (told mine).past (told mine).last y) op
        gives = at_number (λ x n. MayGive (setting_at x) n (with_last (told mine).past (told mine).last y) op) (goes (told mine).past (told mine).last s.stood hand_there).1

        -- what it gives next, its own entries allow
        pub served_may : MayBy (setting_at f) mine u op
        served_may = traces_allow I R D P (setting_at f) mine u op run free (subst (λ (x : Option (Reply I D P)). MayGive (setting_at f) u (with_last (told mine).past (told mine).last x) op) s.waiting gives)

        pub desk_may : (begins : HeldOf D) (table : List KindOf) → begins ≡ opening f → table ≡ kinds f → MayBy (setting_of wants same begins table) mine u op
        desk_may begins table same_opening same_kinds = in_setting wants same (λ z. MayBy z mine u op) (opening f) begins (kinds f) table (sym same_opening) (sym same_kinds) served_may

        module _ (owed : GivesOwed (setting_at (fixed v)) (number v) (edges (fixed v)) (data_at (fixed v)) (asks (fixed v)) (result (fixed v)) (stands v) y op) (stays : (fixed v' ≡ fixed v) × (number v' ≡ number v)) (reply : Reply I D P) where
          honest_then : IsHonest (setting_at f) u (edges f) (data_at f) (asks f) (result f) (with_last (told mine).past (told mine).last y) (Some op)
          honest_then = calls_keep_honest I (edges f) (data_at f) (asks f) (result f) (setting_at f) u (told mine).past (told mine).last y op s.honest hand gives
              (at_number (λ x n. (g : GraphOf D) → AnswersAsTold (setting_at x) g (with_last (told mine).past (told mine).last y) → GivesResults (setting_at x) n (edges x g) (data_at x g) (asks x g) (result x g) (with_last (told mine).past (told mine).last y) (Some op))
              (λ g answers. owed (told mine).past (told mine).last g s.stood hand_there answers))

          -- it is served after what it gave
          pub served_gives : Serves (mine ++ (record { unit = u; op = op; reply = reply }) ∷ []) u f v' (waits_next op reply)
          served_gives =
              more_told mine (record { unit = u; op = op; reply = reply }) (gave (told mine) op (waits_next op reply)) u f v' (gives_tell (setting_at f) mine u op reply (told mine) free served_may) (stays.1 ∙ s.numbered) (stays.0 ∙ s.fixed_part)
              (subst (λ (x : Option (Reply I D P)). stands v' (with_last (told mine).past (told mine).last x) (Some op)) s.waiting (goes (told mine).past (told mine).last s.stood hand_there).0)
              (subst (λ (x : Option (Reply I D P)). IsHonest (setting_at f) u (edges f) (data_at f) (asks f) (result f) (with_last (told mine).past (told mine).last x) (Some op)) s.waiting honest_then)

          -- so it is at a desk whose run begins alike, where its entry was added with a reply that it can have
          pub desk_served : (new : List (Entry I R D P)) → new ≡ mine ++ (record { unit = u; op = op; reply = reply }) ∷ [] → Serves new u f v' (waits_next op reply)
          desk_served new added = subst (λ (es : List (Entry I R D P)). Serves es u f v' (waits_next op reply)) (sym added) served_gives

          pub desk_own : (begins : HeldOf D) (table : List KindOf) → begins ≡ opening f → table ≡ kinds f → (new : List (Entry I R D P)) → new ≡ mine ++ (record { unit = u; op = op; reply = reply }) ∷ [] → CanReply (run_of (setting_of wants same begins table) mine) u op reply → IsOwnRun (setting_at f) u new
          desk_own begins table same_opening same_kinds new added replied =
              subst (λ (es : List (Entry I R D P)). IsOwnRun (setting_at f) u es) (sym added)
              (own_runs_grow I R D P (setting_at f) mine u op reply run served_may (in_setting wants same (λ z. CanReply (run_of z mine) u op reply) begins (opening f) table (kinds f) same_opening same_kinds replied))
