-- A seat that answers an operation without a turn, or goes on to one.
use Rattle.std.proofs.Common.{◌≡◌, ℕ, ◌+◌, ◌<◌, ◌^◌, List, [], ◌∷◌, ◌++◌, inr, Bool, sym, ap, ◌∙◌, subst, Option, Some, None, length, append_assoc}
use Rattle.sg_unit.specs.declared.entry.Entry.{Entry}
use Rattle.sg_unit.specs.declared.op.Op.{Op}
use Rattle.sg_unit.specs.declared.reply.Reply.{Reply}
use Rattle.sg_unit.specs.Own.{own, MayBy, CanReply}
use Rattle.sg_unit.specs.Run.{Setting, run_of}
use Rattle.sg_unit.specs.Step.{IsRun}
use Rattle.sg_unit.specs.Unit.{setting_of}
use Rattle.sg_core.specs.declared.ahead.Ahead.{Ahead}
use Rattle.sg_core.specs.declared.found_ask.FoundAsk.{FoundAsk}
use Rattle.sg_core.specs.Core.{CoreOf, entry}
use Rattle.sg_core.specs.Sight.{SightOf}
use Rattle.sg_turn.specs.TurnSeat.{Known}
use Rattle.sg_broker.specs.Aside.{IsAside, AreAhead, HoldsAhead, TellsHere}
use Rattle.sg_broker.specs.Broker.{SeatOf, Adds}
use Rattle.sg_broker.proofs.Behind.{reply_here, keeps_here, legal_here, own_here, short_here, ahead_seen}
use Rattle.sg_broker.proofs.Turning.{seat_view, seat_setting}

module _ {I R D P : Type 0} (wants : P → D → Bool) (same : D → D → Bool) (t : Known (Entry I R D P) (CoreOf I R D P)) (n : ℕ) (o : Option (SightOf D)) (count : ℕ) (kept : List (Entry I R D P)) (ask : FoundAsk D) (spent : Bool)
    (s : SeatOf I R D P) (view : seat_view t n kept spent ≡ s) (aside : IsAside (seat_setting wants same t) t.seen t.mine n o count kept ask) where
  abbrev pub z : Setting D P
  z = seat_setting wants same t

  setting_is : z ≡ setting_of wants same s.opening s.kinds
  setting_is = ap (λ (x : SeatOf I R D P). setting_of wants same x.opening x.kinds) view

  module _ (op : Op I R D P) (may : MayBy (setting_of wants same s.opening s.kinds) s.mine s.number op) where
    may_here : MayBy z (t.mine ++ kept) n op
    may_here = subst (λ (x : SeatOf I R D P). MayBy (setting_of wants same x.opening x.kinds) x.mine x.number op) (sym view) may

    module _ (y : Reply I D P) (left : List (Entry I R D P)) (then : FoundAsk D) where
      aside_by : (o : Option (SightOf D)) → IsAside z t.seen t.mine n o count kept ask → TellsHere wants same o n op y kept ask left then → IsAside z t.seen t.mine n o count left then
      aside_by None a x = absurd x
      aside_by (Some v) a x =
          subst (λ (es : List (Entry I R D P)). IsAside z t.seen t.mine n (Some v) count es then) (sym x.0) (keeps_here z t.seen t.mine n v count kept ask a op y then x.1 may_here)

      -- what the seat has beside its turns then
      pub told_aside : TellsHere wants same o n op y kept ask left then → IsAside z t.seen t.mine n o count left then
      told_aside x = aside_by o aside x

      grown : left ≡ kept ++ entry n op y ∷ [] → seat_view t n left spent ≡ record (seat_view t n kept spent) { kept = kept ++ entry n op y ∷ []; mine = (t.mine ++ kept) ++ entry n op y ∷ [] }
      grown is = λ i. record { turn = t.turn; number = n; opening = z.opening; kinds = z.kinds; seen = t.seen; kept = is i; mine = (ap (λ (es : List (Entry I R D P)). t.mine ++ es) is ∙ sym (append_assoc t.mine kept (entry n op y ∷ []))) i; spent = spent }

      adds_by : (o : Option (SightOf D)) → IsAside z t.seen t.mine n o count kept ask → TellsHere wants same o n op y kept ask left then → count + length kept + 1 < 2 ^ 63 → Adds z (seat_view t n kept spent) (entry n op y) (seat_view t n left spent)
      adds_by None a x room = absurd x
      adds_by (Some v) a x room = record {
        added = inr (grown x.0);
        legal = subst (λ (es : List (Entry I R D P)). IsRun z (t.seen ++ es)) (sym x.0) (legal_here z t.seen t.mine n v count kept ask a op y then x.1 may_here);
        short = subst (λ (es : List (Entry I R D P)). length (t.seen ++ es) < 2 ^ 63) (sym x.0) (short_here z t.seen t.mine n v count kept ask a op y then x.1 may_here room);
        own = subst (λ (es : List (Entry I R D P)). own n (t.seen ++ es) ≡ t.mine ++ es) (sym x.0) (own_here z t.seen t.mine n v count kept ask a op y then x.1 may_here);
      }

      -- the event that it has more
      pub told_adds : TellsHere wants same o n op y kept ask left then → count + length kept + 1 < 2 ^ 63 → Adds (setting_of wants same s.opening s.kinds) s (entry s.number op y) (seat_view t n left spent)
      told_adds x room =
          subst (λ (v : SeatOf I R D P). Adds (setting_of wants same v.opening v.kinds) v (entry v.number op y) (seat_view t n left spent)) view (adds_by o aside x room)

      replies_by : (o : Option (SightOf D)) → IsAside z t.seen t.mine n o count kept ask → TellsHere wants same o n op y kept ask left then → CanReply (run_of z (t.mine ++ kept)) n op y
      replies_by None a x = absurd x
      replies_by (Some v) a x = reply_here z t.seen t.mine n v count kept ask a op y then x.1 may_here (run_of z (t.mine ++ kept))

      pub told_reply : TellsHere wants same o n op y kept ask left then → CanReply (run_of (setting_of wants same s.opening s.kinds) s.mine) s.number op y
      told_reply x =
          subst (λ (v : SeatOf I R D P). CanReply (run_of (setting_of wants same v.opening v.kinds) v.mine) v.number op y) view (replies_by o aside x)

  -- where it goes on to a turn
  pub still_ahead : (op p : Op I R D P) → p ≡ op → (a : Option (Ahead I D P)) → AreAhead wants same o op a → HoldsAhead z t.seen p a
  still_ahead op p e a x =
      ahead_seen z t.seen t.mine n o count kept ask p a aside (subst (λ (q : Op I R D P). AreAhead wants same o q a) (sym e) x)
