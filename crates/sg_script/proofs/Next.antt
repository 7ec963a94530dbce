-- A call of a follower: it stands for the longer trace, and gave what it owes.
use Rattle.std.proofs.Common.{◌≡◌, ℕ, ◌<◌, List, Bool, Option, Some, None, inl, inr, refl, sym, subst, arith, length, IfOk, Result, Ok, Err}
use Rattle.std.specs.List.{Contains}
use Rattle.sg_query.specs.declared.answer.Answer.{Answer}
use Rattle.sg_query.specs.declared.query.Query.{Query}
use Rattle.sg_reading.proofs.Readings.{Asks-kind}
use Rattle.sg_unit.specs.declared.op.Op.{Op}
use Rattle.sg_unit.specs.declared.op.Op.TheVariants.{Fresh, AddEdge, SetDatum, CloseRow, Ask, Advance, Take, End}
use Rattle.sg_unit.specs.declared.reply.Reply.{Reply}
use Rattle.sg_unit.specs.declared.reply.Reply.TheVariants.{Answer as Answered}
use Rattle.sg_unit.specs.Run.{Setting}
use Rattle.sg_unit.specs.Trace.{Past, with_last, IsHanded}
use Rattle.sg_unit.specs.Unit.{GoesOn, GivesOwed}
use Rattle.sg_script.specs.declared.write.Write.{Write}
use Rattle.sg_script.specs.Following.{asked_last, MayFollow, FollowsPlan, steps_left}
use Rattle.sg_unit.specs.Orderly.{IsOrderly, WasTold}
use Rattle.sg_script.specs.Owing.{OwesEdge, OwesDatum, AsksIn, ComesTo}
use Rattle.sg_reading.specs.Replies.{AddsReply}
use Rattle.sg_script.specs.Script.{Stage, Plan, IsQuery, setting_by}
use Rattle.sg_script.proofs.Conditions.{are_plain, may_give}
use Rattle.sg_script.proofs.Following.{hands_done, hands_answer, is_answer, not_replied}
use Rattle.sg_script.proofs.Given.{in_middle}
use Rattle.sg_script.proofs.Left.{falls_put}
use Rattle.sg_script.proofs.Owing.{gives_results}

none_of : {A : Type 0} (o : Option A) → ((a : A) → o ≡ Some a → ⊥) → o ≡ None
none_of None h = refl
none_of (Some a) h = absurd (h a refl)

module _ {I R D P : Type 0} (z : Setting D P) (plan : Plan R D P) (reply : Query P → Option (Answer D)) (pending : List (Write D)) (n : ℕ) (ended : Bool) (past : Past I R D P) (given : Option (Op I R D P)) where
  -- a unit that asks nothing
  pub next_done : (asked now : Option (Query P)) (last : Option (Reply I D P)) → asked ≡ None → now ≡ None → IsHanded z plan.unit past given last → FollowsPlan plan reply asked pending n ended past given → FollowsPlan plan reply now pending n ended (with_last past given last) None
  next_done asked now last e k h f =
      rw k (hands_done z plan pending n ended past reply given last h (subst (λ (o : Option (Query P)). FollowsPlan plan reply o pending n ended past given) e f))

  module _ (asked : Option (Query P)) (q : Query P) (asks : asked ≡ Some q) (f : FollowsPlan plan reply asked pending n ended past given) where
    asked_q : FollowsPlan plan reply (Some q) pending n ended past given
    asked_q = subst (λ (o : Option (Query P)). FollowsPlan plan reply o pending n ended past given) asks f

    pub next_answer : (new : Query P → Option (Answer D)) (now : Option (Query P)) (last : Option (Reply I D P)) (a : Answer D) → now ≡ None → last ≡ Some (Answered a) → AddsReply reply new q a → IsHanded z plan.unit past given last → FollowsPlan plan new now pending n ended (with_last past given last) None
    next_answer new now last a k e adds h =
        let there : IsHanded z plan.unit past given (Some (Answered a)) = subst (λ (y : Option (Reply I D P)). IsHanded z plan.unit past given y) e h in
        rw (k, e) (hands_answer z plan pending n ended past reply new q given a adds there asked_q)

    pub next_first : reply q ≡ None
    next_first = none_of (reply q) (λ a e. not_replied z plan pending n ended past reply q given asked_q.asks asked_q a e)

    pub next_answered : (last : Option (Reply I D P)) → IsHanded z plan.unit past given last → (a : Answer D) × (last ≡ Some (Answered a))
    next_answered last h = is_answer z plan pending n ended past reply q given last h asked_q

    -- it asked one of the plan's queries
    is_query : (g : Option (Op I R D P)) → Some q ≡ asked_last g → IsOrderly (MayFollow plan.stages plan.ending) past g → IsQuery plan q
    is_query None e o = absurd (let k : Some q ≡ None = e in cc)
    is_query (Some (Ask p)) e o =
        let k : Some q ≡ Some p = e in
        let same : p ≡ q = cc in
        subst (λ (i : Query P). IsQuery plan i) same (elim (o past (Ask p) (inl (refl, refl))) [
          | inl m ↦ Asks-kind (IsQuery plan) (WasTold past) (m.stage).rule p (f.sound.each m.stage (subst (λ (l : List (Stage D P)). Contains l m.stage) (sym m.split) (in_middle m.before m.later m.stage))).asks (m.needs).0
          | inr m ↦ Asks-kind (IsQuery plan) (WasTold past) plan.ending p (f.sound).asks (m.1).0
        ])
    is_query (Some (Fresh labels datum)) e o = absurd (let k : Some q ≡ None = e in cc)
    is_query (Some (AddEdge from label to)) e o = absurd (let k : Some q ≡ None = e in cc)
    is_query (Some (SetDatum s d)) e o = absurd (let k : Some q ≡ None = e in cc)
    is_query (Some (CloseRow s label)) e o = absurd (let k : Some q ≡ None = e in cc)
    is_query (Some Advance) e o = absurd (let k : Some q ≡ None = e in cc)
    is_query (Some Take) e o = absurd (let k : Some q ≡ None = e in cc)
    is_query (Some (End x)) e o = absurd (let k : Some q ≡ None = e in cc)

    pub next_falls : (new : Query P → Option (Answer D)) (now : Option (Query P)) (a : Answer D) (m : ℕ) → now ≡ None → AddsReply reply new q a → m < steps_left plan new now (length pending) n ended → m < steps_left plan reply asked (length pending) n ended
    next_falls new now a m e adds l =
        let fall = falls_put plan reply new q a (length pending) n ended (is_query given asked_q.asks f.orderly) adds next_first in
        let there : m < steps_left plan new None (length pending) n ended = subst (λ (o : Option (Query P)). m < steps_left plan new o (length pending) n ended) e l in
        let whole : m < steps_left plan reply (Some q) (length pending) n ended = below m (steps_left plan new None (length pending) n ended) (steps_left plan reply (Some q) (length pending) n ended) there fall in
        subst (λ (o : Option (Query P)). m < steps_left plan reply o (length pending) n ended) (sym asks) whole
      where
        below : (a b c : ℕ) → a < b → b < c → a < c
        below a b c h k = omega (arith, h, k)

-- ---- what a call gives

module _ {S I R D P : Type 0} (plan : S → Plan R D P) (reply : S → Query P → Option (Answer D)) (ready : S → Type 0) (wants : P → D → Bool) (same : D → D → Bool) where
  abbrev Stands : S → Option (Query P) → List (Write D) → ℕ → Bool → Past I R D P → Option (Op I R D P) → Type 0
  Stands s asked pending n ended past last = FollowsPlan (plan s) (reply s) asked pending n ended past last × ready s

  module _ (s t : S) (kept : plan t ≡ plan s) (is_ready : ready t) (asked now : Option (Query P)) (pending rest : List (Write D)) (n k : ℕ) (ended over : Bool) (last : Option (Reply I D P)) where
    abbrev z : Setting D P
    z = setting_by wants same (plan s)

    abbrev Goes : {E : Type 0} → Result (Op I R D P) E → Type 0
    Goes r =
        (past : Past I R D P) (given : Option (Op I R D P)) → FollowsPlan (plan s) (reply s) asked pending n ended past given → IsHanded z (plan s).unit past given last
        → IfOk r (λ op. FollowsPlan (plan t) (reply t) now rest k over (with_last past given last) (Some op))

    -- after a call that gave this operation
    abbrev GoesTo : Op I R D P → Type 0
    GoesTo op =
        (past : Past I R D P) (given : Option (Op I R D P)) → FollowsPlan (plan s) (reply s) asked pending n ended past given → IsHanded z (plan s).unit past given last → FollowsPlan (plan t) (reply t) now rest k over (with_last past given last) (Some op)

    new : (past : Past I R D P) (op : Op I R D P) → FollowsPlan (plan t) (reply t) now rest k over past (Some op) → FollowsPlan (plan s) (reply t) now rest k over past (Some op)
    new past op f = subst (λ (p : Plan R D P). FollowsPlan p (reply t) now rest k over past (Some op)) kept f

    pub op_gives : (op : Op I R D P) → GoesTo op → GoesOn z (plan s).unit (Stands s asked pending n ended) (Stands t now rest k over) last op
    op_gives op goes past given st h =
        let f = goes past given st.0 h in
        let e = new (with_last past given last) op f in
        let plain = are_plain (plan s) (e.sound) (with_last past given last) (Some op) e.orderly e.going in
        ((f, is_ready), may_give (plan s) (e.sound) wants same (with_last past given last) plain op (e.orderly (with_last past given last) op (inl (refl, refl))))

    pub op_owes : (op : Op I R D P) → GoesTo op → GivesOwed z (plan s).unit (OwesEdge z (plan s).stages) (OwesDatum z (plan s).stages) (AsksIn z (plan s).stages (plan s).ending) (ComesTo z (plan s).ending) (Stands s asked pending n ended) last op
    op_owes op goes past given g st h alike =
        let e = new (with_last past given last) op (goes past given st.0 h) in
        gives_results z (plan s) (e.sound) g (with_last past given last) (Some op) e.orderly alike (plan s).unit

    pub call_gives : {E : Type 0} (r : Result (Op I R D P) E) → Goes r → IfOk r (GoesOn z (plan s).unit (Stands s asked pending n ended) (Stands t now rest k over) last)
    call_gives (Err e) goes = tt
    call_gives (Ok op) goes = op_gives op goes

    pub call_owes : {E : Type 0} (r : Result (Op I R D P) E) → Goes r → IfOk r (GivesOwed z (plan s).unit (OwesEdge z (plan s).stages) (OwesDatum z (plan s).stages) (AsksIn z (plan s).stages (plan s).ending) (ComesTo z (plan s).ending) (Stands s asked pending n ended) last)
    call_owes (Err e) goes = tt
    call_owes (Ok op) goes = op_owes op goes
