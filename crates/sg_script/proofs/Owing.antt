-- What a follower gives is what its plan owes in each graph that answers as it was told.
use Rattle.std.proofs.Common.{◌≡◌, ℕ, List, ◌∷◌, ◌++◌, true, Option, inl, inr, refl, sym, subst}
use Rattle.std.proofs.lemmas.List.Elements.{Contains-append_right, Contains-append_cases}
use Rattle.std.specs.List.{Contains}
use Rattle.sg_base.specs.declared.scope.Scope.{Scope}
use Rattle.sg_base.specs.Graph.{GraphOf}
use Rattle.sg_base.proofs.Finite.{Contains-cons}
use Rattle.sg_query.specs.declared.answer.Answer.{Answer}
use Rattle.sg_query.specs.declared.query.Query.{Query}
use Rattle.sg_query.proofs.Answering.{answers_are_one}
use Rattle.sg_reading.specs.Reading.{Reading, Gives, IsFunctional}
use Rattle.sg_reading.proofs.Readings.{Gives-more, Gives-same, Gives-ends, Asks-more}
use Rattle.sg_state.specs.declared.need.Need.{Need}
use Rattle.sg_unit.specs.declared.op.Op.{Op}
use Rattle.sg_unit.specs.declared.op.Op.TheVariants.{AddEdge, SetDatum, CloseRow, Ask, End}
use Rattle.sg_unit.specs.declared.reply.Reply.TheVariants.{Answer as Answered}
use Rattle.sg_unit.specs.Honest.{AnswersAsTold, Gave, GivesResults}
use Rattle.sg_unit.specs.Run.{Setting, asked_by}
use Rattle.sg_unit.specs.Trace.{Past}
use Rattle.sg_script.specs.declared.write.Write.{Write}
use Rattle.sg_script.specs.declared.write.Write.TheVariants.{AddEdge as Adds, SetDatum as Sets, CloseRow as Closes}
use Rattle.sg_script.specs.Following.{op_of, writes_in, MayWrite, MayFollow}
use Rattle.sg_unit.specs.Orderly.{GaveAfter, IsOrderly, WasTold}
use Rattle.sg_script.specs.Owing.{GraphAnswers, Owes, OwesEdge, OwesDatum, AsksIn, ComesTo}
use Rattle.sg_script.specs.Script.{Stage, Plan, AreApart, AreGiven, AreWrites, IsSound, place_of, gives_up}
use Rattle.sg_script.proofs.Conditions.{own_writes, own_place}
use Rattle.sg_script.proofs.Given.{in_middle, given_has, apart_one, turn_behind, wrote_did}
use Rattle.sg_unit.proofs.Pasts.{gave_after, before_in}

module _ {I R D P : Type 0} (z : Setting D P) (plan : Plan R D P) (sound : IsSound plan) (g : GraphOf D) (past : Past I R D P) (last : Option (Op I R D P)) (orderly : IsOrderly (MayFollow plan.stages plan.ending) past last) (alike : AnswersAsTold z g past) where
  abbrev In : Query P → Answer D → Type 0
  In = GraphAnswers z g

  one : IsFunctional In
  one q a b h k = answers_are_one D g (asked_by z q) a b h k

  module _ (before : Past I R D P) (op : Op I R D P) (after : GaveAfter past last before op) where
    here : (q : Query P) (a : Answer D) → WasTold before q a → In q a
    here q a t = alike q a (before_in past last before op (Ask q, Answered a) after t)

    gives_here : {U : Type 0} (r : Reading (Query P) (Answer D) U) (v : U) (qs : List (Query P)) → Gives (WasTold before) r v qs → Gives In r v qs
    gives_here r v qs k = Gives-more (WasTold before) In r v qs (λ q a c t. here q a t) k

    -- what was written before it was given
    was_given : (w : Write D) → Contains (writes_in before) w → Gave past last (op_of w)
    was_given w c = let d = wrote_did before w c in inr (d.0, before_in past last before op (op_of w, d.0) after d.1)

    owed : (w : Write D) (m : MayWrite plan.stages before w) → Owes z g plan.stages w
    owed w m = record {
      stage = m.stage;
      listed = subst (λ (l : List (Stage D P)). Contains l m.stage) (sym m.split) (in_middle m.before m.later m.stage);
      writes = m.front ++ w ∷ m.behind;
      queries = m.queries;
      gives = gives_here m.stage.rule (m.front ++ w ∷ m.behind) m.queries m.gives;
      written = in_middle m.front m.behind w;
    }

    -- where all stages were written, all that is owed was given
    all_given : AreGiven (WasTold before) plan.stages (writes_in before) → (w : Write D) → Owes z g plan.stages w → Gave past last (op_of w)
    all_given all w o =
        let k = given_has (WasTold before) plan.stages (writes_in before) o.stage all o.listed in
        let same : o.writes ≡ k.0 = (Gives-same In one o.stage.rule o.writes k.0 o.queries k.1 o.gives (gives_here o.stage.rule k.0 k.1 k.2)).0 in
        was_given w (k.3 w (subst (λ (l : List (Write D)). Contains l w) same o.written))

    -- where a place is given up, all that is owed to it was given
    closed : (w x : Write D) (m : MayWrite plan.stages before w) → gives_up w ≡ true → place_of x ≡ place_of w → (x ≡ w → ⊥) → Owes z g plan.stages x → Gave past last (op_of x)
    closed w x m up at other o =
        let mine : Contains m.stage.places (place_of w) = own_place plan sound before w m in
        let theirs = Gives-ends (AreWrites plan.opening.graph o.stage.places) In o.stage.rule o.writes o.queries (sound.each o.stage o.listed).writes o.gives in
        let placed : Contains o.stage.places (place_of w) = subst (λ (n : Need). Contains o.stage.places n) at (theirs.placed x o.written) in
        let stage : o.stage ≡ m.stage =
        apart_one m.before m.later m.stage o.stage (place_of w) (subst (λ (l : List (Stage D P)). AreApart l) m.split sound.apart) (subst (λ (l : List (Stage D P)). Contains l o.stage) m.split o.listed) mine placed in
        let there : Gives In m.stage.rule o.writes o.queries = subst (λ (s : Stage D P). Gives In s.rule o.writes o.queries) stage o.gives in
        let same : o.writes ≡ m.front ++ w ∷ m.behind = (Gives-same In one m.stage.rule o.writes (m.front ++ w ∷ m.behind) o.queries m.queries there (gives_here m.stage.rule (m.front ++ w ∷ m.behind) m.queries m.gives)).0 in
        elim (Contains-append_cases m.front (w ∷ m.behind) x (subst (λ (l : List (Write D)). Contains l x) same o.written)) [
          | inl k ↦ was_given x (subst (λ (l : List (Write D)). Contains l x) (sym m.wrote) (Contains-append_right m.earlier m.front x k))
          | inr k ↦ elim (Contains-cons w x m.behind k) [
            | inl e ↦ absurd (other e)
            | inr b ↦ absurd (turn_behind m.front m.behind x w (own_writes plan sound before w m).turns b up at)
          ]
        ]

  not_close : (s t : Scope) (l : ℕ) → (let a : Write D = Adds s l t in a ≡ Closes s l → ⊥)
  not_close s t l e = cc

  pub gives_results : (u : ℕ) → GivesResults z u (OwesEdge z plan.stages g) (OwesDatum z plan.stages g) (AsksIn z plan.stages plan.ending g) (ComesTo z plan.ending g) past last
  gives_results u = record {
    edge = λ s l t holds gave.
        let o : Op I R D P = AddEdge s l t in
        let k = gave_after past last o gave in
        owed k.0 o k.1 (Adds s l t) (orderly k.0 o k.1);
    datum = λ s d there gave.
        let o : Op I R D P = SetDatum s d in
        let k = gave_after past last o gave in
        owed k.0 o k.1 (Sets s d) (orderly k.0 o k.1);
    closed = λ s l holds gave t owes.
        let o : Op I R D P = CloseRow s l in
        let k = gave_after past last o gave in
        closed k.0 o k.1 (Closes s l) (Adds s l t) (orderly k.0 o k.1) refl refl (not_close s t l) owes;
    asked = λ q gave.
        let o : Op I R D P = Ask q in
        let k = gave_after past last o gave in
        elim (orderly k.0 o k.1) [
          | inl m ↦ inl (m.stage, subst (λ (l : List (Stage D P)). Contains l m.stage) (sym m.split) (in_middle m.before m.later m.stage), Asks-more (WasTold k.0) In m.stage.rule q (here k.0 o k.1) (m.needs).0)
          | inr m ↦ inr (Asks-more (WasTold k.0) In plan.ending q (here k.0 o k.1) (m.1).0)
        ];
    outcome = λ x gave.
        let o : Op I R D P = End x in
        let k = gave_after past last o gave in
        let m = orderly k.0 o k.1 in
        ((m.1).0, gives_here k.0 o k.1 plan.ending x (m.1).0 (m.1).1);
    ended_edges = λ x s l gave holds t owes.
        let o : Op I R D P = End x in
        let k = gave_after past last o gave in
        all_given k.0 o k.1 (orderly k.0 o k.1).0 (Adds s l t) owes;
    ended_data = λ x s d gave holds owes.
        let o : Op I R D P = End x in
        let k = gave_after past last o gave in
        all_given k.0 o k.1 (orderly k.0 o k.1).0 (Sets s d) owes;
  }
