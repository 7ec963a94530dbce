-- How a follower goes on.
use Rattle.std.proofs.Common.{◌≡◌, ℕ, ◌+◌, ◌<◌, ◌≤◌, List, [], ◌∷◌, ◌++◌, ◌⊎◌, ◌↔◌, Bool, true, false, Option, Some, None, inl, inr, refl, sym, ap, ◌∙◌, subst, arith, append_assoc, length, take, drop, slice_get, IfOk, Result, Ok, Err}
use Rattle.std.proofs.lemmas.List.{append-nil, take_more, take-append-drop, drop_more, take_all}
use Rattle.std.proofs.lemmas.List.Elements.{Contains-append_left, Contains-append_right, Contains-append_cases}
use Rattle.std.proofs.lemmas.Option.{slice_get_within, get_or_from_slice_get, slice_get_cases}
use Rattle.std.specs.List.{Contains}
use Rattle.sg_base.proofs.Finite.{nothing_in, single, Contains-head}
use Rattle.sg_query.specs.declared.answer.Answer.{Answer}
use Rattle.sg_query.specs.declared.query.Query.{Query}
use Rattle.sg_reading.specs.declared.known.Known.{Known}
use Rattle.sg_reading.specs.declared.known.Known.TheVariants.{Is, Need as Lacks}
use Rattle.sg_reading.specs.Reading.{Reading, Gives, Needs}
use Rattle.sg_reading.specs.Stop.{Replied, IsKnown}
use Rattle.sg_reading.proofs.Readings.{Gives-more, Asks-more}
use Rattle.sg_unit.specs.declared.op.Op.{Op}
use Rattle.sg_unit.specs.declared.op.Op.TheVariants.{Fresh, AddEdge, SetDatum, CloseRow, Ask, Advance, Take, End}
use Rattle.sg_unit.specs.declared.reply.Reply.{Reply}
use Rattle.sg_unit.specs.declared.reply.Reply.TheVariants.{Answer as Answered}
use Rattle.sg_unit.specs.Run.{Setting}
use Rattle.sg_unit.specs.Trace.{Past, with_last, IsHanded}
use Rattle.sg_script.specs.declared.write.Write.{Write}
use Rattle.sg_script.specs.declared.write.Write.TheVariants.{AddEdge as Adds, SetDatum as Sets, CloseRow as Closes}
use Rattle.sg_script.specs.Following.{op_of, written, writes_in, asked_last, is_end, MayWrite, MayFollow, FollowsPlan}
use Rattle.sg_unit.specs.Orderly.{Did, WasTold}
use Rattle.sg_reading.specs.Replies.{AddsReply}
use Rattle.sg_script.specs.Script.{Stage, Plan, AreGiven, IsSound, ReadsStage}
use Rattle.sg_script.proofs.Given.{given_more, given_snoc, op_written, writes_append}
use Rattle.sg_unit.proofs.Pasts.{none_is_orderly, handed_orderly, next_orderly}

-- ---- a list in two ways

-- a thing of a list in two parts is in the first or in the second
pub parted : {X : Type 0} (xs ys cs ds : List X) (w : X) → xs ++ w ∷ ys ≡ cs ++ ds → ((behind : List X) × (cs ≡ xs ++ w ∷ behind)) ⊎ ((rest : List X) × (xs ≡ cs ++ rest) × (ds ≡ rest ++ w ∷ ys))
parted {X} xs ys [] ds w e = inr (xs, refl, sym e)
parted {X} [] ys (a ∷ cs) ds w e =
    let k : w ∷ ys ≡ a ∷ (cs ++ ds) = e in
    let h : w ≡ a = cc in
    inl (cs, ap (λ (i : X). i ∷ cs) (sym h))
parted {X} (x ∷ xs) ys (a ∷ cs) ds w e =
    let k : x ∷ (xs ++ w ∷ ys) ≡ a ∷ (cs ++ ds) = e in
    let h : x ≡ a = cc in
    let t : xs ++ w ∷ ys ≡ cs ++ ds = cc in
    elim (parted xs ys cs ds w t) [
      | inl m ↦ inl (m.0, ap (λ (l : List X). a ∷ l) m.1 ∙ ap (λ (i : X). i ∷ (xs ++ w ∷ m.0)) (sym h))
      | inr m ↦ inr (m.0, ap (λ (l : List X). x ∷ l) m.1 ∙ ap (λ (i : X). i ∷ (cs ++ m.0)) h, m.2)
    ]

module _ {X : Type 0} (xs : List X) (n : ℕ) (x : X) (e : slice_get xs n ≡ Some x) where
  within : n < length xs
  within = slice_get_within xs n x e

  pub split_get : xs ≡ take n xs ++ x ∷ drop (n + 1) xs
  split_get =
      sym (take-append-drop n xs) ∙ ap (λ (l : List X). take n xs ++ l) (drop_more xs n x within ∙ ap (λ (i : X). i ∷ drop (n + 1) xs) (get_or_from_slice_get xs n x x e))

  pub take_get : take (n + 1) xs ≡ take n xs ++ x ∷ []
  take_get = take_more xs n x within ∙ ap (λ (i : X). take n xs ++ i ∷ []) (get_or_from_slice_get xs n x x e)

-- ---- which stage gives a write

-- the stage that gives a write, and what is given before it
record Place {D P : Type 0} (R : Query P → Answer D → Type 0) (ss : List (Stage D P)) (xs : List (Write D)) (w : Write D) : Type 0 where
  before : List (Stage D P)
  stage : Stage D P
  later : List (Stage D P)
  split : ss ≡ before ++ stage ∷ later
  earlier : List (Write D)
  given : AreGiven R before earlier
  front : List (Write D)
  behind : List (Write D)
  queries : List (Query P)
  gives : Gives R stage.rule (front ++ w ∷ behind) queries
  wrote : xs ≡ earlier ++ front

place : {D P : Type 0} (R : Query P → Answer D → Type 0) (ss : List (Stage D P)) (all xs ys : List (Write D)) (w : Write D) → AreGiven R ss all → xs ++ w ∷ ys ≡ all → Place R ss xs w
place {D} {P} R [] all xs ys w g e = absurd (nothing_in w (subst (λ (l : List (Write D)). Contains l w) (e ∙ g) (Contains-append_right xs (w ∷ ys) w (Contains-head w ys))))
place {D} {P} R (s ∷ ss) all xs ys w g e =
    elim (parted xs ys g.0 g.1 w (e ∙ g.5)) [
      | inl m ↦ record {
        before = [];
        stage = s;
        later = ss;
        split = refl;
        earlier = [];
        given = refl;
        front = xs;
        behind = m.0;
        queries = g.2;
        gives = subst (λ (l : List (Write D)). Gives R s.rule l g.2) m.1 g.3;
        wrote = refl;
      }
      | inr m ↦
          let k = place R ss g.1 m.0 ys w g.4 (sym m.2) in record {
            before = s ∷ k.before;
            stage = k.stage;
            later = k.later;
            split = ap (λ (l : List (Stage D P)). s ∷ l) k.split;
            earlier = g.0 ++ k.earlier;
            given = (g.0, k.earlier, g.2, g.3, k.given, refl);
            front = k.front;
            behind = k.behind;
            queries = k.queries;
            gives = k.gives;
            wrote = m.1 ∙ (ap (λ (l : List (Write D)). g.0 ++ l) k.wrote ∙ sym (append_assoc g.0 k.earlier k.front));
          }
    ]

-- ---- what a write is as an operation

op_asks : (I R : Type 0) {D : Type 0} (P : Type 0) (w : Write D) → None ≡ asked_last {I = I} {R = R} {D = D} {P = P} (Some (op_of w))
op_asks I R P (Adds from label to) = refl
op_asks I R P (Sets s d) = refl
op_asks I R P (Closes s label) = refl

op_goes : (I R : Type 0) {D : Type 0} (P : Type 0) (w : Write D) → false ≡ is_end {I = I} {R = R} {D = D} {P = P} (Some (op_of w))
op_goes I R P (Adds from label to) = refl
op_goes I R P (Sets s d) = refl
op_goes I R P (Closes s label) = refl

module _ {I R D P : Type 0} where
  op_may : (stages : List (Stage D P)) (ending : Reading (Query P) (Answer D) R) (past : Past I R D P) (w : Write D) → MayWrite stages past w → MayFollow stages ending past (op_of w)
  op_may stages ending past (Adds from label to) m = m
  op_may stages ending past (Sets s d) m = m
  op_may stages ending past (Closes s label) m = m

-- ---- going on

pub starts : {I R D P : Type 0} (plan : Plan R D P) (reply : Query P → Option (Answer D)) → IsSound plan → ((q : Query P) → reply q ≡ None) → FollowsPlan {I = I} plan reply None [] 0 false [] None
starts {I} {R} {D} {P} plan reply sound empty = record {
  sound = sound;
  told = λ q a. ((λ e. absurd (let k : None ≡ Some a = sym (empty q) ∙ e in cc)), (λ c. absurd (nothing_in (Ask q, Answered a) c)));
  orderly = none_is_orderly (MayFollow plan.stages plan.ending);
  asks = refl;
  over = refl;
  all = [];
  given = refl;
  wrote = refl;
  going = λ x d. nothing_in (End x, d.0) d.1;
}

module _ {I R D P : Type 0} (plan : Plan R D P) (reply : Query P → Option (Answer D)) (n : ℕ) (past : Past I R D P) where
  -- it gives the next write of a stage
  pub gives_write : (asked : Option (Query P)) (ended : Bool) (pending rest : List (Write D)) (w : Write D) (op : Op I R D P) → pending ≡ w ∷ rest → op ≡ op_of w → FollowsPlan plan reply asked pending n ended past None → FollowsPlan plan reply asked rest n ended past (Some op)
  gives_write asked ended pending rest w op e same f =
      let here : writes_in past ++ w ∷ rest ≡ f.all = ap (λ (l : List (Write D)). l ++ w ∷ rest) (sym (append-nil (writes_in past))) ∙ (ap (λ (l : List (Write D)). (writes_in past ++ []) ++ l) (sym e) ∙ f.wrote) in
      let k = place (WasTold past) (take n plan.stages) f.all (writes_in past) rest w f.given here in
      let m : MayWrite plan.stages past w = record {
        before = k.before;
        stage = k.stage;
        later = k.later ++ drop n plan.stages;
        split = sym (take-append-drop n plan.stages) ∙ (ap (λ (l : List (Stage D P)). l ++ drop n plan.stages) k.split ∙ append_assoc k.before (k.stage ∷ k.later) (drop n plan.stages));
        earlier = k.earlier;
        given = k.given;
        front = k.front;
        behind = k.behind;
        queries = k.queries;
        gives = k.gives;
        wrote = k.wrote;
      } in
      let goes : FollowsPlan plan reply asked rest n ended past (Some (op_of w)) = record {
        sound = f.sound;
        told = f.told;
        orderly = next_orderly (MayFollow plan.stages plan.ending) past (op_of w) f.orderly (op_may plan.stages plan.ending past w m);
        asks = f.asks ∙ op_asks I R P w;
        over = f.over ∙ op_goes I R P w;
        all = f.all;
        given = f.given;
        wrote = ap (λ (l : List (Write D)). (writes_in past ++ l) ++ rest) (op_written I R P w) ∙ (append_assoc (writes_in past) (w ∷ []) rest ∙ here);
        going = f.going;
      } in
      subst (λ (o : Op I R D P). FollowsPlan plan reply asked rest n ended past (Some o)) (sym same) goes

  gives_told : {U : Type 0} (r : Reading (Query P) (Answer D) U) (v : U) (f : (q : Query P) (a : Answer D) → (Replied reply q a) ↔ (WasTold past q a)) → IsKnown reply r (Is v) → (qs : List (Query P)) × Gives (WasTold past) r v qs
  gives_told r v f k = (k.0, Gives-more (Replied reply) (WasTold past) r v k.0 (λ q a c e. (f q a).0 e) k.1)

  needs_told : {U : Type 0} (r : Reading (Query P) (Answer D) U) (q : Query P) (f : (q : Query P) (a : Answer D) → (Replied reply q a) ↔ (WasTold past q a)) → IsKnown reply r (Lacks q) → Needs (WasTold past) r q
  needs_told r q f k = (Asks-more (Replied reply) (WasTold past) r q (λ p a e. (f p a).0 e) k.0, λ a t. k.1 a ((f q a).1 t))

  module _ (asked : Option (Query P)) (ended : Bool) (pending : List (Write D)) (idle : pending ≡ []) (f : FollowsPlan plan reply asked pending n ended past None) where
    -- all that the stages gave is written
    wrote_with : (ws : List (Write D)) → (writes_in past ++ []) ++ ws ≡ f.all ++ ws
    wrote_with ws = ap (λ (l : List (Write D)). l ++ ws) (sym (append-nil (writes_in past ++ [])) ∙ (ap (λ (l : List (Write D)). (writes_in past ++ []) ++ l) (sym idle) ∙ f.wrote))

    all_wrote : writes_in past ≡ f.all
    all_wrote = sym (append-nil (writes_in past)) ∙ (sym (append-nil (writes_in past ++ [])) ∙ (wrote_with [] ∙ append-nil f.all))

    -- it has read the next stage
    pub reads_stage : (s : Stage D P) (ws : List (Write D)) → slice_get plan.stages n ≡ Some s → IsKnown reply s.rule (Is ws) → FollowsPlan plan reply asked ws (n + 1) ended past None
    reads_stage s ws at k =
        let g = gives_told s.rule ws f.told k in record {
          sound = f.sound;
          told = f.told;
          orderly = f.orderly;
          asks = f.asks;
          over = f.over;
          all = f.all ++ ws;
          given = subst (λ (l : List (Stage D P)). AreGiven (WasTold past) l (f.all ++ ws)) (sym (take_get plan.stages n s at)) (given_snoc (WasTold past) (take n plan.stages) s f.all ws g.0 f.given g.1);
          wrote = wrote_with ws;
          going = f.going;
        }

    -- it asks
    asks_next : (q : Query P) (now : Option (Query P)) (op : Op I R D P) → now ≡ Some q → op ≡ Ask q → MayFollow plan.stages plan.ending past (Ask q) → FollowsPlan plan reply now pending n ended past (Some op)
    asks_next q now op e same m =
        let goes : FollowsPlan plan reply now pending n ended past (Some (Ask q)) = record {
          sound = f.sound;
          told = f.told;
          orderly = next_orderly (MayFollow plan.stages plan.ending) past (Ask q) f.orderly m;
          asks = e;
          over = f.over;
          all = f.all;
          given = f.given;
          wrote = f.wrote;
          going = f.going;
        } in
        subst (λ (o : Op I R D P). FollowsPlan plan reply now pending n ended past (Some o)) (sym same) goes

    pub asks_in_stage : (s : Stage D P) (q : Query P) (now : Option (Query P)) (op : Op I R D P) → now ≡ Some q → op ≡ Ask q → slice_get plan.stages n ≡ Some s → IsKnown reply s.rule (Lacks q) → FollowsPlan plan reply now pending n ended past (Some op)
    asks_in_stage s q now op e same at k = asks_next q now op e same (inl (record {
      before = take n plan.stages;
      stage = s;
      later = drop (n + 1) plan.stages;
      split = split_get plan.stages n s at;
      earlier = f.all;
      given = f.given;
      wrote = all_wrote;
      needs = needs_told s.rule q f.told k;
    }))

    module _ (over : length plan.stages ≤ n) where
      wrote_all : AreGiven (WasTold past) plan.stages (writes_in past)
      wrote_all =
          subst (λ (ws : List (Write D)). AreGiven (WasTold past) plan.stages ws) (sym all_wrote) (subst (λ (ss : List (Stage D P)). AreGiven (WasTold past) ss f.all) (take_all n plan.stages over) f.given)

      pub asks_last : (q : Query P) (now : Option (Query P)) (op : Op I R D P) → now ≡ Some q → op ≡ Ask q → IsKnown reply plan.ending (Lacks q) → FollowsPlan plan reply now pending n ended past (Some op)
      asks_last q now op e same k = asks_next q now op e same (inr (wrote_all, needs_told plan.ending q f.told k))

      pub ends : (x : R) → IsKnown reply plan.ending (Is x) → FollowsPlan plan reply asked pending n true past (Some (End x))
      ends x k = record {
        sound = f.sound;
        told = f.told;
        orderly = next_orderly (MayFollow plan.stages plan.ending) past (End x) f.orderly (wrote_all, gives_told plan.ending x f.told k);
        asks = f.asks;
        over = refl;
        all = f.all;
        given = f.given;
        wrote = f.wrote;
        going = f.going;
      }

-- ---- handing

module _ {I R D P : Type 0} (z : Setting D P) (plan : Plan R D P) (pending : List (Write D)) (n : ℕ) (ended : Bool) (past : Past I R D P) where
  not_ended : (x : R) (given : Option (Op I R D P)) (y : Reply I D P) → (let o : Op I R D P = End x in given ≡ Some o) → IsHanded z plan.unit past given (Some y) → ⊥
  not_ended x given y e h = subst (λ (o : Option (Op I R D P)). IsHanded z plan.unit past o (Some y)) e h

  module _ (op : Op I R D P) (y : Reply I D P) (h : IsHanded z plan.unit past (Some op) (Some y)) where
    abbrev longer : Past I R D P
    longer = past ++ (op, y) ∷ []

    goes_on : ((x : R) → Did past (End x) → ⊥) → (x : R) → Did longer (End x) → ⊥
    goes_on going x d =
        elim (Contains-append_cases past ((op, y) ∷ []) (End x, d.0) d.1) [
          | inl m ↦ going x (d.0, m)
          | inr m ↦ not_ended x (Some op) y (ap (λ (i : Op I R D P × Reply I D P). Some i.0) (sym (single (op, y) (End x, d.0) m))) h
        ]

    -- the unit is handed a reply and knows these
    hands : (old new : Query P → Option (Answer D)) (asked : Option (Query P)) → ((q : Query P) (a : Answer D) → (Replied new q a) ↔ (WasTold longer q a)) → is_end (Some op) ≡ false → FollowsPlan plan old asked pending n ended past (Some op) → FollowsPlan plan new None pending n ended longer None
    hands old new asked told goes f = record {
      sound = f.sound;
      told = told;
      orderly = handed_orderly (MayFollow plan.stages plan.ending) z plan.unit past (Some op) (Some y) f.orderly h;
      asks = refl;
      over = f.over ∙ goes;
      all = f.all;
      given = given_more (WasTold past) (WasTold longer) (λ q a c. Contains-append_left past ((op, y) ∷ []) (Ask q, Answered a) c) (take n plan.stages) f.all f.given;
      wrote = ap (λ (l : List (Write D)). l ++ pending) (append-nil (writes_in longer) ∙ (writes_append past ((op, y) ∷ []) ∙ ap (λ (l : List (Write D)). writes_in past ++ l) (append-nil (written op)))) ∙ f.wrote;
      going = goes_on f.going;
    }

  goes : (op : Op I R D P) (y : Reply I D P) → IsHanded z plan.unit past (Some op) (Some y) → is_end (Some op) ≡ false
  goes (Fresh labels datum) y h = refl
  goes (AddEdge from label to) y h = refl
  goes (SetDatum s d) y h = refl
  goes (CloseRow s label) y h = refl
  goes (Ask q) y h = refl
  goes Advance y h = refl
  goes Take y h = refl
  goes (End x) y h = absurd h

  -- a reply to something else than an ask tells no answer
  not_ask : (op : Op I R D P) (y : Reply I D P) (q : Query P) (a : Answer D) → None ≡ asked_last (Some op) → Contains {X = Op I R D P × Reply I D P} ((op, y) ∷ []) (Ask q, Answered a) → ⊥
  not_ask op y q a e c =
      let k : Ask q ≡ op = ap (λ (i : Op I R D P × Reply I D P). i.0) (single (op, y) (Ask q, Answered a) c) in
      let m : None ≡ asked_last {I = I} {R = R} {D = D} {P = P} (Some (Ask q)) = subst (λ (o : Op I R D P). None ≡ asked_last (Some o)) (sym k) e in
      let l : None ≡ Some q = m in
      cc

  pub hands_done : (reply : Query P → Option (Answer D)) (given : Option (Op I R D P)) (y : Option (Reply I D P)) → IsHanded z plan.unit past given y → FollowsPlan plan reply None pending n ended past given → FollowsPlan plan reply None pending n ended (with_last past given y) None
  hands_done reply None y h f = f
  hands_done reply (Some op) None h f = absurd h
  hands_done reply (Some op) (Some y) h f =
      hands op y h reply reply None (λ q a. (
        (λ e. Contains-append_left past ((op, y) ∷ []) (Ask q, Answered a) ((f.told q a).0 e)),
        (λ c. elim (Contains-append_cases past ((op, y) ∷ []) (Ask q, Answered a) c) [ inl m ↦ (f.told q a).1 m | inr m ↦ absurd (not_ask op y q a f.asks m) ]),
      )) (goes op y h) f

  told_more : (old new : Query P → Option (Answer D)) (q : Query P) (a : Answer D) → AddsReply old new q a → ((p : Query P) (b : Answer D) → (Replied old p b) ↔ (WasTold past p b)) → (p : Query P) (b : Answer D) → (Replied new p b) ↔ (WasTold (past ++ (Ask q, Answered a) ∷ []) p b)
  told_more old new q a adds told p b = (
    (λ e. elim ((adds p b).0 e) [
      | inl o ↦ Contains-append_left past ((Ask q, Answered a) ∷ []) (Ask p, Answered b) ((told p b).0 o)
      | inr o ↦
          Contains-append_right past ((Ask q, Answered a) ∷ []) (Ask p, Answered b)
          (subst (λ (i : Query P). Contains {X = Op I R D P × Reply I D P} ((Ask q, Answered a) ∷ []) (Ask i, Answered b)) (sym o.0) (subst (λ (i : Answer D). Contains {X = Op I R D P × Reply I D P} ((Ask q, Answered a) ∷ []) (Ask q, Answered i)) (sym o.1) (Contains-head (Ask q, Answered a) [])))
    ]),
    (λ c. elim (Contains-append_cases past ((Ask q, Answered a) ∷ []) (Ask p, Answered b) c) [
      | inl m ↦ (adds p b).1 (inl ((told p b).1 m))
      | inr m ↦
          let e = single (Ask q, Answered a) (Ask p, Answered b) m in
          let o : Ask p ≡ Ask q = ap (λ (i : Op I R D P × Reply I D P). i.0) e in
          let r : Answered b ≡ Answered a = ap (λ (i : Op I R D P × Reply I D P). i.1) e in
          (adds p b).1 (inr (cc, cc))
    ]),
  )

  pub hands_answer : (old new : Query P → Option (Answer D)) (q : Query P) (given : Option (Op I R D P)) (a : Answer D) → AddsReply old new q a → IsHanded z plan.unit past given (Some (Answered a)) → FollowsPlan plan old (Some q) pending n ended past given → FollowsPlan plan new None pending n ended (with_last past given (Some (Answered a))) None
  hands_answer old new q None a adds h f = absurd (let e : Some q ≡ None = f.asks in cc)
  hands_answer old new q (Some (Ask p)) a adds h f =
      let e : Some q ≡ Some p = f.asks in
      let same : q ≡ p = cc in
      hands (Ask p) (Answered a) h old new (Some q) (told_more old new p a (subst (λ (i : Query P). AddsReply old new i a) same adds) f.told) refl f
  hands_answer old new q (Some (Fresh labels datum)) a adds h f = absurd (let e : Some q ≡ None = f.asks in cc)
  hands_answer old new q (Some (AddEdge from label to)) a adds h f = absurd (let e : Some q ≡ None = f.asks in cc)
  hands_answer old new q (Some (SetDatum s d)) a adds h f = absurd (let e : Some q ≡ None = f.asks in cc)
  hands_answer old new q (Some (CloseRow s label)) a adds h f = absurd (let e : Some q ≡ None = f.asks in cc)
  hands_answer old new q (Some Advance) a adds h f = absurd (let e : Some q ≡ None = f.asks in cc)
  hands_answer old new q (Some Take) a adds h f = absurd (let e : Some q ≡ None = f.asks in cc)
  hands_answer old new q (Some (End x)) a adds h f = absurd (let e : Some q ≡ None = f.asks in cc)

  -- a unit that asked is handed an answer
  pub is_answer : (reply : Query P → Option (Answer D)) (q : Query P) (given : Option (Op I R D P)) (y : Option (Reply I D P)) → IsHanded z plan.unit past given y → FollowsPlan plan reply (Some q) pending n ended past given → (a : Answer D) × (y ≡ Some (Answered a))
  is_answer reply q None y h f = absurd (let e : Some q ≡ None = f.asks in cc)
  is_answer reply q (Some op) None h f = absurd h
  is_answer reply q (Some (Ask p)) (Some y) h f = (h.0, ap (λ (i : Reply I D P). Some i) h.1)
  is_answer reply q (Some (Fresh labels datum)) (Some y) h f = absurd (let e : Some q ≡ None = f.asks in cc)
  is_answer reply q (Some (AddEdge from label to)) (Some y) h f = absurd (let e : Some q ≡ None = f.asks in cc)
  is_answer reply q (Some (SetDatum s d)) (Some y) h f = absurd (let e : Some q ≡ None = f.asks in cc)
  is_answer reply q (Some (CloseRow s label)) (Some y) h f = absurd (let e : Some q ≡ None = f.asks in cc)
  is_answer reply q (Some Advance) (Some y) h f = absurd (let e : Some q ≡ None = f.asks in cc)
  is_answer reply q (Some Take) (Some y) h f = absurd (let e : Some q ≡ None = f.asks in cc)
  is_answer reply q (Some (End x)) (Some y) h f = absurd h

  -- the query that it asked has no reply
  pub not_replied : (reply : Query P → Option (Answer D)) (q : Query P) (given : Option (Op I R D P)) (asks : Some q ≡ asked_last given) → FollowsPlan plan reply (Some q) pending n ended past given → (a : Answer D) → reply q ≡ Some a → ⊥
  not_replied reply q None asks f a e = absurd (let k : Some q ≡ None = asks in cc)
  not_replied reply q (Some (Ask p)) asks f a e =
      let k : Some q ≡ Some p = asks in
      let same : q ≡ p = cc in
      let t : WasTold past p a = subst (λ (i : Query P). WasTold past i a) same ((f.told q a).0 e) in
      elim (f.orderly past (Ask p) (inl (refl, refl))) [ inl m ↦ (m.needs).1 a t | inr m ↦ (m.1).1 a t ]
  not_replied reply q (Some (Fresh labels datum)) asks f a e = absurd (let k : Some q ≡ None = asks in cc)
  not_replied reply q (Some (AddEdge from label to)) asks f a e = absurd (let k : Some q ≡ None = asks in cc)
  not_replied reply q (Some (SetDatum s d)) asks f a e = absurd (let k : Some q ≡ None = asks in cc)
  not_replied reply q (Some (CloseRow s label)) asks f a e = absurd (let k : Some q ≡ None = asks in cc)
  not_replied reply q (Some Advance) asks f a e = absurd (let k : Some q ≡ None = asks in cc)
  not_replied reply q (Some Take) asks f a e = absurd (let k : Some q ≡ None = asks in cc)
  not_replied reply q (Some (End x)) asks f a e = absurd (let k : Some q ≡ None = asks in cc)

-- ---- the steps of a call

pub if_ok : {X E : Type 0} (r : Result X E) (A B : X → Type 0) → IfOk r A → ((x : X) → A x → B x) → IfOk r B
if_ok (Ok x) A B h f = f x h
if_ok (Err e) A B h f = tt

-- a stage that a number names
stage_at : {X : Type 0} (xs : List X) (n : ℕ) → n < length xs → (x : X) × (slice_get xs n ≡ Some x)
stage_at xs n b = elim (slice_get_cases xs n).1 [ inl k ↦ (k.0, k.2) | inr k ↦ absurd (let l = k.0 in omega (arith, l, b)) ]

pub starts_with : {I R D P : Type 0} (plan : Plan R D P) (reply : Query P → Option (Answer D)) (pending : List (Write D)) → pending ≡ [] → IsSound plan → ((q : Query P) → reply q ≡ None) → FollowsPlan {I = I} plan reply None pending 0 false [] None
starts_with {I} plan reply pending e sound empty = rw e (starts plan reply sound empty)

module _ {S I R D P : Type 0} (plan : S → Plan R D P) (reply : S → Query P → Option (Answer D)) (s : S) (pending : List (Write D)) (ended : Bool) (past : Past I R D P) where
  pub moved : (t : S) (asked now : Option (Query P)) (rest : List (Write D)) (n k : ℕ) (over : Bool) (last : Option (Op I R D P)) → t ≡ s → now ≡ asked → rest ≡ pending → k ≡ n → over ≡ ended → FollowsPlan (plan s) (reply s) asked pending n ended past last → FollowsPlan (plan t) (reply t) now rest k over past last
  moved t asked now rest n k over last e1 e2 e3 e4 e5 f = rw (e1, e2, e3, e4, e5) f

  module _ (m : S) (same : m ≡ s) (asked : Option (Query P)) (idle : pending ≡ []) (n : ℕ) (f : FollowsPlan (plan s) (reply s) asked pending n ended past None) where
    at_s : (known : Known (List (Write D)) (Query P)) → ReadsStage (reply m) (plan m).stages n known → ReadsStage (reply s) (plan s).stages n known
    at_s known r = subst (λ (x : S). ReadsStage (reply x) (plan x).stages n known) same r

    pub step_asks : (known : Known (List (Write D)) (Query P)) (q : Query P) (now : Option (Query P)) (op : Op I R D P) → n < length (plan s).stages → ReadsStage (reply m) (plan m).stages n known → known ≡ Lacks q → now ≡ Some q → op ≡ Ask q → FollowsPlan (plan s) (reply s) now pending n ended past (Some op)
    step_asks known q now op b r e k o =
        let t = stage_at (plan s).stages n b in
        asks_in_stage (plan s) (reply s) n past asked ended pending idle f t.0 q now op k o t.1 (subst (λ (i : Known (List (Write D)) (Query P)). IsKnown (reply s) (t.0).rule i) e (at_s known r t.0 t.1))

    pub step_reads : (known : Known (List (Write D)) (Query P)) (ws : List (Write D)) → n < length (plan s).stages → ReadsStage (reply m) (plan m).stages n known → known ≡ Is ws → FollowsPlan (plan s) (reply s) asked ws (n + 1) ended past None
    step_reads known ws b r e =
        let t = stage_at (plan s).stages n b in
        reads_stage (plan s) (reply s) n past asked ended pending idle f t.0 ws t.1 (subst (λ (i : Known (List (Write D)) (Query P)). IsKnown (reply s) (t.0).rule i) e (at_s known r t.0 t.1))

    -- a stage that writes nothing is passed by
    pub step_passes : (known : Known (List (Write D)) (Query P)) (ws : List (Write D)) → n < length (plan s).stages → ReadsStage (reply m) (plan m).stages n known → known ≡ Is ws → ws ≡ [] → FollowsPlan (plan s) (reply s) asked pending (n + 1) ended past None
    step_passes known ws b r e none = subst (λ (l : List (Write D)). FollowsPlan (plan s) (reply s) asked l (n + 1) ended past None) (none ∙ sym idle) (step_reads known ws b r e)

    pub step_writes : (known : Known (List (Write D)) (Query P)) (ws rest : List (Write D)) (w : Write D) (op : Op I R D P) → n < length (plan s).stages → ReadsStage (reply m) (plan m).stages n known → known ≡ Is ws → ws ≡ w ∷ rest → op ≡ op_of w → FollowsPlan (plan s) (reply s) asked rest (n + 1) ended past (Some op)
    step_writes known ws rest w op b r e k o = gives_write (plan s) (reply s) (n + 1) past asked ended ws rest w op k o (step_reads known ws b r e)

    module _ (k : ℕ) (over : length (plan s).stages ≤ n) (far : length (plan s).stages ≤ k) where
      beyond : FollowsPlan (plan s) (reply s) asked pending k ended past None
      beyond = record {
        sound = f.sound;
        told = f.told;
        orderly = f.orderly;
        asks = f.asks;
        over = f.over;
        all = f.all;
        given = subst (λ (l : List (Stage D P)). AreGiven (WasTold past) l f.all) (take_all n (plan s).stages over ∙ sym (take_all k (plan s).stages far)) f.given;
        wrote = f.wrote;
        going = f.going;
      }

      at_end : (known : Known R (Query P)) → IsKnown (reply m) (plan m).ending known → IsKnown (reply s) (plan s).ending known
      at_end known r = subst (λ (x : S). IsKnown (reply x) (plan x).ending known) same r

      pub step_asks_last : (known : Known R (Query P)) (q : Query P) (now : Option (Query P)) (op : Op I R D P) → IsKnown (reply m) (plan m).ending known → known ≡ Lacks q → now ≡ Some q → op ≡ Ask q → FollowsPlan (plan s) (reply s) now pending k ended past (Some op)
      step_asks_last known q now op r e h o =
          asks_last (plan s) (reply s) k past asked ended pending idle beyond far q now op h o (subst (λ (i : Known R (Query P)). IsKnown (reply s) (plan s).ending i) e (at_end known r))

      pub step_ends : (known : Known R (Query P)) (x : R) → IsKnown (reply m) (plan m).ending known → known ≡ Is x → FollowsPlan (plan s) (reply s) asked pending k true past (Some (End x))
      step_ends known x r e = ends (plan s) (reply s) k past asked ended pending idle beyond far x (subst (λ (i : Known R (Query P)). IsKnown (reply s) (plan s).ending i) e (at_end known r))
