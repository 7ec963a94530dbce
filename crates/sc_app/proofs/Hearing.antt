-- What a unit heard is what it was told.
use Rattle.std.proofs.Common.{◌≡◌, ◌==◌, ◌&&◌, ◌⊎◌, Bool, true, false, cond, eqb, List, [], ◌∷◌, ◌++◌, Option, Some, None, Result, Ok, Err, IfOk, ℕ, ◌+◌, ◌<◌, length, take, get_or, inl, inr, refl, sym, ap, ◌∙◌, subst}
use Rattle.std.specs.List.{Contains}
use Rattle.std.proofs.lemmas.List.{take_more}
use Rattle.std.proofs.lemmas.List.Elements.{Contains-append_left, Contains-push, Contains-push_cases, filter-append}
use Rattle.sg_base.specs.Scope.{is_scope}
use Rattle.sg_base.proofs.Scopes.{both_true, number_itself, number_same, same_scope, scope_same}
use Rattle.sg_query.specs.declared.answer.Answer.{Answer}
use Rattle.sg_query.specs.declared.query.Query.{Query}
use Rattle.sg_reading.specs.Replies.{reply_of}
use Rattle.sg_script.specs.Following.{asked_last}
use Rattle.sg_unit.specs.declared.op.Op.TheVariants.{Fresh, AddEdge, SetDatum, CloseRow, Ask, Advance, Take, End}
use Rattle.sg_unit.specs.declared.reply.Reply.TheVariants.{Made, Done, Moved, Ready, Suspended, Answer as Answered, Stuck}
use Rattle.sg_unit.specs.Orderly.{WasTold}
use Rattle.sg_unit.specs.Own.{own}
use Rattle.sg_unit.specs.Trace.{handed, told, told_after, told_from, untold, with_last}
use Rattle.jv_instance.specs.contracts.pred.JavaPredPartialEq.TheImpl as tests
use Rattle.jv_instance.specs.declared.datum.JavaDatum.{JavaDatum}
use Rattle.jv_instance.specs.declared.pred.JavaPred.{JavaPred}
use Rattle.jv_instance.specs.declared.pred.JavaPred.TheVariants.{Named, Any}
use Rattle.jv_names.specs.Replies.{is_pred, is_query, reply_to}
use Rattle.jv_names.proofs.Asking.{same_query as by_parts}
use Rattle.sc_app.specs.declared.heard.Heard.{Heard}
use Rattle.sc_app.specs.Heard.{JavaOp, JavaReply, JavaEntry, JavaPast, JavaTrace, answer_in, waiting_answer, with_waiting, Collects, Hears}

abbrev JavaReplies : Type 0
JavaReplies = List (Query JavaPred × Answer JavaDatum)

-- ---- the test of queries

same_pred : (p q : JavaPred) → is_pred p q ≡ true → p ≡ q
same_pred (Named m) (Named n) e = λ i. Named (record { 0 = number_same m.0 n.0 e i })
same_pred (Named m) Any e = absurd (let k : false ≡ true = e in cc)
same_pred Any (Named n) e = absurd (let k : false ≡ true = e in cc)
same_pred Any Any e = refl

pred_same : (p : JavaPred) → is_pred p p ≡ true
pred_same (Named n) = number_itself n.0
pred_same Any = refl

same_query : (p q : Query JavaPred) → is_query p q ≡ true → p ≡ q
same_query p q e =
    let k = both_true (is_scope p.start q.start) ((p.kind == q.kind) && is_pred p.pred q.pred) e in
    let m = both_true (p.kind == q.kind) (is_pred p.pred q.pred) k.1 in
    λ i. record { start = scope_same p.start q.start k.0 i; kind = number_same p.kind q.kind m.0 i; pred = same_pred p.pred q.pred m.1 i }

query_same : (q : Query JavaPred) → is_query q q ≡ true
query_same q = rw (same_scope q.start q.start refl, number_itself q.kind, pred_same q.pred) refl

-- the test as the code has it
pred_test : (p q : JavaPred) → (tests.ghosts).eq p q ≡ is_pred p q
pred_test (Named m) (Named n) = refl
pred_test (Named m) Any = refl
pred_test Any (Named n) = refl
pred_test Any Any = refl

query_test : (p q : Query JavaPred) → by_parts p q ≡ is_query p q
query_test p q = ap (λ (b : Bool). is_scope p.start q.start && ((p.kind == q.kind) && b)) (pred_test p.pred q.pred)

reply_test : (replies : JavaReplies) (q : Query JavaPred) → reply_of by_parts replies q ≡ reply_to replies q
reply_test [] q = refl
reply_test (r ∷ rs) q = λ i. cond (query_test q r.0 i) (Some r.1) (reply_test rs q i)

-- ---- what is told once a reply is handed

asks_it : (op : JavaOp) (q : Query JavaPred) → asked_last (Some op) ≡ Some q → op ≡ Ask q
asks_it (Ask p) q e = let k : Some p ≡ Some q = e in cc
asks_it (Fresh labels datum) q e = absurd (let k : None ≡ Some q = e in cc)
asks_it (AddEdge from label to) q e = absurd (let k : None ≡ Some q = e in cc)
asks_it (SetDatum s d) q e = absurd (let k : None ≡ Some q = e in cc)
asks_it (CloseRow s l) q e = absurd (let k : None ≡ Some q = e in cc)
asks_it Advance q e = absurd (let k : None ≡ Some q = e in cc)
asks_it Take q e = absurd (let k : None ≡ Some q = e in cc)
asks_it (End x) q e = absurd (let k : None ≡ Some q = e in cc)

answers_it : (y : JavaReply) (a : Answer JavaDatum) → answer_in y ≡ Some a → y ≡ Answered a
answers_it (Answered b) a e = let k : Some b ≡ Some a = e in cc
answers_it (Made s) a e = absurd (let k : None ≡ Some a = e in cc)
answers_it (Done woken) a e = absurd (let k : None ≡ Some a = e in cc)
answers_it Moved a e = absurd (let k : None ≡ Some a = e in cc)
answers_it Ready a e = absurd (let k : None ≡ Some a = e in cc)
answers_it Suspended a e = absurd (let k : None ≡ Some a = e in cc)
answers_it Stuck a e = absurd (let k : None ≡ Some a = e in cc)

told_by : (past : JavaPast) (last : Option JavaOp) (reply : Option JavaReply) (q : Query JavaPred) (a : Answer JavaDatum) → WasTold (with_last past last reply) q a → WasTold past q a ⊎ ((asked_last last ≡ Some q) × (waiting_answer reply ≡ Some a))
told_by past None reply q a c = inl c
told_by past (Some op) None q a c = inl c
told_by past (Some op) (Some y) q a c =
    elim (Contains-push_cases past (op, y) (Ask q, Answered a) c) [
      | inl k ↦ inl k
      | inr e ↦ inr (ap (λ (x : JavaOp × JavaReply). asked_last (Some x.0)) e, ap (λ (x : JavaOp × JavaReply). answer_in x.1) e)
    ]

told_before : (past : JavaPast) (last : Option JavaOp) (reply : Option JavaReply) (q : Query JavaPred) (a : Answer JavaDatum) → WasTold past q a → WasTold (with_last past last reply) q a
told_before past None reply q a c = c
told_before past (Some op) None q a c = c
told_before past (Some op) (Some y) q a c = Contains-append_left past ((op, y) ∷ []) (Ask q, Answered a) c

told_last : (past : JavaPast) (last : Option JavaOp) (reply : Option JavaReply) (q : Query JavaPred) (a : Answer JavaDatum) → asked_last last ≡ Some q → waiting_answer reply ≡ Some a → WasTold (with_last past last reply) q a
told_last past None reply q a e k = absurd (let h : None ≡ Some q = e in cc)
told_last past (Some op) None q a e k = absurd (let h : None ≡ Some a = k in cc)
told_last past (Some op) (Some y) q a e k =
    subst (λ (o : JavaOp). Contains (past ++ (o, y) ∷ []) (Ask q, Answered a)) (sym (asks_it op q e))
    (subst (λ (z : JavaReply). Contains (past ++ (Ask q, z) ∷ []) (Ask q, Answered a)) (sym (answers_it y a k)) (Contains-push past (Ask q, Answered a)))

-- ---- one more reply

-- the replies with one more, where a query waits whose answer has come
abbrev added : Option (Query JavaPred) → Option (Answer JavaDatum) → (Query JavaPred → Option (Answer JavaDatum)) → Query JavaPred → Option (Answer JavaDatum)
added None answer reply p = reply p
added (Some q) answer reply p = with_waiting q answer reply p

added_from : (asked : Option (Query JavaPred)) (answer : Option (Answer JavaDatum)) (reply : Query JavaPred → Option (Answer JavaDatum)) (p : Query JavaPred) (b : Answer JavaDatum) → added asked answer reply p ≡ Some b → (reply p ≡ Some b) ⊎ ((asked ≡ Some p) × (answer ≡ Some b))
added_from None answer reply p b e = inl e
added_from (Some q) None reply p b e = inl e
added_from (Some q) (Some a) reply p b e = by (is_query q p) (reply p) refl e
  where
    by : (t : Bool) (old : Option (Answer JavaDatum)) → is_query q p ≡ t → cond t (Some a) old ≡ Some b → (old ≡ Some b) ⊎ ((Some q ≡ Some p) × (Some a ≡ Some b))
    by true old s k = inr (ap Some (same_query q p s), k)
    by false old s k = inl k

added_to : (asked : Option (Query JavaPred)) (answer : Option (Answer JavaDatum)) (reply : Query JavaPred → Option (Answer JavaDatum)) (p : Query JavaPred) (b : Answer JavaDatum) → (reply p ≡ Some b) ⊎ ((asked ≡ Some p) × (answer ≡ Some b)) → (c : Answer JavaDatum) × (added asked answer reply p ≡ Some c)
added_to None answer reply p b (inl e) = (b, e)
added_to None answer reply p b (inr k) = absurd (let h : None ≡ Some p = k.0 in cc)
added_to (Some q) None reply p b (inl e) = (b, e)
added_to (Some q) None reply p b (inr k) = absurd (let h : None ≡ Some b = k.1 in cc)
added_to (Some q) (Some a) reply p b (inl e) = by (is_query q p) (reply p) e
  where
    by : (t : Bool) (old : Option (Answer JavaDatum)) → old ≡ Some b → (c : Answer JavaDatum) × (cond t (Some a) old ≡ Some c)
    by true old k = (a, refl)
    by false old k = (b, k)
added_to (Some q) (Some a) reply p b (inr k) =
    let h : Some q ≡ Some p = k.0 in
    let same : q ≡ p = cc in
    (a, ap (λ (t : Bool). cond t (Some a) (reply p)) (subst (λ (r : Query JavaPred). is_query q r ≡ true) same (query_same q)))

module _ (h : Heard) (rs : JavaReplies) (put : (p : Query JavaPred) → reply_to rs p ≡ added h.asked h.answer (reply_to h.replies) p) (t : JavaTrace) (heard : Hears h t) where
  collects_more : Collects (handed t) rs
  collects_more = record {
    told = λ q a e. elim (added_from h.asked h.answer (reply_to h.replies) q a (sym (put q) ∙ e)) [
      | inl k ↦ told_before t.past t.last t.reply q a (heard.collects.told q a k)
      | inr k ↦ told_last t.past t.last t.reply q a (sym heard.asked ∙ k.0) (sym (heard.answer q k.0) ∙ k.1)
    ];
    replied = λ q a c. elim (told_by t.past t.last t.reply q a c) [
      | inl k ↦ (
          let o = heard.collects.replied q a k in
          let m = added_to h.asked h.answer (reply_to h.replies) q o.0 (inl o.1) in
          (m.0, put q ∙ m.1)
          )
      | inr k ↦ (
          let asks : h.asked ≡ Some q = heard.asked ∙ k.0 in
          let m = added_to h.asked h.answer (reply_to h.replies) q a (inr (asks, heard.answer q asks ∙ k.1)) in
          (m.0, put q ∙ m.1)
          )
    ];
  }

-- no query waits
pub none_asked : (h : Heard) (rs : JavaReplies) → h.asked ≡ None → rs ≡ h.replies → (t : JavaTrace) → Hears h t → Collects (handed t) rs
none_asked h rs none same t heard =
    collects_more h rs (λ p. ap (λ (l : JavaReplies). reply_to l p) same ∙ sym (ap (λ (o : Option (Query JavaPred)). added o h.answer (reply_to h.replies) p) none)) t heard

-- a query waits
pub one_asked : {E : Type 0} (r : Result JavaReplies E) (h : Heard) (q : Query JavaPred) → h.asked ≡ Some q → IfOk r (λ rs. (p : Query JavaPred) → reply_to rs p ≡ with_waiting q h.answer (reply_to h.replies) p) → IfOk r (λ rs. (t : JavaTrace) → Hears h t → Collects (handed t) rs)
one_asked (Ok rs) h q asked put = λ t heard. collects_more h rs (λ p. put p ∙ sym (ap (λ (o : Option (Query JavaPred)). added o h.answer (reply_to h.replies) p) asked)) t heard
one_asked (Err e) h q asked put = tt

-- an answer has come
pub one_answered : (replies rs : JavaReplies) (q : Query JavaPred) (answer : Option (Answer JavaDatum)) (a : Answer JavaDatum) → answer ≡ Some a → ((p : Query JavaPred) → reply_of by_parts rs p ≡ cond (by_parts q p) (Some a) (reply_of by_parts replies p))
    → (p : Query JavaPred) → reply_to rs p ≡ with_waiting q answer (reply_to replies) p
one_answered replies rs q answer a come put p =
    sym (reply_test rs p) ∙ put p ∙ (λ i. cond (query_test q p i) (Some a) (reply_test replies p i)) ∙ sym (ap (λ (o : Option (Answer JavaDatum)). with_waiting q o (reply_to replies) p) come)

-- ---- one entry more

told_push : (t : JavaTrace) (es : List JavaEntry) (e : JavaEntry) → told_from t (es ++ e ∷ []) ≡ told_after (told_from t es) e.op e.reply
told_push t [] e = refl
told_push t (x ∷ es) e = told_push (told_after t x.op x.reply) es e

-- an entry of the unit
is_own : (h new : Heard) (u : ℕ) (e : JavaEntry) → eqb e.unit u ≡ true → ((t : JavaTrace) → Hears h t → Hears new (told_after t e.op e.reply)) → (mine : List JavaEntry) → Hears h (told mine) → Hears new (told (mine ++ own u (e ∷ [])))
is_own h new u e here more mine heard =
    subst (λ (t : JavaTrace). Hears new t) (sym (ap (λ (b : Bool). told (mine ++ cond b (e ∷ []) [])) here ∙ told_push untold mine e)) (more (told mine) heard)

pub own_after : {E : Type 0} (r : Result Heard E) (h : Heard) (u : ℕ) (e : JavaEntry) → e.unit ≡ u → IfOk r (λ new. (t : JavaTrace) → Hears h t → Hears new (told_after t e.op e.reply)) → IfOk r (λ new. (mine : List JavaEntry) → Hears h (told mine) → Hears new (told (mine ++ own u (e ∷ []))))
own_after (Ok new) h u e here more = λ mine heard. is_own h new u e (subst (λ (n : ℕ). eqb e.unit n ≡ true) here (number_itself e.unit)) more mine heard
own_after (Err x) h u e here more = tt

-- ---- the whole log

pub hears_more : (h new : Heard) (u : ℕ) (log : List JavaEntry) (i : ℕ) (e : JavaEntry) → i < length log → e ≡ get_or log i e → ((mine : List JavaEntry) → Hears h (told mine) → Hears new (told (mine ++ own u (e ∷ [])))) → Hears h (told (own u (take i log))) → Hears new (told (own u (take (i + 1) log)))
hears_more h new u log i e within here more heard =
    let longer : take (i + 1) log ≡ take i log ++ e ∷ [] = take_more log i e within ∙ ap (λ (x : JavaEntry). take i log ++ x ∷ []) (sym here) in
    subst (λ (es : List JavaEntry). Hears new (told es)) (sym (ap (own u) longer ∙ filter-append (λ (x : JavaEntry). eqb x.unit u) (take i log) (e ∷ []))) (more (own u (take i log)) heard)
