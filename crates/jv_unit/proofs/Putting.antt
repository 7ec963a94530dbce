-- A reply that is put to a query without one is added, and no other reply changes.
use Rattle.std.proofs.Common.{◌≡◌, ◌&&◌, ◌==◌, Bool, true, false, cond, List, [], ◌∷◌, ◌++◌, Option, Some, None, Result, Ok, Err, IfOk, OnOk, OnErr, Decides, ℕ, refl, sym, ap, ◌∙◌, subst}
use Rattle.sg_base.specs.Scope.{is_scope}
use Rattle.sg_base.proofs.Scopes.{scope_same, same_scope}
use Rattle.sg_query.specs.declared.answer.Answer.{Answer}
use Rattle.sg_query.specs.declared.query.Query.{Query}
use Rattle.sg_reading.specs.Replies.{AddsReply, reply_of}
use Rattle.sg_reading.proofs.Puts.{last_replies_are_added}
use Rattle.sg_unit.proofs.Writes.{is_num, num_is}
use Rattle.jv_instance.specs.contracts.pred.JavaPredPartialEq.TheImpl as tests
use Rattle.jv_instance.specs.declared.datum.JavaDatum.{JavaDatum}
use Rattle.jv_instance.specs.declared.pred.JavaPred.{JavaPred}
use Rattle.jv_instance.specs.declared.pred.JavaPred.TheVariants.{Named, Any}
use Rattle.jv_names.specs.Replies.{is_pred, is_query, reply_to}
use Rattle.jv_names.proofs.Asking.{same_query as by_parts}
use Rattle.jv_unit.specs.declared.begun_type.BegunType.{BegunType}
use Rattle.jv_unit.specs.Folder.{FolderOf}
use Rattle.jv_unit.specs.Progress.{IsSoFar}
use Rattle.jv_unit.specs.Script.{ScriptOf}
use Rattle.jv_unit.specs.Scripts.{PutsReply}
use Rattle.jv_unit.proofs.CheckRules.{so_far_added}

-- ---- the test of queries decides which are equal

both : (a b : Bool) → (a && b) ≡ true → (a ≡ true) × (b ≡ true)
both true true e = (refl, refl)
both true false e = absurd (let k : false ≡ true = e in cc)
both false b e = absurd (let k : false ≡ true = e in cc)

same_pred : (p q : JavaPred) → is_pred p q ≡ true → p ≡ q
same_pred (Named m) (Named n) e = λ i. Named (record { 0 = is_num m.0 n.0 e i })
same_pred (Named m) Any e = absurd (let k : false ≡ true = e in cc)
same_pred Any (Named n) e = absurd (let k : false ≡ true = e in cc)
same_pred Any Any e = refl

pred_same : (p : JavaPred) → is_pred p p ≡ true
pred_same (Named n) = num_is n.0
pred_same Any = refl

query_same : (q : Query JavaPred) → is_query q q ≡ true
query_same q = rw (same_scope q.start q.start refl, num_is q.kind, pred_same q.pred) refl

same_query : (p q : Query JavaPred) → is_query p q ≡ true → p ≡ q
same_query p q e =
    let k = both (is_scope p.start q.start) ((p.kind == q.kind) && is_pred p.pred q.pred) e in
    let m = both (p.kind == q.kind) (is_pred p.pred q.pred) k.1 in
    λ i. record { start = scope_same p.start q.start k.0 i; kind = is_num p.kind q.kind m.0 i; pred = same_pred p.pred q.pred m.1 i }

query_decides : (p q : Query JavaPred) → Decides (is_query p q) (p ≡ q)
query_decides p q = ((λ e. same_query p q e), (λ e. subst (λ (r : Query JavaPred). is_query p r ≡ true) e (query_same p)))

-- ---- the same test as the code has it

-- two tests that agree find the same reply
alike : {Q A : Type 0} (f g : Q → Q → Bool) → ((p q : Q) → f p q ≡ g p q) → (replies : List (Q × A)) (q : Q) → reply_of f replies q ≡ reply_of g replies q
alike f g h [] q = refl
alike f g h (r ∷ rs) q = λ i. cond (h q r.0 i) (Some r.1) (alike f g h rs q i)

pred_test : (p q : JavaPred) → (tests.ghosts).eq p q ≡ is_pred p q
pred_test (Named m) (Named n) = refl
pred_test (Named m) Any = refl
pred_test Any (Named n) = refl
pred_test Any Any = refl

query_test : (p q : Query JavaPred) → by_parts p q ≡ is_query p q
query_test p q = ap (λ (b : Bool). is_scope p.start q.start && ((p.kind == q.kind) && b)) (pred_test p.pred q.pred)

-- ---- the script

if_ok : {A E : Type 0} (P Q : Type 0) (r : Result A E) → (P → Q) → OnOk r P → IfOk r (λ x. Q)
if_ok P Q (Ok x) f h = f h
if_ok P Q (Err e) f h = tt

module _ {E : Type 0} (s : ScriptOf) (q copy : Query JavaPred) (a : Answer JavaDatum) (new : List (Query JavaPred × Answer JavaDatum)) (r : Result (Unit {0}) E) (none : reply_to s.replies q ≡ None) (copied : copy ≡ q) (put : reply_of by_parts s.replies copy ≡ None → OnOk r (new ≡ s.replies ++ (copy, a) ∷ [])) where
  last : OnOk r (new ≡ s.replies ++ (copy, a) ∷ [])
  last = put (alike by_parts is_query query_test s.replies copy ∙ subst (λ (z : Query JavaPred). reply_to s.replies z ≡ None) (sym copied) none)

  behind : new ≡ s.replies ++ (copy, a) ∷ [] → new ≡ s.replies ++ (q, a) ∷ []
  behind e = e ∙ ap (λ (z : Query JavaPred). s.replies ++ (z, a) ∷ []) copied

  pub puts_reply : IfOk r (λ x. PutsReply s q a (record { alloc = s.alloc; folder = s.folder; unit = s.unit; replies = new }))
  puts_reply = if_ok (new ≡ s.replies ++ (copy, a) ∷ []) (PutsReply s q a (record { alloc = s.alloc; folder = s.folder; unit = s.unit; replies = new })) r (λ e i. record { alloc = s.alloc; folder = s.folder; unit = s.unit; replies = behind e i }) last

  pub adds_reply : IfOk r (λ x. AddsReply (reply_to s.replies) (reply_to new) q a)
  adds_reply =
      if_ok (new ≡ s.replies ++ (copy, a) ∷ []) (AddsReply (reply_to s.replies) (reply_to new) q a) r
      (λ e. subst (λ (rs : List (Query JavaPred × Answer JavaDatum)). AddsReply (reply_to s.replies) (reply_to rs) q a) (sym (behind e)) (last_replies_are_added is_query query_decides s.replies q a none)) last

-- as far as a unit came, it has come with a reply more, or with the same replies
pub so_far_put : {E : Type 0} (old new : List (Query JavaPred × Answer JavaDatum)) (q : Query JavaPred) (a : Answer JavaDatum) (w : FolderOf) (t : ℕ) (o : Option BegunType) (r : Result (Unit {0}) E)
    → IfOk r (λ x. AddsReply (reply_to old) (reply_to new) q a) → OnErr r (new ≡ old) → IsSoFar (reply_to old) w t o → IsSoFar (reply_to new) w t o
so_far_put old new q a w t o (Ok x) adds same h = so_far_added (reply_to old) (reply_to new) q a w t o adds h
so_far_put old new q a w t o (Err e) adds same h = subst (λ (rs : List (Query JavaPred × Answer JavaDatum)). IsSoFar (reply_to rs) w t o) (sym same) h
