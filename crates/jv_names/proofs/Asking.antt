-- Queries are told apart by their parts.
use Rattle.std.proofs.Common.{◌≡◌, ◌&&◌, Bool, cond, List, [], ◌∷◌, Option, Some, None, Result, Ok, Err, MatchResult, Bor, refl, sym, ap, ◌∙◌}
use Rattle.sg_query.specs.declared.query.Query.{Query}
use Rattle.jv_instance.specs.contracts.pred.JavaPredPartialEq.TheImpl as tests
use Rattle.jv_instance.specs.declared.pred.JavaPred.{JavaPred}
use Rattle.jv_instance.specs.declared.pred.JavaPred.TheVariants.{Named, Any}
use Rattle.sg_base.specs.Scope.{is_scope}
use Rattle.std.specs.Prelude.{◌==◌}
use Rattle.sg_query.specs.declared.answer.Answer.{Answer}
use Rattle.jv_instance.specs.declared.datum.JavaDatum.{JavaDatum}
use Rattle.sg_reading.specs.declared.stop.Stop.{Stop}
use Rattle.sg_reading.specs.declared.stop.Stop.TheVariants.{NoReply}
use Rattle.sg_reading.specs.Replies.{reply_of}
use Rattle.jv_names.specs.Replies.{is_query, is_pred, reply_to}

pred_same : (p q : JavaPred) → (tests.ghosts).eq p q ≡ is_pred p q
pred_same (Named m) (Named n) = refl
pred_same (Named m) Any = refl
pred_same Any (Named n) = refl
pred_same Any Any = refl

-- how replies tell queries apart by their parts
abbrev pub same_query : Query JavaPred → Query JavaPred → Bool
same_query p q = is_scope p.start q.start && ((p.kind == q.kind) && (tests.ghosts).eq p.pred q.pred)

query_same : (p q : Query JavaPred) → same_query p q ≡ is_query p q
query_same p q = ap (λ (b : Bool). is_scope p.start q.start && ((p.kind == q.kind) && b)) (pred_same p.pred q.pred)

same_reply : (replies : List (Query JavaPred × Answer JavaDatum)) (q : Query JavaPred) → reply_to replies q ≡ reply_of same_query replies q
same_reply [] q = refl
same_reply (r ∷ rs) q =
    ap (λ (b : Bool). cond b (Some r.1) (reply_to rs q)) (sym (query_same q r.0)) ∙ ap (λ (o : Option (Answer JavaDatum)). cond (same_query q r.0) (Some r.1) o) (same_reply rs q)

-- what asking the replies gives, with queries told apart by their parts
pub asked : (replies : List (Query JavaPred × Answer JavaDatum)) (q : Query JavaPred) (r : Result (Bor (Answer JavaDatum)) (Stop (Query JavaPred)))
    → MatchResult r (λ a. reply_of same_query replies q ≡ Some a.now) (λ s. (s ≡ NoReply q) × (reply_of same_query replies q ≡ None))
    → MatchResult r (λ a. reply_to replies q ≡ Some a.now) (λ s. (s ≡ NoReply q) × (reply_to replies q ≡ None))
asked replies q (Ok a) h = same_reply replies q ∙ h
asked replies q (Err s) h = (h.0, same_reply replies q ∙ h.1)
