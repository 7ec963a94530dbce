-- Replies to Java's queries.
use Rattle.std.specs.Prelude.{ℕ, List, Bool, true, false, ◌==◌, ◌&&◌, Option}
use Rattle.sg_base.specs.Scope.{is_scope}
use Rattle.sg_query.specs.declared.answer.Answer.{Answer}
use Rattle.sg_query.specs.declared.query.Query.{Query}
use Rattle.sg_reading.specs.Reading.{Reading}
use Rattle.sg_reading.specs.Replies.{reply_of}
use Rattle.jv_instance.specs.declared.datum.JavaDatum.{JavaDatum}
use Rattle.jv_instance.specs.declared.pred.JavaPred.{JavaPred}
use Rattle.jv_instance.specs.declared.pred.JavaPred.TheVariants.{Named, Any}
use Rattle.jv_tree.specs.declared.names.NameId.{NameId}
use Rattle.sg_base.specs.declared.scope.Scope.{Scope}

-- a rule of Java: it asks queries, and ends with a value
abbrev pub Rule : Type 0 → Type 0
Rule U = Reading (Query JavaPred) (Answer JavaDatum) U

-- whether two predicates are the same
abbrev pub is_pred : JavaPred → JavaPred → Bool
is_pred (Named m) (Named n) = m.0 == n.0
is_pred (Named m) Any = false
is_pred Any (Named n) = false
is_pred Any Any = true

-- whether two queries are the same
abbrev pub is_query : Query JavaPred → Query JavaPred → Bool
is_query p q = is_scope p.start q.start && ((p.kind == q.kind) && is_pred p.pred q.pred)

-- the reply to a query, where one has come
abbrev pub reply_to : List (Query JavaPred × Answer JavaDatum) → Query JavaPred → Option (Answer JavaDatum)
reply_to replies q = reply_of is_query replies q

-- the query of a kind from a scope for a name
abbrev pub for_name : ℕ → Scope → NameId → Query JavaPred
for_name kind s n = record { start = s; kind = kind; pred = Named n }

-- the query of a kind from a scope for any name
abbrev pub for_any : ℕ → Scope → Query JavaPred
for_any kind s = record { start = s; kind = kind; pred = Any }
