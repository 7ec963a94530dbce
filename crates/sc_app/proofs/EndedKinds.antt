-- What a query asks by a table of Java's kinds is what it asks by the kinds themselves.
use Rattle.std.proofs.Common.{◌≡◌, ◌<◌, List, Bool, length, ap, ◌∙◌}
use Rattle.std.proofs.Math.Path.{fun_ext}
use Rattle.sg_base.specs.declared.mark.Mark.{Mark}
use Rattle.sg_expr.specs.Tree.{ExprOf}
use Rattle.sg_order.specs.Order.{precedes}
use Rattle.sg_query.specs.declared.query.Query.{Query}
use Rattle.sg_query.specs.Query.{Asked, KindOf, asked, kind_of}
use Rattle.jv_instance.specs.declared.datum.JavaDatum.{JavaDatum}
use Rattle.jv_instance.specs.declared.pred.JavaPred.{JavaPred}
use Rattle.jv_instance.specs.Data.{is_wanted}
use Rattle.jv_names.specs.Kinds.{AreKinds, asked_by, kind_at, kinds, mark_before}
use Rattle.sc_app.specs.FolderRun.{same_datum}

abbrev asks : Query JavaPred → ExprOf → (Mark → Mark → Bool) → Asked JavaDatum
asks q e o = record { start = q.start; expr = e; order = o; wants = is_wanted q.pred; same = same_datum }

pub asked_same : (t : List KindOf) → AreKinds t → (q : Query JavaPred) → q.kind < length kinds → asked is_wanted same_datum t q ≡ asked_by q
asked_same t java q h =
    let order : precedes (kind_of t q.kind).order ≡ mark_before (kind_at q.kind).labels = fun_ext (λ (a : Mark). fun_ext (λ (b : Mark). java.order q.kind a b h)) in
    ap (λ (e : ExprOf). asks q e (precedes (kind_of t q.kind).order)) (java.words q.kind h) ∙ ap (λ (o : Mark → Mark → Bool). asks q (kind_at q.kind).words o) order
