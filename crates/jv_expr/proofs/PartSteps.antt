-- The steps by which the parts of a name are looked at, one behind another.
use Rattle.std.proofs.Common.{◌≡◌, ℕ, ◌+◌, ◌<◌, ◌≤◌, List, [], ◌∷◌, Option, Result, Ok, Err, drop, get_or, length, refl, sym, subst, take}
use Rattle.std.proofs.lemmas.List.{at_drop_more, at_drop_all, take_more}
use Rattle.sg_query.specs.declared.answer.Answer.{Answer}
use Rattle.sg_query.specs.declared.query.Query.{Query}
use Rattle.sg_reading.specs.declared.stop.Stop.{Stop}
use Rattle.sg_reading.specs.Reading.{and_then}
use Rattle.sg_reading.specs.Stop.{Reads}
use Rattle.sg_reading.proofs.Steps.{done_reads, then_ok, then_err}
use Rattle.jv_diag.specs.Plain.{DiagOf}
use Rattle.jv_instance.specs.declared.datum.JavaDatum.{JavaDatum}
use Rattle.jv_instance.specs.declared.pred.JavaPred.{JavaPred}
use Rattle.jv_tree.specs.declared.name.Ident.{Ident}
use Rattle.jv_expr.specs.declared.denoted.Denoted.{Denoted}
use Rattle.jv_expr.specs.declared.local.Local.{Local}
use Rattle.jv_expr.specs.Checking.{Checking}
use Rattle.jv_expr.specs.Site.{SiteOf}
use Rattle.jv_expr.specs.Variables.{denoted, further_parts, head_part, next_part}
use Rattle.jv_expr.proofs.NamingSteps.{naming_steps}

abbrev Replies : Type 0
Replies = Query JavaPred → Option (Answer JavaDatum)

module _ (reply : Replies) (site : SiteOf) (ids : List Ident) (k : ℕ) (d : Denoted) (ds : List DiagOf) where
  module _ (b : Ident) (below : k < length ids) where
    part_read : (x : Result (Denoted × List DiagOf) (Stop (Query JavaPred))) → Reads reply (and_then (next_part site (take (k + 1) ids) d (get_or ids k b) ds) (λ r. further_parts site (take (k + 1) ids) r.0 (drop (k + 1) ids) r.1)) x → Reads reply (further_parts site (take k ids) d (drop k ids) ds) x
    part_read x h =
        let rule : List Ident → Checking Denoted = λ js. and_then (next_part site js d (get_or ids k b) ds) (λ r. further_parts site js r.0 (drop (k + 1) ids) r.1) in
        subst (λ (r : Checking Denoted). Reads reply r x) (sym (at_drop_more (λ (js : List Ident). further_parts site (take k ids) d js ds) ids k b below))
        (subst (λ (js : List Ident). Reads reply (rule js) x) (take_more ids k b below) h)

    pub part_step : (e : Denoted) (es : List DiagOf) (x : Result (Denoted × List DiagOf) (Stop (Query JavaPred))) → Reads reply (next_part site (take (k + 1) ids) d (get_or ids k b) ds) (Ok (e, es)) → Reads reply (further_parts site (take (k + 1) ids) e (drop (k + 1) ids) es) x → Reads reply (further_parts site (take k ids) d (drop k ids) ds) x
    part_step e es x g h =
        let found : Denoted × List DiagOf = (e, es) in
        part_read x (then_ok reply (next_part site (take (k + 1) ids) d (get_or ids k b) ds) (λ r. further_parts site (take (k + 1) ids) r.0 (drop (k + 1) ids) r.1) found x g h)

    pub part_stop : (e : Stop (Query JavaPred)) → Reads {U = Denoted × List DiagOf} reply (next_part site (take (k + 1) ids) d (get_or ids k b) ds) (Err e) → Reads {U = Denoted × List DiagOf} reply (further_parts site (take k ids) d (drop k ids) ds) (Err e)
    part_stop e g = part_read (Err e) (then_err reply (next_part site (take (k + 1) ids) d (get_or ids k b) ds) (λ r. further_parts site (take (k + 1) ids) r.0 (drop (k + 1) ids) r.1) e g)

  pub part_end : length ids ≤ k → Reads {U = Denoted × List DiagOf} reply (further_parts site (take k ids) d (drop k ids) ds) (Ok (d, ds))
  part_end past =
      let found : Denoted × List DiagOf = (d, ds) in
      subst (λ (r : Checking Denoted). Reads {U = Denoted × List DiagOf} reply r (Ok found)) (sym (at_drop_all (λ (js : List Ident). further_parts site (take k ids) d js ds) ids k past)) (done_reads reply found found refl)

module _ (reply : Replies) (site : SiteOf) (vs : List Local) (i : Ident) (is ids : List Ident) (ds : List DiagOf) (split : ids ≡ i ∷ is) where
  pub head_ok : (d : Denoted) (es : List DiagOf) (x : Result (Denoted × List DiagOf) (Stop (Query JavaPred))) → Reads reply (head_part site vs i ds) (Ok (d, es)) → Reads reply (further_parts site (take 1 ids) d (drop 1 ids) es) x → Reads reply (denoted site vs i is ds) x
  unfolding denoted
  head_ok d es x g h =
      let found : Denoted × List DiagOf = (d, es) in
      then_ok reply (head_part site vs i ds) (λ d. further_parts site (i ∷ []) d.0 is d.1) found x g
      (subst (λ (js : List Ident). Reads reply (further_parts site (take 1 js) d (drop 1 js) es) x) split h)

pub head_err : (reply : Replies) (site : SiteOf) (vs : List Local) (i : Ident) (is : List Ident) (ds : List DiagOf) (e : Stop (Query JavaPred)) → Reads {U = Denoted × List DiagOf} reply (head_part site vs i ds) (Err e) → Reads {U = Denoted × List DiagOf} reply (denoted site vs i is ds) (Err e)
unfolding denoted
head_err reply site vs i is ds e g = then_err reply (head_part site vs i ds) (λ d. further_parts site (i ∷ []) d.0 is d.1) e g

pub ruleset part_steps = (naming_steps, part_step, part_stop, part_end, head_ok, head_err)
