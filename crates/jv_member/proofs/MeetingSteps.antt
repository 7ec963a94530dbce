-- The steps by which methods that meet are compared.
use Rattle.std.proofs.Common.{◌≡◌, ℕ, ◌+◌, ◌<◌, ◌≤◌, Bool, true, false, cond, List, [], ◌∷◌, ◌++◌, Option, Result, Ok, Err, drop, get_or, length, refl, sym, ap, ◌∙◌, subst, arith}
use Rattle.std.proofs.lemmas.List.{at_drop_more, at_drop_all}
use Rattle.std.specs.List.{filter}
use Rattle.sg_base.specs.declared.scope.Scope.{Scope}
use Rattle.sg_query.specs.declared.answer.Answer.{Answer}
use Rattle.sg_query.specs.declared.query.Query.{Query}
use Rattle.sg_reading.specs.declared.stop.Stop.{Stop}
use Rattle.sg_reading.specs.Reading.{done, and_then}
use Rattle.sg_reading.specs.Stop.{Reads}
use Rattle.sg_reading.proofs.Lists.{each_after, each_more, each_err, each_end, each_reads}
use Rattle.sg_reading.proofs.Steps.{done_reads, then_ok, then_err, reading_steps}
use Rattle.jv_instance.specs.declared.datum.JavaDatum.{JavaDatum}
use Rattle.jv_instance.specs.declared.pred.JavaPred.{JavaPred}
use Rattle.jv_instance.specs.declared.ty.Ty.{Ty}
use Rattle.jv_layout.specs.Folder.{LayoutOf}
use Rattle.jv_names.specs.Chosen.{fits_all}
use Rattle.jv_names.specs.Replies.{Rule}
use Rattle.jv_names.specs.Read.{SignatureOf}
use Rattle.jv_member.specs.Overriding.{meets, is_other, some_fits}

abbrev Replies : Type 0
Replies = Query JavaPred → Option (Answer JavaDatum)

abbrev Whole : Type 0
Whole = Scope × SignatureOf

-- ---- a rule for each other method

module _ (reply : Replies) (l : LayoutOf) (m : Scope) (s : SignatureOf) (found : List (Option ℕ)) (ws : List Whole) (i : ℕ) where
  abbrev after : List Whole → Rule (List (Option ℕ))
  after ys = each_after (meets l m s) found (filter (is_other m) ys)

  module _ (d : Whole) (below : i < length ws) where
    met : (b : Bool) → is_other m (get_or ws i d) ≡ b → after (drop i ws) ≡ each_after (meets l m s) found (cond b (get_or ws i d ∷ filter (is_other m) (drop (i + 1) ws)) (filter (is_other m) (drop (i + 1) ws)))
    met b e =
        at_drop_more after ws i d below
        ∙ ap (λ (b : Bool). each_after (meets l m s) found (cond b (get_or ws i d ∷ filter (is_other m) (drop (i + 1) ws)) (filter (is_other m) (drop (i + 1) ws)))) e

    pub meets_passed : (x : Result (List (Option ℕ)) (Stop (Query JavaPred))) → is_other m (get_or ws i d) ≡ false → Reads reply (each_after (meets l m s) found (filter (is_other m) (drop (i + 1) ws))) x → Reads reply (each_after (meets l m s) found (filter (is_other m) (drop i ws))) x
    meets_passed x e h = subst (λ (r : Rule (List (Option ℕ))). Reads reply r x) (sym (met false e)) h

    pub meets_more : (v : Option ℕ) (x : Result (List (Option ℕ)) (Stop (Query JavaPred))) → is_other m (get_or ws i d) ≡ true → Reads reply (meets l m s (get_or ws i d)) (Ok v)
        → Reads reply (each_after (meets l m s) (found ++ v ∷ []) (filter (is_other m) (drop (i + 1) ws))) x → Reads reply (each_after (meets l m s) found (filter (is_other m) (drop i ws))) x
    meets_more v x e g h =
        subst (λ (r : Rule (List (Option ℕ))). Reads reply r x) (sym (met true e))
        (each_more reply (meets l m s) found (get_or ws i d ∷ filter (is_other m) (drop (i + 1) ws)) 0 (get_or ws i d) (omega arith) v x g h)

    pub meets_err : (e : Stop (Query JavaPred)) → is_other m (get_or ws i d) ≡ true → Reads {U = Option ℕ} reply (meets l m s (get_or ws i d)) (Err e)
        → Reads {U = List (Option ℕ)} reply (each_after (meets l m s) found (filter (is_other m) (drop i ws))) (Err e)
    meets_err e other g =
        subst (λ (r : Rule (List (Option ℕ))). Reads {U = List (Option ℕ)} reply r (Err e)) (sym (met true other))
        (each_err reply (meets l m s) found (get_or ws i d ∷ filter (is_other m) (drop (i + 1) ws)) 0 (get_or ws i d) (omega arith) e g)

  pub meets_end : length ws ≤ i → Reads reply (each_after (meets l m s) found (filter (is_other m) (drop i ws))) (Ok found)
  meets_end past = subst (λ (r : Rule (List (Option ℕ))). Reads reply r (Ok found)) (sym (at_drop_all after ws i past)) (each_end reply (meets l m s) found [] 0 (omega arith))

-- ---- one result that fits all

module _ (reply : Replies) (l : LayoutOf) (all : List Ty) (ts : List Ty) (i : ℕ) where
  module _ (d : Ty) (below : i < length ts) where
    some_here : (x : Result Bool (Stop (Query JavaPred))) → Reads reply (and_then (fits_all l (get_or ts i d) all) (λ ok. cond ok (done true) (some_fits l all (drop (i + 1) ts)))) x → Reads reply (some_fits l all (drop i ts)) x
    some_here x h = subst (λ (r : Rule Bool). Reads reply r x) (sym (at_drop_more (λ (us : List Ty). some_fits l all us) ts i d below)) h

    pub some_more : (v : Bool) (x : Result Bool (Stop (Query JavaPred))) → Reads reply (fits_all l (get_or ts i d) all) (Ok v) → v ≡ false → Reads reply (some_fits l all (drop (i + 1) ts)) x → Reads reply (some_fits l all (drop i ts)) x
    some_more v x g e h =
        some_here x (then_ok reply (fits_all l (get_or ts i d) all) (λ ok. cond ok (done true) (some_fits l all (drop (i + 1) ts))) v x g (subst (λ (k : Bool). Reads reply (cond k (done true) (some_fits l all (drop (i + 1) ts))) x) (sym e) h))

    pub some_found : (v : Bool) → Reads reply (fits_all l (get_or ts i d) all) (Ok v) → v ≡ true → Reads reply (some_fits l all (drop i ts)) (Ok true)
    some_found v g e =
        some_here (Ok true) (then_ok reply (fits_all l (get_or ts i d) all) (λ ok. cond ok (done true) (some_fits l all (drop (i + 1) ts))) v (Ok true) g (subst (λ (k : Bool). Reads reply (cond k (done true) (some_fits l all (drop (i + 1) ts))) (Ok true)) (sym e) (done_reads reply true true refl)))

    pub some_err : (e : Stop (Query JavaPred)) → Reads {U = Bool} reply (fits_all l (get_or ts i d) all) (Err e) → Reads {U = Bool} reply (some_fits l all (drop i ts)) (Err e)
    some_err e g = some_here (Err e) (then_err reply (fits_all l (get_or ts i d) all) (λ ok. cond ok (done true) (some_fits l all (drop (i + 1) ts))) e g)

  pub some_end : length ts ≤ i → Reads {U = Bool} reply (some_fits l all (drop i ts)) (Ok false)
  some_end past = subst (λ (r : Rule Bool). Reads {U = Bool} reply r (Ok false)) (sym (at_drop_all (λ (us : List Ty). some_fits l all us) ts i past)) (done_reads reply false false refl)

pub ruleset meeting_steps = (reading_steps, each_reads, meets_passed, meets_more, meets_err, meets_end, some_more, some_found, some_err, some_end)
