-- The steps of references.
use Rattle.std.proofs.Common.{◌≡◌, ℕ, ◌+◌, ◌<◌, ◌≤◌, Bool, true, false, cond, List, [], ◌∷◌, ◌++◌, Option, Result, Ok, Err, drop, get_or, length, refl, sym, subst}
use Rattle.std.proofs.lemmas.List.{at_drop_more, at_drop_all}
use Rattle.sg_base.specs.declared.scope.Scope.{Scope}
use Rattle.sg_query.specs.declared.answer.Answer.{Answer}
use Rattle.sg_query.specs.declared.query.Query.{Query}
use Rattle.sg_reading.specs.declared.stop.Stop.{Stop}
use Rattle.sg_reading.specs.Reading.{done, and_then}
use Rattle.sg_reading.specs.Stop.{Reads}
use Rattle.sg_reading.proofs.Steps.{done_reads, then_ok, then_err}
use Rattle.jv_instance.specs.declared.datum.JavaDatum.{JavaDatum}
use Rattle.jv_instance.specs.declared.pred.JavaPred.{JavaPred}
use Rattle.jv_layout.specs.Folder.{LayoutOf}
use Rattle.jv_tree.specs.declared.name.Ident.{Ident}
use Rattle.jv_names.specs.declared.reference.Reference.{Reference}
use Rattle.jv_names.specs.declared.resolved.Resolved.{Resolved}
use Rattle.jv_names.specs.Access.{type_accessible}
use Rattle.jv_names.specs.Reference.{refused, reference}
use Rattle.jv_names.specs.Replies.{Rule}
use Rattle.jv_names.specs.TypeNames.{type_name}
use Rattle.jv_names.proofs.Steps.{name_steps}

module _ (reply : Query JavaPred → Option (Answer JavaDatum)) (l : LayoutOf) (file : ℕ) (bodies : List Scope) where
  module _ (so_far types : List Scope) (i : ℕ) where
    module _ (t : Scope) (below : i < length types) where
      refused_here : (x : Result (List Scope) (Stop (Query JavaPred))) → Reads reply (and_then (type_accessible l file bodies (get_or types i t)) (λ ok. refused l file bodies (cond ok so_far (so_far ++ get_or types i t ∷ [])) (drop (i + 1) types))) x → Reads reply (refused l file bodies so_far (drop i types)) x
      refused_here x h = subst (λ (r : Rule (List Scope)). Reads reply r x) (sym (at_drop_more (λ (ts : List Scope). refused l file bodies so_far ts) types i t below)) h

      pub lets_pass : (v : Bool) (x : Result (List Scope) (Stop (Query JavaPred))) → Reads reply (type_accessible l file bodies (get_or types i t)) (Ok v) → v ≡ true → Reads reply (refused l file bodies so_far (drop (i + 1) types)) x → Reads reply (refused l file bodies so_far (drop i types)) x
      lets_pass v x g e h =
          refused_here x (then_ok reply (type_accessible l file bodies (get_or types i t)) (λ ok. refused l file bodies (cond ok so_far (so_far ++ get_or types i t ∷ [])) (drop (i + 1) types)) v x g (subst (λ (k : Bool). Reads reply (refused l file bodies (cond k so_far (so_far ++ get_or types i t ∷ [])) (drop (i + 1) types)) x) (sym e) h))

      pub refuses : (v : Bool) (x : Result (List Scope) (Stop (Query JavaPred))) → Reads reply (type_accessible l file bodies (get_or types i t)) (Ok v) → v ≡ false → Reads reply (refused l file bodies (so_far ++ get_or types i t ∷ []) (drop (i + 1) types)) x → Reads reply (refused l file bodies so_far (drop i types)) x
      refuses v x g e h =
          refused_here x (then_ok reply (type_accessible l file bodies (get_or types i t)) (λ ok. refused l file bodies (cond ok so_far (so_far ++ get_or types i t ∷ [])) (drop (i + 1) types)) v x g (subst (λ (k : Bool). Reads reply (refused l file bodies (cond k so_far (so_far ++ get_or types i t ∷ [])) (drop (i + 1) types)) x) (sym e) h))

      pub access_unknown : (e : Stop (Query JavaPred)) → Reads {U = Bool} reply (type_accessible l file bodies (get_or types i t)) (Err e) → Reads {U = List Scope} reply (refused l file bodies so_far (drop i types)) (Err e)
      access_unknown e g = refused_here (Err e) (then_err reply (type_accessible l file bodies (get_or types i t)) (λ ok. refused l file bodies (cond ok so_far (so_far ++ get_or types i t ∷ [])) (drop (i + 1) types)) e g)

    pub all_looked_at : length types ≤ i → Reads reply (refused l file bodies so_far (drop i types)) (Ok so_far)
    all_looked_at past = subst (λ (r : Rule (List Scope)). Reads reply r (Ok so_far)) (sym (at_drop_all (λ (ts : List Scope). refused l file bodies so_far ts) types i past)) (done_reads reply so_far so_far refl)

  pub referred : (ids : List Ident) (r : Resolved) (x : Result Reference (Stop (Query JavaPred))) → Reads reply (type_name l file bodies ids) (Ok r) → Reads reply (and_then (refused l file bodies [] r.types) (λ ts. done (record { meaning = r.meaning; refused = ts }))) x → Reads reply (reference l file bodies ids) x
  unfolding reference
  referred ids r x g h = then_ok reply (type_name l file bodies ids) (λ r. and_then (refused l file bodies [] r.types) (λ ts. done (record { meaning = r.meaning; refused = ts }))) r x g h

  pub name_unknown : (ids : List Ident) (e : Stop (Query JavaPred)) → Reads {U = Resolved} reply (type_name l file bodies ids) (Err e) → Reads {U = Reference} reply (reference l file bodies ids) (Err e)
  unfolding reference
  name_unknown ids e g = then_err reply (type_name l file bodies ids) (λ r. and_then (refused l file bodies [] r.types) (λ ts. done (record { meaning = r.meaning; refused = ts }))) e g

pub ruleset reference_steps = (name_steps, lets_pass, refuses, access_unknown, all_looked_at, referred, name_unknown)
