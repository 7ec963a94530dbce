-- The steps by which a field is looked for in the bodies outward.
use Rattle.std.proofs.Common.{◌≡◌, ℕ, ◌+◌, ◌<◌, ◌≤◌, List, Option, Result, Ok, Err, drop, get_or, length, refl, sym, subst}
use Rattle.std.proofs.lemmas.List.{at_drop_more, at_drop_all}
use Rattle.sg_base.specs.declared.scope.Scope.{Scope}
use Rattle.sg_query.specs.declared.answer.Answer.{Answer}
use Rattle.sg_query.specs.declared.query.Query.{Query}
use Rattle.sg_reading.specs.declared.stop.Stop.{Stop}
use Rattle.sg_reading.specs.Stop.{Reads}
use Rattle.sg_reading.proofs.Steps.{done_reads, then_ok, then_err, reading_steps}
use Rattle.jv_instance.specs.declared.datum.JavaDatum.{JavaDatum}
use Rattle.jv_instance.specs.declared.pred.JavaPred.{JavaPred}
use Rattle.jv_layout.specs.Folder.{LayoutOf}
use Rattle.jv_tree.specs.declared.names.NameId.{NameId}
use Rattle.jv_names.specs.declared.meaning.Meaning.{Meaning}
use Rattle.jv_names.specs.declared.meaning.Meaning.TheVariants.{One, Nothing, Ambiguous, TooMany}
use Rattle.jv_names.specs.Members.{field}
use Rattle.jv_names.specs.Replies.{Rule}
use Rattle.jv_expr.specs.declared.found_field.FoundField.{FoundField}
use Rattle.jv_expr.specs.declared.found_field.FoundField.TheVariants.{In, Several, TooMany as TooManyFields, Nowhere}
use Rattle.jv_expr.specs.Variables.{field_outward, in_body}

module _ (reply : Query JavaPred → Option (Answer JavaDatum)) (l : LayoutOf) (bodies : List Scope) (n : NameId) (i : ℕ) where
  module _ (b : Scope) (below : i < length bodies) where
    body_meant : (m k : Meaning) (x : Result FoundField (Stop (Query JavaPred))) → Reads reply (field l (get_or bodies i b) n) (Ok m) → m ≡ k → Reads reply (in_body (get_or bodies i b) k (field_outward l (drop (i + 1) bodies) n)) x → Reads reply (field_outward l (drop i bodies) n) x
    unfolding field_outward
    body_meant m k x g e h =
        subst (λ (r : Rule FoundField). Reads reply r x) (sym (at_drop_more (λ (bs : List Scope). field_outward l bs n) bodies i b below))
        (then_ok reply (field l (get_or bodies i b) n) (λ m. in_body (get_or bodies i b) m (field_outward l (drop (i + 1) bodies) n)) m x g
        (subst (λ (m : Meaning). Reads reply (in_body (get_or bodies i b) m (field_outward l (drop (i + 1) bodies) n)) x) (sym e) h))

    pub field_further : (m : Meaning) (x : Result FoundField (Stop (Query JavaPred))) → Reads reply (field l (get_or bodies i b) n) (Ok m) → m ≡ Nothing → Reads reply (field_outward l (drop (i + 1) bodies) n) x → Reads reply (field_outward l (drop i bodies) n) x
    field_further m x g e h = body_meant m Nothing x g e h

    pub field_here : (m : Meaning) (f : Scope) → Reads reply (field l (get_or bodies i b) n) (Ok m) → m ≡ One f → Reads reply (field_outward l (drop i bodies) n) (Ok (In (get_or bodies i b) f))
    field_here m f g e = body_meant m (One f) (Ok (In (get_or bodies i b) f)) g e (done_reads reply (In (get_or bodies i b) f) (In (get_or bodies i b) f) refl)

    pub fields_here : (m : Meaning) → Reads reply (field l (get_or bodies i b) n) (Ok m) → m ≡ Ambiguous → Reads reply (field_outward l (drop i bodies) n) (Ok Several)
    fields_here m g e = body_meant m Ambiguous (Ok Several) g e (done_reads reply Several Several refl)

    pub many_here : (m : Meaning) → Reads reply (field l (get_or bodies i b) n) (Ok m) → m ≡ TooMany → Reads reply (field_outward l (drop i bodies) n) (Ok TooManyFields)
    many_here m g e = body_meant m TooMany (Ok TooManyFields) g e (done_reads reply TooManyFields TooManyFields refl)

    pub field_unknown : (e : Stop (Query JavaPred)) → Reads {U = Meaning} reply (field l (get_or bodies i b) n) (Err e) → Reads {U = FoundField} reply (field_outward l (drop i bodies) n) (Err e)
    unfolding field_outward
    field_unknown e g =
        subst (λ (r : Rule FoundField). Reads {U = FoundField} reply r (Err e)) (sym (at_drop_more (λ (bs : List Scope). field_outward l bs n) bodies i b below))
        (then_err reply (field l (get_or bodies i b) n) (λ m. in_body (get_or bodies i b) m (field_outward l (drop (i + 1) bodies) n)) e g)

  pub nowhere_found : length bodies ≤ i → Reads reply (field_outward l (drop i bodies) n) (Ok Nowhere)
  unfolding field_outward
  nowhere_found past = subst (λ (r : Rule FoundField). Reads reply r (Ok Nowhere)) (sym (at_drop_all (λ (bs : List Scope). field_outward l bs n) bodies i past)) (done_reads reply Nowhere Nowhere refl)

pub ruleset outward_steps = (reading_steps, field_further, field_here, fields_here, many_here, field_unknown, nowhere_found)
