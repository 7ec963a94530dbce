-- The steps by which the members among methods are found.
use Rattle.std.proofs.Common.{◌≡◌, ℕ, ◌+◌, ◌<◌, ◌≤◌, Bool, cond, List, [], Option, Result, Ok, Err, drop, get_or, length, refl, sym, subst}
use Rattle.std.proofs.lemmas.List.{at_drop_more, at_drop_all}
use Rattle.sg_base.specs.declared.scope.Scope.{Scope}
use Rattle.sg_base.specs.Scope.{scope_cmp}
use Rattle.sg_query.specs.declared.answer.Answer.{Answer}
use Rattle.sg_query.specs.declared.query.Query.{Query}
use Rattle.sg_reading.specs.declared.stop.Stop.{Stop}
use Rattle.sg_reading.specs.Reading.{done, and_then}
use Rattle.sg_reading.specs.Stop.{Reads}
use Rattle.sg_reading.proofs.Steps.{done_reads, then_ok, then_err, reading_steps}
use Rattle.sg_state.specs.Held.{put}
use Rattle.jv_instance.specs.declared.datum.JavaDatum.{JavaDatum}
use Rattle.jv_instance.specs.declared.pred.JavaPred.{JavaPred}
use Rattle.jv_layout.specs.Folder.{LayoutOf}
use Rattle.jv_names.specs.declared.ends.Ends.{Ends}
use Rattle.jv_names.specs.declared.ends.Ends.TheVariants.{Scopes, TooMany as TooManyEnds}
use Rattle.jv_names.specs.Members.{is_replaced, members_among, members_from, with_members}
use Rattle.jv_names.specs.Replies.{Rule}

abbrev Replies : Type 0
Replies = Query JavaPred → Option (Answer JavaDatum)

-- a query without a reply, or want of memory
abbrev Need : Type 0
Need = Stop (Query JavaPred)

module _ (reply : Replies) (l : LayoutOf) where
  module _ (all kept ms : List Scope) (i : ℕ) where
    module _ (m : Scope) (below : i < length ms) where
      kept_here : (x : Result (List Scope) Need) → Reads reply (and_then (is_replaced l all (get_or ms i m)) (λ gone. members_from l all (cond gone kept (put scope_cmp kept (get_or ms i m))) (drop (i + 1) ms))) x → Reads reply (members_from l all kept (drop i ms)) x
      kept_here x h = subst (λ (r : Rule (List Scope)). Reads reply r x) (sym (at_drop_more (λ (ms : List Scope). members_from l all kept ms) ms i m below)) h

      -- a method that is looked at stays or is gone
      pub kept_more : (gone : Bool) (next : List Scope) (x : Result (List Scope) Need) → Reads reply (is_replaced l all (get_or ms i m)) (Ok gone) → next ≡ cond gone kept (put scope_cmp kept (get_or ms i m)) → Reads reply (members_from l all next (drop (i + 1) ms)) x → Reads reply (members_from l all kept (drop i ms)) x
      kept_more gone next x g e h =
          kept_here x (then_ok reply (is_replaced l all (get_or ms i m)) (λ gone. members_from l all (cond gone kept (put scope_cmp kept (get_or ms i m))) (drop (i + 1) ms)) gone x g (subst (λ (ks : List Scope). Reads reply (members_from l all ks (drop (i + 1) ms)) x) e h))

      pub kept_unknown : (e : Need) → Reads {U = Bool} reply (is_replaced l all (get_or ms i m)) (Err e) → Reads {U = List Scope} reply (members_from l all kept (drop i ms)) (Err e)
      kept_unknown e g = kept_here (Err e) (then_err reply (is_replaced l all (get_or ms i m)) (λ gone. members_from l all (cond gone kept (put scope_cmp kept (get_or ms i m))) (drop (i + 1) ms)) e g)

    pub all_kept : length ms ≤ i → Reads reply (members_from l all kept (drop i ms)) (Ok kept)
    all_kept past = subst (λ (r : Rule (List Scope)). Reads reply r (Ok kept)) (sym (at_drop_all (λ (ms : List Scope). members_from l all kept ms) ms i past)) (done_reads reply kept kept refl)

  pub among_from : (ms kept : List Scope) (x : Result (List Scope) Need) → kept ≡ [] → Reads reply (members_from l ms kept ms) x → Reads reply (members_among l ms) x
  unfolding members_among
  among_from ms kept x e h = subst (λ (ks : List Scope). Reads reply (members_from l ms ks ms) x) e h

  module _ (ends : Ends) where
    pub too_many_methods : ends ≡ TooManyEnds → Reads reply (with_members l ends) (Ok TooManyEnds)
    too_many_methods is = subst (λ (es : Ends). Reads reply (with_members l es) (Ok TooManyEnds)) (sym is) (done_reads reply TooManyEnds TooManyEnds refl)

    module _ (ms ns : List Scope) (is : ends ≡ Scopes ms) (same : ns ≡ ms) where
      pub members_known : (ks : List Scope) → Reads reply (members_among l ns) (Ok ks) → Reads reply (with_members l ends) (Ok (Scopes ks))
      members_known ks h =
          subst (λ (es : Ends). Reads reply (with_members l es) (Ok (Scopes ks))) (sym is)
          (then_ok reply (members_among l ms) (λ ks. done (Scopes ks)) ks (Ok (Scopes ks)) (subst (λ (ms : List Scope). Reads reply (members_among l ms) (Ok ks)) same h) (done_reads reply (Scopes ks) (Scopes ks) refl))

      pub members_unknown : (e : Need) → Reads {U = List Scope} reply (members_among l ns) (Err e) → Reads {U = Ends} reply (with_members l ends) (Err e)
      members_unknown e h =
          subst (λ (es : Ends). Reads {U = Ends} reply (with_members l es) (Err e)) (sym is)
          (then_err reply (members_among l ms) (λ ks. done (Scopes ks)) e (subst (λ (ms : List Scope). Reads {U = List Scope} reply (members_among l ms) (Err e)) same h))

pub ruleset replacing_steps = (reading_steps, kept_more, kept_unknown, all_kept, among_from, too_many_methods, members_known, members_unknown)
