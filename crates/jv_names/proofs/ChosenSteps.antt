-- The steps by which one of several methods is chosen.
use Rattle.std.proofs.Common.{◌≡◌, ℕ, ◌+◌, ◌<◌, ◌≤◌, Bool, true, false, cond, List, [], ◌∷◌, Option, Result, Ok, Err, drop, get_or, length, arith, refl, sym, subst}
use Rattle.std.proofs.lemmas.List.{at_drop_more, at_drop_all}
use Rattle.sg_base.specs.declared.scope.Scope.{Scope}
use Rattle.sg_query.specs.declared.answer.Answer.{Answer}
use Rattle.sg_query.specs.declared.query.Query.{Query}
use Rattle.sg_reading.specs.declared.stop.Stop.{Stop}
use Rattle.sg_reading.specs.Reading.{done, and_then}
use Rattle.sg_reading.specs.Stop.{Reads}
use Rattle.sg_reading.proofs.Steps.{done_reads, then_ok, then_err, reading_steps}
use Rattle.jv_instance.specs.declared.datum.JavaDatum.{JavaDatum}
use Rattle.jv_instance.specs.declared.pred.JavaPred.{JavaPred}
use Rattle.jv_instance.specs.declared.ty.Ty.{Ty}
use Rattle.jv_layout.specs.Folder.{LayoutOf}
use Rattle.jv_names.specs.Chosen.{first_fitting, fits_all, fits_or_bad}
use Rattle.jv_names.specs.Replies.{Rule}

abbrev Replies : Type 0
Replies = Query JavaPred → Option (Answer JavaDatum)

-- a query without a reply, or want of memory
abbrev pub Need : Type 0
Need = Stop (Query JavaPred)

-- ---- a result against all

module _ (reply : Replies) (l : LayoutOf) (t : Ty) (us : List Ty) (i : ℕ) where
  module _ (u : Ty) (below : i < length us) where
    all_here : (x : Result Bool Need) → Reads reply (and_then (fits_or_bad l t (get_or us i u)) (λ ok. cond ok (fits_all l t (drop (i + 1) us)) (done false))) x → Reads reply (fits_all l t (drop i us)) x
    all_here x h = subst (λ (r : Rule Bool). Reads reply r x) (sym (at_drop_more (λ (us : List Ty). fits_all l t us) us i u below)) h

    pub fits_more : (v : Bool) (x : Result Bool Need) → Reads reply (fits_or_bad l t (get_or us i u)) (Ok v) → v ≡ true → Reads reply (fits_all l t (drop (i + 1) us)) x → Reads reply (fits_all l t (drop i us)) x
    fits_more v x g e h =
        all_here x (then_ok reply (fits_or_bad l t (get_or us i u)) (λ ok. cond ok (fits_all l t (drop (i + 1) us)) (done false)) v x g (subst (λ (k : Bool). Reads reply (cond k (fits_all l t (drop (i + 1) us)) (done false)) x) (sym e) h))

    pub fits_no_more : (v : Bool) → Reads reply (fits_or_bad l t (get_or us i u)) (Ok v) → v ≡ false → Reads reply (fits_all l t (drop i us)) (Ok false)
    fits_no_more v g e =
        all_here (Ok false) (then_ok reply (fits_or_bad l t (get_or us i u)) (λ ok. cond ok (fits_all l t (drop (i + 1) us)) (done false)) v (Ok false) g (subst (λ (k : Bool). Reads reply (cond k (fits_all l t (drop (i + 1) us)) (done false)) (Ok false)) (sym e) (done_reads reply false false refl)))

    pub fits_unknown : (e : Need) → Reads {U = Bool} reply (fits_or_bad l t (get_or us i u)) (Err e) → Reads {U = Bool} reply (fits_all l t (drop i us)) (Err e)
    fits_unknown e g = all_here (Err e) (then_err reply (fits_or_bad l t (get_or us i u)) (λ ok. cond ok (fits_all l t (drop (i + 1) us)) (done false)) e g)

  pub fits_every : length us ≤ i → Reads {U = Bool} reply (fits_all l t (drop i us)) (Ok true)
  fits_every past = subst (λ (r : Rule Bool). Reads {U = Bool} reply r (Ok true)) (sym (at_drop_all (λ (us : List Ty). fits_all l t us) us i past)) (done_reads reply true true refl)

-- ---- the first that fits all

module _ (reply : Replies) (l : LayoutOf) (all : List Ty) (m : Scope) (ms : List Scope) (ts : List Ty) where
  pub no_method : length ms ≡ 0 → Reads reply (first_fitting l all m ms ts) (Ok m)
  no_method none = go ms none
    where
      go : (ms : List Scope) → length ms ≡ 0 → Reads reply (first_fitting l all m ms ts) (Ok m)
      go [] none = done_reads reply m m refl
      go (k ∷ ks) none = absurd (omega (arith, none))

  module _ (k : Scope) (ks : List Scope) (is : ms ≡ k ∷ ks) where
    pub no_result : length ts ≡ 0 → Reads reply (first_fitting l all m ms ts) (Ok m)
    no_result none = subst (λ (ms : List Scope). Reads reply (first_fitting l all m ms ts) (Ok m)) (sym is) (go ts none)
      where
        go : (ts : List Ty) → length ts ≡ 0 → Reads reply (first_fitting l all m (k ∷ ks) ts) (Ok m)
        go [] none = done_reads reply m m refl
        go (t ∷ more) none = absurd (omega (arith, none))

    module _ (t : Ty) (more : List Ty) (are : ts ≡ t ∷ more) where
      first_here : (x : Result Scope Need) → Reads reply (and_then (fits_all l t all) (λ ok. cond ok (done k) (first_fitting l all m ks more))) x → Reads reply (first_fitting l all m ms ts) x
      first_here x h =
          subst (λ (ms : List Scope). Reads reply (first_fitting l all m ms ts) x) (sym is)
          (subst (λ (ts : List Ty). Reads reply (first_fitting l all m (k ∷ ks) ts) x) (sym are) h)

      pub method_fits : (v : Bool) → Reads reply (fits_all l t all) (Ok v) → v ≡ true → Reads reply (first_fitting l all m ms ts) (Ok k)
      method_fits v g e =
          first_here (Ok k) (then_ok reply (fits_all l t all) (λ ok. cond ok (done k) (first_fitting l all m ks more)) v (Ok k) g (subst (λ (b : Bool). Reads reply (cond b (done k) (first_fitting l all m ks more)) (Ok k)) (sym e) (done_reads reply k k refl)))

      pub next_method : (v : Bool) (x : Result Scope Need) → Reads reply (fits_all l t all) (Ok v) → v ≡ false → Reads reply (first_fitting l all m ks more) x → Reads reply (first_fitting l all m ms ts) x
      next_method v x g e h =
          first_here x (then_ok reply (fits_all l t all) (λ ok. cond ok (done k) (first_fitting l all m ks more)) v x g (subst (λ (b : Bool). Reads reply (cond b (done k) (first_fitting l all m ks more)) x) (sym e) h))

      pub method_unknown : (e : Need) → Reads {U = Bool} reply (fits_all l t all) (Err e) → Reads {U = Scope} reply (first_fitting l all m ms ts) (Err e)
      method_unknown e g = first_here (Err e) (then_err reply (fits_all l t all) (λ ok. cond ok (done k) (first_fitting l all m ks more)) e g)

pub ruleset all_steps = (reading_steps, fits_more, fits_no_more, fits_unknown, fits_every)

pub ruleset first_steps = (reading_steps, no_method, no_result, method_fits, next_method, method_unknown)
