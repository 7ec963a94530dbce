-- The steps of calls: what a call gives that adds to the diagnostics, and which methods a name has.
use Rattle.std.proofs.Common.{◌≡◌, ◌<◌, Bool, true, false, cond, List, [], ◌∷◌, Option, Result, Ok, Err, IsErrAnd, length, arith, refl, sym, subst}
use Rattle.sg_base.specs.declared.scope.Scope.{Scope}
use Rattle.sg_query.specs.declared.answer.Answer.{Answer}
use Rattle.sg_query.specs.declared.query.Query.{Query}
use Rattle.sg_reading.specs.declared.stop.Stop.{Stop}
use Rattle.sg_reading.specs.declared.stop.Stop.TheVariants.{OutOfMemory}
use Rattle.sg_reading.specs.Reading.{done}
use Rattle.sg_reading.specs.Stop.{Reads}
use Rattle.sg_reading.proofs.Steps.{done_reads, memory_reads, then_ok, then_err, reading_steps}
use Rattle.jv_diag.specs.declared.codes.TheConstants.{UNKNOWN_METHOD}
use Rattle.jv_diag.specs.Plain.{DiagOf}
use Rattle.jv_instance.specs.declared.datum.JavaDatum.{JavaDatum}
use Rattle.jv_instance.specs.declared.pred.JavaPred.{JavaPred}
use Rattle.jv_instance.specs.declared.ty.Ty.{Ty}
use Rattle.jv_layout.specs.Folder.{LayoutOf}
use Rattle.jv_layout.specs.Readers.{is_interface_of, object_scope}
use Rattle.jv_tree.specs.declared.name.Ident.{Ident}
use Rattle.jv_tree.specs.declared.names.NameId.{NameId}
use Rattle.jv_types.specs.Operators.{bad_type}
use Rattle.jv_names.specs.declared.ends.Ends.{Ends}
use Rattle.jv_names.specs.declared.ends.Ends.TheVariants.{Scopes}
use Rattle.jv_names.specs.Members.{methods}
use Rattle.jv_names.specs.Replies.{Rule}
use Rattle.jv_expr.specs.declared.argument.Argument.{Argument}
use Rattle.jv_expr.specs.Calls.{Manner, called_of, chosen, method_called, or_objects}
use Rattle.jv_expr.specs.Checking.{Checking, only_diags, with_diags}
use Rattle.jv_expr.specs.Site.{SiteOf, with_named}

abbrev pub Replies : Type 0
Replies = Query JavaPred → Option (Answer JavaDatum)

abbrev pub Need : Type 0
Need = Stop (Query JavaPred)

-- ---- the exits of a `?`

module _ {U : Type 0} (reply : Replies) where
  pub stops_with : (r : Checking U) (e : Need) (x : Result U Need) (ds : List DiagOf) → IsErrAnd x (λ y. y ≡ e) → Reads {U = U × List DiagOf} reply r (Err e) → Reads reply r (with_diags x ds)
  stops_with r e (Ok v) ds k h = absurd k
  stops_with r e (Err y) ds k h = subst (λ (z : Need). Reads {U = U × List DiagOf} reply r (Err z)) (sym k) h

  pub memory_stops_with : (r : Checking U) (e : Need) (x : Result U Need) (ds : List DiagOf) → IsErrAnd x (λ y. y ≡ e) → e ≡ OutOfMemory → Reads reply r (with_diags x ds)
  memory_stops_with r e x ds k h = stops_with r e x ds k (subst (λ (z : Need). Reads {U = U × List DiagOf} reply r (Err z)) (sym h) (memory_reads reply r))

module _ (reply : Replies) where
  pub stops_only : (r : Rule (List DiagOf)) (e : Need) (x : Result (Unit {0}) Need) (ds : List DiagOf) → IsErrAnd x (λ y. y ≡ e) → Reads {U = List DiagOf} reply r (Err e) → Reads reply r (only_diags x ds)
  stops_only r e (Ok v) ds k h = absurd k
  stops_only r e (Err y) ds k h = subst (λ (z : Need). Reads {U = List DiagOf} reply r (Err z)) (sym k) h

  pub memory_stops_only : (r : Rule (List DiagOf)) (e : Need) (x : Result (Unit {0}) Need) (ds : List DiagOf) → IsErrAnd x (λ y. y ≡ e) → e ≡ OutOfMemory → Reads reply r (only_diags x ds)
  memory_stops_only r e x ds k h = stops_only r e x ds k (subst (λ (z : Need). Reads {U = List DiagOf} reply r (Err z)) (sym h) (memory_reads reply r))

-- ---- the methods of a name

module _ (reply : Replies) (site : SiteOf) (how : Manner) (i : Ident) (as' : List Argument) (ms : List Scope) (ds : List DiagOf) where
  pub none_called : (v : Ty × List DiagOf) → length ms ≡ 0 → v ≡ (bad_type, with_named site i UNKNOWN_METHOD ds) → Reads reply (called_of site how i as' ms ds) (Ok v)
  none_called v none e = go ms none
    where
      go : (ms : List Scope) → length ms ≡ 0 → Reads reply (called_of site how i as' ms ds) (Ok v)
      go [] none = done_reads reply (bad_type, with_named site i UNKNOWN_METHOD ds) v (sym e)
      go (m ∷ more) none = absurd (omega (arith, none))

  pub one_called : (m : Scope) (more : List Scope) (k : Scope) (x : Result (Ty × List DiagOf) Need) → ms ≡ m ∷ more → Reads reply (chosen site.layout m more) (Ok k) → Reads reply (method_called site how i as' k ds) x → Reads reply (called_of site how i as' ms ds) x
  one_called m more k x is g h =
      subst (λ (ms : List Scope). Reads reply (called_of site how i as' ms ds) x) (sym is)
      (then_ok reply (chosen site.layout m more) (λ k. method_called site how i as' k ds) k x g h)

  pub none_chosen : (m : Scope) (more : List Scope) (e : Need) → ms ≡ m ∷ more → Reads {U = Scope} reply (chosen site.layout m more) (Err e) → Reads {U = Ty × List DiagOf} reply (called_of site how i as' ms ds) (Err e)
  none_chosen m more e is g =
      subst (λ (ms : List Scope). Reads {U = Ty × List DiagOf} reply (called_of site how i as' ms ds) (Err e)) (sym is)
      (then_err reply (chosen site.layout m more) (λ k. method_called site how i as' k ds) e g)

module _ (reply : Replies) (l : LayoutOf) (c : Scope) (n : NameId) where
  pub some_own : (ms : List Scope) → 0 < length ms → Reads reply (or_objects l c n (Scopes ms)) (Ok (Scopes ms))
  some_own [] some = absurd (omega (arith, some))
  some_own (m ∷ ms) some = done_reads reply (Scopes (m ∷ ms)) (Scopes (m ∷ ms)) refl

  pub of_object : (ms : List Scope) (x : Result Ends Need) → length ms ≡ 0 → is_interface_of l c ≡ true → Reads reply (methods l (object_scope l) n) x → Reads reply (or_objects l c n (Scopes ms)) x
  of_object [] x none e h = subst (λ (b : Bool). Reads reply (cond b (methods l (object_scope l) n) (done (Scopes []))) x) (sym e) h
  of_object (m ∷ ms) x none e h = absurd (omega (arith, none))

  pub of_class : (ms : List Scope) → is_interface_of l c ≡ false → Reads reply (or_objects l c n (Scopes ms)) (Ok (Scopes ms))
  of_class [] e = subst (λ (b : Bool). Reads reply (cond b (methods l (object_scope l) n) (done (Scopes []))) (Ok (Scopes []))) (sym e) (done_reads reply (Scopes []) (Scopes []) refl)
  of_class (m ∷ ms) e = done_reads reply (Scopes (m ∷ ms)) (Scopes (m ∷ ms)) refl

pub ruleset call_steps = (reading_steps, stops_with, memory_stops_with, stops_only, memory_stops_only)

pub ruleset called_steps = (call_steps, none_called, one_called, none_chosen)

pub ruleset object_steps = (reading_steps, some_own, of_object, of_class)
