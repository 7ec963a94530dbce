-- The steps by which arguments are checked against parameters.
use Rattle.std.proofs.Common.{◌≡◌, List, [], ◌∷◌, Result, Ok, Err, length, arith, refl, sym, subst}
use Rattle.sg_reading.specs.Stop.{Reads}
use Rattle.sg_reading.proofs.Steps.{done_reads, then_ok, then_err}
use Rattle.jv_diag.specs.Plain.{DiagOf}
use Rattle.jv_instance.specs.declared.ty.Ty.{Ty}
use Rattle.jv_expr.specs.declared.argument.Argument.{Argument}
use Rattle.jv_expr.specs.Calls.{arguments_fit}
use Rattle.jv_expr.specs.Operators.{assigned_to}
use Rattle.jv_expr.specs.Site.{SiteOf}
use Rattle.jv_expr.proofs.CallSteps.{Need, Replies, call_steps}

module _ (reply : Replies) (site : SiteOf) (ps : List Ty) (as' : List Argument) (ds : List DiagOf) where
  pub no_param : length ps ≡ 0 → Reads reply (arguments_fit site ps as' ds) (Ok ds)
  no_param none = go ps none
    where
      go : (ps : List Ty) → length ps ≡ 0 → Reads reply (arguments_fit site ps as' ds) (Ok ds)
      go [] none = done_reads reply ds ds refl
      go (p ∷ more) none = absurd (omega (arith, none))

  module _ (p : Ty) (more : List Ty) (is : ps ≡ p ∷ more) where
    pub no_argument : length as' ≡ 0 → Reads reply (arguments_fit site ps as' ds) (Ok ds)
    no_argument none = subst (λ (ps : List Ty). Reads reply (arguments_fit site ps as' ds) (Ok ds)) (sym is) (go as' none)
      where
        go : (as' : List Argument) → length as' ≡ 0 → Reads reply (arguments_fit site (p ∷ more) as' ds) (Ok ds)
        go [] none = done_reads reply ds ds refl
        go (a ∷ rest) none = absurd (omega (arith, none))

    module _ (a : Argument) (rest : List Argument) (are : as' ≡ a ∷ rest) where
      here : (x : Result (List DiagOf) Need) → Reads reply (arguments_fit site (p ∷ more) (a ∷ rest) ds) x → Reads reply (arguments_fit site ps as' ds) x
      here x h =
          subst (λ (ps : List Ty). Reads reply (arguments_fit site ps as' ds) x) (sym is)
          (subst (λ (as' : List Argument). Reads reply (arguments_fit site (p ∷ more) as' ds) x) (sym are) h)

      pub next_argument : (ds' : List DiagOf) (x : Result (List DiagOf) Need) → Reads reply (assigned_to site a.at a.ty p ds) (Ok ds') → Reads reply (arguments_fit site more rest ds') x → Reads reply (arguments_fit site ps as' ds) x
      next_argument ds' x g h = here x (then_ok reply (assigned_to site a.at a.ty p ds) (λ ds. arguments_fit site more rest ds) ds' x g h)

      pub argument_unknown : (e : Need) → Reads {U = List DiagOf} reply (assigned_to site a.at a.ty p ds) (Err e) → Reads {U = List DiagOf} reply (arguments_fit site ps as' ds) (Err e)
      argument_unknown e g = here (Err e) (then_err reply (assigned_to site a.at a.ty p ds) (λ ds. arguments_fit site more rest ds) e g)

pub ruleset fit_steps = (call_steps, no_param, no_argument, next_argument, argument_unknown)
