-- The steps by which a bare call looks at the bodies outward.
use Rattle.std.proofs.Common.{◌≡◌, ℕ, ◌+◌, ◌<◌, ◌≤◌, Bool, false, List, [], ◌∷◌, None, Result, Ok, Err, drop, get_or, length, arith, sym, subst}
use Rattle.std.proofs.lemmas.List.{at_drop_more, at_drop_all}
use Rattle.sg_base.specs.declared.scope.Scope.{Scope}
use Rattle.sg_reading.specs.Reading.{and_then}
use Rattle.sg_reading.specs.Stop.{Reads}
use Rattle.sg_reading.proofs.Steps.{done_reads, then_ok, then_err}
use Rattle.jv_diag.specs.declared.codes.TheConstants.{TOO_MANY_PATHS}
use Rattle.jv_diag.specs.Plain.{DiagOf}
use Rattle.jv_instance.specs.declared.ty.Ty.{Ty}
use Rattle.jv_layout.specs.Folder.{LayoutOf}
use Rattle.jv_tree.specs.declared.name.Ident.{Ident}
use Rattle.jv_types.specs.Operators.{bad_type}
use Rattle.jv_names.specs.declared.ends.Ends.{Ends}
use Rattle.jv_names.specs.declared.ends.Ends.TheVariants.{Scopes, TooMany}
use Rattle.jv_names.specs.Members.{methods}
use Rattle.jv_expr.specs.declared.argument.Argument.{Argument}
use Rattle.jv_expr.specs.Calls.{bare_among, bare_in, called_of, imported_call}
use Rattle.jv_expr.specs.Checking.{Checking}
use Rattle.jv_expr.specs.Site.{SiteOf, has_instance, with_named}
use Rattle.jv_expr.proofs.CallSteps.{Need, Replies, call_steps}

module _ (reply : Replies) (site : SiteOf) (i : Ident) (as' : List Argument) (ds : List DiagOf) where
  module _ (bodies : List Scope) (n : ℕ) where
    module _ (b : Scope) (below : n < length bodies) where
      body_here : (x : Result (Ty × List DiagOf) Need) → Reads reply (and_then (methods site.layout (get_or bodies n b) i.id) (bare_among site (get_or bodies n b) i as' ds (bare_in site (drop (n + 1) bodies) i as' ds))) x → Reads reply (bare_in site (drop n bodies) i as' ds) x
      body_here x h = subst (λ (r : Checking Ty). Reads reply r x) (sym (at_drop_more (λ (bs : List Scope). bare_in site bs i as' ds) bodies n b below)) h

      pub body_unknown : (l : LayoutOf) (e : Need) → Reads {U = Ends} reply (methods l (get_or bodies n b) i.id) (Err e) → l ≡ site.layout → Reads {U = Ty × List DiagOf} reply (bare_in site (drop n bodies) i as' ds) (Err e)
      body_unknown l e g is =
          body_here (Err e) (then_err reply (methods site.layout (get_or bodies n b) i.id) (bare_among site (get_or bodies n b) i as' ds (bare_in site (drop (n + 1) bodies) i as' ds)) e
          (subst (λ (l : LayoutOf). Reads {U = Ends} reply (methods l (get_or bodies n b) i.id) (Err e)) is g))

      module _ (l : LayoutOf) (found : Ends) (g : Reads reply (methods l (get_or bodies n b) i.id) (Ok found)) (is : l ≡ site.layout) where
        by_ends : (ends : Ends) (x : Result (Ty × List DiagOf) Need) → found ≡ ends → Reads reply (bare_among site (get_or bodies n b) i as' ds (bare_in site (drop (n + 1) bodies) i as' ds) ends) x → Reads reply (bare_in site (drop n bodies) i as' ds) x
        by_ends ends x e h =
            body_here x (then_ok reply (methods site.layout (get_or bodies n b) i.id) (bare_among site (get_or bodies n b) i as' ds (bare_in site (drop (n + 1) bodies) i as' ds)) found x
            (subst (λ (l : LayoutOf). Reads reply (methods l (get_or bodies n b) i.id) (Ok found)) is g)
            (subst (λ (k : Ends). Reads reply (bare_among site (get_or bodies n b) i as' ds (bare_in site (drop (n + 1) bodies) i as' ds) k) x) (sym e) h))

        pub too_many : (t : Ty) (ds' : List DiagOf) → found ≡ TooMany → t ≡ bad_type → ds' ≡ with_named site i TOO_MANY_PATHS ds → Reads reply (bare_in site (drop n bodies) i as' ds) (Ok (t, ds'))
        too_many t ds' e bad more = by_ends TooMany (Ok (t, ds')) e (done_reads reply (bad_type, with_named site i TOO_MANY_PATHS ds) (t, ds') (λ j. (sym bad j, sym more j)))

        pub next_body : (ms : List Scope) (x : Result (Ty × List DiagOf) Need) → found ≡ Scopes ms → length ms ≡ 0 → Reads reply (bare_in site (drop (n + 1) bodies) i as' ds) x → Reads reply (bare_in site (drop n bodies) i as' ds) x
        next_body ms x e none h = by_ends (Scopes ms) x e (go ms none)
          where
            go : (ms : List Scope) → length ms ≡ 0 → Reads reply (bare_among site (get_or bodies n b) i as' ds (bare_in site (drop (n + 1) bodies) i as' ds) (Scopes ms)) x
            go [] none = h
            go (m ∷ more) none = absurd (omega (arith, none))

        pub this_body : (ms ms' : List Scope) (free : Bool) (x : Result (Ty × List DiagOf) Need) → found ≡ Scopes ms → 0 < length ms → ms' ≡ ms → free ≡ has_instance site (get_or bodies n b)
            → Reads reply (called_of site (record { through = None; free = free; concrete = false; on_value = false }) i as' ms' ds) x → Reads reply (bare_in site (drop n bodies) i as' ds) x
        this_body ms ms' free x e some are held h =
            by_ends (Scopes ms) x e
            (go ms some (subst (λ (f : Bool). Reads reply (called_of site (record { through = None; free = f; concrete = false; on_value = false }) i as' ms ds) x) held
            (subst (λ (ks : List Scope). Reads reply (called_of site (record { through = None; free = free; concrete = false; on_value = false }) i as' ks ds) x) are h)))
          where
            go : (ms : List Scope) → 0 < length ms → Reads reply (called_of site (record { through = None; free = has_instance site (get_or bodies n b); concrete = false; on_value = false }) i as' ms ds) x → Reads reply (bare_among site (get_or bodies n b) i as' ds (bare_in site (drop (n + 1) bodies) i as' ds) (Scopes ms)) x
            go [] some h = absurd (omega (arith, some))
            go (m ∷ more) some h = h

    -- past the bodies, a method that imports bring
    pub no_body : (x : Result (Ty × List DiagOf) Need) → length bodies ≤ n → Reads reply (imported_call site i as' ds) x → Reads reply (bare_in site (drop n bodies) i as' ds) x
    no_body x past h = subst (λ (r : Checking Ty). Reads reply r x) (sym (at_drop_all (λ (bs : List Scope). bare_in site bs i as' ds) bodies n past)) h

pub ruleset bare_steps = (call_steps, body_unknown, too_many, next_body, this_body, no_body)
