-- The steps by which one of several methods is chosen.
use Rattle.std.proofs.Common.{◌≡◌, ℕ, ◌+◌, ◌<◌, List, [], ◌∷◌, ◌++◌, Option, Some, None, Result, Ok, Err, drop, get_or, length, arith, refl, sym, ap, ◌∙◌, subst}
use Rattle.sg_base.specs.declared.scope.Scope.{Scope}
use Rattle.sg_reading.specs.Reading.{and_then, each}
use Rattle.sg_reading.specs.Stop.{Reads}
use Rattle.sg_reading.proofs.Lists.{each_after, each_more, each_err, each_reads, each_end}
use Rattle.sg_reading.proofs.Steps.{done_reads, then_ok, then_err, reading_steps}
use Rattle.jv_instance.specs.declared.ty.Ty.{Ty}
use Rattle.jv_layout.specs.Folder.{LayoutOf}
use Rattle.jv_names.specs.Chosen.{first_concrete, first_fitting}
use Rattle.jv_expr.specs.Calls.{chosen, chosen_abstract, chosen_of, result_type}
use Rattle.jv_expr.proofs.CallSteps.{Need, Replies}

-- ---- the results of methods

module _ (reply : Replies) (l : LayoutOf) (ts : List Ty) (ms : List Scope) (i : ℕ) (m : Scope) (below : i < length ms) where
  pub results_more : (t : Ty) (x : Result (List Ty) Need) → Reads reply (result_type l (get_or ms i m)) (Ok t) → Reads reply (each_after (result_type l) (ts ++ t ∷ []) (drop (i + 1) ms)) x → Reads reply (each_after (result_type l) ts (drop i ms)) x
  results_more t x g h = each_more reply (result_type l) ts ms i m below t x g h

  pub results_unknown : (e : Need) → Reads {U = Ty} reply (result_type l (get_or ms i m)) (Err e) → Reads {U = List Ty} reply (each_after (result_type l) ts (drop i ms)) (Err e)
  results_unknown e g = each_err reply (result_type l) ts ms i m below e g

-- ---- the one that is called

module _ (reply : Replies) (l : LayoutOf) (m : Scope) (ms : List Scope) where
  pub only_one : length ms ≡ 0 → Reads reply (chosen l m ms) (Ok m)
  unfolding chosen
  only_one none = go ms none
    where
      go : (ms : List Scope) → length ms ≡ 0 → Reads reply (chosen_of l m ms) (Ok m)
      go [] none = done_reads reply m m refl
      go (k ∷ ks) none = absurd (omega (arith, none))

  module _ (all : List Scope) (is : all ≡ m ∷ ms) (some : 0 < length ms) where
    several : (o : Option Scope) (x : Result Scope Need) → first_concrete l all ≡ o → Reads reply (chosen_abstract l m ms o) x → Reads reply (chosen l m ms) x
    unfolding chosen
    several o x e h = go ms some (sym (ap (λ (all : List Scope). first_concrete l all) is) ∙ e) h
      where
        go : (ms : List Scope) → 0 < length ms → first_concrete l (m ∷ ms) ≡ o → Reads reply (chosen_abstract l m ms o) x → Reads reply (chosen_of l m ms) x
        go [] some e h = absurd (omega (arith, some))
        go (k ∷ ks) some e h = subst (λ (o : Option Scope). Reads reply (chosen_abstract l m (k ∷ ks) o) x) (sym e) h

    pub concrete_one : (k : Scope) → first_concrete l all ≡ Some k → Reads reply (chosen l m ms) (Ok k)
    concrete_one k e = several (Some k) (Ok k) e (done_reads reply k k refl)

    module _ (none : first_concrete l all ≡ None) where
      pub fitting_one : (ts : List Ty) (x : Result Scope Need) → Reads reply (each (result_type l) all) (Ok ts) → Reads reply (first_fitting l ts m all ts) x → Reads reply (chosen l m ms) x
      fitting_one ts x g h =
          several None x none (subst (λ (all : List Scope). Reads reply (and_then (each (result_type l) all) (λ ts. first_fitting l ts m all ts)) x) is
          (then_ok reply (each (result_type l) all) (λ ts. first_fitting l ts m all ts) ts x g h))

      pub one_unknown : (e : Need) → Reads {U = List Ty} reply (each (result_type l) all) (Err e) → Reads {U = Scope} reply (chosen l m ms) (Err e)
      one_unknown e g =
          several None (Err e) none (subst (λ (all : List Scope). Reads {U = Scope} reply (and_then (each (result_type l) all) (λ ts. first_fitting l ts m all ts)) (Err e)) is
          (then_err reply (each (result_type l) all) (λ ts. first_fitting l ts m all ts) e g))

pub ruleset result_steps = (reading_steps, results_more, results_unknown, each_reads, each_end)

pub ruleset choosing_steps = (reading_steps, only_one, concrete_one, fitting_one, one_unknown)
