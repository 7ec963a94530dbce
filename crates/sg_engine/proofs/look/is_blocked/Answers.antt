use Rattle.std.proofs.Common.{◌≡◌, ℕ, Bool, true, false, not, refl, sym, ap, ◌∙◌, subst, inl, inr, Option, Some, None, IfSome, IfNone}
use Rattle.std.specs.Option.{is_some}
use Rattle.sg_base.specs.declared.scope.Scope.{Scope}
use Rattle.sg_base.specs.declared.step.Step.{Step}
use Rattle.sg_base.specs.State.{IsOpen, IsUnset}
use Rattle.sg_state.specs.Held.{HeldOf, HoldsDatum, state_of}
use Rattle.sg_state.proofs.Extending.{unset_to}
use Rattle.sg_engine.specs.declared.work.Work.{Work}
use Rattle.sg_engine.specs.Tree.{BlocksWork}
use Rattle.sg_engine.proofs.Looking.{open_or_shut}
use Rattle.sg_engine.proofs.look.is_blocked.Goals as goal

not_true : (b : Bool) → not b ≡ true → b ≡ true → ⊥
not_true true h k = absurd (cc)
not_true false h k = absurd (cc)

not_false : (b : Bool) → not b ≡ false → b ≡ true
not_false true h = refl
not_false false h = absurd (cc)

held_one : {D : Type 0} (h : HeldOf D) (s : Scope) (o : Option ℕ) → IfSome o (λ u. HoldsDatum h u s) → is_some o ≡ true → IsUnset (state_of h) s
held_one h s None k e = absurd (cc)
held_one h s (Some u) k e = unset_to h u s k

held_none : {D : Type 0} (h : HeldOf D) (s : Scope) (o : Option ℕ) → IfNone o (IsUnset (state_of h) s → ⊥) → is_some o ≡ false → IsUnset (state_of h) s → ⊥
held_none h s None k e = k
held_none h s (Some u) k e = absurd (cc)

pub returns-in-Next-clause-blocked : goal.returns-in-Next-clause-blocked
returns-in-Next-clause-blocked g c = λ e start nodes said.
    let h = state_of c.args.h.now in
    let at = (nodes c.in-Next.k c.at.ensures.0 (rw c.in-Next.is at c.requires.there) c.at.ensures.1).ends ∙ ap (λ (x : Step). x.to) (sym c.at.ensures.3) in
    elim (open_or_shut h.open_rows c.at.result.now.step.to c.in-Next.l) [
      | inl k ↦ subst (λ (w : Work). BlocksWork h start c.args.nodes.now.items w) (sym c.in-Next.is) (subst (λ (s : Scope). IsOpen h s c.in-Next.l) (sym at) k)
      | inr n ↦ absurd (not_true c.is_closed.result said (c.is_closed.ensures.1 n))
    ]

pub returns-in-Next-clause-free : goal.returns-in-Next-clause-free
returns-in-Next-clause-free g c = λ e start nodes said b.
    let h = state_of c.args.h.now in
    let at = (nodes c.in-Next.k c.at.ensures.0 (rw c.in-Next.is at c.requires.there) c.at.ensures.1).ends ∙ ap (λ (x : Step). x.to) (sym c.at.ensures.3) in
    c.is_closed.ensures.0 (not_false c.is_closed.result said) (subst (λ (s : Scope). IsOpen h s c.in-Next.l) at (subst (λ (w : Work). BlocksWork h start c.args.nodes.now.items w) c.in-Next.is b))

pub returns-in-Whole-clause-blocked : goal.returns-in-Whole-clause-blocked
returns-in-Whole-clause-blocked g c = λ e start nodes said.
    let h = state_of c.args.h.now in
    let at = (nodes c.in-Whole.k c.at-in-Whole.ensures.0 (rw c.in-Whole.is at c.requires.there) c.at-in-Whole.ensures.1).ends ∙ ap (λ (x : Step). x.to) (sym c.at-in-Whole.ensures.3) in
    subst (λ (w : Work). BlocksWork h start c.args.nodes.now.items w) (sym c.in-Whole.is) (subst (λ (s : Scope). IsUnset h s) (sym at) (held_one c.args.h.now c.at-in-Whole.result.now.step.to c.datum_holder.result c.datum_holder.ensures.found (sym c.is_some.ensures ∙ said)))

pub returns-in-Whole-clause-free : goal.returns-in-Whole-clause-free
returns-in-Whole-clause-free g c = λ e start nodes said b.
    let h = state_of c.args.h.now in
    let at = (nodes c.in-Whole.k c.at-in-Whole.ensures.0 (rw c.in-Whole.is at c.requires.there) c.at-in-Whole.ensures.1).ends ∙ ap (λ (x : Step). x.to) (sym c.at-in-Whole.ensures.3) in
    held_none c.args.h.now c.at-in-Whole.result.now.step.to c.datum_holder.result c.datum_holder.ensures.none (sym c.is_some.ensures ∙ said) (subst (λ (s : Scope). IsUnset h s) at (subst (λ (w : Work). BlocksWork h start c.args.nodes.now.items w) c.in-Whole.is b))
