use Rattle.std.proofs.Common.{◌≡◌, None, sym, subst}
use Rattle.std.specs.Map.{lookup}
use Rattle.sg_base.specs.declared.scope.Scope.{Scope}
use Rattle.sg_base.specs.Scope.{is_scope}
use Rattle.sg_base.proofs.Finite.{nothing_in}
use Rattle.sg_state.proofs.OwnParts.{are_parts, has_here, none_at_scope}
use Rattle.sg_state.proofs.parts.Parts.targets.Goals as goal

pub targets-requires : goal.targets-requires
targets-requires c = record { parts = are_parts c.self.inside.found.all.items c.self.invariant.0 c.scope.result (c.index.result.now).1 (c.in-Some.ensures.found.found c.index.result.now c.index.ensures) }

pub returns-in-Some-clause-exact : goal.returns-in-Some-clause-exact
returns-in-Some-clause-exact c =
    rw (← c.self.view_is) (λ t.
    let k = c.targets.ensures.exact t in
    let h = has_here c.self.inside.found.all.items c.self.invariant.0 c.scope.result (c.index.result.now).1 (c.in-Some.ensures.found.found c.index.result.now c.index.ensures) c.args.part (sym c.scope.ensures) t in
    ((λ x. h.0 (k.0 x)), (λ x. k.1 (h.1 x))))

pub returns-in-None-clause-exact : goal.returns-in-None-clause-exact
returns-in-None-clause-exact c =
    let none = none_at_scope c.self.inside.found.all.items c.self.invariant.0 c.args.part (subst (λ (r : Scope). lookup (is_scope r) c.self.inside.found.all.items ≡ None) c.scope.ensures c.in-None.ensures.none) in
    rw (← c.self.view_is) (λ t. ((λ h. absurd (nothing_in t h)), (λ h. absurd (none t h))))
