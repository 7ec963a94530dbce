use Rattle.std.proofs.Common.{◌≡◌, None, sym, subst}
use Rattle.std.specs.List.{flat_map}
use Rattle.std.specs.Map.{lookup}
use Rattle.sg_base.specs.declared.scope.Scope.{Scope}
use Rattle.sg_base.specs.Scope.{is_scope}
use Rattle.sg_state.specs.declared.part.Part.{Part}
use Rattle.sg_state.specs.Part.{HasIn}
use Rattle.sg_state.specs.ScopeParts.{parts_at}
use Rattle.sg_state.proofs.ByPlace.{indexed_written}
use Rattle.sg_state.proofs.OwnParts.{are_parts, own_loses, all_loses, none_at_scope}
use Rattle.sg_state.proofs.parts.Parts.take.Goals as goal

pub take-requires : goal.take-requires
take-requires c = record { parts = are_parts c.self.inside.found.all.items c.self.invariant.0 c.scope.result (c.index_mut.result.now).1 (c.in-Some.ensures.found.found c.index_mut.result.now c.index_mut.ensures.value) }

pub invariant_of-self : goal.invariant_of-self
invariant_of-self c =
    rw (c.in-Some.ensures.found.written c.index_mut.result.now c.take.new.self c.index_mut.ensures.value) (
      own_loses c.self.inside.found.all.items c.self.invariant.0 c.scope.result (c.index_mut.result.now).1 (c.in-Some.ensures.found.found c.index_mut.result.now c.index_mut.ensures.value) c.take.new.self c.take.ensures.parts c.args.part c.args.to (sym c.scope.ensures) c.take.ensures.loses,
      indexed_written c.self.inside.found.index c.self.inside.found.all.items c.self.invariant.1 c.scope.result c.take.new.self,
    )

pub returns-in-Some : goal.returns-in-Some
returns-in-Some c =
    rw ((c.in-Some.ensures.found.written c.index_mut.result.now c.take.new.self c.index_mut.ensures.value), ← c.self.view_is) (all_loses c.self.inside.found.all.items c.self.invariant.0 c.scope.result (c.index_mut.result.now).1 (c.in-Some.ensures.found.found c.index_mut.result.now c.index_mut.ensures.value) c.take.new.self c.take.ensures.parts c.args.part c.args.to (sym c.scope.ensures) c.take.ensures.loses)

pub returns-in-None : goal.returns-in-None
returns-in-None c =
    let none = none_at_scope c.self.inside.found.all.items c.self.invariant.0 c.args.part (subst (λ (r : Scope). lookup (is_scope r) c.self.inside.found.all.items ≡ None) c.scope.ensures c.in-None.ensures.none) in
    rw (← c.self.view_is) (λ q x. (
      (λ h. ((λ e. none x (subst (λ (y : Part). HasIn (flat_map parts_at c.self.inside.found.all.items) y x) e.0 h)), h)),
      (λ h. h.1),
    ))
