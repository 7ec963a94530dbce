use Rattle.std.proofs.Common.{refl, sym, subst}
use Rattle.sg_state.specs.declared.part.Part.{Part}
use Rattle.sg_state.specs.Part.{HasIn}
use Rattle.sg_state.proofs.ByHash.{part_loses, none_has}
use Rattle.sg_state.proofs.FewParts.{parts_written}
use Rattle.sg_state.proofs.scope_parts.ScopeParts.take.Goals as goal

pub returns-in-Some-clause-loses : goal.returns-in-Some-clause-loses
returns-in-Some-clause-loses c =
    rw (c.in-Some.ensures.found.written c.index_mut.result.now c.remove.new.self c.index_mut.ensures.value) (part_loses c.args.self.now.all.items c.requires.parts.once c.args.part (c.index_mut.result.now).1 (sym (c.in-Some.ensures.found.found c.index_mut.result.now c.index_mut.ensures.value)) c.remove.new.self c.args.to c.remove.ensures.left)

pub returns-in-Some-clause-parts : goal.returns-in-Some-clause-parts
returns-in-Some-clause-parts c = parts_written c.args.self.now c.requires.parts c.args.part c.remove.new.self _ (c.in-Some.ensures.found.written c.index_mut.result.now c.remove.new.self c.index_mut.ensures.value) refl

pub returns-in-None-clause-loses : goal.returns-in-None-clause-loses
returns-in-None-clause-loses c = λ q x. (
  (λ h. ((λ e. none_has c.args.self.now.all.items c.requires.parts.once c.args.part x (sym c.in-None.ensures.none) (subst (λ (y : Part). HasIn c.args.self.now.all.items y x) e.0 h)), h)),
  (λ h. h.1),
)
