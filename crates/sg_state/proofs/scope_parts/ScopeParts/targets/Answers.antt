use Rattle.std.proofs.Common.{sym}
use Rattle.sg_base.proofs.Finite.{nothing_in}
use Rattle.sg_state.proofs.ByHash.{part_has, none_has}
use Rattle.sg_state.proofs.scope_parts.ScopeParts.targets.Goals as goal

pub returns-in-Some-clause-exact : goal.returns-in-Some-clause-exact
returns-in-Some-clause-exact c =
    rw c.as_slice.ensures.all (part_has c.args.self.now.all.items c.requires.parts.once c.args.part (c.index.result.now).1 (sym (c.in-Some.ensures.found.found c.index.result.now c.index.ensures)))

pub returns-in-None-clause-exact : goal.returns-in-None-clause-exact
returns-in-None-clause-exact c = λ t. ((λ h. absurd (nothing_in t h)), (λ h. absurd (none_has c.args.self.now.all.items c.requires.parts.once c.args.part t (sym c.in-None.ensures.none) h)))
