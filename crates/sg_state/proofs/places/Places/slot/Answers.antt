use Rattle.std.proofs.Common.{sym}
use Rattle.sg_base.specs.Scope.{scope_cmp, scope_total}
use Rattle.sg_base.proofs.Scopes.{equal_scope}
use Rattle.sg_state.proofs.Changing.{key_found}
use Rattle.sg_state.proofs.Keyed.{found-Contains}
use Rattle.sg_state.proofs.places.Places.slot.Goals as goal

pub returns-in-Some-clause-found : goal.returns-in-Some-clause-found
returns-in-Some-clause-found g c = (c.in-Some.place.now, found-Contains scope_cmp scope_total equal_scope c.args.self.now.entries c.args.s c.in-Some.place.now c.in-Some.ensures, sym c.slot.ensures)

pub returns-in-None-clause-none : goal.returns-in-None-clause-none
returns-in-None-clause-none g c = λ h. key_found c.args.self.now.entries c.args.s h c.in-None.ensures
