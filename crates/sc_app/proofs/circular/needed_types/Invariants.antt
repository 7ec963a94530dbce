use Rattle.std.proofs.Common.{◌↔◌, take}
use Rattle.std.specs.List.{Contains}
use Rattle.sg_base.specs.declared.scope.Scope.{Scope}
use Rattle.sg_state.specs.declared.need.Need.TheVariants.{Row}
use Rattle.jv_instance.specs.declared.labels.TheConstants.{EXT}
use Rattle.sc_app.proofs.circular.needed_types.Given as goal

-- the types of the needs so far
abbrev pub invariant-loop-need : goal.invariant-loop-need
invariant-loop-need l = (s : Scope) → (Contains l.types.items s) ↔ (Contains (take l.need-index l.needs) (Row s EXT))
