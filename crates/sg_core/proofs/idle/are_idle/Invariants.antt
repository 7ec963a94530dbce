use Rattle.std.proofs.Common.{take}
use Rattle.std.specs.List.{Contains}
use Rattle.sg_base.specs.declared.scope.Scope.{Scope}
use Rattle.sg_core.specs.Keep.{IsIdleAt}
use Rattle.sg_core.proofs.idle.are_idle.Given as goal

abbrev pub invariant-loop-s : goal.invariant-loop-s
invariant-loop-s g l = (x : Scope) → Contains (take l.s-index l.scopes) x → IsIdleAt l.held x
