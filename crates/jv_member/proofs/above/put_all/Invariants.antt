use Rattle.std.proofs.Common.{◌≡◌, fold, drop}
use Rattle.sg_base.specs.Scope.{scope_cmp}
use Rattle.sg_state.specs.Held.{put}
use Rattle.jv_member.proofs.above.put_all.Given as goal

abbrev pub invariant-loop-method : goal.invariant-loop-method
invariant-loop-method l = fold (put scope_cmp) l.fn.methods l.fn.more ≡ fold (put scope_cmp) l.methods (drop l.method-index l.more)
