use Rattle.std.proofs.Common.{◌≡◌, drop, fold}
use Rattle.sg_base.specs.List.{IsRising}
use Rattle.sg_base.specs.Scope.{scope_cmp}
use Rattle.sg_state.specs.Held.{put}
use Rattle.jv_names.proofs.statics.with_all.Given as goal

abbrev pub invariant-loop-scope : goal.invariant-loop-scope
invariant-loop-scope l = record {
  rising : IsRising scope_cmp l.scopes;
  rest : fold (put scope_cmp) l.scopes (drop l.scope-index l.more) ≡ fold (put scope_cmp) l.fn.found l.more;
}
