use Rattle.std.proofs.Common.{◌≡◌, [], fold, length}
use Rattle.sg_base.specs.List.{IsRising}
use Rattle.sg_base.specs.Scope.{scope_cmp}
use Rattle.sg_state.specs.Held.{put}
use Rattle.jv_names.specs.Ends.{counted_ends}
use Rattle.jv_names.proofs.answers.ends_of.Given as goal

abbrev pub invariant-loop-end : goal.invariant-loop-end
invariant-loop-end l = record {
  rising : IsRising scope_cmp l.found;
  rest : fold (put scope_cmp) [] (counted_ends l.l l.fn.counts l.paths) ≡ fold (put scope_cmp) l.found l.ends;
}

abbrev pub decreases-loop-end : goal.decreases-loop-end
decreases-loop-end l = length l.ends
